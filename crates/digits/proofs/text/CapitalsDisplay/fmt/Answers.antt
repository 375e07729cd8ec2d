-- One byte more, and the end.
use Rattle.std.proofs.Common.{ap, arith, rules}
use Rattle.std.proofs.Output.{has_written_append, has_written_of_eq}
use Rattle.std.proofs.lemmas.List.{take_all}
use Rattle.digits.specs.Pairs.{capital_hex}
use Rattle.digits.proofs.TextLaws.{capital_more}
use Rattle.digits.proofs.text.CapitalsDisplay.fmt.Goals as goal

pub loop-b-preserved : goal.loop-b-preserved
loop-b-preserved g c = λ plain.
    has_written_of_eq _ _ _ _ _ (capital_more c.args.self.now.0.now c.loop-b.b-index c.loop-b-test.true (omega arith)) (has_written_append _ _ _ _ _ _ (c.loop-b.invariant plain) (search rules))

pub returns-clause-writes : goal.returns-clause-writes
returns-clause-writes g c = λ plain _.
    has_written_of_eq _ _ _ _ _ (ap capital_hex (take_all c.loop-b.b-index c.args.self.now.0.now c.loop-b-test.false)) (c.loop-b.invariant plain)
