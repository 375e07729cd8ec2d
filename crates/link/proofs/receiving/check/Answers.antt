-- The four bytes of the number, compared last.
use Rattle.std.proofs.Common.{arith}
use Rattle.std.proofs.lemmas.Grind.{common_steps}
use Rattle.link.specs.Calls.{checked}
use Rattle.link.proofs.receiving.check.Goals as goal

pub returns-then-ne : goal.returns-then-ne
unfolding checked
returns-then-ne c = grind (arith, common_steps)

pub returns : goal.returns
unfolding checked
returns c = grind (arith, common_steps)
