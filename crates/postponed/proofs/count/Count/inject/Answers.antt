-- The lowest 33 bits, turned by the quotient, in a row at the remainder.
use Rattle.std.proofs.Common.{arith}
use Rattle.std.proofs.lemmas.Nat.{and_mask}
use Rattle.words.specs.Packing.{state_of_words}
use Rattle.postponed.proofs.ScatterLaws.{count_added}
use Rattle.postponed.proofs.count.Count.inject.Goals as goal

pub returns-else-block-lt512 : goal.returns-else-block-lt512
returns-else-block-lt512 c =
    let s = state_of_words c.args.words.now.array in
    let n = c.args.self in
    count_added s _ n.value _ c.args.block _ _ (and_mask c.args.block 33) c.rotate_left-row.ensures c.add_row_at.ensures n.low (omega (arith, n.low))
