-- The table has the positions, each below 257 and not 0.
use Rattle.std.proofs.Common.{◌<◌, get_or, sym, ap, ◌∙◌, subst, arith}
use Rattle.duplex.proofs.StepLaws.{getD_positions, position_range, position_below}
use Rattle.words.proofs.packed.UnmovedPlaces.place.Goals as goal

pub invariant_of-result : goal.invariant_of-result
invariant_of-result c = record { below = position_below _ _ c.positions.ensures }

pub returns : goal.returns
returns c =
    let j = c.args.index.number in
    let is = ap (λ t. get_or t j 0) c.positions.ensures ∙ getD_positions j c.args.index.low in
    let range = position_range j c.args.index.low in
    record { value = is ∙ omega arith; nonzero = subst (λ n. 0 < n) (sym is) range.0 }
