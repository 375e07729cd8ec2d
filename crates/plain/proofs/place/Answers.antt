-- The table has position j at j, and every position is from 1 to 256.
use Rattle.std.proofs.Common.{◌≡◌, ◌<◌, get_or, sym, ap, ◌∙◌, subst}
use Rattle.duplex.specs.State.{position}
use Rattle.duplex.proofs.StepLaws.{getD_positions, position_range}
use Rattle.plain.proofs.place.Goals as goal

pub returns : goal.returns
returns c =
    let j = c.args.j in
    let value : get_or c.positions.result.now j 0 ≡ position j = ap (λ t. get_or t j 0) c.positions.ensures ∙ getD_positions j c.requires in
    let range = position_range j c.requires in
    record {
      value = value;
      inside = (subst (λ p. 0 < p) (sym value) range.0, subst (λ p. p < 257) (sym value) range.1);
    }
