-- The entry at the count.
use Rattle.std.proofs.Common.{◌<◌, get_or, sym, ap, ◌∙◌, subst}
use Rattle.postponed.proofs.PowerLaws.{getD_powers, power_below}
use Rattle.postponed.proofs.count.Count.power.Goals as goal

pub invariant_of-result : goal.invariant_of-result
invariant_of-result c = record { below = subst (λ x. x < 257) (sym c.from.ensures) (power_below _ _ c.powers.ensures.value) }

pub returns : goal.returns
returns c =
    let n = c.args.self.value in
    c.from.ensures ∙ (ap (λ t. get_or t n 0) c.powers.ensures.value ∙ getD_powers n c.args.self.low)
