-- The product of the power and the position; a power of 12 is never 0.
use Rattle.std.proofs.Common.{◌≡◌, ◌+◌, ◌*◌, ◌^◌, ◌<◌, sym, ◌∙◌, subst, arith}
use Rattle.duplex.proofs.StepLaws.{position_below}
use Rattle.words.specs.Packing.{place_by}
use Rattle.postponed.proofs.PowerLaws.{place_power, place_product, power_more}
use Rattle.postponed.proofs.count.CountPlaces.place.Goals as goal

pub invariant_of-times : goal.invariant_of-times
invariant_of-times c = record { below = position_below _ _ c.positions.ensures }

pub returns : goal.returns
returns c =
    let n = c.args.self.now.value in
    let j = c.args.index.number in
    let is : c.times.result.value ≡ place_by (12 ^ n) j =
    place_product n j _ _ _ _ c.positions.ensures c.times.ensures c.power.ensures (omega arith) c.args.index.low in
    record {
      value = is;
      nonzero = subst (λ x. 0 < x) (sym (is ∙ place_power n j)) (power_more (n + 4 * j));
    }
