-- One bit at the place of the position, and one opposite to it.
use Rattle.std.proofs.Common.{◌≡◌, ◌-◌, ◌*◌, ◌%◌, get_or, sym, ap, ◌∙◌, arith}
use Rattle.duplex.specs.State.{at, position}
use Rattle.duplex.proofs.StepLaws.{position_range}
use Rattle.words.specs.Packing.{state_of_words, stretch}
use Rattle.words.proofs.ModLaws.{opposite_mul}
use Rattle.words.proofs.StretchLaws.{at_stretch}
use Rattle.words.proofs.vector.Words.read_one.Goals as goal

pub returns : goal.returns
returns g c =
    let s = state_of_words c.args.self.now.array in
    let k = g.P.Places.factor c.args.places.now in
    let p = position c.args.j in
    let place = c.place-place.ensures.value in
    let q = c.place-place.result.value in
    let far : 257 - q ≡ k * (257 - p) % 257 =
    let low : 257 - q ≡ (257 - q) % 257 = omega (arith, c.place-place.ensures.nonzero) in
    low ∙ (ap (λ n. (257 - n) % 257) place ∙ opposite_mul k p (position_range c.args.j (omega arith)).1) in
    let here : c.bit.result ≡ at (stretch k s) p = c.bit.ensures ∙ (ap (λ n. get_or s n 0) place ∙ sym (at_stretch k s p)) in
    let there : c.bit-2.result ≡ at (stretch k s) (257 - p) = c.bit-2.ensures ∙ (ap (λ n. get_or s n 0) far ∙ sym (at_stretch k s (257 - p))) in
    cc
