-- The bit of the word that changes is the bit of the state that changes.
use Rattle.std.proofs.Common.{ℕ, ◌/◌, ◌<◌, ap, ◌∙◌, arith, length-set}
use lib.Bits.{bit_and}
use Rattle.std.proofs.lemmas.Nat.{and_mask}
use Rattle.duplex.specs.State.{add_at}
use Rattle.words.specs.Packing.{state_of_words}
use Rattle.words.proofs.WordLaws.{words_added, spare_added}
use Rattle.words.proofs.vector.Words.add_bit.Goals as goal

low_bit : (b : ℕ) → bit_and b 1 < 2
low_bit b = omega (arith, and_mask b 1)

pub invariant_of-self : goal.invariant_of-self
invariant_of-self c =
    let w = c.args.self.now in
    let p = c.args.p.value in
    record { width = length-set w.array (p / 32) _ ∙ w.width; spare = spare_added w.array p _ (omega arith) w.width (low_bit c.args.b) w.spare }

pub returns : goal.returns
returns c =
    let w = c.args.self.now in
    let p = c.args.p.value in
    let b = c.args.b in
    words_added w.array p _ (omega arith) w.width (low_bit b) ∙ ap (add_at (state_of_words w.array) p) (and_mask b 1)
