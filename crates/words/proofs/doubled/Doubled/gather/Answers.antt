-- Each turn puts four bits above the others.
use Rattle.std.proofs.Common.{◌≡◌, ℕ, ◌+◌, ◌*◌, ◌%◌, ◌<◌, sym, ap, ◌∙◌, mul-add, arith}
use Rattle.duplex.specs.State.{at}
use Rattle.words.specs.Packing.{state_of_words, number_from}
use Rattle.words.proofs.ModLaws.{sum_mod}
use Rattle.words.proofs.ReadLaws.{bits_more, bits_or}
use Rattle.words.proofs.StretchLaws.{at_mod}
use Rattle.words.specs.StateLaw.{words-state}
use Rattle.words.proofs.doubled.Doubled.gather.Goals as goal

pub loop-j-preserved : goal.loop-j-preserved
loop-j-preserved c =
    let s = state_of_words c.args.self.now.array in
    let a = c.args.start.value in
    let d = c.args.c.value in
    let j = 4 * c.loop-j.j in
    let from = c.loop-j.from.value in
    let is = c.loop-j.invariant in
    let f : ℕ → ℕ = λ i. at s (a + d * i) in
    let binary : (i : ℕ) → f i < 2 = λ i. (words-state c.args.self.now.array).binary ((a + d * i) % 257) in
    let one : d ≡ d % 257 = omega (arith, c.args.c.below) in
    let two = c.plus-two.ensures in
    let three = c.plus-three.ensures ∙ sum_mod (d + d) d _ d two one in
    let four = c.plus-four.ensures ∙ sum_mod (d + d) (d + d) _ _ two two in
    let place : (i x b : ℕ) → x ≡ b % 257 → b ≡ d * i → (from + x) % 257 ≡ (a + d * (j + i)) % 257 =
    λ i x b p e. sum_mod (a + d * j) b from x is.0 p ∙ ap (λ n. n % 257) (omega (arith, e, mul-add d j i)) in
    let bit : (i x b : ℕ) → x ≡ b % 257 → b ≡ d * i → at s (from + x) ≡ f (j + i) = λ i x b p e. at_mod s (from + x) (a + d * (j + i)) (place i x b p e) in
    let zeroth : at s from ≡ f j = ap (at s) (omega arith) ∙ (bit 0 0 0 (omega arith) (omega arith) ∙ ap f (omega arith)) in
    let more = bits_more f binary in
    let digit = more 3 j _ _ (omega arith) (more 2 j _ _ (omega arith) (more 1 j c.bit.result _ (omega arith) (omega (arith, c.bit.ensures, zeroth)) (c.bit-in-loop-j.ensures ∙ bit 1 d d one (omega arith)))
    (c.bit-in-loop-j-2.ensures ∙ bit 2 _ (d + d) two (omega arith))) (c.bit-in-loop-j-3.ensures ∙ bit 3 _ (d + d + d) three (omega arith)) in
    let next : 4 * (c.loop-j.j + 1) ≡ j + 4 = omega arith in (
      c.plus-from.ensures ∙ (place 4 _ (d + d + (d + d)) four (omega arith) ∙ ap (λ n. (a + d * n) % 257) (sym next)),
      bits_or f binary j 4 0 _ _ (omega arith) is.1 (digit ∙ ap (λ k. number_from f k 4) (omega arith)) ∙ ap (number_from f 0) (sym next),
    )

pub returns : goal.returns
returns c =
    let s = state_of_words c.args.self.now.array in
    let e : c.loop-j.j ≡ 8 = omega arith in
    record {
      bits = c.loop-j.invariant.1 ∙ ap (λ n. number_from (λ i. at s (c.args.start.value + c.args.c.value * i)) 0 (4 * n)) e;
      next = c.loop-j.invariant.0 ∙ ap (λ n. (c.args.start.value + c.args.c.value * (4 * n)) % 257) e;
    }
