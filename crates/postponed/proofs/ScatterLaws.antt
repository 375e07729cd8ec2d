-- A row of 64 bits added at its 64 places, and a block's bits rotated in such a row.
use Rattle.std.proofs.Common.{◌≡◌, ℕ, ◌+◌, ◌-◌, ◌*◌, ◌/◌, ◌%◌, ◌^◌, ◌<◌, List, sym, refl, ap, ◌∙◌, ⊎_elim, arith}
use lib.Bits.{bit_or}
use Rattle.std.proofs.Math.Nat.{mod-lt, div-eq_of_lt}
use Rattle.std.specs.List.{range_with_len}
use Rattle.std.proofs.lemmas.Bool.{cases_eq}
use Rattle.duplex.specs.State.{bit, add_bits}
use Rattle.duplex.proofs.BitLaws.{bit_cut, bit_shr}
use Rattle.words.specs.Packing.{place_by, inject_by, add_word_by}
use Rattle.words.proofs.AddLaws.{Agree, add_bits-comm, add_bits-join, add_bits-all, add_bits-same}
use Rattle.postponed.specs.Powers.{power_of_12}
use Rattle.postponed.specs.Rows.{row_added}
use Rattle.postponed.proofs.PowerLaws.{turned, place_power}
use Rattle.postponed.proofs.TurnLaws.{turn, left_turn, bit_turn_low, bit_turn_high}

-- the 64 places of a row
abbrev ring_place : ℕ → ℕ → ℕ
ring_place r k = power_of_12 (r + 4 * k)

all_added : (r z : ℕ) (s : List ℕ) → row_added r s z ≡ add_bits (ring_place r) z s (range_with_len 0 64)
unfolding add_word_by
all_added r z s =
    let p = ring_place r in
    let first = add_bits-same (place_by (12 ^ r)) p z z 32 0 0 s (λ i h. place_power r (0 + i)) (λ i h. refl) in
    let opposite : (i : ℕ) → i < 32 → place_by (12 ^ (r + 128)) (0 + i) ≡ p (32 + i) = λ i h. place_power (r + 128) (0 + i) ∙ ap power_of_12 (omega arith) in
    let high : (i : ℕ) → i < 32 → bit (z / 2 ^ 32) (0 + i) ≡ bit z (32 + i) = λ i h. bit_shr z 32 (0 + i) ∙ ap (bit z) (omega arith) in
    let t = add_bits (place_by (12 ^ r)) z s (range_with_len 0 32) in
    add_bits-same (place_by (12 ^ (r + 128))) p (z / 2 ^ 32) z 32 0 32 t opposite high
    ∙ (ap (λ u. add_bits p z u (range_with_len 32 32)) first ∙ sym (add_bits-join p z 32 32 0 s))

-- the lowest 33 bits of x, turned left by q, in a row at r
module _ (r q by x : ℕ) (s : List ℕ) (small : q < 64) (e : by % 64 ≡ q) where
  turned_row : row_added r s (turn 64 (x % 2 ^ 33) ((64 - by % 64) % 64)) ≡ inject_by (12 ^ (r + 4 * q)) s x
  unfolding inject_by
  turned_row =
      let low = x % 2 ^ 33 in
      let right = (64 - by % 64) % 64 in
      let z = turn 64 low right in
      let p = ring_place r in
      let f = place_by (12 ^ (r + 4 * q)) in
      let m = 64 - q in
      let cut : low < 2 ^ 33 = mod-lt x (omega arith) in
      let fits : low < 2 ^ 64 = omega (arith, cut) in
      let whole : q + m ≡ 64 = omega arith in
      let back : m + q ≡ 64 = omega arith in
      let upper_place : Agree m q 0 p f = λ i h. ap power_of_12 (omega arith) ∙ sym (place_power (r + 4 * q) (0 + i)) in
      let upper_bit : Agree m q 0 (bit z) (bit low) = λ i h. ⊎_elim
      (λ none. bit_turn_low 64 low right (q + i) fits (omega arith) (omega arith) (omega arith) ∙ ap (bit low) (omega arith))
      (λ some. bit_turn_high 64 low right (q + i) fits (omega arith) (omega arith) (omega arith) ∙ ap (bit low) (omega arith))
      (cases_eq q 0) in
      let lower_place : Agree q 0 m p f = λ i h.
      sym (turned (r + 4 * (0 + i))) ∙ (ap power_of_12 (omega arith) ∙ (turned (r + 4 * q + 4 * (m + i)) ∙ sym (place_power (r + 4 * q) (m + i)))) in
      let lower_bit : Agree q 0 m (bit z) (bit low) = λ i h.
      bit_turn_low 64 low right (0 + i) fits (omega arith) (omega arith) (omega arith) ∙ ap (bit low) (omega arith) in
      let upper = range_with_len q m in
      let lower = range_with_len 0 q in
      all_added r z s
      ∙ (ap (λ k. add_bits p z s (range_with_len 0 k)) (sym whole)
      ∙ (add_bits-join p z q m 0 s
      ∙ (ap (λ k. add_bits p z (add_bits p z s lower) (range_with_len k m)) (omega arith)
      ∙ (add_bits-comm p z lower upper s
      ∙ (ap (λ t. add_bits p z t lower) (add_bits-same p f z low m q 0 s upper_place upper_bit)
      ∙ (add_bits-same p f z low q 0 m _ lower_place lower_bit
      ∙ (ap (λ k. add_bits f low (add_bits f low s (range_with_len 0 m)) (range_with_len k q)) (omega arith)
      ∙ (sym (add_bits-join f low m q 0 s)
      ∙ (ap (λ k. add_bits f low s (range_with_len 0 k)) back
      ∙ (add_bits-all f low 33 31 0 s (div-eq_of_lt cut)
      ∙ add_bits-same f f low x 33 0 0 s (λ i h. refl) (λ i h. bit_cut x 33 (0 + i) (omega arith))))))))))))

-- at a count of n, with any distance that is its quotient
pub count_added : (s t : List ℕ) (n by x low row : ℕ) → low ≡ x % 2 ^ 33 → row ≡ bit_or (low * 2 ^ (by % 64) % 2 ^ 64) (low / 2 ^ ((64 - by % 64) % 64))
    → t ≡ row_added (n % 4) s row → n < 256 → by % 64 ≡ n / 4 → t ≡ inject_by (12 ^ n) s x
count_added s t n by x low row cut turns adds h e =
    let whole : n % 4 + 4 * (n / 4) ≡ n = omega arith in
    adds ∙ (ap (row_added (n % 4) s) (turns ∙ (left_turn low by ∙ ap (λ y. turn 64 y ((64 - by % 64) % 64)) cut))
    ∙ (turned_row (n % 4) (n / 4) by x s (omega arith) e ∙ ap (λ m. inject_by (12 ^ m) s x) whole))
