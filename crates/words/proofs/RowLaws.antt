-- A row of words, read from any place on, and the row that has the 257 bits twice and then zeros.
use Rattle.std.proofs.Common.{◌≡◌, ℕ, ◌+◌, ◌-◌, ◌*◌, ◌/◌, ◌%◌, ◌^◌, ◌<◌, ◌≤◌, List, length, get_or, set, sym, refl, ap, ◌∙◌, ⊎_elim, arith, pow_mono}
use lib.Bits.{bit_and, bit_or}
use Rattle.std.proofs.lemmas.Nat.{and_mask}
use Rattle.std.proofs.lemmas.List.{get_or-set_same, get_or-set_other}
use Rattle.std.proofs.lemmas.Bool.{cases_lt, cases_eq}
use Rattle.duplex.specs.State.{bit}
use Rattle.duplex.proofs.StateLaws.{at_state, state_ext}
use Rattle.words.specs.Packing.{word_bit, state_of_words, rotated}
use Rattle.duplex.proofs.BitLaws.{bit_past, bit_shr}
use Rattle.words.proofs.BitLaws.{bit_zero, or_first, or_second, shl_low, shl_high}

-- a loop that writes the words of a row in turn, told by the bits
pub words_more : (G : ℕ → ℕ) (ws : List ℕ) (k v : ℕ) → k < length ws → ((m : ℕ) → m < 32 * k → word_bit ws m ≡ G m)
    → ((m : ℕ) → m / 32 ≡ k → bit v (m % 32) ≡ G m) → (m : ℕ) → m < 32 * (k + 1) → word_bit (set ws k v) m ≡ G m
words_more G ws k v l below here m h =
    ⊎_elim
    (λ e. ap (λ n. bit (get_or (set ws k v) n 0) (m % 32)) e ∙ (ap (λ n. bit n (m % 32)) (get_or-set_same ws k v 0 l) ∙ here m e))
    (λ ne. ap (λ n. bit n (m % 32)) (get_or-set_other ws k (m / 32) v 0 ne) ∙ below m (omega arith))
    (cases_eq (m / 32) k)

-- the 32 bits from place r of word k on, over two words
pub window_bit : (ws : List ℕ) (k r j p : ℕ) → get_or ws k 0 < 2 ^ 32 → r < 32 → j < 32 → p ≡ 32 * k + (j + r)
    → bit (bit_or (get_or ws k 0 / 2 ^ r) (get_or ws (k + 1) 0 * 2 ^ 1 % 2 ^ 32 * 2 ^ (31 - r) % 2 ^ 32)) j ≡ word_bit ws p
window_bit ws k r j p fits hr hj ep =
    let lo = get_or ws k 0 in
    let hi = get_or ws (k + 1) 0 in
    let up = hi * 2 ^ 1 % 2 ^ 32 in
    ⊎_elim
    (λ l. let place : r + j ≡ p % 32 = omega arith in
    let word : k ≡ p / 32 = omega arith in
    or_first _ _ j _
    (bit_shr lo r j ∙ (ap (bit lo) place ∙ ap (λ n. bit (get_or ws n 0) (p % 32)) word))
    (⊎_elim
    (λ s. shl_low up (31 - r) 32 j s hj)
    (λ s. shl_high up (31 - r) 32 j 0 (omega arith) hj ∙ shl_low hi 1 32 0 (omega arith) (omega arith))
    (cases_lt j (31 - r))))
    (λ l. let place : j + r - 32 ≡ p % 32 = omega arith in
    let word : k + 1 ≡ p / 32 = omega arith in
    or_second _ _ j _
    (bit_shr lo r j ∙ bit_past lo (r + j) (omega (arith, pow_mono {i = 32} {j = r + j} (omega arith))))
    (shl_high up (31 - r) 32 j (j + r - 31) (omega arith) hj
    ∙ (shl_high hi 1 32 (j + r - 31) (j + r - 32) (omega arith) (omega arith)
    ∙ (ap (bit hi) place ∙ ap (λ n. bit (get_or ws n 0) (p % 32)) word))))
    (cases_lt (j + r) 32)

-- a word moved up by one place over a bit
carry_zero : (a b : ℕ) → bit (bit_or a (b * 2 ^ 1 % 2 ^ 32)) 0 ≡ bit a 0
carry_zero a b = or_first a _ 0 _ refl (shl_low b 1 32 0 (omega arith) (omega arith))

carry_more : (a b p q : ℕ) → a < 2 → 1 + q ≡ p → p < 32 → bit (bit_or a (b * 2 ^ 1 % 2 ^ 32)) p ≡ bit b q
carry_more a b p q h e l = or_second a _ p _ (bit_past a p (omega (arith, pow_mono {i = 1} {j = p} (omega arith)))) (shl_high b 1 32 p q e l)

-- the first n of nine words, and the first n of them moved up by one place over the last bit
pub record Laid (w row : List ℕ) (n : ℕ) : Type 0 where
  pub low : (k : ℕ) → k < n → k < 8 → get_or row k 0 ≡ get_or w k 0
  pub seam : get_or row 8 0 ≡ bit_or (get_or w 8 0) (get_or w 0 0 * 2 ^ 1 % 2 ^ 32)
  pub high : (m : ℕ) → m < n → get_or row (9 + m) 0 ≡ bit_or (get_or w m 0 / 2 ^ 31) (get_or w (m + 1) 0 * 2 ^ 1 % 2 ^ 32)
  pub fits : (m : ℕ) → m < n → get_or w m 0 < 2 ^ 32
  pub rest : (k : ℕ) → 17 ≤ k → get_or row k 0 ≡ 0

laid_bit : (w row : List ℕ) (n : ℕ) → 8 ≤ n → get_or w 8 0 < 2 → Laid w row n → (j : ℕ) → j < 514 → word_bit row j ≡ word_bit w (j % 257)
laid_bit w row n all spare is j h =
    ⊎_elim
    (λ l. let e : j ≡ j % 257 = omega arith in
    ap (λ n. bit n (j % 32)) (is.low (j / 32) (omega arith) (omega arith)) ∙ ap (word_bit w) e)
    (λ l. ⊎_elim
    (λ k8. ap (λ n. bit (get_or row n 0) (j % 32)) k8 ∙ (ap (λ n. bit n (j % 32)) is.seam ∙ ⊎_elim
    (λ p0. let e : j % 257 ≡ 256 = omega arith in
    ap (bit (bit_or (get_or w 8 0) (get_or w 0 0 * 2 ^ 1 % 2 ^ 32))) p0 ∙ (carry_zero (get_or w 8 0) (get_or w 0 0) ∙ ap (word_bit w) (sym e)))
    (λ p1. let over : j % 257 ≡ j - 257 = omega arith in
    let a : 0 ≡ j % 257 / 32 = omega arith in
    let b : j % 32 - 1 ≡ j % 257 % 32 = omega arith in
    carry_more (get_or w 8 0) (get_or w 0 0) (j % 32) (j % 32 - 1) spare (omega arith) (omega arith)
    ∙ (ap (bit (get_or w 0 0)) b ∙ ap (λ n. bit (get_or w n 0) (j % 257 % 32)) a))
    (cases_eq (j % 32) 0)))
    (λ k9. let m = j / 32 - 9 in
    let km : j / 32 ≡ 9 + m = omega arith in
    let top : get_or w m 0 / 2 ^ 31 < 2 = omega (arith, is.fits m (omega arith)) in
    ap (λ n. bit (get_or row n 0) (j % 32)) km ∙ (ap (λ n. bit n (j % 32)) (is.high m (omega arith)) ∙ ⊎_elim
    (λ p0. let a : m ≡ j % 257 / 32 = omega arith in
    let b : 31 ≡ j % 257 % 32 = omega arith in
    ap (bit (bit_or (get_or w m 0 / 2 ^ 31) (get_or w (m + 1) 0 * 2 ^ 1 % 2 ^ 32))) p0
    ∙ (carry_zero (get_or w m 0 / 2 ^ 31) (get_or w (m + 1) 0) ∙ (bit_shr (get_or w m 0) 31 0 ∙ (ap (bit (get_or w m 0)) b ∙ ap (λ n. bit (get_or w n 0) (j % 257 % 32)) a))))
    (λ p1. let a : m + 1 ≡ j % 257 / 32 = omega arith in
    let b : j % 32 - 1 ≡ j % 257 % 32 = omega arith in
    carry_more (get_or w m 0 / 2 ^ 31) (get_or w (m + 1) 0) (j % 32) (j % 32 - 1) top (omega arith) (omega arith)
    ∙ (ap (bit (get_or w (m + 1) 0)) b ∙ ap (λ n. bit (get_or w n 0) (j % 257 % 32)) a))
    (cases_eq (j % 32) 0)))
    (cases_eq (j / 32) 8))
    (cases_lt j 256)

module _ (w row : List ℕ) (n : ℕ) (all : 8 ≤ n) (spare : get_or w 8 0 < 2) (is : Laid w row n) where
  -- such a row has the bits twice
  pub laid_twice : (j : ℕ) → j < 514 → word_bit row j ≡ word_bit row (j % 257)
  laid_twice j h =
      let e : j % 257 ≡ j % 257 % 257 = omega arith in
      laid_bit w row n all spare is j h ∙ (ap (word_bit w) e ∙ sym (laid_bit w row n all spare is (j % 257) (omega arith)))

  pub laid_words : state_of_words row ≡ state_of_words w
  unfolding state_of_words
  laid_words = state_ext _ _ (λ i h. let e : i % 257 ≡ i = omega arith in laid_bit w row n all spare is i (omega arith) ∙ ap (word_bit w) e)

  -- and zeros after them
  pub laid_past : (j : ℕ) → 514 ≤ j → word_bit row j ≡ 0
  laid_past j h =
      let q = j % 32 - 1 in
      let top : get_or w 7 0 / 2 ^ 31 < 2 = omega (arith, is.fits 7 (omega arith)) in
      ⊎_elim
      (λ e. ap (λ n. bit (get_or row n 0) (j % 32)) e ∙ (ap (λ n. bit n (j % 32)) (is.high 7 (omega arith))
      ∙ (carry_more (get_or w 7 0 / 2 ^ 31) (get_or w 8 0) (j % 32) q top (omega arith) (omega arith)
      ∙ bit_past (get_or w 8 0) q (omega (arith, pow_mono {i = 1} {j = q} (omega arith))))))
      (λ ne. ap (λ n. bit n (j % 32)) (is.rest (j / 32) (omega arith)) ∙ bit_zero (j % 32))
      (cases_eq (j / 32) 16)

-- the last word cut to its one bit
mask_bit : (t : List ℕ) (m : ℕ) → length t ≡ 9 → m < 257 → word_bit (set t 8 (bit_and (get_or t 8 0) 1)) m ≡ word_bit t m
mask_bit t m w h =
    let v = bit_and (get_or t 8 0) 1 in
    ⊎_elim
    (λ e. let z : m % 32 ≡ 0 = omega arith in
    let same : bit v 0 ≡ bit (get_or t 8 0) 0 = ap (λ n. n / 1 % 2) (and_mask (get_or t 8 0) 1) ∙ omega arith in
    ap (λ n. bit (get_or (set t 8 v) n 0) (m % 32)) e ∙ (ap (λ n. bit n (m % 32)) (get_or-set_same t 8 v 0 (omega arith))
    ∙ (ap (bit v) z ∙ (same ∙ (ap (bit (get_or t 8 0)) (sym z) ∙ ap (λ n. bit (get_or t n 0) (m % 32)) (sym e))))))
    (λ ne. ap (λ n. bit n (m % 32)) (get_or-set_other t 8 (m / 32) v 0 ne))
    (cases_eq (m / 32) 8)

-- nine words read from place d of a row that has the bits twice, and cut
pub read_from : (row t : List ℕ) (d : ℕ) → d < 257 → length t ≡ 9 → ((j : ℕ) → j < 514 → word_bit row j ≡ word_bit row (j % 257))
    → ((m : ℕ) → m < 257 → word_bit t m ≡ word_bit row (m + d)) → state_of_words (set t 8 (bit_and (get_or t 8 0) 1)) ≡ rotated d (state_of_words row)
unfolding state_of_words rotated
read_from row t d hd w twice made =
    state_ext _ _ (λ m h. mask_bit t m w h ∙ (made m h ∙ (twice (m + d) (omega arith) ∙ sym (at_state (word_bit row) (m + d)))))
