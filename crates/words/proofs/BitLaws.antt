-- The bits of a number under shifts and under the operations on bits.
use Rattle.std.specs.Prelude.{◌≡◌, ℕ, zero, suc, ◌+◌, ◌-◌, ◌*◌, ◌/◌, ◌%◌, ◌^◌, ◌<◌, ◌≤◌, ◌≢◌, refl}
use Rattle.std.proofs.Common.{sym, ap, subst, ◌∙◌, ⊎_elim, mul_assoc, mul_comm, arith, pow_mono}
use Rattle.std.specs.Int.Bits.{bit_and, bit_or, bit_xor, shifted_even, or_zero_l, or_zero_r}
use Rattle.std.proofs.lemmas.Bool.{cases_lt}
use Rattle.std.proofs.lemmas.Nat.{pow_pos, pow-add, shl-shr, xor_shr, xor_mod, and_shr, and_mod, or_shr, or_mod}
use Rattle.duplex.specs.State.{bit}
use Rattle.duplex.proofs.BitLaws.{bit_past, bit_shr, bit_cut}

pub bit-bit_xor : (x y k : ℕ) → bit (bit_xor x y) k ≡ bit_xor (bit x k) (bit y k)
bit-bit_xor x y k = ap (λ n. n % 2) (xor_shr x y k) ∙ xor_mod (x / 2 ^ k) (y / 2 ^ k) 1

pub bit-bit_and : (x y k : ℕ) → bit (bit_and x y) k ≡ bit_and (bit x k) (bit y k)
bit-bit_and x y k = ap (λ n. n % 2) (and_shr x y k) ∙ and_mod (x / 2 ^ k) (y / 2 ^ k) 1

pub bit-bit_or : (x y k : ℕ) → bit (bit_or x y) k ≡ bit_or (bit x k) (bit y k)
bit-bit_or x y k = ap (λ n. n % 2) (or_shr x y k) ∙ or_mod (x / 2 ^ k) (y / 2 ^ k) 1

-- of two numbers that are joined, one has a zero there
pub or_first : (x y k v : ℕ) → bit x k ≡ v → bit y k ≡ 0 → bit (bit_or x y) k ≡ v
or_first x y k v p q = bit-bit_or x y k ∙ (ap (bit_or (bit x k)) q ∙ (or_zero_r (bit x k) ∙ p))

pub or_second : (x y k v : ℕ) → bit x k ≡ 0 → bit y k ≡ v → bit (bit_or x y) k ≡ v
or_second x y k v p q = bit-bit_or x y k ∙ (ap (λ n. bit_or n (bit y k)) p ∙ (or_zero_l (bit y k) ∙ q))

pub bit_zero : (k : ℕ) → bit 0 k ≡ 0
bit_zero k = bit_past 0 k (pow_pos k)

-- a shift to the left: place j + k of the result is place k, and the places below j are 0
bit_shl : (x j k : ℕ) → bit (x * 2 ^ j) (j + k) ≡ bit x k
bit_shl x j k = sym (bit_shr (x * 2 ^ j) j k) ∙ ap (λ n. bit n k) (shl-shr x j)

bit_shl_below : (x s k : ℕ) → k < s → bit (x * 2 ^ s) k ≡ 0
bit_shl_below x s k h =
    let d = s - suc k in
    let w : k + suc d ≡ s = omega arith in
    let e : x * 2 ^ s ≡ (x * 2 ^ suc d) * 2 ^ k =
    ap (λ n. x * 2 ^ n) (sym w) ∙ (ap (λ n. x * n) (pow-add 2 k (suc d) ∙ mul_comm (2 ^ k) (2 ^ suc d)) ∙ sym (mul_assoc x (2 ^ suc d) (2 ^ k))) in
    ap (λ n. n / 2 ^ k % 2) e ∙ (ap (λ n. n % 2) (shl-shr (x * 2 ^ suc d) k) ∙ shifted_even x d)

-- `x << s` at a type of w bits
pub shl_low : (x s w j : ℕ) → j < s → j < w → bit (x * 2 ^ s % 2 ^ w) j ≡ 0
shl_low x s w j h l = bit_cut (x * 2 ^ s) w j l ∙ bit_shl_below x s j h

pub shl_high : (x s w j k : ℕ) → s + k ≡ j → j < w → bit (x * 2 ^ s % 2 ^ w) j ≡ bit x k
shl_high x s w j k e l = bit_cut (x * 2 ^ s) w j l ∙ subst (λ m. bit (x * 2 ^ s) m ≡ bit x k) e (bit_shl x s k)

-- one bit at place q
pub single_here : (b q w : ℕ) → b < 2 → q < w → bit (b * 2 ^ q % 2 ^ w) q ≡ b
single_here b q w h l =
    let e : b / 2 ^ 0 % 2 ≡ b = omega arith in
    shl_high b q w q 0 (omega arith) l ∙ e

pub single_other : (b q w j : ℕ) → b < 2 → j < w → (j ≢ q) → bit (b * 2 ^ q % 2 ^ w) j ≡ 0
single_other b q w j h l ne =
    ⊎_elim
    (λ s. shl_low b q w j s l)
    (λ s. let one : 1 ≤ j - q = omega arith in
    shl_high b q w j (j - q) (omega arith) l ∙ bit_past b (j - q) (omega (arith, pow_mono {i = 1} {j = j - q} one)))
    (cases_lt j q)

-- a word with one bit more, at a place from which on it is zero
abbrev pub with_bit : ℕ → ℕ → ℕ → ℕ
with_bit word b j = bit_or word (b * 2 ^ j % 2 ^ 32)

module _ (word b j : ℕ) (hb : b < 2) (hj : j < 32) where
  pub bit_below : (m v : ℕ) → m < j → bit word m ≡ v → bit (with_bit word b j) m ≡ v
  bit_below m v l e = or_first word _ m v e (shl_low b j 32 m l (omega arith))

  pub bit_here : bit word j ≡ 0 → bit (with_bit word b j) j ≡ b
  bit_here z = or_second word _ j b z (single_here b j 32 hb hj)

  pub bit_above : (m : ℕ) → j < m → m < 32 → bit word m ≡ 0 → bit (with_bit word b j) m ≡ 0
  bit_above m l h z = or_first word _ m 0 z (single_other b j 32 m hb h (λ e. omega arith))

-- what holds of 0 and of 1 holds of a bit
pub two_cases : (P : ℕ → Type 0) → P 0 → P 1 → (b : ℕ) → b < 2 → P b
two_cases P p q zero h = p
two_cases P p q (suc zero) h = q
two_cases P p q (suc (suc n)) h = absurd (omega arith)

-- (b + 1) × c = c + b × c
pub chi_form : (a b c : ℕ) → a < 2 → b < 2 → c < 2 → bit_xor (bit_xor a c) (bit_and b c) ≡ bit_xor a (bit_and (bit_xor b 1) c)
chi_form a b c ha hb hc = two_cases (P b c) (for_b 0 refl refl refl refl) (for_b 1 refl refl refl refl) a ha
  where
    P : ℕ → ℕ → ℕ → Type 0
    P b c a = bit_xor (bit_xor a c) (bit_and b c) ≡ bit_xor a (bit_and (bit_xor b 1) c)

    for_b : (a : ℕ) → P 0 0 a → P 0 1 a → P 1 0 a → P 1 1 a → P b c a
    for_b a p q r s = two_cases (λ b. P b c a) (two_cases (λ c. P 0 c a) p q c hc) (two_cases (λ c. P 1 c a) r s c hc) b hb
