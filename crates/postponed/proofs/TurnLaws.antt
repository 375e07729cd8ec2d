-- A number rotated, bit by bit; and a reading at a count, which is that at the count's remainder modulo 4, rotated.
use Rattle.std.proofs.Common.{◌≡◌, ℕ, zero, suc, ◌+◌, ◌-◌, ◌*◌, ◌/◌, ◌%◌, ◌^◌, ◌<◌, ◌≤◌, List, sym, ap, ◌∙◌, ⊎_elim, zero-add, arith, pow_mono}
use lib.Bits.{bit_or, bit_xor, or_self, or_lt, or_comm, xor_comm}
use Rattle.std.proofs.Math.Nat.{mod_self, mod-eq_of_lt, mod-lt, div-le_self}
use Rattle.std.proofs.lemmas.Nat.Bits.{same_from_bits_below}
use Rattle.std.proofs.lemmas.Bool.{cases_lt, cases_eq}
use Rattle.duplex.specs.State.{IsState, at, bit, position, read_bit, reading}
use Rattle.duplex.proofs.BitLaws.{bit_past, bit_shr}
use Rattle.duplex.proofs.StepLaws.{position_range}
use Rattle.words.specs.Packing.{stretch}
use Rattle.words.proofs.BitLaws.{or_first, or_second, bit-bit_or, shl_low, shl_high}
use Rattle.words.proofs.ModLaws.{opposite_mul}
use Rattle.words.proofs.ReadLaws.{read_bit-binary, bits_small, bits_bit}
use Rattle.words.proofs.StretchLaws.{at_mod, at_stretch, stretch-state}
use Rattle.postponed.specs.Powers.{power_of_12}
use Rattle.postponed.proofs.PowerLaws.{turned, place_power, opposite_power}

-- x of w bits, turned right by p
abbrev pub turn : ℕ → ℕ → ℕ → ℕ
turn w x p = bit_or (x / 2 ^ p) (x * 2 ^ ((w - p) % w) % 2 ^ w)

module _ (w x p j : ℕ) (hx : x < 2 ^ w) (hp : p < w) (hj : j < w) where
  pub bit_turn_low : j + p < w → bit (turn w x p) j ≡ bit x (j + p)
  bit_turn_low h =
      let right : bit (x / 2 ^ p) j ≡ bit x (j + p) = bit_shr x p j ∙ ap (bit x) (omega arith) in
      ⊎_elim
      (λ z. let none : (w - p) % w ≡ 0 = ap (λ n. n % w) (omega arith) ∙ mod_self w in
      let left : bit (x * 2 ^ ((w - p) % w) % 2 ^ w) j ≡ bit x (j + p) = shl_high x ((w - p) % w) w j (j + p) (omega arith) hj in
      bit-bit_or (x / 2 ^ p) _ j ∙ (ap (λ n. bit_or n (bit (x * 2 ^ ((w - p) % w) % 2 ^ w) j)) right ∙ (ap (bit_or (bit x (j + p))) left ∙ or_self (bit x (j + p)))))
      (λ more. let by : (w - p) % w ≡ w - p = mod-eq_of_lt (omega arith) in
      or_first _ _ j _ right (shl_low x ((w - p) % w) w j (omega arith) hj))
      (cases_eq p 0)

  pub bit_turn_high : w ≤ j + p → bit (turn w x p) j ≡ bit x (j + p - w)
  bit_turn_high h =
      let by : (w - p) % w ≡ w - p = mod-eq_of_lt (omega arith) in
      or_second _ _ j _ (bit_shr x p j ∙ bit_past x (p + j) (omega (arith, hx, pow_mono {i = w} {j = p + j} (omega arith)))) (shl_high x ((w - p) % w) w j (j + p - w) (omega arith) hj)

-- a left turn is a right turn by what is left of 64
pub left_turn : (x by : ℕ) → bit_or (x * 2 ^ (by % 64) % 2 ^ 64) (x / 2 ^ ((64 - by % 64) % 64)) ≡ turn 64 x ((64 - by % 64) % 64)
left_turn x by =
    let right = (64 - by % 64) % 64 in
    let left : by % 64 ≡ (64 - right) % 64 = omega arith in
    ap (λ k. bit_or (x * 2 ^ k % 2 ^ 64) (x / 2 ^ right)) left ∙ or_comm (x * 2 ^ ((64 - right) % 64) % 2 ^ 64) (x / 2 ^ right)

-- the sum of the bits at a power of 12 and opposite to it
abbrev sum_at : List ℕ → ℕ → ℕ
sum_at s m = bit_xor (at s (12 ^ m)) (at s (12 ^ (m + 128)))

read_sum : (s : List ℕ) (n j : ℕ) → j < 33 → read_bit (stretch (12 ^ n) s) j ≡ sum_at s (n + 4 * j)
read_sum s n j h =
    let c = 12 ^ n in
    let p = position j in
    let m = n + 4 * j in
    let near : at (stretch c s) p ≡ at s (12 ^ m) = at_stretch c s p ∙ at_mod s (c * p) (12 ^ m) (place_power n j) in
    let other : c * (257 - p) % 257 ≡ 12 ^ (m + 128) % 257 =
    sym (opposite_mul c p (position_range j h).1) ∙ (ap (λ k. (257 - k) % 257) (place_power n j) ∙ (ap (λ k. k % 257) (sym (opposite_power m)) ∙ omega arith)) in
    let far : at (stretch c s) (257 - p) ≡ at s (12 ^ (m + 128)) = at_stretch c s (257 - p) ∙ at_mod s (c * (257 - p)) (12 ^ (m + 128)) other in
    ap (λ b. bit_xor b (at (stretch c s) (257 - p))) near ∙ ap (bit_xor (at s (12 ^ m))) far

-- 128 powers on it is the same
sum_round : (s : List ℕ) (m : ℕ) → sum_at s (m + 128) ≡ sum_at s m
sum_round s m =
    let around : power_of_12 (m + 128 + 128) ≡ power_of_12 m = sym (turned (m + 128 + 128)) ∙ (ap power_of_12 (omega arith) ∙ turned m) in
    ap (bit_xor (at s (12 ^ (m + 128)))) (at_mod s (12 ^ (m + 128 + 128)) (12 ^ m) around) ∙ xor_comm (at s (12 ^ (m + 128))) (at s (12 ^ m))

sum_rounds : (s : List ℕ) (m u : ℕ) → sum_at s (m + 128 * u) ≡ sum_at s m
sum_rounds s m zero = ap (sum_at s) (omega arith)
sum_rounds s m (suc u) = ap (sum_at s) (omega arith) ∙ (sum_round s (m + 128 * u) ∙ sum_rounds s m u)

sum_same : (s : List ℕ) (m n : ℕ) → m % 128 ≡ n % 128 → sum_at s m ≡ sum_at s n
sum_same s m n e =
    ap (sum_at s) (omega arith) ∙ (sum_rounds s (m % 128) (m / 128) ∙ (ap (sum_at s) e ∙ (sym (sum_rounds s (n % 128) (n / 128)) ∙ ap (sum_at s) (omega arith))))

-- a reading at a count of r + 4 q is that at r, turned by q
module _ (s : List ℕ) (is : IsState s) (r q by : ℕ) (e : by % 32 ≡ q % 32) where
  turned_bit : (j : ℕ) → j < 32 → bit (turn 32 (reading (stretch (12 ^ r) s)) (by % 32)) j ≡ read_bit (stretch (12 ^ (r + 4 * q)) s) j
  unfolding reading
  turned_bit j hj =
      let t = stretch (12 ^ r) s in
      let binary = read_bit-binary t (stretch-state (12 ^ r) s is) in
      let small = bits_small (read_bit t) binary 32 0 in
      let from : (k : ℕ) → k < 32 → (r + 4 * k) % 128 ≡ (r + 4 * q + 4 * j) % 128 → bit (reading t) k ≡ read_bit (stretch (12 ^ (r + 4 * q)) s) j =
      λ k hk same. bits_bit (read_bit t) binary 32 0 k hk ∙ (ap (read_bit t) (zero-add k)
      ∙ (read_sum s r k (omega arith) ∙ (sum_same s (r + 4 * k) (r + 4 * q + 4 * j) same ∙ sym (read_sum s (r + 4 * q) j (omega arith))))) in
      ⊎_elim
      (λ l. bit_turn_low 32 (reading t) (by % 32) j small (omega arith) hj l ∙ from (j + by % 32) l (omega arith))
      (λ l. bit_turn_high 32 (reading t) (by % 32) j small (omega arith) hj l ∙ from (j + by % 32 - 32) (omega arith) (omega arith))
      (cases_lt (j + by % 32) 32)

  reading_turned : turn 32 (reading (stretch (12 ^ r) s)) (by % 32) ≡ reading (stretch (12 ^ (r + 4 * q)) s)
  unfolding reading
  reading_turned =
      let t = stretch (12 ^ r) s in
      let u = stretch (12 ^ (r + 4 * q)) s in
      let binary = read_bit-binary u (stretch-state (12 ^ (r + 4 * q)) s is) in
      let small = bits_small (read_bit t) (read_bit-binary t (stretch-state (12 ^ r) s is)) 32 0 in
      let fits = or_lt 32 _ _ (omega (arith, small, div-le_self (reading t) (2 ^ (by % 32)))) (mod-lt (reading t * 2 ^ ((32 - by % 32) % 32)) (omega arith)) in
      same_from_bits_below 32 _ _ fits (bits_small (read_bit u) binary 32 0)
      (λ j h. turned_bit j h ∙ sym (bits_bit (read_bit u) binary 32 0 j h ∙ ap (read_bit u) (zero-add j)))

-- at a count of n, with any distance that is its quotient
pub count_read : (s : List ℕ) (n by w word : ℕ) → IsState s → w ≡ turn 32 word (by % 32) → word ≡ reading (stretch (12 ^ (n % 4)) s) → by % 32 ≡ n / 4 % 32 → w ≡ reading (stretch (12 ^ n) s)
count_read s n by w word is turns reads e =
    let whole : n % 4 + 4 * (n / 4) ≡ n = omega arith in
    turns ∙ (ap (λ x. turn 32 x (by % 32)) reads ∙ (reading_turned s is (n % 4) (n / 4) by e ∙ ap (λ m. reading (stretch (12 ^ m) s)) whole))
