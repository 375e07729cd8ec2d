-- A word that is read bit by bit, as the number of its bits.
use Rattle.std.proofs.Common.{◌≡◌, ℕ, zero, suc, ◌+◌, ◌-◌, ◌*◌, ◌/◌, ◌%◌, ◌^◌, ◌<◌, ◌≤◌, List, sym, ap, ◌∙◌, subst, pow-suc, mul_assoc, mul_comm, arith}
use lib.Bits.{bit_or, xor_lt, or_shifted_r}
use Rattle.std.proofs.lemmas.Nat.{shl_whole}
use Rattle.duplex.specs.State.{IsState, bit, read_bit, position}
use Rattle.duplex.proofs.BitLaws.{bit_shr}
use Rattle.words.specs.Packing.{state_of_words, stretch, number_from}
use Rattle.words.specs.StateLaw.{words-state}
use Rattle.words.proofs.StretchLaws.{stretch-state}

pub read_bit-binary : (s : List ℕ) → IsState s → (j : ℕ) → read_bit s j < 2
read_bit-binary s is j = xor_lt 1 _ _ (is.binary (position j % 257)) (is.binary ((257 - position j) % 257))

pub stretched-binary : (c : ℕ) (ws : List ℕ) (j : ℕ) → read_bit (stretch c (state_of_words ws)) j < 2
stretched-binary c ws = read_bit-binary _ (stretch-state c _ (words-state ws))

module _ (f : ℕ → ℕ) where
  -- n bits, and m bits above them
  bits-join : (n m a : ℕ) → number_from f a (n + m) ≡ number_from f a n + 2 ^ n * number_from f (a + n) m
  bits-join zero m a =
      let e : zero + m ≡ m = omega arith in
      let z : a ≡ a + 0 = omega arith in
      ap (number_from f a) e ∙ (ap (λ k. number_from f k m) z ∙ omega arith)
  bits-join (suc n) m a =
      let e : suc n + m ≡ suc (n + m) = omega arith in
      let next : a + 1 + n ≡ a + suc n = omega arith in
      let rest = number_from f (a + suc n) m in
      let twice : 2 ^ suc n * rest ≡ 2 * (2 ^ n * rest) = ap (λ k. k * rest) (pow-suc 2 n) ∙ omega (arith, mul_assoc (2 ^ n) 2 rest, mul_assoc 2 (2 ^ n) rest) in
      ap (number_from f a) e ∙ (ap (λ k. f a + 2 * k) (bits-join n m (a + 1) ∙ ap (λ k. number_from f (a + 1) n + 2 ^ n * number_from f k m) next) ∙ omega (arith, twice))

  module _ (binary : (i : ℕ) → f i < 2) where
    pub bits_small : (n a : ℕ) → number_from f a n < 2 ^ n
    bits_small zero a = omega arith
    bits_small (suc n) a = omega (arith, bits_small n (a + 1), pow-suc 2 n, binary a)

    pub bits_bit : (n a k : ℕ) → k < n → bit (number_from f a n) k ≡ f (a + k)
    bits_bit zero a k h = absurd (omega arith)
    bits_bit (suc n) a zero h = let e : (f a + 2 * number_from f (a + 1) n) / 1 % 2 ≡ f a = omega (arith, binary a) in e ∙ ap f (omega arith)
    bits_bit (suc n) a (suc k) h =
        let half : (f a + 2 * number_from f (a + 1) n) / 2 ^ 1 ≡ number_from f (a + 1) n = omega (arith, binary a) in
        let one : suc k ≡ 1 + k = omega arith in
        let next : a + 1 + k ≡ a + suc k = omega arith in
        ap (bit (f a + 2 * number_from f (a + 1) n)) one
        ∙ (sym (bit_shr (f a + 2 * number_from f (a + 1) n) 1 k) ∙ (ap (λ m. bit m k) half ∙ (bits_bit n (a + 1) k (omega arith) ∙ ap f next)))

    -- the same put together in a word
    pub bits_or : (n m a x y : ℕ) → m + n ≤ 32 → x ≡ number_from f a n → y ≡ number_from f (a + n) m → bit_or x (y * 2 ^ n % 2 ^ 32) ≡ number_from f a (n + m)
    bits_or n m a x y h low high =
        ap (bit_or x) (shl_whole y m n 32 (subst (λ k. k < 2 ^ m) (sym high) (bits_small m (a + n))) h)
        ∙ (or_shifted_r y n x (subst (λ k. k < 2 ^ n) (sym low) (bits_small n a))
        ∙ (omega (arith, low, mul_comm y (2 ^ n), ap (λ k. 2 ^ n * k) high) ∙ sym (bits-join n m a)))

    -- one bit below, or above, n others
    pub bits_first : (n a b x : ℕ) → n < 32 → b ≡ f a → x ≡ number_from f (a + 1) n → bit_or b (x * 2 ^ 1 % 2 ^ 32) ≡ number_from f a (1 + n)
    bits_first n a b x h e high = bits_or 1 n a b x (omega arith) (omega (arith, e)) high

    pub bits_more : (n a x b : ℕ) → n < 32 → x ≡ number_from f a n → b ≡ f (a + n) → bit_or x (b * 2 ^ n % 2 ^ 32) ≡ number_from f a (n + 1)
    bits_more n a x b h low e = bits_or n 1 a x b (omega arith) low (omega (arith, e))
