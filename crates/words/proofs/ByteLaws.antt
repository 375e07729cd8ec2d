-- The bits in bytes and in words: byte k is byte k mod 4 of word k div 4.
use Rattle.std.proofs.Common.{◌≡◌, ℕ, zero, suc, ◌+◌, ◌*◌, ◌/◌, ◌%◌, ◌^◌, ◌<◌, List, [], map, length, get_or, take, drop, set, sym, refl, ap, ◌∙◌, ⊎_elim, arith, pow_mono}
use lib.Bits.{bit_and}
use Rattle.std.specs.List.{range_with_len}
use Rattle.std.specs.Simd.{first_chunks}
use Rattle.std.proofs.lemmas.Simd.{get_or-chunk}
use Rattle.std.proofs.lemmas.Nat.{and_mask}
use Rattle.std.proofs.lemmas.List.FromFn.{fill_by_all}
use Rattle.std.proofs.lemmas.List.{get_or_past, get_or-set_same, get_or-set_other, drop-drop}
use Rattle.std.proofs.lemmas.Bool.{cases_lt, cases_eq}
use Rattle.duplex.specs.State.{bit, number}
use Rattle.duplex.specs.Bytes.{byte_of_state, bytes_of_state, state_of_bytes}
use Rattle.duplex.proofs.StateLaws.{getD_state, length-state, state_ext}
use Rattle.words.specs.Packing.{word_bit, state_of_words}
use Rattle.duplex.proofs.BitLaws.{bit_shr, bit_cut, bit_past}

-- byte k of a row of words
abbrev pub word_byte : List ℕ → ℕ → ℕ
word_byte ws k = get_or ws (k / 4) 0 / 2 ^ (8 * (k % 4)) % 2 ^ 8

pub words-bytes : (ws bytes : List ℕ) → ((k : ℕ) → k < 32 → word_byte ws k ≡ get_or bytes k 0) → get_or ws 8 0 % 2 ≡ get_or bytes 32 0 % 2
    → state_of_words ws ≡ state_of_bytes bytes
unfolding state_of_words state_of_bytes
words-bytes ws bytes low last = state_ext _ _ (λ i h.
    ⊎_elim
    (λ l. let word : i / 32 ≡ i / 8 / 4 = omega arith in
    let place : i % 32 ≡ 8 * (i / 8 % 4) + i % 8 = omega arith in
    let w = get_or ws (i / 8 / 4) 0 in
    ap (λ n. bit (get_or ws n 0) (i % 32)) word ∙ (ap (bit w) place ∙ (sym (bit_shr w (8 * (i / 8 % 4)) (i % 8))
    ∙ (sym (bit_cut (w / 2 ^ (8 * (i / 8 % 4))) 8 (i % 8) (omega arith)) ∙ ap (λ n. bit n (i % 8)) (low (i / 8) (omega arith))))))
    (λ l. let e : i ≡ 256 = omega arith in
    let z : get_or ws 8 0 / 2 ^ 0 % 2 ≡ get_or bytes 32 0 / 2 ^ 0 % 2 = omega (arith, last) in
    ap (word_bit ws) e ∙ (z ∙ sym (ap (λ n. bit (get_or bytes (n / 8) 0) (n % 8)) e)))
    (cases_lt i 256))

-- four bytes make a word
quad : (f : ℕ → ℕ) (v : ℕ) → ((r : ℕ) → f r < 256) → v ≡ f 0 + f 1 * 256 + f 2 * 65536 + f 3 * 16777216 → (r : ℕ) → r < 4 → v / 2 ^ (8 * r) % 2 ^ 8 ≡ f r
quad f v fits e zero h = omega (arith, e, fits 0, fits 1, fits 2, fits 3)
quad f v fits e (suc zero) h = omega (arith, e, fits 0, fits 1, fits 2, fits 3)
quad f v fits e (suc (suc zero)) h = omega (arith, e, fits 0, fits 1, fits 2, fits 3)
quad f v fits e (suc (suc (suc zero))) h = omega (arith, e, fits 0, fits 1, fits 2, fits 3)
quad f v fits e (suc (suc (suc (suc r)))) h = absurd (omega arith)

-- the four bytes from 4 × k on
chunk_at : (xs : List ℕ) (n k : ℕ) → k < n → get_or (first_chunks 4 n xs) k [] ≡ take 4 (drop (4 * k) xs)
chunk_at xs zero k h = absurd (omega arith)
chunk_at xs (suc n) zero h = refl
chunk_at xs (suc n) (suc k) h =
    let next : 4 + 4 * k ≡ 4 * suc k = omega arith in
    chunk_at (drop 4 xs) n k (omega arith) ∙ ap (take 4) (drop-drop (4 * k) 4 xs ∙ ap (λ m. drop m xs) next)

pub word_bytes_more : (ws bytes : List ℕ) (blocks : List (List ℕ)) (n k v : ℕ) → blocks ≡ first_chunks 4 n bytes → k < n → k < length ws → ((i : ℕ) → get_or bytes i 0 < 256)
    → ((m : ℕ) → m < 4 * k → word_byte ws m ≡ get_or bytes m 0)
    → (let b = get_or blocks k [] in v ≡ get_or b 0 0 + get_or b 1 0 * 256 + get_or b 2 0 * 65536 + get_or b 3 0 * 16777216)
    → (m : ℕ) → m < 4 * (k + 1) → word_byte (set ws k v) m ≡ get_or bytes m 0
word_bytes_more ws bytes blocks n k v eb hk l fits below e m h =
    ⊎_elim
    (λ q. let at : (r : ℕ) → r < 4 → get_or (get_or blocks k []) r 0 ≡ get_or bytes (4 * k + r) 0 =
    λ r hr. ap (λ t. get_or t r 0) (ap (λ bs. get_or bs k []) eb ∙ chunk_at bytes n k hk) ∙ get_or-chunk (4 * k) 4 bytes r 0 hr in
    let here : 4 * k + m % 4 ≡ m = omega arith in
    ap (λ n. get_or (set ws k v) n 0 / 2 ^ (8 * (m % 4)) % 2 ^ 8) q ∙ (ap (λ n. n / 2 ^ (8 * (m % 4)) % 2 ^ 8) (get_or-set_same ws k v 0 l)
    ∙ (quad (λ r. get_or bytes (4 * k + r) 0) v (λ r. fits (4 * k + r)) (omega (arith, at 0 (omega arith), at 1 (omega arith), at 2 (omega arith), at 3 (omega arith))) (m % 4) (omega arith)
    ∙ ap (λ n. get_or bytes n 0) here)))
    (λ ne. ap (λ n. n / 2 ^ (8 * (m % 4)) % 2 ^ 8) (get_or-set_other ws k (m / 4) v 0 ne) ∙ below m (omega arith))
    (cases_eq (m / 4) k)

-- and a last word of one bit
pub last_word : (ws bytes : List ℕ) (v : ℕ) → length ws ≡ 9 → v ≡ bit_and (get_or bytes 32 0) 1 → ((m : ℕ) → m < 32 → word_byte ws m ≡ get_or bytes m 0)
    → (get_or (set ws 8 v) 8 0 < 2) × (state_of_words (set ws 8 v) ≡ state_of_bytes bytes)
last_word ws bytes v long e low =
    let one : get_or (set ws 8 v) 8 0 ≡ get_or bytes 32 0 % 2 = get_or-set_same ws 8 v 0 (omega arith) ∙ (e ∙ and_mask (get_or bytes 32 0) 1) in (
      omega (arith, one),
      words-bytes (set ws 8 v) bytes
          (λ k h. ap (λ n. n / 2 ^ (8 * (k % 4)) % 2 ^ 8) (get_or-set_other ws 8 (k / 4) v 0 (λ q. omega arith)) ∙ low k h) (omega (arith, one)),
    )

-- eight bits are a byte
byte_bits : (x : ℕ) (f : ℕ → ℕ) → x < 256 → ((j : ℕ) → j < 8 → f j ≡ bit x j) → number (map f (range_with_len 0 8)) ≡ x
byte_bits x f h e =
    omega (arith, e 0 (omega arith), e 1 (omega arith), e 2 (omega arith), e 3 (omega arith), e 4 (omega arith), e 5 (omega arith), e 6 (omega arith), e 7 (omega arith))

module _ (bytes : List ℕ) (last : get_or bytes 32 0 < 2) where
  held-bit : (k : ℕ) → k < 33 → (j : ℕ) → j < 8 → get_or (state_of_bytes bytes) (8 * k + j) 0 ≡ bit (get_or bytes k 0) j
  unfolding state_of_bytes
  held-bit k h j hj =
      ⊎_elim
      (λ l. let byte : (8 * k + j) / 8 ≡ k = omega arith in
      let place : (8 * k + j) % 8 ≡ j = omega arith in
      getD_state _ (8 * k + j) l ∙ (ap (λ n. bit (get_or bytes n 0) ((8 * k + j) % 8)) byte ∙ ap (bit (get_or bytes k 0)) place))
      (λ l. let e : k ≡ 32 = omega arith in
      get_or_past (state_of_bytes bytes) (8 * k + j) 0 (omega (arith, length-state (λ i. bit (get_or bytes (i / 8) 0) (i % 8))))
      ∙ sym (ap (λ n. bit (get_or bytes n 0) j) e ∙ bit_past (get_or bytes 32 0) j (omega (arith, pow_mono {i = 1} {j = j} (omega arith)))))
      (cases_lt (8 * k + j) 257)

  -- bytes that hold a state, and no more, are the bytes of that state
  pub bytes_back : length bytes ≡ 33 → ((k : ℕ) → k < 33 → get_or bytes k 0 < 256) → bytes ≡ bytes_of_state (state_of_bytes bytes)
  unfolding bytes_of_state
  bytes_back long fits =
      fill_by_all (byte_of_state (state_of_bytes bytes)) bytes 33 0 long (λ k h. sym (byte_bits (get_or bytes k 0) _ (fits k h) (held-bit k h)))
