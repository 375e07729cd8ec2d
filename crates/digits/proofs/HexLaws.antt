-- Laws of hex digits: the turns of the loops over them, and digits read back.
use Rattle.std.proofs.Common.{not, ◌≡◌, ℕ, zero, suc, ◌+◌, ◌-◌, ◌*◌, ◌/◌, ◌%◌, ◌<◌, ◌≤◌, Bool, true, false, cond, ◌&&◌, eqb, leb, List, [], ◌∷◌, ◌++◌, length, get_or, take, drop, set, is_some, Some, None, Option, unwrap_or, sym, refl, ap, ◌∙◌, subst, ap₂, ⊎_elim, arith}
use Rattle.std.specs.Option.{option_or}
use Rattle.std.specs.List.{position_from}
use Rattle.std.proofs.lemmas.Iterator.Adapters.{position_from-zero}
use Rattle.std.proofs.lemmas.List.{append_assoc, get_or-take, get_or-drop, drop_more, drop_all, drop-set-lt, length-drop, take-append-drop, take_more_set}
use Rattle.std.proofs.lemmas.Bool.{and_from, and_right, cases_lt, cond_both, le-leb, lt-leb, lt-ltb, le-ltb, ne_eqb}
use Rattle.std.specs.Simd.{first_chunks}
use Rattle.digits.specs.declared.single.Letters.{Letters}
use Rattle.digits.specs.declared.single.Letters.TheVariants.{Lower, Either}
use Rattle.digits.specs.Digits.{low_value, capital_value, value_of, value_or_zero, bad_hex, hex_digit, capital_digit}
use Rattle.digits.specs.Pairs.{unhex_by, two_each, hex, capital_hex, laid}

abbrev pub no_digit : Letters → ℕ → Bool
no_digit letters c = not (is_some (value_of letters c))

abbrev at_end : List ℕ → Option ℕ
at_end xs = cond (eqb (length xs % 2) 1) (Some (length xs)) None

-- the first bad digit by recursion
abbrev bad_from : Letters → ℕ → List ℕ → Option ℕ
bad_from letters place xs = position_from (no_digit letters) place xs

by_recursion : (letters : Letters) (xs : List ℕ) → bad_hex letters xs ≡ option_or (bad_from letters 0 xs) (at_end xs)
by_recursion letters xs = ap (λ o. option_or o (at_end xs)) (position_from-zero (no_digit letters) xs)

-- a bad place is at most past the end
abbrev Within : ℕ → Option ℕ → Type 0
Within n None = Unit {0}
Within n (Some place) = place ≤ n

within_digits : (letters : Letters) (place n : ℕ) (xs : List ℕ) → place + length xs ≡ n → Within n (bad_from letters place xs)
within_digits letters place n [] e = tt
within_digits letters place n (x ∷ xs) e =
    cond_both (no_digit letters x) (Some place) (bad_from letters (place + 1) xs) (Within n) (λ _. omega arith) (λ _. within_digits letters (place + 1) n xs (omega arith))

within_or : (n : ℕ) (o p : Option ℕ) → Within n o → Within n p → Within n (option_or o p)
within_or n None p h k = k
within_or n (Some place) p h k = h

pub bad_within : (letters : Letters) (xs : List ℕ) (place : ℕ) → Some place ≡ bad_hex letters xs → place ≤ length xs
bad_within letters xs place e =
    subst (Within (length xs)) (sym (e ∙ by_recursion letters xs))
    (within_or (length xs) (bad_from letters 0 xs) (at_end xs) (within_digits letters 0 (length xs) xs (omega arith)) (cond_both (eqb (length xs % 2) 1) (Some (length xs)) None (Within (length xs)) (λ _. omega arith) (λ _. tt)))

-- a digit of the pair at i
chunk_at : (xs : List ℕ) (k i j : ℕ) (d : List ℕ) → i < k → j < 2 → get_or (get_or (first_chunks 2 k xs) i d) j 0 ≡ get_or xs (2 * i + j) 0
chunk_at xs zero i j d h l = absurd (omega arith)
chunk_at xs (suc k) zero j d h l = get_or-take 2 xs j 0 l ∙ ap (λ n. get_or xs n 0) (omega arith)
chunk_at xs (suc k) (suc i) j d h l =
    let next : 2 + (2 * i + j) ≡ 2 * suc i + j = omega arith in
    chunk_at (drop 2 xs) k i j d (omega arith) l ∙ get_or-drop 2 xs (2 * i + j) 0 ∙ ap (λ n. get_or xs n 0) next

pub digit_at : (letters : Letters) (xs : List ℕ) (ps : List (List ℕ)) (n i j place : ℕ) → ps ≡ first_chunks 2 (length xs / 2) xs → place ≡ 2 * i + j → i < n → i < length xs / 2 → j < 2
    → value_or_zero letters (get_or (get_or (take n ps) i []) j 0) ≡ value_or_zero letters (get_or xs place 0)
digit_at letters xs ps n i j place e at fits whole l =
    ap (λ p. value_or_zero letters (get_or p j 0)) (get_or-take n ps i [] fits ∙ ap (λ ps. get_or ps i []) e)
    ∙ ap (value_or_zero letters) (chunk_at xs (length xs / 2) i j [] whole l ∙ ap (λ n. get_or xs n 0) (sym at))

-- decoding: the pair of digits at 2 i writes the byte at i
pub laid_more : (letters : Letters) (xs out : List ℕ) (i v : ℕ) → 2 * i + 1 < length xs → i < length out → v ≡ 16 * value_or_zero letters (get_or xs (2 * i) 0) + value_or_zero letters (get_or xs (2 * i + 1) 0)
    → take (i + 1) (set out i v) ++ laid (unhex_by letters (drop (2 * (i + 1)) xs)) (drop (i + 1) (set out i v)) ≡ take i out ++ laid (unhex_by letters (drop (2 * i) xs)) (drop i out)
laid_more letters xs out i v h l e =
    let next : 2 * (i + 1) ≡ 2 * i + 1 + 1 = omega arith in
    let rest = unhex_by letters (drop (2 * i + 1 + 1) xs) in
    let old = drop (i + 1) out in
    let pair = drop_more xs (2 * i) 0 (omega arith) ∙ ap (λ r. get_or xs (2 * i) 0 ∷ r) (drop_more xs (2 * i + 1) 0 h) in
    ap₂ (λ f n. f ++ laid (unhex_by letters (drop n xs)) (drop (i + 1) (set out i v))) (take_more_set out i v l) next
    ∙ ap (λ o. (take i out ++ v ∷ []) ++ laid rest o) (drop-set-lt (i + 1) out i v (omega arith))
    ∙ append_assoc (take i out) (v ∷ []) (laid rest old)
    ∙ ap (λ b. take i out ++ (b ∷ laid rest old)) e
    ∙ ap₂ (λ r o. take i out ++ laid (unhex_by letters r) o) (sym pair) (sym (drop_more out i 0 l))

unhex_short : (letters : Letters) (xs : List ℕ) → length xs < 2 → unhex_by letters xs ≡ []
unhex_short letters [] h = refl
unhex_short letters (a ∷ []) h = refl
unhex_short letters (a ∷ b ∷ xs) h = absurd (omega arith)

laid_none : (bs : List ℕ) → laid bs [] ≡ []
laid_none [] = refl
laid_none (b ∷ bs) = refl

-- no room is left, or no pair
pub laid_full : (letters : Letters) (xs out : List ℕ) (i : ℕ) → length out ≤ i → take i out ++ laid (unhex_by letters (drop (2 * i) xs)) (drop i out) ≡ out
laid_full letters xs out i full =
    ap (λ o. take i out ++ laid (unhex_by letters (drop (2 * i) xs)) o) (drop_all i out full)
    ∙ ap (λ o. take i out ++ o) (laid_none (unhex_by letters (drop (2 * i) xs)) ∙ sym (drop_all i out full))
    ∙ take-append-drop i out

pub laid_out : (letters : Letters) (xs out : List ℕ) (i : ℕ) → length xs < 2 * i + 2 → take i out ++ laid (unhex_by letters (drop (2 * i) xs)) (drop i out) ≡ out
laid_out letters xs out i h =
    ap (λ b. take i out ++ laid b (drop i out)) (unhex_short letters (drop (2 * i) xs) (simp length-drop (omega arith))) ∙ take-append-drop i out

-- bytes that fit are at the front
pub laid_front : (bs old : List ℕ) → length bs ≤ length old → take (length bs) (laid bs old) ≡ bs
laid_front [] old h = refl
laid_front (b ∷ bs) [] h = absurd (omega arith)
laid_front (b ∷ bs) (o ∷ old) h = ap (λ l. b ∷ l) (laid_front bs old (omega arith))

-- and where they just fit, they are all
pub laid_whole : (bs old : List ℕ) → length bs ≡ length old → laid bs old ≡ bs
laid_whole [] [] h = refl
laid_whole [] (o ∷ old) h = absurd (omega arith)
laid_whole (b ∷ bs) [] h = absurd (omega arith)
laid_whole (b ∷ bs) (o ∷ old) h = ap (λ l. b ∷ l) (laid_whole bs old (omega arith))

pub length-unhex : (letters : Letters) (xs : List ℕ) → length (unhex_by letters xs) ≡ length xs / 2
length-unhex letters [] = refl
length-unhex letters (a ∷ []) = refl
length-unhex letters (a ∷ b ∷ xs) = let more = length-unhex letters xs in omega arith

length-two_each : (digit : ℕ → ℕ) (bs : List ℕ) → length (two_each digit bs) ≡ 2 * length bs
length-two_each digit [] = refl
length-two_each digit (b ∷ bs) = omega (arith, length-two_each digit bs)

pub length-hex : (bs : List ℕ) → length (hex bs) ≡ 2 * length bs
length-hex bs = length-two_each hex_digit bs

-- the digit of a number below 16 has its value
low_back : (n : ℕ) → n < 16 → low_value (hex_digit n) ≡ Some n
low_back n h = ⊎_elim decimal letter (cases_lt n 10)
  where
    decimal : n < 10 → low_value (hex_digit n) ≡ Some n
    decimal small =
        ap (λ t. low_value (cond t (48 + n) (97 + (n - 10)))) (lt-ltb n 10 small)
        ∙ ap (λ t. cond t (Some (48 + n - 48)) (cond (leb 97 (48 + n) && leb (48 + n) 102) (Some (48 + n - 97 + 10)) None))
        (and_from (leb 48 (48 + n)) (leb (48 + n) 57) (le-leb 48 (48 + n) (omega arith)) (le-leb (48 + n) 57 (omega arith)))
        ∙ ap Some (omega arith)

    letter : 10 ≤ n → low_value (hex_digit n) ≡ Some n
    letter large =
        let c = 97 + (n - 10) in
        ap (λ t. low_value (cond t (48 + n) c)) (le-ltb n 10 large)
        ∙ ap₂ (λ t u. cond (leb 48 c && t) (Some (c - 48)) (cond u (Some (c - 97 + 10)) None))
        (lt-leb c 57 (omega arith))
        (and_from (leb 97 c) (leb c 102) (le-leb 97 c (omega arith)) (le-leb c 102 (omega arith)))
        ∙ ap (λ t. cond t (Some (c - 48)) (Some (c - 97 + 10))) (and_right (leb 48 c) false refl)
        ∙ ap Some (omega arith)

value_back : (letters : Letters) (n : ℕ) → n < 16 → value_of letters (hex_digit n) ≡ Some n
value_back Lower n h = low_back n h
value_back Either n h = ap (λ o. option_or o (capital_value (hex_digit n))) (low_back n h)

-- the same of capitals, where they are digits
capital_back : (n : ℕ) → n < 16 → value_of Either (capital_digit n) ≡ Some n
capital_back n h = ⊎_elim decimal letter (cases_lt n 10)
  where
    decimal : n < 10 → value_of Either (capital_digit n) ≡ Some n
    decimal small =
        ap (λ t. value_of Either (cond t (48 + n) (65 + (n - 10)))) (lt-ltb n 10 small)
        ∙ ap (λ t. value_of Either (cond t (48 + n) (97 + (n - 10)))) (sym (lt-ltb n 10 small))
        ∙ value_back Either n h

    letter : 10 ≤ n → value_of Either (capital_digit n) ≡ Some n
    letter large =
        let c = 65 + (n - 10) in
        ap (λ t. value_of Either (cond t (48 + n) c)) (le-ltb n 10 large)
        ∙ ap₂ (λ t u. option_or (cond (leb 48 c && t) (Some (c - 48)) (cond (u && leb c 102) (Some (c - 97 + 10)) None)) (capital_value c))
        (lt-leb c 57 (omega arith)) (lt-leb 97 c (omega arith))
        ∙ ap (λ t. option_or (cond t (Some (c - 48)) None) (capital_value c)) (and_right (leb 48 c) false refl)
        ∙ ap (λ t. cond t (Some (c - 65 + 10)) None) (and_from (leb 65 c) (leb c 70) (le-leb 65 c (omega arith)) (le-leb c 70 (omega arith)))
        ∙ ap Some (omega arith)

-- digits that have the values of their numbers
module _ (letters : Letters) (digit : ℕ → ℕ) (back : (n : ℕ) → n < 16 → value_of letters (digit n) ≡ Some n) where
  -- the two digits of a byte
  module _ (b : ℕ) (byte : b < 256) where
    high : value_of letters (digit (b / 16)) ≡ Some (b / 16)
    high = back (b / 16) (omega arith)

    low : value_of letters (digit (b % 16)) ≡ Some (b % 16)
    low = back (b % 16) (omega arith)

    pair_back : 16 * value_or_zero letters (digit (b / 16)) + value_or_zero letters (digit (b % 16)) ≡ b
    pair_back = ap₂ (λ x y. 16 * unwrap_or x 0 + unwrap_or y 0) high low ∙ omega arith

    pair_good : (place : ℕ) (rest : List ℕ) → bad_from letters place (digit (b / 16) ∷ digit (b % 16) ∷ rest) ≡ bad_from letters (place + 1 + 1) rest
    pair_good place rest =
        ap₂ (λ x y. cond (not (is_some x)) (Some place) (cond (not (is_some y)) (Some (place + 1)) (bad_from letters (place + 1 + 1) rest))) high low

  same_bytes : (t : List ℕ) → ((i : ℕ) → get_or t i 0 < 256) → unhex_by letters (two_each digit t) ≡ t
  same_bytes [] h = refl
  same_bytes (b ∷ t) h = ap₂ (λ x xs. x ∷ xs) (pair_back b (h 0)) (same_bytes t (λ i. h (suc i)))

  good_digits : (place : ℕ) (t : List ℕ) → ((i : ℕ) → get_or t i 0 < 256) → bad_from letters place (two_each digit t) ≡ None
  good_digits place [] h = refl
  good_digits place (b ∷ t) h = pair_good b (h 0) place (two_each digit t) ∙ good_digits (place + 1 + 1) t (λ i. h (suc i))

  sound_digits : (t : List ℕ) → ((i : ℕ) → get_or t i 0 < 256) → bad_hex letters (two_each digit t) ≡ None
  sound_digits t h =
      let n = length (two_each digit t) in
      let even : eqb (n % 2) 1 ≡ false = ne_eqb (n % 2) 1 (λ e. omega (arith, length-two_each digit t)) in
      by_recursion letters (two_each digit t) ∙ ap₂ (λ o t. option_or o (cond t (Some n) None)) (good_digits 0 t h) even

pub unhex-hex : (letters : Letters) (t : List ℕ) → ((i : ℕ) → get_or t i 0 < 256) → unhex_by letters (hex t) ≡ t
unhex-hex letters t h = same_bytes letters hex_digit (value_back letters) t h

pub sound-hex : (letters : Letters) (t : List ℕ) → ((i : ℕ) → get_or t i 0 < 256) → bad_hex letters (hex t) ≡ None
sound-hex letters t h = sound_digits letters hex_digit (value_back letters) t h

pub unhex-capitals : (t : List ℕ) → ((i : ℕ) → get_or t i 0 < 256) → unhex_by Either (capital_hex t) ≡ t
unhex-capitals t h = same_bytes Either capital_digit capital_back t h

pub sound-capitals : (t : List ℕ) → ((i : ℕ) → get_or t i 0 < 256) → bad_hex Either (capital_hex t) ≡ None
sound-capitals t h = sound_digits Either capital_digit capital_back t h
