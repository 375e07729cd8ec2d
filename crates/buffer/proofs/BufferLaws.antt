-- Laws of a buffer: what is written piece by piece is what is written at once.
use Rattle.std.proofs.Common.{◌≡◌, ℕ, zero, suc, ◌+◌, ◌/◌, ◌%◌, ◌^◌, ◌<◌, ◌≤◌, List, [], ◌∷◌, ◌++◌, length, take, set, decimal, sym, refl, ap, ◌∙◌, arith}
use Rattle.std.proofs.lemmas.List.{append_assoc, append-nil, length-append, length-take, take_all, take_at, take_more_set}
use Rattle.std.proofs.lemmas.Fmt.{decimal_step, decimal_digit}
use Rattle.buffer.specs.declared.buffer.Buffer.{Buffer}
use Rattle.buffer.specs.Buffers.{held, kept}

pub take_front : (n : ℕ) (xs ys : List ℕ) → take n (take n xs ++ ys) ≡ take n (xs ++ ys)
take_front zero xs ys = refl
take_front (suc n) [] ys = refl
take_front (suc n) (x ∷ xs) ys = ap (λ l. x ∷ l) (take_front n xs ys)

pub kept_kept : (h xs ys : List ℕ) → kept (kept h xs) ys ≡ kept h (xs ++ ys)
unfolding kept
kept_kept h xs ys = take_front 131 (h ++ xs) ys ∙ ap (take 131) (append_assoc h xs ys)

pub kept_all : (h xs : List ℕ) → length h + length xs ≤ 131 → kept h xs ≡ h ++ xs
unfolding kept
kept_all h xs room = take_all 131 (h ++ xs) (simp length-append (omega arith))

kept_full : (h xs : List ℕ) → length h ≡ 131 → kept h xs ≡ h
unfolding kept
kept_full h xs full = take_at h xs 131 full

pub length-held : (b : Buffer) → length (held b) ≡ b.count
length-held b = length-take b.count b.cells ∙ omega (arith, b.width, b.fits)

pub held_all : (b : Buffer) → kept (held b) [] ≡ held b
held_all b = kept_all (held b) [] (omega (arith, length-held b, b.fits)) ∙ append-nil (held b)

-- a push, where there is room and where there is none
pub push_more : (cells : List ℕ) (count byte : ℕ) → length cells ≡ 131 → count < 131 → take (count + 1) (set cells count byte) ≡ kept (take count cells) (byte ∷ [])
push_more cells count byte w h =
    let n : length (take count cells) ≡ count = length-take count cells ∙ omega arith in
    take_more_set cells count byte (omega arith) ∙ sym (kept_all (take count cells) (byte ∷ []) (omega arith))

pub push_none : (b : Buffer) (byte : ℕ) → 131 ≤ b.count → held b ≡ kept (held b) (byte ∷ [])
push_none b byte h = sym (kept_full (held b) (byte ∷ []) (length-held b ∙ omega (arith, b.fits)))

-- two pushes
pub two_more : (h h₁ h₂ rest : List ℕ) (x x' y y' : ℕ) → x ≡ x' → y ≡ y' → h₁ ≡ kept h (x ∷ []) → h₂ ≡ kept h₁ (y ∷ []) → kept h₂ rest ≡ kept h (x' ∷ y' ∷ rest)
two_more h h₁ h₂ rest x x' y y' ex ey e₁ e₂ =
    let one = kept_kept h (x ∷ []) (y ∷ []) in
    let two = kept_kept h (x ∷ y ∷ []) rest in
    cc

-- a number, whose last digit is pushed after the others
pub last_digit : (h h₁ h₂ : List ℕ) (n : ℕ) → n < 2 ^ 64 → 10 ≤ n → h₁ ≡ kept h (decimal (n / 10)) → h₂ ≡ kept h₁ ((48 + n % 10) ∷ []) → h₂ ≡ kept h (decimal n)
last_digit h h₁ h₂ n small big e₁ e₂ =
    e₂ ∙ ap (λ h. kept h ((48 + n % 10) ∷ [])) e₁ ∙ kept_kept h (decimal (n / 10)) ((48 + n % 10) ∷ []) ∙ ap (kept h) (sym (decimal_step n big small))

pub one_digit : (h h₂ : List ℕ) (n : ℕ) → n < 10 → h₂ ≡ kept h ((48 + n % 10) ∷ []) → h₂ ≡ kept h (decimal n)
one_digit h h₂ n small e =
    let d : n % 10 ≡ n = omega arith in
    e ∙ ap (λ m. kept h ((48 + m) ∷ [])) d ∙ ap (kept h) (sym (decimal_digit n small))

-- one piece after another
pub kept_then : (h xs ys r r' : List ℕ) → r ≡ kept h xs → r' ≡ kept r ys → r' ≡ kept h (xs ++ ys)
kept_then h xs ys r r' e e' = e' ∙ ap (λ h. kept h ys) e ∙ kept_kept h xs ys

-- what fits into an empty buffer
pub kept_new : (h xs r : List ℕ) → h ≡ [] → r ≡ kept h xs → length xs ≤ 131 → r ≡ xs
kept_new h xs r empty e room = e ∙ ap (λ h. kept h xs) empty ∙ kept_all [] xs (omega arith)
