-- Differences folded with or: they are zero just where all bytes are the same.
use Rattle.std.proofs.Common.{◌≡◌, ℕ, Bool, true, false, ◌&&◌, eqb, List, [], ◌∷◌, length, sym, refl, ap, ◌∙◌, ap₂, arith}
use lib.Bits.{bit_or, bit_xor, or_zero_l, xor_add_and, xor_self}
use Rattle.std.specs.List.{fold, zip}
use Rattle.std.specs.Str.{bytes_eq}
use Rattle.std.proofs.Math.Bool.{and_assoc, and-true}
use Rattle.std.proofs.lemmas.Nat.{and_le_l, and_le_r, le_or_l, le_or_r}
use Rattle.std.proofs.lemmas.Bool.{eq-eqb, ne_eqb, eqb-true, eqb-false}

xor_apart : (x y : ℕ) → bit_xor x y ≡ 0 → x ≡ y
xor_apart x y h = omega (arith, xor_add_and x y, and_le_l x y, and_le_r x y)

-- one more difference
abbrev pub join : ℕ → ℕ × ℕ → ℕ
join d p = bit_or d (bit_xor p.0 p.1)

joined : (d x y : ℕ) → eqb (join d (x, y)) 0 ≡ (eqb d 0 && eqb x y)
joined d x y = at (eqb d 0) refl (eqb x y) refl
  where
    at : (a : Bool) → eqb d 0 ≡ a → (b : Bool) → eqb x y ≡ b → eqb (join d (x, y)) 0 ≡ (a && b)
    at true p true q = eq-eqb _ 0 (ap₂ bit_or (eqb-true d 0 p) (ap (λ z. bit_xor z y) (eqb-true x y q) ∙ xor_self y) ∙ or_zero_l 0)
    at true p false q = ne_eqb _ 0 (λ z. eqb-false x y q (xor_apart x y (omega (arith, le_or_r d (bit_xor x y)))))
    at false p b q = ne_eqb _ 0 (λ z. eqb-false d 0 p (omega (arith, le_or_l d (bit_xor x y))))

pub differences : (d : ℕ) (xs ys : List ℕ) → length xs ≡ length ys → eqb (fold join d (zip xs ys)) 0 ≡ (eqb d 0 && bytes_eq xs ys)
differences d [] [] h = sym (and-true (eqb d 0))
differences d [] (y ∷ ys) h = absurd (omega arith)
differences d (x ∷ xs) [] h = absurd (omega arith)
differences d (x ∷ xs) (y ∷ ys) h =
    differences (join d (x, y)) xs ys (omega arith) ∙ (ap (λ b. b && bytes_eq xs ys) (joined d x y) ∙ and_assoc (eqb d 0) (eqb x y) (bytes_eq xs ys))
