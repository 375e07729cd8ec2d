-- What a loop over bytes prints: two digits more for each.
use Rattle.std.proofs.Common.{◌≡◌, ℕ, ◌+◌, ◌-◌, ◌/◌, ◌%◌, ◌^◌, ◌<◌, ◌≤◌, Bool, true, false, List, [], ◌∷◌, ◌++◌, length, get_or, take, sym, refl, ap, ◌∙◌, ap₂, arith, ⊎_elim}
use Rattle.std.specs.Fmt.{digit_glyph, digits, padded_integral, format_spec}
use Rattle.std.proofs.lemmas.Bool.{cases_lt}
use Rattle.std.proofs.lemmas.Fmt.{hex_byte}
use Rattle.std.proofs.lemmas.List.{take_more}
use Rattle.digits.specs.Digits.{hex_digit, capital_digit}
use Rattle.digits.specs.Pairs.{two_each, hex, capital_hex}

two_each-append : (digit : ℕ → ℕ) (xs ys : List ℕ) → two_each digit (xs ++ ys) ≡ two_each digit xs ++ two_each digit ys
two_each-append digit [] ys = refl
two_each-append digit (x ∷ xs) ys = ap (λ l. digit (x / 16) ∷ digit (x % 16) ∷ l) (two_each-append digit xs ys)

-- std's digit is ours
glyph_lower : (n : ℕ) → digit_glyph false n ≡ hex_digit n
glyph_lower n = ⊎_elim (λ (h : n < 10). grind arith) (λ (h : 10 ≤ n). grind arith) (cases_lt n 10)

glyph_capital : (n : ℕ) → digit_glyph true n ≡ capital_digit n
glyph_capital n = ⊎_elim (λ (h : n < 10). grind arith) (λ (h : 10 ≤ n). grind arith) (cases_lt n 10)

-- what `{:02x}` writes of a byte, or `{:02X}`
abbrev pub printed : Bool → ℕ → List ℕ
printed capitals b = padded_integral (format_spec 32 0 4 2 (2 ^ 64 - 1)) false [] (digits 16 capitals b)

more : (capitals : Bool) (digit : ℕ → ℕ) → ((n : ℕ) → digit_glyph capitals n ≡ digit n) → (xs : List ℕ) (i : ℕ) → i < length xs → get_or xs i 0 < 256
    → two_each digit (take i xs) ++ printed capitals (get_or xs i 0) ≡ two_each digit (take (i + 1) xs)
more capitals digit same xs i h byte =
    let b = get_or xs i 0 in
    ap (λ l. two_each digit (take i xs) ++ l) (hex_byte capitals b byte ∙ ap₂ (λ x y. x ∷ y ∷ []) (same (b / 16)) (same (b % 16)))
    ∙ sym (two_each-append digit (take i xs) (b ∷ []))
    ∙ ap (two_each digit) (sym (take_more xs i 0 h))

pub hex_more : (xs : List ℕ) (i : ℕ) → i < length xs → get_or xs i 0 < 256 → hex (take i xs) ++ printed false (get_or xs i 0) ≡ hex (take (i + 1) xs)
hex_more xs i h byte = more false hex_digit glyph_lower xs i h byte

pub capital_more : (xs : List ℕ) (i : ℕ) → i < length xs → get_or xs i 0 < 256 → capital_hex (take i xs) ++ printed true (get_or xs i 0) ≡ capital_hex (take (i + 1) xs)
capital_more xs i h byte = more true capital_digit glyph_capital xs i h byte
