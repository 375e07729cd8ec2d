-- What is written as a line is read back: strings and counts.
use Rattle.std.proofs.Common.{◌≡◌, ℕ, ◌+◌, ◌<◌, ◌≤◌, Bool, true, false, cond, ◌&&◌, eqb, leb, List, ◌∷◌, length, get_or, Some, None, Ok, Err, decimal, Result, sym, refl, ap, ◌∙◌, ap₂, arith}
use Rattle.std.specs.List.{range_with_len}
use Rattle.std.specs.Option.{option_map}
use Rattle.std.specs.Fmt.{digits}
use Rattle.std.proofs.lemmas.List.FromFn.{get_or-range_with_len}
use Rattle.std.proofs.lemmas.Bool.{eqb-true, leb-true, and_parts, le-ltb, ne_eqb, both_ways}
use Rattle.duplex.proofs.Tables.{every, every_at}
use Rattle.digits.specs.declared.single.Letters.TheVariants.{Lower}
use Rattle.digits.specs.Pairs.{hex, unhex_by}
use Rattle.digits.proofs.HexLaws.{length-hex, sound-hex, unhex-hex}
use Rattle.commands.specs.declared.terms.Command.{Command}
use Rattle.commands.specs.declared.terms.Fault.{Fault}
use Rattle.commands.specs.declared.terms.Fault.TheVariants.{Length}
use Rattle.commands.specs.Lines.{hex_fault, unless, with_string, with_count, by_letter, parsed}
use Rattle.commands.specs.Writing.{ShortString}

-- a test of all numbers below n, carried to each
below : (f : ℕ → Bool) (n : ℕ) → every (λ i x. f x) 0 (range_with_len 0 n) ≡ true → (k : ℕ) → k < n → k < length (range_with_len 0 n) → f k ≡ true
below f n t k h l =
    let e : 0 + k ≡ k = omega arith in
    ap f (sym (get_or-range_with_len 0 n k 0 h ∙ e)) ∙ every_at (λ i x. f x) (range_with_len 0 n) t k l

-- a string that is not empty is written without a fault
no_fault : (b : ℕ) (t : List ℕ) → ((i : ℕ) → get_or (b ∷ t) i 0 < 256) → hex_fault (hex (b ∷ t)) ≡ None
unfolding hex_fault
no_fault b t h =
    ap₂ (λ t o. cond t (Some 3) (option_map (λ place. 3 + place) o))
    (ne_eqb (length (hex (b ∷ t))) 0 (λ e. omega (arith, length-hex (b ∷ t))))
    (sound-hex Lower (b ∷ t) h)

pub string_follows : (command : Command) (b : ℕ) (t : List ℕ) → ((i : ℕ) → get_or (b ∷ t) i 0 < 256) → with_string command (32 ∷ hex (b ∷ t)) ≡ Ok command
unfolding with_string
string_follows command b t h = ap (λ o. unless o command) (no_fault b t h)

-- a line that is not too long goes by its letter
pub short_enough : (c : ℕ) (rest : List ℕ) → length rest ≤ 129 → parsed (c ∷ rest) ≡ by_letter c rest
short_enough c rest h = ap (λ t. cond t (Err Length) (by_letter c rest)) (le-ltb 130 (length (c ∷ rest)) (omega arith))

pub string_back : (t : List ℕ) → ShortString t → unhex_by Lower (hex t) ≡ t
string_back t s = unhex-hex Lower t s.bytes

-- counts
abbrev counts : Result ℕ Fault → ℕ → Bool
counts (Ok m) n = eqb m n
counts (Err fault) n = false

counts_ok : (r : Result ℕ Fault) (n : ℕ) → counts r n ≡ true → r ≡ Ok n
counts_ok (Ok m) n t = ap Ok (eqb-true m n t)
counts_ok (Err fault) n t = absurd (both_ways false refl t)

abbrev count_test : ℕ → Bool
count_test n = counts (with_count (32 ∷ decimal n)) n && leb (length (decimal n)) 2

tested : (n : ℕ) → n ≤ 64 → count_test n ≡ true
unfolding with_count digits
tested n h = below count_test 65 refl n (omega arith) (omega arith)

pub count_back : (n : ℕ) → n ≤ 64 → (with_count (32 ∷ decimal n) ≡ Ok n) × (length (decimal n) ≤ 2)
count_back n h =
    let parts = and_parts (counts (with_count (32 ∷ decimal n)) n) (leb (length (decimal n)) 2) (tested n h) in
    (counts_ok (with_count (32 ∷ decimal n)) n parts.0, leb-true (length (decimal n)) 2 parts.1)
