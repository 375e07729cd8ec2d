-- What a good line has: at most 130 bytes, and a count of at most 64.
use Rattle.std.proofs.Common.{◌≡◌, ℕ, ◌+◌, ◌-◌, ◌*◌, ◌≤◌, Bool, cond, ◌&&◌, eqb, ltb, leb, List, [], ◌∷◌, length, Some, None, Ok, Err, Option, Result, sym, subst}
use Rattle.std.proofs.lemmas.Bool.{cond_both, leb-true}
use Rattle.digits.specs.Digits.{char_of, is_decimal}
use Rattle.commands.specs.declared.terms.Command.{Command}
use Rattle.commands.specs.declared.terms.Command.TheVariants.{Zero, Absorb, AbsorbUnkeyed, Encrypt, Decrypt, Blank, Squeeze}
use Rattle.commands.specs.declared.terms.Fault.{Fault}
use Rattle.commands.specs.declared.terms.Fault.TheVariants.{Byte, Count, Length}
use Rattle.commands.specs.Lines.{hex_fault, unless, with_string, up_to_64, count_digits, with_count, counting, alone, by_letter, short_line, parsed, Within}

-- P of a good answer
abbrev Good : (Command → Type 0) → Result Command Fault → Type 0
Good P (Ok command) = P command
Good P (Err fault) = Unit {0}

good_if : (P : Command → Type 0) (b : Bool) (x y : Result Command Fault) → Good P x → Good P y → Good P (cond b x y)
good_if P b x y hx hy = cond_both b x y (Good P) (λ _. hx) (λ _. hy)

good_unless : (o : Option ℕ) (command : Command) → Within command → Good Within (unless o command)
good_unless None command h = h
good_unless (Some column) command h = tt

good_string : (command : Command) (rest : List ℕ) → Within command → Good Within (with_string command rest)
unfolding with_string
good_string command [] h = h
good_string command (c ∷ digits) h = good_if Within (eqb c 32) (unless (hex_fault digits) command) (Err Byte) (good_unless (hex_fault digits) command h) tt

-- a count that is told is at most 64
abbrev Small : Result ℕ Fault → Type 0
Small (Ok n) = n ≤ 64
Small (Err fault) = Unit {0}

small_if : (b : Bool) (x y : Result ℕ Fault) → Small x → Small y → Small (cond b x y)
small_if b x y hx hy = cond_both b x y Small (λ _. hx) (λ _. hy)

small_64 : (n : ℕ) → Small (up_to_64 n)
small_64 n = cond_both (leb n 64) (Ok n) (Err Count) Small (leb-true n 64) (λ _. tt)

small_digits : (digits : List ℕ) → Small (count_digits digits)
small_digits [] = tt
small_digits (a ∷ []) = small_if (is_decimal a) (up_to_64 (a - char_of "0")) (Err Count) (small_64 (a - char_of "0")) tt
small_digits (a ∷ b ∷ []) =
    let n = 10 * (a - char_of "0") + (b - char_of "0") in
    small_if (is_decimal a && is_decimal b) (up_to_64 n) (Err Count) (small_64 n) tt
small_digits (a ∷ b ∷ c ∷ cs) = tt

small_count : (rest : List ℕ) → Small (with_count rest)
unfolding with_count
small_count [] = tt
small_count (c ∷ digits) = small_if (eqb c 32) (count_digits digits) (Err Byte) (small_digits digits) tt

good_counting : (f : ℕ → Command) (r : Result ℕ Fault) → ((n : ℕ) → n ≤ 64 → Within (f n)) → Small r → Good Within (counting f r)
good_counting f (Ok n) w h = w n h
good_counting f (Err fault) w h = tt

good_alone : (rest : List ℕ) → Good Within (alone Zero rest)
good_alone [] = tt
good_alone (c ∷ cs) = tt

good_letter : (c : ℕ) (rest : List ℕ) → Good Within (by_letter c rest)
good_letter c rest =
    good_if Within (eqb c 90) _ _ (good_alone rest)
    (good_if Within (eqb c 65) _ _ (good_string Absorb rest tt)
    (good_if Within (eqb c 85) _ _ (good_string AbsorbUnkeyed rest tt)
    (good_if Within (eqb c 67) _ _ (good_string Encrypt rest tt)
    (good_if Within (eqb c 80) _ _ (good_string Decrypt rest tt)
    (good_if Within (eqb c 66) _ _ (good_counting Blank (with_count rest) (λ n h. h) (small_count rest))
    (good_if Within (eqb c 83) _ _ (good_counting Squeeze (with_count rest) (λ n h. h) (small_count rest)) tt))))))

good_short : (line : List ℕ) → Good Within (short_line line)
good_short [] = tt
good_short (c ∷ rest) = good_letter c rest

pub parsed_within : (line : List ℕ) (command : Command) → Ok command ≡ parsed line → Within command
parsed_within line command e = subst (Good Within) (sym e) (good_if Within (ltb 130 (length line)) (Err Length) (short_line line) tt (good_short line))
