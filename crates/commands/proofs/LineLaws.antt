-- Laws of the lines: a line by its first byte and the rest, as the code takes it apart.
use Rattle.std.proofs.Common.{◌≡◌, ℕ, ◌+◌, ◌-◌, ◌<◌, cond, eqb, List, length, get_or, take, drop, Some, Err, Option, sym, ap, ◌∙◌}
use Rattle.std.specs.Option.{option_map}
use Rattle.std.proofs.lemmas.Slice.{first_rest}
use Rattle.std.proofs.lemmas.Bool.{ne_eqb, eq-eqb}
use Rattle.digits.specs.declared.single.Letters.TheVariants.{Lower}
use Rattle.digits.specs.Digits.{bad_hex}
use Rattle.commands.specs.declared.terms.Command.{Command}
use Rattle.commands.specs.declared.terms.Fault.TheVariants.{Byte}
use Rattle.commands.specs.Lines.{hex_fault, unless, with_string, count_digits, with_count}

-- all but the first byte
abbrev pub tail : List ℕ → List ℕ
tail xs = take (length xs - 1) (drop 1 xs)

pub string_digits : (command : Command) (rest : List ℕ) (o : Option ℕ) → 0 < length rest → get_or rest 0 0 ≡ 32 → o ≡ hex_fault (tail rest) → unless o command ≡ with_string command rest
unfolding with_string
string_digits command rest o some blank e =
    ap (λ o. unless o command) e
    ∙ sym (ap (with_string command) (first_rest rest 0 some) ∙ ap (λ n. cond (eqb n 32) (unless (hex_fault (tail rest)) command) (Err Byte)) blank)

pub count_follows : (rest : List ℕ) → 0 < length rest → get_or rest 0 0 ≡ 32 → count_digits (tail rest) ≡ with_count rest
unfolding with_count
count_follows rest some blank = sym (ap with_count (first_rest rest 0 some) ∙ ap (λ n. cond (eqb n 32) (count_digits (tail rest)) (Err Byte)) blank)

pub string_no_blank : (command : Command) (rest : List ℕ) → 0 < length rest → (get_or rest 0 0 ≡ 32 → ⊥) → Err Byte ≡ with_string command rest
unfolding with_string
string_no_blank command rest some no-blank =
    sym (ap (with_string command) (first_rest rest 0 some) ∙ ap (λ t. cond t (unless (hex_fault (tail rest)) command) (Err Byte)) (ne_eqb (get_or rest 0 0) 32 no-blank))

pub count_no_blank : (rest : List ℕ) → 0 < length rest → (get_or rest 0 0 ≡ 32 → ⊥) → Err Byte ≡ with_count rest
unfolding with_count
count_no_blank rest some no-blank =
    sym (ap with_count (first_rest rest 0 some) ∙ ap (λ t. cond t (count_digits (tail rest)) (Err Byte)) (ne_eqb (get_or rest 0 0) 32 no-blank))

-- the first bad place of digits that are some
pub column_of : (xs : List ℕ) (o : Option ℕ) → (length xs ≡ 0 → ⊥) → o ≡ bad_hex Lower xs → option_map (λ place. 3 + place) o ≡ hex_fault xs
unfolding hex_fault
column_of xs o some e =
    ap (option_map (λ place. 3 + place)) e ∙ sym (ap (λ t. cond t (Some 3) (option_map (λ place. 3 + place) (bad_hex Lower xs))) (ne_eqb (length xs) 0 some))

pub column_none : (xs : List ℕ) → length xs ≡ 0 → Some 3 ≡ hex_fault xs
unfolding hex_fault
column_none xs none = sym (ap (λ t. cond t (Some 3) (option_map (λ place. 3 + place) (bad_hex Lower xs))) (eq-eqb (length xs) 0 none))
