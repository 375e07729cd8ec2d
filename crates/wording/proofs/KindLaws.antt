-- The byte that a word stands for, by the first kind that it names.
use Rattle.std.proofs.Common.{◌≡◌, ℕ, Bool, true, false, cond, List, [], ◌∷◌, Some, Option, refl, ap, ◌∙◌}
use Rattle.std.specs.List.{find}
use Rattle.std.specs.Option.{option_map, option_or}
use Rattle.std.specs.Str.{bytes_eq}
use Rattle.link.specs.declared.kind.Kind.{Kind}
use Rattle.link.specs.Kinds.{kind_byte}
use Rattle.wording.specs.Terms.{name_of, kinds, two_digits, else_byte, byte_named}

abbrev pub is_name : List ℕ → Kind → Bool
is_name word kind = bytes_eq word (name_of kind)

abbrev by_kinds : List ℕ → List Kind → Option ℕ
by_kinds word [] = two_digits word
by_kinds word (kind ∷ ks) = else_byte word kind (by_kinds word ks)

abbrev found : List ℕ → Option Kind → Option ℕ
found word o = option_or (option_map kind_byte o) (two_digits word)

step : (word : List ℕ) (t : Bool) (kind : Kind) (o : Option Kind) → found word (cond t (Some kind) o) ≡ cond t (Some (kind_byte kind)) (found word o)
step word true kind o = refl
step word false kind o = refl

first_named : (word : List ℕ) (ks : List Kind) → found word (find (is_name word) ks) ≡ by_kinds word ks
first_named word [] = refl
first_named word (kind ∷ ks) =
    step word (is_name word kind) kind (find (is_name word) ks) ∙ ap (else_byte word kind) (first_named word ks)

pub named : (word : List ℕ) (o : Option Kind) → o ≡ find (is_name word) kinds → option_or (option_map kind_byte o) (two_digits word) ≡ byte_named word
named word o e = ap (found word) e ∙ first_named word kinds
