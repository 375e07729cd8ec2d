-- Each command by its letter, and its string or count.
use Rattle.std.proofs.Common.{◌≡◌, ℕ, ◌≤◌, true, false, List, [], ◌∷◌, Ok, decimal, refl, ap, ◌∙◌, arith}
use Rattle.std.proofs.lemmas.Bool.{both_ways}
use Rattle.commands.specs.declared.terms.Command.{Command}
use Rattle.commands.specs.declared.terms.Command.TheVariants.{Zero, Absorb, AbsorbUnkeyed, Encrypt, Decrypt, Blank, Squeeze}
use Rattle.digits.specs.Pairs.{hex}
use Rattle.commands.specs.Lines.{parsed, by_letter, with_string, with_count, counting, string_of, Within}
use Rattle.commands.specs.Writing.{line_of, takes_string, ShortString}
use Rattle.digits.proofs.HexLaws.{length-hex}
use Rattle.commands.proofs.WritingLaws.{string_follows, short_enough, string_back, count_back}
use Rattle.commands.proofs.lines_read_back.Goals as goal

-- the line of a letter that goes by its string
strings_line : (letter : ℕ) (command : Command) (b : ℕ) (t : List ℕ) → ((rest : List ℕ) → by_letter letter rest ≡ with_string command rest) → ShortString (b ∷ t)
    → parsed (letter ∷ 32 ∷ hex (b ∷ t)) ≡ Ok command
strings_line letter command b t by s =
    short_enough letter (32 ∷ hex (b ∷ t)) (omega (arith, length-hex (b ∷ t), s.few))
    ∙ by (32 ∷ hex (b ∷ t)) ∙ string_follows command b t s.bytes

counts_line : (letter n : ℕ) (f : ℕ → Command) → ((rest : List ℕ) → by_letter letter rest ≡ counting f (with_count rest)) → n ≤ 64 → parsed (letter ∷ 32 ∷ decimal n) ≡ Ok (f n)
counts_line letter n f by h =
    let back = count_back n h in
    short_enough letter (32 ∷ decimal n) (omega (arith, back.1)) ∙ by (32 ∷ decimal n) ∙ ap (counting f) back.0

commands : (command : Command) (t : List ℕ) → Within command → ShortString t → parsed (line_of command t) ≡ Ok command
unfolding with_string
commands Zero t w s = refl
commands Absorb [] w s = refl
commands Absorb (b ∷ t) w s = strings_line 65 Absorb b t (λ rest. refl) s
commands AbsorbUnkeyed [] w s = refl
commands AbsorbUnkeyed (b ∷ t) w s = strings_line 85 AbsorbUnkeyed b t (λ rest. refl) s
commands Encrypt [] w s = refl
commands Encrypt (b ∷ t) w s = strings_line 67 Encrypt b t (λ rest. refl) s
commands Decrypt [] w s = refl
commands Decrypt (b ∷ t) w s = strings_line 80 Decrypt b t (λ rest. refl) s
commands (Blank n) t w s = counts_line 66 n Blank (λ rest. refl) w
commands (Squeeze n) t w s = counts_line 83 n Squeeze (λ rest. refl) w

strings : (command : Command) (t : List ℕ) → takes_string command ≡ true → ShortString t → string_of (line_of command t) ≡ t
strings Zero t e s = absurd (both_ways false refl e)
strings Absorb [] e s = refl
strings Absorb (b ∷ t) e s = string_back (b ∷ t) s
strings AbsorbUnkeyed [] e s = refl
strings AbsorbUnkeyed (b ∷ t) e s = string_back (b ∷ t) s
strings Encrypt [] e s = refl
strings Encrypt (b ∷ t) e s = string_back (b ∷ t) s
strings Decrypt [] e s = refl
strings Decrypt (b ∷ t) e s = string_back (b ∷ t) s
strings (Blank n) t e s = absurd (both_ways false refl e)
strings (Squeeze n) t e s = absurd (both_ways false refl e)

pub returns : goal.returns
returns c = record { commands = commands; strings = strings }
