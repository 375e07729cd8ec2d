-- How a command is written as a line, and the law that reading gives it back.
use Rattle.std.specs.Prelude.{◌≡◌, ℕ, ◌<◌, ◌≤◌, Bool, true, false, List, [], ◌∷◌, ◌++◌, length, Ok, codes, decimal, slice_index}
use Prim.Native.String.{String}
use Rattle.commands.specs.declared.terms.Command.{Command}
use Rattle.commands.specs.declared.terms.Command.TheVariants.{Zero, Absorb, AbsorbUnkeyed, Encrypt, Decrypt, Blank, Squeeze}
use Rattle.digits.specs.Pairs.{hex}
use Rattle.commands.specs.Lines.{parsed, string_of, Within}

-- the letter alone for the empty string, else a blank and the hex digits
abbrev pub string_line : String → List ℕ → List ℕ
string_line letter [] = codes letter
string_line letter (b ∷ bs) = codes letter ++ codes " " ++ hex (b ∷ bs)

abbrev pub count_line : String → ℕ → List ℕ
count_line letter n = codes letter ++ codes " " ++ decimal n

abbrev pub line_of : Command → List ℕ → List ℕ
line_of Zero t = codes "Z"
line_of Absorb t = string_line "A" t
line_of AbsorbUnkeyed t = string_line "U" t
line_of Encrypt t = string_line "C" t
line_of Decrypt t = string_line "P" t
line_of (Blank n) t = count_line "B" n
line_of (Squeeze n) t = count_line "S" n

-- bytes, at most 64 of them
pub record ShortString (t : List ℕ) : Type 0 where
  pub few : length t ≤ 64
  pub bytes : (i : ℕ) → slice_index t i < 256

abbrev pub takes_string : Command → Bool
takes_string Zero = false
takes_string Absorb = true
takes_string AbsorbUnkeyed = true
takes_string Encrypt = true
takes_string Decrypt = true
takes_string (Blank n) = false
takes_string (Squeeze n) = false

-- what is written is read back: the command, and the string of one that takes a string
pub record LinesReadBack : Type 0 where
  pub commands : (command : Command) (t : List ℕ) → Within command → ShortString t → parsed (line_of command t) ≡ Ok command
  pub strings : (command : Command) (t : List ℕ) → takes_string command ≡ true → ShortString t → string_of (line_of command t) ≡ t
