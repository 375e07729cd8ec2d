-- The lines of the bench: what a line asks for, or why it is refused.
use Rattle.std.specs.Prelude.{ℕ, ◌+◌, ◌-◌, ◌*◌, ◌≤◌, cond, ◌&&◌, List, [], ◌∷◌, length, drop, Some, None, Ok, Err, Option, Result, ◌==◌, nat_le, nat_lt}
use Rattle.std.specs.Option.{option_map}
use Rattle.std.specs.Result.{result_map_both}
use Rattle.digits.specs.declared.single.Letters.TheVariants.{Lower}
use Rattle.digits.specs.Digits.{char_of, is_decimal, bad_hex}
use Rattle.digits.specs.Pairs.{unhex_by}
use Rattle.commands.specs.declared.terms.Command.{Command}
use Rattle.commands.specs.declared.terms.Command.TheVariants.{Zero, Absorb, AbsorbUnkeyed, Encrypt, Decrypt, Blank, Squeeze}
use Rattle.commands.specs.declared.terms.Fault.{Fault}
use Rattle.commands.specs.declared.terms.Fault.TheVariants.{Letter, Byte, Hex, Count, Length}

-- what spoils the digits, which begin at column 3: the first bad column, or the one past the end where they are odd or none
unfoldable pub hex_fault : List ℕ → Option ℕ
hex_fault digits = cond (length digits == 0) (Some 3) (option_map (λ place. 3 + place) (bad_hex Lower digits))

abbrev pub unless : Option ℕ → Command → Result Command Fault
unless None command = Ok command
unless (Some column) command = Err (Hex column)

-- what follows the letter of a command with a string
unfoldable pub with_string : Command → List ℕ → Result Command Fault
with_string command [] = Ok command
with_string command (c ∷ digits) = cond (c == (char_of " ")) (unless (hex_fault digits) command) (Err Byte)

-- a count: one digit or two, with a value of at most 64
abbrev pub up_to_64 : ℕ → Result ℕ Fault
up_to_64 n = cond (nat_le n 64) (Ok n) (Err Count)

abbrev pub count_digits : List ℕ → Result ℕ Fault
count_digits [] = Err Count
count_digits (a ∷ []) = cond (is_decimal a) (up_to_64 (a - char_of "0")) (Err Count)
count_digits (a ∷ b ∷ []) = cond (is_decimal a && is_decimal b) (up_to_64 (10 * (a - char_of "0") + (b - char_of "0"))) (Err Count)
count_digits (a ∷ b ∷ c ∷ cs) = Err Count

-- what follows the letter of a command with a count
unfoldable pub with_count : List ℕ → Result ℕ Fault
with_count [] = Err Byte
with_count (c ∷ digits) = cond (c == (char_of " ")) (count_digits digits) (Err Byte)

abbrev pub counting : (ℕ → Command) → Result ℕ Fault → Result Command Fault
counting command r = result_map_both command (λ fault. fault) r

-- what follows the letter of a command that stands alone
abbrev pub alone : Command → List ℕ → Result Command Fault
alone command [] = Ok command
alone command (c ∷ cs) = Err Byte

abbrev pub by_letter : ℕ → List ℕ → Result Command Fault
by_letter c rest =
    cond (c == (char_of "Z")) (alone Zero rest)
    (cond (c == (char_of "A")) (with_string Absorb rest)
    (cond (c == (char_of "U")) (with_string AbsorbUnkeyed rest)
    (cond (c == (char_of "C")) (with_string Encrypt rest)
    (cond (c == (char_of "P")) (with_string Decrypt rest)
    (cond (c == (char_of "B")) (counting Blank (with_count rest))
    (cond (c == (char_of "S")) (counting Squeeze (with_count rest))
    (Err Letter)))))))

abbrev pub short_line : List ℕ → Result Command Fault
short_line [] = Err Letter
short_line (c ∷ rest) = by_letter c rest

-- the command of a line, or the first reason to refuse it
abbrev pub parsed : List ℕ → Result Command Fault
parsed line = cond (nat_lt 130 (length line)) (Err Length) (short_line line)

-- the string of a line with a string command: the digits begin at its third byte
abbrev pub string_of : List ℕ → List ℕ
string_of line = unhex_by Lower (drop 2 line)

-- a count is at most 64
abbrev pub Within : Command → Type 0
Within (Blank n) = n ≤ 64
Within (Squeeze n) = n ≤ 64
Within Zero = Unit {0}
Within Absorb = Unit {0}
Within AbsorbUnkeyed = Unit {0}
Within Encrypt = Unit {0}
Within Decrypt = Unit {0}
