-- Hex digits: their values, and what spoils a row of them.
use Rattle.std.specs.Prelude.{ℕ, ◌+◌, ◌-◌, ◌%◌, Bool, cond, ◌&&◌, List, length, is_none, Some, None, codes, Option, position, ◌==◌, nat_le, nat_lt, slice_index}
use Prim.Native.String.{String}
use Rattle.std.specs.Option.{unwrap_or, option_or}
use Rattle.digits.specs.declared.single.Letters.{Letters}
use Rattle.digits.specs.declared.single.Letters.TheVariants.{Lower, Either}

-- the code of a text's first character
abbrev pub char_of : String → ℕ
char_of s = slice_index (codes s) 0

abbrev pub between : ℕ → ℕ → ℕ → Bool
between low high c = nat_le low c && nat_le c high

abbrev pub is_decimal : ℕ → Bool
is_decimal c = between (char_of "0") (char_of "9") c

-- the value of a digit whose letter is of lower case
abbrev pub low_value : ℕ → Option ℕ
low_value c =
    cond (is_decimal c) (Some (c - char_of "0"))
    (cond (between (char_of "a") (char_of "f") c) (Some (c - char_of "a" + 10)) None)

abbrev pub capital_value : ℕ → Option ℕ
capital_value c = cond (between (char_of "A") (char_of "F") c) (Some (c - char_of "A" + 10)) None

abbrev pub value_of : Letters → ℕ → Option ℕ
value_of Lower c = low_value c
value_of Either c = option_or (low_value c) (capital_value c)

-- the same with 0 for what is no digit
abbrev pub value_or_zero : Letters → ℕ → ℕ
value_or_zero letters c = unwrap_or (value_of letters c) 0

-- the same where the letters of either case are digits
abbrev pub digit_value : ℕ → ℕ
digit_value c = value_or_zero Either c

-- what spoils digits, by its place: the first byte that is none, or the end where their count is odd
abbrev pub bad_hex : Letters → List ℕ → Option ℕ
bad_hex letters digits = option_or (position (λ c. is_none (value_of letters c)) digits) (cond (length digits % 2 == 1) (Some (length digits)) None)

-- the lower-case digit of a number below 16
abbrev pub hex_digit : ℕ → ℕ
hex_digit n = cond (nat_lt n 10) (char_of "0" + n) (char_of "a" + (n - 10))

-- the same in capitals
abbrev pub capital_digit : ℕ → ℕ
capital_digit n = cond (nat_lt n 10) (char_of "0" + n) (char_of "A" + (n - 10))
