-- Words of hex digits: the bytes that they write, and what spoils them.
use Rattle.std.specs.Prelude.{ℕ, ◌+◌, cond, List, length, Some, None, Ok, Err, Option, Result, ◌==◌, nat_lt}
use Rattle.std.specs.Option.{option_or, option_map}
use Rattle.digits.specs.declared.single.Letters.TheVariants.{Either}
use Rattle.digits.specs.Digits.{bad_hex}
use Rattle.digits.specs.Pairs.{unhex}
use Rattle.sealed.specs.declared.fault.HexFault.{HexFault}
use Rattle.sealed.specs.declared.fault.HexFault.TheVariants.{Digit, Odd, Count}
use Rattle.sealed.specs.declared.fault.WordFault.{WordFault}
use Rattle.sealed.specs.declared.fault.WordFault.TheVariants.{Hex}

-- a bad place of n digits as a column from 1: of a byte that is no digit, or past the end
abbrev pub fault_at : ℕ → Option ℕ → Option HexFault
fault_at n None = None
fault_at n (Some place) = cond (nat_lt place n) (Some (Digit (place + 1))) (Some (Odd (place + 1)))

-- what spoils digits that are to write bytes
abbrev pub hex_fault : List ℕ → Option HexFault
hex_fault digits = fault_at (length digits) (bad_hex Either digits)

-- what spoils digits that are to write 16 bytes
abbrev pub sixteen_fault : List ℕ → Option HexFault
sixteen_fault digits = option_or (hex_fault digits) (cond (length digits == 32) None (Some (Count (length digits))))

-- an answer, unless there is a fault
abbrev pub unless : {A E : Type 0} → Option E → A → Result A E
unless None answer = Ok answer
unless (Some fault) answer = Err fault

-- the bytes that a word writes, or why it writes none
abbrev pub written_bytes : List ℕ → Result (List ℕ) WordFault
written_bytes digits = unless (option_map Hex (hex_fault digits)) (unhex digits)

-- the 16 bytes that a word writes, or why it writes none
abbrev pub written_sixteen : List ℕ → Result (List ℕ) HexFault
written_sixteen digits = unless (sixteen_fault digits) (unhex digits)
