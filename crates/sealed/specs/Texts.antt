-- What is printed of a fault.
use Rattle.std.specs.Prelude.{ℕ, List, ◌++◌, codes, decimal}
use Rattle.session.specs.Refusals.{told}
use Rattle.session.specs.Texts as session
use Rattle.sealed.specs.declared.fault.HexFault.{HexFault}
use Rattle.sealed.specs.declared.fault.HexFault.TheVariants.{Digit, Odd, Count}
use Rattle.sealed.specs.declared.fault.SealedFault.{SealedFault}
use Rattle.sealed.specs.declared.fault.SealedFault.TheVariants.{Tagless, Session, Memory}

abbrev pub hex_text : HexFault → List ℕ
hex_text (Digit column) = codes "column " ++ decimal column ++ codes " is no hex digit"
hex_text (Odd column) = codes "a digit is missing at column " ++ decimal column
hex_text (Count digits) = decimal digits ++ codes " hex digits where 32 are wanted"

abbrev pub sealed_text : SealedFault → List ℕ
sealed_text (Tagless length) = decimal length ++ codes " bytes, fewer than the 16 of a tag"
sealed_text (Session fault) = codes "session refusal " ++ decimal (told fault).number ++ codes " at " ++ decimal (told fault).place ++ codes ": " ++ session.fault_text fault
sealed_text Memory = codes "out of memory"
