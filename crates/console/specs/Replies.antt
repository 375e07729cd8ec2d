-- What a line does to the state, and what the bench prints for it.
use Rattle.std.specs.Prelude.{ℕ, List, [], ◌∷◌, ◌++◌, Ok, Err, codes, decimal, Result}
use Rattle.refusals.specs.declared.Refusal.{Refusal}
use Rattle.duplex.specs.State.{zeros}
use Rattle.duplex.specs.Strings.{absorbed, absorbed_unkeyed, encrypted, decrypted, blanked, squeezed, after_squeezing}
use Rattle.commands.specs.declared.terms.Command.{Command}
use Rattle.commands.specs.declared.terms.Command.TheVariants.{Zero, Absorb, AbsorbUnkeyed, Encrypt, Decrypt, Blank, Squeeze}
use Rattle.commands.specs.declared.terms.Fault.{Fault}
use Rattle.digits.specs.Pairs.{hex}
use Rattle.commands.specs.Lines.{parsed, string_of}
use Rattle.commands.specs.Refusals.{told}

-- the bits after a command with a string
abbrev pub after : List ℕ → Command → List ℕ → List ℕ
after s Zero t = zeros
after s Absorb t = absorbed s t
after s AbsorbUnkeyed t = absorbed_unkeyed s t
after s Encrypt t = absorbed s t
after s Decrypt t = absorbed s (decrypted s t)
after s (Blank n) t = blanked s n
after s (Squeeze n) t = after_squeezing s n

-- what a command prints
abbrev pub shown : List ℕ → Command → List ℕ → List ℕ
shown s Zero t = codes "ok"
shown s Absorb t = codes "ok"
shown s AbsorbUnkeyed t = codes "ok"
shown s Encrypt t = hex (encrypted s t)
shown s Decrypt t = hex (decrypted s t)
shown s (Blank n) t = codes "ok"
shown s (Squeeze n) t = hex (squeezed s n)

-- what a refusal at a line prints: a question mark, the number, the line and the column
abbrev pub refused : ℕ → Refusal → List ℕ
refused line r = codes "? " ++ decimal r.number ++ codes " " ++ decimal line ++ codes " " ++ decimal r.place

abbrev pub bits_by : List ℕ → List ℕ → Result Command Fault → List ℕ
bits_by s t (Ok command) = after s command t
bits_by s t (Err fault) = s

abbrev pub text_by : List ℕ → List ℕ → ℕ → Result Command Fault → List ℕ
text_by s t number (Ok command) = shown s command t
text_by s t number (Err fault) = refused number (told fault)

abbrev pub line_feed : ℕ
line_feed = 10

-- the bits after a line; a refused one leaves them alone
unfoldable pub line_bits : List ℕ → List ℕ → List ℕ
line_bits s line = bits_by s (string_of line) (parsed line)

-- the line that is printed for the line with this number
unfoldable pub printed : List ℕ → ℕ → List ℕ → List ℕ
printed s number line = text_by s (string_of line) number (parsed line) ++ line_feed ∷ []
