-- The words of a script: the names of the kinds, and the bytes that they stand for.
use Rattle.std.specs.Prelude.{◌≡◌, ℕ, ◌+◌, ◌*◌, cond, ◌&&◌, List, [], ◌∷◌, is_some, Some, None, codes, Option}
use Rattle.std.specs.Str.{bytes_eq}
use Rattle.link.specs.declared.kind.Kind.{Kind}
use Rattle.link.specs.declared.kind.Kind.TheVariants.{PollValue, Alarm, Output, Clock, ZoneName, Heartbeat}
use Rattle.link.specs.Kinds.{kind_byte}
use Rattle.digits.specs.declared.single.Letters.TheVariants.{Lower}
use Rattle.digits.specs.Digits.{value_of, value_or_zero}

abbrev pub name_of : Kind → List ℕ
name_of PollValue = codes "poll-value"
name_of Alarm = codes "alarm"
name_of Output = codes "output"
name_of Clock = codes "clock"
name_of ZoneName = codes "zone-name"
name_of Heartbeat = codes "heartbeat"

abbrev pub kinds : List Kind
kinds = PollValue ∷ Alarm ∷ Output ∷ Clock ∷ ZoneName ∷ Heartbeat ∷ []

-- a byte in two hex digits with lower-case letters
abbrev pub two_digits : List ℕ → Option ℕ
two_digits [] = None
two_digits (a ∷ []) = None
two_digits (a ∷ b ∷ []) = cond (is_some (value_of Lower a) && is_some (value_of Lower b)) (Some (16 * value_or_zero Lower a + value_or_zero Lower b)) None
two_digits (a ∷ b ∷ c ∷ cs) = None

-- the byte of a kind where the word is its name, or else another
abbrev pub else_byte : List ℕ → Kind → Option ℕ → Option ℕ
else_byte word kind other = cond (bytes_eq word (name_of kind)) (Some (kind_byte kind)) other

-- the kind byte that a word stands for
abbrev pub byte_named : List ℕ → Option ℕ
byte_named word =
    else_byte word PollValue
    (else_byte word Alarm
    (else_byte word Output
    (else_byte word Clock
    (else_byte word ZoneName
    (else_byte word Heartbeat
    (two_digits word))))))

-- the name of every kind stands for its byte
abbrev pub NamesReadBack : Type 0
NamesReadBack = (kind : Kind) → byte_named (name_of kind) ≡ Some (kind_byte kind)
