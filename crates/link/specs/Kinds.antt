-- The table of kinds: the byte that stands for each, and the length of its text.
use Rattle.std.specs.Prelude.{ℕ, cond, Some, None, Option, Result, ◌==◌}
use Rattle.std.specs.Option.{ok_or}
use Rattle.link.specs.declared.kind.Kind.{Kind}
use Rattle.link.specs.declared.kind.UnknownKind.{UnknownKind}
use Rattle.link.specs.declared.kind.Kind.TheVariants.{PollValue, Alarm, Output, Clock, ZoneName, Heartbeat}

abbrev pub kind_byte : Kind → ℕ
kind_byte PollValue = 1
kind_byte Alarm = 2
kind_byte Output = 3
kind_byte Clock = 4
kind_byte ZoneName = 5
kind_byte Heartbeat = 6

abbrev pub text_length : Kind → ℕ
text_length PollValue = 4
text_length Alarm = 6
text_length Output = 3
text_length Clock = 7
text_length ZoneName = 32
text_length Heartbeat = 0

-- a text buffer of this many bytes has room for the text of every kind
abbrev pub least_room : ℕ
least_room = 32

-- the kind that a byte stands for, if any
abbrev pub kind_of : ℕ → Option Kind
kind_of b =
    cond (b == 1) (Some PollValue) (cond (b == 2) (Some Alarm) (cond (b == 3) (Some Output) (cond (b == 4) (Some Clock) (cond (b == 5) (Some ZoneName) (cond (b == 6) (Some Heartbeat) None)))))

-- the same, as a conversion answers it
abbrev pub kind_found : ℕ → Result Kind UnknownKind
kind_found b = ok_or (kind_of b) (record { 0 = b })
