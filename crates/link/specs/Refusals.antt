-- The refusals of an end: number, layer and place of each, and when a call refuses.
use Rattle.std.specs.Prelude.{ℕ, ◌+◌, ◌-◌, ◌^◌, min, Bool, not, List, [], ◌∷◌, length, is_some, ◌==◌, nat_lt, slice_index}
use Rattle.std.specs.Option.{option_map, unwrap_or}
use Rattle.std.specs.Str.{bytes_eq}
use Rattle.refusals.specs.declared.Layer.TheVariants.{Session, Link}
use Rattle.refusals.specs.declared.Refusal.{Refusal}
use Rattle.refusals.specs.Tables.{refusal_of, Table}
use Rattle.duplex.specs.Strings.{word_bytes}
use Rattle.session.specs.declared.fault.SessionFault.TheVariants.{Short, Tag}
use Rattle.session.specs.Sessions.{opens}
use Rattle.link.specs.declared.fault.LinkFault.{LinkFault}
use Rattle.link.specs.declared.fault.LinkFault.TheVariants.{Spent, Empty, UnknownKind, WrongLength, ShortBuffer, WrongNumber, Session as InSession}
use Rattle.link.specs.Kinds.{text_length, kind_of}
use Rattle.link.specs.Frames.{Standing, number_limit, header_length, overhead, header_in, number_in, ciphertext_in, tag_in}

-- A session counts from the ciphertext's first byte, and a frame has its header before that. No place is past the largest number of 64 bits.
abbrev pub in_frame : ℕ → ℕ
in_frame place = min (place + header_length) (2 ^ 64 - 1)

abbrev pub told : LinkFault → Refusal
told Spent = refusal_of Link 1 0
told Empty = refusal_of Link 2 0
told UnknownKind = refusal_of Link 3 0
told (WrongLength length) = refusal_of Link 4 length
told (ShortBuffer room) = refusal_of Link 5 room
told WrongNumber = refusal_of Link 6 1
told (InSession (Short room)) = refusal_of Session 5 (in_frame room)
told (InSession (Tag ciphertext)) = refusal_of Session 7 (in_frame ciphertext)

-- Of a kind byte: it stands for no kind; the text length of its kind, or 0 for none.

abbrev pub no_kind : ℕ → Bool
no_kind b = not (is_some (kind_of b))

abbrev pub length_for : ℕ → ℕ
length_for b = unwrap_or (option_map text_length (kind_of b)) 0

-- taking a frame f where an end stands, with room for so many bytes of text; its first byte is its kind's
unfoldable pub take_table : Standing → List ℕ → ℕ → Table
take_table m f room =
    ((m.number == number_limit), refusal_of Link 1 0)
    ∷ ((length f == 0), refusal_of Link 2 0)
    ∷ (no_kind (slice_index f 0), refusal_of Link 3 0)
    ∷ (not (length f == length_for (slice_index f 0) + overhead), refusal_of Link 4 (length f))
    ∷ (nat_lt room (length_for (slice_index f 0)), refusal_of Link 5 room)
    ∷ (not (bytes_eq (number_in f) (word_bytes m.number)), refusal_of Link 6 1)
    ∷ (not (opens m.state (header_in f) (ciphertext_in f) (tag_in f)), refusal_of Session 7 (length (ciphertext_in f) + header_length))
    ∷ []

-- writing a text t of the kind with byte b where an end stands, with room for so many bytes of frame
unfoldable pub write_table : Standing → ℕ → List ℕ → ℕ → Table
write_table m b t room =
    ((m.number == number_limit), refusal_of Link 1 0)
    ∷ (no_kind b, refusal_of Link 3 0)
    ∷ (not (length t == length_for b), refusal_of Link 4 (length t))
    ∷ (nat_lt room (length_for b + overhead), refusal_of Link 5 room)
    ∷ []
