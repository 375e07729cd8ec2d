-- What the calls of the ends promise: the answer, where the end stands then, and what the buffer holds.
use Rattle.std.specs.Prelude.{ℕ, ◌+◌, cond, List, ◌++◌, length, drop, replicate, Some, None, Ok, Err, Option, Result, ◌==◌, nat_lt, slice_index}
use Rattle.std.specs.Str.{bytes_eq}
use Rattle.duplex.specs.Strings.{word_bytes}
use Rattle.session.specs.declared.fault.SessionFault.TheVariants.{Short, Tag}
use Rattle.session.specs.Calls.{session_bits}
use Rattle.session.specs.Sessions.{after_sealing, opens}
use Rattle.link.specs.declared.kind.Kind.{Kind}
use Rattle.link.specs.declared.fault.LinkFault.{LinkFault}
use Rattle.link.specs.declared.fault.LinkFault.TheVariants.{Spent, Empty, UnknownKind, WrongLength, ShortBuffer, WrongNumber, Session}
use Rattle.link.specs.declared.ends.End.{End}
use Rattle.link.specs.Kinds.{text_length, kind_of}
use Rattle.link.specs.Frames.{Standing, standing_of, number_limit, overhead, header_in, number_in, ciphertext_in, tag_in, text_in}
use Rattle.link.specs.Sender.{frame_of, next_of}

-- where an end stands, by what its engine means
module _ {E : Type 0} (bits : E → List ℕ) where
  abbrev pub stands : {D : Type 0} → End E D → Standing
  stands e = standing_of (session_bits bits e.session) e.number.value

-- where an end stands that goes on from bits and a number that were kept, if there is one
abbrev pub resumed : List ℕ → ℕ → Option Standing
resumed s n = cond (nat_lt number_limit n) None (Some (standing_of s n))

-- the kind that passed the checks, or the first of them that failed
abbrev pub Checked : Type 0
Checked = Result Kind LinkFault

-- Taking a frame f at an end with the number n, with room for so many bytes of text. The checks before the opening, in their order.

abbrev pub fitting : ℕ → List ℕ → ℕ → Kind → Checked
fitting n f room k =
    cond (length f == text_length k + overhead)
    (cond (nat_lt room (text_length k)) (Err (ShortBuffer room))
    (cond (bytes_eq (number_in f) (word_bytes n)) (Ok k) (Err WrongNumber)))
    (Err (WrongLength (length f)))

abbrev pub known : ℕ → List ℕ → ℕ → Option Kind → Checked
known n f room None = Err UnknownKind
known n f room (Some k) = fitting n f room k

unfoldable pub checked : ℕ → List ℕ → ℕ → Checked
checked n f room =
    cond (nat_lt n number_limit)
    (cond (length f == 0) (Err Empty) (known n f room (kind_of (slice_index f 0))))
    (Err Spent)

-- and the opening after them
abbrev pub opened : Standing → List ℕ → Checked → Checked
opened m f (Err e) = Err e
opened m f (Ok k) =
    cond (opens m.state (header_in f) (ciphertext_in f) (tag_in f)) (Ok k) (Err (Session (Tag (length (ciphertext_in f)))))

unfoldable pub take_answer : Standing → List ℕ → ℕ → Checked
take_answer m f room = opened m f (checked m.number f room)

-- a refusal leaves the end as it was
abbrev pub take_standing : Standing → List ℕ → Checked → Standing
take_standing m f (Err e) = m
take_standing m f (Ok k) = record { state = after_sealing m.state (header_in f) (text_in m f); number = m.number + 1 }

-- the text at the front of the buffer, or as many zeros where its tag differs; a refusal before the opening leaves the buffer as it was
abbrev pub take_text : Standing → List ℕ → List ℕ → Checked → List ℕ
take_text m f old (Ok k) = text_in m f ++ drop (length (ciphertext_in f)) old
take_text m f old (Err (Session (Tag n))) = replicate (length (ciphertext_in f)) 0 ++ drop (length (ciphertext_in f)) old
take_text m f old (Err (Session (Short n))) = old
take_text m f old (Err Spent) = old
take_text m f old (Err Empty) = old
take_text m f old (Err UnknownKind) = old
take_text m f old (Err (WrongLength n)) = old
take_text m f old (Err (ShortBuffer n)) = old
take_text m f old (Err WrongNumber) = old

-- Writing a text t of the kind with byte b at an end with the number n, with room for so many bytes of frame. The checks before the sealing, in their order.

abbrev pub suited : List ℕ → ℕ → Kind → Checked
suited t room k =
    cond (length t == text_length k)
    (cond (nat_lt room (text_length k + overhead)) (Err (ShortBuffer room)) (Ok k))
    (Err (WrongLength (length t)))

abbrev pub named : List ℕ → ℕ → Option Kind → Checked
named t room None = Err UnknownKind
named t room (Some k) = suited t room k

unfoldable pub vetted : ℕ → ℕ → List ℕ → ℕ → Checked
vetted n b t room = cond (nat_lt n number_limit) (named t room (kind_of b)) (Err Spent)

-- After those checks: the frame's length and the number that it carries, where the end stands, and the frame at the front of the buffer.

abbrev pub wrote_pair : Standing → Checked → Result (ℕ × ℕ) LinkFault
wrote_pair m (Ok k) = Ok (text_length k + overhead, m.number)
wrote_pair m (Err e) = Err e

abbrev pub wrote_standing : Standing → List ℕ → Checked → Standing
wrote_standing m t (Ok k) = next_of m k t
wrote_standing m t (Err e) = m

abbrev pub wrote_out : Standing → List ℕ → List ℕ → Checked → List ℕ
wrote_out m t old (Ok k) = frame_of m k t ++ drop (text_length k + overhead) old
wrote_out m t old (Err e) = old

abbrev pub write_answer : Standing → ℕ → List ℕ → ℕ → Result (ℕ × ℕ) LinkFault
write_answer m b t room = wrote_pair m (vetted m.number b t room)

abbrev pub write_standing : Standing → ℕ → List ℕ → ℕ → Standing
write_standing m b t room = wrote_standing m t (vetted m.number b t room)

abbrev pub write_out : Standing → ℕ → List ℕ → List ℕ → List ℕ
write_out m b t old = wrote_out m t old (vetted m.number b t (length old))
