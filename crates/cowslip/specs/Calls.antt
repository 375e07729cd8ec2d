-- What the calls from C promise: the number returned, the numbers told, and every byte of the memory and of the buffers.
use Rattle.std.specs.Prelude.{◌≡◌, ℕ, List, length, Ok, Err, Result, slice_set}
use Rattle.std.specs.Result.{result_map_both}
use Rattle.session.specs.declared.fault.SessionFault.{SessionFault}
use Rattle.session.specs.declared.fault.SessionFault.TheVariants.{Short, Tag}
use Rattle.session.specs.Calls.{seal_answer, seal_bits, seal_out, seal_tag, open_answer, open_bits, open_out}
use Rattle.link.specs.declared.kind.Kind.{Kind}
use Rattle.link.specs.declared.fault.LinkFault.{LinkFault}
use Rattle.link.specs.Kinds.{kind_byte}
use Rattle.link.specs.Frames.{Standing}
use Rattle.link.specs.Calls.{write_answer, write_standing, write_out, take_answer, take_standing, take_text}
use Rattle.digests.specs.declared.entries.EntryFault.{EntryFault}
use Rattle.cowslip.specs.declared.fault.CallFault.{CallFault}
use Rattle.cowslip.specs.declared.fault.CallFault.TheVariants.{Session, Link, Entries}
use Rattle.cowslip.specs.declared.report.Answer.{Answer}
use Rattle.cowslip.specs.declared.report.Answer.TheVariants.{Nothing, One, Two}
use Rattle.cowslip.specs.Refusals.{told}
use Rattle.cowslip.specs.Memory.{session_size, end_size, sender_mark, receiver_mark, kept_session, kept_end, session_in, end_in, sized}

-- a call's answer, or why it is refused
abbrev pub Outcome : Type 0
Outcome = Result Answer CallFault

-- The number returned: 0, or the refusal's.
abbrev pub status : Outcome → ℕ
status (Ok a) = 0
status (Err e) = (told e).number

-- The numbers told, from the front, as many as there is room for: the answer's, or the refusal's place.
abbrev pub numbers_told : Outcome → List ℕ → List ℕ
numbers_told (Ok Nothing) old = old
numbers_told (Ok (One n)) old = slice_set old 0 n
numbers_told (Ok (Two n m)) old = slice_set (slice_set old 0 n) 1 m
numbers_told (Err e) old = slice_set old 0 (told e).place

-- a call returns and tells its outcome
abbrev pub Reports : Outcome → ℕ → List ℕ → List ℕ → Type 0
Reports outcome returned old new = (returned ≡ status outcome) × (new ≡ numbers_told outcome old)

-- the outcome of a call, by what it finds in its memory
abbrev pub outcome_with : {A : Type 0} → Result A CallFault → (A → Outcome) → Outcome
outcome_with (Ok x) f = f x
outcome_with (Err e) f = Err e

-- a buffer after a call: what was found says what it becomes, and a refusal leaves it as it was
abbrev pub buffer_with : {A E : Type 0} → Result A E → (A → List ℕ) → List ℕ → List ℕ
buffer_with (Ok x) f old = f x
buffer_with (Err e) f old = old

-- Beginning: a key and a nonce of 16 bytes each, and memory of a size.

abbrev pub begin_outcome : ℕ → List ℕ → List ℕ → List ℕ → Outcome
begin_outcome size key nonce memory = sized 0 16 (length key) (sized 1 16 (length nonce) (sized 2 size (length memory) (Ok Nothing)))

abbrev pub begin_memory : ℕ → List ℕ → List ℕ → List ℕ → List ℕ → List ℕ
begin_memory size key nonce kept memory = buffer_with (begin_outcome size key nonce memory) (λ a. kept) memory

-- Sessions. The bits that a call finds: the memory is its first argument, and the tag is one of the others.

abbrev pub session_for : List ℕ → ℕ → ℕ → Result (List ℕ) CallFault
session_for memory argument tag_length = sized 0 session_size (length memory) (sized argument 16 tag_length (session_in memory))

abbrev pub of_session : Result ℕ SessionFault → Outcome
of_session = result_map_both One Session

-- sealing, with room for so many bytes of ciphertext and of tag

abbrev pub seal_outcome : List ℕ → List ℕ → ℕ → ℕ → Outcome
seal_outcome memory text room tag_length = outcome_with (session_for memory 4 tag_length) (λ s. of_session (seal_answer text room))

-- a text that is sealed moves the session on
abbrev pub kept_sealed : List ℕ → List ℕ → List ℕ → Result ℕ SessionFault → List ℕ → List ℕ
kept_sealed s ad text (Ok n) old = kept_session (seal_bits s ad text (Ok n))
kept_sealed s ad text (Err e) old = old

abbrev pub seal_memory : List ℕ → List ℕ → List ℕ → ℕ → ℕ → List ℕ
seal_memory memory ad text room tag_length = buffer_with (session_for memory 4 tag_length) (λ s. kept_sealed s ad text (seal_answer text room) memory) memory

abbrev pub seal_buffer : List ℕ → List ℕ → List ℕ → List ℕ → ℕ → List ℕ
seal_buffer memory ad text old tag_length = buffer_with (session_for memory 4 tag_length) (λ s. seal_out s ad text old (seal_answer text (length old))) old

abbrev pub seal_tag_bytes : List ℕ → List ℕ → List ℕ → ℕ → List ℕ → List ℕ
seal_tag_bytes memory ad text room old = buffer_with (session_for memory 4 (length old)) (λ s. seal_tag s ad text old (seal_answer text room)) old

-- opening a ciphertext c and a tag, with room for so many bytes of text

abbrev pub open_outcome : List ℕ → List ℕ → List ℕ → List ℕ → ℕ → Outcome
open_outcome memory ad c tag room = outcome_with (session_for memory 3 (length tag)) (λ s. of_session (open_answer s ad c tag room))

-- a session that is short of room has not moved, and its memory is left alone
abbrev pub kept_opened : List ℕ → List ℕ → List ℕ → Result ℕ SessionFault → List ℕ → List ℕ
kept_opened s ad c (Ok n) old = kept_session (open_bits s ad c (Ok n))
kept_opened s ad c (Err (Tag n)) old = kept_session (open_bits s ad c (Err (Tag n)))
kept_opened s ad c (Err (Short n)) old = old

abbrev pub open_memory : List ℕ → List ℕ → List ℕ → List ℕ → ℕ → List ℕ
open_memory memory ad c tag room = buffer_with (session_for memory 3 (length tag)) (λ s. kept_opened s ad c (open_answer s ad c tag room) memory) memory

abbrev pub open_buffer : List ℕ → List ℕ → List ℕ → List ℕ → List ℕ → List ℕ
open_buffer memory ad c tag old = buffer_with (session_for memory 3 (length tag)) (λ s. open_out s ad c old (open_answer s ad c tag (length old))) old

-- Ends. Where the end stands that a call finds.

abbrev pub end_for : ℕ → List ℕ → Result Standing CallFault
end_for mark memory = sized 0 end_size (length memory) (end_in mark memory)

abbrev pub tell_outcome : ℕ → List ℕ → Outcome
tell_outcome mark memory = outcome_with (end_for mark memory) (λ m. Ok (One m.number))

-- writing a text t of the kind with byte b, with room for so many bytes of frame

abbrev pub of_writing : Result (ℕ × ℕ) LinkFault → Outcome
of_writing = result_map_both (λ p. Two p.0 p.1) Link

abbrev pub write_outcome : List ℕ → ℕ → List ℕ → ℕ → Outcome
write_outcome memory b t room = outcome_with (end_for sender_mark memory) (λ m. of_writing (write_answer m b t room))

-- a frame that is written moves the end on
abbrev pub kept_written : Standing → Result (ℕ × ℕ) LinkFault → List ℕ → List ℕ
kept_written after (Ok p) old = kept_end sender_mark after
kept_written after (Err e) old = old

abbrev pub write_memory : List ℕ → ℕ → List ℕ → ℕ → List ℕ
write_memory memory b t room = buffer_with (end_for sender_mark memory) (λ m. kept_written (write_standing m b t room) (write_answer m b t room) memory) memory

abbrev pub write_buffer : List ℕ → ℕ → List ℕ → List ℕ → List ℕ
write_buffer memory b t old = buffer_with (end_for sender_mark memory) (λ m. write_out m b t old) old

-- taking a frame f, with room for so many bytes of text

abbrev pub of_taking : Result Kind LinkFault → Outcome
of_taking = result_map_both (λ k. One (kind_byte k)) Link

abbrev pub take_outcome : List ℕ → List ℕ → ℕ → Outcome
take_outcome memory f room = outcome_with (end_for receiver_mark memory) (λ m. of_taking (take_answer m f room))

-- a frame that is taken moves the end on
abbrev pub kept_taken : Standing → List ℕ → Result Kind LinkFault → List ℕ → List ℕ
kept_taken m f (Ok k) old = kept_end receiver_mark (take_standing m f (Ok k))
kept_taken m f (Err e) old = old

abbrev pub take_memory : List ℕ → List ℕ → ℕ → List ℕ
take_memory memory f room = buffer_with (end_for receiver_mark memory) (λ m. kept_taken m f (take_answer m f room) memory) memory

abbrev pub take_buffer : List ℕ → List ℕ → List ℕ → List ℕ
take_buffer memory f old = buffer_with (end_for receiver_mark memory) (λ m. take_text m f old (take_answer m f (length old))) old

-- Digest and deck.
abbrev pub of_entries : Result (Unit {0}) EntryFault → Outcome
of_entries = result_map_both (λ u. Nothing) Entries
