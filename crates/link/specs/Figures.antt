-- Worked figures of kinds and frames: lengths, numbers and refusals.
use Rattle.std.specs.Prelude.{◌≡◌, ℕ, ◌+◌, ◌<◌, ◌≤◌, List, [], ◌∷◌, length, take, Some, None, Ok, Err, Result, slice_index, ◌≢◌}
use Rattle.refusals.specs.declared.Layer.{Layer}
use Rattle.refusals.specs.declared.Layer.TheVariants.{Session, Link}
use Rattle.refusals.specs.Tables.{refused_by, refusal_of}
use Rattle.session.specs.declared.fault.SessionFault.{SessionFault}
use Rattle.session.specs.declared.fault.SessionFault.TheVariants.{Tag}
use Rattle.link.specs.declared.kind.Kind.{Kind}
use Rattle.link.specs.declared.kind.Kind.TheVariants.{Heartbeat}
use Rattle.link.specs.declared.fault.LinkFault.{LinkFault}
use Rattle.link.specs.declared.fault.LinkFault.TheVariants.{Session as InLink}
use Rattle.link.specs.Kinds.{kind_byte, text_length, least_room, kind_of}
use Rattle.link.specs.Frames.{Standing, number_in, ciphertext_in}
use Rattle.link.specs.Sender.{frame_of, writes}
use Rattle.link.specs.Refusals.{told}
use Rattle.link.specs.Calls.{take_answer, write_answer}

-- an answer refuses, by this layer, number and place
abbrev pub Refuses : {A : Type 0} → Result A LinkFault → Layer → ℕ → ℕ → Type 0
Refuses r layer number place = refused_by told r ≡ Some (refusal_of layer number place)

pub record FrameFigures : Type 0 where
  -- a kind's byte stands for it, and a buffer of the least room holds its text
  pub byte_of_kind : (k : Kind) → kind_of (kind_byte k) ≡ Some k
  pub room_for_kind : (k : Kind) → text_length k ≤ least_room
  -- a frame has 21 bytes more than its text; so a heartbeat has 21, and one of a byte less or more is refused
  pub frame_length : (m : Standing) (k : Kind) (t : List ℕ) → length (frame_of m k t) ≡ length t + 21
  pub heartbeat : (m : Standing) → length (frame_of m Heartbeat []) ≡ 21
  pub heartbeat_20 : (m : Standing) (f : List ℕ) (room : ℕ) → m.number < 1000000 → slice_index f 0 ≡ 0x06 → length f ≡ 20 → Refuses (take_answer m f room) Link 4 20
  pub heartbeat_22 : (m : Standing) (f : List ℕ) (room : ℕ) → m.number < 1000000 → slice_index f 0 ≡ 0x06 → length f ≡ 22 → Refuses (take_answer m f room) Link 4 22
  -- 999,999 is the last number: the frame with it is written and taken
  pub last_written : (m : Standing) (k : Kind) (t : List ℕ) → m.number ≡ 999999 → length t ≡ text_length k → writes m (kind_byte k) t ≡ Some (frame_of m k t)
  pub last_answered : (m : Standing) (k : Kind) (t : List ℕ) (room : ℕ) → m.number ≡ 999999 → length t ≡ text_length k → text_length k + 21 ≤ room → write_answer m (kind_byte k) t room ≡ Ok (text_length k + 21, 999999)
  pub last_taken : (m : Standing) (k : Kind) (t : List ℕ) (room : ℕ) → m.number ≡ 999999 → length t ≡ text_length k → text_length k ≤ room → take_answer m (frame_of m k t) room ≡ Ok k
  -- at 1,000,000 nothing is written or taken
  pub spent_written : (m : Standing) (b : ℕ) (t : List ℕ) → m.number ≡ 1000000 → writes m b t ≡ None
  pub spent_answered : (m : Standing) (b : ℕ) (t : List ℕ) (room : ℕ) → m.number ≡ 1000000 → Refuses (write_answer m b t room) Link 1 0
  pub spent_taken : (m : Standing) (f : List ℕ) (room : ℕ) → m.number ≡ 1000000 → Refuses (take_answer m f room) Link 1 0
  -- an example of each other refusal of a taking
  pub no_byte : (m : Standing) (room : ℕ) → m.number < 1000000 → Refuses (take_answer m [] room) Link 2 0
  pub kind_07 : (m : Standing) (room : ℕ) → m.number < 1000000 → Refuses (take_answer m (0x07 ∷ []) room) Link 3 0
  pub five_bytes : (m : Standing) (room : ℕ) → m.number < 1000000 → Refuses (take_answer m (0x06 ∷ 0x00 ∷ 0x00 ∷ 0x00 ∷ 0x00 ∷ []) room) Link 4 5
  pub zone_name_into_31 : (m : Standing) (f : List ℕ) → m.number < 1000000 → slice_index f 0 ≡ 0x05 → length f ≡ 53 → Refuses (take_answer m f 31) Link 5 31
  pub number_2_at_3 : (m : Standing) (f : List ℕ) (room : ℕ) → m.number ≡ 3 → slice_index f 0 ≡ 0x06 → length f ≡ 21 → number_in f ≡ 2 ∷ 0 ∷ 0 ∷ 0 ∷ [] → Refuses (take_answer m f room) Link 6 1
  -- the last of them: a frame that is another one than the sender's, but alike up to the tag
  pub tag_changed : (m : Standing) (k : Kind) (t g : List ℕ) (room : ℕ) → m.number < 1000000 → length t ≡ text_length k → text_length k ≤ room
      → length g ≡ text_length k + 21 → take (text_length k + 5) g ≡ take (text_length k + 5) (frame_of m k t) → (g ≢ frame_of m k t)
      → Refuses (take_answer m g room) Session 7 (text_length k + 5)
  -- of a session's faults only this one comes out of a taking
  pub session_fault : (m : Standing) (f : List ℕ) (room : ℕ) (e : SessionFault) → take_answer m f room ≡ Err (InLink e) → e ≡ Tag (length (ciphertext_in f))
  -- an example of each refusal of a writing but the first
  pub text_of_kind_07 : (m : Standing) (t : List ℕ) (room : ℕ) → m.number < 1000000 → Refuses (write_answer m 0x07 t room) Link 3 0
  pub alarm_of_5 : (m : Standing) (t : List ℕ) (room : ℕ) → m.number < 1000000 → length t ≡ 5 → Refuses (write_answer m 0x02 t room) Link 4 5
  pub zone_name_into_52 : (m : Standing) (t : List ℕ) → m.number < 1000000 → length t ≡ 32 → Refuses (write_answer m 0x05 t 52) Link 5 52
