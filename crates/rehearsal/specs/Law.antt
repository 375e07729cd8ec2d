-- The law over runs: a receiving end and a sending end, held against the suite's sender.
use Rattle.std.specs.Prelude.{◌≡◌, ℕ, ◌+◌, ◌<◌, ◌≤◌, Bool, true, false, cond, List, [], ◌∷◌, ◌++◌, length, take, drop, Some, None}
use Rattle.refusals.specs.Tables.{first_of}
use Rattle.link.specs.declared.kind.Kind.{Kind}
use Rattle.link.specs.declared.fault.LinkFault.{LinkFault}
use Rattle.link.specs.declared.fault.LinkFault.TheVariants.{ShortBuffer}
use Rattle.link.specs.Kinds.{kind_byte}
use Rattle.link.specs.Frames.{Standing}
use Rattle.link.specs.Sender.{writes, fed, CouldWrite}
use Rattle.link.specs.Refusals as link

-- A list of calls and the list of their answers: step after step, from where the run begins to where it ends.
pub data Run {S C A : Type 0} (Step : S → C → A → S → Type 0) : S → List C → List A → S → Type 0 where
  ends : {s : S} → Run Step s [] [] s
  next : {s s' s'' : S} {c : C} {a : A} {cs : List C} {rs : List A} → Step s c a s' → Run Step s' cs rs s'' → Run Step s (c ∷ cs) (a ∷ rs) s''

-- where the suite's sender stands, and how many frames were accepted or written so far
pub record Place : Type 0 where
  pub sender : Standing
  pub count : ℕ

abbrev pub place_of : Standing → ℕ → Place
place_of m n = record { sender = m; count = n }

-- A receiving end.

-- A call: the taking of a frame, or a telling.
pub data Call : Type 0 where
  take_frame : (frame : List ℕ) → Call
  tell : Call

-- Its answer: the kind and the text that is handed out; a refusal; the number told.
pub data Answer : Type 0 where
  taken : Kind → (text : List ℕ) → Answer
  refused : Answer
  told : ℕ → Answer

-- What a call feeds the suite's sender, which stands at m before it: that is settled by the frames alone.
pub data Feeds (m : Standing) : Call → Standing → Type 0 where
  -- a frame that it could write next feeds it the kind and text of that frame
  next_frame : {f : List ℕ} (b : ℕ) (t : List ℕ) → writes m b t ≡ Some f → Feeds m (take_frame f) (fed m b t)
  -- any other frame, and a telling, nothing
  other_frame : {f : List ℕ} → (CouldWrite m f → ⊥) → Feeds m (take_frame f) m
  telling : Feeds m tell m

-- The right answer where the suite's sender stands at m and n frames were accepted so far, and how many were after it.
pub data RightAnswer (m : Standing) (n : ℕ) : Call → Answer → ℕ → Type 0 where
  -- a frame that the suite's sender could write next is accepted: its kind is answered, and its text handed out
  accepts : {f : List ℕ} (k : Kind) (t : List ℕ) → writes m (kind_byte k) t ≡ Some f → RightAnswer m n (take_frame f) (taken k t) (n + 1)
  -- any other is refused
  refuses : {f : List ℕ} → (CouldWrite m f → ⊥) → RightAnswer m n (take_frame f) refused n
  tells : RightAnswer m n tell (told n) n

pub record ReceivingStep (p : Place) (c : Call) (a : Answer) (q : Place) : Type 0 where
  pub feeding : Feeds p.sender c q.sender
  pub answer : RightAnswer p.sender p.count c a q.count

abbrev pub ReceivingRun : Place → List Call → List Answer → Place → Type 0
ReceivingRun = Run ReceivingStep

-- Just one kind and text fit a frame: so a frame feeds one thing, and one answer is right.
abbrev pub OneFits : Type 0
OneFits = (m : Standing) (b c : ℕ) (t u f : List ℕ) → writes m b t ≡ Some f → writes m c u ≡ Some f → (c ≡ b) × (u ≡ t)

abbrev pub is_refused : Answer → Bool
is_refused (taken k t) = false
is_refused refused = true
is_refused (told n) = false

-- what stands in a list beside the answers, but for the places of the refusals
abbrev pub without_refused : {X : Type 0} → List Answer → List X → List X
without_refused [] xs = xs
without_refused (a ∷ rs) [] = []
without_refused (a ∷ rs) (x ∷ xs) = cond (is_refused a) (without_refused rs xs) (x ∷ without_refused rs xs)

-- the frames of a list of calls
abbrev pub frames_handed : List Call → List (List ℕ)
frames_handed [] = []
frames_handed (take_frame f ∷ cs) = f ∷ frames_handed cs
frames_handed (tell ∷ cs) = frames_handed cs

-- those that were accepted
abbrev pub frames_accepted : List Call → List Answer → List (List ℕ)
frames_accepted cs rs = frames_handed (without_refused rs cs)

-- A sending end.

-- A call: the writing of a text as a kind into a buffer, or a telling.
pub data Writing : Type 0 where
  write_text : (kind : ℕ) (text buffer : List ℕ) → Writing
  tell : Writing

-- Its answer: the frame's length, the number that it carries and the buffer; a refusal and the buffer; the number told.
pub data Written : Type 0 where
  wrote : (size number : ℕ) (buffer : List ℕ) → Written
  refused : LinkFault → (buffer : List ℕ) → Written
  told : ℕ → Written

-- The right answer where the suite's sender stands at m and n frames were written so far; where that sender stands after it, and how many were written then.
pub data RightWriting (m : Standing) (n : ℕ) : Writing → Written → Standing → ℕ → Type 0 where
  -- into a buffer with room, just what the suite's sender writes next
  writes_next : {b : ℕ} {t old f : List ℕ} → writes m b t ≡ Some f → length f ≤ length old
      → RightWriting m n (write_text b t old) (wrote (length f) n (f ++ drop (length f) old)) (fed m b t) (n + 1)
  -- into any other nothing, and then that sender is fed nothing
  no_room : {b : ℕ} {t old f : List ℕ} → writes m b t ≡ Some f → length old < length f
      → RightWriting m n (write_text b t old) (refused (ShortBuffer (length old)) old) m n
  -- nothing where that sender writes nothing; the refusal is the first in the table of a writing's checks
  writes_nothing : {b : ℕ} {t old : List ℕ} {e : LinkFault} → writes m b t ≡ None → first_of (link.write_table m b t (length old)) ≡ Some (link.told e)
      → RightWriting m n (write_text b t old) (refused e old) m n
  tells : RightWriting m n tell (told n) m n

abbrev pub SendingStep : Place → Writing → Written → Place → Type 0
SendingStep p w v q = RightWriting p.sender p.count w v q.sender q.count

abbrev pub SendingRun : Place → List Writing → List Written → Place → Type 0
SendingRun = Run SendingStep

-- the frames that a sending end has written
abbrev pub frames_written : List Written → List (List ℕ)
frames_written [] = []
frames_written (wrote size number buffer ∷ vs) = take size buffer ∷ frames_written vs
frames_written (refused e buffer ∷ vs) = frames_written vs
frames_written (told n ∷ vs) = frames_written vs
