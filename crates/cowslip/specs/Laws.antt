-- Theorems on the calls that work on a state: what the two sides of a session, and of a link, make of each other's bytes. A call returns a number; it found memory and old bytes in a buffer, and leaves after and new.
use Rattle.std.specs.Prelude.{◌≡◌, ℕ, ◌≤◌, List, ◌++◌, length, take, drop, Some, Ok}
use Rattle.session.specs.Sessions.{ciphertext_of, tag_of, after_sealing}
use Rattle.link.specs.Frames.{Standing}
use Rattle.link.specs.Sender.{writes, fed, CouldWrite}
use Rattle.cowslip.specs.Memory.{sender_mark, receiver_mark}
use Rattle.cowslip.specs.Calls.{session_for, end_for}

-- Opening a ciphertext c and a tag.

-- what sealing a text at these bits writes is read back
abbrev pub ReadsBack : List ℕ → List ℕ → List ℕ → List ℕ → List ℕ → ℕ → List ℕ → Type 0
ReadsBack memory ad c tag old number new =
    (s text : List ℕ) → session_for memory 3 (length tag) ≡ Ok s → c ≡ ciphertext_of s ad text → tag ≡ tag_of s ad text → length text ≤ length old
    → (number ≡ 0) × (new ≡ text ++ drop (length text) old)

-- and whatever the tag is, the session then stands where sealing the text would have left it
abbrev pub Follows : List ℕ → List ℕ → List ℕ → List ℕ → List ℕ → List ℕ → Type 0
Follows memory ad c tag old after =
    (s text : List ℕ) → session_for memory 3 (length tag) ≡ Ok s → c ≡ ciphertext_of s ad text → length text ≤ length old → session_for after 3 16 ≡ Ok (after_sealing s ad text)

-- what is accepted, sealing would have written at these bits, of the text that now stands in the buffer
pub record Sealed (s ad text c tag after : List ℕ) : Type 0 where
  pub ciphertext : c ≡ ciphertext_of s ad text
  pub same_tag : tag ≡ tag_of s ad text
  pub stands : session_for after 3 16 ≡ Ok (after_sealing s ad text)

abbrev pub OnlySealed : List ℕ → List ℕ → List ℕ → List ℕ → ℕ → List ℕ → List ℕ → Type 0
OnlySealed memory ad c tag number after new = (s : List ℕ) → session_for memory 3 (length tag) ≡ Ok s → number ≡ 0 → Sealed s ad (take (length c) new) c tag after

-- Writing a text t of the kind with byte b.

-- where the suite's sender writes a frame, and there is room for it, this frame is written, and the end stands where that sender does
abbrev pub WritesFrame : List ℕ → ℕ → List ℕ → List ℕ → ℕ → List ℕ → List ℕ → Type 0
WritesFrame memory b t old number after new =
    (m : Standing) (f : List ℕ) → end_for sender_mark memory ≡ Ok m → writes m b t ≡ Some f → length f ≤ length old
    → (number ≡ 0) × (new ≡ f ++ drop (length f) old) × (end_for sender_mark after ≡ Ok (fed m b t))

-- and nothing is written elsewhere
abbrev pub OnlyThere : List ℕ → ℕ → List ℕ → List ℕ → ℕ → Type 0
OnlyThere memory b t old number = (m : Standing) → end_for sender_mark memory ≡ Ok m → number ≡ 0 → (f : List ℕ) × (writes m b t ≡ Some f) × (length f ≤ length old)

-- Taking a frame f.

-- where the suite's sender could write it next, and there is room for its text, the text is read, and the end stands where that sender then does
abbrev pub TakesFrame : List ℕ → List ℕ → List ℕ → ℕ → List ℕ → List ℕ → Type 0
TakesFrame memory f old number after new =
    (m : Standing) (b : ℕ) (t : List ℕ) → end_for receiver_mark memory ≡ Ok m → writes m b t ≡ Some f → length t ≤ length old
    → (number ≡ 0) × (new ≡ t ++ drop (length t) old) × (end_for receiver_mark after ≡ Ok (fed m b t))

-- and nothing else is accepted
abbrev pub OnlyWritten : List ℕ → List ℕ → ℕ → Type 0
OnlyWritten memory f number = (m : Standing) → end_for receiver_mark memory ≡ Ok m → number ≡ 0 → CouldWrite m f
