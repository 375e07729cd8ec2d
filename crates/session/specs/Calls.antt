-- What the calls of a session promise: the answer, and then the bits, the buffer and the tag after that answer.
use Rattle.std.specs.Prelude.{◌≡◌, ℕ, ◌≤◌, Bool, cond, List, ◌++◌, length, take, drop, replicate, Ok, Err, Result, nat_lt}
use Rattle.session.specs.declared.fault.SessionFault.{SessionFault}
use Rattle.session.specs.declared.fault.SessionFault.TheVariants.{Short, Tag}
use Rattle.session.specs.declared.sealing.Keyed.{Keyed}
use Rattle.session.specs.declared.sealing.Session.{Session}
use Rattle.session.specs.Sessions.{ciphertext_of, tag_of, after_sealing, plaintext_of, opens}

-- where a keyed state and a session stand, by what the engine means
module _ {E : Type 0} (bits : E → List ℕ) where
  abbrev pub keyed_bits : Keyed E → List ℕ
  keyed_bits k = bits k.duplex.engine

  abbrev pub session_bits : Session E → List ℕ
  session_bits s = bits s.duplex.engine

abbrev pub Answer : Type 0
Answer = Result ℕ SessionFault

-- Sealing a text at the bits s, with associated data ad.

-- with room for so many bytes
unfoldable pub seal_answer : List ℕ → ℕ → Answer
seal_answer text room = cond (nat_lt room (length text)) (Err (Short room)) (Ok (length text))

abbrev pub seal_bits : List ℕ → List ℕ → List ℕ → Answer → List ℕ
seal_bits s ad text (Ok n) = after_sealing s ad text
seal_bits s ad text (Err e) = s

abbrev pub seal_out : List ℕ → List ℕ → List ℕ → List ℕ → Answer → List ℕ
seal_out s ad text old (Ok n) = ciphertext_of s ad text ++ drop n old
seal_out s ad text old (Err e) = old

abbrev pub seal_tag : List ℕ → List ℕ → List ℕ → List ℕ → Answer → List ℕ
seal_tag s ad text old (Ok n) = tag_of s ad text
seal_tag s ad text old (Err e) = old

-- Opening a ciphertext c and a tag at the bits s, with associated data ad.

-- by whether the tag is accepted
abbrev pub verdict : List ℕ → Bool → Answer
verdict c accepted = cond accepted (Ok (length c)) (Err (Tag (length c)))

-- with room for so many bytes
unfoldable pub open_answer : List ℕ → List ℕ → List ℕ → List ℕ → ℕ → Answer
open_answer s ad c tag room = cond (nat_lt room (length c)) (Err (Short room)) (verdict c (opens s ad c tag))

abbrev pub open_bits : List ℕ → List ℕ → List ℕ → Answer → List ℕ
open_bits s ad c (Ok n) = after_sealing s ad (plaintext_of s ad c)
open_bits s ad c (Err (Tag n)) = after_sealing s ad (plaintext_of s ad c)
open_bits s ad c (Err (Short n)) = s

abbrev pub open_out : List ℕ → List ℕ → List ℕ → List ℕ → Answer → List ℕ
open_out s ad c old (Ok n) = plaintext_of s ad c ++ drop n old
open_out s ad c old (Err (Tag n)) = replicate n 0 ++ drop n old
open_out s ad c old (Err (Short n)) = old

-- Two theorems on an opening that answers r, after which the bits are s' and the buffer, which held old, holds new.

-- what sealing a text here writes is read back, and both stand at the same bits
pub record Reads (s ad text old : List ℕ) (r : Answer) (s' new : List ℕ) : Type 0 where
  pub accepts : r ≡ Ok (length text)
  pub shows : new ≡ text ++ drop (length text) old
  pub stands : s' ≡ after_sealing s ad text

abbrev pub ReadsBack : List ℕ → List ℕ → List ℕ → List ℕ → List ℕ → Answer → List ℕ → List ℕ → Type 0
ReadsBack s ad c tag old r s' new =
    (text : List ℕ) → c ≡ ciphertext_of s ad text → tag ≡ tag_of s ad text → length text ≤ length old → Reads s ad text old r s' new

-- what is accepted, sealing would have written here, of the text that now stands in the buffer
pub record Sealed (s ad text c tag s' : List ℕ) : Type 0 where
  pub ciphertext : c ≡ ciphertext_of s ad text
  pub same_tag : tag ≡ tag_of s ad text
  pub stands : s' ≡ after_sealing s ad text

abbrev pub OnlySealed : List ℕ → List ℕ → List ℕ → List ℕ → Answer → List ℕ → List ℕ → Type 0
OnlySealed s ad c tag r s' new = (n : ℕ) → r ≡ Ok n → Sealed s ad (take n new) c tag s'
