-- Worked figures of sessions: the number of steps that a key and a nonce take, and an example of each refusal.
use Rattle.std.specs.Prelude.{◌≡◌, ◌≢◌, ℕ, ◌≤◌, List, [], ◌++◌, length, replicate, Some}
use Rattle.duplex.specs.State.{zeros}
use Rattle.duplex.specs.Strings.{blocks, steps}
use Rattle.refusals.specs.declared.Layer.TheVariants.{Session}
use Rattle.refusals.specs.Tables.{refused_by, refusal_of}
use Rattle.session.specs.Sessions.{begun, ciphertext_of, tag_of}
use Rattle.session.specs.Refusals.{told}
use Rattle.session.specs.Calls.{Answer, seal_answer, open_answer}

-- the blocks of the key, those of the nonce, and eight empty ones
abbrev pub first_blocks : List ℕ → List ℕ → List (List ℕ)
first_blocks key nonce = blocks key ++ (blocks nonce ++ replicate 8 [])

-- an answer refuses, by this number and place
abbrev pub Refuses : Answer → ℕ → ℕ → Type 0
Refuses r number place = refused_by told r ≡ Some (refusal_of Session number place)

pub record SessionFigures : Type 0 where
  -- a session begins with one step for each of these blocks, and they are 18
  pub begins : (key nonce : List ℕ) → begun key nonce ≡ steps zeros (first_blocks key nonce)
  pub eighteen : (key nonce : List ℕ) → length key ≡ 16 → length nonce ≡ 16 → length (first_blocks key nonce) ≡ 18
  -- what sealing a text gives, with any other tag
  pub other_tag : (s ad text tag : List ℕ) (room : ℕ) → tag ≢ tag_of s ad text → length text ≤ room → Refuses (open_answer s ad (ciphertext_of s ad text) tag room) 7 (length text)
  -- 19 bytes into 18, whatever the tag
  pub sealed_into_18 : (text : List ℕ) → length text ≡ 19 → Refuses (seal_answer text 18) 5 18
  pub opened_into_18 : (s ad c tag : List ℕ) → length c ≡ 19 → Refuses (open_answer s ad c tag 18) 5 18
