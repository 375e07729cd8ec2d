-- What a sealed file holds, and what is opened of a file.
use Rattle.std.specs.Prelude.{◌≡◌, ◌↔◌, ℕ, ◌-◌, cond, List, ◌++◌, length, take, drop, Ok, Err, Result, nat_lt}
use Rattle.session.specs.declared.fault.SessionFault.TheVariants.{Tag}
use Rattle.session.specs.Sessions.{ciphertext_of, tag_of, plaintext_of, opens}
use Rattle.sealed.specs.declared.fault.SealedFault.{SealedFault}
use Rattle.sealed.specs.declared.fault.SealedFault.TheVariants.{Tagless, Session}

-- the ciphertext of a text, sealed at the bits s with associated data ad, and its tag
abbrev pub sealed_bytes : List ℕ → List ℕ → List ℕ → List ℕ
sealed_bytes s ad text = ciphertext_of s ad text ++ tag_of s ad text

-- by whether the last 16 bytes are the tag: the text of the bytes before them, or the session's refusal
abbrev pub opened_parts : List ℕ → List ℕ → List ℕ → List ℕ → Result (List ℕ) SealedFault
opened_parts s ad c tag = cond (opens s ad c tag) (Ok (plaintext_of s ad c)) (Err (Session (Tag (length c))))

-- the text of a file, or why it is not opened
unfoldable pub opened_file : List ℕ → List ℕ → List ℕ → Result (List ℕ) SealedFault
opened_file s ad file =
    cond (nat_lt (length file) 16)
    (Err (Tagless (length file)))
    (opened_parts s ad (take (length file - 16) file) (drop (length file - 16) file))

-- a file opens to a text just where it is this text sealed; so one that does not open is sealed from no text
abbrev pub OpensSealed : List ℕ → List ℕ → List ℕ → Type 0
OpensSealed s ad file = (text : List ℕ) → ((opened_file s ad file ≡ Ok text) ↔ (file ≡ sealed_bytes s ad text))
