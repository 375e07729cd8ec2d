-- The parts of a frame, and where an end stands.
use Rattle.std.specs.Prelude.{ℕ, ◌+◌, ◌-◌, List, ◌∷◌, length, take, drop}
use Rattle.duplex.specs.Strings.{word_bytes}
use Rattle.session.specs.Sessions.{begun, plaintext_of}

-- where an end stands: 257 bits and a number
pub record Standing : Type 0 where
  pub state : List ℕ
  pub number : ℕ

abbrev pub standing_of : List ℕ → ℕ → Standing
standing_of s n = record { state = s; number = n }

-- where an end begins
unfoldable pub started : List ℕ → List ℕ → Standing
started key nonce = record { state = begun key nonce; number = 0 }

-- an end that has come to this number neither writes nor takes
abbrev pub number_limit : ℕ
number_limit = 1000000

-- the bytes before the ciphertext are so many
abbrev pub header_length : ℕ
header_length = 5

-- and the tag's bytes so many
abbrev pub tag_length : ℕ
tag_length = 16

-- how much longer a frame is than its text
abbrev pub overhead : ℕ
overhead = header_length + tag_length

-- the bytes before the ciphertext, which are the associated data: a kind byte, and a number in four bytes
abbrev pub header_of : ℕ → ℕ → List ℕ
header_of byte number = byte ∷ word_bytes number

-- What is read in a frame: the associated data and, of it, the number; the ciphertext; the tag.

abbrev pub header_in : List ℕ → List ℕ
header_in f = take header_length f

abbrev pub number_in : List ℕ → List ℕ
number_in f = take 4 (drop 1 f)

abbrev pub ciphertext_in : List ℕ → List ℕ
ciphertext_in f = take (length f - overhead) (drop header_length f)

abbrev pub tag_in : List ℕ → List ℕ
tag_in f = drop (length f - tag_length) f

-- the text that a session at these bits reads in it
abbrev pub text_in : Standing → List ℕ → List ℕ
text_in m f = plaintext_of m.state (header_in f) (ciphertext_in f)
