-- A session of the suite: the 257 bits that a key and a nonce give, and what sealing and opening make of them.
use Rattle.std.specs.Prelude.{ℕ, Bool, cond, List, length, replicate}
use Rattle.std.specs.Str.{bytes_eq}
use Rattle.duplex.specs.State.{zeros}
use Rattle.duplex.specs.Strings.{absorbed, encrypted, decrypted, after_blanks, output, after_output}

-- the bits after a key
unfoldable pub after_key : List ℕ → List ℕ
after_key key = absorbed zeros key

-- the bits after a nonce
unfoldable pub after_nonce : List ℕ → List ℕ → List ℕ
after_nonce s nonce = after_blanks (absorbed s nonce)

-- the bits of a session that a key and a nonce begin
abbrev pub begun : List ℕ → List ℕ → List ℕ
begun key nonce = after_nonce (after_key key) nonce

-- Sealing a text with associated data: the ciphertext, the tag, and the bits after it.

unfoldable pub ciphertext_of : List ℕ → List ℕ → List ℕ → List ℕ
ciphertext_of s ad text = encrypted (absorbed s ad) text

unfoldable pub tag_of : List ℕ → List ℕ → List ℕ → List ℕ
tag_of s ad text = output (absorbed (absorbed s ad) text) 16

unfoldable pub after_sealing : List ℕ → List ℕ → List ℕ → List ℕ
after_sealing s ad text = after_output (absorbed (absorbed s ad) text) 16

-- Opening: the text of a ciphertext, and whether its tag is the one that sealing this text gives, in all 16 bytes. The bits after it are those after sealing the text.

unfoldable pub plaintext_of : List ℕ → List ℕ → List ℕ → List ℕ
plaintext_of s ad c = decrypted (absorbed s ad) c

unfoldable pub opens : List ℕ → List ℕ → List ℕ → List ℕ → Bool
opens s ad c tag = bytes_eq (tag_of s ad (plaintext_of s ad c)) tag

-- a text as it is left: itself where it is released, else as many zeros
abbrev pub shown : Bool → List ℕ → List ℕ
shown released text = cond released text (replicate (length text) 0)
