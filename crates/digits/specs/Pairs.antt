-- Bytes and their digits, two for each.
use Rattle.std.specs.Prelude.{◌≡◌, ℕ, ◌+◌, ◌*◌, ◌/◌, ◌%◌, ◌<◌, List, [], ◌∷◌, None, slice_index}
use Rattle.digits.specs.declared.single.Letters.{Letters}
use Rattle.digits.specs.declared.single.Letters.TheVariants.{Either}
use Rattle.digits.specs.Digits.{value_or_zero, hex_digit, capital_digit, bad_hex}

-- the bytes that pairs of digits write
abbrev pub unhex_by : Letters → List ℕ → List ℕ
unhex_by letters [] = []
unhex_by letters (a ∷ []) = []
unhex_by letters (a ∷ b ∷ cs) = (16 * value_or_zero letters a + value_or_zero letters b) ∷ unhex_by letters cs

-- the same where the letters of either case are digits
abbrev pub unhex : List ℕ → List ℕ
unhex digits = unhex_by Either digits

-- bytes as two digits each, where the given one is that of a number below 16
abbrev pub two_each : (ℕ → ℕ) → List ℕ → List ℕ
two_each digit [] = []
two_each digit (b ∷ bs) = digit (b / 16) ∷ digit (b % 16) ∷ two_each digit bs

-- bytes as digits
abbrev pub hex : List ℕ → List ℕ
hex bs = two_each hex_digit bs

-- the same in capitals
abbrev pub capital_hex : List ℕ → List ℕ
capital_hex bs = two_each capital_digit bs

-- bytes over the front of a buffer, as many as it has room for
abbrev pub laid : List ℕ → List ℕ → List ℕ
laid [] old = old
laid (b ∷ bs) [] = []
laid (b ∷ bs) (o ∷ old) = b ∷ laid bs old

-- the digits of bytes are sound, and write those bytes; capitals where the letters of either case are read
pub record DigitsReadBack : Type 0 where
  pub sound : (letters : Letters) (t : List ℕ) → ((i : ℕ) → slice_index t i < 256) → bad_hex letters (hex t) ≡ None
  pub same : (letters : Letters) (t : List ℕ) → ((i : ℕ) → slice_index t i < 256) → unhex_by letters (hex t) ≡ t
  pub capitals_sound : (t : List ℕ) → ((i : ℕ) → slice_index t i < 256) → bad_hex Either (capital_hex t) ≡ None
  pub capitals_same : (t : List ℕ) → ((i : ℕ) → slice_index t i < 256) → unhex_by Either (capital_hex t) ≡ t
