-- The powers of 12 modulo 257, and their table.
use Rattle.std.specs.Prelude.{◌≡◌, ℕ, ◌+◌, ◌*◌, ◌%◌, ◌^◌, ◌<◌, List, map, length, slice_index, slice_index_or}
use Rattle.std.specs.List.{range_with_len}

abbrev pub power_of_12 : ℕ → ℕ
power_of_12 n = 12 ^ n % 257

unfoldable pub powers_of_12 : List ℕ
powers_of_12 = map power_of_12 (range_with_len 0 256)

-- the rule of the table: it begins with 1, every later entry is 12 times the one before it (mod 257), no value comes twice, and 12 times the last of its 256 entries is 1 again
pub record IsPowers (t : List ℕ) : Type 0 where
  pub long : length t ≡ 256
  pub first : slice_index_or t 0 0 ≡ 1
  pub next : (n : ℕ) → n < 255 → slice_index t (n + 1) ≡ 12 * slice_index t n % 257
  pub apart : (m n : ℕ) → m < 256 → n < 256 → slice_index t m ≡ slice_index t n → m ≡ n
  pub back : 12 * slice_index t 255 % 257 ≡ 1
