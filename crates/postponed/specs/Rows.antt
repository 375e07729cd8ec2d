-- A row of 64 bits, added at 64 places.
use Rattle.std.specs.Prelude.{ℕ, ◌+◌, ◌/◌, ◌^◌, List}
use Rattle.words.specs.Packing.{add_word_by}

-- bits 0 to 31 at the places of positions 0 to 31 at the count n, and bits 32 to 63 at those at the count n + 128, which are opposite: 12 ^ 128 is −1 modulo 257
abbrev pub row_added : ℕ → List ℕ → ℕ → List ℕ
row_added n s row = add_word_by (12 ^ (n + 128)) (add_word_by (12 ^ n) s row) (row / 2 ^ 32)
