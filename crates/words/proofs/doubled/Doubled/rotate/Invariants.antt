-- The bits that are read so far.
use Rattle.std.proofs.Common.{◌≡◌, ℕ, ◌+◌, ◌*◌, ◌<◌, length}
use Rattle.words.specs.Packing.{word_bit}
use Rattle.words.proofs.doubled.Doubled.rotate.Given as goal

abbrev pub invariant-loop-k : goal.invariant-loop-k
invariant-loop-k l = (length l.array ≡ 9) × ((m : ℕ) → m < 32 * l.k → word_bit l.array m ≡ word_bit l.row (m + (32 * l.from + l.by)))
