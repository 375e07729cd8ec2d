-- The words below k have their four bytes.
use Rattle.std.proofs.Common.{◌≡◌, ℕ, ◌*◌, ◌<◌, length, get_or}
use Rattle.words.proofs.ByteLaws.{word_byte}
use Rattle.words.proofs.vector.Words.from_bytes.Given as goal

abbrev pub invariant-loop-k : goal.invariant-loop-k
invariant-loop-k l = (length l.array ≡ 9) × ((m : ℕ) → m < 4 * l.k → word_byte l.array m ≡ get_or l.bytes m 0)
