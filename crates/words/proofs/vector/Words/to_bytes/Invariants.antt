-- The bytes below k are those of the words.
use Rattle.std.proofs.Common.{◌≡◌, ℕ, ◌<◌, length, get_or}
use Rattle.words.proofs.ByteLaws.{word_byte}
use Rattle.words.proofs.vector.Words.to_bytes.Given as goal

abbrev pub invariant-loop-k : goal.invariant-loop-k
invariant-loop-k l = (length l.bytes ≡ 33) × ((m : ℕ) → m < l.k → get_or l.bytes m 0 ≡ word_byte l.self.array m)
