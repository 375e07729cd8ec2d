-- The words below k are gathered.
use Rattle.std.proofs.Common.{◌≡◌, ℕ, ◌*◌, ◌%◌, ◌<◌, length}
use Rattle.duplex.specs.State.{at}
use Rattle.words.specs.Packing.{word_bit, state_of_words}
use Rattle.words.proofs.vector.Words.stretch_by.Given as goal

abbrev pub invariant-loop-k : goal.invariant-loop-k
invariant-loop-k l = (length l.array ≡ 9)
    × (l.from.0 ≡ l.c.value * (32 * l.k) % 257)
    × ((m : ℕ) → m < 32 * l.k → word_bit l.array m ≡ at (state_of_words l.self.array) (l.c.value * m))
