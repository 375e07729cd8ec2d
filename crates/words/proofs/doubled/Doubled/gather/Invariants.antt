-- The bits below 4 j are gathered.
use Rattle.std.proofs.Common.{◌≡◌, ◌+◌, ◌*◌, ◌%◌}
use Rattle.duplex.specs.State.{at}
use Rattle.words.specs.Packing.{state_of_words, number_from}
use Rattle.words.proofs.doubled.Doubled.gather.Given as goal

abbrev pub invariant-loop-j : goal.invariant-loop-j
invariant-loop-j l = (l.from.value ≡ (l.fn.start.value + l.c.value * (4 * l.j)) % 257)
    × (l.word ≡ number_from (λ i. at (state_of_words l.self.array) (l.fn.start.value + l.c.value * i)) 0 (4 * l.j))
