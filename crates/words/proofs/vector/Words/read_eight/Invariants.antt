-- The bits from k on are read.
use Rattle.std.proofs.Common.{◌≡◌, ◌+◌, ◌-◌}
use Rattle.duplex.specs.State.{read_bit}
use Rattle.words.specs.Packing.{state_of_words, stretch, number_from}
use Rattle.words.proofs.vector.Words.read_eight.Given as goal

abbrev pub invariant-loop-k : goal.invariant-loop-k
invariant-loop-k g l = l.out ≡ number_from (read_bit (stretch (g.P.Places.factor l.places) (state_of_words l.self.array))) (l.j + l.k) (8 - l.k)
