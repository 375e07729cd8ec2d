-- What is left to add gives the whole.
use Rattle.std.proofs.Common.{◌≡◌, ◌+◌, ◌-◌}
use Rattle.std.specs.List.{range_with_len}
use Rattle.duplex.specs.State.{add_bits}
use Rattle.words.specs.Packing.{state_of_words, place_by}
use Rattle.words.proofs.vector.Words.add_eight.Given as goal

abbrev pub invariant-loop-k : goal.invariant-loop-k
invariant-loop-k g l =
    let added = add_bits (place_by (g.P.Places.factor l.places)) l.x in
    added (state_of_words l.self.array) (range_with_len (l.j + l.k) (8 - l.k)) ≡ added (state_of_words l.initial.self.array) (range_with_len l.j 8)
