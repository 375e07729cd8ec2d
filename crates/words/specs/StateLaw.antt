-- The law of `Engine` for packed words: what they hold is a state. It stands here since src cites, of its own crate, specs alone.
use Rattle.std.specs.Prelude.{ℕ, ◌/◌, ◌%◌, List, slice_index}
use Rattle.duplex.specs.State.{IsState}
use Rattle.duplex.proofs.StateLaws.{bits-state}
use Rattle.words.specs.Packing.{state_of_words}

pub words-state : (ws : List ℕ) → IsState (state_of_words ws)
unfolding state_of_words
words-state ws = bits-state (λ i. slice_index ws (i / 32)) (λ i. i % 32)
