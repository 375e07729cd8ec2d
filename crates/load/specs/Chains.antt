-- A chain of steps, each with the reading of the one before as a full block.
use Rattle.std.specs.Prelude.{ℕ, zero, suc, ◌+◌, ◌^◌, List}
use Rattle.duplex.specs.State.{step, reading}

-- the last reading of n more steps, after a reading
unfoldable pub chained : List ℕ → ℕ → ℕ → ℕ
chained s word zero = word
chained s word (suc n) = chained (step s (2 ^ 32 + word)) (reading (step s (2 ^ 32 + word))) n
