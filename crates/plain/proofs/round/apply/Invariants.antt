-- The cells below i are written.
use Rattle.std.proofs.Common.{◌≡◌, ℕ, ◌<◌, length, get_or}
use Rattle.plain.proofs.round.apply.Given as goal

abbrev pub invariant-loop-i : goal.invariant-loop-i
invariant-loop-i g l = (length l.t ≡ 257) × ((k : ℕ) → k < l.i → get_or l.t k 0 ≡ g.R.Rule.rule l.s k)
