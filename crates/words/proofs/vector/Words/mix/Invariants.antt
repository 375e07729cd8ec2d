-- The bits mixed so far, and the last word when it is made.
use Rattle.std.proofs.Common.{◌≡◌, ℕ, ◌*◌, ◌<◌, length, get_or}
use Rattle.words.specs.Packing.{word_bit}
use Rattle.words.proofs.vector.Words.mix.Given as goal

abbrev pub invariant-loop-k : goal.invariant-loop-k
invariant-loop-k g l = (length l.array ≡ 9)
    × ((m : ℕ) → m < 32 * l.k → word_bit l.array m ≡ g.M.Mix.rule (word_bit l.w m) (word_bit l.x m) (word_bit l.y m))
    × (8 < l.k → get_or l.array 8 0 < 2)
