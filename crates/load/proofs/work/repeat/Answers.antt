-- One turn more.
use Rattle.std.proofs.Common.{ℕ, ◌+◌, sym, subst, add-one}
use Rattle.load.specs.Turns.{Turned}
use Rattle.load.proofs.work.repeat.Goals as goal

more : {A : Type 0} (rule : A → A → Type 0) (n : ℕ) (a b c : A) → Turned rule n a b → rule b c → Turned rule (n + 1) a c
unfolding Turned
more rule n a b c before now = let P : ℕ → Type 0 = λ k. Turned rule k a c in subst P (sym (add-one n)) (b, before, now)

pub loop-preserved : goal.loop-preserved
loop-preserved g c = more _ _ _ _ _ c.loop.invariant c.turn.ensures
