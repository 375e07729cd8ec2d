-- The turns so far lead from where the loop began to where it is.
use Rattle.load.specs.Turns.{Turned}
use Rattle.load.proofs.work.repeat.Given as goal

abbrev pub invariant-loop : goal.invariant-loop
invariant-loop g l = Turned (g.W.Work.turned l.text) l.counter (l.initial.work, l.initial.out) (l.work, l.out)
