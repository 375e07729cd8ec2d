-- The calls so far are answered as they must be, and the others are as they were.
use Rattle.link.specs.Calls.{stands}
use Rattle.link.specs.Frames.{started}
use Rattle.rehearsal.specs.Rehearsals.{Answered}
use Rattle.rehearsal.proofs.Loops.{Goes}
use Rattle.rehearsal.proofs.endpoint.play.Given as goal

abbrev pub invariant-loop-call : goal.invariant-loop-call
invariant-loop-call g l = Goes (Answered g.D.Direction.transition) (started l.key.bytes l.nonce.bytes) l.initial.calls (stands g.E.Engine.bits l.end) l.calls l.call-index
