-- One call more, and the whole run.
use Rattle.std.proofs.Common.{arith, rules}
use Rattle.std.proofs.lemmas.List.{append-nil, drop_all, take_all}
use Rattle.rehearsal.specs.Rehearsals.{Answered}
use Rattle.rehearsal.proofs.Loops.{going_on, going_ends}
use Rattle.rehearsal.proofs.endpoint.play.Goals as goal

pub loop-call-preserved : goal.loop-call-preserved
loop-call-preserved g c = going_on (Answered g.D.Direction.transition) _ _ _ _ (omega arith) c.respond.ensures c.loop-call.invariant

pub returns : goal.returns
returns g c = going_ends (Answered g.D.Direction.transition) c.loop-call.calls c.loop-call.call-index (omega arith) (search (rules, take_all)) (search (rules, drop_all, append-nil)) c.loop-call.invariant
