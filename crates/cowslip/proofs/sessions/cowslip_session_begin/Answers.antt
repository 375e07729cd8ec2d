-- A number 0 says that the session has begun.
use Rattle.std.proofs.Common.{sym, ◌∙◌}
use Rattle.cowslip.proofs.CallLaws.{good}
use Rattle.cowslip.proofs.sessions.cowslip_session_begin.Goals as goal

pub returns-clause-next : goal.returns-clause-next
returns-clause-next c zero argument = c.begin.ensures.next (good c.begin.result (sym c.report.ensures.0 ∙ zero)) argument
