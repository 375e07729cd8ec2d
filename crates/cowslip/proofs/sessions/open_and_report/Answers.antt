-- The session after an opening, in whatever form its slices are handed on.
use Rattle.std.proofs.Common.{rules}
use Rattle.std.proofs.lemmas.List.{take_rest}
use Rattle.cowslip.proofs.sessions.open_and_report.Goals as goal

pub returns-clause-next : goal.returns-clause-next
returns-clause-next c s argument found = search (rules, take_rest, c.open.ensures.next s argument found)
