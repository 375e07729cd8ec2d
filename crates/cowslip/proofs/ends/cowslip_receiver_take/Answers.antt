-- The two theorems on a taking.
use Rattle.cowslip.proofs.CallLaws.{takes_frame, takes_only_written}
use Rattle.cowslip.proofs.ends.cowslip_receiver_take.Goals as goal

pub returns-clause-exact : goal.returns-clause-exact
returns-clause-exact c = takes_frame c.args.end.now _ _ _ c.take_and_report.new.end _ c.take_and_report.ensures.answer.0 c.take_and_report.ensures.text c.take_and_report.ensures.next

pub returns-clause-only : goal.returns-clause-only
returns-clause-only c = takes_only_written c.args.end.now _ _ _ c.take_and_report.new.end _ c.take_and_report.ensures.answer.0 c.take_and_report.ensures.text c.take_and_report.ensures.next
