-- The two theorems on a writing.
use Rattle.cowslip.proofs.CallLaws.{writes_frame_of, writes_only_there}
use Rattle.cowslip.proofs.ends.cowslip_sender_write.Goals as goal

pub returns-clause-exact : goal.returns-clause-exact
returns-clause-exact c = writes_frame_of c.args.end.now _ _ _ _ c.write_and_report.new.end _ c.write_and_report.ensures.answer.0 c.write_and_report.ensures.out c.write_and_report.ensures.next

pub returns-clause-only : goal.returns-clause-only
returns-clause-only c = writes_only_there c.args.end.now _ _ _ _ c.write_and_report.new.end _ c.write_and_report.ensures.answer.0 c.write_and_report.ensures.out c.write_and_report.ensures.next
