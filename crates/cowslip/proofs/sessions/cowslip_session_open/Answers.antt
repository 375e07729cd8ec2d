-- The three theorems on an opening.
use Rattle.cowslip.proofs.CallLaws.{reads_back, follows, only_sealed}
use Rattle.cowslip.proofs.sessions.cowslip_session_open.Goals as goal

pub returns-clause-back : goal.returns-clause-back
returns-clause-back c = reads_back _ _ _ _ _ _ c.open_and_report.new.session _ c.open_and_report.ensures.answer.0 c.open_and_report.ensures.out c.open_and_report.ensures.next

pub returns-clause-follows : goal.returns-clause-follows
returns-clause-follows c = follows _ _ _ _ _ _ c.open_and_report.new.session _ c.open_and_report.ensures.answer.0 c.open_and_report.ensures.out c.open_and_report.ensures.next

pub returns-clause-only : goal.returns-clause-only
returns-clause-only c = only_sealed _ _ _ _ _ _ c.open_and_report.new.session _ c.open_and_report.ensures.answer.0 c.open_and_report.ensures.out c.open_and_report.ensures.next
