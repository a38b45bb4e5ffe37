use Rattle.settle_history.proofs.CallLemmas.{answers_heard_frame, takes_heard_frame}
use Rattle.settle_history.proofs.law.takes_heard_frame.Goals as goal

pub returns-clause-frame : goal.returns-clause-frame
returns-clause-frame c = takes_heard_frame

pub returns-clause-answer : goal.returns-clause-answer
returns-clause-answer c = answers_heard_frame
