use Rattle.settle_history.proofs.CallLemmas.{answers_own_frame, takes_own_frame, says_new_numbers, takes_own_frames}
use Rattle.settle_history.proofs.law.takes_own_frames.Goals as goal

pub returns-clause-frame : goal.returns-clause-frame
returns-clause-frame c = takes_own_frame

pub returns-clause-frames : goal.returns-clause-frames
returns-clause-frames c = takes_own_frames

pub returns-clause-answer : goal.returns-clause-answer
returns-clause-answer c = answers_own_frame

pub returns-clause-numbers : goal.returns-clause-numbers
returns-clause-numbers c = says_new_numbers
