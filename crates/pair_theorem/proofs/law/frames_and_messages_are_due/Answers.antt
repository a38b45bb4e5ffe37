use Rattle.pair_theorem.proofs.EachLog.{frames_are, messages_are}
use Rattle.pair_theorem.proofs.law.frames_and_messages_are_due.Goals as goal

pub returns-clause-frames : goal.returns-clause-frames
returns-clause-frames c = frames_are

pub returns-clause-messages : goal.returns-clause-messages
returns-clause-messages c = messages_are
