-- What is sent is frames.
use Rattle.guest_machine.proofs.SentLemmas.{machines_send_frames}
use Rattle.guest_machine.proofs.law.frames_are_sent.Goals as goal

pub returns : goal.returns
returns c = machines_send_frames
