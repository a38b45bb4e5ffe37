use Rattle.frame_mirror.proofs.AcceptLemmas.{accepted_is_kept, kept_is_accepted}
use Rattle.frame_mirror.proofs.law.accepted_frames_are_clean.Goals as goal

pub returns-clause-kept : goal.returns-clause-kept
returns-clause-kept c = accepted_is_kept

pub returns-clause-again : goal.returns-clause-again
returns-clause-again c = kept_is_accepted
