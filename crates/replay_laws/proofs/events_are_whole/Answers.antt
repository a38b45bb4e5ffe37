use Rattle.replay_laws.proofs.EventLemmas.{events_are_whole}
use Rattle.replay_laws.proofs.events_are_whole.Goals as goal

pub returns : goal.returns
returns c = events_are_whole
