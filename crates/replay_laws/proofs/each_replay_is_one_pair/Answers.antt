use Rattle.replay_laws.proofs.HeadlineLemmas.{each_replay_is_one_pair}
use Rattle.replay_laws.proofs.each_replay_is_one_pair.Goals as goal

pub returns : goal.returns
returns c = each_replay_is_one_pair c.machines_start.ensures
