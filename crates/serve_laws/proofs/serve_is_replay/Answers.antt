use Rattle.serve_laws.proofs.RunLemmas.{serve_is_replay}
use Rattle.serve_laws.proofs.serve_is_replay.Goals as goal

pub returns : goal.returns
returns c = serve_is_replay
