use Rattle.serve_laws.proofs.SendLemmas.{serve_sends_released}
use Rattle.serve_laws.proofs.serve_sends_released.Goals as goal

pub returns : goal.returns
returns c = serve_sends_released
