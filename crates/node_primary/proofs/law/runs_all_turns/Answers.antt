-- By cases of the calls.
use Rattle.node_primary.proofs.CallLemmas.{runs_all_turns}
use Rattle.node_primary.proofs.law.runs_all_turns.Goals as goal

pub returns : goal.returns
returns c = runs_all_turns
