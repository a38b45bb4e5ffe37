use Rattle.theorem_prompt.proofs.PromptLogs.{acks_hold}
use Rattle.theorem_prompt.proofs.prompt.acks_of_each_log.Goals as goal

pub returns : goal.returns
returns c = acks_hold
