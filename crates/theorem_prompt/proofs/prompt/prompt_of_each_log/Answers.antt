use Rattle.theorem_prompt.proofs.PromptLogs.{prompt_holds}
use Rattle.theorem_prompt.proofs.prompt.prompt_of_each_log.Goals as goal

pub returns : goal.returns
returns c = prompt_holds
