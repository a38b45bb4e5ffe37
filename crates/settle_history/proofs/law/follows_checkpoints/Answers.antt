use Rattle.settle_history.proofs.CallLemmas.{acknowledges, captures, learns_number}
use Rattle.settle_history.proofs.law.follows_checkpoints.Goals as goal

pub returns-clause-known : goal.returns-clause-known
returns-clause-known c = learns_number

pub returns-clause-captured : goal.returns-clause-captured
returns-clause-captured c = captures

pub returns-clause-acknowledged : goal.returns-clause-acknowledged
returns-clause-acknowledged c = acknowledges
