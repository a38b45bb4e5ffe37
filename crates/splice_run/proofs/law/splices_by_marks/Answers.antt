use Rattle.splice_run.proofs.MarkLemmas.{taken_turns_are}
use Rattle.splice_run.proofs.law.splices_by_marks.Goals as goal

pub returns : goal.returns
returns c = λ log. taken_turns_are log
