use Rattle.seq_rewriter.proofs.KeptLemmas.{opening_keeps_first, opening_keeps_others, thinning_keeps_current}
use Rattle.seq_rewriter.proofs.law.keeps_the_first_number.Goals as goal

pub returns-clause-first : goal.returns-clause-first
returns-clause-first c = opening_keeps_first

pub returns-clause-others : goal.returns-clause-others
returns-clause-others c = opening_keeps_others

pub returns-clause-current : goal.returns-clause-current
returns-clause-current c = thinning_keeps_current
