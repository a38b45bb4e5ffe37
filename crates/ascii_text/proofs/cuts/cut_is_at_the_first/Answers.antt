use Rattle.std.proofs.Common.{refl}
use Rattle.ascii_text.proofs.CutLemmas.{cut_parts, cut_apart, cut_append}
use Rattle.ascii_text.proofs.cuts.cut_is_at_the_first.Goals as goal

pub returns-clause-parts : goal.returns-clause-parts
returns-clause-parts c = cut_parts

pub returns-clause-apart : goal.returns-clause-apart
returns-clause-apart c = cut_apart

pub returns-clause-each : goal.returns-clause-each
returns-clause-each c = λ at front rest none. rw (cut_append at front rest none) (refl, refl)
