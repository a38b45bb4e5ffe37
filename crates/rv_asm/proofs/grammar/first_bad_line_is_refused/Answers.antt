use Rattle.rv_asm.proofs.BadLineLemmas.{first_bad_found}
use Rattle.rv_asm.proofs.grammar.first_bad_line_is_refused.Goals as goal

pub returns : goal.returns
returns c = first_bad_found
