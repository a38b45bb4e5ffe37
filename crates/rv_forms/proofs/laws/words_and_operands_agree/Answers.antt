use Rattle.rv_forms.proofs.NameLemmas.{fitting_found, row_is_fixed}
use Rattle.rv_forms.proofs.WordLemmas.{word_back, operands_in_range, word_keeps}
use Rattle.rv_forms.proofs.laws.words_and_operands_agree.Goals as goal

pub returns-clause-word : goal.returns-clause-word
returns-clause-word c = λ w m below e. word_back m.syntax m.value w below (fitting_found w m e).1

pub returns-clause-ranges : goal.returns-clause-ranges
returns-clause-ranges c = λ w syntax below. operands_in_range syntax w below

pub returns-clause-operands : goal.returns-clause-operands
returns-clause-operands c = λ m f row ranges. word_keeps m.syntax m.value f (row_is_fixed m row) ranges
