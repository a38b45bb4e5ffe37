use Rattle.std.proofs.Common.{ℕ, List, ◌++◌, ap, ◌∙◌, append_assoc}
use Rattle.std.specs.Prelude.{codes}
use Rattle.std.specs.String.{string_bytes}
use Rattle.std.proofs.lemmas.Result.{on_ok_weaker}
use Rattle.rv_asm.specs.Texts.{word_text, operand_text, operand_texts, statement_text}
use Rattle.rv_asm.proofs.writing.push_data.Goals as goal

pub returns-clause-ok : goal.returns-clause-ok
unfolding statement_text operand_texts operand_text
returns-clause-ok c =
    let text = word_text c.args.word in
    on_ok_weaker c.push_word.result
    (λ e. e ∙ (ap (λ (b : List ℕ). b ++ text) c.in_ok-push_str.ensures.bytes
    ∙ append_assoc (string_bytes c.args.into.now) (codes ".word ") text))
    c.push_word.ensures.ok
