use Rattle.std.proofs.Common.{List, sym, ap, ◌∙◌}
use Rattle.std.specs.Option.{option_copied}
use Rattle.rv_forms.specs.declared.kinds.Kind.{Kind}
use Rattle.rv_asm.specs.Labels.{words_in}
use Rattle.rv_asm.specs.Operands.{operands}
use Rattle.rv_asm.proofs.StatementLemmas.{read_in_range, row_is}
use Rattle.rv_asm.proofs.statements.instruction_words.Goals as goal

pub word_of-requires : goal.word_of-requires
word_of-requires c =
    let places = words_in c.args.context.now.labels.now in
    let rest = option_copied c.args.rest in
    read_in_range places c.args.context.now.here _ (row_is c.in-Some.name.mnemonic.syntax).0 rest c.no_operands.result
    c.in_ok-values-in-Some.values
    (ap (λ (ks : List Kind). operands places c.args.context.now.here ks rest c.no_operands.result)
    (sym c.kinds_of-kinds.ensures) ∙ sym c.in_ok-values-in-Some.ensures)
