use Rattle.std.proofs.Common.{sym}
use Rattle.std.specs.Option.{option_copied}
use Rattle.rv_asm.specs.Labels.{words_in}
use Rattle.rv_asm.proofs.StatementLemmas.{load_apart, read_in_range}
use Rattle.rv_asm.proofs.statements.li_words.Goals as goal

pub load_words-upper-requires : goal.load_words-upper-requires
load_words-upper-requires c = (read_in_range (words_in c.args.context.now.labels.now) c.args.context.now.here _
    load_apart (option_copied c.args.rest) c.no_operands.result c.in_ok-values.values (sym c.in_ok-values.ensures)).0
