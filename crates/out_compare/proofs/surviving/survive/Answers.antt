-- A survivor's lines are untrimmed past their ends.
use Rattle.std.proofs.Common.{◌≡◌, sym, subst}
use Rattle.settle_rules.specs.Progress.{ProgressTable}
use Rattle.settle_table.specs.Table.{AreUntrimmed}
use Rattle.out_compare.proofs.SurviveLemmas.{survivor_untrimmed}
use Rattle.out_compare.proofs.surviving.survive.Goals as goal

pub returns-clause-order : goal.returns-clause-order
returns-clause-order c = subst (λ (t : ProgressTable). AreUntrimmed c.args.lines t) (sym
    c.in_ok-survive_lines.ensures.progress) (survivor_untrimmed c.args.lines c.args.numbers)
