-- The number that was kept last is found.
use Rattle.std.proofs.Common.{◌≡◌, None, ap, sym, ◌∙◌}
use Rattle.seq_rewriter.specs.Kept.{KeptNumbers, number_of}
use Rattle.seq_rewriter.proofs.KeptLemmas.{push_found}
use Rattle.seq_rewriter.proofs.kept.Numbers.opened.Goals as goal

pub returns-in_ok-add_number-in-None-clause-kept : goal.returns-in_ok-add_number-in-None-clause-kept
returns-in_ok-add_number-in-None-clause-kept c =
    let none : number_of c.self.inside.table.entries c.args.tuple.now c.args.client ≡ None =
    ap (λ (ns : KeptNumbers). number_of ns c.args.tuple.now c.args.client) c.self.view_is
    ∙ (sym c.number.ensures ∙ c.in-None.is) in
    rw c.in_ok-add_number-in-None.ensures.ok (push_found c.self.inside.table.entries _ c.args.number none)
