use Rattle.std.proofs.Common.{ℕ, List, Option, Bor, ap, sym, ◌∙◌}
use Rattle.std.specs.Option.{option_copied}
use Rattle.rv_asm.specs.Labels.{place_in, with_label}
use Rattle.rv_asm.proofs.LabelLemmas.{label_added}
use Rattle.rv_asm.proofs.lines.add_label.Goals as goal

pub returns-in_ok-insert : goal.returns-in_ok-insert
returns-in_ok-insert c = λ name.
    label_added c.args.labels.now c.insert.new.self c.in-Some.label.now c.args.place c.in_ok-insert.ensures.updates
    (sym c.if-not-contains_key.ensures) name
    ∙ ap (λ (o : Option (Bor (List ℕ))). with_label (option_copied o) c.args.place
    (place_in c.args.labels.now) name) (sym c.in-Some.is)
