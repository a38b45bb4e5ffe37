-- The line is made, and the frames are spelled.
use Rattle.std.proofs.Common.{length, ap, ◌∙◌}
use Rattle.command_plans.specs.Solo.{made_line}
use Rattle.command_plans.proofs.SoloLemmas.{end_made}
use Rattle.command_plans.proofs.solo.made_end.Goals as goal

pub returns-clause-plan : goal.returns-clause-plan
returns-clause-plan c = λ state.
    end_made state c.args.sent.now c.args.turns.now c.in_ok-sent.sent.items _ c.in_ok-sent.ensures
    (c.in_ok-line.ensures ∙ ap (λ n. made_line (length c.args.turns.now) n) c.len.ensures)
