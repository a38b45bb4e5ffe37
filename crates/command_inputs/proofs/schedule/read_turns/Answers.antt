-- The lines were read, and then their turns.
use Rattle.std.proofs.Common.{Ok, Err, ◌∙◌, ap, sym}
use Rattle.std.proofs.lemmas.Result.{err_from_is_err_and}
use Rattle.command_inputs.specs.Texts.{read_schedule}
use Rattle.command_inputs.specs.Turns.{read_turns, turns_of}
use Rattle.command_inputs.proofs.TextLemmas.{fails_first}
use Rattle.command_inputs.proofs.TurnLemmas.{turns_from, turns_in_limits, turns_refused}
use Rattle.command_inputs.proofs.schedule.read_turns.Goals as goal

pub returns-in_err-lines-clause-refused : goal.returns-in_err-lines-clause-refused
returns-in_err-lines-clause-refused c =
    let p = err_from_is_err_and c.from_residual.result c.from_residual.ensures.1 in
    let text = c.args.text.now in
    rw (p.1, p.2)
    (fails_first (read_schedule text) (read_turns text) (turns_refused text) c.in_err-lines.field-0.0
    c.in_err-lines.ensures.refused)

pub returns-in_err-turns-clause-refused : goal.returns-in_err-turns-clause-refused
returns-in_err-turns-clause-refused c =
    let p = err_from_is_err_and c.from_residual-in_err-turns.result c.from_residual-in_err-turns.ensures.1 in
    let text = c.args.text.now in
    rw (p.1, p.2)
    (fails_first (turns_of c.deref.result.now) (read_turns text)
    (λ r e. turns_from text c.in_ok-lines.lines.items (Err r) c.in_ok-lines.ensures.read
    (ap turns_of (sym c.deref.ensures.value) ∙ e))
    c.in_err-turns.field-0.0 c.in_err-turns.ensures.refused)

pub returns-clause-read : goal.returns-clause-read
returns-clause-read c =
    turns_from c.args.text.now c.in_ok-lines.lines.items (Ok c.in_ok-turns.turns.items) c.in_ok-lines.ensures.read
    (ap turns_of (sym c.deref.ensures.value) ∙ c.in_ok-turns.ensures.read)

pub returns-clause-limits : goal.returns-clause-limits
returns-clause-limits c =
    turns_in_limits c.args.text.now c.in_ok-turns.turns.items
    (turns_from c.args.text.now c.in_ok-lines.lines.items (Ok c.in_ok-turns.turns.items) c.in_ok-lines.ensures.read
    (ap turns_of (sym c.deref.ensures.value) ∙ c.in_ok-turns.ensures.read))
