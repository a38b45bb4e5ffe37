-- The text was parsed, or its first bad line found.
use Rattle.replay_log.specs.Cases.{BadLine, first_bad}
use Rattle.replay_log.specs.Forms.{schedule_forms}
use Rattle.command_inputs.specs.Reading.{line_refusal}
use Rattle.command_inputs.specs.Texts.{read_schedule}
use Rattle.command_inputs.proofs.TextLemmas.{bad_from, refused, schedule_bad, schedule_read}
use Rattle.command_inputs.proofs.lines.read_schedule.Goals as goal

pub returns-in-Ok-clause-read : goal.returns-in-Ok-clause-read
returns-in-Ok-clause-read c = schedule_read c.args.text.now c.in-Ok.lines.items c.in-Ok.ensures.ok

pub returns-in-Err-Bad-clause-refused : goal.returns-in-Err-Bad-clause-refused
returns-in-Err-Bad-clause-refused c =
    let bad : BadLine = record { line = c.in-Err-Bad.line; why = c.in-Err-Bad.field-0-1 } in
    refused (read_schedule c.args.text.now) c.line_refusal.result (line_refusal c.in-Err-Bad.line)
    (schedule_bad c.args.text.now bad
    (bad_from c.in-Err-Bad.field-0 c.in-Err-Bad.line c.in-Err-Bad.field-0-1 (first_bad schedule_forms c.args.text.now)
    c.in-Err-Bad.field-0-is c.in-Err-Bad.ensures.bad))
    c.line_refusal.ensures.line c.line_refusal.ensures.own
