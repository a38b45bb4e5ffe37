-- The text was parsed, or its first bad line found.
use Rattle.replay_log.specs.Cases.{BadLine, first_bad}
use Rattle.replay_log.specs.Forms.{log_forms}
use Rattle.command_inputs.specs.Reading.{line_refusal}
use Rattle.command_inputs.specs.Texts.{read_log}
use Rattle.command_inputs.proofs.LogLemmas.{log_bad, log_read}
use Rattle.command_inputs.proofs.TextLemmas.{bad_from, refused}
use Rattle.command_inputs.proofs.lines.read_log.Goals as goal

pub returns-in-Ok-clause-read : goal.returns-in-Ok-clause-read
returns-in-Ok-clause-read c = log_read c.args.text.now c.in-Ok.log.items c.in-Ok.ensures.ok

pub returns-in-Err-Bad-clause-refused : goal.returns-in-Err-Bad-clause-refused
returns-in-Err-Bad-clause-refused c =
    let bad : BadLine = record { line = c.in-Err-Bad.line; why = c.in-Err-Bad.field-0-1 } in
    refused (read_log c.args.text.now) c.line_refusal.result (line_refusal c.in-Err-Bad.line)
    (log_bad c.args.text.now bad
    (bad_from c.in-Err-Bad.field-0 c.in-Err-Bad.line c.in-Err-Bad.field-0-1 (first_bad log_forms c.args.text.now)
    c.in-Err-Bad.field-0-is c.in-Err-Bad.ensures.bad))
    c.line_refusal.ensures.line c.line_refusal.ensures.own
