-- A line at the place, and none.
use Rattle.std.proofs.Common.{◌≡◌, List, ◌++◌, OnOk, subst, sym}
use Rattle.colo_wire.specs.declared.messages.Message.{Message}
use Rattle.checkpoint_capture.proofs.HeldLemmas.{entry_messages, no_entry}
use Rattle.checkpoint_capture.proofs.line_parts.put_entry.Goals as goal

pub returns-in-Some : goal.returns-in-Some
returns-in-Some c =
    subst (λ (ms : List Message). OnOk c.put_line.result (c.put_line.new.waits ≡ c.args.waits.now ++ ms))
    (entry_messages c.args.numbers.now c.args.lines.now c.args.k (c.in-Some.tuple.now, c.in-Some.line.now)
    (sym c.in-Some.ensures)) c.put_line.ensures

pub returns-in-None : goal.returns-in-None
returns-in-None c = no_entry c.args.waits.now c.args.numbers.now c.args.lines.now c.args.k (sym c.in-None.ensures)
