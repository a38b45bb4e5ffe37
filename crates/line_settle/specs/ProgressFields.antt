-- The fields of the struct `Progress` as a record.
use Rattle.std.specs.Prelude.{Option, None, Some}
use Rattle.settle_rules.specs.Progress.{AckWindow, AgeKey, Progress}
use Rattle.line_settle.specs.declared.progress.LastAck.{LastAck}
use Rattle.line_settle.specs.declared.progress.AgeBasis.{AgeBasis}
use Rattle.line_settle.specs.declared.progress.Progress.TheInside.{Inside}

abbrev pub ack_window_of : Option LastAck → Option AckWindow
ack_window_of None = None
ack_window_of (Some a) = Some (record { ack = a.ack; window = a.window })

abbrev pub age_key_in : AgeBasis → AgeKey
age_key_in b = record { client = b.client; matched = b.matched; acked = b.acked }

abbrev pub progress_fields : Inside → Progress
progress_fields p = record {
  edge = p.edge;
  last = ack_window_of p.last;
  reset_due = p.reset_due;
  refusal_due = p.refusal_due;
  shown = p.shown;
  age = p.age;
  age_key = age_key_in p.basis;
}
