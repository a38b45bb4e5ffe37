-- What a form says with its numbers.
use Rattle.std.specs.Prelude.{ℕ, true, false, ◌==◌, List, Some, None, drop, length, slice_index}
use Rattle.colo_base.specs.declared.fault.Cause.TheVariants as cause
use Rattle.replay_log.specs.Forms.{front_places, back_places}
use Rattle.replay_log.specs.Places.{words_numbers}
use Rattle.replay_log.specs.declared.forms.LineForm.{LineForm}
use Rattle.replay_log.specs.declared.forms.LineForm.TheVariants as line
use Rattle.replay_log.specs.declared.forms.AnswerForm.{AnswerForm}
use Rattle.replay_log.specs.declared.forms.AnswerForm.TheVariants as answer
use Rattle.replay_log.specs.declared.forms.MarkForm.{MarkForm}
use Rattle.replay_log.specs.declared.forms.MarkForm.TheVariants as mark
use Rattle.replay_log.specs.declared.forms.TurnForm.{TurnForm}
use Rattle.replay_log.specs.declared.forms.TurnForm.TheVariants as turn
use Rattle.replay_log.specs.declared.forms.Form.{Form}
use Rattle.replay_log.specs.declared.forms.Form.TheVariants as form
use Rattle.replay_log.specs.declared.items.Item.{Item}
use Rattle.replay_log.specs.declared.items.Item.TheVariants as item
use Rattle.replay_log.specs.declared.lines.Line.{Line}
use Rattle.replay_log.specs.declared.lines.Line.TheVariants.{Primary, Secondary, Client, ToSecondary, ToPrimary, StopPrimary, StopSecondary, Report, Ask}
use Rattle.replay_log.specs.declared.records.Answer.{Answer}
use Rattle.replay_log.specs.declared.records.Answer.TheVariants.{Nothing, Made, Accepted, Arp, Dropped, Full, Lost, Heard, HeardBack, Zero, Reported}
use Rattle.replay_log.specs.declared.records.Mark.{Mark}
use Rattle.replay_log.specs.declared.records.Mark.TheVariants.{Captured, Committed, Acknowledged}
use Rattle.replay_log.specs.declared.turns.Turn.{Turn}
use Rattle.replay_log.specs.declared.turns.TurnFrame.TheVariants.{Absent, Plain, Seen}

abbrev pub line_from : LineForm → List ℕ → Line
line_from line.Primary ns = Primary (slice_index ns 0) (slice_index ns 1 == 1) (slice_index ns 2)
    (slice_index ns 3)
line_from line.Secondary ns = Secondary (slice_index ns 0) (slice_index ns 1 == 1)
    (slice_index ns 2) (slice_index ns 3)
line_from line.Client ns = Client
line_from line.ToSecondary ns = ToSecondary
line_from line.ToPrimary ns = ToPrimary
line_from line.StopPrimary ns = StopPrimary
line_from line.StopSecondary ns = StopSecondary
line_from line.Report ns = Report
line_from line.Ask ns = Ask

abbrev pub answer_from : AnswerForm → List ℕ → Answer
answer_from answer.Nothing ns = Nothing
answer_from answer.MadeWithout ns = Made None (slice_index ns 0)
answer_from answer.MadeWith ns = Made (Some (slice_index ns 0)) (slice_index ns 1)
answer_from answer.AcceptedUnseen ns = Accepted (slice_index ns 0) None (slice_index ns 1)
    (slice_index ns 2)
answer_from answer.AcceptedSeen ns =
    Accepted (slice_index ns 0) (Some (record {
      client = slice_index ns 1;
      own = slice_index ns 2;
    })) (slice_index ns 3) (slice_index ns 4)
answer_from answer.Arp ns = Arp (slice_index ns 0)
answer_from answer.Dropped ns = Dropped (slice_index ns 0) (slice_index ns 1)
answer_from answer.Full ns = Full (slice_index ns 0)
answer_from answer.Lost ns = Lost (slice_index ns 0)
answer_from answer.Heard ns = Heard (slice_index ns 0) false
answer_from answer.HeardFull ns = Heard (slice_index ns 0) true
answer_from answer.HeardBack ns = HeardBack (slice_index ns 0) (slice_index ns 1) (slice_index ns 2)
answer_from answer.Zero ns = Zero
answer_from answer.Reported ns = Reported (slice_index ns 0)

abbrev pub mark_from : MarkForm → List ℕ → Mark
mark_from mark.Differ ns = Captured (slice_index ns 0) cause.Differ
mark_from mark.Restart ns = Captured (slice_index ns 0) cause.Restart
mark_from mark.Wait ns = Captured (slice_index ns 0) cause.Wait
mark_from mark.Asked ns = Captured (slice_index ns 0) cause.Asked
mark_from mark.Committed ns = Committed (slice_index ns 0)
mark_from mark.Acknowledged ns = Acknowledged (slice_index ns 0)

abbrev pub turn_from : TurnForm → List ℕ → Turn
turn_from turn.Absent ns = record {
  d = slice_index ns 0;
  frame = Absent;
  b = slice_index ns 1;
  n = slice_index ns 2;
}
turn_from turn.Plain ns = record {
  d = slice_index ns 0;
  frame = Plain
      (slice_index ns 1);
  b = slice_index ns 2;
  n = slice_index ns 3;
}
turn_from turn.Seen ns =
    record {
      d = slice_index ns 0;
      frame = Seen (slice_index ns 1) (record {
        client = slice_index ns 2;
        own = slice_index ns 3;
      });
      b = slice_index ns 4;
      n = slice_index ns 5;
    }

-- the numbers of a line, and those of its answer
abbrev pub item_from : Form → List ℕ → List ℕ → Item
item_from (form.Line l) front back = item.Line (line_from l front)
item_from (form.Event l a) front back = item.Event (line_from l front) (answer_from a back)
item_from (form.Mark m) front back = item.Mark (mark_from m front)
item_from (form.Turn t) front back = item.Turn (turn_from t front)

-- what a line of this form says
unfoldable pub item_of : Form → List (List ℕ) → Item
item_of f words =
    item_from f (words_numbers (front_places f) words) (words_numbers (back_places f) (drop
    (length (front_places f)) words))
