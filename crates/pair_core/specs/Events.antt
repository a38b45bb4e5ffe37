-- What each event of a pair leaves, answers and releases.
use Rattle.std.specs.Prelude.{ℕ, ◌+◌, Bool, true, ◌&&◌, ◌||◌, ◌==◌, not, is_some, if◌then◌else◌, List, [], ◌∷◌, ◌++◌, length, map, option_to_list, slice_get, Option, None, Some, Ok, Err}
use Rattle.colo_base.specs.declared.fault.Cause.{Cause}
use Rattle.colo_base.specs.declared.fault.Cause.TheVariants.{Asked}
use Rattle.colo_wire.specs.Spelling.{message_bytes}
use Rattle.colo_wire.specs.declared.answers.Gate.{Gate}
use Rattle.colo_wire.specs.declared.answers.Gate.TheVariants.{Taken, Answered, Dropped, Full}
use Rattle.colo_wire.specs.declared.answers.Told.{Told}
use Rattle.colo_wire.specs.declared.answers.Turned.{Turned}
use Rattle.colo_wire.specs.declared.answers.Turned.TheVariants.{Paused, Made}
use Rattle.colo_wire.specs.declared.messages.Message.{Message}
use Rattle.replay_log.specs.declared.lines.Line.{Line}
use Rattle.replay_log.specs.declared.lines.Line.TheVariants as line
use Rattle.replay_log.specs.declared.records.Answer.{Answer}
use Rattle.replay_log.specs.declared.records.Answer.TheVariants as answer
use Rattle.replay_log.specs.declared.records.Mark.{Mark}
use Rattle.replay_log.specs.declared.records.Mark.TheVariants.{Captured, Committed, Acknowledged}
use Rattle.node_parts.specs.Turns.{Turn}
use Rattle.node_primary.specs.Answers as primary
use Rattle.node_primary.specs.Steps.{gated_for, primary_ask, primary_ingress, primary_report, primary_turn}
use Rattle.node_secondary.specs.Answers as secondary
use Rattle.node_secondary.specs.Steps.{gate_for, secondary_ingress, secondary_report, secondary_turn, turned_by}
use Rattle.pair_core.specs.Pair.{Pair, is_primary, is_secondary, sent_down, sent_up}
use Rattle.pair_core.specs.declared.node.Node.TheVariants.{Primary, Secondary}

-- what an event does: the pair after it, the answer and the marks of its line in the log, the
-- frames that go out, and the bytes of the message that it delivers, behind an arrow
pub record Outcome : Type 0 where
  pub after : Pair
  pub answer : Answer
  pub marks : List Mark
  pub released : List (List ℕ)
  pub wire : List ℕ

-- nothing happens
abbrev pub nothing : Pair → Outcome
nothing w = record { after = w; answer = answer.Nothing; marks = []; released = []; wire = [] }

-- an event with no message, which starts no checkpoint
abbrev pub quiet : Pair → Answer → List (List ℕ) → Outcome
quiet w a out = record { after = w; answer = a; marks = []; released = out; wire = [] }

-- ---- turns

abbrev pub turn_answer : Turned → ℕ → Answer
turn_answer Paused released = answer.Nothing
turn_answer (Made frame) released = answer.Made frame released

abbrev pub capture_marks : Option (ℕ × Cause) → List Mark
capture_marks None = []
capture_marks (Some capture) = Captured capture.0 capture.1 ∷ []

unfoldable pub primary_makes : Pair → Turn → Outcome
primary_makes w t =
    let e = primary_turn w.first t in
    record {
      after = sent_down (record w { first = e.after });
      answer = turn_answer (primary.turned_by w.first t) (length e.out);
      marks = capture_marks e.capture;
      released = e.out;
      wire = [];
    }

unfoldable pub secondary_makes : Pair → Turn → Outcome
secondary_makes w t =
    let e = secondary_turn w.second t in
    quiet (sent_up (record w { second = e.after }))
    (turn_answer (turned_by w.second t) (length e.out)) e.out

-- a node that stopped makes no turn
abbrev pub primary_event : Pair → Turn → Outcome
primary_event w t = if is_primary w.stopped then nothing w else primary_makes w t

abbrev pub secondary_event : Pair → Turn → Outcome
secondary_event w t = if is_secondary w.stopped then nothing w else secondary_makes w t

-- ---- a client's frame

abbrev pub gate_answer : ℕ → Gate → Answer
gate_answer index (Taken seen trim) = answer.Accepted index seen trim 0
gate_answer index Answered = answer.Arp index
gate_answer index (Dropped why) = answer.Dropped index why.number
gate_answer index Full = answer.Full index

-- what a node alone answers
abbrev pub lone_answer : ℕ → Option Gate → Answer
lone_answer index None = answer.Lost index
lone_answer index (Some gate) = gate_answer index gate

unfoldable pub primary_takes : Pair → ℕ → List ℕ → Outcome
primary_takes w index frame =
    let g = gated_for w.first index frame in
    quiet (sent_down (record w { first = primary_ingress w.first index frame }))
    (gate_answer index g.answer) g.out

-- a survivor takes it; until the report of the primary's stop nobody does
unfoldable pub secondary_takes : Pair → ℕ → List ℕ → Outcome
secondary_takes w index frame =
    let e = secondary_ingress w.second index frame in
    quiet (record w { second = e.after }) (lone_answer index (gate_for w.second index frame)) e.out

abbrev pub frame_comes : Pair → ℕ → List ℕ → Outcome
frame_comes w index frame =
    if is_primary w.stopped then secondary_takes w index frame else primary_takes w index frame

abbrev pub passed : Pair → Pair
passed w = record w { next = w.next + 1 }

abbrev pub client_with : Pair → Option (List ℕ) → Outcome
client_with w None = nothing w
client_with w (Some frame) = frame_comes (passed w) w.next frame

abbrev pub client_event : Pair → Outcome
client_event w = client_with w (slice_get w.frames w.next)

-- ---- deliveries

-- what a message did to checkpoints
abbrev pub told_marks : Told → List Mark
told_marks told =
    map Committed (option_to_list told.commit) ++ (map Acknowledged (option_to_list told.ack)
    ++ capture_marks told.capture)

abbrev pub arrow_down : ℕ
arrow_down = 62

abbrev pub arrow_up : ℕ
arrow_up = 60

-- a message that isn't due is lost
unfoldable pub hears_with : Pair → Message → secondary.Answer → Outcome
hears_with w m (Ok told) = record {
  after = sent_up (record w { second = secondary.after_reading w.second (Ok m) });
  answer = answer.Heard told.kind told.full;
  marks = told_marks told;
  released = [];
  wire = arrow_down ∷ message_bytes m;
}
hears_with w m (Err fault) = nothing w

unfoldable pub secondary_hears : Pair → Message → Outcome
secondary_hears w m = hears_with w m (secondary.answer_to w.second (Ok m))

abbrev pub deliver_with : (Pair → Message → Outcome) → Pair → List Message → (List Message → Pair)
    → Outcome
deliver_with hear w [] left = nothing w
deliver_with hear w (m ∷ ms) left = hear (left ms) m

abbrev pub down_event : Pair → Outcome
down_event w =
    if is_secondary w.stopped || w.is_reported then nothing w
    else deliver_with secondary_hears w w.down (λ ms. record w { down = ms })

-- the frames heard of since the last acknowledgement; what is ignored isn't counted
abbrev pub counts_on : Bool → Told → ℕ → ℕ
counts_on awaits told sent =
    if is_some told.ack then 0 else (if told.kind == 13 && not awaits then sent + 1 else sent)

unfoldable pub hears_back_with : Pair → Message → primary.Answer → Outcome
hears_back_with w m (Ok told) =
    let out = primary.out_of w.first (Ok m) in
    let sent = counts_on w.first.awaits told w.sent_heard in
    record {
      after = sent_down (record w {
        first = primary.after_reading w.first (Ok m);
        sent_heard = sent;
      });
      answer = answer.HeardBack told.kind sent (length out);
      marks = told_marks told;
      released = out;
      wire = arrow_up ∷ message_bytes m;
    }
hears_back_with w m (Err fault) = nothing w

unfoldable pub primary_hears : Pair → Message → Outcome
primary_hears w m = hears_back_with w m (primary.answer_to w.first (Ok m))

abbrev pub up_event : Pair → Outcome
up_event w =
    if is_primary w.stopped || w.is_reported then nothing w
    else deliver_with primary_hears w w.up (λ ms. record w { up = ms })

-- ---- a stop, its report, and a checkpoint that is asked for

-- what is on both links is lost
abbrev pub lost_links : Pair → Pair
lost_links w = record w { down = []; up = []; is_reported = true }

unfoldable pub secondary_survives : Pair → Outcome
secondary_survives w =
    let e = secondary_report w.second in
    quiet (lost_links (record w { second = e.after })) (answer.Reported (length e.out)) e.out

unfoldable pub primary_survives : Pair → Outcome
primary_survives w =
    let e = primary_report w.first in
    quiet (lost_links (record w { first = e.after })) (answer.Reported (length e.out)) e.out

abbrev pub report_event : Pair → Outcome
report_event w = if is_primary w.stopped then secondary_survives w else primary_survives w

abbrev pub ask_answer : Option ℕ → Answer
ask_answer None = answer.Nothing
ask_answer (Some e) = answer.Zero

abbrev pub ask_marks : Option ℕ → List Mark
ask_marks None = []
ask_marks (Some e) = Captured e Asked ∷ []

unfoldable pub primary_asks : Pair → Outcome
primary_asks w =
    let e = primary.asked_number w.first in
    record {
      after = sent_down (record w { first = primary_ask w.first });
      answer = ask_answer e;
      marks = ask_marks e;
      released = [];
      wire = [];
    }

-- a pair of which a node stopped captures no checkpoint that is asked for
abbrev pub ask_event : Pair → Outcome
ask_event w = if is_some w.stopped then nothing w else primary_asks w

-- ---- the event of a line of a schedule

abbrev pub turn_of : ℕ → Bool → ℕ → ℕ → Turn
turn_of d i b n = record { ticks = d; wants = i; requests = b; steps = n }

abbrev pub event_of : Pair → Line → Outcome
event_of w (line.Primary d i b n) = primary_event w (turn_of d i b n)
event_of w (line.Secondary d i b n) = secondary_event w (turn_of d i b n)
event_of w line.Client = client_event w
event_of w line.ToSecondary = down_event w
event_of w line.ToPrimary = up_event w
event_of w line.StopPrimary = quiet (record w { stopped = Some Primary }) answer.Zero []
event_of w line.StopSecondary = quiet (record w { stopped = Some Secondary }) answer.Zero []
event_of w line.Report = report_event w
event_of w line.Ask = ask_event w
