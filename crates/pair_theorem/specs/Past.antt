-- What the pair's history is after some events: whole lists of frames, no tables. And what one
-- event makes.
use Rattle.std.specs.Prelude.{ℕ, Bool, true, false, ◌&&◌, List, [], if◌then◌else◌, Option, None}
use Rattle.colo_base.specs.declared.fault.Cause.{Cause}
use Rattle.inet_frame.specs.declared.tuple.Tuple.{Tuple}
use Rattle.tcp_track.specs.Lines.{Item}
use Rattle.tcp_track.specs.Segments.{Symbol}
use Rattle.settle_rules.specs.Numbers.{KeptNumber}
use Rattle.settle_rules.specs.Progress.{ProgressTable}
use Rattle.settle_rules.specs.Release.{Released}
use Rattle.state_wire.specs.Guest.{GuestState, Kind}
use Rattle.state_wire.specs.Run.{Run}
use Rattle.replay_log.specs.declared.lines.Line.{Line}
use Rattle.replay_log.specs.declared.records.Answer.{Answer}
use Rattle.replay_log.specs.declared.records.Mark.{Mark}
use Rattle.replay_log.specs.declared.records.Record.{Record}
use Rattle.splice_run.specs.Tokens.{Taken}
use Rattle.frame_mirror.specs.declared.ring.Waiting.{Waiting}
use Rattle.colo_wire.specs.declared.messages.Message.{Message}

-- A node's run of its guest, with the turns as a log names them, and its items: the segments that
-- count among the frames sent, with the trims taken and the commits between them.
pub record NodeRun : Type 0 where
  pub turns : List Taken
  pub run : Run
  pub items : List Item

-- What both nodes start from: the kind of the guests, the client's frames and the first that has
-- not come yet; the run so far, with its trims and commits; the numbers, all known; the progress of
-- each tuple, and the inbox, which are both nodes' alike; and the counts of both guests' own turns.
pub record Start : Type 0 where
  pub kind : Kind
  pub stream : List (List ℕ)
  pub next : ℕ
  pub run : Run
  pub items : List Item
  pub numbers : List KeptNumber
  pub progress : ProgressTable
  pub inbox : List Waiting
  pub primary_turned : ℕ
  pub secondary_turned : ℕ

-- two guests of one kind in one state that have sent nothing
abbrev pub boot : Kind → List (List ℕ) → GuestState → ℕ → ℕ → Start
boot kind stream state primary_turned secondary_turned = record {
  kind = kind;
  stream = stream;
  next = 0;
  run = record { state = state; sent = [] };
  items = [];
  numbers = [];
  progress = [];
  inbox = [];
  primary_turned = primary_turned;
  secondary_turned = secondary_turned;
}

-- what a capture copies; one copy is enough, since at most one checkpoint is not acknowledged
pub record Copy : Type 0 where
  pub run : NodeRun
  pub inbox : List Waiting
  pub numbers : List KeptNumber

pub data Stop : Type 0 where
  no_stop : Stop
  primary_stop : Stop
  secondary_stop : Stop

abbrev pub is_primary_stop : Stop → Bool
is_primary_stop no_stop = false
is_primary_stop primary_stop = true
is_primary_stop secondary_stop = false

abbrev pub is_secondary_stop : Stop → Bool
is_secondary_stop no_stop = false
is_secondary_stop primary_stop = false
is_secondary_stop secondary_stop = true

-- Both runs, inboxes and counts of turns; the copy of the last capture; the secondary's numbers.
-- Then what the releasing node keeps: the items that it knows of the other node, its numbers, the
-- progress of each tuple. Then both links, the number of the last capture, whether its
-- acknowledgement is awaited, how many Sent messages were heard since the last acknowledgement, and
-- the stop with its report.
pub record Past : Type 0 where
  pub next : ℕ
  pub primary : NodeRun
  pub primary_inbox : List Waiting
  pub primary_turned : ℕ
  pub copy : Copy
  pub secondary : NodeRun
  pub secondary_inbox : List Waiting
  pub secondary_turned : ℕ
  pub secondary_numbers : List KeptNumber
  pub known_items : List Item
  pub numbers : List KeptNumber
  pub progress : ProgressTable
  pub to_secondary : List Message
  pub to_primary : List Message
  pub captures : ℕ
  pub awaits_ack : Bool
  pub sent_heard : ℕ
  pub stop : Stop
  pub is_reported : Bool

abbrev pub first_run : Start → NodeRun
first_run a = record { turns = []; run = a.run; items = a.items }

abbrev pub first_past : Start → Past
first_past a = record {
  next = a.next;
  primary = first_run a;
  primary_inbox = a.inbox;
  primary_turned = a.primary_turned;
  copy = record { run = first_run a; inbox = a.inbox; numbers = a.numbers };
  secondary = first_run a;
  secondary_inbox = a.inbox;
  secondary_turned = a.secondary_turned;
  secondary_numbers = a.numbers;
  known_items = a.items;
  numbers = a.numbers;
  progress = a.progress;
  to_secondary = [];
  to_primary = [];
  captures = 0;
  awaits_ack = false;
  sent_heard = 0;
  stop = no_stop;
  is_reported = false;
}

-- the secondary is the releasing node from the report of the primary's stop on, the primary before
-- it
abbrev pub secondary_releases : Past → Bool
secondary_releases past = is_primary_stop past.stop && past.is_reported

abbrev pub releasing_items : Past → List Item
releasing_items past = if secondary_releases past then past.secondary.items else past.primary.items

-- one event: its record, the message that it delivers, what it releases
pub record Step : Type 0 where
  pub entry : Record
  pub delivered : Option Message
  pub released : List Released

-- symbols of one connection that both nodes agree on, from an offset on, under the number that the
-- client knows
pub record Agreed : Type 0 where
  pub tuple : Tuple
  pub number : ℕ
  pub from : ℕ
  pub symbols : List Symbol

-- the past after an event, its step, the cause that starts a checkpoint in it, and the symbols that
-- it is to release
pub record Outcome : Type 0 where
  pub after : Past
  pub step : Step
  pub cause : Option Cause
  pub agreed : List Agreed

abbrev pub step_with : Line → Answer → List Mark → Option Message → List Released → Step
step_with line answer marks delivered released = record {
  entry = record { line = line; answer = answer; marks = marks };
  delivered = delivered;
  released = released;
}

-- an event that settles nothing, and starts no checkpoint
abbrev pub quietly : Past → Step → Outcome
quietly after step = record { after = after; step = step; cause = None; agreed = [] }

-- one that releases nothing either
abbrev pub silently : Past → Line → Answer → Option Message → Outcome
silently after line answer delivered = quietly after (step_with line answer [] delivered [])
