-- What each call of a secondary leaves and releases. Until the report of the primary's stop it
-- releases nothing. At the report it releases all that its lines hold, and from then on it settles
-- its own guest's turns and takes the clients' frames.
use Rattle.std.specs.Prelude.{ℕ, Bool, true, false, List, [], ◌++◌, fold, map, option_to_list, Option, None, Some}
use Rattle.std.specs.Option.{option_map}
use Rattle.frame_mirror.specs.Accepted.{entry_of}
use Rattle.frame_mirror.specs.declared.ring.Waiting.{Waiting}
use Rattle.state_wire.specs.Guest.{GuestTurn, after_turn, sent_in}
use Rattle.colo_wire.specs.declared.answers.Gate.{Gate}
use Rattle.colo_wire.specs.declared.answers.Turned.{Turned}
use Rattle.colo_wire.specs.declared.answers.Turned.TheVariants.{Made}
use Rattle.colo_wire.specs.declared.messages.Message.{Message}
use Rattle.settle_rules.specs.Release.{released_frame}
use Rattle.out_compare.specs.Comparing.{settle, settlement_of, take_own}
use Rattle.out_compare.specs.Surviving.{survive, survivor}
use Rattle.node_parts.specs.Turns.{Turn, left_frames, taken_frame, takes, turn_for}
use Rattle.node_release.specs.Gated.{Gated, gated}
use Rattle.node_secondary.specs.Hearing.{hear, is_due}
use Rattle.node_secondary.specs.Node.{Node}
use Rattle.node_secondary.specs.Survivor.{Second, Survivor, alone, guest_of, hears, inbox_of}
use Rattle.node_secondary.specs.Turns.{make_turn}

-- the secondary after a call, and what goes out
pub record Event : Type 0 where
  pub after : Second
  pub out : List (List ℕ)

-- nothing goes out
abbrev pub silent : Second → Event
silent s = record { after = s; out = [] }

-- ---- a turn

abbrev pub lone_turn : Survivor → Turn → GuestTurn
lone_turn n t = turn_for n.guest n.inbox n.comparing.mine t

-- what its guest sends is followed
unfoldable pub followed : Survivor → Turn → Survivor
followed n t = record {
  guest = after_turn n.guest (lone_turn n t);
  inbox = left_frames (takes n.guest t.wants) n.inbox;
  comparing = fold take_own n.comparing (sent_in n.guest (lone_turn n t));
}

-- its own lines stand in the place of both, and no checkpoint starts
unfoldable pub settle_alone : Survivor → Event
settle_alone n = record {
  after = alone (record n { comparing = settle n.comparing true });
  out = map released_frame (settlement_of n.comparing true).out;
}

abbrev pub secondary_turn : Second → Turn → Event
secondary_turn (hears n) t = silent (hears (make_turn n t))
secondary_turn (alone n) t = settle_alone (followed n t)

-- the frame that a turn takes, and what is answered
abbrev pub taken_by : Second → Turn → Option Waiting
taken_by s t = taken_frame (takes (guest_of s) t.wants) (inbox_of s)

abbrev pub turned_by : Second → Turn → Turned
turned_by s t = Made (option_map (λ w. w.index) (taken_by s t))

-- ---- hearing

-- a node alone hears nothing
abbrev pub is_due_to : Second → Message → Bool
is_due_to (hears n) m = is_due n m
is_due_to (alone n) m = false

abbrev pub secondary_hear : Second → Message → Second
secondary_hear (hears n) m = hears (hear n m)
secondary_hear (alone n) m = alone n

-- ---- the report of the primary's stop

-- what it heard of a checkpoint that isn't whole is dropped, and so is what waits; each line goes
-- out under its kept number, or its own where none is kept
unfoldable pub survive_as : Node → Event
survive_as n = record {
  after = alone (record {
    guest = n.guest;
    inbox = n.inbox;
    comparing = survivor n.lines (survive n.lines n.numbers);
  });
  out = map released_frame (survive n.lines n.numbers).out;
}

-- a second report does nothing
abbrev pub secondary_report : Second → Event
secondary_report (hears n) = survive_as n
secondary_report (alone n) = silent (alone n)

-- ---- a client's frame

abbrev pub gated_for : Survivor → ℕ → List ℕ → Gated
gated_for n index frame = gated n.comparing n.inbox index (entry_of frame)

-- a frame that was let in waits
abbrev pub let_in : Survivor → Gated → Survivor
let_in n g = record n {
  inbox = n.inbox ++ option_to_list g.waiting;
  comparing = g.comparing;
}

-- clients' frames come to it once it is alone
abbrev pub secondary_ingress : Second → ℕ → List ℕ → Event
secondary_ingress (hears n) index frame = silent (hears n)
secondary_ingress (alone n) index frame = record {
  after = alone (let_in n (gated_for n index frame));
  out = (gated_for n index frame).out;
}

abbrev pub gate_for : Second → ℕ → List ℕ → Option Gate
gate_for (hears n) index frame = None
gate_for (alone n) index frame = Some (gated_for n index frame).answer
