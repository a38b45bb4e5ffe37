-- What each call of a primary leaves and releases, in this order: the guest's turn, what is
-- followed of what it sent, the numbers that are told, settling, the cause of a checkpoint, and its
-- capture.
use Rattle.std.specs.Prelude.{ℕ, ◌+◌, ◌%◌, ◌^◌, Bool, true, false, not, ◌&&◌, ◌==◌, is_some, if◌then◌else◌, List, [], ◌∷◌, ◌++◌, fold, map, option_to_list, Option, None, Some}
use Rattle.colo_base.specs.declared.fault.Cause.{Cause}
use Rattle.inet_frame.specs.Counted.{counted}
use Rattle.frame_mirror.specs.Accepted.{entry_of}
use Rattle.frame_mirror.specs.declared.ring.Waiting.{Waiting}
use Rattle.state_wire.specs.Guest.{GuestTurn, after_turn, sent_in}
use Rattle.colo_wire.specs.declared.messages.Message.{Message}
use Rattle.colo_wire.specs.declared.messages.Message.TheVariants.{Frame, End, Known, Sent, Ack}
use Rattle.checkpoint_form.specs.Captured.{captured_messages}
use Rattle.settle_rules.specs.Release.{released_frame}
use Rattle.out_compare.specs.Comparing.{Comparing, acknowledge, learn, leave_alone, need_after, settle, settlement_of, take_heard, take_own}
use Rattle.out_compare.specs.Comparing as comparing
use Rattle.node_parts.specs.Turns.{Turn, left_frames, taken_frame, takes, turn_for}
use Rattle.node_release.specs.Causes.{cause_of}
use Rattle.node_release.specs.Following.{new_numbers}
use Rattle.node_release.specs.Gated.{Gated, gated}
use Rattle.node_primary.specs.Node.{Primary}

-- the primary after a call, what goes out, and the checkpoint that was captured, with its cause
pub record Event : Type 0 where
  pub after : Primary
  pub out : List (List ℕ)
  pub capture : Option (ℕ × Cause)

-- nothing happens
abbrev pub still : Primary → Event
still n = record { after = n; out = []; capture = None }

-- ---- a capture

abbrev pub next_capture : ℕ → ℕ
next_capture captures = (captures + 1) % 2 ^ 32

-- the numbers of current openings alone are kept, and then all messages of the checkpoint wait
abbrev pub captured_as : Primary → Comparing → ℕ → Primary
captured_as n x e = record n {
  comparing = x;
  captures = e;
  awaits = true;
  waits = n.waits ++ (captured_messages n.guest.state n.inbox x.mine x.numbers e ++ End e ∷ []);
}

unfoldable pub capture : Primary → Primary
capture n = captured_as n (comparing.capture n.comparing) (next_capture n.captures)

abbrev pub capture_for : Option Cause → Primary → List (List ℕ) → Event
capture_for None n out = record { after = n; out = out; capture = None }
capture_for (Some cause) n out = record {
  after = capture n;
  out = out;
  capture = Some (next_capture n.captures, cause);
}

-- ---- settling: what goes out, and a capture where there is a cause

abbrev pub compares : Primary → Comparing → Primary
compares n x = record n { comparing = x }

unfoldable pub settle_node : Primary → Bool → Event
settle_node n is_turn =
    capture_for (cause_of (need_after n.comparing is_turn))
    (compares n (settle n.comparing is_turn))
    (map released_frame (settlement_of n.comparing is_turn).out)

-- ---- a turn

-- a node alone tells nothing
abbrev pub told : Bool → List Message → List Message
told true messages = []
told false messages = messages

abbrev pub guest_turn : Primary → Turn → GuestTurn
guest_turn n t = turn_for n.guest n.inbox n.comparing.mine t

abbrev pub frame_taken : Primary → Turn → Option Waiting
frame_taken n t = taken_frame (takes n.guest t.wants) n.inbox

-- what the guest sends is followed, and new numbers are told
abbrev pub follow_all : Primary → List (List ℕ) → Primary
follow_all n sent = record n {
  comparing = fold take_own n.comparing sent;
  waits = n.waits ++ told n.comparing.is_alone (new_numbers n.comparing sent);
}

abbrev pub run_turn : Primary → Turn → Primary
run_turn n t = record n {
  guest = after_turn n.guest (guest_turn n t);
  inbox = left_frames (takes n.guest t.wants) n.inbox;
}

unfoldable pub followed : Primary → Turn → Primary
followed n t = follow_all (run_turn n t) (sent_in n.guest (guest_turn n t))

-- while it awaits an acknowledgement it makes none
abbrev pub primary_turn : Primary → Turn → Event
primary_turn n t = if n.awaits then still n else settle_node (followed n t) true

-- ---- hearing

-- a number that the other node has, a frame that its guest sent, and the acknowledgement of the
-- last capture; a node alone hears nothing
abbrev pub is_due_together : Primary → Message → Bool
is_due_together n (Known tuple client number) = true
is_due_together n (Sent frame) = is_some (counted frame)
is_due_together n (Ack e) = n.awaits && e == n.captures
is_due_together n _ = false

abbrev pub is_due : Primary → Message → Bool
is_due n m = not n.comparing.is_alone && is_due_together n m

-- while an acknowledgement is awaited, all else is ignored
abbrev pub unless_awaiting : Primary → Comparing → Event
unless_awaiting n x = if n.awaits then still n else settle_node (compares n x) false

abbrev pub acknowledged : Primary → Primary
acknowledged n = record n { comparing = acknowledge n.comparing; awaits = false }

abbrev pub primary_hear : Primary → Message → Event
primary_hear n (Known tuple client number) =
    unless_awaiting n (learn n.comparing tuple client number)
primary_hear n (Sent frame) = unless_awaiting n (take_heard n.comparing frame)
primary_hear n (Ack e) = settle_node (acknowledged n) false
primary_hear n _ = still n

-- ---- a checkpoint that is asked for

abbrev pub may_ask : Primary → Bool
may_ask n = not n.awaits && not n.comparing.is_alone

abbrev pub primary_ask : Primary → Primary
primary_ask n = if may_ask n then capture n else n

-- ---- the report of the secondary's stop

-- from then on it is alone: what waits is dropped, and no acknowledgement is awaited
abbrev pub left_alone : Primary → Primary
left_alone n = record n { comparing = leave_alone n.comparing; awaits = false; waits = [] }

abbrev pub primary_report : Primary → Event
primary_report n = if n.comparing.is_alone then still n else settle_node (left_alone n) false

-- ---- a client's frame

abbrev pub frame_message : Waiting → Message
frame_message w = Frame w.index w.seen w.trim w.frame

-- a frame that was let in waits, and goes to the secondary
abbrev pub with_waiting : Primary → Option Waiting → Primary
with_waiting n waiting = record n {
  inbox = n.inbox ++ option_to_list waiting;
  waits = n.waits ++ told n.comparing.is_alone (map frame_message (option_to_list waiting));
}

abbrev pub let_in : Primary → Gated → Primary
let_in n g = compares (with_waiting n g.waiting) g.comparing

abbrev pub gated_for : Primary → ℕ → List ℕ → Gated
gated_for n index frame = gated n.comparing n.inbox index (entry_of frame)

abbrev pub primary_ingress : Primary → ℕ → List ℕ → Primary
primary_ingress n index frame = let_in n (gated_for n index frame)
