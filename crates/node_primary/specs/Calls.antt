-- Lists of calls, of any kind in any order, and what holds after them: the guest's state is a run
-- of its turns, and what waits is what came, without what was taken.
use Rattle.std.specs.Prelude.{◌≡◌, ℕ, ◌+◌, ◌%◌, ◌^◌, Bool, true, false, if◌then◌else◌, List, [], ◌∷◌, ◌++◌, drop, length, map, option_to_list, Option, None, Some}
use Rattle.colo_base.specs.declared.fault.Cause.{Cause}
use Rattle.frame_mirror.specs.declared.ring.Waiting.{Waiting}
use Rattle.state_wire.specs.Guest.{GuestTurn, sent_in}
use Rattle.state_wire.specs.Run.{run}
use Rattle.colo_wire.specs.declared.messages.Message.{Message}
use Rattle.colo_wire.specs.declared.messages.Message.TheVariants.{End, Known, Sent, Ack}
use Rattle.checkpoint_form.specs.Captured.{captured_messages}
use Rattle.out_compare.specs.Comparing.{Comparing, learn, need_after, settle, take_heard}
use Rattle.out_compare.specs.Comparing as comparing
use Rattle.node_parts.specs.Turns.{Turn}
use Rattle.node_release.specs.Causes.{cause_of}
use Rattle.node_release.specs.Following.{new_numbers}
use Rattle.node_primary.specs.Node.{Primary}
use Rattle.node_primary.specs.Steps.{acknowledged, compares, followed, frame_message, frame_taken, gated_for, guest_turn, is_due, left_alone, may_ask, next_capture, primary_ask, primary_hear, primary_ingress, primary_report, primary_turn, told}

-- what is called: a message is heard, a turn is made, a checkpoint is asked for, the report comes,
-- a client's frame comes, a message is taken to be sent
pub data Call : Type 0 where
  heard : Message → Call
  made : Turn → Call
  asked : Call
  reported : Call
  came : ℕ → List ℕ → Call
  gave : Call

-- what one call leaves, and what all do
abbrev pub after_call : Primary → Call → Primary
after_call n (heard m) = if is_due n m then (primary_hear n m).after else n
after_call n (made t) = (primary_turn n t).after
after_call n asked = primary_ask n
after_call n reported = (primary_report n).after
after_call n (came index frame) = primary_ingress n index frame
after_call n gave = record n { waits = drop 1 n.waits }

abbrev pub after_calls : Primary → List Call → Primary
after_calls n [] = n
after_calls n (call ∷ calls) = after_calls (after_call n call) calls

-- what a list of calls gives together, call by call
abbrev pub all_of : {X : Type 0} → (Primary → Call → List X) → Primary → List Call → List X
all_of of n [] = []
all_of of n (call ∷ calls) = of n call ++ all_of of (after_call n call) calls

-- ---- the guest

-- the turns that its guest makes: none while an acknowledgement is awaited
abbrev pub turns_by : Primary → Call → List GuestTurn
turns_by n (made t) = if n.awaits then [] else guest_turn n t ∷ []
turns_by n _ = []

-- the guest's state is the run of its turns, and all of them are counted
pub record RunsItsTurns (n : Primary) (calls : List Call) : Type 0 where
  pub state : (after_calls n calls).guest.state
      ≡ (run n.guest.kind (record { state = n.guest.state; sent = [] })
      (all_of turns_by n calls)).state
  pub turned : (after_calls n calls).guest.turned % 2 ^ 64
      ≡ (n.guest.turned + length (all_of turns_by n calls)) % 2 ^ 64

abbrev pub RunsAllTurns : Type 0
RunsAllTurns = (n : Primary) (calls : List Call) → RunsItsTurns n calls

-- ---- the frames that wait

-- a frame that a turn takes, and one that comes and finds room
abbrev pub taken_by_call : Primary → Call → List Waiting
taken_by_call n (made t) = if n.awaits then [] else option_to_list (frame_taken n t)
taken_by_call n _ = []

abbrev pub let_in_by : Primary → Call → List Waiting
let_in_by n (came index frame) = option_to_list (gated_for n index frame).waiting
let_in_by n _ = []

-- frames are taken in the order in which they came, and those that weren't taken wait
abbrev pub WaitInOrder : Type 0
WaitInOrder = (n : Primary) (calls : List Call) →
    all_of taken_by_call n calls ++ (after_calls n calls).inbox
    ≡ n.inbox ++ all_of let_in_by n calls

-- ---- the messages that wait

-- what a capture puts: all of the checkpoint
abbrev pub messages_with : Primary → Comparing → List Message
messages_with n x =
    let e = next_capture n.captures in
    captured_messages n.guest.state n.inbox x.mine x.numbers e ++ End e ∷ []

abbrev pub capture_messages : Primary → List Message
capture_messages n = messages_with n (comparing.capture n.comparing)

abbrev pub messages_for : Option Cause → Primary → List Message
messages_for None n = []
messages_for (Some cause) n = capture_messages n

-- what settling puts: a capture where there is a cause
abbrev pub settling_messages : Primary → Bool → List Message
settling_messages n is_turn =
    messages_for (cause_of (need_after n.comparing is_turn))
    (compares n (settle n.comparing is_turn))

abbrev pub hearing_messages : Primary → Message → List Message
hearing_messages n (Known tuple client number) =
    if n.awaits then []
    else settling_messages (compares n (learn n.comparing tuple client number)) false
hearing_messages n (Sent frame) =
    if n.awaits then [] else settling_messages (compares n (take_heard n.comparing frame)) false
hearing_messages n (Ack e) = settling_messages (acknowledged n) false
hearing_messages n _ = []

-- new numbers and then a capture; a capture alone; a frame that was let in
abbrev pub put_by : Primary → Call → List Message
put_by n (heard m) = if is_due n m then hearing_messages n m else []
put_by n (made t) =
    if n.awaits then []
    else told n.comparing.is_alone
    (new_numbers n.comparing (sent_in n.guest (guest_turn n t)))
    ++ settling_messages (followed n t) true
put_by n asked = if may_ask n then capture_messages n else []
put_by n reported =
    if n.comparing.is_alone then [] else settling_messages (left_alone n) false
put_by n (came index frame) =
    told n.comparing.is_alone (map frame_message (option_to_list (gated_for n index frame).waiting))
put_by n gave = []

-- what goes: a message that is taken to be sent, and all at the report
abbrev pub first_of : List Message → List Message
first_of [] = []
first_of (m ∷ ms) = m ∷ []

abbrev pub gone_by : Primary → Call → List Message
gone_by n gave = first_of n.waits
gone_by n reported = if n.comparing.is_alone then [] else n.waits
gone_by n _ = []

-- messages go in the order in which they were put, and those that didn't go wait
abbrev pub GoInOrder : Type 0
GoInOrder = (n : Primary) (calls : List Call) →
    all_of gone_by n calls ++ (after_calls n calls).waits ≡ n.waits ++ all_of put_by n calls
