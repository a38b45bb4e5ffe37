-- Lists of calls, of any kind in any order, before the report of the primary's stop and after it:
-- all turns of the guest are counted, messages go in the order in which they were put, and nothing
-- is released before the report.
use Rattle.std.specs.Prelude.{◌≡◌, ℕ, suc, ◌+◌, ◌%◌, ◌^◌, Bool, true, false, if◌then◌else◌, List, [], ◌∷◌, ◌++◌, drop}
use Rattle.state_wire.specs.Guest.{sent_in}
use Rattle.colo_wire.specs.declared.messages.Message.{Message}
use Rattle.colo_wire.specs.declared.messages.Message.TheVariants.{Number, End, Known, Ack}
use Rattle.node_parts.specs.Turns.{Turn}
use Rattle.node_secondary.specs.Hearing.{is_due, known_number}
use Rattle.node_secondary.specs.Node.{Node}
use Rattle.node_secondary.specs.Steps.{secondary_hear, secondary_ingress, secondary_report, secondary_turn}
use Rattle.node_secondary.specs.Survivor.{Second, alone, guest_of, hears, waits_of}
use Rattle.node_secondary.specs.Turns.{guest_turn, sent_messages}

-- what is called: a message is heard, a turn is made, the report comes, a client's frame comes, a
-- message is taken to be sent
pub data Call : Type 0 where
  heard : Message → Call
  made : Turn → Call
  reported : Call
  came : ℕ → List ℕ → Call
  gave : Call

-- the first message that waits goes
abbrev pub give : Second → Second
give (hears n) = hears (record n { waits = drop 1 n.waits })
give (alone n) = alone n

-- what one call leaves, and what all do
abbrev pub after_call : Second → Call → Second
after_call s (heard m) = secondary_hear s m
after_call s (made t) = (secondary_turn s t).after
after_call s reported = (secondary_report s).after
after_call s (came index frame) = (secondary_ingress s index frame).after
after_call s gave = give s

abbrev pub after_calls : Second → List Call → Second
after_calls s [] = s
after_calls s (call ∷ calls) = after_calls (after_call s call) calls

-- what a list of calls gives together, call by call
abbrev pub all_of : {X : Type 0} → (Second → Call → List X) → Second → List Call → List X
all_of of s [] = []
all_of of s (call ∷ calls) = of s call ++ all_of of (after_call s call) calls

-- ---- turns are counted

abbrev pub count_turns : List Call → ℕ
count_turns [] = 0
count_turns (heard m ∷ calls) = count_turns calls
count_turns (made t ∷ calls) = suc (count_turns calls)
count_turns (reported ∷ calls) = count_turns calls
count_turns (came index frame ∷ calls) = count_turns calls
count_turns (gave ∷ calls) = count_turns calls

-- all turns count, whatever is heard between them, and alone as before
abbrev pub CountsAllTurns : Type 0
CountsAllTurns = (s : Second) (calls : List Call) →
    (guest_of (after_calls s calls)).turned % 2 ^ 64
    ≡ ((guest_of s).turned + count_turns calls) % 2 ^ 64

-- ---- the messages that wait

-- a number is answered by the one that is kept, and the end of a checkpoint is acknowledged
abbrev pub answers_to : Node → Message → List Message
answers_to n (Number tuple client number) =
    Known tuple client (known_number n.numbers tuple client number) ∷ []
answers_to n (End e) = Ack e ∷ []
answers_to n _ = []

-- what is put: an answer, and each frame that counts of a turn; a node alone tells nothing
abbrev pub put_hearing : Node → Call → List Message
put_hearing n (heard m) = if is_due n m then answers_to n m else []
put_hearing n (made t) = sent_messages (sent_in n.guest (guest_turn n t))
put_hearing n _ = []

abbrev pub put_by : Second → Call → List Message
put_by (hears n) call = put_hearing n call
put_by (alone n) call = []

-- what goes: a message that is taken to be sent, and all at the report
abbrev pub first_of : List Message → List Message
first_of [] = []
first_of (m ∷ ms) = m ∷ []

abbrev pub gone_hearing : Node → Call → List Message
gone_hearing n gave = first_of n.waits
gone_hearing n reported = n.waits
gone_hearing n _ = []

abbrev pub gone_by : Second → Call → List Message
gone_by (hears n) call = gone_hearing n call
gone_by (alone n) call = []

-- messages go in the order in which they were put, and those that didn't go wait
abbrev pub GoInOrder : Type 0
GoInOrder = (s : Second) (calls : List Call) →
    all_of gone_by s calls ++ waits_of (after_calls s calls) ≡ waits_of s ++ all_of put_by s calls

-- ---- what is released

abbrev pub out_by : Second → Call → List (List ℕ)
out_by s (made t) = (secondary_turn s t).out
out_by s reported = (secondary_report s).out
out_by s (came index frame) = (secondary_ingress s index frame).out
out_by s _ = []

-- the report is among the calls
abbrev pub has_report : List Call → Bool
has_report [] = false
has_report (heard m ∷ calls) = has_report calls
has_report (made t ∷ calls) = has_report calls
has_report (reported ∷ calls) = true
has_report (came index frame ∷ calls) = has_report calls
has_report (gave ∷ calls) = has_report calls

abbrev pub ReleasesNothingBeforeTheReport : Type 0
ReleasesNothingBeforeTheReport = (n : Node) (calls : List Call) → has_report calls ≡ false →
    all_of out_by (hears n) calls ≡ []
