-- What is answered to a turn, and to bytes that are heard.
use Rattle.std.specs.Prelude.{◌≡◌, ℕ, false, if◌then◌else◌, List, [], ◌++◌, Option, None, Some, Result, Ok, Err}
use Rattle.std.specs.Option.{option_map}
use Rattle.colo_wire.specs.Kinds.{number_of_kind}
use Rattle.colo_wire.specs.Spelling.{kind_of}
use Rattle.colo_wire.specs.declared.answers.HearFault.{HearFault}
use Rattle.colo_wire.specs.declared.answers.HearFault.TheVariants.{NoMessage, NotDue}
use Rattle.colo_wire.specs.declared.answers.Told.{Told}
use Rattle.colo_wire.specs.declared.answers.Turned.{Turned}
use Rattle.colo_wire.specs.declared.answers.Turned.TheVariants.{Paused, Made}
use Rattle.colo_wire.specs.declared.messages.Message.{Message}
use Rattle.colo_wire.specs.declared.messages.Message.TheVariants.{Ack}
use Rattle.node_parts.specs.Reading.{Reading}
use Rattle.node_parts.specs.Turns.{Turn}
use Rattle.node_primary.specs.Node.{Primary}
use Rattle.node_primary.specs.Steps.{frame_taken, is_due, may_ask, next_capture, primary_hear}

abbrev pub turned_by : Primary → Turn → Turned
turned_by n t =
    if n.awaits then Paused else Made (option_map (λ w. w.index) (frame_taken n t))

-- the number of the checkpoint that is asked for
abbrev pub asked_number : Primary → Option ℕ
asked_number n = if may_ask n then Some (next_capture n.captures) else None

-- the checkpoint that a message acknowledges
abbrev pub ack_by : Message → Option ℕ
ack_by (Ack e) = Some e
ack_by _ = None

abbrev pub told_of : Primary → Message → Told
told_of n m = record {
  kind = number_of_kind (kind_of m);
  full = false;
  commit = None;
  ack = ack_by m;
  capture = (primary_hear n m).capture;
}

abbrev pub Answer : Type 0
Answer = Result Told HearFault

-- what is answered to what was read, what it leaves, and what goes out
abbrev pub answer_to : Primary → Reading → Answer
answer_to n (Ok m) =
    if is_due n m then Ok (told_of n m) else Err (NotDue (number_of_kind (kind_of m)))
answer_to n (Err fault) = Err (NoMessage fault)

abbrev pub after_reading : Primary → Reading → Primary
after_reading n (Ok m) = if is_due n m then (primary_hear n m).after else n
after_reading n (Err fault) = n

abbrev pub out_of : Primary → Reading → List (List ℕ)
out_of n (Ok m) = if is_due n m then (primary_hear n m).out else []
out_of n (Err fault) = []

-- all of one call
pub record IsAnswered (old : Primary) (reading : Reading) (result : Answer) (new : Primary)
    (out_old out_new : List (List ℕ)) : Type 0 where
  pub answer : result ≡ answer_to old reading
  pub left : new ≡ after_reading old reading
  pub released : out_new ≡ out_old ++ out_of old reading
