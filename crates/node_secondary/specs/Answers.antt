-- What is answered to bytes that are heard, and what they leave.
use Rattle.std.specs.Prelude.{◌≡◌, if◌then◌else◌, Result, Ok, Err}
use Rattle.colo_wire.specs.Kinds.{number_of_kind}
use Rattle.colo_wire.specs.Spelling.{kind_of}
use Rattle.colo_wire.specs.declared.answers.HearFault.{HearFault}
use Rattle.colo_wire.specs.declared.answers.HearFault.TheVariants.{NoMessage, NotDue}
use Rattle.colo_wire.specs.declared.answers.Told.{Told}
use Rattle.colo_wire.specs.declared.messages.Message.{Message}
use Rattle.node_parts.specs.Reading.{Reading}
use Rattle.node_secondary.specs.Hearing.{is_due, told_of}
use Rattle.node_secondary.specs.Steps.{secondary_hear}
use Rattle.node_secondary.specs.Survivor.{Second, alone, hears}

abbrev pub Answer : Type 0
Answer = Result Told HearFault

abbrev pub not_due : Message → Answer
not_due m = Err (NotDue (number_of_kind (kind_of m)))

abbrev pub answer_to_message : Second → Message → Answer
answer_to_message (hears n) m = if is_due n m then Ok (told_of n m) else not_due m
answer_to_message (alone n) m = not_due m

-- what is answered to what was read, and what it leaves
abbrev pub answer_to : Second → Reading → Answer
answer_to s (Ok m) = answer_to_message s m
answer_to s (Err fault) = Err (NoMessage fault)

abbrev pub after_reading : Second → Reading → Second
after_reading s (Ok m) = secondary_hear s m
after_reading s (Err fault) = s

-- both, of one call
pub record IsAnswered (old : Second) (reading : Reading) (result : Answer) (new : Second) : Type 0
  where
    pub answer : result ≡ answer_to old reading
    pub left : new ≡ after_reading old reading
