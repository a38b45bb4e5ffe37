-- What a link means: what came over it, what went, and the calls on it that failed.
use Rattle.std.specs.Prelude.{◌≡◌, ℕ, ◌<◌, ◌≤◌, Bool, IsTrue, List, [], ◌∷◌, ◌++◌, length, take}
use Rattle.std.specs.Io.{StartsWith}
use Rattle.colo_base.specs.Count.{Increased}
use Rattle.colo_base.specs.declared.traits.Heard.{Heard}
use Rattle.colo_base.specs.declared.traits.Heard.TheVariants as variant

-- what came at one receive: bytes, none yet, or none ever again
pub data Arrival : Type 0 where
  bytes : List ℕ → Arrival
  quiet : Arrival
  ended : Arrival

-- one receive that was answered: for how many bytes it had room, and what came
pub record Answer : Type 0 where
  pub room : ℕ
  pub arrival : Arrival

-- a link at one moment
pub record LinkState : Type 0 where
  -- whether its answers and the bytes sent can be observed
  pub observable : Bool
  -- whether an open of it answered Ok
  pub opened : Bool
  -- the answers of its receives, in order, where they can be observed
  pub answers : List Answer
  -- the bytes sent, where they can be observed
  pub sent : List ℕ
  -- for each address, how many opens failed
  pub open_faults : List ℕ → ℕ
  -- how many receives failed
  pub receive_faults : ℕ
  -- how many sends failed
  pub send_faults : ℕ
  -- how many receives answered that no byte had come
  pub quiets : ℕ

-- no count falls, and whether its bytes can be observed stays
pub record LinkGoesOn (old new : LinkState) : Type 0 where
  pub observable : new.observable ≡ old.observable
  pub open_faults : (address : List ℕ) → old.open_faults address ≤ new.open_faults address
  pub receive_faults : old.receive_faults ≤ new.receive_faults
  pub send_faults : old.send_faults ≤ new.send_faults
  pub quiets : old.quiets ≤ new.quiets

-- no open failed
abbrev pub NoOpenFailed : LinkState → LinkState → Type 0
NoOpenFailed old new = (address : List ℕ) → new.open_faults address ≡ old.open_faults address

-- no receive failed
abbrev pub NoReceiveFailed : LinkState → LinkState → Type 0
NoReceiveFailed old new = new.receive_faults ≡ old.receive_faults

-- no send failed
abbrev pub NoSendFailed : LinkState → LinkState → Type 0
NoSendFailed old new = new.send_faults ≡ old.send_faults

-- no receive was quiet
abbrev pub NoneQuiet : LinkState → LinkState → Type 0
NoneQuiet old new = new.quiets ≡ old.quiets

-- an open changed no count of another kind of call
pub record CountsOpen (old new : LinkState) : Type 0 where
  pub receives : NoReceiveFailed old new
  pub sends : NoSendFailed old new
  pub quiets : NoneQuiet old new

-- a receive changed no count of another kind of call
pub record CountsReceive (old new : LinkState) : Type 0 where
  pub opens : NoOpenFailed old new
  pub sends : NoSendFailed old new

-- a send changed no count of another kind of call
pub record CountsSend (old new : LinkState) : Type 0 where
  pub opens : NoOpenFailed old new
  pub receives : NoReceiveFailed old new
  pub quiets : NoneQuiet old new

-- no answer came
abbrev pub SameAnswers : LinkState → LinkState → Type 0
SameAnswers old new = IsTrue old.observable → new.answers ≡ old.answers

-- the answer to a receive
abbrev pub answer : ℕ → Arrival → Answer
answer room arrival = record { room = room; arrival = arrival }

-- one answer came
abbrev pub Answers : LinkState → LinkState → ℕ → Arrival → Type 0
Answers old new room arrival =
    IsTrue old.observable → new.answers ≡ old.answers ++ answer room arrival ∷ []

-- nothing was sent
abbrev pub SameSent : LinkState → LinkState → Type 0
SameSent old new = IsTrue old.observable → new.sent ≡ old.sent

-- the bytes were sent
abbrev pub Sends : LinkState → LinkState → List ℕ → Type 0
Sends old new sent = IsTrue old.observable → new.sent ≡ old.sent ++ sent

-- a prefix of the bytes was sent
abbrev pub SendsPart : LinkState → LinkState → List ℕ → Type 0
SendsPart old new sent =
    IsTrue old.observable → (part : List ℕ) × StartsWith sent part × (new.sent ≡ old.sent ++ part)

-- What a receive answered into a buffer: the bytes taken are the front of what the buffer then has.
-- Only a quiet answer changes a count, that of quiet answers.
abbrev pub Hears : LinkState → LinkState → List ℕ → Heard → Type 0
Hears old new into (variant.Took n) =
    (0 < n) × (n ≤ length into) × Answers old new (length into) (bytes (take n into))
    × NoneQuiet old new
Hears old new into variant.Quiet =
    Increased old.quiets new.quiets × Answers old new (length into) quiet
Hears old new into variant.Ended = Answers old new (length into) ended × NoneQuiet old new
