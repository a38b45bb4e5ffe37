-- What a machine and its sent frames are once it has made turns alone, and where it stops.
use Rattle.std.specs.Prelude.{◌≡◌, ℕ, ◌+◌, ◌%◌, ◌^◌, ◌≤◌, Bool, true, false, ◌&&◌, List, [], ◌∷◌, ◌++◌, length, fold, Option, None, Some}
use Rattle.replay_log.specs.declared.turns.Turn.{Turn}
use Rattle.state_wire.specs.Guest.{GuestState, Kind, Meaning, after_turn, sent_in}
use Rattle.state_wire.specs.Run.{Run}
use Rattle.tcp_track.specs.Stands.{segments}
use Rattle.splice_run.specs.Runs.{frame_index, given_turn, is_accepted, run_given, run_turns}
use Rattle.splice_run.specs.declared.solo_run.SoloFault.{SoloFault}
use Rattle.splice_run.specs.declared.solo_run.SoloFault.TheVariants as fault

-- a turn's numbers are such as a guest takes
pub record IsInLimits (t : Turn) : Type 0 where
  pub requests : t.b ≤ 256
  pub steps : t.n ≤ 100000

-- a machine, and the frames that it has sent
pub record Sender : Type 0 where
  pub guest : Meaning
  pub sent : List (List ℕ)

abbrev pub sender : Meaning → List (List ℕ) → Sender
sender guest sent = record { guest = guest; sent = sent }

abbrev pub run_of : Sender → Run
run_of m = record { state = m.guest.state; sent = m.sent }

-- a machine and its frames after one turn more
abbrev pub sender_after : List (List ℕ) → Sender → Turn → Sender
sender_after stream m t =
    let given = given_turn stream (segments m.sent) t in
    sender (after_turn m.guest given) (m.sent ++ sent_in m.guest given)

-- A turn can be made where it names no frame. Else the stream has to have the frame, it has to be
-- accepted, and the guest has to be able to receive.
abbrev pub can_take : Kind → List (List ℕ) → GuestState → Option ℕ → Bool
can_take kind stream state None = true
can_take kind stream state (Some index) = is_accepted stream index && kind.can_receive state

abbrev pub can_make : Kind → List (List ℕ) → Run → Turn → Bool
can_make kind stream run t = can_take kind stream run.state (frame_index t.frame)

-- each of the turns can be made, once those before it were
abbrev pub can_make_all : Kind → List (List ℕ) → Run → List Turn → Bool
can_make_all kind stream run [] = true
can_make_all kind stream run (t ∷ turns) =
    can_make kind stream run t && can_make_all kind stream (run_given kind stream run t) turns

-- a guest counts its turns modulo 2^64
abbrev pub count_turn : ℕ → Turn → ℕ
count_turn turned t = (turned + 1) % 2 ^ 64

-- The turns were made: each could be, state and frames are those of the run, and they are counted.
pub record HasMade (stream : List (List ℕ)) (old new : Sender) (turns : List Turn) : Type 0 where
  pub each : can_make_all old.guest.kind stream (run_of old) turns ≡ true
  pub run : run_of new ≡ run_turns old.guest.kind stream (run_of old) turns
  pub kind : new.guest.kind ≡ old.guest.kind
  pub turned : new.guest.turned ≡ fold count_turn old.guest.turned turns

-- The turn with this number, counted from 1, can't be made. Those before it were, and no more.
pub record StopsAt (stream : List (List ℕ)) (old new : Sender) (turns : List Turn)
    (number : ℕ) : Type 0 where
  pub before : List Turn
  pub turn : Turn
  pub later : List Turn
  pub place : turns ≡ before ++ turn ∷ later
  pub numbered : number ≡ length before + 1
  pub made : HasMade stream old new before
  pub stops : can_make new.guest.kind stream (run_of new) turn ≡ false

-- Out of memory nothing is said of the machine's state.
abbrev pub Stops : List (List ℕ) → Sender → Sender → List Turn → SoloFault → Type 0
Stops stream old new turns (fault.NoFrame turn) = StopsAt stream old new turns turn
Stops stream old new turns fault.NoMemory = new.guest.kind ≡ old.guest.kind
