-- A turn of many steps is many turns of one step; and what is sent is frames.
use Rattle.std.specs.Prelude.{◌≡◌, ℕ, zero, suc, ◌+◌, None, ◌++◌, All}
use Rattle.state_wire.specs.Guest.{GuestState, GuestTurn, IsFrame, Kind, turn_of}
use Rattle.guest_machine.specs.Guest.{MachineParts, machine_meaning}
use Rattle.guest_machine.specs.Turn.{State, Turned, make_turn}

-- a turn of steps alone: the clock stands, no frame is received and no request is served
abbrev pub steps_alone : ℕ → GuestTurn
steps_alone steps = turn_of 0 None 0 steps

-- one turn more, with the frames of both
abbrev pub then_turn : Turned → GuestTurn → Turned
then_turn before turn = let next = make_turn before.state turn in
    record { state = next.state; frames = before.frames ++ next.frames }

-- so many turns of one step more
unfoldable pub then_single_steps : ℕ → Turned → Turned
then_single_steps zero before = before
then_single_steps (suc n) before = then_turn (then_single_steps n before) (steps_alone 1)

-- the steps of a turn can be made in two turns
abbrev pub StepsSplit : Type 0
StepsSplit = (s : State) (turn : GuestTurn) (more : ℕ)
    → make_turn s (record turn { steps = turn.steps + more })
    ≡ then_turn (make_turn s turn) (steps_alone more)

-- and in a turn for each
abbrev pub StepsAreTurns : Type 0
StepsAreTurns = (s : State) (turn : GuestTurn)
    → make_turn s turn
    ≡ then_single_steps turn.steps (make_turn s (record turn { steps = 0 }))

-- each frame that a turn of this kind sends has 14 to 1,514 bytes
abbrev pub SendsFrames : Kind → Type 0
SendsFrames kind = (s : GuestState) (turn : GuestTurn) → All IsFrame (kind.sent s turn)

-- so it is of every machine
abbrev pub MachinesSendFrames : Type 0
MachinesSendFrames = (m : MachineParts) → SendsFrames (machine_meaning m).kind
