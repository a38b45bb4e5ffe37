-- The schedules that are run: those whose lines are all turns of the primary.
use Rattle.std.specs.Prelude.{ℕ, ◌≤◌, Bool, is_some, List, map, Option, Some, None, Result, Ok, Err, if◌then◌else◌}
use Rattle.std.specs.List.{filter_map, list_all}
use Rattle.file_steps.specs.Plans.{Refusal}
use Rattle.replay_log.specs.Texts.{IsSchedule}
use Rattle.replay_log.specs.declared.lines.Line.{Line}
use Rattle.replay_log.specs.declared.lines.Line.TheVariants.{Primary, Secondary, Client, ToSecondary, ToPrimary, StopPrimary, StopSecondary, Report, Ask}
use Rattle.command_inputs.specs.declared.schedule.PrimaryTurn.{PrimaryTurn}
use Rattle.command_inputs.specs.Reading.{and_then, not_built}
use Rattle.command_inputs.specs.Texts.{read_schedule}

-- the turn of a line
abbrev pub turn_of_line : Line → Option PrimaryTurn
turn_of_line (Primary d i b n) =
    Some (record { ticks = d; receives = i; requests = b; steps = n })
turn_of_line (Secondary d i b n) = None
turn_of_line Client = None
turn_of_line ToSecondary = None
turn_of_line ToPrimary = None
turn_of_line StopPrimary = None
turn_of_line StopSecondary = None
turn_of_line Report = None
turn_of_line Ask = None

-- whether it is one
abbrev pub is_turn : Line → Bool
is_turn line = is_some (turn_of_line line)

-- lines that are all turns
abbrev pub turns_of : List Line → Result (List PrimaryTurn) Refusal
turns_of lines =
    if list_all is_turn lines then Ok (filter_map turn_of_line lines) else Err not_built

-- a schedule of turns of the primary
unfoldable pub read_turns : List ℕ → Result (List PrimaryTurn) Refusal
read_turns text = and_then (read_schedule text) turns_of

-- ---- the same as a relation

-- the line of a turn
abbrev pub line_of : PrimaryTurn → Line
line_of turn = Primary turn.ticks turn.receives turn.requests turn.steps

-- a text is the schedule of these turns
abbrev pub IsTurnSchedule : List PrimaryTurn → List ℕ → Type 0
IsTurnSchedule turns text = IsSchedule (map line_of turns) text

-- a turn's numbers are such as a guest takes
pub record IsInLimits (turn : PrimaryTurn) : Type 0 where
  pub requests : turn.requests ≤ 256
  pub steps : turn.steps ≤ 100000
