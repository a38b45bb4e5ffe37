-- That each relation of a text and its value holds exactly of what the function gives.
use Rattle.std.specs.Prelude.{◌≡◌, ◌↔◌, ℕ, List, [], Ok}
use Rattle.replay_log.specs.Texts.{IsLog, IsSchedule, IsSingle}
use Rattle.replay_log.specs.declared.lines.Line.{Line}
use Rattle.replay_log.specs.declared.records.Record.{Record}
use Rattle.replay_log.specs.declared.turns.Turn.{Turn}
use Rattle.shared_definitions.specs.Bytes.{AreBytes}
use Rattle.sock_link.specs.Stream.{IsSplit}
use Rattle.state_wire.specs.Guest.{Meaning}
use Rattle.command_inputs.specs.declared.schedule.PrimaryTurn.{PrimaryTurn}
use Rattle.command_inputs.specs.Client.{read_client}
use Rattle.command_inputs.specs.Machine.{IsBooted, read_machine}
use Rattle.command_inputs.specs.Texts.{read_log, read_schedule, read_single}
use Rattle.command_inputs.specs.Turns.{IsTurnSchedule, read_turns}

abbrev pub ReadsSchedules : Type 0
ReadsSchedules = (text : List ℕ) (lines : List Line)
    → (read_schedule text ≡ Ok lines) ↔ IsSchedule lines text

abbrev pub ReadsSingleRuns : Type 0
ReadsSingleRuns = (text : List ℕ) (turns : List Turn)
    → (read_single text ≡ Ok turns) ↔ IsSingle turns text

abbrev pub ReadsLogs : Type 0
ReadsLogs = (text : List ℕ) (log : List Record) → (read_log text ≡ Ok log) ↔ IsLog log text

abbrev pub ReadsTurns : Type 0
ReadsTurns = (text : List ℕ) (turns : List PrimaryTurn)
    → (read_turns text ≡ Ok turns) ↔ IsTurnSchedule turns text

abbrev pub ReadsClients : Type 0
ReadsClients = (client : List ℕ) (frames : List (List ℕ)) → AreBytes client
    → (read_client client ≡ Ok frames) ↔ IsSplit client frames []

abbrev pub ReadsMachines : Type 0
ReadsMachines = (mib : ℕ) (image disk : List ℕ) (machine : Meaning)
    → (read_machine mib image disk ≡ Ok machine) ↔ IsBooted mib image disk machine
