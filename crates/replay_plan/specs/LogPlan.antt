-- The log that the theorem determines for a start and a schedule, as steps on files and a line.
use Rattle.std.specs.Prelude.{ℕ, List, ◌++◌, codes, decimal, flat_map, length, map, sum_by}
use Rattle.settle_rules.specs.Release.{released_frame}
use Rattle.sock_link.specs.Stream.{stream_of}
use Rattle.state_wire.specs.Guest.{GuestState}
use Rattle.replay_log.specs.Texts.{record_text}
use Rattle.replay_log.specs.declared.lines.Line.{Line}
use Rattle.pair_theorem.specs.History.{entries, pair_log}
use Rattle.pair_theorem.specs.LogParts.{delivered_bytes, nodes_at, survivor_state}
use Rattle.pair_theorem.specs.Past.{Start, Step}
use Rattle.file_steps.specs.Events.{event_steps}
use Rattle.file_steps.specs.Plans.{Plan, done}
use Rattle.file_steps.specs.Steps as file
use Rattle.file_steps.specs.Steps.{creates}
use Rattle.command_plans.specs.Replay.{captures_by, count, replay_files, state_steps}

-- what a step of the log leaves: its record, then the frames that it releases, each after its
-- length, and then the message that it delivers, after its direction
abbrev pub writes_of : Step → List file.Step
writes_of s =
    event_steps (record_text s.entry) (stream_of (map released_frame s.released))
    (delivered_bytes s)

-- the state of the guest that survives
abbrev pub survivor_of : Start → List Step → GuestState
survivor_of a steps = survivor_state (entries steps) (nodes_at a steps)

-- the files are created, then step by step what the log leaves is written, and at the end memory
-- and disk of the guest that survives
unfoldable pub log_steps : Start → List Step → List file.Step
log_steps a steps =
    creates replay_files ++ (flat_map writes_of steps ++ state_steps (survivor_of a steps))

-- ---- the line that it ends with

abbrev pub released_by : Step → ℕ
released_by s = length s.released

abbrev pub captured_by : Step → ℕ
captured_by s = sum_by captures_by s.entry.marks

-- the steps, the frames released and the checkpoints begun
unfoldable pub log_line : List Step → List ℕ
log_line steps =
    codes "lines " ++ (decimal (length steps)
    ++ (codes " released " ++ (decimal (count (sum_by released_by steps))
    ++ (codes " captured " ++ (decimal (count (sum_by captured_by steps)) ++ codes "\n")))))

-- ---- the plan of a start and a schedule

abbrev pub log_plan : Start → List Line → Plan
log_plan a lines =
    record { steps = log_steps a (pair_log a lines); end = done (log_line (pair_log a lines)) }
