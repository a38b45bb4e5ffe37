-- What is shown of every log: of each start and each schedule, of the definitions alone.
use Rattle.std.specs.Prelude.{List}
use Rattle.replay_log.specs.declared.lines.Line.{Line}
use Rattle.pair_theorem.specs.History.{pair_log, past_at}
use Rattle.pair_theorem.specs.Log.{HasOneStop}
use Rattle.pair_theorem.specs.LogParts.{FilesPart, NamesPart, SecondaryPart, ToldPart, files_of, nodes_at}
use Rattle.pair_theorem.specs.Past.{Start}
use Rattle.pair_theorem.specs.Starts.{IsStart}
use Rattle.theorem_runs.specs.Links.{OneCheckpoint}
use Rattle.theorem_runs.specs.Runs.{AreCut, AreRuns, AreSaid, AreTold}

-- ONE CHECKPOINT is on its way at most
abbrev pub OneCheckpointAtATime : Type 0
OneCheckpointAtATime =
    (a : Start) (lines : List Line) → OneCheckpoint (past_at a (pair_log a lines))

-- THE TURNS of both runs are those that the log's marks cut
abbrev pub LogCutsTurns : Type 0
LogCutsTurns =
    (a : Start) (lines : List Line) → AreCut (pair_log a lines) (past_at a (pair_log a lines))

-- THE ITEMS of both nodes are the segments of what their guests sent
abbrev pub ItemsAreSent : Type 0
ItemsAreSent =
    (a : Start) (lines : List Line) → IsStart a → AreSaid (past_at a (pair_log a lines))

-- THE FRAMES that wait are those that the log says
abbrev pub FramesWaitRightly : Type 0
FramesWaitRightly =
    (a : Start) (lines : List Line) → IsStart a
    → AreTold a (pair_log a lines) (past_at a (pair_log a lines))

-- EACH NODE'S RUN is the run of its turns
abbrev pub RunsAreTheLogs : Type 0
RunsAreTheLogs =
    (a : Start) (lines : List Line) → IsStart a
    → AreRuns a (pair_log a lines) (past_at a (pair_log a lines))

-- SECONDARY, on every schedule
abbrev pub SecondaryOfEachLog : Type 0
SecondaryOfEachLog =
    (a : Start) (lines : List Line) → IsStart a
    → SecondaryPart a (pair_log a lines) (nodes_at a (pair_log a lines))

-- FILES, on every schedule
abbrev pub FilesOfEachLog : Type 0
FilesOfEachLog =
    (a : Start) (lines : List Line) → IsStart a
    → FilesPart a (pair_log a lines) (nodes_at a (pair_log a lines))
    (files_of (pair_log a lines) (nodes_at a (pair_log a lines)))

-- NAMES, on every schedule with at most one stop
abbrev pub NamesOfEachLog : Type 0
NamesOfEachLog =
    (a : Start) (lines : List Line) → IsStart a → HasOneStop lines → NamesPart a (pair_log a lines)

-- TOLD, on every schedule
abbrev pub ToldOfEachLog : Type 0
ToldOfEachLog =
    (a : Start) (lines : List Line) → IsStart a
    → ToldPart a (pair_log a lines) (nodes_at a (pair_log a lines))
