-- THE HEADLINE. What a replay leaves is what the theorem of the pair determines for two machines
-- that IMAGE boots over DISK, the frames of CLIENT and the lines of SCHEDULE; and of that the
-- theorem holds.
use Rattle.std.specs.Prelude.{◌≡◌, ℕ, IsTrue, List, [], ◌∷◌, Some}
use Rattle.command_inputs.specs.Machine.{IsBooted}
use Rattle.command_tasks.specs.Tasks.{read_task, run_reads}
use Rattle.command_tasks.specs.Words.{RunWords, read_words, replay_command}
use Rattle.colo_base.specs.Shelf.{ShelfState}
use Rattle.colo_base.specs.Sink.{Puts}
use Rattle.file_steps.specs.Ending.{Call, Ends}
use Rattle.file_steps.specs.Reading.{AreRead}
use Rattle.file_steps.specs.Steps as file
use Rattle.file_steps.specs.Steps.{Files, IsFront, after_steps}
use Rattle.replay_log.specs.Texts.{IsSchedule}
use Rattle.replay_log.specs.declared.lines.Line.{Line}
use Rattle.sock_link.specs.Stream.{IsSplit}
use Rattle.state_wire.specs.Guest.{Meaning}
use Rattle.pair_theorem.specs.History.{pair_log}
use Rattle.pair_theorem.specs.Log.{HasOneStop}
use Rattle.pair_theorem.specs.LogParts.{files_of, nodes_at}
use Rattle.pair_theorem.specs.Past.{Start}
use Rattle.pair_theorem.specs.Starts.{IsStart}
use Rattle.pair_theorem.specs.Theorem.{PairTheorem}
use Rattle.pair_world.specs.Running.{start_of}
use Rattle.replay_plan.specs.LogPlan.{log_line, log_steps}
use Rattle.replay_laws.specs.Files.{HasFiles}

-- ---- what is given

-- IMAGE boots this machine over DISK, CLIENT is the stream of these frames, and SCHEDULE spells
-- these lines
pub record AreGiven (c : RunWords) (shelf : ShelfState) (machine : Meaning)
    (frames : List (List ℕ)) (lines : List Line) : Type 0 where
  pub image : List ℕ
  pub disk : List ℕ
  pub client : List ℕ
  pub schedule : List ℕ
  pub are : AreRead shelf (run_reads c) (image ∷ (disk ∷ (client ∷ (schedule ∷ []))))
  pub booted : IsBooted c.mib image disk machine
  pub stream : IsSplit client frames []
  pub spelled : IsSchedule lines schedule

-- two such machines that have made no turn, to which these frames come
abbrev pub start_at : Meaning → List (List ℕ) → Start
start_at machine frames = start_of machine machine frames

-- ---- status 0

-- the files of a call's OUT, before it and after it
abbrev pub files_before : Call → RunWords → Files
files_before call c = file.files_of call.before.shelf c.out

abbrev pub files_after : Call → RunWords → Files
files_after call c = file.files_of call.after.shelf c.out

-- the theorem of a start, a schedule, its log, both guests after it, and the files of these
abbrev pub TheoremOf : Start → List Line → Type 0
TheoremOf a lines =
    let steps = pair_log a lines in
    let nodes = nodes_at a steps in
    PairTheorem a lines steps nodes (files_of steps nodes)

-- The five files hold the log that start and schedule determine, what it released and delivered,
-- and memory and disk of the guest that survives; its counts were printed; at most one node
-- stopped; and of these the theorem holds.
pub record RanOnePair (c : RunWords) (call : Call) : Type 0 where
  pub machine : Meaning
  pub frames : List (List ℕ)
  pub lines : List Line
  pub given : AreGiven c call.before.shelf machine frames lines
  pub start : IsStart (start_at machine frames)
  pub one_stop : HasOneStop lines
  pub files : IsTrue call.before.shelf.observable → HasFiles (files_after call c)
      (files_of (pair_log (start_at machine frames) lines)
      (nodes_at (start_at machine frames) (pair_log (start_at machine frames) lines)))
  pub line : Puts call.sink_before call.sink_after
      (log_line (pair_log (start_at machine frames) lines))
  pub theorem : TheoremOf (start_at machine frames) lines

-- ---- any status

-- some of the steps were made in their order, the last of them perhaps in part, and nothing else
pub record WroteFront (c : RunWords) (call : Call) (steps : List file.Step) : Type 0 where
  pub made : List file.Step
  pub rest : List file.Step
  pub front : IsFront steps made rest
  pub files : (end : List ℕ)
      → files_after call c end ≡ after_steps (files_before call c) made end

-- what was written is a front of what that log leaves
abbrev pub WroteItsFront : RunWords → Call → Type 0
WroteItsFront c call =
    (machine : Meaning) (frames : List (List ℕ)) (lines : List Line)
    → IsTrue call.before.shelf.observable → AreGiven c call.before.shelf machine frames lines
    → WroteFront c call
    (log_steps (start_at machine frames) (pair_log (start_at machine frames) lines))

-- ---- a call

pub record ReplaysOnePair (c : RunWords) (call : Call) : Type 0 where
  pub whole : call.status ≡ 0 → RanOnePair c call
  pub front : WroteItsFront c call

-- of each call whose words spell `replay`
abbrev pub IsOnePair : List (List ℕ) → Call → Type 0
IsOnePair words call =
    (c : RunWords) → read_words words ≡ Some (replay_command c) → ReplaysOnePair c call

-- it follows from what is promised of each call
abbrev pub EachReplayIsOnePair : Type 0
EachReplayIsOnePair =
    (words : List (List ℕ)) (call : Call) → call.task ≡ read_task words → Ends call
    → IsOnePair words call
