-- The theorem of the pair, for a start, a schedule, the steps of its log, both guests, and the
-- files.
use Rattle.std.specs.Prelude.{◌≡◌, ◌++◌, List}
use Rattle.pair_theorem.specs.FrameParts.{AcksPart, NumbersPart, PromptPart, ShapePart, StandsPart}
use Rattle.pair_theorem.specs.History.{pair_log, past_at, steps_from}
use Rattle.replay_log.specs.declared.lines.Line.{Line}
use Rattle.pair_theorem.specs.Log.{HasOneStop}
use Rattle.pair_theorem.specs.LogParts.{files_of, nodes_at, FilesPart, GuestsPart, LogPart, MarksPart, NamesPart, Nodes, OutFiles, SecondaryPart, ToldPart}
use Rattle.pair_theorem.specs.Past.{Start, Step}
use Rattle.pair_theorem.specs.Starts.{IsStart}

-- The log names one run, and says truly what was released and when: nine parts, in the order in
-- which they are read.
pub record IsOneRun (a : Start) (lines : List Line) (steps : List Step) (nodes : Nodes)
    (out : OutFiles) : Type 0 where
  pub log : LogPart lines steps
  pub names : NamesPart a steps
  pub shape : ShapePart a steps
  pub stands : StandsPart a steps
  pub numbers : NumbersPart a steps
  pub acks : AcksPart a steps
  pub files : FilesPart a steps nodes out
  pub prompt : PromptPart a steps
  pub marks : MarksPart a steps

-- Nothing of the log is invented: answers, marks, messages and released frames are those that the
-- start and the schedule determine. The parts follow from this; each of them says what it means
-- without these rules.
abbrev pub IsDetermined : Start → List Line → List Step → Type 0
IsDetermined a lines steps = steps ≡ pair_log a lines

-- THE THEOREM. For every schedule the log is determined, each guest made the turns that the log
-- says, and the secondary's guest is in the state of its own run, which it was told in messages;
-- for every schedule with at most one stop the log names one run.
pub record PairTheorem (a : Start) (lines : List Line) (steps : List Step) (nodes : Nodes)
    (out : OutFiles) : Type 0 where
  pub determined : IsDetermined a lines steps
  pub one_run : HasOneStop lines → IsOneRun a lines steps nodes out
  pub guests : GuestsPart a steps nodes
  pub secondary : SecondaryPart a steps nodes
  pub told : ToldPart a steps nodes

-- WHAT IS TO BE PROVED of the definitions alone: from each start, and for each schedule, the log
-- that they give, with their guests and files, is one of which the theorem holds. What remains of a
-- pair of nodes is that its steps are these.
abbrev pub HoldsOfEachLog : Type 0
HoldsOfEachLog =
    (a : Start) (lines : List Line) → IsStart a
    → PairTheorem a lines (pair_log a lines) (nodes_at a (pair_log a lines))
    (files_of (pair_log a lines) (nodes_at a (pair_log a lines)))

-- The log of a front of a schedule is the front of its log, so whatever holds of each log holds of
-- each front of a log.
abbrev pub FrontsAreLogs : Type 0
FrontsAreLogs =
    (a : Start) (before later : List Line) →
    pair_log a (before ++ later)
    ≡ pair_log a before ++ steps_from a.kind a.stream (past_at a (pair_log a before)) later
