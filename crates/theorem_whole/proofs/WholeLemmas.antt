-- The parts of the theorem, put together.
use Rattle.std.proofs.Common.{List, refl}
use Rattle.replay_log.specs.declared.lines.Line.{Line}
use Rattle.pair_theorem.specs.History.{pair_log}
use Rattle.pair_theorem.specs.Log.{HasOneStop}
use Rattle.pair_theorem.specs.LogParts.{files_of, nodes_at}
use Rattle.pair_theorem.specs.Past.{Start}
use Rattle.pair_theorem.specs.Starts.{IsStart}
use Rattle.pair_theorem.specs.Theorem.{HoldsOfEachLog, IsOneRun}
use Rattle.pair_theorem.proofs.EachLog.{guests_hold, log_holds, marks_hold}
use Rattle.theorem_frames.proofs.ShapeLemmas.{shape_of_each_log}
use Rattle.theorem_runs.proofs.Names.{names_hold}
use Rattle.theorem_runs.proofs.Parts.{files_hold, secondary_holds}
use Rattle.theorem_runs.proofs.Telling.{told_holds}
use Rattle.theorem_prompt.proofs.PromptLogs.{prompt_holds}
use Rattle.theorem_joins.proofs.JoinedLogs.{acks_hold, stands_hold}
use Rattle.theorem_shown.proofs.ShownLogs.{numbers_hold}

one_run : (a : Start) (lines : List Line) → IsStart a → HasOneStop lines
    → IsOneRun a lines (pair_log a lines) (nodes_at a (pair_log a lines))
    (files_of (pair_log a lines) (nodes_at a (pair_log a lines)))
one_run a lines start one = record {
  log = log_holds a lines;
  names = names_hold a lines start one;
  shape = shape_of_each_log a lines start;
  stands = stands_hold a lines start one;
  numbers = numbers_hold a lines start one;
  acks = acks_hold a lines start one;
  files = files_hold a lines start;
  prompt = prompt_holds a lines start one;
  marks = marks_hold a lines;
}

pub theorem_holds : HoldsOfEachLog
theorem_holds a lines start = record {
  determined = refl;
  one_run = one_run a lines start;
  guests = guests_hold a lines;
  secondary = secondary_holds a lines start;
  told = told_holds a lines start;
}
