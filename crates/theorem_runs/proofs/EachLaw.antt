-- The laws of this crate, each of the log of every schedule.
use Rattle.pair_theorem.proofs.EachHistory.{Any, each_any_log}
use Rattle.theorem_runs.specs.Laws.{FramesWaitRightly, ItemsAreSent, LogCutsTurns, OneCheckpointAtATime, RunsAreTheLogs}
use Rattle.theorem_runs.specs.Runs.{AreCut, AreRuns, AreTold, SayItems}
use Rattle.theorem_runs.proofs.Checkpoints.{Links, one_checkpoint}
use Rattle.theorem_runs.proofs.Cuts.{are_cut}
use Rattle.theorem_runs.proofs.Items.{say_items}
use Rattle.theorem_runs.proofs.Parts.{starts_plain}
use Rattle.theorem_runs.proofs.Running.{are_runs}
use Rattle.theorem_runs.proofs.Waiting.{are_told}

pub one_checkpoint_holds : OneCheckpointAtATime
one_checkpoint_holds a = each_any_log a Links (one_checkpoint Any a)

pub cut_holds : LogCutsTurns
cut_holds a = each_any_log a AreCut (are_cut Any a)

pub items_hold : ItemsAreSent
items_hold a lines start = each_any_log a SayItems (say_items Any a (starts_plain a start).said) lines

pub frames_hold : FramesWaitRightly
frames_hold a lines start = each_any_log a (AreTold a) (are_told Any a (starts_plain a start).inbox) lines

pub runs_hold : RunsAreTheLogs
runs_hold a lines start = each_any_log a (AreRuns a) (are_runs Any a (starts_plain a start)) lines
