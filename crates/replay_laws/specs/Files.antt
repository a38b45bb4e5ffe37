-- What the five files of a replay hold once all steps of its log were carried out, whatever they
-- held before.
use Rattle.std.specs.Prelude.{◌≡◌, List, Some, codes}
use Rattle.file_steps.specs.Steps.{Files, after_steps}
use Rattle.pair_theorem.specs.LogParts.{OutFiles, files_of, nodes_at}
use Rattle.pair_theorem.specs.Past.{Start, Step}
use Rattle.replay_plan.specs.LogPlan.{log_steps}

-- the files hold these bytes
pub record HasFiles (files : Files) (out : OutFiles) : Type 0 where
  pub log : files (codes ".log") ≡ Some out.log
  pub released : files (codes ".released") ≡ Some out.released
  pub wire : files (codes ".wire") ≡ Some out.wire
  pub ram : files (codes ".ram") ≡ Some out.ram
  pub disk : files (codes ".disk") ≡ Some out.disk

-- they hold the files that the theorem speaks of: those of the log and of both guests after it
abbrev pub LogLeaves : Type 0
LogLeaves = (files : Files) (a : Start) (steps : List Step)
    → HasFiles (after_steps files (log_steps a steps)) (files_of steps (nodes_at a steps))
