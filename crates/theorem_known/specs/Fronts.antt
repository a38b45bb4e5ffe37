-- The two sentences on each front of a log: what is known of the secondary, and that all which the
-- primary released stands in it, and while a checkpoint is under way in what the copy had sent.
use Rattle.std.specs.Prelude.{◌≡◌, false, List, ◌++◌}
use Rattle.replay_log.specs.declared.lines.Line.{Line}
use Rattle.pair_theorem.specs.History.{pair_log}
use Rattle.pair_theorem.specs.Log.{HasOneStop}
use Rattle.pair_theorem.specs.Past.{Past, Start, Step}
use Rattle.pair_theorem.specs.Splicing.{FrontSplices, PrimarySplices}
use Rattle.pair_theorem.specs.Starts.{IsStart}

-- until a report
abbrev pub PrimarySplicesOf : Start → List Step → Past → Type 0
PrimarySplicesOf a steps past = past.is_reported ≡ false → PrimarySplices a steps past

-- on every schedule with at most one stop
abbrev pub FrontsOfEachLog : Type 0
FrontsOfEachLog =
    (a : Start) (lines : List Line) → IsStart a → HasOneStop lines
    → (front later : List Step) → pair_log a lines ≡ front ++ later → FrontSplices a front
