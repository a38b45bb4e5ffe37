-- The sentence on what is known of the secondary, of every log.
use Rattle.std.specs.Prelude.{◌≡◌, false, List, ◌++◌}
use Rattle.replay_log.specs.declared.lines.Line.{Line}
use Rattle.pair_theorem.specs.History.{pair_log, past_at}
use Rattle.pair_theorem.specs.Log.{HasOneStop}
use Rattle.pair_theorem.specs.Past.{Past, Start, Step}
use Rattle.pair_theorem.specs.Splicing.{KnownSplices}
use Rattle.pair_theorem.specs.Starts.{IsStart}

-- until a report
abbrev pub KnownSplicesOf : Past → Type 0
KnownSplicesOf past = past.is_reported ≡ false → KnownSplices past

-- after each front of a log, on every schedule with at most one stop
abbrev pub KnownSplicesEachLog : Type 0
KnownSplicesEachLog =
    (a : Start) (lines : List Line) → IsStart a → HasOneStop lines
    → (front later : List Step) → pair_log a lines ≡ front ++ later
    → KnownSplicesOf (past_at a front)
