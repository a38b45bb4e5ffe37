-- The sentence on a survivor's numbers, of each event of every log.
use Rattle.std.specs.Prelude.{◌≡◌, List, ◌∷◌, ◌++◌}
use Rattle.replay_log.specs.declared.lines.Line.{Line}
use Rattle.pair_theorem.specs.History.{pair_log}
use Rattle.pair_theorem.specs.Log.{HasOneStop}
use Rattle.pair_theorem.specs.Past.{Start}
use Rattle.pair_theorem.specs.Places.{Event, events}
use Rattle.pair_theorem.specs.Splicing.{SurvivorNumbers}
use Rattle.pair_theorem.specs.Starts.{IsStart}

-- on every schedule with at most one stop
abbrev pub SurvivorNumbersOfEachLog : Type 0
SurvivorNumbersOfEachLog =
    (a : Start) (lines : List Line) → IsStart a → HasOneStop lines
    → (before later : List Event) (e : Event) → events a (pair_log a lines) ≡ before ++ e ∷ later
    → SurvivorNumbers a before e
