-- The sentence on the pause, of every log.
use Rattle.std.specs.Prelude.{All, List}
use Rattle.replay_log.specs.declared.lines.Line.{Line}
use Rattle.pair_theorem.specs.History.{pair_log}
use Rattle.pair_theorem.specs.Log.{HasOneStop}
use Rattle.pair_theorem.specs.Past.{Start}
use Rattle.pair_theorem.specs.Places.{events}
use Rattle.pair_theorem.specs.Splicing.{Pauses}

-- on every schedule with at most one stop
abbrev pub PausesOfEachLog : Type 0
PausesOfEachLog =
    (a : Start) (lines : List Line) → HasOneStop lines → All Pauses (events a (pair_log a lines))
