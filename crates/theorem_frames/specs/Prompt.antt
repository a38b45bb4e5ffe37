-- What an event is to release goes out in it, for every schedule.
use Rattle.std.specs.Prelude.{All, List}
use Rattle.replay_log.specs.declared.lines.Line.{Line}
use Rattle.pair_theorem.specs.FrameParts.{ReleasesAgreed}
use Rattle.pair_theorem.specs.History.{pair_log}
use Rattle.pair_theorem.specs.Past.{Start}
use Rattle.pair_theorem.specs.Places.{events}
use Rattle.pair_theorem.specs.Starts.{IsStart}

-- each symbol that both nodes agree on is in a segment of its own event, a survivor's too
abbrev pub SymbolsOfEachLog : Type 0
SymbolsOfEachLog =
    (a : Start) (lines : List Line) → IsStart a → All ReleasesAgreed (events a (pair_log a lines))
