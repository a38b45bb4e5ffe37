-- Stands and Acks across a stop of the primary: what the primary released before it and what the
-- survivor releases after it stand in one run (RFC 9293, 3.4).
use Rattle.std.specs.Prelude.{◌≡◌, true, false, List}
use Rattle.tcp_track.specs.Lines.{sent_of}
use Rattle.replay_log.specs.declared.lines.Line.{Line}
use Rattle.pair_theorem.specs.FrameParts.{AcksPart, StandsPart}
use Rattle.pair_theorem.specs.History.{pair_log, past_at}
use Rattle.pair_theorem.specs.Log.{HasOneStop}
use Rattle.pair_theorem.specs.Past.{Past, Start, Step, is_primary_stop}
use Rattle.pair_theorem.specs.Places.{places}
use Rattle.pair_theorem.specs.Splicing.{StandIn}
use Rattle.pair_theorem.specs.Starts.{IsStart}

-- until a report, all that was released stands in what the secondary sent too
abbrev pub StandsWithBoth : Start → List Step → Past → Type 0
StandsWithBoth a steps past =
    past.is_reported ≡ false → StandIn (sent_of past.secondary.items) (places a steps)

abbrev pub SecondaryCouldGoOn : Type 0
SecondaryCouldGoOn =
    (a : Start) (lines : List Line) → IsStart a → HasOneStop lines
    → StandsWithBoth a (pair_log a lines) (past_at a (pair_log a lines))

-- and once the primary is stopped all of it does, the survivor's own with it
abbrev pub StandsWithSecondary : Start → List Step → Past → Type 0
StandsWithSecondary a steps past =
    is_primary_stop past.stop ≡ true → StandIn (sent_of past.secondary.items) (places a steps)

abbrev pub SecondaryGoesOn : Type 0
SecondaryGoesOn =
    (a : Start) (lines : List Line) → IsStart a → HasOneStop lines
    → StandsWithSecondary a (pair_log a lines) (past_at a (pair_log a lines))

-- STANDS, a part of the theorem, of each log
abbrev pub StandsOfEachLog : Type 0
StandsOfEachLog =
    (a : Start) (lines : List Line) → IsStart a → HasOneStop lines → StandsPart a (pair_log a lines)

-- ACKS, too
abbrev pub AcksOfEachLog : Type 0
AcksOfEachLog =
    (a : Start) (lines : List Line) → IsStart a → HasOneStop lines → AcksPart a (pair_log a lines)
