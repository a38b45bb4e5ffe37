-- What is released stands in the run of the node that releases it (RFC 9293, 3.4).
use Rattle.std.specs.Prelude.{◌≡◌, false, List, All}
use Rattle.tcp_track.specs.Lines.{sent_of}
use Rattle.replay_log.specs.declared.lines.Line.{Line}
use Rattle.splice_run.specs.Log.{has_primary_stop}
use Rattle.pair_theorem.specs.FrameParts.{AcksPart, StandsPart}
use Rattle.pair_theorem.specs.History.{entries, pair_log, past_at}
use Rattle.pair_theorem.specs.Log.{HasOneStop}
use Rattle.pair_theorem.specs.Past.{Past, Start, Step, releasing_items, secondary_releases}
use Rattle.pair_theorem.specs.Places.{Event, event_places, events, places}
use Rattle.pair_theorem.specs.Splicing.{StandIn, SurvivorStands}
use Rattle.pair_theorem.specs.Starts.{IsStart}

-- AT ONCE: what an event releases stands in what the releasing node had sent at the event's end,
-- and so does each acknowledgement
abbrev pub StandsAtOnce : Start → Event → Type 0
StandsAtOnce a e = StandIn (sent_of (releasing_items e.outcome.after)) (event_places a e)

abbrev pub EachReleaseStands : Type 0
EachReleaseStands =
    (a : Start) (schedule : List Line) → IsStart a → HasOneStop schedule
    → All (StandsAtOnce a) (events a (pair_log a schedule))

-- and so a sentence of splicing: what a survivor releases stands in its own run
abbrev pub EachSurvivorStands : Type 0
EachSurvivorStands =
    (a : Start) (schedule : List Line) → IsStart a → HasOneStop schedule
    → All (SurvivorStands a) (events a (pair_log a schedule))

-- UNTIL A SURVIVOR RELEASES, all that was released stands in what the primary sent
abbrev pub StandsWithPrimary : Start → List Step → Past → Type 0
StandsWithPrimary a steps past =
    secondary_releases past ≡ false → StandIn (sent_of past.primary.items) (places a steps)

abbrev pub PrimaryStands : Type 0
PrimaryStands =
    (a : Start) (schedule : List Line) → IsStart a → HasOneStop schedule
    → StandsWithPrimary a (pair_log a schedule) (past_at a (pair_log a schedule))

-- STANDS AND ACKS, two parts of the theorem, of each log without a stop of the primary
pub record StandsInRun (a : Start) (steps : List Step) : Type 0 where
  pub stands : StandsPart a steps
  pub acks : AcksPart a steps

abbrev pub StandsWithoutStop : Type 0
StandsWithoutStop =
    (a : Start) (schedule : List Line) → IsStart a → HasOneStop schedule
    → has_primary_stop (entries (pair_log a schedule)) ≡ false
    → StandsInRun a (pair_log a schedule)
