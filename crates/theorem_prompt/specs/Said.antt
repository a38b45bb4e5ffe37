-- The acknowledgement last released on a tuple is the agreed one, and so the whole of Prompt.
use Rattle.std.specs.Prelude.{◌≡◌, List, All, IsTrue, Some}
use Rattle.inet_frame.specs.declared.tuple.Tuple.{Tuple}
use Rattle.settle_rules.specs.Progress.{AckWindow, ProgressTable, progress_of}
use Rattle.settle_rules.specs.Release.{Released}
use Rattle.replay_log.specs.declared.lines.Line.{Line}
use Rattle.pair_theorem.specs.FrameParts.{PromptPart, event_acks, last_ack}
use Rattle.pair_theorem.specs.History.{pair_log}
use Rattle.pair_theorem.specs.Log.{HasOneStop}
use Rattle.pair_theorem.specs.Past.{Start}
use Rattle.pair_theorem.specs.Places.{Event, events}
use Rattle.pair_theorem.specs.Starts.{IsStart}

-- where a connection's progress has an acknowledgement, it is the last that was released on its
-- tuple
abbrev pub AcksAreLast : Start → List Released → ProgressTable → Type 0
AcksAreLast a released progress =
    (t : Tuple) (w : AckWindow) → (progress_of t progress).last ≡ Some w
    → last_ack a t released ≡ Some w.ack

-- at the end of each event without a checkpoint under way, the last acknowledgement on each tuple
-- with released symbols and one client is the agreed one
abbrev pub AcksOfEachLog : Type 0
AcksOfEachLog =
    (a : Start) (schedule : List Line) → IsStart a → HasOneStop schedule
    → All (λ (e : Event). IsTrue (event_acks a e)) (events a (pair_log a schedule))

-- the eighth part of the theorem, on every schedule with at most one stop
abbrev pub PromptOfEachLog : Type 0
PromptOfEachLog =
    (a : Start) (schedule : List Line) → IsStart a → HasOneStop schedule
    → PromptPart a (pair_log a schedule)
