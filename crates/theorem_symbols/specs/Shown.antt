-- The SYN that a connection's progress shows is the last that was released on its tuple, with the
-- number that is kept for its client.
use Rattle.std.specs.Prelude.{◌≡◌, ◌<◌, List, Some}
use Rattle.std.specs.List.{flat_map}
use Rattle.inet_frame.specs.declared.tuple.Tuple.{Tuple}
use Rattle.tcp_track.specs.Lines.{line}
use Rattle.tcp_track.specs.declared.openings.Opening.{Opening}
use Rattle.settle_rules.specs.Numbers.{kept_number, number_or_zero}
use Rattle.settle_rules.specs.Progress.{ProgressTable, progress_of}
use Rattle.settle_rules.specs.Release.{Released}
use Rattle.replay_log.specs.declared.lines.Line.{Line}
use Rattle.pair_theorem.specs.History.{pair_log, past_at}
use Rattle.pair_theorem.specs.Log.{HasOneStop}
use Rattle.pair_theorem.specs.Past.{Past, Start, Step, releasing_items}
use Rattle.pair_theorem.specs.Places.{shown_number}
use Rattle.pair_theorem.specs.Starts.{IsStart}

-- all that some steps released, in order
abbrev pub all_released : List Step → List Released
all_released steps = flat_map (λ (s : Step). s.released) steps

-- where a connection's progress shows a SYN, the SYN last released on its tuple has that number
abbrev pub SynsAreShown : Start → List Released → ProgressTable → Type 0
SynsAreShown a released progress =
    (t : Tuple) (o : Opening) → (progress_of t progress).shown ≡ Some o
    → shown_number a t released ≡ Some o.own

-- Where symbols of a current opening were released, the SYN last released on its tuple has the
-- number that is kept for the opening's client.
abbrev pub ShowsKeptNumbers : Start → List Released → Past → Type 0
ShowsKeptNumbers a released past =
    (t : Tuple) (o : Opening) → (line t (releasing_items past)).opening ≡ Some o
    → 0 < (progress_of t past.progress).edge
    → shown_number a t released ≡ Some (number_or_zero (kept_number t o.client past.numbers))

-- what holds of the SYNs that were released by some steps, and of the past after them
pub record AreShown (a : Start) (steps : List Step) (past : Past) : Type 0 where
  pub last : SynsAreShown a (all_released steps) past.progress
  pub kept : ShowsKeptNumbers a (all_released steps) past

abbrev pub ShownOfEachLog : Type 0
ShownOfEachLog =
    (a : Start) (schedule : List Line) → IsStart a → HasOneStop schedule
    → AreShown a (pair_log a schedule) (past_at a (pair_log a schedule))
