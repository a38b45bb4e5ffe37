-- What the releasing node keeps of a connection beside its line, whatever happened: how far it was
-- released, and the number that its client knows (RFC 9293, 3.4.1).
use Rattle.std.specs.Prelude.{◌≡◌, ◌<◌, ◌≤◌, true, is_some, List, length, Some}
use Rattle.inet_frame.specs.declared.tuple.Tuple.{Tuple}
use Rattle.tcp_track.specs.Lines as lines
use Rattle.tcp_track.specs.Lines.{Item, line}
use Rattle.tcp_track.specs.declared.openings.Opening.{Opening}
use Rattle.settle_rules.specs.Numbers.{KeptNumber, kept_number, number_or_zero}
use Rattle.settle_rules.specs.Progress.{Progress, ProgressTable, progress_of}
use Rattle.replay_log.specs.declared.lines.Line.{Line}
use Rattle.pair_theorem.specs.History.{pair_log, past_at}
use Rattle.pair_theorem.specs.Log.{HasOneStop}
use Rattle.pair_theorem.specs.Past.{Past, Start, releasing_items}
use Rattle.pair_theorem.specs.Starts.{IsStart}

-- an opening as its client knows it: under the kept number
abbrev pub shown_as : Tuple → Opening → List KeptNumber → Opening
shown_as t o numbers =
    record { client = o.client; own = number_or_zero (kept_number t o.client numbers) }

-- Of a connection's line, its progress and all kept numbers: what the client acknowledged was
-- released, and what was released is in the line; the current opening has a kept number; and where
-- symbols were released the SYN last shown is the current opening's, with the kept number.
pub record IsNumbered (t : Tuple) (l : lines.Line) (p : Progress)
    (numbers : List KeptNumber) : Type 0 where
  pub trimmed : l.base ≤ p.edge
  pub within : p.edge ≤ length l.symbols
  pub kept : (o : Opening) → l.opening ≡ Some o
      → is_some (kept_number t o.client numbers) ≡ true
  pub shown : (o : Opening) → l.opening ≡ Some o → 0 < p.edge
      → p.shown ≡ Some (shown_as t o numbers)

-- each connection of these items
abbrev pub AreNumbered : List Item → List KeptNumber → ProgressTable → Type 0
AreNumbered items numbers progress =
    (t : Tuple) → IsNumbered t (line t items) (progress_of t progress) numbers

-- the connections of the releasing node
abbrev pub NumbersAreKept : Past → Type 0
NumbersAreKept past = AreNumbered (releasing_items past) past.numbers past.progress

abbrev pub NumbersOfEachLog : Type 0
NumbersOfEachLog =
    (a : Start) (schedule : List Line) → IsStart a → HasOneStop schedule
    → NumbersAreKept (past_at a (pair_log a schedule))
