-- Numbers across a stop of the primary: a number that was shown is the one that the secondary
-- keeps, or what it sent left the client; and a client that it did not leave and come back to was
-- shown one number (RFC 9293, 3.4.1).
use Rattle.std.specs.Prelude.{◌≡◌, true, false, List, All}
use Rattle.inet_frame.specs.Fields.{TcpFields}
use Rattle.tcp_track.specs.Lines.{sent_of}
use Rattle.settle_rules.specs.Numbers.{KeptNumber}
use Rattle.replay_log.specs.declared.lines.Line.{Line}
use Rattle.pair_theorem.specs.FrameParts.{NumbersPart, ShowOneNumber, Syn, syns}
use Rattle.pair_theorem.specs.History.{pair_log, past_at}
use Rattle.pair_theorem.specs.Log.{HasOneStop}
use Rattle.pair_theorem.specs.Past.{Past, Start, Step, secondary_releases}
use Rattle.pair_theorem.specs.Starts.{IsStart}
use Rattle.theorem_numbers.specs.Kept.{KeptOrLeft}

-- of a node's numbers, of what it sent, and of the SYNs that were shown
pub record GoesOnShowing (numbers : List KeptNumber) (sent : List TcpFields)
    (shown : List Syn) : Type 0 where
  pub kept : All (KeptOrLeft numbers sent) shown
  pub one : ShowOneNumber sent shown

-- until a report the secondary could go on with what was shown
abbrev pub SecondaryShows : Start → List Step → Past → Type 0
SecondaryShows a steps past =
    past.is_reported ≡ false
    → GoesOnShowing past.secondary_numbers (sent_of past.secondary.items) (syns a steps)

abbrev pub SecondaryCouldShow : Type 0
SecondaryCouldShow =
    (a : Start) (lines : List Line) → IsStart a → HasOneStop lines
    → SecondaryShows a (pair_log a lines) (past_at a (pair_log a lines))

-- and a survivor does, from the report on
abbrev pub SurvivorShows : Start → List Step → Past → Type 0
SurvivorShows a steps past =
    secondary_releases past ≡ true
    → GoesOnShowing past.numbers (sent_of past.secondary.items) (syns a steps)

abbrev pub SurvivorGoesOn : Type 0
SurvivorGoesOn =
    (a : Start) (lines : List Line) → IsStart a → HasOneStop lines
    → SurvivorShows a (pair_log a lines) (past_at a (pair_log a lines))

-- NUMBERS, a part of the theorem, of each log
abbrev pub NumbersOfEachLog : Type 0
NumbersOfEachLog =
    (a : Start) (lines : List Line) → IsStart a → HasOneStop lines
    → NumbersPart a (pair_log a lines)
