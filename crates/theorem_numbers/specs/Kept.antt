-- A number that was shown to a client is the kept one, or the run left that client (RFC 9293,
-- 3.4.1).
use Rattle.std.specs.Prelude.{◌≡◌, ℕ, Bool, false, not, ◌&&◌, ◌||◌, ◌==◌, IsTrue, List, [], ◌∷◌, All, Option, None, Some}
use Rattle.std.specs.List.{list_any}
use Rattle.inet_frame.specs.Fields.{TcpFields}
use Rattle.tcp_track.specs.Lines.{sent_of}
use Rattle.settle_rules.specs.Numbers.{KeptNumber, kept_number}
use Rattle.replay_log.specs.declared.lines.Line.{Line}
use Rattle.splice_run.specs.Log.{has_primary_stop}
use Rattle.pair_theorem.specs.FrameParts.{NumbersPart, ShowOneNumber, Syn, clients_opened, syns}
use Rattle.pair_theorem.specs.History.{entries, pair_log, past_at}
use Rattle.pair_theorem.specs.Log.{HasOneStop}
use Rattle.pair_theorem.specs.Past.{Past, Start, Step, secondary_releases}
use Rattle.pair_theorem.specs.Starts.{IsStart}

-- the client stands in the list, and another one after it
abbrev pub has_left : ℕ → List ℕ → Bool
has_left c [] = false
has_left c (d ∷ ds) = d == c && list_any (λ x. not (x == c)) ds || has_left c ds

abbrev pub is_number : Option KeptNumber → ℕ → Bool
is_number None n = false
is_number (Some k) n = k.number == n

-- the number of a SYN that was shown is the one kept for its client, or these segments left the
-- client for another one
abbrev pub KeptOrLeft : List KeptNumber → List TcpFields → Syn → Type 0
KeptOrLeft numbers sent x =
    IsTrue (is_number (kept_number x.tuple x.client numbers) x.number
    || has_left x.client (clients_opened x.tuple sent))

-- Until a survivor releases: each number shown is kept or its client was left, and no two numbers
-- were shown to a client that the primary did not leave and come back to.
pub record ShowsOneNumber (a : Start) (steps : List Step) (past : Past) : Type 0 where
  pub kept : secondary_releases past ≡ false
      → All (KeptOrLeft past.numbers (sent_of past.primary.items)) (syns a steps)
  pub one : secondary_releases past ≡ false
      → ShowOneNumber (sent_of past.primary.items) (syns a steps)

abbrev pub NumbersWithPrimary : Type 0
NumbersWithPrimary =
    (a : Start) (schedule : List Line) → IsStart a → HasOneStop schedule
    → ShowsOneNumber a (pair_log a schedule) (past_at a (pair_log a schedule))

-- the fifth part of the theorem, of each log without a stop of the primary
abbrev pub NumbersWithoutStop : Type 0
NumbersWithoutStop =
    (a : Start) (schedule : List Line) → IsStart a → HasOneStop schedule
    → has_primary_stop (entries (pair_log a schedule)) ≡ false → NumbersPart a (pair_log a schedule)
