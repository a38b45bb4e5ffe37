-- The numbers across the link: what the secondary keeps, with those that are on their way, is what
-- the primary keeps, whether or not it knows that the secondary has them.
use Rattle.std.specs.Prelude.{◌≡◌, Bool, true, false, ⊤, List, [], ◌∷◌, ◌++◌, map, Option, None, Some}
use Rattle.std.specs.List.{filter_map, list_any}
use Rattle.tcp_track.specs.Lines.{Item}
use Rattle.settle_rules.specs.Numbers.{KeptNumber, is_number_of, thin}
use Rattle.colo_wire.specs.declared.messages.Message.{Message}
use Rattle.colo_wire.specs.declared.messages.Message.TheVariants.{Number}
use Rattle.replay_log.specs.declared.lines.Line.{Line}
use Rattle.pair_theorem.specs.History.{pair_log, past_at}
use Rattle.pair_theorem.specs.Log.{HasOneStop}
use Rattle.pair_theorem.specs.Past.{Past, Start}
use Rattle.pair_theorem.specs.Starts.{IsStart}
use Rattle.theorem_runs.specs.Runs.{has_end}

-- leaving out whether they are known
abbrev pub plain : KeptNumber → KeptNumber
plain k = record k { known = false }

abbrev pub plain_numbers : List KeptNumber → List KeptNumber
plain_numbers numbers = map plain numbers

-- the numbers on the link to the secondary
abbrev pub number_told : Message → Option KeptNumber
number_told (Number t client number) =
    Some (record { tuple = t; client = client; number = number; known = false })
number_told _ = None

abbrev pub numbers_on : List Message → List KeptNumber
numbers_on messages = filter_map number_told messages

-- each is for a client without one before it
abbrev pub AreNewAfter : List KeptNumber → List KeptNumber → Type 0
AreNewAfter before [] = ⊤
AreNewAfter before (k ∷ numbers) =
    (list_any (is_number_of k.tuple k.client) before ≡ false)
    × AreNewAfter (before ++ k ∷ []) numbers

-- Whether a checkpoint is awaited; the secondary's numbers and the link to it; the primary's
-- numbers; and the items and numbers of the last capture.
pub record AreAcross (awaits : Bool) (theirs : List KeptNumber) (link : List Message)
    (mine : List KeptNumber) (items : List Item) (copied : List KeptNumber) : Type 0 where
  pub each_new : AreNewAfter [] (theirs ++ numbers_on link)
  pub calm : awaits ≡ false → plain_numbers (theirs ++ numbers_on link) ≡ plain_numbers mine
  pub going : has_end link ≡ true
      → plain_numbers (thin items (theirs ++ numbers_on link)) ≡ plain_numbers copied
  pub coming : awaits ≡ true → has_end link ≡ false
      → plain_numbers (theirs ++ numbers_on link) ≡ plain_numbers copied

-- until a report
abbrev pub AgreeOnNumbers : Past → Type 0
AgreeOnNumbers past =
    past.is_reported ≡ false
    → AreAcross past.awaits_ack past.secondary_numbers past.to_secondary past.numbers
    past.copy.run.items past.copy.numbers

-- on every schedule with at most one stop
abbrev pub NumbersAgree : Type 0
NumbersAgree =
    (a : Start) (lines : List Line) → IsStart a → HasOneStop lines
    → AgreeOnNumbers (past_at a (pair_log a lines))
