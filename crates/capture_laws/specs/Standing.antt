-- A capture that stands for a past of the pair and its kept numbers.
use Rattle.std.specs.Prelude.{◌≡◌, List}
use Rattle.std.specs.Map.{keys_of}
use Rattle.settle_rules.specs.Numbers.{KeptNumber}
use Rattle.settle_history.specs.Standing.{SameNumbers, Tracks}
use Rattle.pair_theorem.specs.Past.{Past}
use Rattle.capture_laws.specs.Captures.{AreDistinct, AreOfOpenings, Capture}

-- its lines stand for the primary's items, its numbers are found as the kept ones, and its state
-- and inbox are the primary's
pub record StandsForPast (past : Past) (kept : List KeptNumber) (x : Capture) : Type 0 where
  pub tracks : Tracks past.primary.items x.lines
  pub distinct : AreDistinct (keys_of x.lines.entries)
  pub numbers : SameNumbers kept x.numbers
  pub openings : AreOfOpenings x.numbers x.lines
  pub state : x.state ≡ past.primary.run.state
  pub inbox : x.inbox ≡ past.primary_inbox
