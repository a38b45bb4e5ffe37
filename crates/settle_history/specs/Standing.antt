-- The history that a comparer stands for: all that both guests sent, the numbers kept since, and
-- the progress of each connection. Tables are the same by what is found in them, never as lists.
use Rattle.std.specs.Prelude.{◌≡◌, ℕ, Bool, false, true, not, ◌&&◌, is_some, List, [], ◌∷◌, ◌++◌, Option, None, Some}
use Rattle.std.specs.List.{list_any}
use Rattle.std.specs.Option.{option_map}
use Rattle.inet_frame.specs.declared.tuple.Tuple.{Tuple}
use Rattle.tcp_track.specs.Laws.{Call, items_of, tracking_of}
use Rattle.tcp_track.specs.Lines.{Item, sent_of}
use Rattle.tcp_track.specs.Stands.{opening_of}
use Rattle.tcp_track.specs.Tracking.{Tracking, same_incarnation}
use Rattle.tcp_track.specs.declared.openings.Incarnation.{Incarnation}
use Rattle.tcp_track.specs.declared.openings.Opening.{Opening}
use Rattle.seq_rewriter.specs.Kept.{KeptNumbers, number_of}
use Rattle.settle_rules.specs.Numbers.{KeptNumber, is_known, kept_number}
use Rattle.settle_rules.specs.OwnFrames.{OwnFrames, no_own_frames}
use Rattle.settle_rules.specs.Progress.{ProgressTable, progress_of}
use Rattle.settle_table.specs.Table.{AreUntrimmed, progress_at}
use Rattle.out_compare.specs.Comparing.{Comparing}

-- A tracker stands for items: some list of calls with these items left it. So what tcp_track says
-- of any list of calls is said of it, and of a table put back from a checkpoint too.
pub record Tracks (items : List Item) (tracking : Tracking) : Type 0 where
  pub calls : List Call
  pub leaves : tracking ≡ tracking_of calls
  pub gives : items_of calls ≡ items

-- the same number is found for each client
abbrev pub SameNumbers : List KeptNumber → KeptNumbers → Type 0
SameNumbers kept numbers =
    (t : Tuple) (client : ℕ) →
    number_of numbers t client
    ≡ option_map (λ (k : KeptNumber). k.number) (kept_number t client kept)

-- a number is known to the other node exactly where it is kept and not among the unknown ones
abbrev pub SameKnown : List KeptNumber → List Incarnation → Type 0
SameKnown kept unknown =
    (t : Tuple) (client : ℕ) →
    is_known (kept_number t client kept)
    ≡ (is_some (kept_number t client kept)
    && not (list_any (same_incarnation (record { tuple = t; client = client })) unknown))

-- the client of each current opening has a number
abbrev pub AreNumbered : List Item → List KeptNumber → Type 0
AreNumbered items kept =
    (t : Tuple) (o : Opening) → opening_of t (sent_of items) ≡ Some o →
    is_some (kept_number t o.client kept) ≡ true

-- the kept number that a segment makes new, from its opening and what its answer says
abbrev pub number_said : Tuple → Option Opening → Option ℕ → List KeptNumber
number_said t None number = []
number_said t (Some o) None = []
number_said t (Some o) (Some number) =
    record { tuple = t; client = o.client; number = number; known = false } ∷ []

-- the same progress is found for each connection
abbrev pub SameProgress : ProgressTable → ProgressTable → Type 0
SameProgress progress table = (t : Tuple) → progress_at table t ≡ progress_of t progress

-- Within an event: the node's own segments so far, the items of the other guest's known line, the
-- tuples that it restarted in this event, and whether the node is alone. A node alone has no known
-- lines of the other guest, and no number is to be known.
pub record StandsWithin (own : OwnFrames) (theirs : List Item) (heard : List Tuple)
    (is_alone : Bool) (x : Comparing) : Type 0 where
  pub mine_is : Tracks own.items x.mine
  pub theirs_is : is_alone ≡ false → Tracks theirs x.theirs
  pub numbers_are : SameNumbers own.numbers x.numbers
  pub known : is_alone ≡ false → SameKnown own.numbers x.unknown
  pub numbered : AreNumbered own.items own.numbers
  pub progress_is : SameProgress own.progress x.progress
  pub untrimmed : AreUntrimmed x.mine x.progress
  pub tooks_are : x.tooks ≡ own.tooks
  pub restarts_are : x.restarts ≡ own.restarts ++ heard
  pub alone : x.is_alone ≡ is_alone

-- what the rules keep where a comparer keeps its tables
pub record Books : Type 0 where
  pub mine : List Item
  pub theirs : List Item
  pub numbers : List KeptNumber
  pub progress : ProgressTable
  pub is_alone : Bool

-- the event's own segments, where there is none yet
abbrev pub no_own_of : Books → OwnFrames
no_own_of b = no_own_frames b.mine b.numbers b.progress

-- between events
abbrev pub StandsFor : Books → Comparing → Type 0
StandsFor b x = StandsWithin (no_own_of b) b.theirs [] b.is_alone x
