-- What a comparer holds, and what each call leaves.
use Rattle.std.specs.Prelude.{ℕ, Bool, true, false, not, ◌==◌, if◌then◌else◌, List, [], ◌∷◌, ◌++◌, filter, Option, None, Some}
use Rattle.inet_frame.specs.declared.tuple.Tuple.{Tuple}
use Rattle.tcp_track.specs.Tracking.{Tracking, nothing_tracked, taken, took_of, commit_tracking, same_incarnation}
use Rattle.tcp_track.specs.declared.answers.Took.{Took}
use Rattle.tcp_track.specs.declared.openings.Incarnation.{Incarnation}
use Rattle.seq_rewriter.specs.Kept.{KeptNumbers, is_current, number_of, thin}
use Rattle.settle_rules.specs.OwnFrames.{note_took, restarts_of}
use Rattle.settle_rules.specs.Progress.{ProgressTable, clear_ages}
use Rattle.settle_rules.specs.Settle.{Settlement}
use Rattle.settle_table.specs.Kept.{KeptScene, settle_kept}
use Rattle.settle_table.specs.Needs.{need_of}
use Rattle.settle_table.specs.declared.causes.Need.{Need}
use Rattle.out_compare.specs.Noting.{note_number, note_unknown, note_progress}

-- Both nodes' lines; the kept numbers, and those of them that the other node is not known to have;
-- the progress of each connection; what the event's own segments are so far that aren't ignored,
-- and the tuples restarted in it; whether the node is alone.
pub record Comparing : Type 0 where
  pub mine : Tracking
  pub theirs : Tracking
  pub numbers : KeptNumbers
  pub unknown : List Incarnation
  pub progress : ProgressTable
  pub tooks : List Took
  pub restarts : List Tuple
  pub is_alone : Bool

abbrev pub nothing_compared : Comparing
nothing_compared = record {
  mine = nothing_tracked;
  theirs = nothing_tracked;
  numbers = [];
  unknown = [];
  progress = [];
  tooks = [];
  restarts = [];
  is_alone = false;
}

-- a frame of the node's own guest, which was that
abbrev pub own_with : Comparing → List ℕ → Took → Comparing
own_with x frame took = record x {
  mine = taken x.mine frame;
  numbers = note_number x.numbers took;
  unknown = note_unknown x.numbers x.unknown took;
  progress = note_progress x.progress took;
  tooks = note_took x.tooks took;
  restarts = x.restarts ++ restarts_of took.tuple took.what;
}

unfoldable pub take_own : Comparing → List ℕ → Comparing
take_own x frame = own_with x frame (took_of x.mine frame)

-- a frame that the other node's guest sent
abbrev pub heard_with : Comparing → List ℕ → Took → Comparing
heard_with x frame took = record x {
  theirs = taken x.theirs frame;
  restarts = x.restarts ++ restarts_of took.tuple took.what;
}

unfoldable pub take_heard : Comparing → List ℕ → Comparing
take_heard x frame = heard_with x frame (took_of x.theirs frame)

abbrev pub is_kept : Option ℕ → ℕ → Bool
is_kept None number = false
is_kept (Some kept) number = kept == number

-- the other node has a number, where it is the kept one
unfoldable pub learn : Comparing → Tuple → ℕ → ℕ → Comparing
learn x t client number = record x {
  unknown =
      if is_kept (number_of x.numbers t client) number
      then filter (λ i. not (same_incarnation i (record { tuple = t; client = client }))) x.unknown
      else x.unknown;
}

abbrev pub scene_of : Comparing → Bool → KeptScene
scene_of x is_turn = record {
  mine = x.mine;
  theirs = x.theirs;
  numbers = x.numbers;
  unknown = x.unknown;
  is_alone = x.is_alone;
  is_turn = is_turn;
  tooks = x.tooks;
  restarts = x.restarts;
}

-- what an event releases, the progress then, the need of a checkpoint, and the comparer after it
unfoldable pub settlement_of : Comparing → Bool → Settlement
unfolding settle_kept
settlement_of x is_turn = settle_kept (scene_of x is_turn) x.progress

unfoldable pub need_after : Comparing → Bool → Need
unfolding need_of settlement_of
need_after x is_turn = need_of (scene_of x is_turn) (settlement_of x is_turn).progress

unfoldable pub settle : Comparing → Bool → Comparing
unfolding settlement_of
settle x is_turn = record x {
  progress = (settlement_of x is_turn).progress;
  tooks = [];
  restarts = [];
}

-- a capture keeps the numbers of the current openings alone
unfoldable pub capture : Comparing → Comparing
capture x = record x {
  numbers = thin x.numbers x.mine;
  unknown = filter (is_current x.mine) x.unknown;
}

-- At an acknowledgement the current openings are a new restart record, and the node's own lines are
-- from then on what it knows of the other's; all numbers are known, and ages are counted anew.
unfoldable pub acknowledge : Comparing → Comparing
acknowledge x = record x {
  mine = commit_tracking x.mine;
  theirs = commit_tracking x.mine;
  unknown = [];
  progress = clear_ages x.progress;
}

abbrev pub leave_alone : Comparing → Comparing
leave_alone x = record x { is_alone = true }
