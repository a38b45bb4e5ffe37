-- What a comparer holds after a list of calls that answered well.
use Rattle.std.specs.Prelude.{◌≡◌, ℕ, ◌+◌, Bool, false, ◌||◌, min, if◌then◌else◌, List, ◌∷◌, ◌++◌, fold, filter, Option, None}
use Rattle.std.specs.Map.{keys_of}
use Rattle.inet_frame.specs.Counted.{counted}
use Rattle.inet_frame.specs.declared.tuple.Tuple.{Tuple}
use Rattle.tcp_track.specs.LineFields.{LineFields}
use Rattle.tcp_track.specs.Segments.{same_tuple}
use Rattle.tcp_track.specs.declared.answers.Took.{Took}
use Rattle.line_release.specs.Whole.{whole_of}
use Rattle.settle_rules.specs.Matching.{BothLines, client_or_zero}
use Rattle.settle_rules.specs.Settle.{settle_one}
use Rattle.tcp_track.specs.Laws.{IsHeld, call_after}
use Rattle.tcp_track.specs.Lines.{commit, line, order, sent_of}
use Rattle.tcp_track.specs.Stands.{segments}
use Rattle.tcp_track.specs.Tracking.{line_at}
use Rattle.settle_rules.specs.Numbers.{KeptNumber, kept_number, number_or_zero, is_known}
use Rattle.settle_rules.specs.Progress.{Progress, longest_wait}
use Rattle.settle_table.specs.Kept.{both_kept, is_number_known, whole_or_none}
use Rattle.settle_table.specs.Table.{progress_at}
use Rattle.out_compare.specs.Comparing.{Comparing, nothing_compared, scene_of, take_own, take_heard, acknowledge}
use Rattle.compare_laws.specs.Calls.{CompareCall, acknowledges, compare_calls, comparing_of, frames_heard, frames_sent, own_calls, own_items, heard_items, has_acknowledgement, numbers_of, table_of}
use Rattle.compare_laws.specs.Ages.{edge_of, sights_of, turns_waited}
use Rattle.compare_laws.specs.Progressing.{progress_from, shown_from}
use Rattle.compare_laws.specs.Starts.{Start, start_of}

-- The own lines are those of all that the guest sent, without the trimmed symbols.
abbrev pub KeepsOwnLines : Type 0
KeepsOwnLines =
    (calls : List CompareCall) (t : Tuple) →
    IsHeld (line t (own_items calls)) (line_at (comparing_of calls).mine t)

-- What the guest sent are the segments of all frames taken, one after the other.
abbrev pub TakesEachFrame : Type 0
TakesEachFrame =
    (calls : List CompareCall) → sent_of (own_items calls) ≡ segments (frames_sent calls)

-- The own entries stand in the order of first opening or refusal.
abbrev pub KeepsOwnOrder : Type 0
KeepsOwnOrder =
    (calls : List CompareCall) →
    keys_of (comparing_of calls).mine.entries ≡ order (own_items calls)

-- From any comparer on, as a survivor's, the own lines are those of a tracker that took the frames,
-- the trims and the commits.
abbrev pub GoesOn : Type 0
GoesOn =
    (x : Comparing) (calls : List CompareCall) →
    (compare_calls x calls).mine ≡ fold call_after x.mine (own_calls x calls)

-- Before any acknowledgement the known lines are those of what was heard, without the trimmed
-- symbols.
abbrev pub KnowsWhatWasHeard : Type 0
KnowsWhatWasHeard =
    (calls : List CompareCall) (t : Tuple) → has_acknowledgement calls ≡ false →
    IsHeld (line t (heard_items nothing_compared calls)) (line_at (comparing_of calls).theirs t)

-- What was heard are the segments of all frames heard, one after the other.
abbrev pub HearsEachFrame : Type 0
HearsEachFrame =
    (x : Comparing) (calls : List CompareCall) →
    sent_of (heard_items x calls) ≡ segments (frames_heard calls)

-- After the last acknowledgement they are those of what was heard since, over a copy of the own
-- ones at the acknowledgement.
abbrev pub KnowsACopy : Type 0
KnowsACopy =
    (before later : List CompareCall) (t : Tuple) → has_acknowledgement later ≡ false →
    IsHeld (line t (own_items before
    ++ commit ∷ heard_items (acknowledge (comparing_of before)) later))
    (line_at (comparing_of (before ++ acknowledges ∷ later)).theirs t)

-- The numbers are the kept numbers of all calls.
abbrev pub KeepsNumbers : Type 0
KeepsNumbers =
    (calls : List CompareCall) → (comparing_of calls).numbers ≡ table_of (numbers_of calls)

-- And the other node is known to have exactly those that it was said or acknowledged to have.
abbrev pub KnowsNumbers : Type 0
KnowsNumbers =
    (calls : List CompareCall) (is_turn : Bool) (t : Tuple) (client : ℕ) →
    is_number_known (scene_of (comparing_of calls) is_turn) t client
    ≡ is_known (kept_number t client (numbers_of calls))

-- A settling reads the kept numbers: of both lines of a tuple the number is that kept for the own
-- line's client, and known where the other node is known to have it or the node is alone; and the
-- other line is the known one, or for a node alone its own.
pub record SettlesWith (x : Comparing) (is_turn : Bool) (kept : Option KeptNumber) (t : Tuple)
    (l : LineFields) : Type 0 where
  pub number : (both_kept (scene_of x is_turn) t l).number ≡ number_or_zero kept
  pub known : (both_kept (scene_of x is_turn) t l).number_known ≡ (x.is_alone || is_known kept)
  pub mine : (both_kept (scene_of x is_turn) t l).mine ≡ whole_of l
  pub theirs : (both_kept (scene_of x is_turn) t l).theirs
      ≡ (if x.is_alone then whole_of l else whole_or_none (line_at x.theirs t))

abbrev pub SettlesWithKeptNumbers : Type 0
SettlesWithKeptNumbers =
    (calls : List CompareCall) (is_turn : Bool) (t : Tuple) (l : LineFields) →
    SettlesWith (comparing_of calls) is_turn
    (kept_number t (client_or_zero l.opening) (numbers_of calls)) t l

-- A frame that doesn't count changes nothing.
abbrev pub IgnoresOthers : Type 0
IgnoresOthers =
    (x : Comparing) (frame : List ℕ) → counted frame ≡ None →
    (take_own x frame ≡ x) × (take_heard x frame ≡ x)

-- Settling a connection reads the event's own segments of that connection alone.
abbrev pub ReadsItsOwnSegments : Type 0
ReadsItsOwnSegments =
    (b : BothLines) (p : Progress) (is_turn : Bool) (tooks : List Took) →
    settle_one b p is_turn tooks
    ≡ settle_one b p is_turn (filter (λ k. same_tuple k.tuple b.tuple) tooks)

-- From a new comparer and from a survivor's on, a connection's progress is that of its own calls:
-- what is due, what was last said, its age.
abbrev pub KeepsProgress : Type 0
KeepsProgress =
    (start : Start) (calls : List CompareCall) (t : Tuple) →
    progress_at (compare_calls (start_of start) calls).progress t
    ≡ progress_from (start_of start) t (progress_at (start_of start).progress t) calls

-- What a client was last shown is the last SYN among all that was released of the connection.
abbrev pub KeepsShown : Type 0
KeepsShown =
    (start : Start) (calls : List CompareCall) (t : Tuple) →
    (progress_at (compare_calls (start_of start) calls).progress t).shown
    ≡ shown_from (start_of start) t (progress_at (start_of start).progress t).shown calls

-- The edge is 0 at an opening, and then where the last settling took it.
abbrev pub KeepsEdges : Type 0
KeepsEdges =
    (start : Start) (calls : List CompareCall) (t : Tuple) →
    (progress_at (compare_calls (start_of start) calls).progress t).edge ≡ edge_of start t calls

-- The age is the number of turns in a row, since the last acknowledgement and up to the last turn,
-- at whose end the connection was unmatched with one client, matched end and acknowledgement. It
-- ends one past the longest wait.
abbrev pub KeepsAges : Type 0
KeepsAges =
    (start : Start) (calls : List CompareCall) (t : Tuple) →
    (progress_at (compare_calls (start_of start) calls).progress t).age
    ≡ min (turns_waited (sights_of start t calls)) (longest_wait + 1)
