-- What a tracker holds after a list of calls: the lines, the order and the restarts of all that was
-- sent, without the trimmed symbols.
use Rattle.std.specs.Prelude.{◌≡◌, ℕ, ◌≤◌, true, List, slice_get, fold, filter_map, Option, None, Some}
use Rattle.std.specs.Map.{keys_of}
use Rattle.std.specs.Option.{option_map}
use Rattle.inet_frame.specs.Counted.{counted, tuple_of}
use Rattle.inet_frame.specs.Fields.{TcpFields}
use Rattle.inet_frame.specs.declared.tuple.Tuple.{Tuple}
use Rattle.tcp_track.specs.Segments.{Symbol, is_near, is_refusal, may_open, symbols_in}
use Rattle.tcp_track.specs.Stands.{opening_of, acked_in, Stands, ResetStands, RefusalStands}
use Rattle.tcp_track.specs.Lines.{Item, sent, trim, commit, Line, no_line, line, sent_of, order}
use Rattle.tcp_track.specs.LineFields.{LineFields, IsKept}
use Rattle.tcp_track.specs.Restarts.{is_restart}
use Rattle.tcp_track.specs.Tracking.{Tracking, nothing_tracked, line_at, what_of, took_of, taken, trim_tracking, commit_tracking}
use Rattle.tcp_track.specs.declared.answers.Took.{Took}
use Rattle.tcp_track.specs.declared.openings.Opening.{Opening}

-- a call that changes a tracker
pub data Call : Type 0 where
  takes : List ℕ → Call
  trims : Tuple → ℕ → ℕ → Call
  commits : Call

abbrev pub call_after : Tracking → Call → Tracking
call_after tracking (takes frame) = taken tracking frame
call_after tracking (trims t client to) = trim_tracking tracking t client to
call_after tracking commits = commit_tracking tracking

-- what a new tracker holds after a list of calls
abbrev pub tracking_of : List Call → Tracking
tracking_of calls = fold call_after nothing_tracked calls

-- the item that a call leaves: none for a frame that doesn't count
abbrev pub item_of : Call → Option Item
item_of (takes frame) = option_map sent (counted frame)
item_of (trims t client to) = Some (trim t client to)
item_of commits = Some commit

abbrev pub items_of : List Call → List Item
items_of calls = filter_map item_of calls

-- what is held of a line; nothing of one that was neither opened nor refused
abbrev pub IsHeld : Line → Option LineFields → Type 0
IsHeld l None = l ≡ no_line
IsHeld l (Some kept) = IsKept l kept

-- Each tuple's line is that of all segments sent, without the trimmed symbols.
abbrev pub KeepsLines : Type 0
KeepsLines = (calls : List Call) (t : Tuple) → IsHeld (line t (items_of calls)) (line_at
    (tracking_of calls) t)

-- The entries stand in the order of first opening or refusal.
abbrev pub KeepsOrder : Type 0
KeepsOrder = (calls : List Call) → keys_of (tracking_of calls).entries ≡ order (items_of calls)

-- what a segment is after these items
unfoldable pub took_after : List Item → TcpFields → Took
unfolding line is_restart what_of is_refusal may_open symbols_in is_near
took_after items s = record {
  tuple = tuple_of s;
  what = what_of (line (tuple_of s) items).opening (is_restart items s) s;
}

-- A frame that counts is answered as all that was sent before says.
abbrev pub AnswersRightly : Type 0
AnswersRightly = (calls : List Call) (frame : List ℕ) (s : TcpFields) → counted frame ≡ Some s →
    took_of (tracking_of calls) frame ≡ took_after (items_of calls) s

-- WHAT A LINE SAYS STANDS IN WHAT WAS SENT

abbrev pub HasCurrentOpening : Type 0
HasCurrentOpening = (items : List Item) (t : Tuple) →
    opening_of t (sent_of items) ≡ (line t items).opening

abbrev pub SymbolsStand : Type 0
SymbolsStand =
    (items : List Item) (t : Tuple) (o : Opening) (offset : ℕ) (x : Symbol) →
    (line t items).opening ≡ Some o
    → slice_get (line t items).symbols offset ≡ Some x → Stands (sent_of items) t o.client offset x

abbrev pub AckedWasSent : Type 0
AckedWasSent = (items : List Item) (t : Tuple) (o : Opening) → (line t items).opening ≡ Some o →
    (line t items).acked ≤ acked_in (sent_of items) t o.client

abbrev pub ResetsStand : Type 0
ResetsStand = (items : List Item) (t : Tuple) (o : Opening) → (line t items).opening ≡ Some o →
    (line t items).reset ≡ true → ResetStands (sent_of items) t o.client

abbrev pub RefusalsStand : Type 0
RefusalsStand = (items : List Item) (t : Tuple) (client : ℕ) →
    (line t items).refused ≡ Some client → RefusalStands (sent_of items) t client
