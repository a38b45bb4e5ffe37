-- What a tracker holds, and what each call leaves and answers.
use Rattle.std.specs.Prelude.{ℕ, ◌+◌, Bool, ◌&&◌, ◌||◌, ◌==◌, is_some, if◌then◌else◌, List, [], ◌∷◌, ◌++◌, length, map, slice_get, unwrap_or, Option, None, Some}
use Rattle.std.specs.List.{list_any}
use Rattle.std.specs.Map.{lookup, set_value}
use Rattle.std.specs.Option.{option_map}
use Rattle.inet_frame.specs.Counted.{counted, tuple_of}
use Rattle.inet_frame.specs.Fields.{TcpFields}
use Rattle.inet_frame.specs.Flags.{has_rst}
use Rattle.inet_frame.specs.declared.tuple.Tuple.{Tuple}
use Rattle.tcp_track.specs.Segments.{Symbol, same_tuple, may_open, opens_anew, opening_in, is_refusal, refused_in, symbols_in, start_of}
use Rattle.tcp_track.specs.Stands.{is_of_client}
use Rattle.tcp_track.specs.LineFields.{LineFields, no_fields, fields_after, fields_trimmed}
use Rattle.tcp_track.specs.declared.openings.Opening.{Opening}
use Rattle.tcp_track.specs.declared.openings.Incarnation.{Incarnation}
use Rattle.tcp_track.specs.declared.table.Entry.{Entry}
use Rattle.tcp_track.specs.declared.answers.What.{What}
use Rattle.tcp_track.specs.declared.answers.What.TheVariants.{Ignored, Opened, Restarted, Symbols, Reset, Refused}
use Rattle.tcp_track.specs.declared.answers.Took.{Took}

abbrev pub no_entry : Entry
no_entry = record { line = no_fields; at_commit = None }

-- the entries in table order, and the clients whose connections were opened since the last commit
pub record Tracking : Type 0 where
  pub entries : List (Tuple × Entry)
  pub since : List Incarnation

abbrev pub nothing_tracked : Tracking
nothing_tracked = record { entries = []; since = [] }

abbrev pub entry_of : List (Tuple × Entry) → Tuple → Option Entry
entry_of entries t = lookup (same_tuple t) entries

abbrev pub entry_or_none : List (Tuple × Entry) → Tuple → Entry
entry_or_none entries t = unwrap_or (entry_of entries t) no_entry

-- the line of a tuple, where it has an entry
abbrev pub line_at : Tracking → Tuple → Option LineFields
line_at tracking t = option_map (λ e. e.line) (entry_of tracking.entries t)

-- the tuple and the line of an entry, by its place in table order
abbrev pub entry_at : Tracking → ℕ → Option (Tuple × LineFields)
entry_at tracking k = option_map (λ e. (e.0, e.1.line)) (slice_get tracking.entries k)

-- a tuple's entry is set, last where there is none yet
abbrev pub put_entry : List (Tuple × Entry) → Tuple → Entry → List (Tuple × Entry)
put_entry entries t e = if is_some (entry_of entries t) then set_value
    (same_tuple t) entries e else entries ++ (t, e) ∷ []

abbrev pub same_incarnation : Incarnation → Incarnation → Bool
same_incarnation a b = same_tuple a.tuple b.tuple && a.client == b.client

-- an opening of this client would be a restart
abbrev pub is_known_client : Tracking → Tuple → ℕ → Bool
is_known_client tracking t client = list_any (same_incarnation
    (record { tuple = t; client = client })) tracking.since || is_of_client
    (entry_or_none tracking.entries t).at_commit client

-- the symbols that a segment carries, by the offsets of the first and after the last, 0 and 0 where
-- it carries none
abbrev pub span_of : ℕ → List Symbol → What
span_of from [] = Symbols 0 0
span_of from (x ∷ xs) = Symbols from (from + length (x ∷ xs))

abbrev pub span_in : Option Opening → TcpFields → What
span_in None s = Ignored
span_in (Some o) s = span_of (start_of o.own s) (symbols_in o.own s)

-- what a segment is on a tuple with this opening
unfoldable pub what_of : Option Opening → Bool → TcpFields → What
what_of current known s =
    if is_refusal s then Refused (refused_in s)
    else (if has_rst s.flags then (if is_some current then Reset else Ignored)
    else (if opens_anew current s then (if known then Restarted (opening_in s) else Opened
    (opening_in s))
    else span_in current s))

abbrev pub current_at : Tracking → Tuple → Option Opening
current_at tracking t = (entry_or_none tracking.entries t).line.opening

-- what a segment is to a tracker
unfoldable pub what_in : Tracking → TcpFields → What
unfolding what_of
what_in tracking s = what_of (current_at tracking (tuple_of s)) (is_known_client tracking
    (tuple_of s) (opening_in s).client) s

abbrev pub no_tuple : Tuple
no_tuple = record { addr = 0; port = 0; guest = 0 }

abbrev pub took_in : Tracking → Option TcpFields → Took
took_in tracking None = record { tuple = no_tuple; what = Ignored }
took_in tracking (Some s) = record { tuple = tuple_of s; what = what_in tracking s }

-- what `take` answers of a frame
abbrev pub took_of : Tracking → List ℕ → Took
took_of tracking frame = took_in tracking (counted frame)

-- the entries after a segment on a tuple: an entry is made by an opening or a refusal
abbrev pub entries_after : List (Tuple × Entry) → Tuple → TcpFields → List (Tuple × Entry)
entries_after entries t s = let e = entry_or_none entries t in if is_some (entry_of entries t) ||
    (may_open s || is_refusal s) then put_entry entries t
    (record e { line = fields_after e.line s }) else entries

abbrev pub insert_incarnation : List Incarnation → Incarnation → List Incarnation
insert_incarnation since i = if list_any (same_incarnation i) since then since else since ++ i ∷ []

abbrev pub since_after : Tracking → TcpFields → List Incarnation
since_after tracking s = if opens_anew (current_at tracking
    (tuple_of s)) s then insert_incarnation tracking.since (record {
      tuple = tuple_of s;
      client =
          (opening_in s).client;
    }) else tracking.since

-- what a segment leaves
unfoldable pub tracking_after : Tracking → TcpFields → Tracking
unfolding fields_after
tracking_after tracking s = record {
  entries = entries_after tracking.entries
      (tuple_of s) s;
  since = since_after tracking s;
}

abbrev pub tracking_with : Tracking → Option TcpFields → Tracking
tracking_with tracking None = tracking
tracking_with tracking (Some s) = tracking_after tracking s

-- what `take` leaves
abbrev pub taken : Tracking → List ℕ → Tracking
taken tracking frame = tracking_with tracking (counted frame)

abbrev pub trim_entry : Option Entry → List (Tuple × Entry) → Tuple → ℕ → ℕ → List (Tuple × Entry)
trim_entry None entries t client to = entries
trim_entry (Some e) entries t client to = put_entry entries t
    (record e { line = fields_trimmed e.line client to })

-- what `trim` leaves
unfoldable pub trim_tracking : Tracking → Tuple → ℕ → ℕ → Tracking
unfolding fields_trimmed
trim_tracking tracking t client to = record tracking {
  entries = trim_entry
      (entry_of tracking.entries t) tracking.entries t client to;
}

-- what `put` leaves
abbrev pub with_line : Tracking → Tuple → LineFields → Tracking
with_line tracking t line = record tracking {
  entries = put_entry tracking.entries t (record
      (entry_or_none tracking.entries t) { line = line });
}

-- the current opening becomes that of the commit
abbrev pub commit_entry : Tuple × Entry → Tuple × Entry
commit_entry x = (x.0, record x.1 { at_commit = x.1.line.opening })

-- what `commit` leaves: no opening was made since
abbrev pub commit_tracking : Tracking → Tracking
commit_tracking tracking = record { entries = map commit_entry tracking.entries; since = [] }
