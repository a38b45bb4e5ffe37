-- What a segment of the node's own guest changes beside its line.
use Rattle.std.specs.Prelude.{ℕ, Bool, true, false, is_some, if◌then◌else◌, List, Option, None, Some}
use Rattle.inet_frame.specs.declared.tuple.Tuple.{Tuple}
use Rattle.tcp_track.specs.Tracking.{insert_incarnation}
use Rattle.tcp_track.specs.declared.answers.Took.{Took}
use Rattle.tcp_track.specs.declared.answers.What.{What}
use Rattle.tcp_track.specs.declared.answers.What.TheVariants.{Ignored, Opened, Restarted, Symbols, Reset, Refused}
use Rattle.tcp_track.specs.declared.openings.Incarnation.{Incarnation}
use Rattle.tcp_track.specs.declared.openings.Opening.{Opening}
use Rattle.seq_rewriter.specs.Kept.{KeptNumbers, keep_number, number_of}
use Rattle.settle_rules.specs.OwnFrames.{progress_with}
use Rattle.settle_rules.specs.Progress.{ProgressTable}
use Rattle.settle_table.specs.Table.{progress_at, set_progress}

-- the opening that a segment makes
abbrev pub opening_made : What → Option Opening
opening_made Ignored = None
opening_made (Opened o) = Some o
opening_made (Restarted o) = Some o
opening_made (Symbols _ _) = None
opening_made Reset = None
opening_made (Refused _) = None

abbrev pub number_with : KeptNumbers → Tuple → Option Opening → KeptNumbers
number_with numbers t None = numbers
number_with numbers t (Some o) = keep_number numbers t o.client o.own

-- the number of an opening is kept where none is kept for its client
abbrev pub note_number : KeptNumbers → Took → KeptNumbers
note_number numbers took = number_with numbers took.tuple (opening_made took.what)

abbrev pub unknown_with :
    KeptNumbers → List Incarnation → Tuple → Option Opening → List Incarnation
unknown_with numbers unknown t None = unknown
unknown_with numbers unknown t (Some o) =
    if is_some (number_of numbers t o.client) then unknown
    else insert_incarnation unknown (record { tuple = t; client = o.client })

abbrev pub number_if_new : Option ℕ → Opening → Option ℕ
number_if_new None o = Some o.own
number_if_new (Some kept) o = None

abbrev pub number_made : KeptNumbers → Tuple → Option Opening → Option ℕ
number_made numbers t None = None
number_made numbers t (Some o) = number_if_new (number_of numbers t o.client) o

-- the number that a segment makes newly kept
abbrev pub new_number : KeptNumbers → Took → Option ℕ
new_number numbers took = number_made numbers took.tuple (opening_made took.what)

-- and the other node is not known to have it
abbrev pub note_unknown : KeptNumbers → List Incarnation → Took → List Incarnation
note_unknown numbers unknown took =
    unknown_with numbers unknown took.tuple (opening_made took.what)

-- a segment that changes the progress of its connection
abbrev pub is_noted : What → Bool
is_noted Ignored = false
is_noted (Opened _) = true
is_noted (Restarted _) = true
is_noted (Symbols _ _) = false
is_noted Reset = true
is_noted (Refused _) = true

abbrev pub note_progress : ProgressTable → Took → ProgressTable
note_progress table took =
    if is_noted took.what
    then set_progress table took.tuple
    (progress_with took.what (progress_at table took.tuple))
    else table
