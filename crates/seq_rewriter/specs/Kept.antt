-- Kept numbers: the sequence number of the guest's SYN under which a client knows its connection
-- (RFC 9293, 3.4.1). It is the first that an opening of the connection gave, until openings that
-- are no longer current are forgotten.
use Rattle.std.specs.Prelude.{ℕ, Bool, is_some, if◌then◌else◌, List, [], ◌∷◌, ◌++◌, filter, fold, Option}
use Rattle.std.specs.Map.{lookup}
use Rattle.inet_frame.specs.declared.tuple.Tuple.{Tuple}
use Rattle.tcp_track.specs.Stands.{is_of_client}
use Rattle.tcp_track.specs.Tracking.{Tracking, same_incarnation, current_at}
use Rattle.tcp_track.specs.declared.openings.Incarnation.{Incarnation}

-- the numbers in the order in which they came, each of one connection of one client
abbrev pub KeptNumbers : Type 0
KeptNumbers = List (Incarnation × ℕ)

abbrev pub lookup_number : KeptNumbers → Incarnation → Option ℕ
lookup_number numbers i = lookup (same_incarnation i) numbers

-- the number that is kept for a client of a tuple
abbrev pub number_of : KeptNumbers → Tuple → ℕ → Option ℕ
number_of numbers t client = lookup_number numbers (record { tuple = t; client = client })

-- an opening's number is kept where none is kept for its client yet
abbrev pub keep_number : KeptNumbers → Tuple → ℕ → ℕ → KeptNumbers
keep_number numbers t client number =
    if is_some (number_of numbers t client) then numbers
    else numbers ++ (record { tuple = t; client = client }, number) ∷ []

-- the connection is that of the current opening of its tuple
abbrev pub is_current : Tracking → Incarnation → Bool
is_current tracking i = is_of_client (current_at tracking i.tuple) i.client

-- the numbers of current openings alone are kept
abbrev pub thin : KeptNumbers → Tracking → KeptNumbers
thin numbers tracking = filter (λ n. is_current tracking n.0) numbers

-- what happens to the numbers, in order
pub data Event : Type 0 where
  opened : Tuple → ℕ → ℕ → Event
  thinned : Tracking → Event

abbrev pub numbers_after : KeptNumbers → Event → KeptNumbers
numbers_after numbers (opened t client number) = keep_number numbers t client number
numbers_after numbers (thinned tracking) = thin numbers tracking

-- the numbers that are kept after a list of events
unfoldable pub kept_numbers : List Event → KeptNumbers
kept_numbers events = fold numbers_after [] events
