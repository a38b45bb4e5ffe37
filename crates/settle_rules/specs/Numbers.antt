-- Kept numbers: the sequence number of the guest's SYN under which a client knows its connection
-- (RFC 9293, 3.4.1).
use Rattle.std.specs.Prelude.{ℕ, Bool, true, false, not, ◌&&◌, ◌==◌, if◌then◌else◌, List, [], ◌∷◌, ◌++◌, find, filter, map, Option}
use Rattle.std.specs.List.{list_any}
use Rattle.std.specs.Option.{option_map_or}
use Rattle.inet_frame.specs.Counted.{tuple_of}
use Rattle.inet_frame.specs.Fields.{TcpFields}
use Rattle.inet_frame.specs.declared.tuple.Tuple.{Tuple}
use Rattle.tcp_track.specs.Segments.{same_tuple, may_open, opening_in}
use Rattle.tcp_track.specs.Stands.{is_of_client}
use Rattle.tcp_track.specs.Lines.{Item, line}

-- the number of a client's connection, and whether the other node is known to have it
pub record KeptNumber : Type 0 where
  pub tuple : Tuple
  pub client : ℕ
  pub number : ℕ
  pub known : Bool

abbrev pub is_number_of : Tuple → ℕ → KeptNumber → Bool
is_number_of t client k = same_tuple k.tuple t && k.client == client

abbrev pub kept_number : Tuple → ℕ → List KeptNumber → Option KeptNumber
kept_number t client numbers = find (is_number_of t client) numbers

-- the number that is kept; 0 where none is
abbrev pub number_or_zero : Option KeptNumber → ℕ
number_or_zero kept = option_map_or (λ (k : KeptNumber). k.number) kept 0

abbrev pub is_known : Option KeptNumber → Bool
is_known kept = option_map_or (λ (k : KeptNumber). k.known) kept false

-- a number is kept where none was kept for this client before
abbrev pub keep_number : Tuple → ℕ → ℕ → Bool → List KeptNumber → List KeptNumber
keep_number t client number known numbers =
    if list_any (is_number_of t client) numbers then numbers
    else numbers ++ record { tuple = t; client = client; number = number; known = known } ∷ []

-- The number that an opening segment makes newly kept. A repeated SYN makes none: the number of an
-- opening that is current is kept already, since a capture keeps those of the current openings.
unfoldable pub new_number : List KeptNumber → TcpFields → List KeptNumber
unfolding may_open
new_number numbers s =
    if may_open s && not (list_any (is_number_of (tuple_of s) (opening_in s).client) numbers)
    then record {
      tuple = tuple_of s;
      client = (opening_in s).client;
      number = s.seq;
      known = false;
    } ∷ []
    else []

-- one number is known to the other node from now on, where it is the kept one
abbrev pub learn : Tuple → ℕ → ℕ → KeptNumber → KeptNumber
learn t client number k =
    if is_number_of t client k && k.number == number then record k { known = true } else k

abbrev pub learn_number : List KeptNumber → Tuple → ℕ → ℕ → List KeptNumber
learn_number numbers t client number = map (learn t client number) numbers

-- all are
abbrev pub learn_all : List KeptNumber → List KeptNumber
learn_all numbers = map (λ (k : KeptNumber). record k { known = true }) numbers

-- a capture keeps the numbers of the current openings alone
unfoldable pub thin : List Item → List KeptNumber → List KeptNumber
unfolding line
thin items numbers = filter (λ k. is_of_client (line k.tuple items).opening k.client) numbers
