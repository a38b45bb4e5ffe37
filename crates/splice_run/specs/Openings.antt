-- The current openings of a guest's connections, as they are known while it sends.
use Rattle.std.specs.Prelude.{◌≡◌, ℕ, List, Option, None, Some}
use Rattle.std.specs.Option.{option_and_then}
use Rattle.inet_frame.specs.Counted.{client_tuple_of}
use Rattle.inet_frame.specs.Fields.{TcpFields}
use Rattle.inet_frame.specs.declared.tuple.Tuple.{Tuple}
use Rattle.tcp_track.specs.Stands.{opening_after, opening_of, segments}
use Rattle.tcp_track.specs.declared.openings.Opening.{Opening}

-- after a frame that may count
abbrev pub opening_with : Tuple → Option Opening → Option TcpFields → Option Opening
opening_with t current None = current
opening_with t current (Some s) = opening_after t current s

-- of each connection the opening that is current among the frames sent
abbrev pub KnowsOpenings : (Tuple → Option Opening) → List (List ℕ) → Type 0
KnowsOpenings current sent = (t : Tuple) → current t ≡ opening_of t (segments sent)

-- the opening of a client's segment
abbrev pub opening_at : (Tuple → Option Opening) → Option TcpFields → Option Opening
opening_at current s = option_and_then (λ t. current (client_tuple_of t)) s
