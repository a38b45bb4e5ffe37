-- A client's segment as a guest is given it: a client that knows the connection under another
-- number than the guest's own has its acknowledgement raised by the difference (RFC 9293, 3.4).
use Rattle.std.specs.Prelude.{ℕ, ◌==◌, if◌then◌else◌, List, Option, None, Some}
use Rattle.std.specs.Option.{option_and_then}
use Rattle.inet_frame.specs.Counted.{tcp_in, client_tuple_of}
use Rattle.inet_frame.specs.Fields.{TcpFields}
use Rattle.inet_frame.specs.Flags.{has_ack}
use Rattle.inet_build.specs.Edit.{shift_ack, shift_ack_fields, clean_syn}
use Rattle.tcp_track.specs.Offsets.{distance}
use Rattle.tcp_track.specs.Stands.{opening_of}
use Rattle.tcp_track.specs.declared.openings.Opening.{Opening}

-- the guest's own number less the one seen, modulo 2^32, where both openings are of one client
abbrev pub raise_of : Option Opening → Option Opening → Option ℕ
raise_of None current = None
raise_of (Some seen) None = None
raise_of (Some seen) (Some current) =
    if current.client == seen.client then Some (distance seen.own current.own) else None

-- by how much a segment's acknowledgement is raised, where it has one
abbrev pub raise_in : Option Opening → Option Opening → TcpFields → Option ℕ
raise_in seen current t = if has_ack t.flags then raise_of seen current else None

abbrev pub raise_ack : List ℕ → Option ℕ → List ℕ
raise_ack b None = b
raise_ack b (Some by) = shift_ack b by

-- a clean frame as it is given to a guest with this current opening of its tuple
unfoldable pub raise_frame : List ℕ → Option Opening → Option Opening → List ℕ
raise_frame b seen current = raise_ack b (option_and_then (raise_in seen current) (tcp_in b))

abbrev pub raise_ack_fields : TcpFields → Option ℕ → TcpFields
raise_ack_fields t None = t
raise_ack_fields t (Some by) = shift_ack_fields by t

-- the fields of the given frame
abbrev pub raise_fields : Option Opening → Option Opening → TcpFields → TcpFields
raise_fields seen current t = raise_ack_fields t (raise_in seen current t)

abbrev pub opening_for : Option TcpFields → List TcpFields → Option Opening
opening_for None sent = None
opening_for (Some t) sent = opening_of (client_tuple_of t) sent

-- the given frame: a client's frame for a guest that has sent these segments, clean and raised
unfoldable pub given_frame : List ℕ → Option Opening → List TcpFields → List ℕ
given_frame b seen sent = raise_frame (clean_syn b) seen (opening_for (tcp_in b) sent)
