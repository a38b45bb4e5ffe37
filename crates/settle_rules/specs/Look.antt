-- What a client has seen of its connection, and what its acknowledgement trims (RFC 9293, 3.10.7).
use Rattle.std.specs.Prelude.{ℕ, ◌&&◌, nat_le, if◌then◌else◌, Option, None, Some}
use Rattle.inet_frame.specs.Fields.{TcpFields}
use Rattle.inet_frame.specs.Flags.{has_ack}
use Rattle.tcp_track.specs.Offsets.{distance}
use Rattle.tcp_track.specs.Stands.{is_of_client}
use Rattle.tcp_track.specs.declared.openings.Opening.{Opening}

-- the opening shown on the tuple, and how far the acknowledgement trims
pub record Look : Type 0 where
  pub seen : Option Opening
  pub trim : ℕ

-- from 1 to the edge, with ACK, where the accepting node's current opening has the shown client
abbrev pub trim_of : TcpFields → ℕ → Opening → Option Opening → ℕ
trim_of s edge shown current =
    if has_ack s.flags && (nat_le 1 (distance shown.own s.ack)
    && (nat_le (distance shown.own s.ack) edge && is_of_client current shown.client))
    then distance shown.own s.ack else 0

abbrev pub look_with : TcpFields → ℕ → Option Opening → Option Opening → Look
look_with s edge None current = record { seen = None; trim = 0 }
look_with s edge (Some shown) current =
    record { seen = Some shown; trim = trim_of s edge shown current }
