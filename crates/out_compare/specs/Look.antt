-- What a client has seen of its connection, and what both guests' lines hold after its
-- acknowledgement.
use Rattle.std.specs.Prelude.{ℕ, Option, None, Some}
use Rattle.inet_frame.specs.Counted.{client_tuple_of}
use Rattle.inet_frame.specs.Fields.{TcpFields}
use Rattle.inet_frame.specs.declared.tuple.Tuple.{Tuple}
use Rattle.tcp_track.specs.Tracking.{Tracking, current_at, trim_tracking}
use Rattle.tcp_track.specs.declared.openings.Opening.{Opening}
use Rattle.settle_rules.specs.Look.{trim_of}
use Rattle.settle_table.specs.Table.{progress_at}
use Rattle.out_compare.specs.Comparing.{Comparing}

-- The opening shown on the tuple, how far the acknowledgement trims, and both guests' lines then:
-- what the client has is forgotten of both.
pub record TrimmedLook : Type 0 where
  pub seen : Option Opening
  pub trim : ℕ
  pub mine : Tracking
  pub theirs : Tracking

abbrev pub trimmed_look : Tracking → Tracking → TcpFields → ℕ → Option Opening → TrimmedLook
trimmed_look mine theirs s edge None =
    record { seen = None; trim = 0; mine = mine; theirs = theirs }
trimmed_look mine theirs s edge (Some shown) =
    let to = trim_of s edge shown (current_at mine (client_tuple_of s)) in
    record {
      seen = Some shown;
      trim = to;
      mine = trim_tracking mine (client_tuple_of s) shown.client to;
      theirs = trim_tracking theirs (client_tuple_of s) shown.client to;
    }

unfoldable pub look : Comparing → TcpFields → TrimmedLook
unfolding trim_tracking
look x s =
    let p = progress_at x.progress (client_tuple_of s) in
    trimmed_look x.mine x.theirs s p.edge p.shown

abbrev pub look_after : Comparing → TcpFields → Comparing
look_after x s = record x { mine = (look x s).mine; theirs = (look x s).theirs }
