-- What an accepted frame of a client trims.
use Rattle.std.specs.Prelude.{ℕ, List, [], ◌∷◌, Option, None, Some}
use Rattle.frame_mirror.specs.declared.ring.Waiting.{Waiting}
use Rattle.inet_frame.specs.Counted.{tcp_in, client_tuple_of}
use Rattle.inet_frame.specs.Fields.{TcpFields}
use Rattle.inet_frame.specs.Frame.{seen_of}
use Rattle.tcp_track.specs.Lines.{Item, trim}
use Rattle.tcp_track.specs.declared.openings.Opening.{Opening}

abbrev pub trim_items : Option TcpFields → Option Opening → ℕ → List Item
trim_items None seen to = []
trim_items (Some s) None to = []
trim_items (Some s) (Some o) to = trim (client_tuple_of s) o.client to ∷ []

-- what an accepted frame trims
unfoldable pub trims_by : Waiting → List Item
unfolding seen_of
trims_by w = trim_items (tcp_in w.frame) w.seen w.trim
