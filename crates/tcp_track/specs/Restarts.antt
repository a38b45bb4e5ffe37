-- Which openings are restarts: of a client that was opened since the last commit already, or whose
-- opening was current at it.
use Rattle.std.specs.Prelude.{ℕ, Bool, ◌&&◌, ◌||◌, ◌==◌, if◌then◌else◌, List, [], ◌∷◌, fold, Option, None, Some}
use Rattle.std.specs.List.{list_any}
use Rattle.inet_frame.specs.Counted.{tuple_of}
use Rattle.inet_frame.specs.Fields.{TcpFields}
use Rattle.inet_frame.specs.declared.tuple.Tuple.{Tuple}
use Rattle.tcp_track.specs.Segments.{same_tuple, opens_anew, opening_in}
use Rattle.tcp_track.specs.Stands.{is_of_client}
use Rattle.tcp_track.specs.Lines.{Item, sent, trim, commit}
use Rattle.tcp_track.specs.declared.openings.Opening.{Opening}

-- of one tuple: the current opening, that which was current at the last commit, and the clients of
-- the openings since
pub record Openings : Type 0 where
  pub current : Option Opening
  pub at_commit : Option Opening
  pub since : List ℕ

abbrev pub no_openings : Openings
no_openings = record { current = None; at_commit = None; since = [] }

unfoldable pub openings_after : Tuple → Openings → Item → Openings
openings_after t o (sent s) = if same_tuple
    (tuple_of s) t && opens_anew o.current s then record o {
      current = Some
          (opening_in s);
      since = (opening_in s).client ∷ o.since;
    } else o
openings_after t o (trim _ _ _) = o
openings_after t o commit = record { current = o.current; at_commit = o.current; since = [] }

unfoldable pub openings : Tuple → List Item → Openings
unfolding openings_after
openings t items = fold (openings_after t) no_openings items

-- an opening of this client would be a restart
abbrev pub is_known_client : Openings → ℕ → Bool
is_known_client o client = list_any (λ x. x == client) o.since || is_of_client o.at_commit client

-- a segment sent after these items is a restart
unfoldable pub is_restart : List Item → TcpFields → Bool
unfolding openings
is_restart items s = let o = openings
    (tuple_of s) items in opens_anew o.current s && is_known_client o (opening_in s).client
