-- What stands in what was sent goes on to stand when more is sent.
use Rattle.std.specs.Prelude.{◌≡◌, ◌≤◌, ℕ, List, ◌++◌}
use Rattle.inet_frame.specs.Fields.{TcpFields}
use Rattle.inet_frame.specs.declared.tuple.Tuple.{Tuple}
use Rattle.tcp_track.specs.Segments.{Symbol}
use Rattle.tcp_track.specs.Stands.{RefusalStands, ResetStands, Stands, acked_in}
use Rattle.pair_theorem.specs.FrameParts.{PlaceAcks, PlaceStands, clients_opened}
use Rattle.pair_theorem.specs.Places.{Place}

-- of one connection: symbols, resets and refusals that stand; the greatest acknowledgement never
-- falls, and the clients opened so far are a front of those opened then
pub record GoesOn (sent more : List TcpFields) (t : Tuple) (client : ℕ) : Type 0 where
  pub symbol : (offset : ℕ) (x : Symbol) → Stands sent t client offset x
      → Stands (sent ++ more) t client offset x
  pub reset : ResetStands sent t client → ResetStands (sent ++ more) t client
  pub refusal : RefusalStands sent t client → RefusalStands (sent ++ more) t client
  pub acked : acked_in sent t client ≤ acked_in (sent ++ more) t client
  pub clients : clients_opened t (sent ++ more) ≡ clients_opened t sent ++ clients_opened t more

abbrev pub WhatStandsGoesOn : Type 0
WhatStandsGoesOn =
    (sent more : List TcpFields) (t : Tuple) (client : ℕ) → GoesOn sent more t client

-- of a place where a segment is released: its symbols, and its acknowledgement
pub record PlaceGoesOn (sent more : List TcpFields) (p : Place) : Type 0 where
  pub stands : PlaceStands sent p → PlaceStands (sent ++ more) p
  pub acks : PlaceAcks sent p → PlaceAcks (sent ++ more) p

abbrev pub PlacesGoOn : Type 0
PlacesGoOn = (sent more : List TcpFields) (p : Place) → PlaceGoesOn sent more p
