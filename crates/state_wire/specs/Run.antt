-- A run of one guest: a left fold over its state and the frames that it has sent. So a state with
-- the frames sent by then is itself a run, and a run can start from any other.
use Rattle.std.specs.Prelude.{ℕ, List, ◌++◌, fold}
use Rattle.state_wire.specs.Guest.{GuestState, GuestTurn, Kind}

pub record Run : Type 0 where
  pub state : GuestState
  pub sent : List (List ℕ)

-- the run after one turn more
abbrev pub run_turn : Kind → Run → GuestTurn → Run
run_turn k r turn = record { state = k.next r.state turn; sent = r.sent ++ k.sent r.state turn }

-- the run after these turns
unfoldable pub run : Kind → Run → List GuestTurn → Run
run k r turns = fold (run_turn k) r turns
