-- The test guest: what it sends is a table, and its state shows every turn that it made and the
-- last frame that it received.
use Rattle.std.specs.Prelude.{ℕ, ◌+◌, ◌*◌, ◌%◌, ◌^◌, All, Bool, true, ◌&&◌, nat_le, List, [], ◌++◌, length, take, drop, slice_get, unwrap_or}
use Rattle.std.specs.Int.{w64, from_be_bytes, to_be_bytes}
use Rattle.shared_definitions.specs.Bytes.{AreBytes}
use Rattle.state_wire.specs.Guest.{GuestState, GuestTurn, Kind, Meaning}
use Rattle.state_wire.specs.Regular.{IsRegular}

-- the table, the number, the last frame received, and the count of turns
pub record ScriptParts : Type 0 where
  pub table : List (List (List ℕ))
  pub number : ℕ
  pub frame : List ℕ
  pub turned : ℕ

-- the number after a turn
abbrev pub next_number : ℕ → ℕ → ℕ
next_number number ticks = (31 * number + ticks + 1) % 2 ^ 64

-- a state's bytes: the number's eight, big-endian, and the frame
abbrev pub script_bytes : ℕ → List ℕ → List ℕ
script_bytes number frame = to_be_bytes w64 number ++ frame

abbrev pub script_next : GuestState → GuestTurn → GuestState
script_next s turn = record s {
  bytes = script_bytes (next_number (from_be_bytes w64 (take 8 s.bytes)) turn.ticks)
      (unwrap_or turn.frame (drop 8 s.bytes));
}

-- a turn whose clock goes on by d sends the frames at place d of the table, and none past its end
abbrev pub script_sent : List (List (List ℕ)) → GuestTurn → List (List ℕ)
script_sent table turn = unwrap_or (slice_get table turn.ticks) []

abbrev pub script_accepts : List ℕ → Bool
script_accepts bytes = nat_le 8 (length bytes) && nat_le (length bytes) 1522

-- it has no pages and no sectors, and can always receive
abbrev pub script_kind : List (List (List ℕ)) → Kind
script_kind table = record {
  page_count = 0;
  sector_count = 0;
  can_receive = λ s. true;
  accepts = script_accepts;
  next = script_next;
  sent = λ s turn. script_sent table turn;
}

abbrev pub script_meaning : ScriptParts → Meaning
script_meaning g = record {
  kind = script_kind g.table;
  state = record { bytes = script_bytes g.number g.frame; pages = []; sectors = [] };
  turned = g.turned;
}

-- a test guest is regular where each frame of its table is bytes
abbrev pub ScriptsAreRegular : Type 0
ScriptsAreRegular =
    (table : List (List (List ℕ))) → All (All AreBytes) table → IsRegular (script_kind table)
