-- The test guest is regular: its state is spelled as bytes, and it sends frames of its table.
use Rattle.std.proofs.Common.{ℕ, zero, suc, Option, Some, None, List, [], ◌∷◌, drop, take, All}
use Rattle.std.specs.Prelude.{slice_get, unwrap_or}
use Rattle.std.specs.Int.{w64, from_be_bytes, to_be_bytes}
use Rattle.std.proofs.lemmas.List.Elements.{All-nil, All-head, All-tail}
use Rattle.shared_definitions.specs.Bytes.{AreBytes}
use Rattle.shared_definitions.proofs.ByteLemmas.{AreBytes-append, AreBytes-drop, AreBytes-high_first}
use Rattle.state_wire.specs.Guest.{GuestState, GuestTurn}
use Rattle.state_wire.specs.Regular.{FrameBytes, GuestBytes}
use Rattle.state_wire.specs.Script.{ScriptsAreRegular, next_number, script_next}

-- the frame that the state keeps
kept_frame : (frame : Option (List ℕ)) (before : List ℕ) → FrameBytes frame → AreBytes before →
    AreBytes (unwrap_or frame before)
kept_frame None before new old = old
kept_frame (Some frame) before new old = new

next_bytes : (state : GuestState) (turn : GuestTurn) → GuestBytes state → FrameBytes turn.frame →
    GuestBytes (script_next state turn)
next_bytes state turn h frame =
    let number = next_number (from_be_bytes w64 (take 8 state.bytes)) turn.ticks in
    record {
      bytes = AreBytes-append (to_be_bytes w64 number) (unwrap_or turn.frame (drop 8 state.bytes))
          (AreBytes-high_first 8 number)
          (kept_frame turn.frame (drop 8 state.bytes) frame (AreBytes-drop 8 state.bytes h.bytes));
      pages = h.pages;
      sectors = h.sectors;
    }

row_bytes : (table : List (List (List ℕ))) (k : ℕ) → All (All AreBytes) table →
    All AreBytes (unwrap_or (slice_get table k) [])
row_bytes [] k h = All-nil AreBytes
row_bytes (row ∷ rows) zero h = All-head (All AreBytes) row rows h
row_bytes (row ∷ rows) (suc k) h = row_bytes rows k (All-tail (All AreBytes) row rows h)

pub scripts_are_regular_lem : ScriptsAreRegular
scripts_are_regular_lem table h = record {
  next = λ state turn fits bytes frame. (
    record {
      page_count = fits.page_count;
      sector_count = fits.sector_count;
      pages = fits.pages;
      sectors = fits.sectors;
    },
    next_bytes state turn bytes frame,
  );
  sent = λ state turn bytes frame. row_bytes table turn.ticks h;
}
