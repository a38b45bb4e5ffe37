-- What a kind of guest keeps: a turn leads from states of bytes with the right sizes to such states,
-- and sends bytes. A state as a record may hold any numbers; a guest's never does.
use Rattle.std.specs.Prelude.{◌≡◌, ℕ, All, length, Option, Some, None, List}
use Rattle.shared_definitions.specs.Bytes.{AreBytes}
use Rattle.state_wire.specs.Guest.{GuestState, GuestTurn, Kind}

-- a state of a kind: so many pages of 4,096 bytes, so many sectors of 512
pub record FitsKind (kind : Kind) (state : GuestState) : Type 0 where
  pub page_count : length state.pages ≡ kind.page_count
  pub sector_count : length state.sectors ≡ kind.sector_count
  pub pages : All (λ (page : List ℕ). length page ≡ 4096) state.pages
  pub sectors : All (λ (sector : List ℕ). length sector ≡ 512) state.sectors

-- a state whose parts are bytes
pub record GuestBytes (state : GuestState) : Type 0 where
  pub bytes : AreBytes state.bytes
  pub pages : All AreBytes state.pages
  pub sectors : All AreBytes state.sectors

-- the frame that a turn receives, if any, is bytes
abbrev pub FrameBytes : Option (List ℕ) → Type 0
FrameBytes None = Unit {0}
FrameBytes (Some frame) = AreBytes frame

-- a turn leads from bytes to bytes, and sends bytes
pub record KeepsBytes (kind : Kind) : Type 0 where
  pub next : (state : GuestState) (turn : GuestTurn) → GuestBytes state → FrameBytes turn.frame
      → GuestBytes (kind.next state turn)
  pub sent : (state : GuestState) (turn : GuestTurn) → GuestBytes state → FrameBytes turn.frame
      → All AreBytes (kind.sent state turn)

-- A kind that a guest can have: its turns lead from states of bytes with the right sizes to such
-- states, and the frames that it sends are bytes.
pub record IsRegular (kind : Kind) : Type 0 where
  pub next : (state : GuestState) (turn : GuestTurn) → FitsKind kind state → GuestBytes state
      → FrameBytes turn.frame → FitsKind kind (kind.next state turn) × GuestBytes (kind.next state turn)
  pub sent : (state : GuestState) (turn : GuestTurn) → GuestBytes state → FrameBytes turn.frame
      → All AreBytes (kind.sent state turn)
