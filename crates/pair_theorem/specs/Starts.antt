-- Which starts there are: a boot of two guests of one kind in one state of bytes.
use Rattle.std.specs.Prelude.{ℕ, All, List}
use Rattle.shared_definitions.specs.Bytes.{AreBytes}
use Rattle.state_wire.specs.Guest.{GuestState, Kind}
use Rattle.state_wire.specs.Regular.{FitsKind, GuestBytes, IsRegular}
use Rattle.pair_theorem.specs.Past.{Start, boot}

-- The kind's turns lead from states of bytes with its sizes to such states, and send bytes; the
-- first state is one, and the client's frames are bytes. A generation that begins with a survivor
-- and a newcomer is no start yet.
pub data IsStart : Start → Type 0 where
  boots : (kind : Kind) (stream : List (List ℕ)) (state : GuestState) (m n : ℕ) → IsRegular kind
      → FitsKind kind state → GuestBytes state → All AreBytes stream
      → IsStart (boot kind stream state m n)
