-- Segments as frames.
use Rattle.std.proofs.Common.{◌≡◌, ℕ, List, Option, Some, None, refl, arith}
use Rattle.std.specs.Prelude.{IsSome}
use Rattle.inet_frame.specs.Counted.{tcp_in}
use Rattle.inet_frame.specs.Fields.{TcpFields}
use Rattle.inet_frame.proofs.FieldLemmas.{length_fits}
use Rattle.state_wire.specs.Guest.{IsFrame}

-- a segment is a frame
frame_by : (frame : List ℕ) (o : Option TcpFields) → tcp_in frame ≡ o → IsSome o → IsFrame frame
frame_by frame None e some = absurd cc
frame_by frame (Some t) e some =
    let fits = length_fits frame t e in record { from = omega (arith, fits.0); to = fits.1 }

pub frame_fits : (frame : List ℕ) → IsSome (tcp_in frame) → IsFrame frame
frame_fits frame some = frame_by frame (tcp_in frame) refl some
