-- Frames of the client.
use Rattle.std.proofs.Common.{◌≡◌, ℕ, ◌≤◌, List, [], ◌++◌, append_assoc, length, Some, Result, Ok, Err, IfOk, Vec, arith}
use Rattle.std.specs.declared.alloc.AllocError.{AllocError}
use Rattle.std.specs.declared.alloc.Global.{Global}
use Rattle.std.specs.List.{slice_range}
use Rattle.inet_frame.specs.Counted.{tcp_in}
use Rattle.inet_frame.specs.Fields.{TcpFields}
use Rattle.inet_frame.proofs.FrameLemmas.{tcp_in_facts}
use Rattle.input_maker.specs.Client.{exchange_ends, swap_parts}

-- a segment has an Ethernet header, an IPv4 header and ports
pub segment_has_ports : (frame : List ℕ) (t : TcpFields) → tcp_in frame ≡ Some t → 38 ≤ length frame
segment_has_ports frame t is =
    let facts = (tcp_in_facts frame t is).0 in
    omega (arith, facts.holds.after_ip, facts.holds.header, facts.holds.payload, facts.holds.within)

pub built_has_ports : (r : Result (Vec ℕ Global) AllocError) (t : TcpFields)
    → IfOk r (λ frame. tcp_in frame.items ≡ Some t) → IfOk r (λ frame. 38 ≤ length frame.items)
built_has_ports (Ok frame) t is = segment_has_ports frame.items t is
built_has_ports (Err fault) t is = tt

-- five parts, one after another
pub five_parts : (x y z u v w a b c d e : List ℕ) → x ≡ [] → y ≡ x ++ a → z ≡ y ++ b → u ≡ z ++ c → v ≡ u ++ d
    → w ≡ v ++ e → w ≡ a ++ (b ++ (c ++ (d ++ e)))
five_parts x y z u v w a b c d e ex ey ez eu ev ew = rw (ew, ev, eu, ez, ey, ex) (simp append_assoc)

pub ends_are : (frame other : List ℕ)
    → other ≡ swap_parts frame 0 6 12 ++ (slice_range frame 12 26 ++ (swap_parts frame 26 30 34
    ++ (swap_parts frame 34 36 38 ++ slice_range frame 38 (length frame)))) → other ≡ exchange_ends frame
unfolding exchange_ends
ends_are frame other is = is
