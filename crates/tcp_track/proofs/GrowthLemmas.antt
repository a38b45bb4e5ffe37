-- A line that grew by a segment is within the bounds.
use Rattle.std.proofs.Common.{◌≡◌, ℕ, ◌+◌, ◌-◌, ◌<◌, ◌≤◌, Bool, true, false, ◌&&◌, not, nat_le, max, if◌then◌else◌, List, length, map, refl, ◌∙◌, arith, length-append}
use Rattle.std.proofs.lemmas.Bool.{and_parts, leb-true}
use Rattle.std.proofs.lemmas.Bool.Decides.{nat_tests}
use Rattle.std.proofs.lemmas.List.{length-map}
use Rattle.inet_frame.specs.Fields.{TcpFields}
use Rattle.inet_frame.specs.Flags.{has_fin, has_syn}
use Rattle.tcp_track.specs.declared.offsets.TheConstants.{OFFSET_BOUND}
use Rattle.tcp_track.specs.Segments.{byte, fin_if, start_of, is_near, payload_symbols}
use Rattle.tcp_track.specs.LineFields.{LineFields, bytes_end, grows}

length-fin_if : (b : Bool) → length (fin_if b) ≡ (if b then 1 else 0)
length-fin_if true = refl
length-fin_if false = refl

pub length-payload_symbols : (s : TcpFields) → length (payload_symbols s)
    ≡ length s.payload + (if has_fin s.flags then 1 else 0)
length-payload_symbols s = length-append (map byte s.payload) (fin_if (has_fin s.flags))
    ∙ (λ i. length-map s.payload byte i + length-fin_if (has_fin s.flags) i)

pub near_fits : (own : ℕ) (s : TcpFields) → is_near own s ≡ true →
    start_of own s + (length s.payload + (if has_fin s.flags then 1 else 0)) < OFFSET_BOUND
unfolding is_near
near_fits own s h = rw (← length-payload_symbols s) (grind (arith, nat_tests, h))

-- bytes and a FIN, known up to the line's end, that end below the bound
pub growth_fits : (l : LineFields) (own : ℕ) (s : TcpFields) (new : List ℕ) (ends : Bool) → grows l own s ≡ true →
    bytes_end l - start_of own s ≤ length s.payload
    → length new ≡ length l.bytes + (length s.payload - (bytes_end l - start_of own s)) → ends ≡ has_fin s.flags →
    max l.base 1 + length new + (if ends then 1 else 0) < OFFSET_BOUND
growth_fits l own s new ends h known len is =
    let tests = (and_parts (is_near own s) (not l.fin && nat_le (start_of own s) (bytes_end l)) (and_parts (not
    (has_syn s.flags)) _ h).1) in
    let near = near_fits own s tests.0 in
    let low = leb-true (start_of own s) (bytes_end l) (and_parts (not l.fin) _ tests.1).1 in
    rw is (omega (arith, near, low, len, known))
