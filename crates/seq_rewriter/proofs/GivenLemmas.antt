-- A raised frame and its fields.
use Rattle.std.proofs.Common.{◌≡◌, ℕ, List, length, Option, None, Some, refl, sym, ap}
use Rattle.std.specs.Option.{option_map, option_and_then}
use Rattle.shared_definitions.specs.Bytes.{AreBytes}
use Rattle.inet_frame.specs.Counted.{tcp_in}
use Rattle.inet_frame.specs.Fields.{TcpFields}
use Rattle.inet_build.specs.Edit.{shift_ack_fields}
use Rattle.inet_build.proofs.EditLemmas.{AreBytes-shift_ack}
use Rattle.inet_build.proofs.LawLemmas.{shift_keeps}
use Rattle.tcp_track.specs.declared.openings.Opening.{Opening}
use Rattle.seq_rewriter.specs.Given.{raise_in, raise_ack, raise_ack_fields, raise_frame, raise_fields}
use Rattle.seq_rewriter.specs.Laws.{RaisesAck}

-- where an acknowledgement is raised, the fields are those of a shifted frame
pub fields_raised : (seen current : Option Opening) (o : Option TcpFields) (by : ℕ) →
    option_and_then (raise_in seen current) o ≡ Some by → option_map (shift_ack_fields by) o
    ≡ option_map (raise_fields seen current) o
fields_raised seen current None by h = refl
fields_raised seen current (Some t) by h = ap (λ (r : Option ℕ). Some (raise_ack_fields t r)) (sym h)

-- where none is, they stay
pub fields_same : (seen current : Option Opening) (o : Option TcpFields) →
    option_and_then (raise_in seen current) o ≡ None → o ≡ option_map (raise_fields seen current) o
fields_same seen current None h = refl
fields_same seen current (Some t) h = ap (λ (r : Option ℕ). Some (raise_ack_fields t r)) (sym h)

Keeps : List ℕ → TcpFields → Option ℕ → Type 0
Keeps b t r =
    AreBytes (raise_ack b r) × (tcp_in (raise_ack b r) ≡ Some (raise_ack_fields t r)) × (length (raise_ack b r)
    ≡ length b)

keeps : (b : List ℕ) (t : TcpFields) (r : Option ℕ) → AreBytes b → tcp_in b ≡ Some t → Keeps b t r
unfolding Keeps
keeps b t None bytes is = (bytes, is, refl)
keeps b t (Some by) bytes is =
    let kept = shift_keeps b by t bytes is in
    (AreBytes-shift_ack b by bytes, kept.0, kept.1)

pub raises_ack : RaisesAck
unfolding raise_frame Keeps
raises_ack b seen current t bytes is =
    let raise : option_and_then (raise_in seen current) (tcp_in b) ≡ raise_in seen current t =
    ap (λ (o : Option TcpFields). option_and_then (raise_in seen current) o) is in
    let k = keeps b t (raise_in seen current t) bytes is in
    let frame : raise_ack b (option_and_then (raise_in seen current) (tcp_in b))
    ≡ raise_ack b (raise_in seen current t) = ap (raise_ack b) raise in
    rw frame k
