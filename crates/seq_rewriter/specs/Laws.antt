-- What holds of kept numbers and of given frames, also where no call has them in hand.
use Rattle.std.specs.Prelude.{◌≡◌, ℕ, false, if◌then◌else◌, List, ◌∷◌, [], ◌++◌, unwrap_or, length, Option, None, Some}
use Rattle.shared_definitions.specs.Bytes.{AreBytes}
use Rattle.inet_frame.specs.Counted.{tcp_in}
use Rattle.inet_frame.specs.Fields.{TcpFields}
use Rattle.inet_frame.specs.declared.tuple.Tuple.{Tuple}
use Rattle.tcp_track.specs.Stands.{is_of_client}
use Rattle.tcp_track.specs.Tracking.{Tracking, same_incarnation, current_at}
use Rattle.tcp_track.specs.declared.openings.Incarnation.{Incarnation}
use Rattle.tcp_track.specs.declared.openings.Opening.{Opening}
use Rattle.seq_rewriter.specs.Kept.{Event, opened, thinned, kept_numbers, number_of, lookup_number}
use Rattle.seq_rewriter.specs.Given.{raise_frame, raise_fields}

-- after an opening the first number of its client is kept
abbrev pub OpeningKeepsFirst : Type 0
OpeningKeepsFirst =
    (events : List Event) (t : Tuple) (client number : ℕ) →
    number_of (kept_numbers (events ++ opened t client number ∷ [])) t client
    ≡ Some (unwrap_or (number_of (kept_numbers events) t client) number)

-- and the numbers of all others are as they were
abbrev pub OpeningKeepsOthers : Type 0
OpeningKeepsOthers =
    (events : List Event) (t : Tuple) (client number : ℕ) (other : Incarnation) →
    same_incarnation other (record { tuple = t; client = client }) ≡ false →
    lookup_number (kept_numbers (events ++ opened t client number ∷ [])) other
    ≡ lookup_number (kept_numbers events) other

-- after a thinning the numbers of the current openings are as they were, and there are no others
abbrev pub ThinningKeepsCurrent : Type 0
ThinningKeepsCurrent =
    (events : List Event) (tracking : Tracking) (t : Tuple) (client : ℕ) →
    number_of (kept_numbers (events ++ thinned tracking ∷ [])) t client
    ≡ (if is_of_client (current_at tracking t) client
    then number_of (kept_numbers events) t client else None)

-- a raised frame of bytes is bytes, of the same length, and parses with all but its acknowledgement
-- unchanged
abbrev pub RaisesAck : Type 0
RaisesAck =
    (b : List ℕ) (seen current : Option Opening) (t : TcpFields) → AreBytes b → tcp_in b ≡ Some t →
    AreBytes (raise_frame b seen current)
    × (tcp_in (raise_frame b seen current) ≡ Some (raise_fields seen current t))
    × (length (raise_frame b seen current) ≡ length b)
