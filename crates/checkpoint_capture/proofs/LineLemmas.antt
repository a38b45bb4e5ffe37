-- The message of a line has a spelling.
use Rattle.std.proofs.Common.{◌≡◌, ℕ, ◌+◌, ◌<◌, ◌^◌, Bool, ◌&&◌, if◌then◌else◌, max, is_some, unwrap_or, true, false, List, [], ◌∷◌, length, nat_lt, slice_index, Option, None, Some, refl, ap, ◌∙◌, lt-ltb, arith}
use Rattle.std.specs.Int.{w32, to_be_bytes}
use Rattle.inet_frame.specs.declared.tuple.Tuple.{Tuple}
use Rattle.tcp_track.specs.declared.offsets.TheConstants.{OFFSET_BOUND}
use Rattle.colo_wire.specs.Forms.{lengths_of, line_places}
use Rattle.colo_wire.specs.Lengths.{AllowsLength}
use Rattle.colo_wire.specs.declared.kinds.Kind.TheVariants as kind
use Rattle.colo_wire.specs.Places.{follows}
use Rattle.colo_wire.specs.Spelling.{HasSpelling, body_of, line_front, line_numbers, line_rest}
use Rattle.colo_wire.specs.declared.messages.Message.TheVariants.{Line}
use Rattle.checkpoint_form.specs.Rows.{flag_if}

-- the first byte of an offset
first_byte : (n : ℕ) → n < 2 ^ 31 → nat_lt (slice_index (to_be_bytes w32 n) 0) 128 ≡ true
first_byte n small = lt-ltb (slice_index (to_be_bytes w32 n) 0) 128 (omega (arith, small))

offsets : (m n : ℕ) → m < 2 ^ 31 → n < 2 ^ 31 → (nat_lt (slice_index (to_be_bytes w32 m) 0) 128
    && (nat_lt (slice_index (to_be_bytes w32 n) 0) 128 && true)) ≡ true
offsets m n h k =
    ap (λ (b : Bool). b && (nat_lt (slice_index (to_be_bytes w32 n) 0) 128 && true)) (first_byte m h) ∙
    ap (λ (b : Bool). b && true) (first_byte n k)

-- ---- the bytes stand at their places: of a line without an opening, and of one with an opening

closed_places : (t : Tuple) (a b c d e f : ℕ) (refused : Option ℕ) → follows line_places 0
    (body_of (Line t (a ∷ b ∷ c ∷ d ∷ e ∷ f ∷ []) (flag_if 4 (is_some refused)) 0 0 0 (unwrap_or refused 0) 0 0 0 0))
    ≡ true
unfolding line_front line_numbers line_rest
closed_places t a b c d e f (Some n) = refl
closed_places t a b c d e f None = refl

opened_places : (t : Tuple) (a b c d e f client own number acked window mss base : ℕ) (refused : Option ℕ)
    (reset fin : Bool) → acked < 2 ^ 31 → base < 2 ^ 31 → follows line_places 0
    (body_of (Line t (a ∷ b ∷ c ∷ d ∷ e ∷ f ∷ [])
    (1 + flag_if 2 reset + flag_if 4 (is_some refused) + flag_if 8 fin)
    client own number (unwrap_or refused 0) acked window mss base)) ≡ true
unfolding line_front line_numbers line_rest
opened_places t a b c d e f client own number acked window mss base (Some n) true true h k = offsets acked base h k
opened_places t a b c d e f client own number acked window mss base (Some n) true false h k = offsets acked base h k
opened_places t a b c d e f client own number acked window mss base None true true h k = offsets acked base h k
opened_places t a b c d e f client own number acked window mss base None true false h k = offsets acked base h k
opened_places t a b c d e f client own number acked window mss base (Some n) false true h k = offsets acked base h k
opened_places t a b c d e f client own number acked window mss base (Some n) false false h k = offsets acked base h k
opened_places t a b c d e f client own number acked window mss base None false true h k = offsets acked base h k
opened_places t a b c d e f client own number acked window mss base None false false h k = offsets acked base h k

-- a line that ends below the bound begins there
pub base_within : (base : ℕ) (bytes : List ℕ) (fin : Bool) →
    max base 1 + length bytes + (if fin then 1 else 0) < OFFSET_BOUND → base < 2 ^ 31
base_within base bytes fin within = omega (arith, within)

-- ---- whatever the MAC

body_length : (t : Tuple) (a b c d e f flags client own number refused acked window mss base : ℕ) →
    length (body_of (Line t (a ∷ b ∷ c ∷ d ∷ e ∷ f ∷ []) flags client own number refused acked window mss base)) ≡ 43
unfolding line_front line_numbers line_rest
body_length t a b c d e f flags client own number refused acked window mss base = refl

allowed : (n : ℕ) → n ≡ 43 → AllowsLength (lengths_of kind.Line) n
allowed n e = record { from = omega (arith, e); to = omega (arith, e); stepped = omega (arith, e) }

pub closed_spelled : (t : Tuple) (mac : List ℕ) (refused : Option ℕ) → length mac ≡ 6 →
    HasSpelling (Line t mac (flag_if 4 (is_some refused)) 0 0 0 (unwrap_or refused 0) 0 0 0 0)
closed_spelled t (a ∷ b ∷ c ∷ d ∷ e ∷ f ∷ []) refused six = record {
  length = allowed _ (body_length t a b c d e f (flag_if 4 (is_some refused)) 0 0 0 (unwrap_or refused 0) 0 0 0 0);
  places = closed_places t a b c d e f refused;
}
closed_spelled t mac refused six = absurd (omega (arith, six))

pub opened_spelled : (t : Tuple) (mac : List ℕ) (client own number acked window mss base : ℕ) (refused : Option ℕ)
    (reset fin : Bool) → length mac ≡ 6 → acked < 2 ^ 31 → base < 2 ^ 31 →
    HasSpelling (Line t mac (1 + flag_if 2 reset + flag_if 4 (is_some refused) + flag_if 8 fin)
    client own number (unwrap_or refused 0) acked window mss base)
opened_spelled t (a ∷ b ∷ c ∷ d ∷ e ∷ f ∷ []) client own number acked window mss base refused reset fin six h k =
    record {
      length = allowed _ (body_length t a b c d e f
          (1 + flag_if 2 reset + flag_if 4 (is_some refused) + flag_if 8 fin) client own number
          (unwrap_or refused 0) acked window mss base);
      places = opened_places t a b c d e f client own number acked window mss base refused reset fin h k;
    }
opened_spelled t mac client own number acked window mss base refused reset fin six h k = absurd (omega (arith, six))
