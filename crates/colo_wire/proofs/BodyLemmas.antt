-- A body that may stand at the places of its kind is that of the message which it makes, and the body of a message
-- makes the message again.
use Rattle.std.proofs.Common.{◌≡◌, ℕ, zero, suc, ◌+◌, ◌^◌, ◌<◌, ◌≤◌, true, false, ◌||◌, eqb, ltb, List, [], ◌∷◌, ◌++◌, Option, Some, None, length, get_or, take, drop, replicate, refl, sym, ap, subst, ◌∙◌, append_assoc, if◌then◌else◌, arith}
use Rattle.std.specs.Prelude.{IfSome}
use Rattle.std.specs.Int.{w16, w32, w64, to_be_bytes}
use Rattle.std.proofs.lemmas.Bool.{and_parts, ltb-true}
use Rattle.std.proofs.lemmas.List.{append-nil, drop_all, drop_more, drop-drop, take-append-drop, length-take, length-drop}
use Rattle.std.proofs.lemmas.Nat.{from_be_bytes-to_be_bytes_2, from_be_bytes-to_be_bytes_4, from_be_bytes-to_be_bytes_8}
use Rattle.inet_frame.specs.declared.tuple.Tuple.{Tuple}
use Rattle.tcp_track.specs.declared.openings.Opening.{Opening}
use Rattle.colo_wire.specs.Forms.{lengths_of, places_of, waiting_places}
use Rattle.colo_wire.specs.Lengths.{AllowsLength}
use Rattle.colo_wire.specs.Making.{number_at, tuple_in, seen_in, line_in, message_in}
use Rattle.colo_wire.specs.Places.{is_zero, has_flag, width, may_stand, flags_after, follows}
use Rattle.colo_wire.specs.declared.forms.Place.{Place}
use Rattle.colo_wire.specs.declared.forms.Place.TheVariants.{Seen, Marked}
use Rattle.shared_definitions.specs.Bytes.{AreBytes}
use Rattle.shared_definitions.proofs.ByteLemmas.{AreBytes-drop, AreBytes-take}
use Rattle.colo_wire.specs.Spelling.{IsTuple, IsOpening, IsWaiting, IsNumber, IsPart, IsLineFront, AreLineNumbers, IsLineRest, IsInRange, tuple_bytes, seen_bytes, waiting_body, number_body, line_front, line_numbers, line_rest, body_of, kind_of}
use Rattle.colo_wire.specs.declared.kinds.Kind.{Kind}
use Rattle.colo_wire.specs.declared.kinds.Kind.TheVariants as kind
use Rattle.colo_wire.specs.declared.messages.Message.{Message}
use Rattle.colo_wire.specs.declared.messages.Message.TheVariants.{Frame, Number, Begin, State, Page, Disk, Write, Held, Line, Bytes, End, Known, Sent, Ack}
use Rattle.colo_wire.proofs.PlaceLemmas.{first_take}
use Rattle.colo_wire.proofs.NumberLemmas.{wide16, wide32, wide64, number_below, number_spelled, zeros_are}

-- ---- what is read spells its bytes

word_spelled : (at end : ℕ) (body : List ℕ) → at + 4 ≡ end → AreBytes body → end ≤ length body →
    to_be_bytes w32 (number_at w32 at body) ++ drop end body ≡ drop at body
word_spelled at end body e fits long = number_spelled w32 (2 ^ 32) wide32 at end body e fits long

half_spelled : (at end : ℕ) (body : List ℕ) → at + 2 ≡ end → AreBytes body → end ≤ length body →
    to_be_bytes w16 (number_at w16 at body) ++ drop end body ≡ drop at body
half_spelled at end body e fits long = number_spelled w16 (2 ^ 16) wide16 at end body e fits long

-- three parts, one after the other
joined : (a b c x y z : List ℕ) {r : List ℕ} → a ++ x ≡ r → b ++ y ≡ x → c ++ z ≡ y → a ++ (b ++ (c ++ z)) ≡ r
joined a b c x y z e f g = ap (λ (t : List ℕ). a ++ (b ++ t)) g ∙ ap (λ (t : List ℕ). a ++ t) f ∙ e

tuple_spelled : (body : List ℕ) → AreBytes body → 8 ≤ length body → tuple_bytes (tuple_in body) ++ drop 8 body ≡ body
unfolding tuple_in
tuple_spelled body fits long =
    joined (to_be_bytes w32 (number_at w32 0 body)) (to_be_bytes w16 (number_at w16 4 body))
    (to_be_bytes w16 (number_at w16 6 body))
    (drop 4 body) (drop 6 body) (drop 8 body)
    (word_spelled 0 4 body refl fits (omega arith)) (half_spelled 4 6 body refl fits (omega arith))
    (half_spelled 6 8 body refl fits long)

number_body_spelled : (body : List ℕ) → AreBytes body → length body ≡ 16 →
    number_body (tuple_in body) (number_at w32 8 body) (number_at w32 12 body) ≡ body
unfolding number_body
number_body_spelled body fits len =
    let last : to_be_bytes w32 (number_at w32 12 body) ≡ drop 12 body =
    sym (append-nil (to_be_bytes w32 (number_at w32 12 body)))
    ∙ ap (λ (t : List ℕ). to_be_bytes w32 (number_at w32 12 body) ++ t) (sym (drop_all 16 body (omega arith)))
    ∙ word_spelled 12 16 body refl fits (omega arith) in
    ap (λ (t : List ℕ). tuple_bytes (tuple_in body) ++ (to_be_bytes w32 (number_at w32 8 body) ++ t)) last
    ∙ ap (λ (t : List ℕ). tuple_bytes (tuple_in body) ++ t) (word_spelled 8 12 body refl fits (omega arith))
    ∙ tuple_spelled body fits (omega arith)

-- ---- a seen opening

-- four bytes of 0
four_zeros : (part : List ℕ) → 4 ≤ length part → is_zero (take 4 part) ≡ true →
    to_be_bytes w32 0 ++ drop 4 part ≡ part
four_zeros part long h =
    let len : length (take 4 part) ≡ 4 = omega (arith, length-take 4 part) in
    let e : take 4 part ≡ replicate 4 0 = zeros_are (take 4 part) h ∙ ap (λ (k : ℕ). replicate k 0) len in
    ap (λ (t : List ℕ). t ++ drop 4 part) (sym e) ∙ take-append-drop 4 part

-- what the places from has-seen on ask
abbrev AreSeen : List ℕ → Type 0
AreSeen part =
    (ltb (get_or part 0 0) 2 ≡ true)
    × (get_or part 0 0 ≡ 0 → (is_zero (take 4 (drop 1 part)) ≡ true) × (is_zero (take 4 (drop 5 part)) ≡ true))

seen_spelled : (part : List ℕ) → AreBytes part → 9 ≤ length part → AreSeen part →
    seen_bytes (seen_in part) ++ drop 9 part ≡ part
unfolding seen_in
seen_spelled [] fits long h = absurd (omega arith)
seen_spelled (zero ∷ part) fits long h =
    let z = h.1 refl in
    let back : drop 8 part ≡ drop 4 (drop 4 part) = sym (drop-drop 4 4 part) in
    let second : to_be_bytes w32 0 ++ drop 8 part ≡ drop 4 part =
    ap (λ (t : List ℕ). to_be_bytes w32 0 ++ t) back
    ∙ four_zeros (drop 4 part) (omega (arith, length-drop 4 part)) (z.1) in
    ap (λ (t : List ℕ). 0 ∷ (to_be_bytes w32 0 ++ t)) second
    ∙ ap (λ (t : List ℕ). 0 ∷ t) (four_zeros part (omega arith) z.0)
seen_spelled (suc zero ∷ part) fits long h =
    let all : List ℕ = 1 ∷ part in
    ap (λ (t : List ℕ). 1 ∷ (to_be_bytes w32 (number_at w32 1 all) ++ t)) (word_spelled 5 9 all refl fits long)
    ∙ ap (λ (t : List ℕ). 1 ∷ t) (word_spelled 1 5 all refl fits (omega arith))
seen_spelled (suc (suc b) ∷ part) fits long h = absurd (omega (arith, ltb-true (suc (suc b)) 2 h.0))

-- the first place, and the others
follows_parts : (p : Place) (ps : List Place) (flags : ℕ) (b : List ℕ) → follows (p ∷ ps) flags b ≡ true →
    (may_stand p flags (take (width p) b) ≡ true)
    × (follows ps (flags_after p flags (take (width p) b)) (drop (width p) b) ≡ true)
follows_parts p ps flags b h =
    and_parts (may_stand p flags (take (width p) b))
    (follows ps (flags_after p flags (take (width p) b)) (drop (width p) b)) h

seen_places : (part : List ℕ) → follows (Seen ∷ Marked 1 4 ∷ Marked 1 4 ∷ Marked 1 4 ∷ []) 0 part ≡ true →
    AreSeen part
seen_places part h =
    let f = get_or (take 1 part) 0 0 in
    let same : f ≡ get_or part 0 0 = first_take 0 part in
    let s = follows_parts Seen (Marked 1 4 ∷ Marked 1 4 ∷ Marked 1 4 ∷ []) 0 part h in
    let m = follows_parts (Marked 1 4) (Marked 1 4 ∷ Marked 1 4 ∷ []) f (drop 1 part) s.1 in
    let n = follows_parts (Marked 1 4) (Marked 1 4 ∷ []) f (drop 4 (drop 1 part)) m.1 in
    let client : f ≡ 0 → is_zero (take 4 (drop 1 part)) ≡ true =
    λ e. subst (λ (g : ℕ). (has_flag 1 g || is_zero (take 4 (drop 1 part))) ≡ true) e m.0 in
    let own : f ≡ 0 → is_zero (take 4 (drop 4 (drop 1 part))) ≡ true =
    λ e. subst (λ (g : ℕ). (has_flag 1 g || is_zero (take 4 (drop 4 (drop 1 part)))) ≡ true) e n.0 in (
      subst (λ (g : ℕ). ltb g 2 ≡ true) same s.0,
      λ e. (client (same ∙ e), ap (λ (t : List ℕ). is_zero (take 4 t)) (sym (drop-drop 4 1 part)) ∙ own (same ∙ e)),
    )

waiting_spelled : (body : List ℕ) → AreBytes body → 21 ≤ length body → follows waiting_places 0 body ≡ true →
    waiting_body (number_at w64 0 body) (seen_in (drop 8 body)) (number_at w32 17 body) (drop 21 body) ≡ body
unfolding waiting_body
waiting_spelled body fits long h =
    let places : follows (Seen ∷ Marked 1 4 ∷ Marked 1 4 ∷ Marked 1 4 ∷ []) 0 (drop 8 body) ≡ true = h in
    let seen : seen_bytes (seen_in (drop 8 body)) ++ drop 17 body ≡ drop 8 body =
    ap (λ (t : List ℕ). seen_bytes (seen_in (drop 8 body)) ++ t) (sym (drop-drop 9 8 body))
    ∙ seen_spelled (drop 8 body) (AreBytes-drop 8 body fits) (omega (arith, length-drop 8 body))
    (seen_places (drop 8 body) places) in
    joined (to_be_bytes w64 (number_at w64 0 body)) (seen_bytes (seen_in (drop 8 body)))
    (to_be_bytes w32 (number_at w32 17 body))
    (drop 8 body) (drop 17 body) (drop 21 body)
    (number_spelled w64 (2 ^ 64) wide64 0 8 body refl fits (omega arith)) seen
    (word_spelled 17 21 body refl fits long)

-- ---- a line

line_front_spelled : (body : List ℕ) → AreBytes body → length body ≡ 43 →
    line_front (tuple_in body) (take 6 (drop 8 body)) (get_or body 14 0) ++ drop 15 body ≡ body
unfolding line_front
line_front_spelled body fits len =
    let t = tuple_bytes (tuple_in body) in
    let mac = take 6 (drop 8 body) in
    let flags = get_or body 14 0 in
    let one : flags ∷ drop 15 body ≡ drop 14 body = sym (drop_more body 14 0 (omega arith)) in
    let six : mac ++ drop 14 body ≡ drop 8 body =
    ap (λ (x : List ℕ). mac ++ x) (sym (drop-drop 6 8 body)) ∙ take-append-drop 6 (drop 8 body) in
    append_assoc t (mac ++ (flags ∷ [])) (drop 15 body)
    ∙ ap (λ (x : List ℕ). t ++ x) (append_assoc mac (flags ∷ []) (drop 15 body) ∙ ap (λ (x : List ℕ). mac ++ x) one
    ∙ six)
    ∙ tuple_spelled body fits (omega arith)

line_numbers_spelled : (body : List ℕ) → AreBytes body → length body ≡ 43 →
    line_numbers (number_at w32 15 body) (number_at w32 19 body) (number_at w32 23 body) (number_at w32 27 body)
    ++ drop 31 body ≡ drop 15 body
unfolding line_numbers
line_numbers_spelled body fits len =
    ap (λ (x : List ℕ). to_be_bytes w32 (number_at w32 15 body) ++ x)
    (joined (to_be_bytes w32 (number_at w32 19 body)) (to_be_bytes w32 (number_at w32 23 body))
    (to_be_bytes w32 (number_at w32 27 body))
    (drop 23 body) (drop 27 body) (drop 31 body) (word_spelled 19 23 body refl fits (omega arith))
    (word_spelled 23 27 body refl fits (omega arith)) (word_spelled 27 31 body refl fits (omega arith)))
    ∙ word_spelled 15 19 body refl fits (omega arith)

line_rest_spelled : (body : List ℕ) → AreBytes body → length body ≡ 43 →
    line_rest (number_at w32 31 body) (number_at w16 35 body) (number_at w16 37 body)
    (number_at w32 39 body) ≡ drop 31 body
unfolding line_rest
line_rest_spelled body fits len =
    let last : to_be_bytes w32 (number_at w32 39 body) ≡ drop 39 body =
    sym (append-nil (to_be_bytes w32 (number_at w32 39 body)))
    ∙ ap (λ (t : List ℕ). to_be_bytes w32 (number_at w32 39 body) ++ t) (sym (drop_all 43 body (omega arith)))
    ∙ word_spelled 39 43 body refl fits (omega arith) in
    ap (λ (t : List ℕ). to_be_bytes w32 (number_at w32 31 body) ++ (to_be_bytes w16 (number_at w16 35 body)
    ++ (to_be_bytes w16 (number_at w16 37 body) ++ t))) last
    ∙ joined (to_be_bytes w32 (number_at w32 31 body)) (to_be_bytes w16 (number_at w16 35 body))
    (to_be_bytes w16 (number_at w16 37 body))
    (drop 35 body) (drop 37 body) (drop 39 body) (word_spelled 31 35 body refl fits (omega arith))
    (half_spelled 35 37 body refl fits (omega arith)) (half_spelled 37 39 body refl fits (omega arith))

line_spelled : (body : List ℕ) → AreBytes body → length body ≡ 43 → body_of (line_in body) ≡ body
unfolding line_in
line_spelled body fits len =
    let front = line_front (tuple_in body) (take 6 (drop 8 body)) (get_or body 14 0) in
    ap (λ (t : List ℕ). front ++ (line_numbers (number_at w32 15 body) (number_at w32 19 body) (number_at w32 23 body)
    (number_at w32 27 body) ++ t)) (line_rest_spelled body fits len)
    ∙ ap (λ (t : List ℕ). front ++ t) (line_numbers_spelled body fits len)
    ∙ line_front_spelled body fits len

-- ---- any body

word_below : (at : ℕ) (body : List ℕ) → AreBytes body → number_at w32 at body < 2 ^ 32
word_below at body fits = number_below w32 (2 ^ 32) wide32 at body fits

half_below : (at : ℕ) (body : List ℕ) → AreBytes body → number_at w16 at body < 2 ^ 16
half_below at body fits = number_below w16 (2 ^ 16) wide16 at body fits

tuple_ranges : (body : List ℕ) → AreBytes body → IsTuple (tuple_in body)
unfolding tuple_in
tuple_ranges body fits = record {
  addr = word_below 0 body fits;
  port = half_below 4 body fits;
  guest =
      half_below 6 body fits;
}

seen_ranges : (part : List ℕ) → AreBytes part → IfSome (seen_in part) IsOpening
unfolding seen_in
seen_ranges part fits =
    let opening : Opening = record { client = number_at w32 1 part; own = number_at w32 5 part } in
    let ranges : IsOpening opening = record { client = word_below 1 part fits; own = word_below 5 part fits } in
    elim (eqb (get_or part 0 0) 0) as (λ v. IfSome (if v then None else Some opening) IsOpening) [
      | true ↦ tt
      | false ↦
          ranges
    ]

waiting_ranges : (body : List ℕ) → AreBytes body →
    IsWaiting (number_at w64 0 body) (seen_in (drop 8 body)) (number_at w32 17 body) (drop 21 body)
waiting_ranges body fits = record {
  index_fits = number_below w64 (2 ^ 64) wide64 0 body fits;
  seen_fits = seen_ranges (drop 8 body) (AreBytes-drop 8 body fits);
  trim_fits = word_below 17 body fits;
  frame_fits = AreBytes-drop 21 body fits;
}

number_ranges : (body : List ℕ) → AreBytes body →
    IsNumber (tuple_in body) (number_at w32 8 body) (number_at w32 12 body)
number_ranges body fits =
    record {
      tuple_fits = tuple_ranges body fits;
      client_fits = word_below 8 body fits;
      number_fits =
          word_below 12 body fits;
    }

part_ranges : (body : List ℕ) → AreBytes body → IsPart (number_at w32 0 body) (drop 4 body)
part_ranges body fits = record { k_fits = word_below 0 body fits; bytes_fits = AreBytes-drop 4 body fits }

line_ranges : (body : List ℕ) → AreBytes body → length body ≡ 43 → IsInRange (line_in body)
unfolding line_in
line_ranges body fits len = (
  record {
    tuple_fits = tuple_ranges body fits;
    mac_fits = AreBytes-take 6 (drop 8 body) (AreBytes-drop 8 body fits);
    mac_length = omega (arith, length-take 6 (drop 8 body), length-drop 8 body);
    flags_fits = fits 14;
  },
  record {
    client_fits = word_below 15 body fits;
    own_fits = word_below 19 body fits;
    number_fits = word_below 23 body fits;
    refused_fits = word_below 27 body fits;
  },
  record {
    acked_fits = word_below 31 body fits;
    window_fits = half_below 35 body fits;
    mss_fits = half_below 37 body fits;
    base_fits = word_below 39 body fits;
  },
)

-- the message that a body of a kind makes is of this kind, and has this body
pub record Makes (k : Kind) (body : List ℕ) : Type 0 where
  pub ranges : IsInRange (message_in k body)
  pub same_kind : kind_of (message_in k body) ≡ k
  pub same_body : body_of (message_in k body) ≡ body

count_spelled : (body : List ℕ) → AreBytes body → length body ≡ 4 → to_be_bytes w32 (number_at w32 0 body) ≡ body
count_spelled body fits len =
    sym (append-nil (to_be_bytes w32 (number_at w32 0 body)))
    ∙ ap (λ (t : List ℕ). to_be_bytes w32 (number_at w32 0 body) ++ t) (sym (drop_all 4 body (omega arith)))
    ∙ word_spelled 0 4 body refl fits (omega arith)

line_kind : (body : List ℕ) → kind_of (line_in body) ≡ kind.Line
unfolding line_in
line_kind body = refl

pub makes : (k : Kind) (body : List ℕ) → AreBytes body → AllowsLength (lengths_of k) (length body) →
    follows (places_of k) 0 body ≡ true →
    Makes k body
makes kind.Frame body fits len h = record {
  ranges = waiting_ranges body fits;
  same_kind = refl;
  same_body = waiting_spelled body fits (omega (arith, len.from)) h;
}
makes kind.Number body fits len h = record {
  ranges = number_ranges body fits;
  same_kind = refl;
  same_body = number_body_spelled body fits (omega (arith, len.from, len.to));
}
makes kind.Begin body fits len h = record {
  ranges = word_below 0 body fits;
  same_kind = refl;
  same_body = count_spelled body fits (omega (arith, len.from, len.to));
}
makes kind.State body fits len h = record { ranges = fits; same_kind = refl; same_body = refl }
makes kind.Page body fits len h = record {
  ranges = part_ranges body fits;
  same_kind = refl;
  same_body = word_spelled 0 4 body refl fits (omega (arith, len.from));
}
makes kind.Disk body fits len h = record {
  ranges = part_ranges body fits;
  same_kind = refl;
  same_body = word_spelled 0 4 body refl fits (omega (arith, len.from));
}
makes kind.Write body fits len h = record {
  ranges = part_ranges body fits;
  same_kind = refl;
  same_body = word_spelled 0 4 body refl fits (omega (arith, len.from));
}
makes kind.Held body fits len h = record {
  ranges = waiting_ranges body fits;
  same_kind = refl;
  same_body = waiting_spelled body fits (omega (arith, len.from)) h;
}
makes kind.Line body fits len h = record {
  ranges = line_ranges body fits (omega (arith, len.from, len.to));
  same_kind = line_kind body;
  same_body = line_spelled body fits (omega (arith, len.from, len.to));
}
makes kind.Bytes body fits len h = record { ranges = fits; same_kind = refl; same_body = refl }
makes kind.End body fits len h = record {
  ranges = word_below 0 body fits;
  same_kind = refl;
  same_body = count_spelled body fits (omega (arith, len.from, len.to));
}
makes kind.Known body fits len h = record {
  ranges = number_ranges body fits;
  same_kind = refl;
  same_body = number_body_spelled body fits (omega (arith, len.from, len.to));
}
makes kind.Sent body fits len h = record { ranges = fits; same_kind = refl; same_body = refl }
makes kind.Ack body fits len h = record {
  ranges = word_below 0 body fits;
  same_kind = refl;
  same_body = count_spelled body fits (omega (arith, len.from, len.to));
}

-- ---- what is spelled is read again

tuples_same : (s t : Tuple) → s.addr ≡ t.addr → s.port ≡ t.port → s.guest ≡ t.guest → s ≡ t
tuples_same s t e f g = rw (e, f, g) refl

tuple_again : (t : Tuple) (rest : List ℕ) → IsTuple t → tuple_in (tuple_bytes t ++ rest) ≡ t
unfolding tuple_in number_at
tuple_again t rest h =
    tuples_same (tuple_in (tuple_bytes t ++ rest)) t (from_be_bytes-to_be_bytes_4 t.addr h.addr)
    (from_be_bytes-to_be_bytes_2 t.port h.port) (from_be_bytes-to_be_bytes_2 t.guest h.guest)

-- a message of each form, from equal parts
waiting_same : (make : ℕ → Option Opening → ℕ → List ℕ →
    Message) {a b : ℕ} {s t : Option Opening} {c d : ℕ} {x y : List ℕ} →
    a ≡ b → s ≡ t → c ≡ d → x ≡ y → make a s c x ≡ make b t d y
waiting_same make e f g h = cc

number_same : (make : Tuple → ℕ → ℕ → Message) {s t : Tuple} {a b c d : ℕ} → s ≡ t → a ≡ b → c ≡ d →
    make s a c ≡ make t b d
number_same make e f g = cc

opening_again : (o : Opening) (rest : List ℕ) → IsOpening o → seen_in (seen_bytes (Some o) ++ rest) ≡ Some o
unfolding seen_in number_at
opening_again o rest h =
    openings_same (from_be_bytes-to_be_bytes_4 o.client h.client) (from_be_bytes-to_be_bytes_4 o.own h.own)
  where
    openings_same : {a b c d : ℕ} → a ≡ b → c ≡ d →
        (let x : Option Opening = Some (record { client = a; own = c }) in x) ≡ Some (record { client = b; own = d })
    openings_same e f = rw (e, f) refl

waiting_again : (make : ℕ → Option Opening → ℕ → List ℕ → Message) (index : ℕ) (seen : Option Opening) (trim : ℕ)
    (frame : List ℕ) →
    IsWaiting index seen trim frame →
    make (number_at w64 0 (waiting_body index seen trim frame))
    (seen_in (drop 8 (waiting_body index seen trim frame)))
    (number_at w32 17 (waiting_body index seen trim frame))
    (drop 21 (waiting_body index seen trim frame)) ≡ make index seen trim frame
unfolding waiting_body number_at seen_in
waiting_again make index None trim frame h =
    waiting_same make (from_be_bytes-to_be_bytes_8 index h.index_fits) refl
    (from_be_bytes-to_be_bytes_4 trim h.trim_fits) refl
waiting_again make index (Some o) trim frame h =
    waiting_same make (from_be_bytes-to_be_bytes_8 index h.index_fits)
    (opening_again o (to_be_bytes w32 trim ++ frame) h.seen_fits)
    (from_be_bytes-to_be_bytes_4 trim h.trim_fits) refl

number_again : (make : Tuple → ℕ → ℕ → Message) (tuple : Tuple) (client number : ℕ) → IsNumber tuple client number →
    make (tuple_in (number_body tuple client number)) (number_at w32 8 (number_body tuple client number))
    (number_at w32 12 (number_body tuple client number)) ≡ make tuple client number
unfolding number_body number_at
number_again make tuple client number h =
    number_same make (tuple_again tuple (to_be_bytes w32 client ++ to_be_bytes w32 number) h.tuple_fits)
    (from_be_bytes-to_be_bytes_4 client h.client_fits) (from_be_bytes-to_be_bytes_4 number h.number_fits)

count_again : (e : ℕ) (rest : List ℕ) → e < 2 ^ 32 → number_at w32 0 (to_be_bytes w32 e ++ rest) ≡ e
unfolding number_at
count_again e rest h = from_be_bytes-to_be_bytes_4 e h

part_again : (make : ℕ → List ℕ → Message) (k : ℕ) (bytes : List ℕ) → IsPart k bytes →
    make (number_at w32 0 (to_be_bytes w32 k ++ bytes)) (drop 4 (to_be_bytes w32 k ++ bytes)) ≡ make k bytes
part_again make k bytes h = ap (λ (x : ℕ). make x bytes) (count_again k bytes h.k_fits)

-- ---- a line, with its six bytes of MAC as cells

six_cells : (mac : List ℕ) → length mac ≡ 6 → (P : List ℕ → Type 0) →
    ((a b c d e f : ℕ) → P (a ∷ b ∷ c ∷ d ∷ e ∷ f ∷ [])) → P mac
six_cells [] h P k = absurd (omega arith)
six_cells (a ∷ []) h P k = absurd (omega arith)
six_cells (a ∷ b ∷ []) h P k = absurd (omega arith)
six_cells (a ∷ b ∷ c ∷ []) h P k = absurd (omega arith)
six_cells (a ∷ b ∷ c ∷ d ∷ []) h P k = absurd (omega arith)
six_cells (a ∷ b ∷ c ∷ d ∷ e ∷ []) h P k = absurd (omega arith)
six_cells (a ∷ b ∷ c ∷ d ∷ e ∷ f ∷ []) h P k = k a b c d e f
six_cells (a ∷ b ∷ c ∷ d ∷ e ∷ f ∷ g ∷ mac) h P k = absurd (omega arith)

lines_same : {t u : Tuple} {m n : List ℕ} {f g c d o p a b r s k l w x v y z q : ℕ} → t ≡ u → m ≡ n → f ≡ g → c ≡ d →
    o ≡ p → a ≡ b →
    r ≡ s → k ≡ l → w ≡ x → v ≡ y → z ≡ q → Line t m f c o a r k w v z ≡ Line u n g d p b s l x y q
lines_same e0 e1 e2 e3 e4 e5 e6 e7 e8 e9 e10 = cc

line_again : (tuple : Tuple) (mac : List ℕ) (flags client own number refused acked window mss base : ℕ) →
    IsLineFront tuple mac flags → AreLineNumbers client own number refused → IsLineRest acked window mss base →
    line_in (line_front tuple mac flags
    ++ (line_numbers client own number refused ++ line_rest acked window mss base))
    ≡ Line tuple mac flags client own number refused acked window mss base
unfolding line_in line_front line_numbers line_rest number_at
line_again tuple mac flags client own number refused acked window mss base front numbers rest =
    six_cells mac front.mac_length
    (λ (m : List ℕ). line_in
    (line_front tuple m flags ++ (line_numbers client own number refused ++ line_rest acked window mss base))
    ≡ Line tuple m flags client own number refused acked window mss base)
    (λ a b c d e f.
    lines_same (tuple_again tuple ((a ∷ b ∷ c ∷ d ∷ e ∷ f ∷ flags ∷ [])
    ++ (line_numbers client own number refused ++ line_rest acked window mss base)) front.tuple_fits)
    refl refl (from_be_bytes-to_be_bytes_4 client numbers.client_fits)
    (from_be_bytes-to_be_bytes_4 own numbers.own_fits)
    (from_be_bytes-to_be_bytes_4 number numbers.number_fits)
    (from_be_bytes-to_be_bytes_4 refused numbers.refused_fits)
    (from_be_bytes-to_be_bytes_4 acked rest.acked_fits) (from_be_bytes-to_be_bytes_2 window rest.window_fits)
    (from_be_bytes-to_be_bytes_2 mss rest.mss_fits) (from_be_bytes-to_be_bytes_4 base rest.base_fits))

-- the body of a message makes it again
pub remakes : (m : Message) → IsInRange m → message_in (kind_of m) (body_of m) ≡ m
remakes (Frame index seen trim frame) h = waiting_again Frame index seen trim frame h
remakes (Number tuple client number) h = number_again Number tuple client number h
remakes (Begin e) h = ap Begin (ap (number_at w32 0) (sym (append-nil (to_be_bytes w32 e))) ∙ count_again e [] h)
remakes (State bytes) h = refl
remakes (Page k bytes) h = part_again Page k bytes h
remakes (Disk first bytes) h = part_again Disk first bytes h
remakes (Write k bytes) h = part_again Write k bytes h
remakes (Held index seen trim frame) h = waiting_again Held index seen trim frame h
remakes (Line tuple mac flags client own number refused acked window mss base) h =
    line_again tuple mac flags client own number refused acked window mss base h.0 h.1 h.2
remakes (Bytes bytes) h = refl
remakes (End e) h = ap End (ap (number_at w32 0) (sym (append-nil (to_be_bytes w32 e))) ∙ count_again e [] h)
remakes (Known tuple client number) h = number_again Known tuple client number h
remakes (Sent frame) h = refl
remakes (Ack e) h = ap Ack (ap (number_at w32 0) (sym (append-nil (to_be_bytes w32 e))) ∙ count_again e [] h)
