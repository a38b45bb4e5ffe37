-- What a line acknowledges was acknowledged in what was sent.
use Rattle.std.proofs.Common.{◌≡◌, ◌⊎◌, inl, inr, ℕ, ◌≤◌, ◌&&◌, ◌==◌, not, if◌then◌else◌, nat_lt, Bool, true, false, List, [], ◌∷◌, fold, Option, None, Some, refl, sym, ap, ◌∙◌, arith, eqb-true, eq-eqb, true≢false, is_some, max, min}
use Rattle.std.proofs.lemmas.Bool.{cond_both, and_parts, and_left, and_from, and_cases, not-false, cond-true, cond-false}
use Rattle.inet_frame.specs.Counted.{tuple_of}
use Rattle.inet_frame.specs.Fields.{TcpFields}
use Rattle.inet_frame.specs.Flags.{has_ack, has_rst}
use Rattle.inet_frame.specs.declared.tuple.Tuple.{Tuple}
use Rattle.tcp_track.specs.Offsets.{distance}
use Rattle.tcp_track.specs.Segments.{same_tuple, same_opening, opening_in, opens_anew, may_open, is_refusal}
use Rattle.tcp_track.specs.Stands.{opening_after, is_of_client, acked_after, Acking, acking_after, acked_in}
use Rattle.tcp_track.specs.Lines.{Item, Line, no_line, after_segment, opened_line, refused_line, line_with, line_after, line, sent_of, sent, trim, commit, after_trim, trim_end}
use Rattle.tcp_track.specs.declared.openings.Opening.{Opening}
use Rattle.tcp_track.specs.declared.offsets.TheConstants.{OFFSET_BOUND}
use Rattle.tcp_track.proofs.SymbolLemmas.{not_opening, rst_opens_not, same_opening_is}

-- THE OPENING AFTER A SEGMENT

pub with_opening : (l : Line) (o : Option Opening) (s : TcpFields) → (line_with l o s).opening ≡ l.opening
with_opening l None s = refl
with_opening l (Some o) s = refl

pub refusal_has_rst : (s : TcpFields) → is_refusal s ≡ true → has_rst s.flags ≡ true
unfolding is_refusal
refusal_has_rst s e = (and_parts (has_rst s.flags) (has_ack s.flags && s.seq == 0) e).0

-- a segment that opens nothing new leaves the opening
pub opens_nothing : (t : Tuple) (o : Option Opening) (s : TcpFields) → opens_anew o s ≡ false → opening_after t o s ≡ o
opens_nothing t o s g = by (and_cases (may_open s) (not (same_opening o (opening_in s))) g)
  where
    by : (may_open s ≡ false) ⊎ (not (same_opening o (opening_in s)) ≡ false) → opening_after t o s ≡ o
    by (inl e) = not_opening t o s e
    by (inr e) = cond_both (same_tuple (tuple_of s) t && may_open s) (Some (opening_in s)) o (λ p. p
        ≡ o) (λ g. sym (same_opening_is o (opening_in s) (not-false (same_opening o (opening_in s)) e))) (λ g. refl)

pub opens_this : (t : Tuple) (o : Option Opening) (s : TcpFields) → same_tuple (tuple_of s) t ≡ true →
    opens_anew o s ≡ true → opening_after t o s ≡ Some (opening_in s)
opens_this t o s same g = cond-true (same_tuple (tuple_of s) t && may_open s) (Some (opening_in s)) o (and_from
    (same_tuple (tuple_of s) t) (may_open s) same (and_parts (may_open s) (not (same_opening o (opening_in s))) g).0)

-- THE ACKNOWLEDGEMENT

acked-grows : (m n client : ℕ) (s : TcpFields) → m ≤ n → acked_after m client s ≤ acked_after n client s
acked-grows m n client s h = by (has_ack s.flags && nat_lt (distance client s.ack) OFFSET_BOUND)
  where
    by : (b : Bool) → (if b then max m (distance client s.ack) else m) ≤ (if b then max n
        (distance client s.ack) else n)
    by true = omega arith
    by false = h

-- the opening of a line is current, and where it is of the client the line acknowledges no more than was sent
record AckFits (t : Tuple) (client : ℕ) (a : Acking) (l : Line) : Type 0 where
  opening : a.opening ≡ l.opening
  acked : is_of_client l.opening client ≡ true → l.acked ≤ a.acked

counts : (t : Tuple) (client : ℕ) (a : Acking) (s : TcpFields) → same_tuple (tuple_of s) t ≡ true →
    has_rst s.flags ≡ false → is_of_client (opening_after t a.opening s) client ≡ true →
    (acking_after t client a s).acked ≡ acked_after a.acked client s
counts t client a s same r of = λ i. if same i && (not (r i) && of i) then acked_after a.acked client s else a.acked

counts_not : (t : Tuple) (client : ℕ) (a : Acking) (s : TcpFields) → same_tuple (tuple_of s) t ≡ true →
    has_rst s.flags ≡ true → (acking_after t client a s).acked ≡ a.acked
counts_not t client a s same r = λ i. if same i && (not (r i) && is_of_client
    (opening_after t a.opening s) client) then acked_after a.acked client s else a.acked

elsewhere : (t : Tuple) (client : ℕ) (a : Acking) (s : TcpFields) → same_tuple (tuple_of s) t ≡ false →
    (acking_after t client a s).acked ≡ a.acked
elsewhere t client a s other = λ i. if other i && (not (has_rst s.flags) && is_of_client
    (opening_after t a.opening s) client) then acked_after a.acked client s else a.acked

-- a segment with RST changes neither
rst_fits : (t : Tuple) (client : ℕ) (a : Acking) (l m : Line) (s : TcpFields) → same_tuple (tuple_of s) t ≡ true →
    has_rst s.flags ≡ true → m.opening ≡ l.opening → m.acked ≡ l.acked → AckFits t client a l →
    AckFits t client (acking_after t client a s) m
rst_fits t client a l m s same r e f h = record {
  opening = not_opening t a.opening s (rst_opens_not s r) ∙ (h.opening ∙ sym e);
  acked = λ of. rw (counts_not t client a s same r, f) (h.acked (ap (λ (o : Option Opening). is_of_client o client)
      (sym e) ∙ of));
}

opened_fits : (t : Tuple) (client : ℕ) (a : Acking) (l : Line) (s : TcpFields) → same_tuple (tuple_of s) t ≡ true →
    has_rst s.flags ≡ false → opens_anew l.opening s ≡ true → AckFits t client a l →
    AckFits t client (acking_after t client a s) (opened_line l s)
opened_fits t client a l s same r g h =
    let now : opening_after t a.opening s ≡ Some (opening_in s) = opens_this t a.opening s same (ap (λ
    (o : Option Opening). opens_anew o s) h.opening ∙ g) in
    record {
      opening = now;
      acked = λ of.
          let is : (opening_in s).client ≡ client = eqb-true (opening_in s).client client of in
          rw (
            counts t client a s same r (ap (λ (o : Option Opening). is_of_client o client) now
                ∙ of),
            is,
          ) (acked-grows 0 a.acked client s (omega arith));
    }

with_fits : (t : Tuple) (client : ℕ) (a : Acking) (l : Line) (o : Option Opening) (s : TcpFields) → l.opening ≡ o →
    same_tuple (tuple_of s) t ≡ true → has_rst s.flags ≡ false → opens_anew l.opening s ≡ false →
    AckFits t client a l → AckFits t client (acking_after t client a s) (line_with l o s)
with_fits t client a l None s e same r g h = record {
  opening = ap (λ (p : Option Opening). opening_after t p s) h.opening ∙ opens_nothing t l.opening s g;
  acked = λ of. absurd (true≢false (sym of ∙ ap (λ (p : Option Opening). is_of_client p client) e));
}
with_fits t client a l (Some o) s e same r g h =
    let now : opening_after t a.opening s ≡ l.opening = ap (λ (p : Option Opening). opening_after t p s) h.opening
    ∙ opens_nothing t l.opening s g in
    record {
      opening = now;
      acked = λ of.
          let is : o.client ≡ client = eqb-true o.client client (ap (λ (p : Option Opening). is_of_client p client)
          (sym e) ∙ of) in
          rw (
            counts t client a s same r (ap (λ (p : Option Opening). is_of_client p client) now
                ∙ of),
            is,
          ) (acked-grows l.acked a.acked client s (h.acked of));
    }

segment_fits : (t : Tuple) (client : ℕ) (a : Acking) (l : Line) (s : TcpFields) → same_tuple (tuple_of s) t ≡ true →
    AckFits t client a l → AckFits t client (acking_after t client a s) (after_segment l s)
unfolding after_segment
segment_fits t client a l s same h = by_refusal (is_refusal s) refl
  where
    rest : Line
    rest = if opens_anew l.opening s then opened_line l s else line_with l l.opening s

    by_opens : (b : Bool) → opens_anew l.opening s ≡ b → has_rst s.flags ≡ false →
        AckFits t client (acking_after t client a s) (if b then opened_line l s else line_with l l.opening s)
    by_opens true g r = opened_fits t client a l s same r g h
    by_opens false g r = with_fits t client a l l.opening s refl same r g h

    by_rst : (b : Bool) → has_rst s.flags ≡ b → AckFits t client (acking_after t client a s)
        (if b then record l { reset = is_some l.opening } else rest)
    by_rst true r = rst_fits t client a l (record l { reset = is_some l.opening }) s same r refl refl h
    by_rst false r = by_opens (opens_anew l.opening s) refl r

    by_refusal : (b : Bool) → is_refusal s ≡ b → AckFits t client (acking_after t client a s)
        (if b then refused_line l s else (if has_rst s.flags then record l { reset = is_some l.opening } else rest))
    by_refusal true e = rst_fits t client a l (refused_line l s) s same (refusal_has_rst s e) refl refl h
    by_refusal false e = by_rst (has_rst s.flags) refl

other_fits : (t : Tuple) (client : ℕ) (a : Acking) (l : Line) (s : TcpFields) → same_tuple (tuple_of s) t ≡ false →
    AckFits t client a l → AckFits t client (acking_after t client a s) l
other_fits t client a l s other h = record {
  opening = cond-false (same_tuple (tuple_of s) t && may_open s) (Some (opening_in s)) a.opening (and_left
      (same_tuple (tuple_of s) t) (may_open s) other) ∙ h.opening;
  acked = λ of. rw (elsewhere t client a s other) (h.acked of);
}

trim_fits : (t : Tuple) (client c to : ℕ) (a : Acking) (l : Line) → AckFits t client a l →
    AckFits t client a (after_trim l c to)
unfolding after_trim
trim_fits t client c to a l h = by (is_of_client l.opening c)
  where
    by : (b : Bool) → AckFits t client a (if b then record l { base = max l.base (min to (trim_end l.symbols)) } else l)
    by true = record { opening = h.opening; acked = h.acked }
    by false = h

all_fit : (t : Tuple) (client : ℕ) (items : List Item) (a : Acking) (l : Line) → AckFits t client a l →
    AckFits t client (fold (acking_after t client) a (sent_of items)) (fold (line_after t) l items)
unfolding line_after
all_fit t client [] a l h = h
all_fit t client (sent s ∷ items) a l h = all_fit t client items (acking_after t client a s) (if same_tuple
    (tuple_of s) t then after_segment l s else l) (by (same_tuple (tuple_of s) t) refl)
  where
    by : (b : Bool) → same_tuple (tuple_of s) t ≡ b → AckFits t client (acking_after t client a s)
        (if b then after_segment l s else l)
    by true p = segment_fits t client a l s p h
    by false p = other_fits t client a l s p h
all_fit t client (trim u c to ∷ items) a l h = all_fit t client items a
    (if same_tuple u t then after_trim l c to else l) (by (same_tuple u t))
  where
    by : (b : Bool) → AckFits t client a (if b then after_trim l c to else l)
    by true = trim_fits t client c to a l h
    by false = h
all_fit t client (commit ∷ items) a l h = all_fit t client items a l h

pub acked_was_sent : (items : List Item) (t : Tuple) (o : Opening) → (line t items).opening ≡ Some o →
    (line t items).acked ≤ acked_in (sent_of items) t o.client
unfolding line acked_in
acked_was_sent items t o e =
    let h = all_fit t o.client items (record { opening = None; acked = 0 }) no_line
    (record { opening = refl; acked = λ of. absurd (true≢false (sym of)) }) in
    h.acked (ap (λ (p : Option Opening). is_of_client p o.client) e ∙ eq-eqb o.client o.client refl)
