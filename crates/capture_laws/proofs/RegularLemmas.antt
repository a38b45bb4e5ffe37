-- What a capture asks of lines holds of an empty tracker, and each call keeps it.
use Rattle.std.proofs.Common.{◌≡◌, ℕ, ◌+◌, ◌-◌, ◌<◌, Bool, true, false, ◌&&◌, ◌||◌, cond, List, [], ◌∷◌, ◌++◌, length, map, drop, refl, sym, ap, subst, ◌∙◌, arith, Option, None, Some, is_some, if◌then◌else◌, true≢false, length-append, length-drop}
use Rattle.std.specs.Prelude.{nat_le, nat_lt, max, min, unwrap_or}
use Rattle.std.specs.List.{AllByRecursion, list_any}
use Rattle.std.specs.Map.{keys_of, lookup, set_value}
use Rattle.std.proofs.lemmas.Bool.{and_parts, leb-false, leb-true, ltb-true}
use Rattle.inet_frame.specs.Counted.{counted, tuple_of}
use Rattle.inet_frame.specs.Fields.{TcpFields}
use Rattle.inet_frame.specs.Flags.{has_ack, has_fin, has_rst}
use Rattle.inet_frame.specs.declared.tuple.Tuple.{Tuple}
use Rattle.tcp_track.specs.LineFields.{IsWithin, LineFields, bytes_end, cut, end_of, fields_acked, fields_after, fields_opened, fields_refused, fields_reset, fields_trimmed, fields_with, grow_fields, grows, no_fields}
use Rattle.tcp_track.specs.Offsets.{distance}
use Rattle.tcp_track.specs.Segments.{is_refusal, may_open, opening_in, opens_anew, refused_in, same_tuple, start_of}
use Rattle.tcp_track.specs.Stands.{acked_after, is_of_client}
use Rattle.tcp_track.specs.Tracking.{Tracking, commit_entry, commit_tracking, entries_after, entry_of, entry_or_none, no_entry, nothing_tracked, put_entry, taken, tracking_after, tracking_with, trim_entry, trim_tracking}
use Rattle.tcp_track.specs.declared.openings.Opening.{Opening}
use Rattle.tcp_track.specs.declared.table.Entry.{Entry}
use Rattle.tcp_track.proofs.GrowthLemmas.{growth_fits}
use Rattle.tcp_track.proofs.TupleLemmas.{keys_of-put_entry}
use Rattle.theorem_runs.proofs.ListFacts.{all_append}
use Rattle.capture_laws.specs.Captures.{AreCapturable, AreDistinct, Capture, IsPlain, kept_of}
use Rattle.capture_laws.proofs.TrackerLemmas.{keeps_the_lines}
use Rattle.kept_checkpoint.specs.Kept.{kept_lines}
use Rattle.std.proofs.Math.Seq.{drop-nil}

-- EACH TUPLE ONCE

apart_more : (t u : Tuple) (ts : List Tuple) → same_tuple u t ≡ false
    → AllByRecursion (λ (v : Tuple). same_tuple v t ≡ false) ts
    → AllByRecursion (λ (v : Tuple). same_tuple v t ≡ false) (ts ++ u ∷ [])
apart_more t u ts other h = all_append (λ (v : Tuple). same_tuple v t ≡ false) ts (u ∷ []) h (other, tt)

or_parts : (a b : Bool) → (a || b) ≡ false → (a ≡ false) × (b ≡ false)
or_parts false false e = (refl, refl)
or_parts false true e = absurd (true≢false e)
or_parts true b e = absurd (true≢false e)

distinct_more : (u : Tuple) (ts : List Tuple) → list_any (same_tuple u) ts ≡ false → AreDistinct ts
    → AreDistinct (ts ++ u ∷ [])
distinct_more u [] new h = (tt, tt)
distinct_more u (t ∷ ts) new h =
    let parts = or_parts (same_tuple u t) (list_any (same_tuple u) ts) new in
    (apart_more t u ts parts.0 h.0, distinct_more u ts parts.1 h.1)

distinct_put : (u : Tuple) (e : Entry) (es : List (Tuple × Entry)) → AreDistinct (keys_of es)
    → AreDistinct (keys_of (put_entry es u e))
distinct_put u e es h =
    subst AreDistinct (sym (keys_of-put_entry u e es)) (by (list_any (same_tuple u) (keys_of es)) refl)
  where
    by : (b : Bool) → list_any (same_tuple u) (keys_of es) ≡ b
        → AreDistinct (if b then keys_of es else keys_of es ++ u ∷ [])
    by true is = h
    by false is = distinct_more u (keys_of es) is h

-- A PROPERTY OF EACH LINE

abbrev AllLines : (LineFields → Type 0) → List (Tuple × Entry) → Type 0
AllLines P es = AllByRecursion (λ (x : Tuple × Entry). P x.1.line) es

lines_set : (P : LineFields → Type 0) (u : Tuple) (e : Entry) (es : List (Tuple × Entry)) → P e.line
    → AllLines P es → AllLines P (set_value (same_tuple u) es e)
lines_set P u e [] p h = tt
lines_set P u e (x ∷ es) p h = by (same_tuple u x.0) (lines_set P u e es p h.1)
  where
    by : (b : Bool) → AllLines P (set_value (same_tuple u) es e)
        → AllLines P (cond b ((x.0, e) ∷ es) (x ∷ set_value (same_tuple u) es e))
    by true more = (p, h.1)
    by false more = (h.0, more)

lines_put : (P : LineFields → Type 0) (u : Tuple) (e : Entry) (es : List (Tuple × Entry)) → P e.line
    → AllLines P es → AllLines P (put_entry es u e)
lines_put P u e es p h = by (is_some (entry_of es u))
  where
    by : (b : Bool) → AllLines P (if b then set_value (same_tuple u) es e else es ++ (u, e) ∷ [])
    by true = lines_set P u e es p h
    by false = all_append (λ (x : Tuple × Entry). P x.1.line) es ((u, e) ∷ []) h (p, tt)

-- the line of a tuple, or none
line_found : (P : LineFields → Type 0) (u : Tuple) (es : List (Tuple × Entry)) → P no_fields → AllLines P es
    → P (entry_or_none es u).line
line_found P u [] none h = none
line_found P u (x ∷ es) none h = by (same_tuple u x.0) (line_found P u es none h.1)
  where
    by : (b : Bool) → P (entry_or_none es u).line
        → P (unwrap_or (cond b (Some x.1) (lookup (same_tuple u) es)) no_entry).line
    by true more = h.0
    by false more = more

-- a call keeps a property of all lines, where it keeps it of each
lines_taken : (P : LineFields → Type 0) (es : List (Tuple × Entry)) (t : Tuple) (s : TcpFields) → P no_fields
    → ((l : LineFields) → P l → P (fields_after l s)) → AllLines P es → AllLines P (entries_after es t s)
lines_taken P es t s none keeps h = by (is_some (entry_of es t) || (may_open s || is_refusal s))
  where
    e : Entry
    e = entry_or_none es t

    new : Entry
    new = record e { line = fields_after e.line s }

    by : (b : Bool) → AllLines P (if b then put_entry es t new else es)
    by true = lines_put P t new es (keeps e.line (line_found P t es none h)) h
    by false = h

lines_trimmed : (P : LineFields → Type 0) (es : List (Tuple × Entry)) (t : Tuple) (client to : ℕ) → P no_fields
    → ((l : LineFields) → P l → P (fields_trimmed l client to)) → AllLines P es
    → AllLines P (trim_entry (entry_of es t) es t client to)
lines_trimmed P es t client to none keeps h = by (entry_of es t) refl
  where
    by : (o : Option Entry) → entry_of es t ≡ o → AllLines P (trim_entry o es t client to)
    by None is = h
    by (Some e) is =
        lines_put P t (record e { line = fields_trimmed e.line client to }) es
        (keeps e.line (subst (λ (x : Option Entry). P (unwrap_or x no_entry).line) is (line_found P t es none h))) h

lines_committed : (P : LineFields → Type 0) (es : List (Tuple × Entry)) → AllLines P es
    → AllLines P (map commit_entry es)
lines_committed P [] h = tt
lines_committed P (x ∷ es) h = (h.0, lines_committed P es h.1)

keys_committed : (es : List (Tuple × Entry)) → keys_of (map commit_entry es) ≡ keys_of es
keys_committed [] = refl
keys_committed (x ∷ es) = ap (λ (ks : List Tuple). x.0 ∷ ks) (keys_committed es)

distinct_taken : (es : List (Tuple × Entry)) (t : Tuple) (s : TcpFields) → AreDistinct (keys_of es)
    → AreDistinct (keys_of (entries_after es t s))
distinct_taken es t s h = by (is_some (entry_of es t) || (may_open s || is_refusal s))
  where
    e : Entry
    e = entry_or_none es t

    new : Entry
    new = record e { line = fields_after e.line s }

    by : (b : Bool) → AreDistinct (keys_of (if b then put_entry es t new else es))
    by true = distinct_put t new es h
    by false = h

distinct_trimmed : (es : List (Tuple × Entry)) (t : Tuple) (client to : ℕ) → AreDistinct (keys_of es)
    → AreDistinct (keys_of (trim_entry (entry_of es t) es t client to))
distinct_trimmed es t client to h = by (entry_of es t)
  where
    by : (o : Option Entry) → AreDistinct (keys_of (trim_entry o es t client to))
    by None = h
    by (Some e) = distinct_put t (record e { line = fields_trimmed e.line client to }) es h

-- PLAIN WHERE UNOPENED

none-some : (o : Opening) → Some o ≡ None → ⊥
none-some o e = true≢false (ap is_some e)

plain_after : (s : TcpFields) (l : LineFields) → IsPlain l → IsPlain (fields_after l s)
unfolding fields_after
plain_after s l plain = by (is_refusal s) (has_rst s.flags) (opens_anew l.opening s)
  where
    refused : IsPlain (fields_refused l s)
    refused is =
        (λ i. fields_refused (plain is i) s)
        ∙ ap (λ (o : Option Opening). record no_fields {
          refused = Some (refused_in s);
          mac = if is_some o then l.mac else s.dst_mac;
        }) (sym is)

    reset : IsPlain (fields_reset l)
    reset is = λ i. fields_reset (plain is i)

    same_opening : (o : Opening) (b : Bool)
        → (fields_acked (if b then grow_fields l (start_of o.own s) s else l) o s).opening ≡ l.opening
    same_opening o true = refl
    same_opening o false = refl

    goes_on : (o : Option Opening) → l.opening ≡ o → IsPlain (fields_with l o s)
    goes_on None at is = plain is
    goes_on (Some o) at is =
        absurd (none-some o (sym at ∙ sym (same_opening o (grows l o.own s)) ∙ is))

    by : (a b c : Bool) → IsPlain (if a then fields_refused l s else (if b then fields_reset l else (if c then
        fields_opened l s else fields_with l l.opening s)))
    by true b c = refused
    by false true c = reset
    by false false true = λ is. absurd (none-some (opening_in s) is)
    by false false false = goes_on l.opening refl

plain_trimmed : (client to : ℕ) (l : LineFields) → IsPlain l → IsPlain (fields_trimmed l client to)
unfolding fields_trimmed
plain_trimmed client to l plain is =
    let closed : l.opening ≡ None = same_opening (is_of_client l.opening client) is in
    ap (λ (o : Option Opening). if is_of_client o client then cut l (min to (bytes_end l)) else l) closed
    ∙ plain closed
    ∙ ap (λ (o : Option Opening). record no_fields {
      refused = (if is_of_client o client then cut l (min to (bytes_end l)) else l).refused;
      mac = (if is_of_client o client then cut l (min to (bytes_end l)) else l).mac;
    }) (sym closed)
  where
    same_opening : (b : Bool) → (if b then cut l (min to (bytes_end l)) else l).opening ≡ None → l.opening ≡ None
    same_opening true e = e
    same_opening false e = e

-- WITHIN BOUNDS

acked_low : (acked client : ℕ) (s : TcpFields) → acked < 2147483648 → acked_after acked client s < 2147483648
acked_low acked client s low = by (has_ack s.flags && nat_lt (distance client s.ack) 2147483648) refl
  where
    by : (b : Bool) → (has_ack s.flags && nat_lt (distance client s.ack) 2147483648) ≡ b
        → (if b then max acked (distance client s.ack) else acked) < 2147483648
    by true e =
        let near = ltb-true (distance client s.ack) 2147483648
        (and_parts (has_ack s.flags) (nat_lt (distance client s.ack) 2147483648) e).1 in
        omega (arith, near, low)
    by false e = low

none_within : IsWithin no_fields
none_within = record { end = omega arith; acked = omega arith; no_bytes = λ e. refl; no_fin = λ e. refl }

abbrev one_if : Bool → ℕ
one_if b = if b then 1 else 0

grown_low : (l : LineFields) (o : Opening) (s : TcpFields) → IsWithin l → grows l o.own s ≡ true
    → end_of (grow_fields l (start_of o.own s) s) < 2147483648
grown_low l o s within h =
    by (nat_le (bytes_end l - start_of o.own s) (length s.payload)) refl
  where
    new : List ℕ
    new = l.bytes ++ drop (bytes_end l - start_of o.own s) s.payload

    lengths : length new ≡ length l.bytes + (length s.payload - (bytes_end l - start_of o.own s))
    lengths =
        length-append l.bytes (drop (bytes_end l - start_of o.own s) s.payload)
        ∙ ap (λ (n : ℕ). length l.bytes + n) (length-drop (bytes_end l - start_of o.own s) s.payload)

    and-true-right : (b : Bool) → (b && true) ≡ b
    and-true-right true = refl
    and-true-right false = refl

    and-false-right : (b : Bool) → (b && false) ≡ false
    and-false-right true = refl
    and-false-right false = refl

    by : (b : Bool) → nat_le (bytes_end l - start_of o.own s) (length s.payload) ≡ b
        → max l.base 1 + length new + (if has_fin s.flags && b then 1 else 0) < 2147483648
    by true e =
        let known = leb-true (bytes_end l - start_of o.own s) (length s.payload) e in
        growth_fits l o.own s new (has_fin s.flags && true) h known lengths (and-true-right (has_fin s.flags))
    by false e =
        let past : length s.payload < bytes_end l - start_of o.own s =
        leb-false (bytes_end l - start_of o.own s) (length s.payload) e in
        let none = ap one_if (and-false-right (has_fin s.flags)) in
        omega (arith, past, none, lengths, within.end)

within_acked : (l m : LineFields) (o : Opening) (s : TcpFields) → l.opening ≡ Some o → m.opening ≡ l.opening
    → end_of m < 2147483648 → m.acked ≡ l.acked → IsWithin l → IsWithin (fields_acked m o s)
within_acked l m o s is same low acked within = record {
  end = low;
  acked = acked_low m.acked o.client s (subst (λ (n : ℕ). n < 2147483648) (sym acked) within.acked);
  no_bytes = λ e. absurd (true≢false (sym (ap is_some (same ∙ is)) ∙ e));
  no_fin = λ e. absurd (true≢false (sym (ap is_some (same ∙ is)) ∙ e));
}

within_goes : (l : LineFields) (s : TcpFields) (o : Option Opening) → l.opening ≡ o → IsWithin l
    → IsWithin (fields_with l o s)
within_goes l s None is within = within
within_goes l s (Some o) is within = by (grows l o.own s) refl
  where
    by : (b : Bool) → grows l o.own s ≡ b
        → IsWithin (fields_acked (if b then grow_fields l (start_of o.own s) s else l) o s)
    by true e = within_acked l (grow_fields l (start_of o.own s) s) o s is refl (grown_low l o s within e) refl within
    by false e = within_acked l l o s is refl within.end refl within

within_after : (s : TcpFields) (l : LineFields) → IsWithin l → IsWithin (fields_after l s)
unfolding fields_after
within_after s l within = by (is_refusal s) (has_rst s.flags) (opens_anew l.opening s)
  where
    refused : IsWithin (fields_refused l s)
    refused = record {
      end = within.end;
      acked = within.acked;
      no_bytes = within.no_bytes;
      no_fin = within.no_fin;
    }

    reset : IsWithin (fields_reset l)
    reset = record {
      end = within.end;
      acked = within.acked;
      no_bytes = within.no_bytes;
      no_fin = within.no_fin;
    }

    opened : IsWithin (fields_opened l s)
    opened = record {
      end = omega arith;
      acked = acked_low 0 (opening_in s).client s (omega arith);
      no_bytes = λ e. refl;
      no_fin = λ e. refl;
    }

    by : (a b c : Bool) → IsWithin (if a then fields_refused l s else (if b then fields_reset l else (if c then
        fields_opened l s else fields_with l l.opening s)))
    by true b c = refused
    by false true c = reset
    by false false true = opened
    by false false false = within_goes l s l.opening refl within

within_trimmed : (client to : ℕ) (l : LineFields) → IsWithin l → IsWithin (fields_trimmed l client to)
unfolding fields_trimmed
within_trimmed client to l within = by (is_of_client l.opening client)
  where
    none_left : (n : ℕ) (bs : List ℕ) → bs ≡ [] → drop n bs ≡ []
    none_left n bs e = ap (drop n) e ∙ drop-nil n

    cuts : IsWithin (cut l (min to (bytes_end l)))
    cuts = record {
      end = omega (arith, within.end, length-drop (min to (bytes_end l) - max l.base 1) l.bytes);
      acked = within.acked;
      no_bytes = λ e. none_left (min to (bytes_end l) - max l.base 1) l.bytes (within.no_bytes e);
      no_fin = within.no_fin;
    }

    by : (b : Bool) → IsWithin (if b then cut l (min to (bytes_end l)) else l)
    by true = cuts
    by false = within

-- ALL CALLS

pub begins_regular : AreCapturable nothing_tracked
begins_regular = record { regular = record { distinct = tt; plain = tt }; within = tt }

none_plain : IsPlain no_fields
none_plain e = refl

pub takes_regularly : (lines : Tracking) (frame : List ℕ) → AreCapturable lines → AreCapturable (taken lines frame)
unfolding tracking_after
takes_regularly lines frame h = by (counted frame)
  where
    by : (o : Option TcpFields) → AreCapturable (tracking_with lines o)
    by None = h
    by (Some s) = record {
      regular = record {
        distinct = distinct_taken lines.entries (tuple_of s) s h.regular.distinct;
        plain = lines_taken IsPlain lines.entries (tuple_of s) s none_plain (plain_after s) h.regular.plain;
      };
      within = lines_taken IsWithin lines.entries (tuple_of s) s none_within (within_after s) h.within;
    }

pub trims_regularly : (lines : Tracking) (t : Tuple) (client to : ℕ) → AreCapturable lines
    → AreCapturable (trim_tracking lines t client to)
unfolding trim_tracking
trims_regularly lines t client to h = record {
  regular = record {
    distinct = distinct_trimmed lines.entries t client to h.regular.distinct;
    plain = lines_trimmed IsPlain lines.entries t client to none_plain (plain_trimmed client to) h.regular.plain;
  };
  within = lines_trimmed IsWithin lines.entries t client to none_within (within_trimmed client to) h.within;
}

pub commits_regularly : (lines : Tracking) → AreCapturable lines → AreCapturable (commit_tracking lines)
commits_regularly lines h = record {
  regular = record {
    distinct = subst AreDistinct (sym (keys_committed lines.entries)) h.regular.distinct;
    plain = lines_committed IsPlain lines.entries h.regular.plain;
  };
  within = lines_committed IsWithin lines.entries h.within;
}

pub keeps_regularly : (x : Capture) (e : ℕ) → AreCapturable x.lines → AreCapturable (kept_lines (kept_of x e))
keeps_regularly x e h =
    subst AreCapturable (sym (keeps_the_lines x e h.regular)) (commits_regularly x.lines h)
