-- What a line holds stands in what was sent.
use Rattle.std.proofs.Common.{◌≡◌, ◌⊎◌, inl, inr, ℕ, ◌-◌, ◌≤◌, ◌||◌, ◌&&◌, ◌==◌, not, if◌then◌else◌, nat_lt, Bool, true, false, List, [], ◌∷◌, ◌++◌, append_assoc, append-nil, length, drop, slice_get, fold, filter_map, Option, None, Some, refl, sym, ap, subst, ◌∙◌, arith, eqb-true, eq-eqb, le-ltb, ltb-false, true≢false, ap₂, zero, suc, is_some, max, min}
use Rattle.std.proofs.lemmas.Bool.{cond_both, and_parts, and_left, and_right, or_parts, and_from, and_cases, not-true, not-false, cond-true, cond-false}
use Rattle.std.proofs.lemmas.Grind.{fold-append}
use Rattle.std.proofs.lemmas.List.Elements.{filter_map-append}
use Rattle.inet_frame.specs.Counted.{tuple_of}
use Rattle.inet_frame.specs.Fields.{TcpFields}
use Rattle.inet_frame.specs.Flags.{has_syn, has_ack, has_rst}
use Rattle.inet_frame.specs.declared.tuple.Tuple.{Tuple}
use Rattle.tcp_track.specs.Segments.{Symbol, syn, same_tuple, same_opening, opening_in, may_open, is_refusal, symbols_in, start_of, symbol_in}
use Rattle.tcp_track.specs.Stands.{opening_after, opening_of, is_of_client, Stands}
use Rattle.tcp_track.specs.Lines.{Item, Line, no_line, after_segment, opened_line, refused_line, line_with, lengthen, has_ended, line_after, line, segment_of, sent, trim, commit, after_trim, trim_end}
use Rattle.tcp_track.specs.declared.openings.Opening.{Opening}
use Rattle.tcp_track.proofs.ElementLemmas.{from_end}
use Rattle.tcp_track.proofs.TupleLemmas.{same_tuple-eq}

-- the client of an opening
abbrev pub client_or_none : Option Opening → ℕ
client_or_none None = 0
client_or_none (Some o) = o.client

pub record Fits (t : Tuple) (said : List TcpFields) (l : Line) : Type 0 where
  pub opened : opening_of t said ≡ l.opening
  pub stands : (k : ℕ) (x : Symbol) → slice_get l.symbols k ≡ Some x → Stands said t (client_or_none l.opening) k x

-- one segment more
stays : (said : List TcpFields) (s : TcpFields) (t : Tuple) (client k : ℕ) (x : Symbol) → Stands said t client k x →
    Stands (said ++ s ∷ []) t client k x
stays said s t client k x h = record {
  before = h.before;
  carrier = h.carrier;
  later = h.later ++ s ∷ [];
  own = h.own;
  place = ap (λ (xs : List TcpFields). xs ++ s ∷ []) h.place ∙ append_assoc h.before (h.carrier ∷ h.later) (s ∷ []);
  on = h.on;
  opened = h.opened;
  carries = h.carries;
}

pub opening_more : (t : Tuple) (said : List TcpFields) (s : TcpFields) →
    opening_of t (said ++ s ∷ []) ≡ opening_after t (opening_of t said) s
unfolding opening_of
opening_more t said s = fold-append (opening_after t) None said (s ∷ [])

-- a line with the same opening, whose symbols are old ones or are symbols_in by the new segment on that opening
fits_with : (t : Tuple) (said : List TcpFields) (s : TcpFields) (l m : Line) → Fits t said l → m.opening ≡ l.opening →
    opening_after t l.opening s ≡ l.opening → ((k : ℕ) (x : Symbol) → slice_get m.symbols k ≡ Some x →
    (slice_get l.symbols k ≡ Some x) ⊎ Stands (said ++ s ∷ []) t (client_or_none l.opening) k x) →
    Fits t (said ++ s ∷ []) m
fits_with t said s l m h e after new = record {
  opened = opening_more t said s ∙ (ap (λ (o : Option Opening). opening_after t o s) h.opened ∙ (after ∙ sym e));
  stands = λ k x f. subst (λ (o : Option Opening). Stands (said
      ++ s ∷ []) t (client_or_none o) k x) (sym e) (by k x (new k x f));
}
  where
    by : (k : ℕ) (x : Symbol) → (slice_get l.symbols k ≡ Some x) ⊎ Stands (said
        ++ s ∷ []) t (client_or_none l.opening) k x → Stands (said ++ s ∷ []) t (client_or_none l.opening) k x
    by k x (inl old) = stays said s t (client_or_none l.opening) k x (h.stands k x old)
    by k x (inr now) = now

fits_same : (t : Tuple) (said : List TcpFields) (s : TcpFields) (l m : Line) → Fits t said l → m.opening ≡ l.opening →
    opening_after t l.opening s ≡ l.opening → m.symbols ≡ l.symbols → Fits t (said ++ s ∷ []) m
fits_same t said s l m h e after same = fits_with t said s l m h e after (λ k x f. inl (ap (λ
    (xs : List Symbol). slice_get xs k) (sym same) ∙ f))

-- what the segment carries on the current opening
carries_now : (t : Tuple) (said : List TcpFields) (s : TcpFields) (o : Opening) (k : ℕ) (x : Symbol) → tuple_of s ≡ t →
    opening_of t (said ++ s ∷ []) ≡ Some o → start_of o.own s ≤ k →
    slice_get (symbols_in o.own s) (k - start_of o.own s) ≡ Some x → Stands (said ++ s ∷ []) t o.client k x
carries_now t said s o k x on e low f = record {
  before = said;
  carrier = s;
  later = [];
  own = o.own;
  place = refl;
  on = on;
  opened = e;
  carries = cond-false (nat_lt k (start_of o.own s)) None (slice_get (symbols_in o.own s) (k - start_of o.own s))
      (le-ltb k (start_of o.own s) low) ∙ f;
}

grown_cases : (b : Bool) (t : Tuple) (said : List TcpFields) (s : TcpFields) (l : Line) (o : Opening) (k : ℕ)
    (x : Symbol) → (has_ended l.symbols || nat_lt (length l.symbols) (start_of o.own s)) ≡ b → tuple_of s ≡ t →
    opening_of t (said ++ s ∷ []) ≡ Some o → slice_get (if b then l.symbols else l.symbols
    ++ drop (length l.symbols - start_of o.own s) (symbols_in o.own s)) k ≡ Some x →
    (slice_get l.symbols k ≡ Some x) ⊎ Stands (said ++ s ∷ []) t o.client k x
grown_cases true t said s l o k x e on opened f = inl f
grown_cases false t said s l o k x e on opened f = by (from_end l.symbols (symbols_in o.own s)
    (start_of o.own s) k x low f)
  where
    low : start_of o.own s ≤ length l.symbols
    low = ltb-false (length l.symbols) (start_of o.own s) (or_parts (has_ended l.symbols) (nat_lt (length l.symbols)
        (start_of o.own s)) e).1

    by : (slice_get l.symbols k ≡ Some x) ⊎ ((length l.symbols ≤ k) × (slice_get (symbols_in o.own s)
        (k - start_of o.own s) ≡ Some x)) → (slice_get l.symbols k ≡ Some x) ⊎ Stands (said ++ s ∷ []) t o.client k x
    by (inl old) = inl old
    by (inr new) = inr (carries_now t said s o k x on opened (omega (arith, low, new.0)) new.1)

-- a repeated SYN adds nothing
syn_cases : (b : Bool) (t : Tuple) (said : List TcpFields) (s : TcpFields) (l : Line) (o : Opening) (k : ℕ)
    (x : Symbol) → tuple_of s ≡ t → opening_of t (said ++ s ∷ []) ≡ Some o →
    slice_get (if b then l.symbols else lengthen l.symbols (start_of o.own s) (symbols_in o.own s)) k ≡ Some x →
    (slice_get l.symbols k ≡ Some x) ⊎ Stands (said ++ s ∷ []) t o.client k x
syn_cases true t said s l o k x on opened f = inl f
syn_cases false t said s l o k x on opened f = grown_cases (has_ended l.symbols || nat_lt (length l.symbols)
    (start_of o.own s)) t said s l o k x refl on opened f

line_with_fits : (t : Tuple) (said : List TcpFields) (s : TcpFields) (l : Line) (o : Option Opening) → l.opening ≡ o →
    Fits t said l → tuple_of s ≡ t → opening_after t l.opening s ≡ l.opening → Fits t (said ++ s ∷ []) (line_with l o s)
line_with_fits t said s l None e h on after = fits_same t said s l l h refl after refl
line_with_fits t said s l (Some o) e h on after =
    let opened : opening_of t (said ++ s ∷ []) ≡ Some o = opening_more t said s
    ∙ (ap (λ (p : Option Opening). opening_after t p s) h.opened ∙ (after ∙ e)) in
    fits_with t said s l (line_with l (Some o) s) h refl after
    (λ k x f. subst (λ (p : Option Opening). (slice_get l.symbols k
    ≡ Some x) ⊎ Stands (said ++ s ∷ []) t (client_or_none p) k x) (sym e) (syn_cases
    (has_syn s.flags) t said s l o k x on opened f))

pub not_opening : (t : Tuple) (o : Option Opening) (s : TcpFields) → may_open s ≡ false → opening_after t o s ≡ o
not_opening t o s h = cond-false (same_tuple (tuple_of s) t && may_open s) (Some (opening_in s)) o (and_right
    (same_tuple (tuple_of s) t) (may_open s) h)

pub rst_opens_not : (s : TcpFields) → has_rst s.flags ≡ true → may_open s ≡ false
unfolding may_open
rst_opens_not s h = and_right (has_syn s.flags) (has_ack s.flags && not (has_rst s.flags)) (and_right
    (has_ack s.flags) (not (has_rst s.flags)) (ap (λ (b : Bool). not b) h))

pub same_opening_is : (o : Option Opening) (p : Opening) → same_opening o p ≡ true → o ≡ Some p
same_opening_is None p h = absurd (true≢false (sym h))
same_opening_is (Some o) p h = let parts = and_parts (o.client == p.client) (o.own == p.own) h in
    ap₂ (λ (c w : ℕ). Some (record { client = c; own = w })) (eqb-true o.client p.client parts.0)
    (eqb-true o.own p.own parts.1)

starts_at_own : (s : TcpFields) → start_of s.seq s ≡ 0
starts_at_own s = omega arith

carries_syn : (s : TcpFields) → may_open s ≡ true → symbols_in s.seq s ≡ syn ∷ []
unfolding may_open symbols_in
carries_syn s h =
    let parts = and_parts (has_syn s.flags) (has_ack s.flags && not (has_rst s.flags)) h in
    let rst = not-true (has_rst s.flags) (and_parts (has_ack s.flags) (not (has_rst s.flags)) parts.1).1 in
    rw (rst, parts.0, eq-eqb s.seq s.seq refl) refl

syn_there : (s : TcpFields) → may_open s ≡ true → symbol_in s.seq s 0 ≡ Some syn
syn_there s h = rw (starts_at_own s, carries_syn s h) refl

opened_fits : (t : Tuple) (said : List TcpFields) (s : TcpFields) (l : Line) → tuple_of s ≡ t →
    same_tuple (tuple_of s) t ≡ true → may_open s ≡ true → Fits t (said ++ s ∷ []) (opened_line l s)
opened_fits t said s l on same opens = record { opened = opened; stands = at }
  where
    opened : opening_of t (said ++ s ∷ []) ≡ Some (opening_in s)
    opened = opening_more t said s ∙ cond-true (same_tuple (tuple_of s) t && may_open s) (Some (opening_in s))
        (opening_of t said) (and_from (same_tuple (tuple_of s) t) (may_open s) same opens)

    first : (x : Symbol) → Some syn ≡ Some x → Stands (said ++ s ∷ []) t (opening_in s).client 0 x
    first x f = record {
      before = said;
      carrier = s;
      later = [];
      own = s.seq;
      place = refl;
      on = on;
      opened = opened;
      carries = syn_there s opens ∙ f;
    }

    at : (k : ℕ) (x : Symbol) → slice_get (opened_line l s).symbols k ≡ Some x →
        Stands (said ++ s ∷ []) t (opening_in s).client k x
    at zero x f = first x f
    at (suc k) x f = absurd (true≢false (sym (ap (λ (o : Option Symbol). is_some o) f)))

segment_fits : (t : Tuple) (said : List TcpFields) (s : TcpFields) (l : Line) → Fits t said l → tuple_of s ≡ t →
    same_tuple (tuple_of s) t ≡ true → Fits t (said ++ s ∷ []) (after_segment l s)
unfolding after_segment is_refusal
segment_fits t said s l h on same =
    cond_both (is_refusal s) (refused_line l s) (if has_rst s.flags then resets else
    (if starts then opened_line l s else line_with l l.opening s)) (Fits t (said ++ s ∷ []))
    (λ e. fits_same t said s l (refused_line l s) h refl (not_opening t l.opening s (rst_opens_not s (and_parts
    (has_rst s.flags) (has_ack s.flags && s.seq == 0) e).0)) refl)
    (λ e. cond_both (has_rst s.flags) resets (if starts then opened_line l s else line_with l l.opening s) (Fits t
    (said ++ s ∷ []))
    (λ f. fits_same t said s l resets h refl (not_opening t l.opening s (rst_opens_not s f)) refl)
    (λ f. cond_both starts (opened_line l s) (line_with l l.opening s) (Fits t (said ++ s ∷ []))
    (λ g. opened_fits t said s l on same (and_parts (may_open s) (not (same_opening l.opening (opening_in s))) g).0)
    (λ g. line_with_fits t said s l l.opening refl h on (kept (and_cases (may_open s) (not (same_opening l.opening
    (opening_in s))) g)))))
  where
    resets : Line
    resets = record l { reset = is_some l.opening }

    starts : Bool
    starts = may_open s && not (same_opening l.opening (opening_in s))

    kept : (may_open s ≡ false) ⊎ (not (same_opening l.opening (opening_in s)) ≡ false) →
        opening_after t l.opening s ≡ l.opening
    kept (inl e) = not_opening t l.opening s e
    kept (inr e) = cond_both (same_tuple (tuple_of s) t && may_open s) (Some (opening_in s)) l.opening (λ o. o
        ≡ l.opening) (λ g. sym (same_opening_is l.opening (opening_in s) (not-false (same_opening l.opening
        (opening_in s)) e))) (λ g. refl)

trimmed_opening : (l : Line) (client to : ℕ) → (after_trim l client to).opening ≡ l.opening
unfolding after_trim
trimmed_opening l client to = cond_both (is_of_client l.opening client) (record l {
  base = max l.base (min to
      (trim_end l.symbols));
}) l (λ m. m.opening ≡ l.opening) (λ e. refl) (λ e. refl)

trimmed_symbols : (l : Line) (client to : ℕ) → (after_trim l client to).symbols ≡ l.symbols
unfolding after_trim
trimmed_symbols l client to = cond_both (is_of_client l.opening client) (record l {
  base = max l.base (min to
      (trim_end l.symbols));
}) l (λ m. m.symbols ≡ l.symbols) (λ e. refl) (λ e. refl)

moved : (t : Tuple) (said : List TcpFields) (l m : Line) → Fits t said l → m.opening ≡ l.opening →
    m.symbols ≡ l.symbols → Fits t said m
moved t said l m h e f = record {
  opened = h.opened ∙ sym e;
  stands = λ k x g. subst (λ (o : Option Opening). Stands said t (client_or_none o) k x) (sym e) (h.stands k x (ap (λ
      (xs : List Symbol). slice_get xs k) (sym f) ∙ g));
}

item_fits : (t : Tuple) (said : List TcpFields) (l : Line) (i : Item) → Fits t said l →
    Fits t (said ++ filter_map segment_of (i ∷ [])) (line_after t l i)
unfolding line_after
item_fits t said l (sent s) h = cond_both (same_tuple (tuple_of s) t) (after_segment l s) l (Fits t (said ++ s ∷ []))
    (λ e. segment_fits t said s l h (same_tuple-eq (tuple_of s) t e) e)
    (λ e. fits_same t said s l l h refl (cond-false (same_tuple (tuple_of s) t && may_open s) (Some
    (opening_in s)) l.opening (and_left (same_tuple (tuple_of s) t) (may_open s) e)) refl)
item_fits t said l (trim u client to) h = subst (λ (xs : List TcpFields). Fits t xs (line_after t l
    (trim u client to))) (sym (append-nil said))
    (cond_both (same_tuple u t) (after_trim l client to) l (Fits t said) (λ e. moved t said l
    (after_trim l client to) h (trimmed_opening l client to) (trimmed_symbols l client to)) (λ e. h))
item_fits t said l commit h = subst (λ (xs : List TcpFields). Fits t xs l) (sym (append-nil said)) h

-- what holds of no line and lasts from call to call holds after all
pub after_all : (t : Tuple) (P : List TcpFields → Line → Type 0) →
    ((said : List TcpFields) (l : Line) (i : Item) → P said l →
    P (said ++ filter_map segment_of (i ∷ [])) (line_after t l i)) →
    (said : List TcpFields) (l : Line) (items : List Item) → P said l →
    P (said ++ filter_map segment_of items) (fold (line_after t) l items)
after_all t P each said l [] h = subst (λ (xs : List TcpFields). P xs l) (sym (append-nil said)) h
after_all t P each said l (i ∷ items) h =
    subst (λ (xs : List TcpFields). P xs (fold (line_after t) (line_after t l i) items))
    (append_assoc said (filter_map segment_of (i ∷ [])) (filter_map segment_of items)
    ∙ ap (λ (xs : List TcpFields). said ++ xs) (sym (filter_map-append segment_of (i ∷ []) items)))
    (after_all t P each (said ++ filter_map segment_of (i ∷ [])) (line_after t l i) items (each said l i h))

-- every symbol of a line stands in what was sent, and the line's opening is the current one
pub line_fits : (t : Tuple) (items : List Item) → Fits t (filter_map segment_of items) (line t items)
unfolding line opening_of
line_fits t items = after_all t (Fits t) (item_fits t) [] no_line items (record {
  opened = refl;
  stands = λ k x f. absurd (true≢false (sym (ap
      (λ (o : Option Symbol). is_some o) f)));
})
