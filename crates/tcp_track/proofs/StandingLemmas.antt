-- A tracker that stands for what was sent goes on to do so, call by call.
use Rattle.std.proofs.Common.{◌≡◌, ℕ, Bool, true, false, ◌&&◌, ◌||◌, if◌then◌else◌, cond, List, [], ◌∷◌, map, fold, Option, None, Some, refl, sym, ap, subst, ◌∙◌, true≢false}
use Rattle.std.specs.Prelude.{is_some, unwrap_or}
use Rattle.std.specs.List.{cons_option}
use Rattle.std.specs.Option.{option_map}
use Rattle.std.proofs.lemmas.Bool.{or_parts}
use Rattle.inet_frame.specs.Counted.{counted, tuple_of}
use Rattle.inet_frame.specs.Fields.{TcpFields}
use Rattle.inet_frame.specs.Flags.{has_rst}
use Rattle.inet_frame.specs.declared.tuple.Tuple.{Tuple}
use Rattle.tcp_track.specs.Segments.{same_tuple, may_open, is_refusal}
use Rattle.tcp_track.specs.Lines.{sent, trim, Line, no_line, refused_line, opened_line, after_segment, after_trim, line_after, line}
use Rattle.tcp_track.specs.LineFields.{fields_after, fields_trimmed}
use Rattle.tcp_track.specs.Tracking.{Tracking, nothing_tracked, entry_of, entry_or_none, no_entry, put_entry, entries_after, trim_entry, tracking_after, tracking_with, trim_tracking, commit_entry, commit_tracking}
use Rattle.tcp_track.specs.Laws.{Call, takes, trims, commits, call_after, items_of, IsHeld}
use Rattle.tcp_track.specs.declared.table.Entry.{Entry}
use Rattle.tcp_track.proofs.TupleLemmas.{same_tuple-refl, same_tuple-eq, entry_of-put_same, entry_of-put_other}
use Rattle.tcp_track.proofs.TyingLemmas.{Tied, tied_none, tied_segment, tied_trim}

-- a tuple's line, and what the entries hold of it
pub record Held (t : Tuple) (l : Line) (entries : List (Tuple × Entry)) : Type 0 where
  pub tied : Tied l (entry_or_none entries t).line
  pub absent : entry_of entries t ≡ None → l ≡ no_line

pub same_tuple-sym : (t u : Tuple) → same_tuple u t ≡ false → same_tuple t u ≡ false
same_tuple-sym t u other = by (same_tuple t u) refl
  where
    by : (b : Bool) → same_tuple t u ≡ b → b ≡ false
    by true p = absurd (true≢false (sym (subst (λ (x : Tuple). same_tuple x t
        ≡ true) (same_tuple-eq t u p) (same_tuple-refl t)) ∙ other))
    by false p = refl

some≢none : {X : Type 0} (x : X) → Some x ≡ None → ⊥
some≢none x e = true≢false (ap is_some e)

held_put : (t : Tuple) (l : Line) (entries : List (Tuple × Entry)) (e : Entry) → Tied l e.line →
    Held t l (put_entry entries t e)
held_put t l entries e tied = let at = entry_of-put_same t e entries in record {
  tied = subst (λ (o : Option Entry). Tied l (unwrap_or o no_entry).line) (sym at) tied;
  absent = λ none. absurd (some≢none e (sym at ∙ none));
}

held_other : (t u : Tuple) (l : Line) (entries : List (Tuple × Entry)) (e : Entry) → same_tuple u t ≡ false →
    Held t l entries → Held t l (put_entry entries u e)
held_other t u l entries e other h = let at = entry_of-put_other t u e entries (same_tuple-sym t u other) in record {
  tied = subst (λ (o : Option Entry). Tied l (unwrap_or o no_entry).line) (sym at) h.tied;
  absent = λ none. h.absent (sym at ∙ none);
}

-- a segment that neither opens nor refuses leaves no line where there was none
ignored-line : (s : TcpFields) → may_open s ≡ false → is_refusal s ≡ false → after_segment no_line s ≡ no_line
unfolding after_segment
ignored-line s m r = (λ i. if r i then refused_line no_line s else (if has_rst s.flags then no_line else
    (if m i && true then opened_line no_line s else no_line))) ∙ by (has_rst s.flags)
  where
    by : (b : Bool) → (if b then no_line else no_line) ≡ no_line
    by true = refl
    by false = refl

held_segment_same : (t : Tuple) (l : Line) (entries : List (Tuple × Entry)) (s : TcpFields) → Held t l entries →
    Held t (after_segment l s) (entries_after entries t s)
held_segment_same t l entries s h = by (is_some (entry_of entries t) || (may_open s || is_refusal s)) refl
  where
    e : Entry
    e = entry_or_none entries t

    none_there : (o : Option Entry) → entry_of entries t ≡ o → is_some o ≡ false → entry_of entries t ≡ None
    none_there None p q = p
    none_there (Some x) p q = absurd (true≢false q)

    by : (b : Bool) → (is_some (entry_of entries t) || (may_open s || is_refusal s)) ≡ b →
        Held t (after_segment l s) (if b then put_entry entries t
        (record e { line = fields_after e.line s }) else entries)
    by true p = held_put t (after_segment l s) entries (record e { line = fields_after e.line s })
        (tied_segment l e.line s h.tied)
    by false p =
        let parts = or_parts (is_some (entry_of entries t)) (may_open s || is_refusal s) p in
        let more = or_parts (may_open s) (is_refusal s) parts.1 in
        let no = h.absent (none_there (entry_of entries t) refl parts.0) in
        let same : l ≡ after_segment l s = no ∙ (sym (ignored-line s more.0 more.1)
        ∙ ap (λ (k : Line). after_segment k s) (sym no)) in
        subst (λ (k : Line). Held t k entries) same h

held_segment : (t : Tuple) (l : Line) (entries : List (Tuple × Entry)) (s : TcpFields) → Held t l entries →
    Held t (if same_tuple (tuple_of s) t then after_segment l s else l) (entries_after entries (tuple_of s) s)
held_segment t l entries s h = by (same_tuple (tuple_of s) t) refl
  where
    other : same_tuple (tuple_of s) t ≡ false → (b : Bool) (e : Entry) →
        Held t l (if b then put_entry entries (tuple_of s) e else entries)
    other p true e = held_other t (tuple_of s) l entries e p h
    other p false e = h

    by : (b : Bool) → same_tuple (tuple_of s) t ≡ b → Held t (if b then after_segment l s else l)
        (entries_after entries (tuple_of s) s)
    by true p = subst (λ (u : Tuple). Held t (after_segment l s) (entries_after entries u s)) (sym (same_tuple-eq
        (tuple_of s) t p)) (held_segment_same t l entries s h)
    by false p = other p (is_some (entry_of entries (tuple_of s)) || (may_open s || is_refusal s)) (record
        (entry_or_none entries (tuple_of s)) { line = fields_after (entry_or_none entries (tuple_of s)).line s })

-- a trim
after_trim-none : (client to : ℕ) → after_trim no_line client to ≡ no_line
unfolding after_trim
after_trim-none client to = refl

held_trim_same : (t : Tuple) (l : Line) (entries : List (Tuple × Entry)) (client to : ℕ) → Held t l entries →
    Held t (after_trim l client to) (trim_entry (entry_of entries t) entries t client to)
held_trim_same t l entries client to h = by (entry_of entries t) refl
  where
    by : (o : Option Entry) → entry_of entries t ≡ o → Held t (after_trim l client to)
        (trim_entry o entries t client to)
    by None p =
        let no = h.absent p in
        subst (λ (k : Line). Held t k entries) (no ∙ (sym (after_trim-none client to)
        ∙ ap (λ (k : Line). after_trim k client to) (sym no))) h
    by (Some e) p = held_put t (after_trim l client to) entries (record e { line = fields_trimmed e.line client to })
        (tied_trim l e.line client to (subst (λ (o : Option Entry). Tied l (unwrap_or o no_entry).line) p h.tied))

held_trim : (t u : Tuple) (l : Line) (entries : List (Tuple × Entry)) (client to : ℕ) → Held t l entries →
    Held t (if same_tuple u t then after_trim l client to else l) (trim_entry (entry_of entries u) entries u client to)
held_trim t u l entries client to h = by (same_tuple u t) refl
  where
    other : same_tuple u t ≡ false → (o : Option Entry) → Held t l (trim_entry o entries u client to)
    other p None = h
    other p (Some e) = held_other t u l entries (record e { line = fields_trimmed e.line client to }) p h

    by : (b : Bool) → same_tuple u t ≡ b → Held t (if b then after_trim l client to else l) (trim_entry
        (entry_of entries u) entries u client to)
    by true p = subst (λ (v : Tuple). Held t (after_trim l client to) (trim_entry
        (entry_of entries v) entries v client to)) (sym (same_tuple-eq u t p)) (held_trim_same t l entries client to h)
    by false p = other p (entry_of entries u)

-- a commit
abbrev pub commit_found : Option Entry → Option Entry
commit_found None = None
commit_found (Some e) = Some (record e { at_commit = e.line.opening })

pub entry_of-commit : (t : Tuple) (entries : List (Tuple × Entry)) →
    entry_of (map commit_entry entries) t ≡ commit_found (entry_of entries t)
entry_of-commit t [] = refl
entry_of-commit t (x ∷ xs) = by (same_tuple t x.0) (entry_of-commit t xs)
  where
    by : (b : Bool) → entry_of (map commit_entry xs) t ≡ commit_found (entry_of xs t) →
        cond b (Some (record x.1 { at_commit = x.1.line.opening })) (entry_of (map commit_entry xs) t)
        ≡ commit_found (cond b (Some x.1) (entry_of xs t))
    by true more = refl
    by false more = more

held_commit : (t : Tuple) (l : Line) (entries : List (Tuple × Entry)) → Held t l entries →
    Held t l (map commit_entry entries)
held_commit t l entries h = record {
  tied = subst (λ (o : Option Entry). Tied l (unwrap_or o no_entry).line) (sym (entry_of-commit t entries)) (by_line
      (entry_of entries t) h.tied);
  absent = λ none. h.absent (by_none (entry_of entries t) refl (sym (entry_of-commit t entries) ∙ none));
}
  where
    by_line : (o : Option Entry) → Tied l (unwrap_or o no_entry).line →
        Tied l (unwrap_or (commit_found o) no_entry).line
    by_line None tied = tied
    by_line (Some e) tied = tied

    by_none : (o : Option Entry) → entry_of entries t ≡ o → commit_found o ≡ None → entry_of entries t ≡ None
    by_none None p q = p
    by_none (Some e) p q = absurd (some≢none _ q)

-- all calls
held_calls : (t : Tuple) (calls : List Call) (l : Line) (tracking : Tracking) → Held t l tracking.entries →
    Held t (fold (line_after t) l (items_of calls)) (fold call_after tracking calls).entries
unfolding line_after tracking_after trim_tracking
held_calls t [] l tracking h = h
held_calls t (takes frame ∷ calls) l tracking h = by (counted frame) (held_calls t calls)
  where
    by : (o : Option TcpFields) → ((m : Line) (now : Tracking) → Held t m now.entries →
        Held t (fold (line_after t) m (items_of calls)) (fold call_after now calls).entries) →
        Held t (fold (line_after t) l (cons_option (option_map sent o) (items_of calls))) (fold call_after
        (tracking_with tracking o) calls).entries
    by None more = more l tracking h
    by (Some s) more = more (line_after t l (sent s)) (tracking_after tracking s)
        (held_segment t l tracking.entries s h)
held_calls t (trims u client to ∷ calls) l tracking h = held_calls t calls (line_after t l (trim u client to))
    (trim_tracking tracking u client to) (held_trim t u l tracking.entries client to h)
held_calls t (commits ∷ calls) l tracking h = held_calls t calls l (commit_tracking tracking)
    (held_commit t l tracking.entries h)

pub keeps_each_line : (calls : List Call) (t : Tuple) → IsHeld (line t (items_of calls)) (option_map (λ e. e.line)
    (entry_of (fold call_after nothing_tracked calls).entries t))
unfolding line
keeps_each_line calls t =
    let h = held_calls t calls no_line nothing_tracked (record { tied = tied_none; absent = λ _. refl }) in
    by (entry_of (fold call_after nothing_tracked calls).entries t) h.tied h.absent refl
  where
    by : (o : Option Entry) → Tied (fold (line_after t) no_line (items_of calls)) (unwrap_or o no_entry).line →
        (entry_of (fold call_after nothing_tracked calls).entries t ≡ None →
        fold (line_after t) no_line (items_of calls) ≡ no_line) →
        entry_of (fold call_after nothing_tracked calls).entries t ≡ o →
        IsHeld (fold (line_after t) no_line (items_of calls)) (option_map (λ e. e.line) o)
    by None tied absent p = absent p
    by (Some e) tied absent p = tied.is_kept

pub opening_of_line : (calls : List Call) (t : Tuple) → (line t (items_of calls)).opening
    ≡ (entry_or_none (fold call_after nothing_tracked calls).entries t).line.opening
unfolding line
opening_of_line calls t = sym (held_calls t calls no_line nothing_tracked
    (record { tied = tied_none; absent = λ _. refl })).tied.is_kept.opening
