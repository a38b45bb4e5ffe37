-- No call leaves a line trimmed past its edge.
use Rattle.std.proofs.Common.{◌≡◌, ℕ, ◌≤◌, Bool, true, false, ◌||◌, cond, max, min, is_some, if◌then◌else◌, List, [], ◌∷◌, ◌++◌, map, Option, None, Some, unwrap_or, refl, sym, ap, subst, ◌∙◌, true≢false, arith}
use Rattle.std.specs.Map.{lookup}
use Rattle.std.specs.Option.{option_map}
use Rattle.inet_frame.specs.Counted.{counted, tuple_of}
use Rattle.inet_frame.specs.Fields.{TcpFields}
use Rattle.inet_frame.specs.declared.tuple.Tuple.{Tuple}
use Rattle.tcp_track.specs.LineFields.{LineFields, no_fields, bytes_end, cut, fields_after, fields_trimmed}
use Rattle.tcp_track.specs.Stands.{is_of_client}
use Rattle.tcp_track.specs.Segments.{same_tuple, may_open, is_refusal, opening_in}
use Rattle.tcp_track.specs.Tracking.{Tracking, line_at, entry_of, entry_or_none, no_entry, put_entry, entries_after, trim_entry, taken, took_of, tracking_with, tracking_after, took_in, what_in, what_of, is_known_client, current_at, trim_tracking, commit_tracking, commit_entry}
use Rattle.tcp_track.specs.declared.answers.Took.{Took}
use Rattle.tcp_track.specs.declared.answers.What.{What}
use Rattle.tcp_track.specs.declared.answers.What.TheVariants.{Ignored, Opened, Restarted, Symbols, Reset, Refused}
use Rattle.tcp_track.specs.declared.openings.Opening.{Opening}
use Rattle.tcp_track.specs.declared.table.Entry.{Entry}
use Rattle.tcp_track.proofs.TupleLemmas.{same_tuple-refl, same_tuple-eq, entry_of-put_same, entry_of-put_other}
use Rattle.settle_rules.specs.OwnFrames.{progress_with}
use Rattle.settle_rules.specs.Progress.{Progress, ProgressTable, no_progress, clear_ages}
use Rattle.line_match.specs.Untrimmed.{IsUntrimmed}
use Rattle.settle_table.specs.Table.{progress_at, set_progress, AreUntrimmed}
use Rattle.settle_table.proofs.TableLemmas.{progress_at-set_same, progress_at-set_other}
use Rattle.out_compare.specs.Noting.{note_progress, is_noted}
use Rattle.out_compare.proofs.NoteLemmas.{segment_untrimmed}

-- NOTED PROGRESS

noted_here : (table : ProgressTable) (t : Tuple) (w : What) →
    progress_at (note_progress table (record { tuple = t; what = w })) t ≡ progress_with w (progress_at table t)
noted_here table t Ignored = refl
noted_here table t (Opened o) = progress_at-set_same table t (progress_with (Opened o) (progress_at table t))
noted_here table t (Restarted o) = progress_at-set_same table t (progress_with (Restarted o) (progress_at table t))
noted_here table t (Symbols f e) = refl
noted_here table t Reset = progress_at-set_same table t (progress_with Reset (progress_at table t))
noted_here table t (Refused n) = progress_at-set_same table t (progress_with (Refused n) (progress_at table t))

noted_elsewhere : (table : ProgressTable) (t u : Tuple) (w : What) → same_tuple t u ≡ false →
    progress_at (note_progress table (record { tuple = u; what = w })) t ≡ progress_at table t
noted_elsewhere table t u w other = by (is_noted w)
  where
    by : (b : Bool) → progress_at (if b then set_progress table u (progress_with w (progress_at table u)) else table) t
        ≡ progress_at table t
    by true = progress_at-set_other table t u (progress_with w (progress_at table u)) other
    by false = refl

-- A FRAME OF THE NODE'S OWN GUEST

-- a line that was found, or none, is untrimmed
held_untrimmed : (mine : Tracking) (table : ProgressTable) (t : Tuple) → AreUntrimmed mine table →
    IsUntrimmed (entry_or_none mine.entries t).line (progress_at table t).edge
held_untrimmed mine table t h = by (entry_of mine.entries t) refl
  where
    by : (o : Option Entry) → entry_of mine.entries t ≡ o
        → IsUntrimmed (unwrap_or o no_entry).line (progress_at table t).edge
    by None p = λ o. absurd (true≢false (sym o))
    by (Some e) p = h t e.line (ap (λ (o : Option Entry). option_map (λ (x : Entry). x.line) o) p)

some_same : (l m : LineFields) → Some l ≡ Some m → l ≡ m
some_same l m e = cc

not_found : (o : Option Entry) (b : Bool) → (is_some o || b) ≡ false → (l : LineFields) →
    option_map (λ (x : Entry). x.line) o ≡ Some l → ⊥
not_found None b h l at = cc
not_found (Some e) b h l at = true≢false h

own_elsewhere : (mine : Tracking) (table : ProgressTable) (s : TcpFields) (t : Tuple) (l : LineFields) (w : What)
    (b : Bool) → same_tuple t (tuple_of s) ≡ false → AreUntrimmed mine table →
    option_map (λ (x : Entry). x.line) (entry_of (if b then put_entry mine.entries (tuple_of s)
    (record (entry_or_none mine.entries (tuple_of s)) {
      line = fields_after (entry_or_none mine.entries (tuple_of s)).line s;
    }) else mine.entries) t) ≡ Some l →
    IsUntrimmed l (progress_at (note_progress table (record { tuple = tuple_of s; what = w })) t).edge
own_elsewhere mine table s t l w b other h at =
    let u = tuple_of s in
    let e = entry_or_none mine.entries u in
    let there : line_at mine t ≡ Some l = by b at in
    subst (λ (p : Progress). IsUntrimmed l p.edge) (sym (noted_elsewhere table t u w other)) (h t l there)
  where
    by : (b : Bool) → option_map (λ (x : Entry). x.line) (entry_of (if b then put_entry mine.entries (tuple_of s)
        (record (entry_or_none mine.entries (tuple_of s)) {
          line = fields_after (entry_or_none mine.entries (tuple_of s)).line s;
        }) else mine.entries) t) ≡ Some l → line_at mine t ≡ Some l
    by true at = sym (ap (λ (o : Option Entry). option_map (λ (x : Entry). x.line) o) (entry_of-put_other t (tuple_of s)
        (record (entry_or_none mine.entries (tuple_of s)) {
          line = fields_after (entry_or_none mine.entries (tuple_of s)).line s;
        }) mine.entries other)) ∙ at
    by false at = at

own_here : (mine : Tracking) (table : ProgressTable) (s : TcpFields) (l : LineFields) (b : Bool) →
    (is_some (entry_of mine.entries (tuple_of s)) || (may_open s || is_refusal s)) ≡ b → AreUntrimmed mine table →
    option_map (λ (x : Entry). x.line) (entry_of (if b then put_entry mine.entries (tuple_of s)
    (record (entry_or_none mine.entries (tuple_of s)) {
      line = fields_after (entry_or_none mine.entries (tuple_of s)).line s;
    }) else mine.entries) (tuple_of s)) ≡ Some l →
    IsUntrimmed l (progress_at (note_progress table (record {
      tuple = tuple_of s;
      what = what_in mine s;
    })) (tuple_of s)).edge
unfolding what_in
own_here mine table s l true is h at =
    let u = tuple_of s in
    let e = entry_or_none mine.entries u in
    let known = is_known_client mine u (opening_in s).client in
    let line : fields_after e.line s ≡ l = some_same (fields_after e.line s) l
    (sym (ap (λ (o : Option Entry). option_map (λ
    (x : Entry). x.line) o) (entry_of-put_same u (record e { line = fields_after e.line s }) mine.entries)) ∙ at) in
    subst (λ (m : LineFields). IsUntrimmed m (progress_at (note_progress table (record {
      tuple = u;
      what = what_in mine s;
    })) u).edge) line (subst (λ (p : Progress). IsUntrimmed (fields_after e.line s) p.edge) (sym (noted_here table u
    (what_in mine s))) (segment_untrimmed e.line known s (progress_at table u) (held_untrimmed mine table u h)))
own_here mine table s l false is h at =
    absurd (not_found (entry_of mine.entries (tuple_of s)) (may_open s || is_refusal s) is l at)

own_pick : (mine : Tracking) (table : ProgressTable) (s : TcpFields) (t : Tuple) (l : LineFields) (b : Bool) →
    same_tuple t (tuple_of s) ≡ b → AreUntrimmed mine table → line_at (tracking_after mine s) t ≡ Some l →
    IsUntrimmed l (progress_at (note_progress table (record { tuple = tuple_of s; what = what_in mine s })) t).edge
unfolding tracking_after
own_pick mine table s t l false p h at =
    own_elsewhere mine table s t l (what_in mine s) (is_some (entry_of mine.entries (tuple_of s)) || (may_open s
    || is_refusal s)) p h at
own_pick mine table s t l true p h at =
    let e : t ≡ tuple_of s = same_tuple-eq t (tuple_of s) p in
    subst (λ (x : Tuple). IsUntrimmed l (progress_at (note_progress table (record {
      tuple = tuple_of s;
      what = what_in mine s;
    })) x).edge) (sym e) (own_here mine table s l (is_some (entry_of mine.entries (tuple_of s)) || (may_open s
    || is_refusal s)) refl h (subst (λ (x : Tuple). line_at (tracking_after mine s) x ≡ Some l) e at))

-- a frame leaves the lines untrimmed past their edges
pub own_untrimmed : (mine : Tracking) (table : ProgressTable) (frame : List ℕ) → AreUntrimmed mine table →
    AreUntrimmed (taken mine frame) (note_progress table (took_of mine frame))
own_untrimmed mine table frame h = by (counted frame)
  where
    by : (o : Option TcpFields) → AreUntrimmed (tracking_with mine o) (note_progress table (took_in mine o))
    by None = h
    by (Some s) = λ t l at. own_pick mine table s t l (same_tuple t (tuple_of s)) refl h at

-- AN ACKNOWLEDGEMENT

committed_line : (mine : Tracking) (t : Tuple) → line_at (commit_tracking mine) t ≡ line_at mine t
committed_line mine t = by mine.entries
  where
    by : (es : List (Tuple × Entry)) → option_map (λ (x : Entry). x.line) (entry_of (map commit_entry es) t)
        ≡ option_map (λ (x : Entry). x.line) (entry_of es t)
    by [] = refl
    by (e ∷ es) = choice (same_tuple t e.0) (by es)
      where
        choice : (b : Bool) → option_map (λ (x : Entry). x.line) (entry_of (map commit_entry es) t)
            ≡ option_map (λ (x : Entry). x.line) (entry_of es t) → option_map (λ (x : Entry). x.line) (cond b
            (Some (record e.1 { at_commit = e.1.line.opening })) (entry_of (map commit_entry es) t))
            ≡ option_map (λ (x : Entry). x.line) (cond b (Some e.1) (entry_of es t))
        choice true more = refl
        choice false more = more

cleared_edge : (table : ProgressTable) (t : Tuple) →
    (progress_at (clear_ages table) t).edge ≡ (progress_at table t).edge
cleared_edge [] t = refl
cleared_edge (e ∷ es) t = choice (same_tuple t e.0) (cleared_edge es t)
  where
    choice : (b : Bool) → (progress_at (clear_ages es) t).edge ≡ (progress_at es t).edge →
        (unwrap_or (cond b (Some (record e.1 { age = 0 })) (lookup (same_tuple t) (clear_ages es))) no_progress).edge
        ≡ (unwrap_or (cond b (Some e.1) (lookup (same_tuple t) es)) no_progress).edge
    choice true more = refl
    choice false more = more

pub acknowledged_untrimmed : (mine : Tracking) (table : ProgressTable) → AreUntrimmed mine table →
    AreUntrimmed (commit_tracking mine) (clear_ages table)
acknowledged_untrimmed mine table h = λ t l at o.
    let low = h t l (sym (committed_line mine t) ∙ at) o in
    omega (arith, low, cleared_edge table t)

-- A TRIM up to the edge

trimmed_fields : (l : LineFields) (client to edge : ℕ) → to ≤ edge → IsUntrimmed l edge →
    IsUntrimmed (fields_trimmed l client to) edge
unfolding fields_trimmed
trimmed_fields l client to edge low h = by (is_of_client l.opening client)
  where
    by : (b : Bool) → IsUntrimmed (if b then cut l (min to (bytes_end l)) else l) edge
    by true = λ o. let old = h o in omega (arith, old, low)
    by false = h

trim_pick : (mine : Tracking) (table : ProgressTable) (u : Tuple) (e : Entry) (client to : ℕ) (t : Tuple)
    (l : LineFields) (b : Bool) → same_tuple t u ≡ b → entry_of mine.entries u ≡ Some e →
    to ≤ (progress_at table u).edge → AreUntrimmed mine table →
    option_map (λ (x : Entry). x.line) (entry_of (put_entry mine.entries u
    (record e { line = fields_trimmed e.line client to })) t) ≡ Some l → IsUntrimmed l (progress_at table t).edge
trim_pick mine table u e client to t l false p there low h at =
    h t l (sym (ap (λ (o : Option Entry). option_map (λ (x : Entry). x.line) o) (entry_of-put_other t u (record e {
      line = fields_trimmed e.line client to;
    }) mine.entries p)) ∙ at)
trim_pick mine table u e client to t l true p there low h at =
    let same : t ≡ u = same_tuple-eq t u p in
    let new : Entry = record e { line = fields_trimmed e.line client to } in
    let at_u = subst (λ (x : Tuple). option_map (λ (x : Entry). x.line) (entry_of (put_entry mine.entries u new) x)
    ≡ Some l) same at in
    let line : new.line ≡ l = some_same new.line l (sym (ap (λ (o : Option Entry). option_map (λ (x : Entry). x.line) o)
    (entry_of-put_same u new mine.entries)) ∙ at_u) in
    let old : IsUntrimmed e.line (progress_at table u).edge =
    h u e.line (ap (λ (o : Option Entry). option_map (λ (x : Entry). x.line) o) there) in
    subst (λ (x : Tuple). IsUntrimmed l (progress_at table x).edge) (sym same) (subst (λ (m : LineFields). IsUntrimmed m
    (progress_at table u).edge) line (trimmed_fields e.line client to (progress_at table u).edge low old))

trim_found : (mine : Tracking) (table : ProgressTable) (u : Tuple) (client to : ℕ) (o : Option Entry) →
    entry_of mine.entries u ≡ o → to ≤ (progress_at table u).edge → AreUntrimmed mine table →
    AreUntrimmed (record mine { entries = trim_entry o mine.entries u client to }) table
trim_found mine table u client to None p low h = h
trim_found mine table u client to (Some e) p low h =
    λ t l at. trim_pick mine table u e client to t l (same_tuple t u) refl p low h at

pub trim_untrimmed : (mine : Tracking) (table : ProgressTable) (u : Tuple) (client to : ℕ) →
    to ≤ (progress_at table u).edge → AreUntrimmed mine table → AreUntrimmed (trim_tracking mine u client to) table
unfolding trim_tracking
trim_untrimmed mine table u client to low h = trim_found mine table u client to (entry_of mine.entries u) refl low h
