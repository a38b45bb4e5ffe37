-- No tuple has two own entries, from any start on; and what a survivor begins with has no age.
use Rattle.std.proofs.Common.{◌≡◌, ℕ, Bool, true, false, ◌||◌, List, [], ◌∷◌, ◌++◌, map, fold, Option, None, Some, is_some, if◌then◌else◌, refl, sym, ap, subst, ◌∙◌}
use Rattle.std.specs.Bool.{⊤}
use Rattle.std.specs.List.{list_any}
use Rattle.std.specs.Map.{keys_of}
use Rattle.std.proofs.lemmas.Bool.{or_from, or_parts}
use Rattle.std.proofs.lemmas.List.Folds.{list_any-append}
use Rattle.inet_frame.specs.Counted.{counted, tuple_of, client_tuple_of}
use Rattle.inet_frame.specs.Fields.{TcpFields}
use Rattle.inet_frame.specs.declared.tuple.Tuple.{Tuple}
use Rattle.tcp_track.specs.Laws.{Call, takes, trims, commits, call_after}
use Rattle.tcp_track.specs.LineFields.{LineFields, fields_after}
use Rattle.tcp_track.specs.Segments.{is_refusal, may_open, same_tuple}
use Rattle.tcp_track.specs.Tracking.{Tracking, commit_entry, entry_of, entry_or_none, line_at, nothing_tracked, put_entry, taken, tracking_after, tracking_with, trim_entry, trim_tracking}
use Rattle.tcp_track.specs.declared.openings.Opening.{Opening}
use Rattle.tcp_track.specs.declared.table.Entry.{Entry}
use Rattle.tcp_track.proofs.StandingLemmas.{same_tuple-sym}
use Rattle.tcp_track.proofs.TupleLemmas.{keys_of-put_entry, same_tuple-eq}
use Rattle.seq_rewriter.specs.Kept.{KeptNumbers}
use Rattle.settle_rules.specs.Progress.{Progress, ProgressTable}
use Rattle.settle_table.specs.Kept.{tuples_of}
use Rattle.settle_table.specs.Table.{progress_at, set_progress}
use Rattle.settle_table.proofs.TableLemmas.{progress_at-set_other, progress_at-set_same}
use Rattle.out_compare.specs.Comparing.{Comparing, take_own, take_heard, learn, settle, capture, acknowledge}
use Rattle.out_compare.specs.Look.{look, trimmed_look}
use Rattle.out_compare.specs.Surviving.{Surviving, add_tuple, survive, survive_found, survive_tuple, survive_with}
use Rattle.compare_laws.specs.Calls.{CompareCall, sends, hears, learns, settles, looks, captures, acknowledges, remains, compare_after}
use Rattle.compare_laws.specs.Starts.{Start, at_new, at_survivor, TableCall, puts, does, start_of, table_after, table_made}

-- TUPLES IN TABLE ORDER

-- no tuple stands twice
abbrev pub IsDistinct : List Tuple → Type 0
IsDistinct [] = ⊤
IsDistinct (t ∷ ts) = (list_any (same_tuple t) ts ≡ false) × IsDistinct ts

pub distinct_push : (ts : List Tuple) (u : Tuple) → list_any (same_tuple u) ts ≡ false → IsDistinct ts →
    IsDistinct (ts ++ u ∷ [])
distinct_push [] u h d = (refl, tt)
distinct_push (t ∷ ts) u h d =
    let parts = or_parts (same_tuple u t) (list_any (same_tuple u) ts) h in (
      list_any-append (same_tuple t) ts (u ∷ [])
          ∙ or_from (list_any (same_tuple t) ts) (same_tuple t u || false) d.0
          (or_from (same_tuple t u) false (same_tuple-sym t u parts.0) refl),
      distinct_push ts u parts.1 d.1,
    )

-- the tuples of a table
abbrev AreDistinct : List (Tuple × Entry) → Type 0
AreDistinct es = IsDistinct (keys_of es)

distinct_put : (es : List (Tuple × Entry)) (u : Tuple) (e : Entry) → AreDistinct es → AreDistinct (put_entry es u e)
distinct_put es u e d =
    subst IsDistinct (sym (keys_of-put_entry u e es)) (by (list_any (same_tuple u) (keys_of es)) refl)
  where
    by : (b : Bool) → list_any (same_tuple u) (keys_of es) ≡ b →
        IsDistinct (if b then keys_of es else keys_of es ++ u ∷ [])
    by true h = d
    by false h = distinct_push (keys_of es) u h d

distinct_taken : (m : Tracking) (frame : List ℕ) → AreDistinct m.entries → AreDistinct (taken m frame).entries
unfolding tracking_after
distinct_taken m frame d = by (counted frame)
  where
    put : (s : TcpFields) (b : Bool) → AreDistinct (if b then put_entry m.entries (tuple_of s)
        (record (entry_or_none m.entries (tuple_of s)) {
          line = fields_after (entry_or_none m.entries (tuple_of s)).line s;
        }) else m.entries)
    put s true = distinct_put m.entries (tuple_of s) _ d
    put s false = d

    by : (o : Option TcpFields) → AreDistinct (tracking_with m o).entries
    by None = d
    by (Some s) = put s (is_some (entry_of m.entries (tuple_of s)) || (may_open s || is_refusal s))

distinct_trimmed : (m : Tracking) (u : Tuple) (client to : ℕ) → AreDistinct m.entries →
    AreDistinct (trim_tracking m u client to).entries
unfolding trim_tracking
distinct_trimmed m u client to d = by (entry_of m.entries u)
  where
    by : (o : Option Entry) → AreDistinct (trim_entry o m.entries u client to)
    by None = d
    by (Some e) = distinct_put m.entries u _ d

keys-commit : (es : List (Tuple × Entry)) → keys_of (map commit_entry es) ≡ keys_of es
keys-commit [] = refl
keys-commit (e ∷ es) = ap (λ (ks : List Tuple). e.0 ∷ ks) (keys-commit es)

distinct_committed : (es : List (Tuple × Entry)) → AreDistinct es → AreDistinct (map commit_entry es)
distinct_committed es d = subst IsDistinct (sym (keys-commit es)) d

-- a comparer's call keeps it so
pub distinct_after : (x : Comparing) (call : CompareCall) → IsDistinct (tuples_of x.mine) →
    IsDistinct (tuples_of (compare_after x call).mine)
unfolding take_own take_heard learn settle look capture acknowledge
distinct_after x (sends frame) d = distinct_taken x.mine frame d
distinct_after x (hears frame) d = d
distinct_after x (learns t client number) d = d
distinct_after x (settles is_turn) d = d
distinct_after x (looks s) d = by _
  where
    by : (o : Option Opening) →
        IsDistinct (tuples_of (trimmed_look x.mine x.theirs s (progress_at x.progress (client_tuple_of s)).edge o).mine)
    by None = d
    by (Some shown) = distinct_trimmed x.mine (client_tuple_of s) shown.client _ d
distinct_after x captures d = d
distinct_after x acknowledges d = distinct_committed x.mine.entries d
distinct_after x remains d = d

-- and a tracker's does, or a line that is put back
distinct_call : (m : Tracking) (call : Call) → AreDistinct m.entries → AreDistinct (call_after m call).entries
distinct_call m (takes frame) d = distinct_taken m frame d
distinct_call m (trims t client to) d = distinct_trimmed m t client to d
distinct_call m commits d = distinct_committed m.entries d

distinct_step : (m : Tracking) (call : TableCall) → AreDistinct m.entries → AreDistinct (table_after m call).entries
distinct_step m (puts t l) d = distinct_put m.entries t _ d
distinct_step m (does call) d = distinct_call m call d

distinct_made : (calls : List TableCall) (m : Tracking) → AreDistinct m.entries →
    AreDistinct (fold table_after m calls).entries
distinct_made [] m d = d
distinct_made (call ∷ calls) m d = distinct_made calls (table_after m call) (distinct_step m call d)

pub distinct_start : (start : Start) → IsDistinct (tuples_of (start_of start).mine)
distinct_start at_new = tt
distinct_start (at_survivor calls numbers) = distinct_made calls nothing_tracked tt

-- A SURVIVOR'S AGES

abbrev AreYoung : ProgressTable → Type 0
AreYoung table = (t : Tuple) → (progress_at table t).age ≡ 0

young_set : (table : ProgressTable) (u : Tuple) (p : Progress) → p.age ≡ 0 → AreYoung table →
    AreYoung (set_progress table u p)
young_set table u p zero h = λ t. by t (same_tuple t u) refl
  where
    by : (t : Tuple) (b : Bool) → same_tuple t u ≡ b → (progress_at (set_progress table u p) t).age ≡ 0
    by t true same = subst (λ (v : Tuple). (progress_at (set_progress table u p) v).age ≡ 0)
        (sym (same_tuple-eq t u same)) (ap (λ (q : Progress). q.age) (progress_at-set_same table u p) ∙ zero)
    by t false other = ap (λ (q : Progress). q.age) (progress_at-set_other table t u p other) ∙ h t

young_with : (x : Surviving) (u : Tuple) (l : LineFields) (o : Option Opening) → AreYoung x.progress →
    AreYoung (survive_with x u l o).progress
young_with x u l None h = h
young_with x u l (Some o) h = young_set x.progress u _ refl h

young_found : (x : Surviving) (u : Tuple) (o : Option LineFields) → AreYoung x.progress →
    AreYoung (survive_found x u o).progress
young_found x u None h = h
young_found x u (Some l) h = young_with x u l l.opening h

young_fold : (lines : Tracking) (us : List Tuple) (x : Surviving) → AreYoung x.progress →
    AreYoung (fold (add_tuple lines) x us).progress
unfolding survive_tuple
young_fold lines [] x h = h
young_fold lines (u ∷ us) x h = young_fold lines us (add_tuple lines x u) (young_found x u (line_at lines u) h)

young_survivor : (lines : Tracking) (numbers : KeptNumbers) → AreYoung (survive lines numbers).progress
unfolding survive
young_survivor lines numbers =
    young_fold lines (keys_of lines.entries) (record { numbers = numbers; progress = []; out = [] }) (λ t. refl)

pub young_start : (start : Start) (t : Tuple) → (progress_at (start_of start).progress t).age ≡ 0
young_start at_new t = refl
young_start (at_survivor calls numbers) t = young_survivor (table_made calls) numbers t
