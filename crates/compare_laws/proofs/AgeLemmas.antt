-- Edges and ages, call by call.
use Rattle.std.proofs.Common.{◌≡◌, ℕ, ◌+◌, suc, min, Bool, true, false, ◌&&◌, ◌||◌, ◌==◌, List, [], ◌∷◌, ◌++◌, fold, Option, None, Some, is_some, unwrap_or, if◌then◌else◌, refl, sym, ap, subst, ◌∙◌, true≢false, arith}
use Rattle.std.specs.Bool.{⊤}
use Rattle.std.specs.List.{list_any}
use Rattle.std.specs.Map.{lookup}
use Rattle.std.specs.Option.{option_map}
use Rattle.std.proofs.lemmas.Bool.{and_parts, and_right, eqb-true, eq-eqb, or_parts}
use Rattle.std.proofs.lemmas.Map.Made.{lookup-map_values}
use Rattle.inet_frame.specs.declared.tuple.Tuple.{Tuple}
use Rattle.tcp_track.specs.LineFields.{LineFields}
use Rattle.tcp_track.specs.Segments.{same_tuple}
use Rattle.tcp_track.specs.Tracking.{entry_of, line_at, no_entry, took_of}
use Rattle.tcp_track.specs.declared.openings.Opening.{Opening}
use Rattle.tcp_track.specs.declared.answers.Took.{Took}
use Rattle.tcp_track.specs.declared.answers.What.{What}
use Rattle.tcp_track.specs.declared.answers.What.TheVariants.{Ignored, Opened, Restarted, Symbols, Reset, Refused}
use Rattle.tcp_track.specs.declared.table.Entry.{Entry}
use Rattle.tcp_track.proofs.TupleLemmas.{is_some-lookup, same_tuple-eq}
use Rattle.settle_rules.specs.Matching.{BothLines}
use Rattle.settle_rules.specs.OwnFrames.{progress_with}
use Rattle.settle_rules.specs.Progress.{AgeKey, Progress, ProgressTable, clear_ages, longest_wait, no_progress, grow_age}
use Rattle.settle_rules.specs.Matching.{client_or_zero}
use Rattle.settle_rules.specs.Release.{Released, release_refusal}
use Rattle.settle_rules.specs.Settle.{Settlement, new_edge, rest_one, same_age_key, settle_one, settle_or_rest, shown_after}
use Rattle.line_settle.specs.Parts.{bare_goes, plain_out, refusal_goes, symbols_out}
use Rattle.line_settle.proofs.ShownLemmas.{shown_after-append}
use Rattle.settle_table.specs.Kept.{KeptScene, add_tuple, both_kept, is_restarted, no_release, settle_found, settle_kept, settle_kept_tuple, settle_line, line_settled, tuples_of}
use Rattle.settle_table.specs.Table.{progress_at, set_progress}
use Rattle.settle_table.proofs.TableLemmas.{progress_at-set_other, progress_at-set_same}
use Rattle.out_compare.specs.Comparing.{Comparing, scene_of, settlement_of, take_own, take_heard, learn, settle, capture, acknowledge}
use Rattle.out_compare.specs.Noting.{is_noted, note_progress, opening_made}
use Rattle.compare_laws.specs.Ages.{Sight, edge_after, edge_at_end, edge_from, edge_settled, sight_of, sights_after, sights_at_end, sights_from, sights_with, turns_in_a_row, turns_waited}
use Rattle.compare_laws.specs.Calls.{CompareCall, sends, hears, learns, settles, looks, captures, acknowledges, remains, compare_after, compare_calls}
use Rattle.compare_laws.specs.Laws.{KeepsAges, KeepsEdges, KeepsProgress, KeepsShown}
use Rattle.compare_laws.specs.Progressing.{line_released, progress_from, progress_next, progress_settled, shown_from, shown_next}
use Rattle.compare_laws.specs.Starts.{start_of}
use Rattle.compare_laws.proofs.StartLemmas.{IsDistinct, distinct_after, distinct_start, young_start}

-- ONE SETTLING

abbrev pub settled_with : Bool → KeptScene → Tuple → Progress → Option LineFields → Progress
settled_with r scene t p None = p
settled_with r scene t p (Some l) =
    (settle_or_rest r (both_kept scene t l) p scene.is_turn scene.tooks).progress

-- a connection's progress after a settling
abbrev pub settled : KeptScene → Tuple → Progress → Progress
settled scene t p = settled_with (is_restarted scene t) scene t p (line_at scene.mine t)

pub settles_here : (scene : KeptScene) (table : ProgressTable) (t : Tuple) →
    progress_at (settle_kept_tuple scene table t).progress t ≡ settled scene t (progress_at table t)
unfolding settle_kept_tuple settle_line line_settled
settles_here scene table t = by_line (line_at scene.mine t)
  where
    by_line : (o : Option LineFields) → progress_at (settle_found scene table t o).progress t
        ≡ settled_with (is_restarted scene t) scene t (progress_at table t) o
    by_line None = refl
    by_line (Some l) = progress_at-set_same table t _

pub settles_elsewhere : (scene : KeptScene) (table : ProgressTable) (t u : Tuple) → same_tuple t u ≡ false →
    progress_at (settle_kept_tuple scene table u).progress t ≡ progress_at table t
unfolding settle_kept_tuple settle_line
settles_elsewhere scene table t u other = by_line (line_at scene.mine u)
  where
    by_line : (o : Option LineFields) → progress_at (settle_found scene table u o).progress t ≡ progress_at table t
    by_line None = refl
    by_line (Some l) = progress_at-set_other table t u _ other

pub not_among : (scene : KeptScene) (so_far : Settlement) (ts : List Tuple) (t : Tuple) →
    list_any (same_tuple t) ts ≡ false →
    progress_at (fold (add_tuple scene) so_far ts).progress t ≡ progress_at so_far.progress t
not_among scene so_far [] t h = refl
not_among scene so_far (u ∷ ts) t h =
    let parts = or_parts (same_tuple t u) (list_any (same_tuple t) ts) h in
    not_among scene (add_tuple scene so_far u) ts t parts.1
    ∙ settles_elsewhere scene so_far.progress t u parts.0

pub among : (scene : KeptScene) (so_far : Settlement) (ts : List Tuple) (t : Tuple) → IsDistinct ts →
    list_any (same_tuple t) ts ≡ true → progress_at (fold (add_tuple scene) so_far ts).progress t
    ≡ settled scene t (progress_at so_far.progress t)
among scene so_far [] t d h = absurd (true≢false (sym h))
among scene so_far (u ∷ ts) t d h =
    by (same_tuple t u) refl h (among scene (add_tuple scene so_far u) ts t d.1)
  where
    by : (b : Bool) → same_tuple t u ≡ b → (b || list_any (same_tuple t) ts) ≡ true →
        (list_any (same_tuple t) ts ≡ true →
        progress_at (fold (add_tuple scene) (add_tuple scene so_far u) ts).progress t
        ≡ settled scene t (progress_at (add_tuple scene so_far u).progress t)) →
        progress_at (fold (add_tuple scene) (add_tuple scene so_far u) ts).progress t
        ≡ settled scene t (progress_at so_far.progress t)
    by true same h more =
        let is = same_tuple-eq t u same in
        not_among scene (add_tuple scene so_far u) ts t (ap (λ (v : Tuple). list_any (same_tuple v) ts) is ∙ d.0)
        ∙ subst (λ (v : Tuple). progress_at (settle_kept_tuple scene so_far.progress v).progress t
        ≡ settled scene t (progress_at so_far.progress t)) is (settles_here scene so_far.progress t)
    by false other h more =
        more h ∙ ap (λ (p : Progress). settled scene t p) (settles_elsewhere scene so_far.progress t u other)

-- a connection without a line stays
settled_without : (scene : KeptScene) (t : Tuple) (p : Progress) →
    list_any (same_tuple t) (tuples_of scene.mine) ≡ false → settled scene t p ≡ p
settled_without scene t p h =
    by_line (entry_of scene.mine.entries t) (is_some-lookup t scene.mine.entries ∙ h)
  where
    by_line : (o : Option Entry) → is_some o ≡ false →
        settled_with (is_restarted scene t) scene t p (option_map (λ (e : Entry). e.line) o) ≡ p
    by_line None e = refl
    by_line (Some x) e = absurd (true≢false e)

pub at_end : (scene : KeptScene) (table : ProgressTable) (t : Tuple) → IsDistinct (tuples_of scene.mine) →
    progress_at (settle_kept scene table).progress t ≡ settled scene t (progress_at table t)
unfolding settle_kept
at_end scene table t d = by (list_any (same_tuple t) (tuples_of scene.mine)) refl
  where
    by : (b : Bool) → list_any (same_tuple t) (tuples_of scene.mine) ≡ b →
        progress_at (fold (add_tuple scene) (no_release table) (tuples_of scene.mine)).progress t
        ≡ settled scene t (progress_at table t)
    by true h = among scene (no_release table) (tuples_of scene.mine) t d h
    by false h = not_among scene (no_release table) (tuples_of scene.mine) t h
        ∙ sym (settled_without scene t (progress_at table t) h)

settles_to : (x : Comparing) (is_turn : Bool) (t : Tuple) → IsDistinct (tuples_of x.mine) →
    progress_at (settle x is_turn).progress t ≡ settled (scene_of x is_turn) t (progress_at x.progress t)
unfolding settle settlement_of
settles_to x is_turn t d = at_end (scene_of x is_turn) x.progress t d

-- THE OTHER CALLS

noted_here : (table : ProgressTable) (t : Tuple) (w : What) →
    progress_at (note_progress table (record { tuple = t; what = w })) t ≡ progress_with w (progress_at table t)
noted_here table t Ignored = refl
noted_here table t (Opened o) = progress_at-set_same table t (progress_with (Opened o) (progress_at table t))
noted_here table t (Restarted o) = progress_at-set_same table t (progress_with (Restarted o) (progress_at table t))
noted_here table t (Symbols from to) = refl
noted_here table t Reset = progress_at-set_same table t (progress_with Reset (progress_at table t))
noted_here table t (Refused n) = progress_at-set_same table t (progress_with (Refused n) (progress_at table t))

noted_elsewhere : (table : ProgressTable) (t : Tuple) (took : Took) → same_tuple t took.tuple ≡ false →
    progress_at (note_progress table took) t ≡ progress_at table t
noted_elsewhere table t took other = by (is_noted took.what)
  where
    by : (b : Bool) → progress_at (if b then set_progress table took.tuple
        (progress_with took.what (progress_at table took.tuple)) else table) t ≡ progress_at table t
    by true = progress_at-set_other table t took.tuple (progress_with took.what (progress_at table took.tuple)) other
    by false = refl

-- what was noted of a connection
pub noted : (table : ProgressTable) (t : Tuple) (took : Took) → progress_at (note_progress table took) t
    ≡ (if same_tuple t took.tuple then progress_with took.what (progress_at table t) else progress_at table t)
noted table t took = by (same_tuple t took.tuple) refl
  where
    by : (b : Bool) → same_tuple t took.tuple ≡ b → progress_at (note_progress table took) t
        ≡ (if b then progress_with took.what (progress_at table t) else progress_at table t)
    by true same = subst (λ (u : Tuple). progress_at (note_progress table (record { tuple = u; what = took.what })) t
        ≡ progress_with took.what (progress_at table t)) (same_tuple-eq t took.tuple same)
        (noted_here table t took.what)
    by false other = noted_elsewhere table t took other

pub cleared : (table : ProgressTable) (t : Tuple) →
    progress_at (clear_ages table) t ≡ record (progress_at table t) { age = 0 }
cleared table t =
    ap (λ (o : Option Progress). unwrap_or o no_progress)
    (lookup-map_values (λ (p : Progress). record p { age = 0 }) (same_tuple t) table)
    ∙ by (lookup (same_tuple t) table)
  where
    by : (o : Option Progress) → unwrap_or (option_map (λ (p : Progress). record p { age = 0 }) o) no_progress
        ≡ record (unwrap_or o no_progress) { age = 0 }
    by None = refl
    by (Some p) = refl

-- EDGES

edge_noted : (b : Bool) (w : What) (p : Progress) →
    (if b then progress_with w p else p).edge ≡ (if b && is_some (opening_made w) then 0 else p.edge)
edge_noted true Ignored p = refl
edge_noted true (Opened o) p = refl
edge_noted true (Restarted o) p = refl
edge_noted true (Symbols from to) p = refl
edge_noted true Reset p = refl
edge_noted true (Refused n) p = refl
edge_noted false w p = refl

pub one_edge : (b : BothLines) (p : Progress) (is_turn : Bool) (tooks : List Took) →
    (settle_one b p is_turn tooks).progress.edge ≡ new_edge b p.edge
unfolding settle_one
one_edge b p true tooks = refl
one_edge b p false tooks = refl

pub rest_edge : (b : BothLines) (p : Progress) (is_turn : Bool) → (rest_one b p is_turn).progress.edge ≡ p.edge
rest_edge b p true = refl
rest_edge b p false = refl

edge_then : (scene : KeptScene) (t : Tuple) (p : Progress) → (settled scene t p).edge ≡ edge_at_end scene t p.edge
edge_then scene t p = by (is_restarted scene t) (line_at scene.mine t)
  where
    by : (b : Bool) (o : Option LineFields) → (settled_with b scene t p o).edge
        ≡ (if b then p.edge else edge_settled scene t p.edge o)
    by true None = refl
    by true (Some l) = rest_edge (both_kept scene t l) p scene.is_turn
    by false None = refl
    by false (Some l) = one_edge (both_kept scene t l) p scene.is_turn scene.tooks

edge_next : (x : Comparing) (t : Tuple) (call : CompareCall) → IsDistinct (tuples_of x.mine) →
    (progress_at (compare_after x call).progress t).edge ≡ edge_after x t (progress_at x.progress t).edge call
unfolding take_own take_heard learn capture acknowledge
edge_next x t (sends frame) d =
    let took = took_of x.mine frame in
    ap (λ (p : Progress). p.edge) (noted x.progress t took)
    ∙ edge_noted (same_tuple t took.tuple) took.what (progress_at x.progress t)
edge_next x t (hears frame) d = refl
edge_next x t (learns u client number) d = refl
edge_next x t (settles is_turn) d = ap (λ (p : Progress). p.edge) (settles_to x is_turn t d)
    ∙ edge_then (scene_of x is_turn) t (progress_at x.progress t)
edge_next x t (looks s) d = refl
edge_next x t captures d = refl
edge_next x t acknowledges d = ap (λ (p : Progress). p.edge) (cleared x.progress t)
edge_next x t remains d = refl

edges : (calls : List CompareCall) (x : Comparing) (t : Tuple) → IsDistinct (tuples_of x.mine) →
    (progress_at (compare_calls x calls).progress t).edge ≡ edge_from x t (progress_at x.progress t).edge calls
edges [] x t d = refl
edges (call ∷ calls) x t d =
    edges calls (compare_after x call) t (distinct_after x call d)
    ∙ ap (λ (n : ℕ). edge_from (compare_after x call) t n calls) (edge_next x t call d)

pub keeps_edges : KeepsEdges
keeps_edges start calls t = edges calls (start_of start) t (distinct_start start)

-- AGES

abbrev HasKey : Progress → List Sight → Type 0
HasKey p [] = ⊤
HasKey p (s ∷ earlier) = p.age_key ≡ s.key

-- the age is that of what was seen
record Aged (p : Progress) (sights : List Sight) : Type 0 where
  age : p.age ≡ min (turns_waited sights) (longest_wait + 1)
  key : HasKey p sights

same_age_key-refl : (k : AgeKey) → same_age_key k k ≡ true
same_age_key-refl k = rw (
  eq-eqb k.client k.client refl,
  eq-eqb k.matched k.matched refl,
  eq-eqb k.acked k.acked refl,
) refl

same_age_key-eq : (k l : AgeKey) → same_age_key k l ≡ true → k ≡ l
same_age_key-eq k l h =
    let parts = and_parts (k.client == l.client) (k.matched == l.matched && k.acked == l.acked) h in
    let rest = and_parts (k.matched == l.matched) (k.acked == l.acked) parts.1 in
    let client = eqb-true k.client l.client parts.0 in
    let matched = eqb-true k.matched l.matched rest.0 in
    let acked = eqb-true k.acked l.acked rest.1 in
    λ i. record { client = client i; matched = matched i; acked = acked i }

-- one turn more in a row
one_more : (age row : ℕ) → age ≡ min row (longest_wait + 1) → grow_age age ≡ min (suc row) (longest_wait + 1)
one_more age row e = omega (arith, e)

row_not : (s : Sight) (earlier : List Sight) (key : AgeKey) → same_age_key s.key key ≡ false →
    turns_in_a_row key (s ∷ earlier) ≡ 0
row_not s earlier key h = ap (λ (b : Bool). if b then suc (turns_in_a_row key earlier) else 0)
    (and_right s.unmatched (same_age_key s.key key) h)

aged_turn : (p : Progress) (sights : List Sight) (key : AgeKey) → Aged p sights →
    (if same_age_key p.age_key key then grow_age p.age else 1)
    ≡ min (suc (turns_in_a_row key sights)) (longest_wait + 1)
aged_turn p [] key h = by (same_age_key p.age_key key)
  where
    by : (b : Bool) → (if b then grow_age p.age else 1) ≡ 1
    by true = one_more p.age 0 h.age
    by false = refl
aged_turn p (s ∷ earlier) key h = by (same_age_key s.key key) refl
    (ap (λ (k : AgeKey). same_age_key k key) h.key)
  where
    by : (b : Bool) → same_age_key s.key key ≡ b → same_age_key p.age_key key ≡ same_age_key s.key key →
        (if same_age_key p.age_key key then grow_age p.age else 1)
        ≡ min (suc (turns_in_a_row key (s ∷ earlier))) (longest_wait + 1)
    by true e f =
        ap (λ (b : Bool). if b then grow_age p.age else 1) (f ∙ e)
        ∙ one_more p.age (turns_in_a_row key (s ∷ earlier))
        (h.age ∙ ap (λ (k : AgeKey). min (turns_in_a_row k (s ∷ earlier))
        (longest_wait + 1)) (same_age_key-eq s.key key e))
    by false e f =
        ap (λ (b : Bool). if b then grow_age p.age else 1) (f ∙ e)
        ∙ sym (ap (λ (n : ℕ). min (suc n) (longest_wait + 1)) (row_not s earlier key e))

aged_sight : (p : Progress) (sights : List Sight) (s : Sight) → Aged p sights →
    (if s.unmatched then (if same_age_key p.age_key s.key then grow_age p.age else 1) else 0)
    ≡ min (turns_waited (s ∷ sights)) (longest_wait + 1)
aged_sight p sights s h = by s.unmatched
    ∙ sym (ap (λ (b : Bool). min (if s.unmatched && b then suc (turns_in_a_row s.key sights) else 0) (longest_wait + 1))
    (same_age_key-refl s.key))
  where
    by : (b : Bool) → (if b then (if same_age_key p.age_key s.key then grow_age p.age else 1) else 0)
        ≡ min (if b && true then suc (turns_in_a_row s.key sights) else 0) (longest_wait + 1)
    by true = aged_turn p sights s.key h
    by false = refl

aged_one : (b : BothLines) (p : Progress) (tooks : List Took) (sights : List Sight) → Aged p sights →
    Aged (settle_one b p true tooks).progress (sight_of b (settle_one b p true tooks).progress ∷ sights)
unfolding settle_one
aged_one b p tooks sights h = record {
  age = aged_sight p sights (sight_of b (settle_one b p true tooks).progress) h;
  key = refl;
}

aged_rest : (b : BothLines) (p : Progress) (sights : List Sight) → Aged p sights →
    Aged (rest_one b p true).progress (sight_of b (rest_one b p true).progress ∷ sights)
aged_rest b p sights h = record {
  age = aged_sight p sights (sight_of b (rest_one b p true).progress) h;
  key = refl;
}

aged_at_end : (scene : KeptScene) (t : Tuple) (p : Progress) (sights : List Sight) → scene.is_turn ≡ true →
    Aged p sights → Aged (settled scene t p) (sights_at_end scene t (settled scene t p) sights)
aged_at_end scene t p sights turn h = by (is_restarted scene t) (line_at scene.mine t)
  where
    one : (r : Bool) (l : LineFields) (b : Bool) → b ≡ true →
        Aged (settle_or_rest r (both_kept scene t l) p b scene.tooks).progress
        (sight_of (both_kept scene t l) (settle_or_rest r (both_kept scene t l) p b scene.tooks).progress ∷ sights)
    one true l true e = aged_rest (both_kept scene t l) p sights h
    one false l true e = aged_one (both_kept scene t l) p scene.tooks sights h
    one r l false e = absurd (true≢false (sym e))

    by : (r : Bool) (o : Option LineFields) → Aged (settled_with r scene t p o)
        (sights_with scene t (settled_with r scene t p o) o sights)
    by r None = h
    by r (Some l) = one r l scene.is_turn turn

aged_same : (p q : Progress) (sights : List Sight) → q.age ≡ p.age → q.age_key ≡ p.age_key → Aged p sights →
    Aged q sights
aged_same p q [] e f h = record { age = e ∙ h.age; key = tt }
aged_same p q (s ∷ sights) e f h = record { age = e ∙ h.age; key = f ∙ h.key }

-- a settling that is no turn keeps the age
aged_else : (scene : KeptScene) (t : Tuple) (p : Progress) (sights : List Sight) → scene.is_turn ≡ false →
    Aged p sights → Aged (settled scene t p) sights
unfolding settle_one
aged_else scene t p sights turn h = by (is_restarted scene t) (line_at scene.mine t)
  where
    one : (r : Bool) (l : LineFields) (b : Bool) → b ≡ false →
        Aged (settle_or_rest r (both_kept scene t l) p b scene.tooks).progress sights
    one true l false e = h
    one false l false e = aged_same p (settle_one (both_kept scene t l) p false scene.tooks).progress sights refl refl h
    one r l true e = absurd (true≢false e)

    by : (r : Bool) (o : Option LineFields) → Aged (settled_with r scene t p o) sights
    by r None = h
    by r (Some l) = one r l scene.is_turn turn

aged_noted : (b : Bool) (w : What) (p : Progress) (sights : List Sight) → Aged p sights →
    Aged (if b then progress_with w p else p) sights
aged_noted true Ignored p sights h = h
aged_noted true (Opened o) p sights h = aged_same p (progress_with (Opened o) p) sights refl refl h
aged_noted true (Restarted o) p sights h = aged_same p (progress_with (Restarted o) p) sights refl refl h
aged_noted true (Symbols from to) p sights h = h
aged_noted true Reset p sights h = aged_same p (progress_with Reset p) sights refl refl h
aged_noted true (Refused n) p sights h = aged_same p (progress_with (Refused n) p) sights refl refl h
aged_noted false w p sights h = h

abbrev AgedAt : Comparing → Tuple → List Sight → Type 0
AgedAt x t sights = Aged (progress_at x.progress t) sights

aged_settles : (x : Comparing) (t : Tuple) (is_turn : Bool) (sights : List Sight) → IsDistinct (tuples_of x.mine) →
    AgedAt x t sights → AgedAt (settle x is_turn) t (sights_after x t sights (settles is_turn))
aged_settles x t true sights d h =
    subst (λ (p : Progress). Aged p (sights_at_end (scene_of x true) t p sights)) (sym (settles_to x true t d))
    (aged_at_end (scene_of x true) t (progress_at x.progress t) sights refl h)
aged_settles x t false sights d h =
    subst (λ (p : Progress). Aged p sights) (sym (settles_to x false t d))
    (aged_else (scene_of x false) t (progress_at x.progress t) sights refl h)

aged_next : (x : Comparing) (t : Tuple) (sights : List Sight) (call : CompareCall) → IsDistinct (tuples_of x.mine) →
    AgedAt x t sights → AgedAt (compare_after x call) t (sights_after x t sights call)
unfolding take_own take_heard learn capture acknowledge
aged_next x t sights (sends frame) d h =
    let took = took_of x.mine frame in
    subst (λ (p : Progress). Aged p sights) (sym (noted x.progress t took))
    (aged_noted (same_tuple t took.tuple) took.what (progress_at x.progress t) sights h)
aged_next x t sights (hears frame) d h = h
aged_next x t sights (learns u client number) d h = h
aged_next x t sights (settles is_turn) d h = aged_settles x t is_turn sights d h
aged_next x t sights (looks s) d h = h
aged_next x t sights captures d h = h
aged_next x t sights acknowledges d h =
    subst (λ (p : Progress). Aged p []) (sym (cleared x.progress t)) (record { age = refl; key = tt })
aged_next x t sights remains d h = h

ages : (calls : List CompareCall) (x : Comparing) (t : Tuple) (sights : List Sight) → IsDistinct (tuples_of x.mine) →
    AgedAt x t sights → AgedAt (compare_calls x calls) t (sights_from x t sights calls)
ages [] x t sights d h = h
ages (call ∷ calls) x t sights d h =
    ages calls (compare_after x call) t (sights_after x t sights call) (distinct_after x call d)
    (aged_next x t sights call d h)

pub keeps_ages : KeepsAges
keeps_ages start calls t =
    (ages calls (start_of start) t [] (distinct_start start) (record { age = young_start start t; key = tt })).age

-- PROGRESS

progress_is : (x : Comparing) (t : Tuple) (call : CompareCall) → IsDistinct (tuples_of x.mine) →
    progress_at (compare_after x call).progress t ≡ progress_next x t (progress_at x.progress t) call
unfolding take_own take_heard learn capture acknowledge line_settled
progress_is x t (sends frame) d = noted x.progress t (took_of x.mine frame)
progress_is x t (hears frame) d = refl
progress_is x t (learns u client number) d = refl
progress_is x t (settles is_turn) d = settles_to x is_turn t d ∙ by (line_at x.mine t)
  where
    by : (o : Option LineFields) → settled_with (is_restarted (scene_of x is_turn) t) (scene_of x is_turn) t
        (progress_at x.progress t) o ≡ progress_settled (scene_of x is_turn) t (progress_at x.progress t) o
    by None = refl
    by (Some l) = refl
progress_is x t (looks s) d = refl
progress_is x t captures d = refl
progress_is x t acknowledges d = cleared x.progress t
progress_is x t remains d = refl

progressing : (calls : List CompareCall) (x : Comparing) (t : Tuple) → IsDistinct (tuples_of x.mine) →
    progress_at (compare_calls x calls).progress t ≡ progress_from x t (progress_at x.progress t) calls
progressing [] x t d = refl
progressing (call ∷ calls) x t d =
    progressing calls (compare_after x call) t (distinct_after x call d)
    ∙ ap (λ (p : Progress). progress_from (compare_after x call) t p calls) (progress_is x t call d)

pub keeps_progress : KeepsProgress
keeps_progress start calls t = progressing calls (start_of start) t (distinct_start start)

-- THE SYN LAST SHOWN

noted_shown : (b : Bool) (w : What) (p : Progress) → (if b then progress_with w p else p).shown ≡ p.shown
noted_shown true Ignored p = refl
noted_shown true (Opened o) p = refl
noted_shown true (Restarted o) p = refl
noted_shown true (Symbols from to) p = refl
noted_shown true Reset p = refl
noted_shown true (Refused n) p = refl
noted_shown false w p = refl

refusal_shown : (b : BothLines) (refused : Option ℕ) (goes : Bool) (c : ℕ) (s : Option Opening) →
    shown_after c s (release_refusal b refused goes) ≡ s
refusal_shown b None goes c s = refl
refusal_shown b (Some n) true c s = refl
refusal_shown b (Some n) false c s = refl

with_refusal : (b : BothLines) (refused : Option ℕ) (goes : Bool) (c : ℕ) (s : Option Opening)
    (plain : List Released) → shown_after c s plain ≡ shown_after c s (plain ++ release_refusal b refused goes)
with_refusal b refused goes c s plain = sym (shown_after-append c s plain (release_refusal b refused goes)
    ∙ refusal_shown b refused goes c (shown_after c s plain))

one_shown : (b : BothLines) (p : Progress) (is_turn : Bool) (tooks : List Took) →
    (settle_one b p is_turn tooks).progress.shown
    ≡ shown_after (client_or_zero b.mine.opening) p.shown (settle_one b p is_turn tooks).out
unfolding settle_one plain_out symbols_out bare_goes
one_shown b p true tooks =
    with_refusal b b.mine.refused (refusal_goes b p) (client_or_zero b.mine.opening) p.shown (plain_out b p tooks)
one_shown b p false tooks =
    with_refusal b b.mine.refused (refusal_goes b p) (client_or_zero b.mine.opening) p.shown (plain_out b p tooks)

line_shown : (r : Bool) (b : BothLines) (p : Progress) (is_turn : Bool) (tooks : List Took) →
    (settle_or_rest r b p is_turn tooks).progress.shown
    ≡ shown_after (client_or_zero b.mine.opening) p.shown (settle_or_rest r b p is_turn tooks).out
line_shown true b p true tooks = refl
line_shown true b p false tooks = refl
line_shown false b p is_turn tooks = one_shown b p is_turn tooks

shown_is : (x : Comparing) (t : Tuple) (call : CompareCall) → IsDistinct (tuples_of x.mine) →
    (progress_at (compare_after x call).progress t).shown ≡ shown_next x t (progress_at x.progress t).shown call
unfolding take_own take_heard learn capture acknowledge line_settled both_kept
shown_is x t (sends frame) d =
    let took = took_of x.mine frame in
    ap (λ (p : Progress). p.shown) (noted x.progress t took)
    ∙ noted_shown (same_tuple t took.tuple) took.what (progress_at x.progress t)
shown_is x t (hears frame) d = refl
shown_is x t (learns u client number) d = refl
shown_is x t (settles is_turn) d =
    ap (λ (p : Progress). p.shown) (settles_to x is_turn t d) ∙ by (entry_of x.mine.entries t)
  where
    by : (o : Option Entry) → (settled_with (is_restarted (scene_of x is_turn) t) (scene_of x is_turn) t
        (progress_at x.progress t) (option_map (λ (e : Entry). e.line) o)).shown
        ≡ shown_after (client_or_zero (unwrap_or o no_entry).line.opening) (progress_at x.progress t).shown
        (line_released (scene_of x is_turn) t (progress_at x.progress t) (option_map (λ (e : Entry). e.line) o))
    by None = refl
    by (Some e) = line_shown (is_restarted (scene_of x is_turn) t) (both_kept (scene_of x is_turn) t e.line)
        (progress_at x.progress t) is_turn x.tooks
shown_is x t (looks s) d = refl
shown_is x t captures d = refl
shown_is x t acknowledges d = ap (λ (p : Progress). p.shown) (cleared x.progress t)
shown_is x t remains d = refl

showing : (calls : List CompareCall) (x : Comparing) (t : Tuple) → IsDistinct (tuples_of x.mine) →
    (progress_at (compare_calls x calls).progress t).shown ≡ shown_from x t (progress_at x.progress t).shown calls
showing [] x t d = refl
showing (call ∷ calls) x t d =
    showing calls (compare_after x call) t (distinct_after x call d)
    ∙ ap (λ (s : Option Opening). shown_from (compare_after x call) t s calls) (shown_is x t call d)

pub keeps_shown : KeepsShown
keeps_shown start calls t = showing calls (start_of start) t (distinct_start start)
