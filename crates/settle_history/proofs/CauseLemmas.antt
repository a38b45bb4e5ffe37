-- The need of a checkpoint is that which the rules name.
use Rattle.std.proofs.Common.{◌≡◌, Bool, true, false, not, ◌==◌, cond, if◌then◌else◌, List, [], ◌∷◌, find, is_some, Option, None, Some, refl, sym, ap, ◌∙◌, arith}
use Rattle.std.specs.List.{AllByRecursion, list_any}
use Rattle.std.specs.Map.{keys_of}
use Rattle.colo_base.specs.declared.fault.Cause.TheVariants as cause
use Rattle.inet_frame.specs.declared.tuple.Tuple.{Tuple}
use Rattle.tcp_track.specs.LineFields.{LineFields}
use Rattle.tcp_track.specs.Lines.{Item, order}
use Rattle.tcp_track.specs.Segments.{same_tuple}
use Rattle.tcp_track.specs.Tracking.{line_at}
use Rattle.settle_rules.specs.Causes.{cause_of, first_difference, is_different, matched_end_of}
use Rattle.settle_rules.specs.Causes as rules
use Rattle.settle_rules.specs.Matching.{differs_at, matched_end}
use Rattle.settle_rules.specs.OwnFrames.{OwnFrames}
use Rattle.settle_rules.specs.Progress.{Progress, ProgressTable, longest_wait, progress_of}
use Rattle.settle_rules.specs.Settle.{Scene, both_lines, is_empty, settle}
use Rattle.settle_table.specs.Kept.{KeptScene}
use Rattle.settle_table.specs.Needs.{difference_in, differ_or, first_differ, first_need, line_differs, matched_at, need_of, restart_among, wait_of}
use Rattle.settle_table.specs.Needs as table
use Rattle.settle_table.specs.Table.{AreUntrimmed, progress_at}
use Rattle.settle_table.specs.declared.causes.Need.{Need}
use Rattle.settle_table.specs.declared.causes.Need.TheVariants.{Nothing}
use Rattle.line_match.specs.Untrimmed.{IsUntrimmed}
use Rattle.out_compare.specs.Comparing.{Comparing, need_after, scene_of, settlement_of}
use Rattle.compare_laws.proofs.FindLemmas.{find-same}
use Rattle.settle_history.specs.Laws.{SettlesByTheRules, cause_in, difference_said, need_among, need_said, restart_said, scene_within}
use Rattle.settle_history.specs.Standing.{SameProgress, StandsWithin}
use Rattle.settle_history.proofs.AlikeLemmas.{differs_alike, end_alike, end_low}
use Rattle.settle_history.proofs.SettleLemmas.{HasLine, each_has_line, settlement_alike, settles_to}
use Rattle.settle_history.proofs.TrackLemmas.{order_is}
use Rattle.settle_history.proofs.WholeLemmas.{both_alike, low_edge}

-- THE FIRST DIFFERENCE

matched_alike : (own : OwnFrames) (theirs : List Item) (heard : List Tuple) (is_alone is_turn : Bool) (x : Comparing)
    (p q : ProgressTable) (t : Tuple) (l : LineFields) → line_at x.mine t ≡ Some l →
    IsUntrimmed l (progress_at q t).edge → SameProgress p q → StandsWithin own theirs heard is_alone x →
    matched_at (scene_of x is_turn) q t l ≡ matched_end_of (scene_within own theirs heard is_alone is_turn) p t
unfolding matched_at matched_end_of both_lines
matched_alike own theirs heard is_alone is_turn x p q t l at u same h =
    let scene = scene_within own theirs heard is_alone is_turn in
    let a = both_alike own theirs heard is_alone is_turn x t l at h in
    (λ i. matched_end (a.is i) (progress_at q t).edge)
    ∙ (end_alike (both_lines scene t) a.mine_symbols a.their_symbols (progress_at q t).edge
    (low_edge own.items x.mine t l (progress_at q t).edge at h.mine_is u) a.mine_from a.theirs_from
    ∙ ap (λ (r : Progress). matched_end (both_lines scene t) r.edge) (same t))

differ_alike : (own : OwnFrames) (theirs : List Item) (heard : List Tuple) (is_alone is_turn : Bool) (x : Comparing)
    (p q : ProgressTable) (t : Tuple) (l : LineFields) → line_at x.mine t ≡ Some l →
    IsUntrimmed l (progress_at q t).edge → SameProgress p q → StandsWithin own theirs heard is_alone x →
    line_differs (scene_of x is_turn) q t l ≡ is_different (scene_within own theirs heard is_alone is_turn) p t
unfolding line_differs is_different both_lines matched_end_of
differ_alike own theirs heard is_alone is_turn x p q t l at u same h =
    let scene = scene_within own theirs heard is_alone is_turn in
    let a = both_alike own theirs heard is_alone is_turn x t l at h in
    let low = low_edge own.items x.mine t l (progress_at q t).edge at h.mine_is u in
    let edge = ap (λ (r : Progress). r.edge) (same t) in
    let up = end_low (both_lines scene t) (progress_of t p).edge in
    (λ i. differs_at (a.is i) (matched_alike own theirs heard is_alone is_turn x p q t l at u same h i))
    ∙ differs_alike (both_lines scene t) a.mine_symbols a.their_symbols (matched_end_of scene p t)
    (omega (arith, low, edge, up)) a.mine_from a.theirs_from

first_alike : (own : OwnFrames) (theirs : List Item) (heard : List Tuple) (is_alone is_turn : Bool) (x : Comparing)
    (p q : ProgressTable) (ts : List Tuple) → AllByRecursion (HasLine x.mine) ts → AreUntrimmed x.mine q →
    SameProgress p q → StandsWithin own theirs heard is_alone x →
    first_differ (scene_of x is_turn) q ts ≡ difference_said (scene_within own theirs heard is_alone is_turn) p
    (find (is_different (scene_within own theirs heard is_alone is_turn) p) ts)
first_alike own theirs heard is_alone is_turn x p q [] lines u same h = refl
first_alike own theirs heard is_alone is_turn x p q (t ∷ ts) lines u same h =
    let l = lines.0.0 in
    let at = lines.0.1 in
    ap (λ (o : Option LineFields). differ_or t (difference_in kept q t o) (first_differ kept q ts)) at
    ∙ ((λ i. differ_or t (if differ_alike own theirs heard is_alone is_turn x p q t l at (u t l at) same h i
    then Some (matched_alike own theirs heard is_alone is_turn x p q t l at (u t l at) same h i) else None)
    (first_alike own theirs heard is_alone is_turn x p q ts lines.1 u same h i))
    ∙ by (is_different scene p t))
  where
    scene : Scene
    scene = scene_within own theirs heard is_alone is_turn

    kept : KeptScene
    kept = scene_of x is_turn

    by : (b : Bool) → differ_or t (if b then Some (matched_end_of scene p t) else None)
        (difference_said scene p (find (is_different scene p) ts))
        ≡ difference_said scene p (cond b (Some t) (find (is_different scene p) ts))
    by true = refl
    by false = refl

-- ALL CAUSES

waited_alike : (p q : ProgressTable) (ts : List Tuple) → SameProgress p q →
    find (table.has_waited q) ts ≡ find (rules.has_waited p) ts
waited_alike p q ts same = find-same (table.has_waited q) (rules.has_waited p)
    (λ t. ap (λ (r : Progress). r.age == longest_wait) (same t)) ts

-- the table's words for a need are the rules'
in_words : (d : Option Need) (restarts : List Tuple) (r w : Option Tuple) →
    first_need d (restart_among restarts r) (wait_of w) ≡ need_among d (restart_said r restarts) w
in_words (Some n) restarts r w = refl
in_words None [] None None = refl
in_words None [] None (Some t) = refl
in_words None [] (Some r) None = refl
in_words None [] (Some r) (Some t) = refl
in_words None (u ∷ restarts) None w = refl
in_words None (u ∷ restarts) (Some r) w = refl

pub need_alike : (own : OwnFrames) (theirs : List Item) (heard : List Tuple) (is_alone is_turn : Bool)
    (x : Comparing) (p : ProgressTable) → AreUntrimmed x.mine (settlement_of x is_turn).progress →
    SameProgress p (settlement_of x is_turn).progress → StandsWithin own theirs heard is_alone x →
    need_after x is_turn
    ≡ need_said is_alone (scene_within own theirs heard is_alone is_turn) (order own.items) p
unfolding need_after need_of first_difference
need_alike own theirs heard is_alone is_turn x p u same h =
    ap (λ (b : Bool). if b then Nothing else first_need (first_differ kept q tuples) (table.first_restart kept)
    (table.first_wait kept q)) h.alone
    ∙ (by is_alone
    ∙ ap (λ (ts : List Tuple). need_said is_alone scene ts p) (sym (order_is own.items x.mine h.mine_is)))
  where
    scene : Scene
    scene = scene_within own theirs heard is_alone is_turn

    kept : KeptScene
    kept = scene_of x is_turn

    q : ProgressTable
    q = (settlement_of x is_turn).progress

    tuples : List Tuple
    tuples = keys_of x.mine.entries

    by : (b : Bool) → (if b then Nothing else first_need (first_differ kept q tuples) (table.first_restart kept)
        (table.first_wait kept q)) ≡ need_said b scene tuples p
    by true = refl
    by false =
        let first = first_alike own theirs heard is_alone is_turn x p q tuples (each_has_line x.mine) u same h in
        (λ i. first_need (first i)
        (restart_among (h.restarts_are i) (find (λ (t : Tuple). list_any (same_tuple t) (h.restarts_are i)) tuples))
        (wait_of (waited_alike p q tuples same i)))
        ∙ in_words (difference_said scene p (find (is_different scene p) tuples)) scene.restarts
        (rules.first_restart scene tuples) (rules.first_wait tuples p)

-- the cause of a need
pub cause_alike : (is_alone : Bool) (scene : Scene) (ts : List Tuple) (p : ProgressTable) →
    cause_in (need_said is_alone scene ts p) ≡ (if is_alone then None else cause_of scene ts p)
unfolding cause_of
cause_alike true scene ts p = refl
cause_alike false scene ts p =
    by (first_difference scene ts p) scene.restarts (rules.first_restart scene ts) (rules.first_wait ts p)
  where
    by : (d : Option Tuple) (restarts : List Tuple) (r w : Option Tuple) →
        cause_in (need_among (difference_said scene p d) (restart_said r restarts) w)
        ≡ (if is_some d then Some cause.Differ else (if not (is_empty restarts) then Some cause.Restart
        else (if is_some w then Some cause.Wait else None)))
    by (Some t) restarts r w = refl
    by None [] None None = refl
    by None [] None (Some t) = refl
    by None [] (Some r) None = refl
    by None [] (Some r) (Some t) = refl
    by None (u ∷ restarts) None w = refl
    by None (u ∷ restarts) (Some r) w = refl

-- THE END OF AN EVENT

pub settles_by_the_rules : SettlesByTheRules
settles_by_the_rules own theirs heard is_alone is_turn x h =
    let scene = scene_within own theirs heard is_alone is_turn in
    let s = settlement_alike own theirs heard is_alone is_turn x h in
    let p = (settle scene (order own.items) own.progress).progress in
    let need = need_alike own theirs heard is_alone is_turn x p s.untrimmed s.alike.progress_is h in
    record {
      out = s.alike.out_is;
      need = need;
      cause_is = ap cause_in need ∙ cause_alike is_alone scene (order own.items) p;
      after = settles_to own theirs heard is_alone is_turn x p h s.alike.progress_is s.untrimmed;
    }
