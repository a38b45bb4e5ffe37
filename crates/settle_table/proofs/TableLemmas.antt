-- What the table of progress finds after a change, and that lines stay untrimmed past their edges.
use Rattle.std.proofs.Common.{◌≡◌, ◌≤◌, Bool, true, false, [], ◌∷◌, ◌++◌, Option, Some, unwrap_or, refl, sym, ap, subst, arith, if◌then◌else◌}
use Rattle.std.specs.Prelude.{is_some}
use Rattle.std.specs.Map.{lookup, set_value}
use Rattle.inet_frame.specs.declared.tuple.Tuple.{Tuple}
use Rattle.tcp_track.specs.LineFields.{LineFields}
use Rattle.tcp_track.specs.Segments.{same_tuple}
use Rattle.tcp_track.specs.Tracking.{Tracking, line_at}
use Rattle.tcp_track.proofs.TupleLemmas.{same_tuple-eq, lookup-set_same, lookup-set_other, lookup-push_same, lookup-push_other}
use Rattle.settle_rules.specs.Progress.{Progress, ProgressTable, no_progress}
use Rattle.line_match.specs.Untrimmed.{IsUntrimmed}
use Rattle.settle_table.specs.Table.{progress_at, set_progress, AreUntrimmed}

-- an age that is counted anew
abbrev pub clear_age : Progress → Progress
clear_age p = record p { age = 0 }

-- the progress that was set is found, and each other as before
pub progress_at-set_same : (table : ProgressTable) (u : Tuple) (p : Progress) →
    progress_at (set_progress table u p) u ≡ p
progress_at-set_same table u p = by (is_some (lookup (same_tuple u) table)) refl
  where
    by : (b : Bool) → is_some (lookup (same_tuple u) table) ≡ b →
        progress_at (if b then set_value (same_tuple u) table p else table ++ (u, p) ∷ []) u ≡ p
    by true h = ap (λ (o : Option Progress). unwrap_or o no_progress) (lookup-set_same u p table h)
    by false h = ap (λ (o : Option Progress). unwrap_or o no_progress) (lookup-push_same u p table h)

pub progress_at-set_other : (table : ProgressTable) (t u : Tuple) (p : Progress) → same_tuple t u ≡ false →
    progress_at (set_progress table u p) t ≡ progress_at table t
progress_at-set_other table t u p other = by (is_some (lookup (same_tuple u) table))
  where
    by : (b : Bool) → progress_at (if b then set_value (same_tuple u) table p else table ++ (u, p) ∷ []) t
        ≡ progress_at table t
    by true = ap (λ (o : Option Progress). unwrap_or o no_progress) (lookup-set_other t u p table other)
    by false = ap (λ (o : Option Progress). unwrap_or o no_progress) (lookup-push_other t u p table other)

-- edges only grow
pub edge_after_set : (table : ProgressTable) (t u : Tuple) (p : Progress) → (progress_at table u).edge ≤ p.edge →
    (progress_at table t).edge ≤ (progress_at (set_progress table u p) t).edge
edge_after_set table t u p more = by (same_tuple t u) refl
  where
    by : (b : Bool) → same_tuple t u ≡ b → (progress_at table t).edge ≤ (progress_at (set_progress table u p) t).edge
    by true h =
        let e : t ≡ u = same_tuple-eq t u h in
        subst (λ (x : Tuple). (progress_at table x).edge ≤ (progress_at (set_progress table u p) x).edge) (sym e)
        (omega (
          arith,
          more,
          ap (λ (q : Progress). q.edge) (progress_at-set_same table u p),
        ))
    by false h = omega (arith, ap (λ (q : Progress). q.edge) (progress_at-set_other table t u p h))

pub untrimmed_set : (mine : Tracking) (table : ProgressTable) (u : Tuple) (p : Progress) → AreUntrimmed mine table →
    (progress_at table u).edge ≤ p.edge → AreUntrimmed mine (set_progress table u p)
untrimmed_set mine table u p h more = λ t l at o.
    let low = h t l at o in
    let grown = edge_after_set table t u p more in
    omega (arith, low, grown)
