-- Tables of progress that are the same by what is found, after each change.
use Rattle.std.proofs.Common.{◌≡◌, Bool, true, false, not, cond, filter, find, Option, None, Some, refl, sym, ap, subst, ◌∙◌}
use Rattle.std.specs.Option.{option_map, option_map_or}
use Rattle.inet_frame.specs.declared.tuple.Tuple.{Tuple}
use Rattle.tcp_track.specs.Segments.{same_tuple}
use Rattle.tcp_track.specs.declared.answers.Took.{Took}
use Rattle.tcp_track.specs.declared.answers.What.{What}
use Rattle.tcp_track.specs.declared.answers.What.TheVariants.{Ignored, Opened, Restarted, Symbols, Reset, Refused}
use Rattle.tcp_track.proofs.TupleLemmas.{same_tuple-eq, same_tuple-refl}
use Rattle.tcp_track.proofs.StandingLemmas.{same_tuple-sym}
use Rattle.settle_rules.specs.OwnFrames.{progress_with}
use Rattle.settle_rules.specs.Progress.{Progress, ProgressTable, no_progress, progress_of, put_progress, clear_ages}
use Rattle.settle_table.specs.Table.{progress_at, set_progress}
use Rattle.settle_table.proofs.TableLemmas.{clear_age, progress_at-set_other, progress_at-set_same}
use Rattle.out_compare.specs.Noting.{note_progress}
use Rattle.compare_laws.proofs.AgeLemmas.{cleared}
use Rattle.compare_laws.proofs.FindLemmas.{find-filter, find-map}
use Rattle.settle_history.specs.Standing.{SameProgress}

here : (p : ProgressTable) (t : Tuple) (x : Progress) → progress_of t (put_progress t x p) ≡ x
here p t x =
    ap (λ (b : Bool). option_map_or (λ (y : Tuple × Progress). y.1) (cond b (Some (t, x))
    (find (λ (y : Tuple × Progress). same_tuple y.0 t) (filter (λ (y : Tuple × Progress). not (same_tuple y.0 t)) p)))
    no_progress) (same_tuple-refl t)

elsewhere : (p : ProgressTable) (t u : Tuple) (x : Progress) → same_tuple u t ≡ false
    → progress_of u (put_progress t x p) ≡ progress_of u p
elsewhere p t u x e =
    ap (λ (b : Bool). option_map_or (λ (y : Tuple × Progress). y.1) (cond b (Some (t, x))
    (find (λ (y : Tuple × Progress). same_tuple y.0 u) (filter (λ (y : Tuple × Progress). not (same_tuple y.0 t)) p)))
    no_progress) (same_tuple-sym t u e)
    ∙ ap (λ (o : Option (Tuple × Progress)). option_map_or (λ (y : Tuple × Progress). y.1) o no_progress)
    (find-filter (λ (y : Tuple × Progress). same_tuple y.0 u) (λ (y : Tuple × Progress). not (same_tuple y.0 t)) true
    (λ y f. ap not (ap (λ (v : Tuple). same_tuple v t) (same_tuple-eq y.0 u f) ∙ e)) p)

-- a connection's progress put in the one, set in the other
pub put_alike : (p q : ProgressTable) (t : Tuple) (x : Progress) → SameProgress p q
    → SameProgress (put_progress t x p) (set_progress q t x)
put_alike p q t x h u = by (same_tuple u t) refl
  where
    by : (b : Bool) → same_tuple u t ≡ b → progress_at (set_progress q t x) u ≡ progress_of u (put_progress t x p)
    by true e =
        subst (λ (v : Tuple). progress_at (set_progress q t x) v ≡ progress_of v (put_progress t x p))
        (sym (same_tuple-eq u t e)) (progress_at-set_same q t x ∙ sym (here p t x))
    by false e = progress_at-set_other q u t x e ∙ (h u ∙ sym (elsewhere p t u x e))

-- what was there, put again
put_again : (p : ProgressTable) (t u : Tuple) → progress_of u (put_progress t (progress_of t p) p) ≡ progress_of u p
put_again p t u = by (same_tuple u t) refl
  where
    by : (b : Bool) → same_tuple u t ≡ b → progress_of u (put_progress t (progress_of t p) p) ≡ progress_of u p
    by true e =
        subst (λ (v : Tuple). progress_of v (put_progress t (progress_of t p) p) ≡ progress_of v p)
        (sym (same_tuple-eq u t e)) (here p t (progress_of t p))
    by false e = elsewhere p t u (progress_of t p) e

changed : (p q : ProgressTable) (t : Tuple) (w : What) → SameProgress p q →
    SameProgress (put_progress t (progress_with w (progress_of t p)) p)
    (set_progress q t (progress_with w (progress_at q t)))
changed p q t w h =
    subst (λ (x : Progress). SameProgress (put_progress t (progress_with w x) p)
    (set_progress q t (progress_with w (progress_at q t)))) (h t)
    (put_alike p q t (progress_with w (progress_at q t)) h)

noted : (p q : ProgressTable) (t : Tuple) (w : What) → SameProgress p q →
    SameProgress (put_progress t (progress_with w (progress_of t p)) p)
    (note_progress q (record { tuple = t; what = w }))
noted p q t Ignored h = λ u. h u ∙ sym (put_again p t u)
noted p q t (Opened o) h = changed p q t (Opened o) h
noted p q t (Restarted o) h = changed p q t (Restarted o) h
noted p q t (Symbols from to) h = λ u. h u ∙ sym (put_again p t u)
noted p q t Reset h = changed p q t Reset h
noted p q t (Refused client) h = changed p q t (Refused client) h

-- what a segment of the node's own guest changes
pub noted_alike : (p q : ProgressTable) (took : Took) → SameProgress p q →
    SameProgress (put_progress took.tuple (progress_with took.what (progress_of took.tuple p)) p) (note_progress q took)
noted_alike p q took h = noted p q took.tuple took.what h

-- ages counted anew
cleared_found : (p : ProgressTable) (t : Tuple) → progress_of t (clear_ages p) ≡ clear_age (progress_of t p)
cleared_found p t =
    ap (λ (o : Option (Tuple × Progress)). option_map_or (λ (y : Tuple × Progress). y.1) o no_progress)
    (find-map (λ (y : Tuple × Progress). same_tuple y.0 t) (λ (y : Tuple × Progress). (y.0, record y.1 { age = 0 }))
    (λ y. refl) p)
    ∙ by (find (λ (y : Tuple × Progress). same_tuple y.0 t) p)
  where
    by : (o : Option (Tuple × Progress)) → option_map_or (λ (y : Tuple × Progress). y.1)
        (option_map (λ (y : Tuple × Progress). (y.0, record y.1 { age = 0 })) o) no_progress
        ≡ clear_age (option_map_or (λ (y : Tuple × Progress). y.1) o no_progress)
    by None = refl
    by (Some y) = refl

pub clear_alike : (p q : ProgressTable) → SameProgress p q → SameProgress (clear_ages p) (clear_ages q)
clear_alike p q h t = cleared q t ∙ (ap clear_age (h t) ∙ sym (cleared_found p t))
