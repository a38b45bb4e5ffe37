-- After a settling the last acknowledgement of each connection is the agreed one, where symbols were released.
use Rattle.std.proofs.Common.{◌≡◌, ℕ, ◌<◌, Bool, true, false, not, ◌||◌, if◌then◌else◌, is_some, List, [], ◌∷◌, ◌++◌, append-nil, append_assoc, fold, Option, None, Some, refl, sym, ap, subst, ◌∙◌, All, arith, true≢false}
use Rattle.std.specs.List.{list_any}
use Rattle.std.proofs.lemmas.Grind.{fold-append}
use Rattle.std.proofs.lemmas.List.Folds.{list_any-append}
use Rattle.inet_frame.specs.Fields.{TcpFields}
use Rattle.inet_frame.specs.declared.tuple.Tuple.{Tuple}
use Rattle.tcp_track.specs.Laws.{took_after}
use Rattle.tcp_track.specs.Segments.{same_tuple}
use Rattle.tcp_track.specs.declared.answers.What.{What}
use Rattle.tcp_track.specs.declared.answers.What.TheVariants.{Ignored, Opened, Restarted, Symbols, Reset, Refused}
use Rattle.tcp_track.proofs.StandingLemmas.{same_tuple-sym}
use Rattle.tcp_track.proofs.TupleLemmas.{same_tuple-eq}
use Rattle.colo_base.specs.declared.fault.Cause.TheVariants.{Differ, Restart, Wait}
use Rattle.settle_rules.specs.Causes.{cause_of, first_difference, first_wait}
use Rattle.settle_rules.specs.Matching.{BothLines, agreed_ack_window}
use Rattle.settle_rules.specs.OwnFrames.{OwnFrames, own_after, progress_with, restarts_of}
use Rattle.settle_rules.specs.Progress.{AckWindow, Progress, ProgressTable, progress_of, put_progress}
use Rattle.settle_rules.specs.Release.{Released}
use Rattle.settle_rules.specs.Settle as rules
use Rattle.settle_rules.specs.Settle.{Scene, Settlement, both_lines, is_empty, is_restarted, settle_one, settle_or_rest, settle_tuple}
use Rattle.pair_theorem.specs.FrameParts.{ack_after, ack_at_start, last_ack}
use Rattle.pair_theorem.specs.Past.{Start}
use Rattle.theorem_frames.proofs.LineLemmas.{lines_are_sound_lem}
use Rattle.theorem_frames.proofs.PromptLemmas.{progress_other, progress_same}
use Rattle.theorem_stands.proofs.KindLemmas.{IsOutOf}
use Rattle.theorem_prompt.specs.Said.{AcksAreLast}
use Rattle.theorem_prompt.proofs.AckLemmas.{IsLast, one_last, other_acks, rested, settled_agreed}

-- MORE THAT IS RELEASED
pub ack_more : (a : Start) (t : Tuple) (released out : List Released) →
    last_ack a t (released ++ out) ≡ fold (ack_after t) (last_ack a t released) out
ack_more a t released out = fold-append (ack_after t) (ack_at_start a.progress t) released out

-- one connection more
pub put_last : (a : Start) (released earlier out : List Released) (b : BothLines) (old new : Progress)
    (table : ProgressTable) → old ≡ progress_of b.tuple table → All (IsOutOf b) out →
    ((n : Option ℕ) → IsLast old.last n → IsLast new.last (fold (ack_after b.tuple) n out)) →
    AcksAreLast a (released ++ earlier) table →
    AcksAreLast a (released ++ (earlier ++ out)) (put_progress b.tuple new table)
put_last a released earlier out b old new table is kinds follows h t w e = by (same_tuple b.tuple t) refl
  where
    all : (u : Tuple) →
        last_ack a u (released ++ (earlier ++ out)) ≡ fold (ack_after u) (last_ack a u (released ++ earlier)) out
    all u =
        ap (λ (rs : List Released). last_ack a u rs) (sym (append_assoc released earlier out))
        ∙ ack_more a u (released ++ earlier) out

    here : (v : AckWindow) → (progress_of b.tuple (put_progress b.tuple new table)).last ≡ Some v →
        last_ack a b.tuple (released ++ (earlier ++ out)) ≡ Some v.ack
    here v f =
        all b.tuple
        ∙ follows (last_ack a b.tuple (released ++ earlier))
        (λ r g. h b.tuple r (ap (λ (x : Progress). x.last) (sym is) ∙ g)) v
        (ap (λ (x : Progress). x.last) (sym (progress_same b.tuple new table)) ∙ f)

    by : (same : Bool) → same_tuple b.tuple t ≡ same → last_ack a t (released ++ (earlier ++ out)) ≡ Some w.ack
    by true same =
        subst (λ (u : Tuple). (progress_of u (put_progress b.tuple new table)).last ≡ Some w →
        last_ack a u (released ++ (earlier ++ out)) ≡ Some w.ack) (same_tuple-eq b.tuple t same) (here w) e
    by false other =
        all t
        ∙ (other_acks b t out (last_ack a t (released ++ earlier)) other kinds
        ∙ h t w (ap (λ (x : Progress). x.last) (sym (progress_other b.tuple t new table other)) ∙ e))

-- ALL CONNECTIONS
one_said : (a : Start) (released : List Released) (scene : Scene) (so_far : Settlement) (u : Tuple) →
    AcksAreLast a (released ++ so_far.out) so_far.progress →
    AcksAreLast a (released ++ (settle_tuple scene so_far u).out) (settle_tuple scene so_far u).progress
unfolding settle_tuple both_lines
one_said a released scene so_far u h =
    let b = both_lines scene u in
    let p = progress_of u so_far.progress in
    let one = settle_or_rest (is_restarted scene u) b p scene.is_turn scene.tooks in
    let last =
    one_last b p (is_restarted scene u) scene.is_turn scene.tooks (lines_are_sound_lem scene.mine u) in
    put_last a released so_far.out one.out b p one.progress so_far.progress refl last.kinds last.follows h

all_said : (a : Start) (released : List Released) (scene : Scene) (so_far : Settlement) (tuples : List Tuple) →
    AcksAreLast a (released ++ so_far.out) so_far.progress →
    AcksAreLast a (released ++ (fold (settle_tuple scene) so_far tuples).out)
    (fold (settle_tuple scene) so_far tuples).progress
all_said a released scene so_far [] h = h
all_said a released scene so_far (u ∷ tuples) h =
    all_said a released scene (settle_tuple scene so_far u) tuples (one_said a released scene so_far u h)

-- what is agreed of a connection was said, once it was settled
abbrev Agrees : Scene → Tuple → Progress → Type 0
Agrees scene t p = 0 < p.edge → p.last ≡ Some (agreed_ack_window (both_lines scene t))

settled_agrees : (scene : Scene) (t : Tuple) (p : Progress) (restarted : Bool) →
    (restarted ≡ true → Agrees scene t p) →
    Agrees scene t (settle_or_rest restarted (both_lines scene t) p scene.is_turn scene.tooks).progress
settled_agrees scene t p true h some =
    let same = rested (both_lines scene t) p scene.is_turn in
    let edge = same.edge in
    same.last ∙ h refl (omega (arith, some, edge))
settled_agrees scene t p false h some = settled_agreed (both_lines scene t) p scene.is_turn scene.tooks some

-- the progress of a tuple after another one, or itself
after_tuple : (P : Progress → Type 0) (scene : Scene) (so_far : Settlement) (u t : Tuple) →
    (same_tuple u t ≡ true → P (settle_or_rest (is_restarted scene t) (both_lines scene t)
    (progress_of t so_far.progress) scene.is_turn scene.tooks).progress) →
    P (progress_of t so_far.progress) → P (progress_of t (settle_tuple scene so_far u).progress)
unfolding settle_tuple
after_tuple P scene so_far u t own h = by (same_tuple u t) refl
  where
    one : Tuple → Progress
    one v =
        (settle_or_rest (is_restarted scene v) (both_lines scene v) (progress_of v so_far.progress) scene.is_turn
        scene.tooks).progress

    by : (same : Bool) → same_tuple u t ≡ same → P (progress_of t (put_progress u (one u) so_far.progress))
    by true e =
        let is = same_tuple-eq u t e in
        subst (λ (v : Tuple). P (progress_of t (put_progress v (one v) so_far.progress))) (sym is)
        (subst P (sym (progress_same t (one t) so_far.progress)) (own e))
    by false e = subst P (sym (progress_other u t (one u) so_far.progress e)) h

later_agrees : (scene : Scene) (so_far : Settlement) (tuples : List Tuple) (t : Tuple) →
    Agrees scene t (progress_of t so_far.progress) →
    Agrees scene t (progress_of t (fold (settle_tuple scene) so_far tuples).progress)
later_agrees scene so_far [] t h = h
later_agrees scene so_far (u ∷ tuples) t h =
    later_agrees scene (settle_tuple scene so_far u) tuples t
    (after_tuple (Agrees scene t) scene so_far u t
    (λ e. settled_agrees scene t (progress_of t so_far.progress) (is_restarted scene t) (λ f. h)) h)

met_agrees : (scene : Scene) (so_far : Settlement) (tuples : List Tuple) (t : Tuple) →
    is_restarted scene t ≡ false → list_any (same_tuple t) tuples ≡ true →
    Agrees scene t (progress_of t (fold (settle_tuple scene) so_far tuples).progress)
unfolding settle_tuple
met_agrees scene so_far [] t apart h = absurd (true≢false (sym h))
met_agrees scene so_far (u ∷ tuples) t apart h =
    by (same_tuple t u) refl (λ k. met_agrees scene (settle_tuple scene so_far u) tuples t apart k)
  where
    next : Settlement
    next = settle_tuple scene so_far u

    own : Agrees scene t (progress_of t (settle_tuple scene so_far t).progress)
    own =
        subst (Agrees scene t)
        (sym (progress_same t (settle_or_rest (is_restarted scene t) (both_lines scene t)
        (progress_of t so_far.progress) scene.is_turn scene.tooks).progress so_far.progress))
        (settled_agrees scene t (progress_of t so_far.progress) (is_restarted scene t)
        (λ f. absurd (true≢false (sym f ∙ apart))))

    by : (b : Bool) → same_tuple t u ≡ b →
        (list_any (same_tuple t) tuples ≡ true →
        Agrees scene t (progress_of t (fold (settle_tuple scene) next tuples).progress)) →
        Agrees scene t (progress_of t (fold (settle_tuple scene) next tuples).progress)
    by true e more =
        later_agrees scene next tuples t
        (subst (λ (v : Tuple). Agrees scene t (progress_of t (settle_tuple scene so_far v).progress))
        (same_tuple-eq t u e) own)
    by false e more = more (sym (ap (λ (b : Bool). b || list_any (same_tuple t) tuples) e) ∙ h)

-- a connection that was restarted has released nothing yet
abbrev IsUnreleased : Progress → Type 0
IsUnreleased p = p.edge ≡ 0

later_unreleased : (scene : Scene) (so_far : Settlement) (tuples : List Tuple) (t : Tuple) →
    is_restarted scene t ≡ true → IsUnreleased (progress_of t so_far.progress) →
    IsUnreleased (progress_of t (fold (settle_tuple scene) so_far tuples).progress)
later_unreleased scene so_far [] t is h = h
later_unreleased scene so_far (u ∷ tuples) t is h =
    later_unreleased scene (settle_tuple scene so_far u) tuples t is
    (after_tuple IsUnreleased scene so_far u t (λ e. by (is_restarted scene t) is) h)
  where
    by : (restarted : Bool) → restarted ≡ true →
        IsUnreleased (settle_or_rest restarted (both_lines scene t) (progress_of t so_far.progress) scene.is_turn
        scene.tooks).progress
    by true e = (rested (both_lines scene t) (progress_of t so_far.progress) scene.is_turn).edge ∙ h
    by false e = absurd (true≢false (sym e))

-- what holds after a settling
pub record SettledLast (a : Start) (released : List Released) (scene : Scene) (tuples : List Tuple)
    (progress : ProgressTable) (x : Settlement) : Type 0 where
  pub said : AcksAreLast a (released ++ x.out) x.progress
  pub agreed : (t : Tuple) → list_any (same_tuple t) tuples ≡ true → is_restarted scene t ≡ false →
      0 < (progress_of t x.progress).edge →
      (progress_of t x.progress).last ≡ Some (agreed_ack_window (both_lines scene t))
  pub unreleased : (t : Tuple) → is_restarted scene t ≡ true → (progress_of t progress).edge ≡ 0 →
      (progress_of t x.progress).edge ≡ 0

pub settle_last : (a : Start) (released : List Released) (scene : Scene) (tuples : List Tuple)
    (progress : ProgressTable) → AcksAreLast a released progress →
    SettledLast a released scene tuples progress (rules.settle scene tuples progress)
unfolding rules.settle
settle_last a released scene tuples progress h =
    let begin : Settlement = record { progress = progress; out = [] } in
    let none = sym (append-nil released) in
    record {
      said = all_said a released scene begin tuples (subst (λ (rs : List Released). AcksAreLast a rs progress) none h);
      agreed = λ t met apart. met_agrees scene begin tuples t apart met;
      unreleased = λ t is e. later_unreleased scene begin tuples t is e;
    }

-- THE EVENT'S OWN FRAMES
abbrev SameLast : ProgressTable → ProgressTable → Type 0
SameLast old new = (t : Tuple) → (progress_of t new).last ≡ (progress_of t old).last

pub last_alike : (a : Start) (released : List Released) (old new : ProgressTable) → SameLast old new →
    AcksAreLast a released old → AcksAreLast a released new
last_alike a released old new same h t w e = h t w (sym (same t) ∙ e)

with_last : (what : What) (p : Progress) → (progress_with what p).last ≡ p.last
with_last Ignored p = refl
with_last (Opened o) p = refl
with_last (Restarted o) p = refl
with_last (Symbols from to) p = refl
with_last Reset p = refl
with_last (Refused c) p = refl

put_same : (u : Tuple) (p : Progress) (table : ProgressTable) → p.last ≡ (progress_of u table).last →
    SameLast table (put_progress u p table)
put_same u p table e t = by (same_tuple u t) refl
  where
    by : (same : Bool) → same_tuple u t ≡ same →
        (progress_of t (put_progress u p table)).last ≡ (progress_of t table).last
    by true same =
        subst (λ (v : Tuple). (progress_of v (put_progress u p table)).last ≡ (progress_of v table).last)
        (same_tuple-eq u t same) (ap (λ (q : Progress). q.last) (progress_same u p table) ∙ e)
    by false other = ap (λ (q : Progress). q.last) (progress_other u t p table other)

pub own_last : (own : OwnFrames) (xs : List TcpFields) → SameLast own.progress (fold own_after own xs).progress
own_last own [] t = refl
own_last own (s ∷ xs) t =
    let u = (took_after own.items s).tuple in
    let what = (took_after own.items s).what in
    own_last (own_after own s) xs t
    ∙ put_same u (progress_with what (progress_of u own.progress)) own.progress
    (with_last what (progress_of u own.progress)) t

-- of those that it restarts nothing is released
abbrev RestartsAtZero : OwnFrames → Type 0
RestartsAtZero own =
    (t : Tuple) → list_any (same_tuple t) own.restarts ≡ true → (progress_of t own.progress).edge ≡ 0

as_before : (u : Tuple) (restarts : List Tuple) → list_any (same_tuple u) (restarts ++ []) ≡ true →
    list_any (same_tuple u) restarts ≡ true
as_before u restarts e =
    ap (λ (ts : List Tuple). list_any (same_tuple u) ts) (sym (append-nil restarts)) ∙ e

with_zero : (what : What) (u : Tuple) (p : Progress) (restarts : List Tuple) →
    (list_any (same_tuple u) restarts ≡ true → p.edge ≡ 0) →
    list_any (same_tuple u) (restarts ++ restarts_of u what) ≡ true → (progress_with what p).edge ≡ 0
with_zero Ignored u p restarts h e = h (as_before u restarts e)
with_zero (Opened o) u p restarts h e = refl
with_zero (Restarted o) u p restarts h e = refl
with_zero (Symbols from to) u p restarts h e = h (as_before u restarts e)
with_zero Reset u p restarts h e = h (as_before u restarts e)
with_zero (Refused c) u p restarts h e = h (as_before u restarts e)

not_other : (what : What) (u t : Tuple) (restarts : List Tuple) → same_tuple t u ≡ false →
    list_any (same_tuple t) (restarts ++ restarts_of u what) ≡ true → list_any (same_tuple t) restarts ≡ true
not_other what u t restarts other e =
    by (list_any (same_tuple t) restarts) (list_any (same_tuple t) (restarts_of u what)) (none what)
    (sym (list_any-append (same_tuple t) restarts (restarts_of u what)) ∙ e)
  where
    none : (w : What) → list_any (same_tuple t) (restarts_of u w) ≡ false
    none Ignored = refl
    none (Opened o) = refl
    none (Restarted o) = ap (λ (b : Bool). b || false) other
    none (Symbols from to) = refl
    none Reset = refl
    none (Refused c) = refl

    by : (b c : Bool) → c ≡ false → (b || c) ≡ true → b ≡ true
    by true c f g = refl
    by false c f g = absurd (true≢false (sym g ∙ f))

own_zero : (own : OwnFrames) (s : TcpFields) → RestartsAtZero own → RestartsAtZero (own_after own s)
own_zero own s h t e = by (same_tuple u t) refl
  where
    u : Tuple
    u = (took_after own.items s).tuple

    what : What
    what = (took_after own.items s).what

    p : Progress
    p = progress_with what (progress_of u own.progress)

    here : list_any (same_tuple u) (own.restarts ++ restarts_of u what) ≡ true →
        (progress_of u (put_progress u p own.progress)).edge ≡ 0
    here f =
        ap (λ (q : Progress). q.edge) (progress_same u p own.progress)
        ∙ with_zero what u (progress_of u own.progress) own.restarts (h u) f

    by : (same : Bool) → same_tuple u t ≡ same → (progress_of t (put_progress u p own.progress)).edge ≡ 0
    by true same =
        subst (λ (v : Tuple). list_any (same_tuple v) (own.restarts ++ restarts_of u what) ≡ true →
        (progress_of v (put_progress u p own.progress)).edge ≡ 0) (same_tuple-eq u t same) here e
    by false other =
        ap (λ (q : Progress). q.edge) (progress_other u t p own.progress other)
        ∙ h t (not_other what u t own.restarts (same_tuple-sym t u other) e)

pub all_zero : (own : OwnFrames) (xs : List TcpFields) → RestartsAtZero own → RestartsAtZero (fold own_after own xs)
all_zero own [] h = h
all_zero own (s ∷ xs) h = all_zero (own_after own s) xs (own_zero own s h)

-- a restart is a cause
pub restart_causes : (scene : Scene) (tuples : List Tuple) (progress : ProgressTable) (t : Tuple) →
    cause_of scene tuples progress ≡ None → is_restarted scene t ≡ false
unfolding cause_of
restart_causes scene tuples progress t e = by scene.restarts refl e
  where
    by : (restarts : List Tuple) → scene.restarts ≡ restarts →
        (if is_some (first_difference scene tuples progress) then Some Differ
        else (if not (is_empty scene.restarts) then Some Restart
        else (if is_some (first_wait tuples progress) then Some Wait else None))) ≡ None →
        is_restarted scene t ≡ false
    by [] f g = ap (λ (ts : List Tuple). list_any (same_tuple t) ts) f
    by (u ∷ us) f g =
        absurd (none (is_some (first_difference scene tuples progress))
        (ap (λ (ts : List Tuple). if is_some (first_difference scene tuples progress) then Some Differ
        else (if not (is_empty ts) then Some Restart
        else (if is_some (first_wait tuples progress) then Some Wait else None))) (sym f) ∙ g))
      where
        none : (b : Bool) → (if b then Some Differ else Some Restart) ≡ None → ⊥
        none true k = absurd (cc k)
        none false k = absurd (cc k)
