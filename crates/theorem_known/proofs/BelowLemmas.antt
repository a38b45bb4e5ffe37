-- The symbols below the edges stand with the other node through an event's own segments and through trims.
use Rattle.std.proofs.Common.{◌≡◌, ℕ, ◌-◌, ◌<◌, ◌≤◌, Bool, true, false, ◌||◌, nat_lt, max, min, is_some, if◌then◌else◌, List, [], ◌∷◌, ◌++◌, append-nil, length, drop, slice_get, fold, Option, None, Some, refl, sym, ap, subst, ◌∙◌, arith}
use Rattle.std.proofs.lemmas.Bool.{cond_both}
use Rattle.inet_frame.specs.Counted.{tcp_in, tuple_of}
use Rattle.inet_frame.specs.Fields.{TcpFields}
use Rattle.inet_frame.specs.Flags.{has_rst, has_syn}
use Rattle.inet_frame.specs.declared.tuple.Tuple.{Tuple}
use Rattle.tcp_track.specs.Laws.{took_after}
use Rattle.tcp_track.specs.Lines as lines
use Rattle.tcp_track.specs.Lines.{Item, after_segment, after_trim, commit, has_ended, line, line_after, line_with, lengthen, opened_line, refused_line, sent, trim, trim_end}
use Rattle.tcp_track.specs.Restarts.{is_restart}
use Rattle.tcp_track.specs.Segments.{Symbol, is_refusal, opening_in, opens_anew, refused_in, same_tuple, start_of, symbols_in}
use Rattle.tcp_track.specs.Stands.{is_of_client}
use Rattle.tcp_track.specs.Tracking.{span_in, span_of, what_of}
use Rattle.tcp_track.specs.declared.answers.What.TheVariants.{Ignored, Opened, Restarted, Reset, Refused}
use Rattle.tcp_track.specs.declared.openings.Opening.{Opening}
use Rattle.tcp_track.proofs.ElementLemmas.{get_left}
use Rattle.tcp_track.proofs.TupleLemmas.{same_tuple-refl}
use Rattle.settle_rules.specs.OwnFrames.{OwnFrames, own_after, progress_with}
use Rattle.settle_rules.specs.Progress.{Progress, progress_of}
use Rattle.frame_mirror.specs.declared.ring.Waiting.{Waiting}
use Rattle.pair_theorem.specs.ClientFrames.{trim_items, trims_by}
use Rattle.theorem_stands.specs.Numbered.{AreNumbered}
use Rattle.theorem_stands.proofs.NumberedLemmas.{all_own_numbered, line_push}
use Rattle.theorem_known.proofs.BothRight.{AllBelow, BelowStands, put_below}

-- ONE SEGMENT leaves the symbols below the edge, or takes the edge to 0
longer_keeps : (symbols : List Symbol) (from : ℕ) (new : List Symbol) (k : ℕ) → k < length symbols
    → slice_get (lengthen symbols from new) k ≡ slice_get symbols k
longer_keeps symbols from new k h =
    cond_both (has_ended symbols || nat_lt (length symbols) from) symbols
    (symbols ++ drop (length symbols - from) new) (λ (xs : List Symbol). slice_get xs k ≡ slice_get symbols k)
    (λ e. refl) (λ e. get_left symbols (drop (length symbols - from) new) k h)

segment_below : (said : List TcpFields) (t : Tuple) (l : lines.Line) (p : Progress) (s : TcpFields) (known : Bool)
    → p.edge ≤ length l.symbols → BelowStands said t l p.edge
    → BelowStands said t (after_segment l s) (progress_with (what_of l.opening known s) p).edge
unfolding after_segment what_of
segment_below said t l p s known within h = by (is_refusal s) (has_rst s.flags) (opens_anew l.opening s)
  where
    opened : (again : Bool) → BelowStands said t (opened_line l s)
        (progress_with (if again then Restarted (opening_in s) else Opened (opening_in s)) p).edge
    opened true o k x e low f = absurd (omega (arith, low))
    opened false o k x e low f = absurd (omega (arith, low))

    span_same : (from : ℕ) (xs : List Symbol) → progress_with (span_of from xs) p ≡ p
    span_same from [] = refl
    span_same from (x ∷ xs) = refl

    keeps : (o : Opening) (k : ℕ) → k < length l.symbols
        → slice_get (line_with l (Some o) s).symbols k ≡ slice_get l.symbols k
    keeps o k low =
        cond_both (has_syn s.flags) l.symbols (lengthen l.symbols (start_of o.own s) (symbols_in o.own s))
        (λ (xs : List Symbol). slice_get xs k ≡ slice_get l.symbols k) (λ e. refl)
        (λ e. longer_keeps l.symbols (start_of o.own s) (symbols_in o.own s) k low)

    goes_on : (o : Option Opening) → BelowStands said t (line_with l o s) (progress_with (span_in o s) p).edge
    goes_on None = h
    goes_on (Some o) =
        subst (λ (q : Progress). BelowStands said t (line_with l (Some o) s) q.edge)
        (sym (span_same (start_of o.own s) (symbols_in o.own s)))
        (λ q k x e low f. h q k x e low (sym (keeps o k (omega (arith, low, within))) ∙ f))

    resets : (is : Bool) → BelowStands said t (record l { reset = is_some l.opening })
        (progress_with (if is then Reset else Ignored) p).edge
    resets true o k x e low f = h o k x e low f
    resets false o k x e low f = h o k x e low f

    by : (refuses reset opens : Bool)
        → BelowStands said t
        (if refuses then refused_line l s
        else (if reset then record l { reset = is_some l.opening }
        else (if opens then opened_line l s else line_with l l.opening s)))
        (progress_with
        (if refuses then Refused (refused_in s)
        else (if reset then (if is_some l.opening then Reset else Ignored)
        else (if opens then (if known then Restarted (opening_in s) else Opened (opening_in s))
        else span_in l.opening s))) p).edge
    by true reset opens = λ o k x e low f. h o k x e low f
    by false true opens = resets (is_some l.opening)
    by false false true = opened known
    by false false false = goes_on l.opening

-- OWN SEGMENTS
own_below : (said : List TcpFields) (own : OwnFrames) (s : TcpFields)
    → AreNumbered own.items own.numbers own.progress → AllBelow said own.items own.progress
    → AllBelow said (own_after own s).items (own_after own s).progress
unfolding took_after line_after
own_below said own s numbered h =
    let u = tuple_of s in
    let what = what_of (line u own.items).opening (is_restart own.items s) s in
    put_below said (own.items ++ sent s ∷ []) u (progress_with what (progress_of u own.progress)) own.progress
    (subst (λ (l : lines.Line). BelowStands said u l (progress_with what (progress_of u own.progress)).edge)
    (sym (line_push u own.items (sent s) ∙ of_tuple u (line u own.items) (same_tuple-refl u)))
    (segment_below said u (line u own.items) (progress_of u own.progress) s (is_restart own.items s)
    (numbered u).within (h u)))
    (λ t e.
    subst (λ (l : lines.Line). BelowStands said t l (progress_of t own.progress).edge)
    (sym (line_push t own.items (sent s) ∙ of_other t (line t own.items) e)) (h t))
  where
    of_tuple : (t : Tuple) (l : lines.Line) → same_tuple (tuple_of s) t ≡ true
        → line_after t l (sent s) ≡ after_segment l s
    of_tuple t l e = ap (λ (b : Bool). if b then after_segment l s else l) e

    of_other : (t : Tuple) (l : lines.Line) → same_tuple (tuple_of s) t ≡ false → line_after t l (sent s) ≡ l
    of_other t l e = ap (λ (b : Bool). if b then after_segment l s else l) e

pub all_own_below : (said : List TcpFields) (own : OwnFrames) (xs : List TcpFields)
    → AreNumbered own.items own.numbers own.progress → AllBelow said own.items own.progress
    → AllBelow said (fold own_after own xs).items (fold own_after own xs).progress
all_own_below said own [] numbered h = h
all_own_below said own (s ∷ xs) numbered h =
    all_own_below said (own_after own s) xs (all_own_numbered own (s ∷ []) numbered) (own_below said own s numbered h)

-- LINES WITH THE SAME SYMBOLS
pub record SameSymbols (l m : lines.Line) : Type 0 where
  pub opening : m.opening ≡ l.opening
  pub symbols : m.symbols ≡ l.symbols

trimmed_same : (l : lines.Line) (client to : ℕ) → SameSymbols l (after_trim l client to)
unfolding after_trim
trimmed_same l client to = by (is_of_client l.opening client)
  where
    by : (b : Bool) → SameSymbols l (if b then record l { base = max l.base (min to (trim_end l.symbols)) } else l)
    by true = record { opening = refl; symbols = refl }
    by false = record { opening = refl; symbols = refl }

pushed_trim : (t u : Tuple) (items : List Item) (client to : ℕ)
    → SameSymbols (line t items) (line t (items ++ trim u client to ∷ []))
unfolding line_after
pushed_trim t u items client to =
    subst (λ (l : lines.Line). SameSymbols (line t items) l) (sym (line_push t items (trim u client to)))
    (cond_both (same_tuple u t) (after_trim (line t items) client to) (line t items)
    (λ (l : lines.Line). SameSymbols (line t items) l) (λ e. trimmed_same (line t items) client to)
    (λ e. record { opening = refl; symbols = refl }))

pub trims_same : (t : Tuple) (items : List Item) (w : Waiting)
    → SameSymbols (line t items) (line t (items ++ trims_by w))
unfolding trims_by
trims_same t items w = by (tcp_in w.frame) w.seen
  where
    none : SameSymbols (line t items) (line t (items ++ []))
    none =
        subst (λ (xs : List Item). SameSymbols (line t items) (line t xs)) (sym (append-nil items))
        (record { opening = refl; symbols = refl })

    by : (o : Option TcpFields) (seen : Option Opening)
        → SameSymbols (line t items) (line t (items ++ trim_items o seen w.trim))
    by None seen = none
    by (Some s) None = none
    by (Some s) (Some o) = pushed_trim t _ items o.client w.trim

pub below_same : (said : List TcpFields) (t : Tuple) (l m : lines.Line) (edge : ℕ) → SameSymbols l m
    → BelowStands said t l edge → BelowStands said t m edge
below_same said t l m edge same h o k x e low f =
    h o k x (sym same.opening ∙ e) low (sym (ap (λ (xs : List Symbol). slice_get xs k) same.symbols) ∙ f)
