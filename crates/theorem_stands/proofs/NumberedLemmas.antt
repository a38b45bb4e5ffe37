-- Edges and numbers go on through an event's own segments, a settling, a capture and a survival.
use Rattle.std.proofs.Common.{◌≡◌, ℕ, ◌+◌, ◌-◌, ◌<◌, ◌≤◌, ◌^◌, Bool, true, false, not, ◌&&◌, ◌||◌, nat_lt, nat_le, max, min, is_some, if◌then◌else◌, List, [], ◌∷◌, ◌++◌, append-nil, append_assoc, length, map, drop, fold, find, Option, None, Some, refl, sym, ap, subst, ◌∙◌, All, arith, length-append, length-drop, true≢false}
use Rattle.std.specs.List.{common_prefix_len, list_any}
use Rattle.std.specs.Option.{option_map_or}
use Rattle.std.proofs.lemmas.Bool.{and_parts, cond_both}
use Rattle.std.proofs.lemmas.Grind.{fold-append}
use Rattle.std.proofs.lemmas.List.Folds.{list_any-append}
use Rattle.std.proofs.lemmas.List.Sums.{common_prefix_len-le}
use Rattle.inet_frame.specs.Counted.{tuple_of}
use Rattle.inet_frame.specs.Fields.{TcpFields}
use Rattle.inet_frame.specs.Flags.{has_rst, has_syn}
use Rattle.inet_frame.specs.declared.tuple.Tuple.{Tuple}
use Rattle.tcp_track.specs.Laws.{took_after}
use Rattle.tcp_track.specs.Lines as lines
use Rattle.tcp_track.specs.Lines.{Item, after_segment, after_trim, commit, has_ended, line, line_after, line_with, lengthen, no_line, opened_line, order, order_after, refused_line, sent, sent_of, trim, trim_end}
use Rattle.tcp_track.specs.Restarts.{is_restart}
use Rattle.tcp_track.specs.Segments.{Symbol, is_refusal, may_open, opening_in, opens_anew, refused_in, same_symbol, same_tuple, start_of, symbols_in}
use Rattle.tcp_track.specs.Stands.{is_of_client, opening_after, opening_of}
use Rattle.tcp_track.specs.Tracking.{span_in, span_of, what_of}
use Rattle.tcp_track.specs.declared.answers.Took.{Took}
use Rattle.tcp_track.specs.declared.answers.What.{What}
use Rattle.tcp_track.specs.declared.answers.What.TheVariants.{Ignored, Opened, Restarted, Reset, Refused}
use Rattle.tcp_track.specs.declared.openings.Opening.{Opening}
use Rattle.tcp_track.proofs.SymbolLemmas.{line_fits}
use Rattle.tcp_track.proofs.TupleLemmas.{same_tuple-eq, same_tuple-refl}
use Rattle.settle_rules.specs.Matching.{BothLines, agreed_ack_window, client_or_zero, has_one_client, matched_end}
use Rattle.settle_rules.specs.Numbers.{KeptNumber, is_number_of, keep_number, kept_number, new_number, number_or_zero, thin}
use Rattle.settle_rules.specs.OwnFrames.{OwnFrames, own_after, progress_with}
use Rattle.settle_rules.specs.Progress.{Progress, ProgressTable, clear_ages, no_progress, progress_of, put_progress}
use Rattle.settle_rules.specs.Settle.{Scene, Settlement, both_lines, goes_out, grow_older, is_empty, is_restarted, new_edge, same_number, settle_one, settle_or_rest, settle_tuple, shown_after}
use Rattle.settle_rules.specs.Survive.{Survival, lone_lines, survive, survive_line, survive_tuple, survivor_progress}
use Rattle.theorem_frames.specs.Lines.{IsSound}
use Rattle.theorem_frames.proofs.BytesLemmas.{NumberFits}
use Rattle.theorem_frames.proofs.LineLemmas.{lines_are_sound_lem}
use Rattle.theorem_frames.proofs.PromptLemmas.{found_fits, kept_stays, kept_there, progress_other, progress_same}
use Rattle.theorem_stands.specs.Numbered.{AreNumbered, IsNumbered, shown_as}
use Rattle.theorem_stands.proofs.KeptLemmas.{KeepsAlike, kept_more, kept_thinned, number_for, opening_kept}
use Rattle.theorem_stands.proofs.PlainLemmas.{plain_cases, plain_of, plain_shown, resets_at}

-- ONE LINE
pub line_push : (t : Tuple) (items : List Item) (x : Item) →
    line t (items ++ x ∷ []) ≡ line_after t (line t items) x
unfolding line
line_push t items x = fold-append (line_after t) no_line items (x ∷ [])

-- the same where other numbers are kept in the same way
pub numbered_alike : (t : Tuple) (l : lines.Line) (p : Progress) (old new : List KeptNumber) →
    ((o : Opening) → l.opening ≡ Some o → KeepsAlike old new t o.client) → IsNumbered t l p old →
    IsNumbered t l p new
numbered_alike t l p old new same h = record {
  trimmed = h.trimmed;
  within = h.within;
  kept = λ o e. (same o e).some ∙ h.kept o e;
  shown = λ o e some. h.shown o e some
      ∙ ap (λ (n : ℕ). Some (record { client = o.client; own = n })) (sym (same o e).number);
}

found_alike : (t : Tuple) (client : ℕ) (old new : List KeptNumber) →
    kept_number t client new ≡ kept_number t client old → KeepsAlike old new t client
found_alike t client old new e = record { some = ap is_some e; number = ap number_or_zero e }

numbered_more : (t : Tuple) (l : lines.Line) (p : Progress) (numbers more : List KeptNumber) →
    IsNumbered t l p numbers → IsNumbered t l p (numbers ++ more)
numbered_more t l p numbers more h =
    numbered_alike t l p numbers (numbers ++ more)
    (λ o e. found_alike t o.client numbers (numbers ++ more) (kept_more t o.client numbers more (h.kept o e))) h

no_shorter : (symbols : List Symbol) (from : ℕ) (new : List Symbol) →
    length symbols ≤ length (lengthen symbols from new)
no_shorter symbols from new =
    cond_both (has_ended symbols || nat_lt (length symbols) from) symbols
    (symbols ++ drop (length symbols - from) new) (λ (xs : List Symbol). length symbols ≤ length xs)
    (λ e. omega arith) (λ e. omega (arith, length-append symbols (drop (length symbols - from) new)))

-- a segment of the connection
numbered_segment : (l : lines.Line) (p : Progress) (numbers : List KeptNumber) (s : TcpFields) (known : Bool) →
    IsNumbered (tuple_of s) l p numbers →
    IsNumbered (tuple_of s) (after_segment l s) (progress_with (what_of l.opening known s) p)
    (numbers ++ new_number numbers s)
unfolding after_segment what_of
numbered_segment l p numbers s known h = by (is_refusal s) (has_rst s.flags) (opens_anew l.opening s) refl
  where
    t : Tuple
    t = tuple_of s

    all : List KeptNumber
    all = numbers ++ new_number numbers s

    more : IsNumbered t l p all
    more = numbered_more t l p numbers (new_number numbers s) h

    opened : (again : Bool) → opens_anew l.opening s ≡ true →
        IsNumbered t (opened_line l s)
        (progress_with (if again then Restarted (opening_in s) else Opened (opening_in s)) p) all
    opened again e = by_known again
      where
        kept : (o : Opening) → Some (opening_in s) ≡ Some o → is_some (kept_number t o.client all) ≡ true
        kept o f =
            let is : opening_in s ≡ o = cc in
            subst (λ (q : Opening). is_some (kept_number t q.client all) ≡ true) is
            (opening_kept numbers s (and_parts (may_open s) _ e).0)

        by_known : (b : Bool) →
            IsNumbered t (opened_line l s)
            (progress_with (if b then Restarted (opening_in s) else Opened (opening_in s)) p) all
        by_known true = record {
          trimmed = omega arith;
          within = omega arith;
          kept = kept;
          shown = λ o f some. absurd (omega (arith, some));
        }
        by_known false = record {
          trimmed = omega arith;
          within = omega arith;
          kept = kept;
          shown = λ o f some. absurd (omega (arith, some));
        }

    spans : (o : Opening) → l.opening ≡ Some o → (what : What) → progress_with what p ≡ p →
        IsNumbered t (line_with l (Some o) s) (progress_with what p) all
    spans o e what same =
        let longer_is =
        cond_both (has_syn s.flags) l.symbols (lengthen l.symbols (start_of o.own s) (symbols_in o.own s))
        (λ (xs : List Symbol). length l.symbols ≤ length xs) (λ f. omega arith)
        (λ f. no_shorter l.symbols (start_of o.own s) (symbols_in o.own s)) in
        subst (λ (q : Progress). IsNumbered t (line_with l (Some o) s) q all) (sym same) (record {
          trimmed = more.trimmed;
          within = omega (arith, more.within, longer_is);
          kept = more.kept;
          shown = more.shown;
        })

    span_same : (from : ℕ) (xs : List Symbol) → progress_with (span_of from xs) p ≡ p
    span_same from [] = refl
    span_same from (x ∷ xs) = refl

    goes_on : (o : Option Opening) → l.opening ≡ o → IsNumbered t (line_with l o s) (progress_with (span_in o s) p) all
    goes_on None e = more
    goes_on (Some o) e =
        spans o e (span_in (Some o) s) (span_same (start_of o.own s) (symbols_in o.own s))

    resets : (is : Bool) →
        IsNumbered t (record l { reset = is_some l.opening }) (progress_with (if is then Reset else Ignored) p) all
    resets true =
        record { trimmed = more.trimmed; within = more.within; kept = more.kept; shown = more.shown }
    resets false =
        record { trimmed = more.trimmed; within = more.within; kept = more.kept; shown = more.shown }

    by : (refuses reset opens : Bool) → opens_anew l.opening s ≡ opens →
        IsNumbered t
        (if refuses then refused_line l s
        else (if reset then record l { reset = is_some l.opening }
        else (if opens then opened_line l s else line_with l l.opening s)))
        (progress_with
        (if refuses then Refused (refused_in s)
        else (if reset then (if is_some l.opening then Reset else Ignored)
        else (if opens then (if known then Restarted (opening_in s) else Opened (opening_in s))
        else span_in l.opening s))) p) all
    by true reset opens e =
        record { trimmed = more.trimmed; within = more.within; kept = more.kept; shown = more.shown }
    by false true opens e = resets (is_some l.opening)
    by false false true e = opened known e
    by false false false e = goes_on l.opening refl

-- a trim within the edge
pub numbered_trim : (t : Tuple) (l : lines.Line) (p : Progress) (numbers : List KeptNumber) (client to : ℕ) →
    to ≤ p.edge → IsNumbered t l p numbers → IsNumbered t (after_trim l client to) p numbers
unfolding after_trim
numbered_trim t l p numbers client to low h =
    cond_both (is_of_client l.opening client) (record l { base = max l.base (min to (trim_end l.symbols)) }) l
    (λ (m : lines.Line). IsNumbered t m p numbers)
    (λ e. record {
      trimmed = omega (arith, low, h.trimmed);
      within = h.within;
      kept = h.kept;
      shown = h.shown;
    })
    (λ e. h)

-- ALL LINES
pub put_numbered : (items : List Item) (numbers : List KeptNumber) (u : Tuple) (p : Progress) (table : ProgressTable) →
    IsNumbered u (line u items) p numbers →
    ((t : Tuple) → same_tuple u t ≡ false → IsNumbered t (line t items) (progress_of t table) numbers) →
    AreNumbered items numbers (put_progress u p table)
put_numbered items numbers u p table here others t = by (same_tuple u t) refl
  where
    by : (same : Bool) → same_tuple u t ≡ same →
        IsNumbered t (line t items) (progress_of t (put_progress u p table)) numbers
    by true e =
        subst (λ (v : Tuple). IsNumbered v (line v items) (progress_of v (put_progress u p table)) numbers)
        (same_tuple-eq u t e)
        (subst (λ (q : Progress). IsNumbered u (line u items) q numbers) (sym (progress_same u p table)) here)
    by false e =
        subst (λ (q : Progress). IsNumbered t (line t items) q numbers) (sym (progress_other u t p table e))
        (others t e)

-- OWN SEGMENTS
own_numbered : (own : OwnFrames) (s : TcpFields) → AreNumbered own.items own.numbers own.progress →
    AreNumbered (own_after own s).items (own_after own s).numbers (own_after own s).progress
unfolding took_after line_after
own_numbered own s h =
    let u = tuple_of s in
    let all = own.numbers ++ new_number own.numbers s in
    let items = own.items ++ sent s ∷ [] in
    let what = what_of (line u own.items).opening (is_restart own.items s) s in
    put_numbered items all u (progress_with what (progress_of u own.progress)) own.progress
    (subst (λ (l : lines.Line). IsNumbered u l (progress_with what (progress_of u own.progress)) all)
    (sym (line_push u own.items (sent s) ∙ of_tuple u (line u own.items) (same_tuple-refl u)))
    (numbered_segment (line u own.items) (progress_of u own.progress) own.numbers s (is_restart own.items s) (h u)))
    (λ t e.
    subst (λ (l : lines.Line). IsNumbered t l (progress_of t own.progress) all)
    (sym (line_push t own.items (sent s) ∙ of_other t (line t own.items) e))
    (numbered_more t (line t own.items) (progress_of t own.progress) own.numbers (new_number own.numbers s) (h t)))
  where
    of_tuple : (t : Tuple) (l : lines.Line) → same_tuple (tuple_of s) t ≡ true →
        line_after t l (sent s) ≡ after_segment l s
    of_tuple t l e = ap (λ (b : Bool). if b then after_segment l s else l) e

    of_other : (t : Tuple) (l : lines.Line) → same_tuple (tuple_of s) t ≡ false → line_after t l (sent s) ≡ l
    of_other t l e = ap (λ (b : Bool). if b then after_segment l s else l) e

pub all_own_numbered : (own : OwnFrames) (xs : List TcpFields) → AreNumbered own.items own.numbers own.progress →
    AreNumbered (fold own_after own xs).items (fold own_after own xs).numbers (fold own_after own xs).progress
all_own_numbered own [] h = h
all_own_numbered own (s ∷ xs) h = all_own_numbered (own_after own s) xs (own_numbered own s h)

pub own_items : (own : OwnFrames) (xs : List TcpFields) → (fold own_after own xs).items ≡ own.items ++ map sent xs
own_items own [] = sym (append-nil own.items)
own_items own (s ∷ xs) = own_items (own_after own s) xs ∙ append_assoc own.items (sent s ∷ []) (map sent xs)

-- SETTLING
-- the edge moves up, and never past the line's end
pub record EdgeMoves (b : BothLines) (edge : ℕ) : Type 0 where
  pub up : edge ≤ new_edge b edge
  pub within : new_edge b edge ≤ length b.mine.symbols

matched_moves : (b : BothLines) (edge : ℕ) → edge ≤ length b.mine.symbols →
    (edge ≤ matched_end b edge) × (matched_end b edge ≤ length b.mine.symbols)
matched_moves b edge h =
    let common = common_prefix_len same_symbol (drop edge b.mine.symbols) (drop edge b.theirs.symbols) in
    let bound = common_prefix_len-le same_symbol (drop edge b.mine.symbols) (drop edge b.theirs.symbols) in
    cond_both (has_one_client b && nat_le b.theirs.base edge) (edge + common) edge
    (λ (n : ℕ). (edge ≤ n) × (n ≤ length b.mine.symbols))
    (λ e. (omega arith, omega (arith, bound.0, length-drop edge b.mine.symbols, h))) (λ e. (omega arith, h))

pub edge_moves : (b : BothLines) (edge : ℕ) → edge ≤ length b.mine.symbols → EdgeMoves b edge
edge_moves b edge h =
    let moves = matched_moves b edge h in
    let both =
    cond_both (goes_out b edge) (matched_end b edge) edge
    (λ (n : ℕ). (edge ≤ n) × (n ≤ length b.mine.symbols)) (λ e. moves) (λ e. (omega arith, h)) in
    record { up = both.0; within = both.1 }

-- the lines and the number of a tuple, under which its current opening is known
pub record IsKnownBy (t : Tuple) (b : BothLines) (numbers : List KeptNumber) : Type 0 where
  pub small : b.number < 2 ^ 32
  pub sound : IsSound b.mine
  pub number : (o : Opening) → b.mine.opening ≡ Some o → number_for t o.client numbers ≡ b.number

grown : (t : Tuple) (b : BothLines) (m : ℕ) (p : Progress) (is_turn : Bool) (numbers : List KeptNumber) →
    IsNumbered t b.mine p numbers → IsNumbered t b.mine (if is_turn then grow_older b m p else p) numbers
grown t b m p true numbers h =
    record { trimmed = h.trimmed; within = h.within; kept = h.kept; shown = h.shown }
grown t b m p false numbers h = h

pub settled_numbered : (t : Tuple) (b : BothLines) (p : Progress) (is_turn : Bool) (tooks : List Took)
    (numbers : List KeptNumber) → IsKnownBy t b numbers → IsNumbered t b.mine p numbers →
    IsNumbered t b.mine (settle_one b p is_turn tooks).progress numbers
unfolding settle_one
settled_numbered t b p is_turn tooks numbers known h =
    let moves = edge_moves b p.edge h.within in
    let plain = plain_of b p tooks in
    let client = client_or_zero b.mine.opening in
    grown t b (matched_end b (new_edge b p.edge)) (record p {
      edge = new_edge b p.edge;
      last = if is_empty plain then p.last else Some (agreed_ack_window b);
      reset_due = p.reset_due && not (resets_at b p);
      refusal_due = p.refusal_due && not (p.refusal_due && same_number b.mine.refused b.theirs.refused);
      shown = shown_after client p.shown plain;
    }) is_turn numbers (record {
      trimmed = omega (arith, moves.up, h.trimmed);
      within = moves.within;
      kept = h.kept;
      shown = λ o e some.
          let client_is : client ≡ o.client = ap client_or_zero e in
          let as_known = ap (λ (n : ℕ). Some (record { client = o.client; own = n })) (known.number o e) in
          ap (λ (c : ℕ). shown_after c p.shown plain) client_is
          ∙ (plain_shown b o.client p.edge (new_edge b p.edge) p.shown plain known.small
          (plain_cases b p tooks known.sound) (λ before. h.shown o e before ∙ as_known) some ∙ sym as_known);
    })

pub known_by : (scene : Scene) (t : Tuple) → All NumberFits scene.numbers →
    IsKnownBy t (both_lines scene t) scene.numbers
unfolding both_lines
known_by scene t fit = record {
  small = found_fits (is_number_of t (client_or_zero (line t scene.mine).opening)) scene.numbers fit;
  sound = lines_are_sound_lem scene.mine t;
  number = λ o e. ap (λ (c : ℕ). number_for t c scene.numbers) (sym (ap client_or_zero e));
}

tuple_numbered : (scene : Scene) (so_far : Settlement) (u : Tuple) → All NumberFits scene.numbers →
    AreNumbered scene.mine scene.numbers so_far.progress →
    AreNumbered scene.mine scene.numbers (settle_tuple scene so_far u).progress
unfolding settle_tuple both_lines
tuple_numbered scene so_far u fit h =
    let b = both_lines scene u in
    let p = progress_of u so_far.progress in
    let one = settle_or_rest (is_restarted scene u) b p scene.is_turn scene.tooks in
    put_numbered scene.mine scene.numbers u one.progress so_far.progress (by (is_restarted scene u)) (λ t e. h t)
  where
    by : (restarted : Bool) →
        IsNumbered u (line u scene.mine)
        (settle_or_rest restarted (both_lines scene u) (progress_of u so_far.progress) scene.is_turn
        scene.tooks).progress scene.numbers
    by true =
        grown u (both_lines scene u)
        (matched_end (both_lines scene u) (progress_of u so_far.progress).edge)
        (progress_of u so_far.progress) scene.is_turn scene.numbers (h u)
    by false =
        settled_numbered u (both_lines scene u) (progress_of u so_far.progress) scene.is_turn scene.tooks
        scene.numbers (known_by scene u fit) (h u)

pub settle_numbered : (scene : Scene) (so_far : Settlement) (tuples : List Tuple) → All NumberFits scene.numbers →
    AreNumbered scene.mine scene.numbers so_far.progress →
    AreNumbered scene.mine scene.numbers (fold (settle_tuple scene) so_far tuples).progress
settle_numbered scene so_far [] fit h = h
settle_numbered scene so_far (u ∷ tuples) fit h =
    settle_numbered scene (settle_tuple scene so_far u) tuples fit (tuple_numbered scene so_far u fit h)

-- A CAPTURE, AN ACKNOWLEDGEMENT
pub thinned_numbered : (items : List Item) (numbers : List KeptNumber) (progress : ProgressTable) →
    AreNumbered items numbers progress → AreNumbered items (thin items numbers) progress
thinned_numbered items numbers progress h t =
    numbered_alike t (line t items) (progress_of t progress) numbers (thin items numbers)
    (λ o e. found_alike t o.client numbers (thin items numbers) (kept_thinned items t o numbers e)) (h t)

pub cleared : (t : Tuple) (table : ProgressTable) →
    ((progress_of t (clear_ages table)).edge ≡ (progress_of t table).edge)
    × ((progress_of t (clear_ages table)).shown ≡ (progress_of t table).shown)
cleared t [] = (refl, refl)
cleared t (x ∷ table) = by (same_tuple x.0 t) (cleared t table)
  where
    found : ProgressTable → Option (Tuple × Progress)
    found xs = find (λ (y : Tuple × Progress). same_tuple y.0 t) xs

    value : Option (Tuple × Progress) → Progress
    value o = option_map_or (λ (y : Tuple × Progress). y.1) o no_progress

    by : (b : Bool) →
        ((value (found (clear_ages table))).edge ≡ (value (found table)).edge)
        × ((value (found (clear_ages table))).shown ≡ (value (found table)).shown) →
        ((value (if b then Some (x.0, record x.1 { age = 0 }) else found (clear_ages table))).edge
        ≡ (value (if b then Some x else found table)).edge)
        × ((value (if b then Some (x.0, record x.1 { age = 0 }) else found (clear_ages table))).shown
        ≡ (value (if b then Some x else found table)).shown)
    by true more = (refl, refl)
    by false more = more

pub cleared_numbered : (items : List Item) (numbers : List KeptNumber) (progress : ProgressTable) →
    AreNumbered items numbers progress → AreNumbered items numbers (clear_ages progress)
cleared_numbered items numbers progress h t =
    let same = cleared t progress in
    let here = h t in
    let edge_is = same.0 in
    record {
      trimmed = omega (arith, here.trimmed, edge_is);
      within = omega (arith, here.within, edge_is);
      kept = here.kept;
      shown = λ o e some. same.1 ∙ here.shown o e (omega (arith, some, edge_is));
    }

pub committed_numbered : (items : List Item) (numbers : List KeptNumber) (progress : ProgressTable) →
    AreNumbered items numbers progress → AreNumbered (items ++ commit ∷ []) numbers progress
unfolding line_after
committed_numbered items numbers progress h t =
    subst (λ (l : lines.Line). IsNumbered t l (progress_of t progress) numbers) (sym (line_push t items commit)) (h t)

-- A SURVIVAL
-- every tuple with an opening is in table order
met_once : (t : Tuple) (current : Option Opening) (met : List Tuple) (said : List TcpFields) →
    (is_some current ≡ true → list_any (same_tuple t) met ≡ true) →
    is_some (fold (opening_after t) current said) ≡ true →
    list_any (same_tuple t) (fold order_after met said) ≡ true
unfolding order_after
met_once t current met [] h some = h some
met_once t current met (s ∷ said) h some =
    met_once t (opening_after t current s) (order_after met s) said
    (λ e. by (same_tuple (tuple_of s) t && may_open s) refl e) some
  where
    u : Tuple
    u = tuple_of s

    goes_on : list_any (same_tuple t) met ≡ true → list_any (same_tuple t) (order_after met s) ≡ true
    goes_on e =
        cond_both ((may_open s || is_refusal s) && not (list_any (same_tuple u) met)) (met ++ u ∷ []) met
        (λ (ts : List Tuple). list_any (same_tuple t) ts ≡ true)
        (λ f. list_any-append (same_tuple t) met (u ∷ [])
        ∙ ap (λ (b : Bool). b || list_any (same_tuple t) (u ∷ [])) e) (λ f. e)

    opens : same_tuple u t ≡ true → may_open s ≡ true → list_any (same_tuple t) (order_after met s) ≡ true
    opens same may =
        by_met (list_any (same_tuple u) met) refl
      where
        at_last : list_any (same_tuple t) (met ++ u ∷ []) ≡ true
        at_last =
            list_any-append (same_tuple t) met (u ∷ [])
            ∙ (ap (λ (b : Bool). list_any (same_tuple t) met || (b || false)) (same_tuple-sym' u t same)
            ∙ or-true' (list_any (same_tuple t) met))
          where
            or-true' : (b : Bool) → (b || (true || false)) ≡ true
            or-true' true = refl
            or-true' false = refl

            same_tuple-sym' : (v w : Tuple) → same_tuple v w ≡ true → same_tuple w v ≡ true
            same_tuple-sym' v w e =
                subst (λ (x : Tuple). same_tuple w x ≡ true) (sym (same_tuple-eq v w e)) (same_tuple-refl w)

        by_met : (b : Bool) → list_any (same_tuple u) met ≡ b →
            list_any (same_tuple t)
            (if (may_open s || is_refusal s) && not (list_any (same_tuple u) met) then met ++ u ∷ [] else met) ≡ true
        by_met true e =
            cond_both ((may_open s || is_refusal s) && not (list_any (same_tuple u) met)) (met ++ u ∷ []) met
            (λ (ts : List Tuple). list_any (same_tuple t) ts ≡ true) (λ f. at_last)
            (λ f. subst (λ (v : Tuple). list_any (same_tuple v) met ≡ true) (same_tuple-eq u t same) e)
        by_met false e =
            ap (λ (b : Bool). list_any (same_tuple t)
            (if (b || is_refusal s) && not (list_any (same_tuple u) met) then met ++ u ∷ [] else met)) may
            ∙ (ap (λ (b : Bool). list_any (same_tuple t) (if not b then met ++ u ∷ [] else met)) e ∙ at_last)

    by : (b : Bool) → (same_tuple (tuple_of s) t && may_open s) ≡ b →
        is_some (if same_tuple (tuple_of s) t && may_open s then Some (opening_in s) else current) ≡ true →
        list_any (same_tuple t) (order_after met s) ≡ true
    by true e f = let parts = and_parts (same_tuple (tuple_of s) t) (may_open s) e in opens parts.0 parts.1
    by false e f =
        goes_on (h (sym (ap (λ (b : Bool). is_some (if b then Some (opening_in s) else current)) e) ∙ f))

pub opened_in_order : (items : List Item) (t : Tuple) (o : Opening) → (line t items).opening ≡ Some o →
    list_any (same_tuple t) (order items) ≡ true
unfolding order opening_of
opened_in_order items t o e =
    met_once t None [] (sent_of items) (λ f. f) (ap is_some ((line_fits t items).opened ∙ e))

-- what is left of a tuple that is not met
abbrev pub Survived : List Item → Survival → Tuple → Type 0
Survived items x t = IsNumbered t (line t items) (progress_of t x.progress) x.numbers

survived_here : (items : List Item) (x : Survival) (u : Tuple) (o : Opening) → (line u items).opening ≡ Some o →
    IsNumbered u (line u items)
    (survivor_progress
    (lone_lines u (line u items)
    (number_or_zero (kept_number u o.client (keep_number u o.client o.own true x.numbers)))) o)
    (keep_number u o.client o.own true x.numbers)
survived_here items x u o e =
    let sound = lines_are_sound_lem items u in
    let l = line u items in
    let all = keep_number u o.client o.own true x.numbers in
    let short =
    cond_both (has_ended l.symbols) (length l.symbols - 1) (length l.symbols)
    (λ (n : ℕ). n ≤ length l.symbols) (λ f. omega arith) (λ f. omega arith) in
    record {
      trimmed = omega (arith, sound.trimmed, short);
      within = omega arith;
      kept = λ q f.
          let is : o ≡ q = same o q (sym e ∙ f) in
          subst (λ (r : Opening). is_some (kept_number u r.client all) ≡ true) is
          (kept_there u o.client o.own x.numbers);
      shown = λ q f some.
          let is : o ≡ q = same o q (sym e ∙ f) in
          ap (λ (r : Opening). Some (shown_as u r all)) is;
    }
  where
    same : (a b : Opening) → Some a ≡ Some b → a ≡ b
    same a b f = cc

survived_line : (items : List Item) (x : Survival) (u : Tuple) (o : Option Opening) → (line u items).opening ≡ o →
    (t : Tuple) → Survived items x t → Survived items (survive_line x u (line u items) o) t
unfolding survive_line
survived_line items x u None e t h = h
survived_line items x u (Some o) e t h = by (same_tuple u t) refl
  where
    all : List KeptNumber
    all = keep_number u o.client o.own true x.numbers

    p : Progress
    p = survivor_progress (lone_lines u (line u items) (number_or_zero (kept_number u o.client all))) o

    by : (b : Bool) → same_tuple u t ≡ b →
        IsNumbered t (line t items) (progress_of t (put_progress u p x.progress)) all
    by true f =
        subst (λ (v : Tuple). IsNumbered v (line v items) (progress_of v (put_progress u p x.progress)) all)
        (same_tuple-eq u t f)
        (subst (λ (q : Progress). IsNumbered u (line u items) q all) (sym (progress_same u p x.progress))
        (survived_here items x u o e))
    by false f =
        subst (λ (q : Progress). IsNumbered t (line t items) q all) (sym (progress_other u t p x.progress f))
        (numbered_alike t (line t items) (progress_of t x.progress) x.numbers all
        (λ q g. found_alike t q.client x.numbers all (kept_stays t q.client u o.client o.own x.numbers (h.kept q g))) h)

survived_made : (items : List Item) (x : Survival) (u : Tuple) (o : Opening) → (line u items).opening ≡ Some o →
    (option : Option Opening) → (line u items).opening ≡ option →
    Survived items (survive_line x u (line u items) option) u
unfolding survive_line
survived_made items x u o e None f = absurd (cc (sym e ∙ f))
survived_made items x u o e (Some q) f =
    let all = keep_number u q.client q.own true x.numbers in
    let p = survivor_progress (lone_lines u (line u items) (number_or_zero (kept_number u q.client all))) q in
    subst (λ (r : Progress). IsNumbered u (line u items) r all) (sym (progress_same u p x.progress))
    (survived_here items x u q f)

later_survived : (items : List Item) (x : Survival) (tuples : List Tuple) (t : Tuple) → Survived items x t →
    Survived items (fold (survive_tuple items) x tuples) t
unfolding survive_tuple
later_survived items x [] t h = h
later_survived items x (u ∷ tuples) t h =
    later_survived items (survive_tuple items x u) tuples t
    (survived_line items x u (line u items).opening refl t h)

met_survived : (items : List Item) (x : Survival) (tuples : List Tuple) (t : Tuple) (o : Opening) →
    (line t items).opening ≡ Some o → list_any (same_tuple t) tuples ≡ true →
    Survived items (fold (survive_tuple items) x tuples) t
unfolding survive_tuple
met_survived items x [] t o e h = absurd (true≢false (sym h))
met_survived items x (u ∷ tuples) t o e h =
    by (same_tuple t u) refl (λ k. met_survived items (survive_tuple items x u) tuples t o e k)
  where
    next : Survival
    next = survive_tuple items x u

    by : (b : Bool) → same_tuple t u ≡ b →
        (list_any (same_tuple t) tuples ≡ true → Survived items (fold (survive_tuple items) next tuples) t) →
        Survived items (fold (survive_tuple items) next tuples) t
    by true f more =
        later_survived items next tuples t
        (subst (λ (v : Tuple). Survived items (survive_tuple items x v) t) (same_tuple-eq t u f)
        (survived_made items x t o e (line t items).opening refl))
    by false f more = more (sym (ap (λ (b : Bool). b || list_any (same_tuple t) tuples) f) ∙ h)

pub survivor_numbered : (items : List Item) (numbers : List KeptNumber) →
    AreNumbered items (survive items numbers (order items)).numbers (survive items numbers (order items)).progress
unfolding survive
survivor_numbered items numbers t = by (line t items).opening refl
  where
    start : Survival
    start = record { numbers = numbers; progress = []; out = [] }

    by : (o : Option Opening) → (line t items).opening ≡ o →
        Survived items (fold (survive_tuple items) start (order items)) t
    by None e =
        let sound = lines_are_sound_lem items t in
        let base_is : (line t items).base ≡ 0 = ap (λ (l : lines.Line). l.base) (sound.unopened (ap is_some e)) in
        later_survived items start (order items) t (record {
          trimmed = omega (arith, base_is);
          within = omega arith;
          kept = λ q f. absurd (cc (sym e ∙ f));
          shown = λ q f some. absurd (cc (sym e ∙ f));
        })
    by (Some o) e = met_survived items start (order items) t o e (opened_in_order items t o e)
