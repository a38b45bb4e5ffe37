-- Each event releases all symbols that both nodes agree on, each in a segment of its own event.
use Rattle.std.proofs.Common.{◌≡◌, ℕ, ◌+◌, ◌-◌, ◌<◌, ◌^◌, zero, suc, Bool, true, false, not, ◌&&◌, ◌||◌, ◌==◌, nat_lt, max, is_some, if◌then◌else◌, List, [], ◌∷◌, ◌++◌, length, take, drop, filter, find, fold, slice_get, Option, None, Some, refl, sym, ap, subst, ◌∙◌, All, arith, eq-eqb, true≢false, length-drop}
use Rattle.std.specs.Prelude.{IsTrue}
use Rattle.std.specs.List.{flat_map, list_any}
use Rattle.std.specs.Option.{option_map_or}
use Rattle.std.proofs.lemmas.Bool.{and_from, and_parts, cond_both, not-true, or_from, or_parts}
use Rattle.std.proofs.lemmas.List.Elements.{All-append, All-cons, All-head, All-nil, All-tail, All-weaker}
use Rattle.std.proofs.lemmas.List.Folds.{list_any-append}
use Rattle.std.proofs.lemmas.Option.{slice_get_within}
use Rattle.inet_frame.specs.Counted.{tuple_of}
use Rattle.inet_frame.specs.Fields.{TcpFields}
use Rattle.inet_frame.specs.declared.tuple.Tuple.{Tuple}
use Rattle.tcp_track.specs.Lines as lines
use Rattle.tcp_track.specs.Lines.{Item, order, order_after, sent_of}
use Rattle.tcp_track.specs.Segments.{Symbol, syn, is_refusal, may_open, same_tuple}
use Rattle.tcp_track.specs.declared.answers.Took.{Took}
use Rattle.tcp_track.specs.declared.openings.Opening.{Opening}
use Rattle.tcp_track.proofs.StandingLemmas.{same_tuple-sym}
use Rattle.tcp_track.proofs.TupleLemmas.{same_tuple-eq, same_tuple-refl}
use Rattle.settle_rules.specs.Matching.{BothLines}
use Rattle.settle_rules.specs.Numbers.{KeptNumber, is_number_of, keep_number, kept_number, number_or_zero}
use Rattle.settle_rules.specs.Progress.{Progress, ProgressTable, no_progress, progress_of, put_progress}
use Rattle.settle_rules.specs.Release.{Released, release_bare, release_refusal, release_reset, release_symbols, syn_segments}
use Rattle.settle_rules.specs.Settle.{Scene, Settlement, agrees_on_reset, both_lines, goes_out, is_empty, is_restarted, new_edge, release_again, same_number, settle, settle_one, settle_or_rest, settle_tuple, wants_bare}
use Rattle.settle_rules.specs.Survive.{Survival, lone_lines, survive, survive_line, survive_tuple, survivor_out}
use Rattle.pair_theorem.specs.Agreed.{agreed_between, agreed_in, agreed_of, lone_agreed, lone_agreed_of, lone_number, survivor_agreed}
use Rattle.pair_theorem.specs.FrameParts.{carries_symbol, is_released}
use Rattle.pair_theorem.specs.Past.{Agreed}
use Rattle.theorem_frames.specs.Lines.{IsSound}
use Rattle.theorem_frames.specs.Shapes.{AreSentInRange}
use Rattle.theorem_frames.proofs.BytesLemmas.{NumberFits, kept_fit, survived_fits}
use Rattle.theorem_frames.proofs.CarryLemmas.{Carries, all_numbered, carries_left, carries_right, get_take, released_carries, syn_carries}
use Rattle.theorem_frames.proofs.LineLemmas.{lines_are_sound_lem}
use Rattle.theorem_frames.proofs.RangeLemmas.{OpeningFits, opening_fits}

-- what is released carries what is agreed on
abbrev pub Shows : List Released → Agreed → Type 0
Shows out g = Carries out g.tuple g.number g.from g.symbols

pub shows_test : (out : List Released) (g : Agreed) → Shows out g → IsTrue (is_released out g)
unfolding is_released
shows_test out g h =
    all_numbered (λ (x : ℕ × Symbol). list_any (carries_symbol g.tuple g.number x) out) g.from g.symbols h.each

-- ONE CONNECTION
settled_shows : (b : BothLines) (p : Progress) (is_turn : Bool) (tooks : List Took) → b.number < 2 ^ 32 →
    IsSound b.mine → goes_out b p.edge ≡ true → Shows (settle_one b p is_turn tooks).out (agreed_between b p.edge)
unfolding settle_one
settled_shows b p is_turn tooks small sound goes =
    let edge = new_edge b p.edge in
    let again = flat_map (release_again b p.edge) tooks in
    let fresh = release_symbols b p.edge edge in
    let symbols = again ++ fresh in
    let bare = release_bare b edge (is_empty symbols && (nat_lt 0 edge && wants_bare b p.edge p.last tooks)) in
    let resets = release_reset b edge (p.reset_due && agrees_on_reset b edge) in
    let refuses = release_refusal b b.mine.refused (p.refusal_due && same_number b.mine.refused b.theirs.refused) in
    let g = agreed_between b p.edge in
    let is_open = (and_parts (is_some b.mine.opening) (nat_lt 0 p.edge || b.number_known) goes).0 in
    carries_left (symbols ++ bare ++ resets) refuses g.tuple g.number g.from g.symbols
    (carries_left (symbols ++ bare) resets g.tuple g.number g.from g.symbols
    (carries_left symbols bare g.tuple g.number g.from g.symbols
    (carries_right again fresh g.tuple g.number g.from g.symbols (released_carries b p.edge edge small sound is_open))))

agreed_shows : (restarted : Bool) (b : BothLines) (p : Progress) (is_turn : Bool) (tooks : List Took) →
    b.number < 2 ^ 32 → IsSound b.mine →
    All (Shows (settle_or_rest restarted b p is_turn tooks).out)
    (if not restarted && goes_out b p.edge then agreed_between b p.edge ∷ [] else [])
agreed_shows true b p is_turn tooks small sound = All-nil (Shows [])
agreed_shows false b p is_turn tooks small sound =
    let out = (settle_one b p is_turn tooks).out in
    cond_both (goes_out b p.edge) (agreed_between b p.edge ∷ []) [] (All (Shows out))
    (λ e. All-cons (Shows out) (agreed_between b p.edge) [] (settled_shows b p is_turn tooks small sound e)
    (All-nil (Shows out)))
    (λ e. All-nil (Shows out))

pub found_fits : (p : KeptNumber → Bool) (numbers : List KeptNumber) → All NumberFits numbers →
    number_or_zero (find p numbers) < 2 ^ 32
found_fits p [] h = omega arith
found_fits p (k ∷ numbers) h =
    cond_both (p k) (Some k) (find p numbers) (λ (o : Option KeptNumber). number_or_zero o < 2 ^ 32)
    (λ e. All-head NumberFits k numbers h) (λ e. found_fits p numbers (All-tail NumberFits k numbers h))

-- both lines have a number that fits, and the own one is sound
record AreSound (b : BothLines) : Type 0 where
  number : b.number < 2 ^ 32
  mine : IsSound b.mine

both_sound : (scene : Scene) (t : Tuple) → All NumberFits scene.numbers → AreSound (both_lines scene t)
unfolding both_lines
both_sound scene t h = record {
  number = found_fits _ scene.numbers h;
  mine = lines_are_sound_lem scene.mine t;
}

one_shows : (scene : Scene) (progress : ProgressTable) (p : Progress) (t : Tuple) → All NumberFits scene.numbers →
    p ≡ progress_of t progress →
    All (Shows (settle_or_rest (is_restarted scene t) (both_lines scene t) p scene.is_turn scene.tooks).out)
    (agreed_of scene progress t)
unfolding agreed_of
one_shows scene progress p t h e =
    let sound = both_sound scene t h in
    subst
    (λ (q : Progress).
    All (Shows (settle_or_rest (is_restarted scene t) (both_lines scene t) p scene.is_turn scene.tooks).out)
    (if not (is_restarted scene t) && goes_out (both_lines scene t) q.edge
    then agreed_between (both_lines scene t) q.edge ∷ [] else [])) e
    (agreed_shows (is_restarted scene t) (both_lines scene t) p scene.is_turn scene.tooks sound.number sound.mine)

-- TUPLES IN TABLE ORDER, each once
abbrev pub AreOnce : List Tuple → Type 0
AreOnce [] = Unit {0}
AreOnce (t ∷ ts) = (list_any (same_tuple t) ts ≡ false) × AreOnce ts

once_push : (ts : List Tuple) (u : Tuple) → list_any (same_tuple u) ts ≡ false → AreOnce ts → AreOnce (ts ++ u ∷ [])
once_push [] u h d = (refl, tt)
once_push (t ∷ ts) u h d =
    let parts = or_parts (same_tuple u t) (list_any (same_tuple u) ts) h in (
      list_any-append (same_tuple t) ts (u ∷ [])
          ∙ or_from (list_any (same_tuple t) ts) (same_tuple t u || false) d.0
          (or_from (same_tuple t u) false (same_tuple-sym t u parts.0) refl),
      once_push ts u parts.1 d.1,
    )

once_after : (ts : List Tuple) (said : List TcpFields) → AreOnce ts → AreOnce (fold order_after ts said)
unfolding order_after
once_after ts [] h = h
once_after ts (s ∷ said) h =
    once_after (order_after ts s) said
    (cond_both ((may_open s || is_refusal s) && not (list_any (same_tuple (tuple_of s)) ts)) (ts
    ++ tuple_of s ∷ []) ts AreOnce
    (λ e. once_push ts (tuple_of s) (not-true (list_any (same_tuple (tuple_of s)) ts)
    (and_parts (may_open s || is_refusal s) (not (list_any (same_tuple (tuple_of s)) ts)) e).1) h) (λ e. h))

pub order_once : (items : List Item) → AreOnce (order items)
unfolding order
order_once items = once_after [] (sent_of items) tt

apart : (t u : Tuple) (ts : List Tuple) → list_any (same_tuple t) ts ≡ false → list_any (same_tuple u) ts ≡ true →
    same_tuple t u ≡ false
apart t u ts h g = by (same_tuple t u) refl
  where
    by : (b : Bool) → same_tuple t u ≡ b → b ≡ false
    by true e =
        absurd (true≢false (sym g ∙ subst (λ (v : Tuple). list_any (same_tuple v) ts ≡ false) (same_tuple-eq t u e) h))
    by false e = refl

-- what is put for one tuple leaves the others
found_other : (t u : Tuple) (table : ProgressTable) → same_tuple t u ≡ false →
    find (λ (x : Tuple × Progress). same_tuple x.0 u) (filter (λ (x : Tuple × Progress). not (same_tuple x.0 t)) table)
    ≡ find (λ (x : Tuple × Progress). same_tuple x.0 u) table
found_other t u [] h = refl
found_other t u (x ∷ table) h = by (same_tuple x.0 t) refl (found_other t u table h)
  where
    of_u : Tuple × Progress → Bool
    of_u y = same_tuple y.0 u

    not_t : Tuple × Progress → Bool
    not_t y = not (same_tuple y.0 t)

    by : (b : Bool) → same_tuple x.0 t ≡ b → find of_u (filter not_t table) ≡ find of_u table →
        find of_u (if not b then x ∷ filter not_t table else filter not_t table)
        ≡ (if same_tuple x.0 u then Some x else find of_u table)
    by true e more =
        let no : same_tuple x.0 u ≡ false =
        subst (λ (v : Tuple). same_tuple v u ≡ false) (sym (same_tuple-eq x.0 t e)) h in
        more ∙ sym (ap (λ (b : Bool). if b then Some x else find of_u table) no)
    by false e more = ap (λ (o : Option (Tuple × Progress)). if same_tuple x.0 u then Some x else o) more

pub progress_other : (t u : Tuple) (p : Progress) (table : ProgressTable) → same_tuple t u ≡ false →
    progress_of u (put_progress t p table) ≡ progress_of u table
progress_other t u p table h =
    ap (λ (b : Bool). progress_in (if b then Some (t, p) else found)) h
    ∙ ap progress_in (found_other t u table h)
  where
    found : Option (Tuple × Progress)
    found =
        find (λ (x : Tuple × Progress). same_tuple x.0 u)
        (filter (λ (x : Tuple × Progress). not (same_tuple x.0 t)) table)

    progress_in : Option (Tuple × Progress) → Progress
    progress_in o = option_map_or (λ (x : Tuple × Progress). x.1) o no_progress

pub progress_same : (t : Tuple) (p : Progress) (table : ProgressTable) → progress_of t (put_progress t p table) ≡ p
progress_same t p table =
    ap (λ (b : Bool). option_map_or (λ (x : Tuple × Progress). x.1) (if b then Some (t, p) else found) no_progress)
    (same_tuple-refl t)
  where
    found : Option (Tuple × Progress)
    found =
        find (λ (x : Tuple × Progress). same_tuple x.0 t)
        (filter (λ (x : Tuple × Progress). not (same_tuple x.0 t)) table)

-- ALL CONNECTIONS
shows_later : (scene : Scene) (so_far : Settlement) (tuples : List Tuple) (g : Agreed) → Shows so_far.out g →
    Shows (fold (settle_tuple scene) so_far tuples).out g
unfolding settle_tuple
shows_later scene so_far [] g h = h
shows_later scene so_far (t ∷ tuples) g h =
    shows_later scene (settle_tuple scene so_far t) tuples g
    (carries_left so_far.out
    (settle_or_rest (is_restarted scene t) (both_lines scene t) (progress_of t so_far.progress) scene.is_turn
    scene.tooks).out g.tuple g.number g.from g.symbols h)

all_shown : (scene : Scene) (progress : ProgressTable) (so_far : Settlement) (tuples : List Tuple) →
    All NumberFits scene.numbers → AreOnce tuples →
    ((t : Tuple) → list_any (same_tuple t) tuples ≡ true →
    progress_of t so_far.progress ≡ progress_of t progress) →
    All (Shows (fold (settle_tuple scene) so_far tuples).out) (flat_map (agreed_of scene progress) tuples)
unfolding settle_tuple
all_shown scene progress so_far [] h once same = All-nil (Shows so_far.out)
all_shown scene progress so_far (t ∷ tuples) h once same =
    let one =
    settle_or_rest (is_restarted scene t) (both_lines scene t) (progress_of t so_far.progress) scene.is_turn
    scene.tooks in
    let next = settle_tuple scene so_far t in
    let all = fold (settle_tuple scene) next tuples in
    let own = or_left (same_tuple t t) (list_any (same_tuple t) tuples) (same_tuple-refl t) in
    All-append (Shows all.out) (agreed_of scene progress t) (flat_map (agreed_of scene progress) tuples)
    (All-weaker (Shows one.out) (Shows all.out)
    (λ (g : Agreed) k. shows_later scene next tuples g
    (carries_right so_far.out one.out g.tuple g.number g.from g.symbols k))
    (agreed_of scene progress t) (one_shows scene progress (progress_of t so_far.progress) t h (same t own)))
    (all_shown scene progress next tuples h once.1
    (λ (u : Tuple) e. progress_other t u one.progress so_far.progress (apart t u tuples once.0 e)
    ∙ same u (or_right (same_tuple u t) (list_any (same_tuple u) tuples) e)))
  where
    or_left : (a b : Bool) → a ≡ true → (a || b) ≡ true
    or_left true b e = refl
    or_left false b e = absurd (true≢false (sym e))

    or_right : (a b : Bool) → b ≡ true → (a || b) ≡ true
    or_right true b e = refl
    or_right false b e = e

pub settle_shows : (scene : Scene) (progress : ProgressTable) → All NumberFits scene.numbers →
    All (Shows (settle scene (order scene.mine) progress).out) (agreed_in scene (order scene.mine) progress)
unfolding settle agreed_in
settle_shows scene progress h =
    all_shown scene progress (record { progress = progress; out = [] }) (order scene.mine) h (order_once scene.mine)
    (λ t e. refl)

-- THE SURVIVOR
pub found_any : (p : KeptNumber → Bool) (numbers : List KeptNumber) → is_some (find p numbers) ≡ list_any p numbers
found_any p [] = refl
found_any p (k ∷ numbers) = by (p k) (found_any p numbers)
  where
    by : (b : Bool) → is_some (find p numbers) ≡ list_any p numbers →
        is_some (if b then Some k else find p numbers) ≡ (b || list_any p numbers)
    by true more = refl
    by false more = more

pub found_stays : (p : KeptNumber → Bool) (numbers more : List KeptNumber) → is_some (find p numbers) ≡ true →
    find p (numbers ++ more) ≡ find p numbers
found_stays p [] more h = absurd (true≢false (sym h))
found_stays p (k ∷ numbers) more h = by (p k) h (found_stays p numbers more)
  where
    by : (b : Bool) → is_some (if b then Some k else find p numbers) ≡ true →
        (is_some (find p numbers) ≡ true → find p (numbers ++ more) ≡ find p numbers) →
        (if b then Some k else find p (numbers ++ more)) ≡ (if b then Some k else find p numbers)
    by true e later = refl
    by false e later = later e

pub found_last : (p : KeptNumber → Bool) (numbers : List KeptNumber) (k : KeptNumber) → p k ≡ true →
    is_some (find p (numbers ++ k ∷ [])) ≡ true
found_last p [] k h = ap (λ (b : Bool). is_some (if b then Some k else None)) h
found_last p (x ∷ numbers) k h = by (p x) (found_last p numbers k h)
  where
    by : (b : Bool) → is_some (find p (numbers ++ k ∷ [])) ≡ true →
        is_some (if b then Some x else find p (numbers ++ k ∷ [])) ≡ true
    by true more = refl
    by false more = more

-- a kept number stays the kept one
pub kept_stays : (t : Tuple) (client : ℕ) (u : Tuple) (other number : ℕ) (numbers : List KeptNumber) →
    is_some (kept_number t client numbers) ≡ true →
    kept_number t client (keep_number u other number true numbers) ≡ kept_number t client numbers
kept_stays t client u other number numbers h =
    let k : KeptNumber = record { tuple = u; client = other; number = number; known = true } in
    cond_both (list_any (is_number_of u other) numbers) numbers (numbers ++ k ∷ [])
    (λ (ks : List KeptNumber). kept_number t client ks ≡ kept_number t client numbers) (λ e. refl)
    (λ e. found_stays (is_number_of t client) numbers (k ∷ []) h)

pub kept_there : (t : Tuple) (client number : ℕ) (numbers : List KeptNumber) →
    is_some (kept_number t client (keep_number t client number true numbers)) ≡ true
kept_there t client number numbers =
    let k : KeptNumber = record { tuple = t; client = client; number = number; known = true } in
    cond_both (list_any (is_number_of t client) numbers) numbers (numbers ++ k ∷ [])
    (λ (ks : List KeptNumber). is_some (kept_number t client ks) ≡ true)
    (λ e. found_any (is_number_of t client) numbers ∙ e)
    (λ e. found_last (is_number_of t client) numbers k
    (and_from (same_tuple t t) (client == client) (same_tuple-refl t) (eq-eqb client client refl)))

line_keeps : (x : Survival) (t u : Tuple) (client : ℕ) (l : lines.Line) (o : Option Opening) →
    is_some (kept_number t client x.numbers) ≡ true →
    kept_number t client (survive_line x u l o).numbers ≡ kept_number t client x.numbers
unfolding survive_line
line_keeps x t u client l None h = refl
line_keeps x t u client l (Some o) h = kept_stays t client u o.client o.own x.numbers h

all_keep : (items : List Item) (x : Survival) (tuples : List Tuple) (t : Tuple) (client : ℕ) →
    is_some (kept_number t client x.numbers) ≡ true →
    kept_number t client (fold (survive_tuple items) x tuples).numbers ≡ kept_number t client x.numbers
unfolding survive_tuple
all_keep items x [] t client h = refl
all_keep items x (u ∷ tuples) t client h =
    let here = line_keeps x t u client (lines.line u items) (lines.line u items).opening h in
    all_keep items (survive_tuple items x u) tuples t client (ap (λ (o : Option KeptNumber). is_some o) here ∙ h)
    ∙ here

lone_shows : (t : Tuple) (l : lines.Line) (number : ℕ) (o : Opening) → number < 2 ^ 32 → IsSound l →
    l.opening ≡ Some o → All (Shows (survivor_out (lone_lines t l number))) (lone_agreed t number l (Some o))
unfolding survivor_out
lone_shows t l number o small sound e =
    let b = lone_lines t l number in
    let out = survivor_out b in
    let end = length l.symbols in
    let from = max 1 l.base in
    let is_open = ap (λ (p : Option Opening). is_some p) e in
    let symbols = release_symbols b from end in
    let resets = release_reset b end l.reset in
    let refuses = release_refusal b l.refused (is_some l.refused) in
    let first : Carries (syn_segments b true) t number 0 (take 1 l.symbols) =
    subst (λ (xs : List Symbol). Carries (syn_segments b true) t number 0 (take 1 xs)) (sym (sound.opened is_open))
    (record { each = λ k x f. at_syn b small k x f }) in
    let released = released_carries b from end small sound is_open in
    let rest : Carries symbols t number from (drop from l.symbols) = record {
      each = λ k x f.
          let within = slice_get_within (drop from l.symbols) k x f in
          released.each k x
          (get_take (end - from) (drop from l.symbols) k (omega (arith, within, length-drop from l.symbols)) ∙ f);
    } in
    All-cons (Shows out) (record { tuple = t; number = number; from = 0; symbols = take 1 l.symbols })
    (record { tuple = t; number = number; from = from; symbols = drop from l.symbols } ∷ [])
    (carries_left (syn_segments b true ++ symbols ++ resets) refuses t number 0 (take 1 l.symbols)
    (carries_left (syn_segments b true ++ symbols) resets t number 0 (take 1 l.symbols)
    (carries_left (syn_segments b true) symbols t number 0 (take 1 l.symbols) first)))
    (All-cons (Shows out) (record { tuple = t; number = number; from = from; symbols = drop from l.symbols }) []
    (carries_left (syn_segments b true ++ symbols ++ resets) refuses t number from (drop from l.symbols)
    (carries_left (syn_segments b true ++ symbols) resets t number from (drop from l.symbols)
    (carries_right (syn_segments b true) symbols t number from (drop from l.symbols) rest)))
    (All-nil (Shows out)))
  where
    at_syn : (b : BothLines) → b.number < 2 ^ 32 → (k : ℕ) (x : Symbol) → slice_get (syn ∷ []) k ≡ Some x →
        list_any (carries_symbol b.tuple b.number (0 + k, x)) (syn_segments b true) ≡ true
    at_syn b few zero x f =
        let is : syn ≡ x = cc in
        subst (λ (y : Symbol). list_any (carries_symbol b.tuple b.number (0, y)) (syn_segments b true) ≡ true) is
        (syn_carries b few)
    at_syn b few (suc k) x f = absurd (cc f)

one_survivor_shows : (items : List Item) (x : Survival) (t : Tuple) (o : Option Opening) (tuples : List Tuple) →
    AreSentInRange items → All NumberFits x.numbers → (lines.line t items).opening ≡ o →
    All (Shows (survive_line x t (lines.line t items) o).out)
    (lone_agreed t (lone_number t o (fold (survive_tuple items) (survive_line x t (lines.line t items) o)
    tuples).numbers) (lines.line t items) o)
unfolding survive_line
one_survivor_shows items x t None tuples h fit e = All-nil (Shows (survive_line x t (lines.line t items) None).out)
one_survivor_shows items x t (Some o) tuples h fit e =
    let l = lines.line t items in
    let numbers = keep_number t o.client o.own true x.numbers in
    let next = survive_line x t l (Some o) in
    let number = number_or_zero (kept_number t o.client numbers) in
    let own = (subst OpeningFits e (opening_fits items t h)).1 in
    let small = found_fits (is_number_of t o.client) numbers (kept_fit t o.client o.own true x.numbers own fit) in
    let same : number_or_zero (kept_number t o.client (fold (survive_tuple items) next tuples).numbers) ≡ number =
    ap number_or_zero (all_keep items next tuples t o.client (kept_there t o.client o.own x.numbers)) in
    let out = survivor_out (lone_lines t l number) in
    subst (λ (n : ℕ). All (Shows next.out) (lone_agreed t n l (Some o))) (sym same)
    (All-weaker (Shows out) (Shows next.out)
    (λ (g : Agreed) k. carries_right x.out out g.tuple g.number g.from g.symbols k)
    (lone_agreed t number l (Some o)) (lone_shows t l number o small (lines_are_sound_lem items t) e))

survivor_later : (items : List Item) (x : Survival) (tuples : List Tuple) (g : Agreed) → Shows x.out g →
    Shows (fold (survive_tuple items) x tuples).out g
unfolding survive_tuple survive_line
survivor_later items x [] g h = h
survivor_later items x (t ∷ tuples) g h =
    survivor_later items (survive_tuple items x t) tuples g
    (line_later x t (lines.line t items) (lines.line t items).opening g h)
  where
    line_later : (y : Survival) (u : Tuple) (l : lines.Line) (o : Option Opening) (f : Agreed) → Shows y.out f →
        Shows (survive_line y u l o).out f
    line_later y u l None f k =
        carries_left y.out (release_refusal (lone_lines u l 0) l.refused (is_some l.refused)) f.tuple f.number f.from
        f.symbols k
    line_later y u l (Some o) f k =
        carries_left y.out
        (survivor_out (lone_lines u l (number_or_zero (kept_number u o.client (keep_number u o.client o.own true
        y.numbers))))) f.tuple f.number f.from f.symbols k

all_survivors_show : (items : List Item) (x : Survival) (tuples : List Tuple) → AreSentInRange items →
    All NumberFits x.numbers → All (Shows (fold (survive_tuple items) x tuples).out)
    (flat_map (lone_agreed_of items (fold (survive_tuple items) x tuples).numbers) tuples)
unfolding survive_tuple lone_agreed_of
all_survivors_show items x [] h fit = All-nil (Shows x.out)
all_survivors_show items x (t ∷ tuples) h fit =
    let l = lines.line t items in
    let next = survive_line x t l l.opening in
    let all = fold (survive_tuple items) next tuples in
    All-append (Shows all.out) (lone_agreed t (lone_number t l.opening all.numbers) l l.opening)
    (flat_map (lone_agreed_of items all.numbers) tuples)
    (All-weaker (Shows next.out) (Shows all.out) (λ (g : Agreed) k. survivor_later items next tuples g k)
    (lone_agreed t (lone_number t l.opening all.numbers) l l.opening)
    (one_survivor_shows items x t l.opening tuples h fit refl))
    (all_survivors_show items next tuples h (survived_fits x t l l.opening (opening_fits items t h) fit))

pub survivors_show : (items : List Item) (numbers : List KeptNumber) → AreSentInRange items → All NumberFits numbers →
    All (Shows (survive items numbers (order items)).out)
    (survivor_agreed items (survive items numbers (order items)).numbers (order items))
unfolding survive survivor_agreed
survivors_show items numbers h fit =
    all_survivors_show items (record { numbers = numbers; progress = []; out = [] }) (order items) h fit
