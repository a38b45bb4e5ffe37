-- Which SYNs a settling shows: of a connection of which something was released already the one that was shown, of
-- another one that of a number which the other node is known to have, of the client that both lines have.
use Rattle.std.proofs.Common.{◌≡◌, ◌⊎◌, inl, inr, ℕ, ◌+◌, ◌<◌, ◌≤◌, ◌^◌, zero, suc, Bool, true, false, ◌&&◌, ◌||◌, nat_lt, nat_le, is_some, if◌then◌else◌, List, [], ◌∷◌, ◌++◌, append-nil, length, drop, fold, Some, refl, sym, ap, subst, ◌∙◌, All, Contains, arith}
use Rattle.std.specs.List.{common_prefix_len}
use Rattle.std.specs.Option.{option_map}
use Rattle.std.proofs.lemmas.Bool.{and_parts}
use Rattle.std.proofs.lemmas.List.Elements.{All-append, All-contains, All-nil, All-weaker, Contains-append_left, Contains-append_right}
use Rattle.inet_frame.specs.declared.tuple.Tuple.{Tuple}
use Rattle.tcp_track.specs.Lines as lines
use Rattle.tcp_track.specs.Lines.{Item, line}
use Rattle.tcp_track.specs.Segments.{same_symbol, same_tuple}
use Rattle.tcp_track.specs.declared.answers.Took.{Took}
use Rattle.tcp_track.specs.declared.openings.Opening.{Opening}
use Rattle.tcp_track.proofs.TupleLemmas.{same_tuple-eq}
use Rattle.settle_rules.specs.Matching.{BothLines, has_one_client, matched_end}
use Rattle.settle_rules.specs.Numbers.{KeptNumber}
use Rattle.settle_rules.specs.Progress.{Progress, ProgressTable, progress_of, put_progress}
use Rattle.settle_rules.specs.Release.{Released, release_refusal, segment_at, syn_ack}
use Rattle.settle_rules.specs.Settle as rules
use Rattle.settle_rules.specs.Settle.{Scene, Settled, Settlement, both_lines, goes_out, grow_older, is_restarted, new_edge, rest_one, same_number, settle_one, settle_or_rest, settle_tuple}
use Rattle.pair_theorem.specs.FrameParts.{Syn, syn_shown_on}
use Rattle.pair_theorem.specs.Past.{Past, Start}
use Rattle.pair_theorem.specs.Places.{current_client, places_after}
use Rattle.theorem_frames.specs.Lines.{IsSound}
use Rattle.theorem_frames.proofs.BytesLemmas.{NumberFits}
use Rattle.theorem_frames.proofs.PromptLemmas.{progress_other, progress_same}
use Rattle.theorem_stands.specs.Numbered.{AreNumbered, IsNumbered, shown_as}
use Rattle.theorem_stands.proofs.NumberedLemmas.{IsKnownBy, edge_moves, known_by, settle_numbered, settled_numbered}
use Rattle.theorem_stands.proofs.PlainLemmas.{PlainCases, first, later, nothing, plain_all, plain_cases, plain_of}
use Rattle.theorem_symbols.proofs.SettleRight.{opening_is}
use Rattle.theorem_known.proofs.CutLemmas.{none_out}
use Rattle.theorem_survivor.proofs.NewsLemmas.{all_news, first_news, news, news_append, refusal_news, shown_by}

-- WHAT AN EDGE SHOWS: of each connection of which symbols went out, the SYN that was shown
abbrev pub EdgesShow : (Syn → Type 0) → ProgressTable → Type 0
EdgesShow P progress =
    (t : Tuple) (s : Opening) → (progress_of t progress).shown ≡ Some s → 0 < (progress_of t progress).edge
    → P (syn_shown_on t s)

-- ONE CONNECTION, as it stands before it is settled
record IsReadyToShow (past : Past) (Old First : Syn → Type 0) (b : BothLines) (p : Progress)
    (numbers : List KeptNumber) : Type 0 where
  known : IsKnownBy b.tuple b numbers
  numbered : IsNumbered b.tuple b.mine p numbers
  now : (o : Opening) → b.mine.opening ≡ Some o → current_client past b.tuple ≡ Some o.client
  old : (s : Opening) → p.shown ≡ Some s → 0 < p.edge → Old (syn_shown_on b.tuple s)
  first : (o : Opening) → b.mine.opening ≡ Some o → b.number_known ≡ true → has_one_client b ≡ true
      → First (syn_shown_on b.tuple (shown_as b.tuple o numbers))

record OneShows (a : Start) (past : Past) (released : List Released) (Old First : Syn → Type 0) (b : BothLines)
    (one : Settled) : Type 0 where
  edge : (s : Opening) → one.progress.shown ≡ Some s → 0 < one.progress.edge
      → Old (syn_shown_on b.tuple s) ⊎ Contains (news a past released one.out) (syn_shown_on b.tuple s)
  syns : All (λ (x : Syn). Old x ⊎ First x) (news a past released one.out)

pub opened_by : (l : lines.Line) (edge : ℕ) → IsSound l → 0 < edge → edge ≤ length l.symbols → is_some l.opening ≡ true
opened_by l edge sound some within = by (is_some l.opening) refl
  where
    by : (is : Bool) → is_some l.opening ≡ is → is_some l.opening ≡ true
    by true e = e
    by false e =
        let none : length l.symbols ≡ 0 = ap (λ (m : lines.Line). length m.symbols) (sound.unopened e) in
        absurd (omega (arith, none, some, within))

-- an edge that moves from 0 on is that of a known number and of one client
first_edge : (b : BothLines) (n : ℕ) → new_edge b 0 ≡ suc n → (b.number_known ≡ true) × (has_one_client b ≡ true)
first_edge b n e = goes (goes_out b 0) refl e
  where
    one : (is : Bool) → (has_one_client b && nat_le b.theirs.base 0) ≡ is
        → (if is then 0 + common_prefix_len same_symbol (drop 0 b.mine.symbols) (drop 0 b.theirs.symbols) else 0)
        ≡ suc n → has_one_client b ≡ true
    one true f g = (and_parts (has_one_client b) (nat_le b.theirs.base 0) f).0
    one false f g = absurd (omega (arith, g))

    goes : (is : Bool) → goes_out b 0 ≡ is → (if is then matched_end b 0 else 0) ≡ suc n
        → (b.number_known ≡ true) × (has_one_client b ≡ true)
    goes true f g = (
      (and_parts (is_some b.mine.opening) (nat_lt 0 0 || b.number_known) f).1,
      one (has_one_client b && nat_le b.theirs.base 0) refl g,
    )
    goes false f g = absurd (omega (arith, g))

settled_edge : (b : BothLines) (p : Progress) (is_turn : Bool) (tooks : List Took)
    → (settle_one b p is_turn tooks).progress.edge ≡ new_edge b p.edge
unfolding settle_one
settled_edge b p true tooks = refl
settled_edge b p false tooks = refl

-- what goes out of it, but for a refusal, which shows none
shown_out : (a : Start) (past : Past) (released : List Released) (b : BothLines) (p : Progress) (is_turn : Bool)
    (tooks : List Took)
    → news a past released (settle_one b p is_turn tooks).out ≡ news a past released (plain_of b p tooks)
unfolding settle_one
shown_out a past released b p is_turn tooks =
    let plain = plain_of b p tooks in
    let due = p.refusal_due && same_number b.mine.refused b.theirs.refused in
    news_append a past released plain (release_refusal b b.mine.refused due)
    ∙ (ap (λ (xs : List Syn). news a past released plain ++ xs)
    (refusal_news a past (released ++ plain) b b.mine.refused due) ∙ append-nil (news a past released plain))

first_shown : (a : Start) (past : Past) (released : List Released) (b : BothLines) (p : Progress) (client : ℕ)
    (next : ℕ) (out : List Released) → b.number < 2 ^ 32 → current_client past b.tuple ≡ Some client → p.edge ≡ 0
    → 0 < next → PlainCases b p.edge next out → Contains (news a past released out) (shown_by b client)
first_shown a past released b p client next out small now none some (later low all) = absurd (omega (arith, none, low))
first_shown a past released b p client next out small now none some (first is begins) =
    let rest = news a past (released ++ segment_at b 0 syn_ack begins.mss [] ∷ []) begins.rest in
    let is : news a past released out ≡ shown_by b client ∷ rest =
    ap (news a past released) begins.out_is ∙ first_news a past released b client begins.mss begins.rest small now in
    subst (λ (xs : List Syn). Contains xs (shown_by b client)) (sym is) (0, omega arith, refl)
first_shown a past released b p client next out small now none some (nothing is empty) =
    absurd (omega (arith, is, some))

settled_shows : (a : Start) (past : Past) (released : List Released) (Old First : Syn → Type 0) (b : BothLines)
    (p : Progress) (is_turn : Bool) (tooks : List Took) (numbers : List KeptNumber)
    → IsReadyToShow past Old First b p numbers
    → OneShows a past released Old First b (settle_one b p is_turn tooks)
unfolding places_after
settled_shows a past released Old First b p is_turn tooks numbers h = by (new_edge b p.edge) refl p.edge refl
  where
    one : Settled
    one = settle_one b p is_turn tooks

    plain : List Released
    plain = plain_of b p tooks

    edge_is : one.progress.edge ≡ new_edge b p.edge
    edge_is = settled_edge b p is_turn tooks

    out_is : news a past released one.out ≡ news a past released plain
    out_is = shown_out a past released b p is_turn tooks

    same : (q r : Opening) → Some q ≡ Some r → q ≡ r
    same q r e = cc

    -- the current opening, under its kept number
    shown : Opening → Syn
    shown o = syn_shown_on b.tuple (shown_as b.tuple o numbers)

    as_shown : (o : Opening) → b.mine.opening ≡ Some o → shown_by b o.client ≡ shown o
    as_shown o e =
        ap (λ (n : ℕ). (record { tuple = b.tuple; client = o.client; number = n })) (sym (h.known.number o e))

    all_this : (o : Opening) → b.mine.opening ≡ Some o
        → All (λ (x : Syn). x ≡ shown_by b o.client) (news a past released plain)
    all_this o e =
        all_news a past released b o.client plain h.known.small (h.now o e) (plain_all b p tooks h.known.sound)

    now_shown : (o : Opening) → b.mine.opening ≡ Some o → (s : Opening) → one.progress.shown ≡ Some s
        → 0 < one.progress.edge → shown o ≡ syn_shown_on b.tuple s
    now_shown o e s f some =
        let is = (settled_numbered b.tuple b p is_turn tooks numbers h.known h.numbered).shown o e some in
        ap (λ (q : Opening). syn_shown_on b.tuple q) (same (shown_as b.tuple o numbers) s (sym is ∙ f))

    moves : (p.edge ≤ new_edge b p.edge) × (new_edge b p.edge ≤ length b.mine.symbols)
    moves = let m = edge_moves b p.edge h.numbered.within in (m.up, m.within)

    opened : (n : ℕ) → new_edge b p.edge ≡ suc n → is_some b.mine.opening ≡ true
    opened n e = opened_by b.mine (new_edge b p.edge) h.known.sound (omega (arith, e)) moves.1

    none : new_edge b p.edge ≡ 0 → OneShows a past released Old First b one
    none e =
        let empty : news a past released one.out ≡ [] =
        out_is ∙ ap (news a past released) (none_out b p tooks (omega (arith, moves.0, e)) e) in
        record {
          edge = λ s f some. absurd (omega (arith, some, edge_is, e));
          syns = subst (All (λ (x : Syn). Old x ⊎ First x)) (sym empty) (All-nil (λ (x : Syn). Old x ⊎ First x));
        }

    again : (o : Opening) → b.mine.opening ≡ Some o → 0 < p.edge → OneShows a past released Old First b one
    again o e some =
        let was : Old (shown o) =
        h.old (shown_as b.tuple o numbers) (h.numbered.shown o e some) some in
        record {
          edge = λ s f goes. inl (subst Old (now_shown o e s f goes) was);
          syns = subst (All (λ (x : Syn). Old x ⊎ First x)) (sym out_is)
              (All-weaker (λ (x : Syn). x ≡ shown_by b o.client) (λ (x : Syn). Old x ⊎ First x)
              (λ (x : Syn) (is : x ≡ shown_by b o.client). inl (subst Old (sym (is ∙ as_shown o e)) was))
              (news a past released plain) (all_this o e));
        }

    begins : (n : ℕ) → new_edge b p.edge ≡ suc n → p.edge ≡ 0 → (o : Opening) → b.mine.opening ≡ Some o
        → OneShows a past released Old First b one
    begins n e at_zero o f =
        let facts = first_edge b n (ap (new_edge b) (sym at_zero) ∙ e) in
        let is : First (shown o) = h.first o f facts.0 facts.1 in
        let there = first_shown a past released b p o.client (new_edge b p.edge) plain h.known.small (h.now o f) at_zero
        (omega (arith, e)) (plain_cases b p tooks h.known.sound) in
        record {
          edge = λ s g goes. inr (subst (λ (x : Syn). Contains (news a past released one.out) x)
              (as_shown o f ∙ now_shown o f s g goes)
              (subst (λ (xs : List Syn). Contains xs (shown_by b o.client)) (sym out_is) there));
          syns = subst (All (λ (x : Syn). Old x ⊎ First x)) (sym out_is)
              (All-weaker (λ (x : Syn). x ≡ shown_by b o.client) (λ (x : Syn). Old x ⊎ First x)
              (λ (x : Syn) (same_one : x ≡ shown_by b o.client).
              inr (subst First (sym (same_one ∙ as_shown o f)) is))
              (news a past released plain) (all_this o f));
        }

    by : (n : ℕ) → new_edge b p.edge ≡ n → (m : ℕ) → p.edge ≡ m → OneShows a past released Old First b one
    by zero e m f = none e
    by (suc n) e (suc m) f =
        let o = opening_is b.mine.opening (opened n e) in again o.0 o.1 (omega (arith, f))
    by (suc n) e zero f = let o = opening_is b.mine.opening (opened n e) in begins n e f o.0 o.1

rested : (b : BothLines) (p : Progress) (is_turn : Bool)
    → ((rest_one b p is_turn).progress.shown ≡ p.shown) × ((rest_one b p is_turn).progress.edge ≡ p.edge)
rested b p true = (refl, refl)
rested b p false = (refl, refl)

one_shows : (a : Start) (past : Past) (released : List Released) (Old First : Syn → Type 0) (b : BothLines)
    (p : Progress) (restarted is_turn : Bool) (tooks : List Took) (numbers : List KeptNumber)
    → IsReadyToShow past Old First b p numbers
    → OneShows a past released Old First b (settle_or_rest restarted b p is_turn tooks)
unfolding places_after
one_shows a past released Old First b p true is_turn tooks numbers h =
    let as_before = rested b p is_turn in
    let edge_is = as_before.1 in
    record {
      edge = λ s f some. inl (h.old s (sym as_before.0 ∙ f) (omega (arith, edge_is, some)));
      syns = All-nil (λ (x : Syn). Old x ⊎ First x);
    }
one_shows a past released Old First b p false is_turn tooks numbers h =
    settled_shows a past released Old First b p is_turn tooks numbers h

-- ALL CONNECTIONS
-- what a settling stands on: the current clients of the past after it, numbers that fit, and what a first SYN shows
pub record SceneShows (past : Past) (scene : Scene) (First : Syn → Type 0) : Type 0 where
  pub fit : All NumberFits scene.numbers
  pub now : (t : Tuple) → current_client past t ≡ option_map (λ (o : Opening). o.client) (line t scene.mine).opening
  pub first : (t : Tuple) (o : Opening) → (line t scene.mine).opening ≡ Some o
      → (both_lines scene t).number_known ≡ true → has_one_client (both_lines scene t) ≡ true
      → First (syn_shown_on t (shown_as t o scene.numbers))

abbrev pub ShownSince : Start → Past → List Released → (Syn → Type 0) → List Released → Syn → Type 0
ShownSince a past released Old out x = Old x ⊎ Contains (news a past released out) x

pub record ShowsSoFar (a : Start) (past : Past) (released : List Released) (scene : Scene)
    (Old First : Syn → Type 0) (so_far : Settlement) : Type 0 where
  pub numbered : AreNumbered scene.mine scene.numbers so_far.progress
  pub edges : EdgesShow (ShownSince a past released Old so_far.out) so_far.progress
  pub syns : All (λ (x : Syn). Old x ⊎ First x) (news a past released so_far.out)

pub put_shows : (P : Syn → Type 0) (u : Tuple) (q : Progress) (table : ProgressTable)
    → ((s : Opening) → q.shown ≡ Some s → 0 < q.edge → P (syn_shown_on u s)) → EdgesShow P table
    → EdgesShow P (put_progress u q table)
put_shows P u q table here others t s = by (same_tuple u t) refl
  where
    Goal : Tuple → Progress → Type 0
    Goal v r = r.shown ≡ Some s → 0 < r.edge → P (syn_shown_on v s)

    by : (same : Bool) → same_tuple u t ≡ same → Goal t (progress_of t (put_progress u q table))
    by true e =
        subst (λ (v : Tuple). Goal v (progress_of v (put_progress u q table))) (same_tuple-eq u t e)
        (subst (Goal u) (sym (progress_same u q table)) (here s))
    by false e = subst (Goal t) (sym (progress_other u t q table e)) (others t s)

one_more_shows : (a : Start) (past : Past) (released : List Released) (scene : Scene) (Old First : Syn → Type 0)
    (so_far : Settlement) (u : Tuple) → SceneShows past scene First
    → ShowsSoFar a past released scene Old First so_far
    → ShowsSoFar a past released scene Old First (settle_tuple scene so_far u)
unfolding settle_tuple both_lines
one_more_shows a past released scene Old First so_far u g h =
    let b = both_lines scene u in
    let p = progress_of u so_far.progress in
    let one = settle_or_rest (is_restarted scene u) b p scene.is_turn scene.tooks in
    let earlier = news a past released so_far.out in
    let here = news a past (released ++ so_far.out) one.out in
    let both = news_append a past released so_far.out one.out in
    let Was : Syn → Type 0 = ShownSince a past released Old so_far.out in
    let shows = one_shows a past (released ++ so_far.out) Was First b p (is_restarted scene u) scene.is_turn
    scene.tooks scene.numbers (record {
      known = known_by scene u g.fit;
      numbered = h.numbered u;
      now = λ o e. g.now u ∙ ap (option_map (λ (q : Opening). q.client)) e;
      old = h.edges u;
      first = g.first u;
    }) in
    let Now : Syn → Type 0 = ShownSince a past released Old (so_far.out ++ one.out) in
    let still : (x : Syn) → Was x → Now x =
    λ x w. was_now Old earlier here (news a past released (so_far.out ++ one.out)) both x w in
    record {
      numbered = settle_numbered scene so_far (u ∷ []) g.fit h.numbered;
      edges = put_shows Now u one.progress so_far.progress
          (λ s f some. now_from Old earlier here (news a past released (so_far.out ++ one.out)) both (syn_shown_on u s)
          (shows.edge s f some))
          (λ t s f some. still (syn_shown_on t s) (h.edges t s f some));
      syns = subst (All (λ (x : Syn). Old x ⊎ First x)) (sym both)
          (All-append (λ (x : Syn). Old x ⊎ First x) earlier here h.syns
          (All-weaker (λ (x : Syn). Was x ⊎ First x) (λ (x : Syn). Old x ⊎ First x)
          (λ (x : Syn) (w : Was x ⊎ First x). flatten Old First earlier x h.syns w) here shows.syns));
    }
  where
    was_now : (Old : Syn → Type 0) (earlier here all : List Syn) → all ≡ earlier ++ here → (x : Syn)
        → Old x ⊎ Contains earlier x → Old x ⊎ Contains all x
    was_now Old earlier here all e x (inl o) = inl o
    was_now Old earlier here all e x (inr c) =
        inr (subst (λ (xs : List Syn). Contains xs x) (sym e) (Contains-append_left earlier here x c))

    now_from : (Old : Syn → Type 0) (earlier here all : List Syn) → all ≡ earlier ++ here → (x : Syn)
        → (Old x ⊎ Contains earlier x) ⊎ Contains here x → Old x ⊎ Contains all x
    now_from Old earlier here all e x (inl w) = was_now Old earlier here all e x w
    now_from Old earlier here all e x (inr c) =
        inr (subst (λ (xs : List Syn). Contains xs x) (sym e) (Contains-append_right earlier here x c))

    flatten : (Old First : Syn → Type 0) (earlier : List Syn) (x : Syn)
        → All (λ (y : Syn). Old y ⊎ First y) earlier → (Old x ⊎ Contains earlier x) ⊎ First x → Old x ⊎ First x
    flatten Old First earlier x all (inl (inl o)) = inl o
    flatten Old First earlier x all (inl (inr c)) = All-contains (λ (y : Syn). Old y ⊎ First y) earlier x all c
    flatten Old First earlier x all (inr f) = inr f

all_show : (a : Start) (past : Past) (released : List Released) (scene : Scene) (Old First : Syn → Type 0)
    (so_far : Settlement) (tuples : List Tuple) → SceneShows past scene First
    → ShowsSoFar a past released scene Old First so_far
    → ShowsSoFar a past released scene Old First (fold (settle_tuple scene) so_far tuples)
all_show a past released scene Old First so_far [] g h = h
all_show a past released scene Old First so_far (u ∷ tuples) g h =
    all_show a past released scene Old First (settle_tuple scene so_far u) tuples g
    (one_more_shows a past released scene Old First so_far u g h)

pub settle_shows : (a : Start) (past : Past) (released : List Released) (scene : Scene) (Old First : Syn → Type 0)
    (tuples : List Tuple) (progress : ProgressTable) → SceneShows past scene First
    → AreNumbered scene.mine scene.numbers progress → EdgesShow Old progress
    → ShowsSoFar a past released scene Old First (rules.settle scene tuples progress)
unfolding rules.settle places_after
settle_shows a past released scene Old First tuples progress g numbered edges =
    all_show a past released scene Old First (record { progress = progress; out = [] }) tuples g (record {
      numbered = numbered;
      edges = λ t s f some. inl (edges t s f some);
      syns = All-nil (λ (x : Syn). Old x ⊎ First x);
    })
