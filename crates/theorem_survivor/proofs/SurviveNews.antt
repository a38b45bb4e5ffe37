-- Which numbers a survivor keeps, and shows at the report: those that it had, and of its own openings without one
-- their own.
use Rattle.std.proofs.Common.{◌≡◌, ◌⊎◌, inl, inr, ℕ, ◌==◌, max, Bool, true, false, is_some, if◌then◌else◌, List, [], ◌∷◌, ◌++◌, append-nil, find, fold, length, Option, None, Some, refl, sym, ap, subst, ◌∙◌, All}
use Rattle.std.specs.List.{list_any}
use Rattle.std.specs.Option.{option_map}
use Rattle.std.proofs.lemmas.Bool.{and_parts}
use Rattle.std.proofs.lemmas.List.Elements.{All-append, All-nil, All-weaker}
use Rattle.inet_frame.specs.declared.tuple.Tuple.{Tuple}
use Rattle.tcp_track.specs.Lines.{Item, has_ended, line, order}
use Rattle.tcp_track.specs.Segments.{Symbol, same_tuple, syn}
use Rattle.tcp_track.specs.declared.openings.Opening.{Opening}
use Rattle.tcp_track.proofs.TupleLemmas.{same_tuple-eq}
use Rattle.settle_rules.specs.Matching.{BothLines}
use Rattle.settle_rules.specs.Numbers.{KeptNumber, is_number_of, keep_number, kept_number, number_or_zero}
use Rattle.settle_rules.specs.Release.{Released, bytes_in, release_refusal, release_reset, release_symbols, syn_segments}
use Rattle.settle_rules.specs.Survive.{Survival, lone_lines, survive, survive_line, survive_tuple, survivor_out}
use Rattle.pair_theorem.specs.FrameParts.{Syn}
use Rattle.pair_theorem.specs.Past.{Past, Start}
use Rattle.pair_theorem.specs.Places.{current_client, places_after}
use Rattle.theorem_frames.specs.Lines.{IsSound}
use Rattle.theorem_frames.specs.Shapes.{AreSentInRange}
use Rattle.theorem_frames.proofs.BytesLemmas.{NumberFits, kept_fit}
use Rattle.theorem_frames.proofs.LineLemmas.{lines_are_sound_lem}
use Rattle.theorem_frames.proofs.PromptLemmas.{found_fits, kept_there}
use Rattle.theorem_frames.proofs.RangeLemmas.{OpeningFits, opening_fits}
use Rattle.theorem_stands.proofs.KindLemmas.{IsOutOf, IsPartOf, refusal_kinds, reset_kinds, symbol_kinds, syn_first, syn_kinds}
use Rattle.theorem_numbers.proofs.SynLemmas.{HasNumber, has_number}
use Rattle.theorem_survivor.proofs.HadLemmas.{KeepsAll, found_is, keep_keeps}
use Rattle.theorem_survivor.proofs.NewsLemmas.{all_news, news, news_append, refusal_news, shown_by}

-- ONE NUMBER MORE
found_push : (p : KeptNumber → Bool) (numbers : List KeptNumber) (new k : KeptNumber)
    → find p (numbers ++ new ∷ []) ≡ Some k → (find p numbers ≡ Some k) ⊎ (new ≡ k)
found_push p [] new k e = by (p new) e
  where
    by : (b : Bool) → (if b then Some new else None) ≡ Some k
        → ((let o : Option KeptNumber = None in o) ≡ Some k) ⊎ (new ≡ k)
    by true f = let is : new ≡ k = cc in inr is
    by false f = absurd (cc f)
found_push p (x ∷ numbers) new k e = by (p x) e (found_push p numbers new k)
  where
    by : (b : Bool) → (if b then Some x else find p (numbers ++ new ∷ [])) ≡ Some k
        → (find p (numbers ++ new ∷ []) ≡ Some k → (find p numbers ≡ Some k) ⊎ (new ≡ k))
        → ((if b then Some x else find p numbers) ≡ Some k) ⊎ (new ≡ k)
    by true f rest = inl f
    by false f rest = rest f

-- a number that is kept after another one was, was kept before, or is that one
keep_cases : (numbers : List KeptNumber) (t : Tuple) (other own : ℕ) (u : Tuple) (client number : ℕ)
    → HasNumber (keep_number t other own true numbers) u client number
    → HasNumber numbers u client number ⊎ ((t ≡ u) × (own ≡ number))
keep_cases numbers t other own u client number h =
    by (list_any (is_number_of t other) numbers) h.found
  where
    new : KeptNumber
    new = record { tuple = t; client = other; number = own; known = true }

    last : kept_number u client (numbers ++ new ∷ []) ≡ Some h.kept
        → (kept_number u client numbers ≡ Some h.kept) ⊎ (new ≡ h.kept)
        → HasNumber numbers u client number ⊎ ((t ≡ u) × (own ≡ number))
    last e (inl f) = inl (record { kept = h.kept; found = f; number_is = h.number_is })
    last e (inr is) =
        let passes = found_is (is_number_of u client) (numbers ++ new ∷ []) h.kept e in
        let parts = and_parts (same_tuple h.kept.tuple u) (h.kept.client == client) passes in
        inr (
          ap (λ (k : KeptNumber). k.tuple) is ∙ same_tuple-eq h.kept.tuple u parts.0,
          ap (λ (k : KeptNumber). k.number) is ∙ h.number_is,
        )

    by : (b : Bool) → kept_number u client (if b then numbers else numbers ++ new ∷ []) ≡ Some h.kept
        → HasNumber numbers u client number ⊎ ((t ≡ u) × (own ≡ number))
    by true e = inl (record { kept = h.kept; found = e; number_is = h.number_is })
    by false e = last e (found_push (is_number_of u client) numbers new h.kept e)

-- WHAT GOES OUT OF ONE LINE
survivor_kinds : (b : BothLines) → IsSound b.mine → is_some b.mine.opening ≡ true → All (IsOutOf b) (survivor_out b)
unfolding survivor_out
survivor_kinds b sound is =
    let part : IsPartOf b.mine.symbols 0 (syn ∷ []) =
    subst (λ (ys : List Symbol). IsPartOf ys 0 (syn ∷ [])) (sym (sound.opened is))
    (syn_first (bytes_in b.mine.symbols) (has_ended b.mine.symbols)) in
    let first = syn_segments b true in
    let symbols = release_symbols b (max 1 b.mine.base) (length b.mine.symbols) in
    let resets = release_reset b (length b.mine.symbols) b.mine.reset in
    let refusal = release_refusal b b.mine.refused (is_some b.mine.refused) in
    All-append (IsOutOf b) ((first ++ symbols) ++ resets) refusal
    (All-append (IsOutOf b) (first ++ symbols) resets
    (All-append (IsOutOf b) first symbols (syn_kinds b part)
    (symbol_kinds b (max 1 b.mine.base) (length b.mine.symbols) sound))
    (reset_kinds b (length b.mine.symbols) b.mine.reset (λ e. e)))
    (refusal_kinds b (is_some b.mine.refused))

-- ALL LINES
abbrev pub IsKeptFor : List KeptNumber → Syn → Type 0
IsKeptFor numbers x = HasNumber numbers x.tuple x.client x.number

pub record SurvivesSoFar (a : Start) (past : Past) (released : List Released) (items : List Item)
    (numbers : List KeptNumber) (x : Survival) : Type 0 where
  pub fit : All NumberFits x.numbers
  pub keeps : KeepsAll numbers x.numbers
  pub own : (t : Tuple) (client number : ℕ) → HasNumber x.numbers t client number
      → kept_number t client numbers ≡ None → (o : Opening) → (line t items).opening ≡ Some o → o.own ≡ number
  pub syns : All (IsKeptFor x.numbers) (news a past released x.out)

line_survives : (a : Start) (past : Past) (released : List Released) (items : List Item) (numbers : List KeptNumber)
    (x : Survival) (t : Tuple) (o : Option Opening) → AreSentInRange items
    → ((u : Tuple) → current_client past u ≡ option_map (λ (q : Opening). q.client) (line u items).opening)
    → (line t items).opening ≡ o → SurvivesSoFar a past released items numbers x
    → SurvivesSoFar a past released items numbers (survive_line x t (line t items) o)
unfolding survive_line
line_survives a past released items numbers x t None range now e h =
    let b = lone_lines t (line t items) 0 in
    let refusal = release_refusal b b.mine.refused (is_some b.mine.refused) in
    record {
      fit = h.fit;
      keeps = h.keeps;
      own = h.own;
      syns = subst (All (IsKeptFor x.numbers)) (sym (news_append a past released x.out refusal
          ∙ (ap (λ (ys : List Syn). news a past released x.out ++ ys)
          (refusal_news a past (released ++ x.out) b b.mine.refused (is_some b.mine.refused))
          ∙ append-nil (news a past released x.out)))) h.syns;
    }
line_survives a past released items numbers x t (Some o) range now e h =
    let all = keep_number t o.client o.own true x.numbers in
    let own = (subst OpeningFits e (opening_fits items t range)).1 in
    let fit = kept_fit t o.client o.own true x.numbers own h.fit in
    let number = number_or_zero (kept_number t o.client all) in
    let small = found_fits (is_number_of t o.client) all fit in
    let b = lone_lines t (line t items) number in
    let kinds = survivor_kinds b (lines_are_sound_lem items t) (ap (λ (p : Option Opening). is_some p) e) in
    let kept = has_number all t o.client number (kept_there t o.client o.own x.numbers) refl in
    let more = keep_keeps x.numbers t o.client o.own in
    let here = news a past (released ++ x.out) (survivor_out b) in
    record {
      fit = fit;
      keeps = λ u client n k. more u client n (h.keeps u client n k);
      own = λ u client n k none q f. by u client n none q f (keep_cases x.numbers t o.client o.own u client n k);
      syns = subst (All (IsKeptFor all)) (sym (news_append a past released x.out (survivor_out b)))
          (All-append (IsKeptFor all) (news a past released x.out) here
          (All-weaker (IsKeptFor x.numbers) (IsKeptFor all)
          (λ (y : Syn) (k : IsKeptFor x.numbers y). more y.tuple y.client y.number k)
          (news a past released x.out) h.syns)
          (All-weaker (λ (y : Syn). y ≡ shown_by b o.client) (IsKeptFor all)
          (λ (y : Syn) (is : y ≡ shown_by b o.client). subst (IsKeptFor all) (sym is) kept) here
          (all_news a past (released ++ x.out) b o.client (survivor_out b) small
          (now t ∙ ap (option_map (λ (q : Opening). q.client)) e) kinds)));
    }
  where
    same : (p q : Opening) → Some p ≡ Some q → p ≡ q
    same p q f = cc

    by : (u : Tuple) (client n : ℕ) → kept_number u client numbers ≡ None → (q : Opening)
        → (line u items).opening ≡ Some q → HasNumber x.numbers u client n ⊎ ((t ≡ u) × (o.own ≡ n)) → q.own ≡ n
    by u client n none q f (inl k) = h.own u client n k none q f
    by u client n none q f (inr is) =
        let here = ap (λ (v : Tuple). (line v items).opening) is.0 in
        ap (λ (r : Opening). r.own) (same q o (sym f ∙ (sym here ∙ e))) ∙ is.1

all_survive : (a : Start) (past : Past) (released : List Released) (items : List Item) (numbers : List KeptNumber)
    (x : Survival) (tuples : List Tuple) → AreSentInRange items
    → ((u : Tuple) → current_client past u ≡ option_map (λ (q : Opening). q.client) (line u items).opening)
    → SurvivesSoFar a past released items numbers x
    → SurvivesSoFar a past released items numbers (fold (survive_tuple items) x tuples)
unfolding survive_tuple
all_survive a past released items numbers x [] range now h = h
all_survive a past released items numbers x (t ∷ tuples) range now h =
    all_survive a past released items numbers (survive_tuple items x t) tuples range now
    (line_survives a past released items numbers x t (line t items).opening range now refl h)

pub survive_shows : (a : Start) (past : Past) (released : List Released) (items : List Item)
    (numbers : List KeptNumber) → All NumberFits numbers → AreSentInRange items
    → ((u : Tuple) → current_client past u ≡ option_map (λ (q : Opening). q.client) (line u items).opening)
    → SurvivesSoFar a past released items numbers (survive items numbers (order items))
unfolding survive places_after
survive_shows a past released items numbers fit range now =
    all_survive a past released items numbers (record { numbers = numbers; progress = []; out = [] }) (order items)
    range now (record {
      fit = fit;
      keeps = λ t client n k. k;
      own = λ t client n k none o e. absurd (cc (sym none ∙ k.found));
      syns = All-nil (IsKeptFor numbers);
    })
