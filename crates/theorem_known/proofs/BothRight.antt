-- What a settling releases stands in what the other node is known to have sent, connection by connection.
use Rattle.std.proofs.Common.{◌≡◌, ◌⊎◌, inl, inr, ℕ, ◌+◌, ◌-◌, ◌<◌, ◌≤◌, ◌^◌, zero, suc, Bool, true, false, ◌&&◌, nat_lt, nat_le, min, is_some, if◌then◌else◌, List, [], ◌∷◌, ◌++◌, append-nil, append_assoc, length, take, drop, slice_get, Option, None, Some, refl, sym, ap, subst, ◌∙◌, All, arith, eqb-true, length-take, true≢false}
use Rattle.std.specs.List.{common_prefix_len}
use Rattle.std.specs.Option.{option_map}
use Rattle.std.proofs.lemmas.Bool.{and_parts, cases_lt, cond_both}
use Rattle.std.proofs.lemmas.Grind.{fold-append}
use Rattle.std.proofs.lemmas.List.Elements.{All-nil}
use Rattle.std.proofs.lemmas.Option.{slice_get_within}
use Rattle.inet_frame.specs.Fields.{TcpFields}
use Rattle.inet_frame.specs.declared.tuple.Tuple.{Tuple}
use Rattle.tcp_track.specs.Lines as lines
use Rattle.tcp_track.specs.Lines.{Item, line, sent_of}
use Rattle.tcp_track.specs.Segments.{Symbol, byte, fin, same_symbol, same_tuple, syn}
use Rattle.tcp_track.specs.Stands.{RefusalStands, ResetStands, Stands, acked_in}
use Rattle.tcp_track.specs.declared.answers.Took.{Took}
use Rattle.tcp_track.specs.declared.openings.Opening.{Opening}
use Rattle.tcp_track.proofs.AckedLemmas.{acked_was_sent}
use Rattle.tcp_track.proofs.ElementLemmas.{get_drop}
use Rattle.tcp_track.proofs.ResetLemmas.{refusal_stands, reset_stands}
use Rattle.tcp_track.proofs.SymbolLemmas.{client_or_none, line_fits}
use Rattle.tcp_track.proofs.TupleLemmas.{same_tuple-eq}
use Rattle.settle_rules.specs.Matching.{BothLines, client_or_zero, has_one_client, have_one_client, matched_end, smaller_acked}
use Rattle.settle_rules.specs.Progress.{Progress, ProgressTable, progress_of, put_progress}
use Rattle.settle_rules.specs.Release.{Released, release_refusal, segment_at, syn_ack}
use Rattle.settle_rules.specs.Settle as rules
use Rattle.settle_rules.specs.Settle.{Scene, Settled, Settlement, agrees_on_reset, both_lines, goes_out, grow_older, is_restarted, new_edge, same_number, settle_one, settle_or_rest, settle_tuple}
use Rattle.pair_theorem.specs.Past.{Past, Start}
use Rattle.pair_theorem.specs.Places.{current_client, places_after, shown_number}
use Rattle.theorem_frames.specs.Lines.{IsSound}
use Rattle.theorem_frames.proofs.PromptLemmas.{progress_other, progress_same}
use Rattle.theorem_frames.proofs.RangeLemmas.{OpeningFits, opening_fits}
use Rattle.theorem_stands.specs.Numbered.{AreNumbered, shown_as}
use Rattle.theorem_stands.proofs.KindLemmas.{IsOutOf, got_take}
use Rattle.theorem_stands.proofs.NumberedLemmas.{edge_moves, known_by}
use Rattle.theorem_stands.proofs.PlainLemmas.{PlainCases, first, later, nothing, plain_cases, plain_of, resets_at}
use Rattle.theorem_symbols.specs.Shown.{SynsAreShown}
use Rattle.theorem_symbols.proofs.PlaceLemmas.{LineStands, PlaceRight, RefusedStands, all_right, first_right, refused_right, right_append}
use Rattle.theorem_symbols.proofs.SettleRight.{SceneStands, SettledSoFar, opening_is, settle_right}
use Rattle.theorem_known.proofs.CutLemmas.{cut, cut_plain, cut_sound, none_out, same_segment}

-- A LINE of what was sent stands in it
pub record TheirsStand (sent : List TcpFields) (t : Tuple) (l : lines.Line) : Type 0 where
  pub symbol : (o : Opening) → l.opening ≡ Some o → (k : ℕ) (x : Symbol) → slice_get l.symbols k ≡ Some x
      → Stands sent t o.client k x
  pub reset : (o : Opening) → l.opening ≡ Some o → l.reset ≡ true → ResetStands sent t o.client
  pub acked : (o : Opening) → l.opening ≡ Some o → l.acked ≤ acked_in sent t o.client
  pub refused : (client : ℕ) → l.refused ≡ Some client → RefusalStands sent t client

pub theirs_stand : (items : List Item) (t : Tuple) → TheirsStand (sent_of items) t (line t items)
theirs_stand items t = record {
  symbol = λ o e k x f. subst (λ (p : Option Opening). Stands (sent_of items) t (client_or_none p) k x) e
      ((line_fits t items).stands k x f);
  reset = λ o e f. reset_stands items t o e f;
  acked = λ o e. acked_was_sent items t o e;
  refused = λ client e. refusal_stands items t client e;
}

-- the symbols of a line below an edge
abbrev pub BelowStands : List TcpFields → Tuple → lines.Line → ℕ → Type 0
BelowStands sent t l edge =
    (o : Opening) (k : ℕ) (x : Symbol) → l.opening ≡ Some o → k < edge → slice_get l.symbols k ≡ Some x
    → Stands sent t o.client k x

-- ONE CLIENT
one_client : (p q : Option Opening) → have_one_client p q ≡ true → (o : Opening) → p ≡ Some o
    → (r : Opening) × ((q ≡ Some r) × (r.client ≡ o.client))
one_client None q h o e = absurd (true≢false (sym h))
one_client (Some p) None h o e = absurd (true≢false (sym h))
one_client (Some p) (Some q) h o e =
    let is : p ≡ o = cc in
    (q, (refl, sym (eqb-true p.client q.client h) ∙ ap (λ (x : Opening). x.client) is))

-- THE MATCHED END
same_symbol-eq : (x y : Symbol) → same_symbol x y ≡ true → x ≡ y
same_symbol-eq syn syn h = refl
same_symbol-eq syn (byte b) h = absurd (true≢false (sym h))
same_symbol-eq syn fin h = absurd (true≢false (sym h))
same_symbol-eq (byte a) syn h = absurd (true≢false (sym h))
same_symbol-eq (byte a) (byte b) h = ap byte (eqb-true a b h)
same_symbol-eq (byte a) fin h = absurd (true≢false (sym h))
same_symbol-eq fin syn h = absurd (true≢false (sym h))
same_symbol-eq fin (byte b) h = absurd (true≢false (sym h))
same_symbol-eq fin fin h = refl

prefix_same : (xs ys : List Symbol) (j : ℕ) (x : Symbol) → j < common_prefix_len same_symbol xs ys
    → slice_get xs j ≡ Some x → slice_get ys j ≡ Some x
prefix_same [] ys j x h e = absurd (omega (arith, h))
prefix_same (y ∷ xs) [] j x h e = absurd (omega (arith, h))
prefix_same (y ∷ xs) (z ∷ ys) j x h e =
    by (same_symbol y z) refl j h e (λ k less f. prefix_same xs ys k x less f)
  where
    by : (same : Bool) → same_symbol y z ≡ same → (k : ℕ)
        → k < (if same then 1 + common_prefix_len same_symbol xs ys else 0) → slice_get (y ∷ xs) k ≡ Some x
        → ((m : ℕ) → m < common_prefix_len same_symbol xs ys → slice_get xs m ≡ Some x → slice_get ys m ≡ Some x)
        → slice_get (z ∷ ys) k ≡ Some x
    by false f k g i more = absurd (omega (arith, g))
    by true f zero g i more = ap Some (sym (same_symbol-eq y z f)) ∙ i
    by true f (suc k) g i more = more k (omega (arith, g)) i

-- below the new edge the line stands with the other node
pub new_below : (sent : List TcpFields) (b : BothLines) (edge : ℕ) → TheirsStand sent b.tuple b.theirs
    → BelowStands sent b.tuple b.mine edge → BelowStands sent b.tuple b.mine (new_edge b edge)
new_below sent b edge theirs below o k x e low f = by_old (cases_lt k edge)
  where
    matched : (one : Bool) → (has_one_client b && nat_le b.theirs.base edge) ≡ one → edge ≤ k
        → k < (if one then edge
        + common_prefix_len same_symbol (drop edge b.mine.symbols) (drop edge b.theirs.symbols) else edge)
        → Stands sent b.tuple o.client k x
    matched false g high less = absurd (omega (arith, high, less))
    matched true g high less =
        let parts = and_parts (has_one_client b) (nat_le b.theirs.base edge) g in
        let one = one_client b.mine.opening b.theirs.opening parts.0 o e in
        let at : k ≡ edge + (k - edge) = omega (arith, high) in
        let here = prefix_same (drop edge b.mine.symbols) (drop edge b.theirs.symbols) (k - edge) x
        (omega (arith, high, less)) (get_drop edge b.mine.symbols (k - edge) k at ∙ f) in
        subst (λ (c : ℕ). Stands sent b.tuple c k x) one.1.1
        (theirs.symbol one.0 one.1.0 k x (sym (get_drop edge b.theirs.symbols (k - edge) k at) ∙ here))

    goes : (out : Bool) → edge ≤ k → k < (if out then matched_end b edge else edge) → Stands sent b.tuple o.client k x
    goes false high less = absurd (omega (arith, high, less))
    goes true high less = matched (has_one_client b && nat_le b.theirs.base edge) refl high less

    by_old : (k < edge) ⊎ (edge ≤ k) → Stands sent b.tuple o.client k x
    by_old (inl less) = below o k x e less f
    by_old (inr high) = goes (goes_out b edge) high low

-- ONE CONNECTION, as it stands before it is settled
pub record IsReadyWith (a : Start) (past : Past) (released : List Released) (sent : List TcpFields) (b : BothLines)
    (p : Progress) : Type 0 where
  pub small : b.number < 2 ^ 32
  pub sound : IsSound b.mine
  pub within : p.edge ≤ length b.mine.symbols
  pub clients : OpeningFits b.mine.opening
  pub now : (o : Opening) → b.mine.opening ≡ Some o → current_client past b.tuple ≡ Some o.client
  pub number : 0 < p.edge → shown_number a b.tuple released ≡ Some b.number
  pub theirs : TheirsStand sent b.tuple b.theirs
  pub below : BelowStands sent b.tuple b.mine p.edge

opened_by : (l : lines.Line) (edge : ℕ) → IsSound l → 0 < edge → edge ≤ length l.symbols → is_some l.opening ≡ true
opened_by l edge sound some within = by (is_some l.opening) refl
  where
    by : (is : Bool) → is_some l.opening ≡ is → is_some l.opening ≡ true
    by true e = e
    by false e =
        let none : length l.symbols ≡ 0 = ap (λ (m : lines.Line). length m.symbols) (sound.unopened e) in
        absurd (omega (arith, none, some, within))

resets_with : (b : BothLines) (p : Progress) → resets_at b p ≡ true
    → (b.theirs.reset ≡ true) × (has_one_client b ≡ true)
resets_with b p e =
    let some = nat_lt 0 (new_edge b p.edge) in
    let agrees = (and_parts p.reset_due (agrees_on_reset b (new_edge b p.edge)) e).1 in
    let mine = and_parts b.mine.reset (b.theirs.reset && (has_one_client b && some)) agrees in
    let theirs = and_parts b.theirs.reset (has_one_client b && some) mine.1 in
    (theirs.0, (and_parts (has_one_client b) some theirs.1).0)

smaller_within : (sent : List TcpFields) (b : BothLines) → TheirsStand sent b.tuple b.theirs → (o : Opening)
    → b.mine.opening ≡ Some o → smaller_acked b ≤ acked_in sent b.tuple o.client
smaller_within sent b theirs o e =
    cond_both (has_one_client b) b.theirs.acked 0
    (λ (n : ℕ). min b.mine.acked n ≤ acked_in sent b.tuple o.client)
    (λ f. let one = one_client b.mine.opening b.theirs.opening f o e in
    let low : b.theirs.acked ≤ acked_in sent b.tuple o.client =
    subst (λ (c : ℕ). b.theirs.acked ≤ acked_in sent b.tuple c) one.1.1 (theirs.acked one.0 one.1.0) in
    omega (arith, low))
    (λ f. omega arith)

taken_below : {X : Type 0} (n : ℕ) (xs : List X) (k : ℕ) (x : X) → slice_get (take n xs) k ≡ Some x → k < n
taken_below n xs k x e =
    let within = slice_get_within (take n xs) k x e in
    omega (arith, within, length-take n xs)

-- the line up to the new edge stands in what the other node sent
cut_stands : (a : Start) (past : Past) (released : List Released) (sent : List TcpFields) (b : BothLines)
    (p : Progress) (o : Opening) → IsReadyWith a past released sent b p → b.mine.opening ≡ Some o
    → LineStands sent (cut b (new_edge b p.edge) (resets_at b p)) o.client
cut_stands a past released sent b p o h e = record {
  client_is = ap client_or_zero e;
  small = (subst OpeningFits e h.clients).0;
  symbol = λ k x f. new_below sent b p.edge h.theirs h.below o k x e
      (taken_below (new_edge b p.edge) b.mine.symbols k x f) (got_take (new_edge b p.edge) b.mine.symbols k x f);
  reset = λ f. let with_it = resets_with b p f in
      let one = one_client b.mine.opening b.theirs.opening with_it.1 o e in
      subst (λ (c : ℕ). ResetStands sent b.tuple c) one.1.1 (h.theirs.reset one.0 one.1.0 with_it.0);
  acked = smaller_within sent b h.theirs o e;
}

cases_with : (a : Start) (past : Past) (released : List Released) (sent : List TcpFields) (b : BothLines)
    (p : Progress) (o : Opening) (out : List Released) → IsReadyWith a past released sent b p
    → b.mine.opening ≡ Some o → IsSound (cut b (new_edge b p.edge) (resets_at b p)).mine
    → All (IsOutOf (cut b (new_edge b p.edge) (resets_at b p))) out → PlainCases b p.edge (new_edge b p.edge) out
    → All (PlaceRight sent) (places_after a past released out)
unfolding places_after
cases_with a past released sent b p o out h e sound kinds (later some all) =
    all_right a past released sent (cut b (new_edge b p.edge) (resets_at b p)) o.client out h.small sound
    (cut_stands a past released sent b p o h e) (λ client f. absurd (cc f)) (h.now o e) (h.number some) kinds
cases_with a past released sent b p o out h e sound kinds (first is begins) =
    let c = cut b (new_edge b p.edge) (resets_at b p) in
    let same : out ≡ segment_at c 0 syn_ack begins.mss [] ∷ begins.rest =
    begins.out_is ∙ ap (λ (r : Released). r ∷ begins.rest)
    (sym (same_segment b (new_edge b p.edge) (resets_at b p) 0 syn_ack begins.mss [])) in
    subst (λ (rs : List Released). All (PlaceRight sent) (places_after a past released rs)) (sym same)
    (first_right a past released sent c o.client begins.mss begins.rest h.small sound
    (cut_stands a past released sent b p o h e) (λ client f. absurd (cc f)) (h.now o e)
    (subst (All (IsOutOf c)) same kinds))
cases_with a past released sent b p o out h e sound kinds (nothing none empty) =
    subst (λ (rs : List Released). All (PlaceRight sent) (places_after a past released rs)) (sym empty)
    (All-nil (PlaceRight sent))

plain_with_both : (a : Start) (past : Past) (released : List Released) (sent : List TcpFields) (b : BothLines)
    (p : Progress) (tooks : List Took) → IsReadyWith a past released sent b p
    → All (PlaceRight sent) (places_after a past released (plain_of b p tooks))
unfolding places_after
plain_with_both a past released sent b p tooks h = by (new_edge b p.edge) refl
  where
    by : (n : ℕ) → new_edge b p.edge ≡ n → All (PlaceRight sent) (places_after a past released (plain_of b p tooks))
    by zero e =
        let moves = edge_moves b p.edge h.within in
        subst (λ (rs : List Released). All (PlaceRight sent) (places_after a past released rs))
        (sym (none_out b p tooks (omega (arith, moves.up, e)) e)) (All-nil (PlaceRight sent))
    by (suc n) e =
        let moves = edge_moves b p.edge h.within in
        let some : 0 < new_edge b p.edge = omega (arith, e) in
        let is = opened_by b.mine (new_edge b p.edge) h.sound some moves.within in
        let o = opening_is b.mine.opening is in
        let sound = cut_sound b (new_edge b p.edge) (resets_at b p) h.sound is some in
        cases_with a past released sent b p o.0 (plain_of b p tooks) h o.1 sound
        (cut_plain b p tooks moves.up sound) (plain_cases b p tooks h.sound)

-- a refusal goes out where both refused one client
refuses_both : (a : Start) (past : Past) (released : List Released) (sent : List TcpFields) (b : BothLines)
    (due : Bool) → (due ≡ true → RefusedStands sent b)
    → All (PlaceRight sent) (places_after a past released (release_refusal b b.mine.refused due))
unfolding places_after
refuses_both a past released sent b true h = refused_right a past released sent b true (h refl)
refuses_both a past released sent b false h = by b.mine.refused
  where
    by : (o : Option ℕ) → All (PlaceRight sent) (places_after a past released (release_refusal b o false))
    by None = All-nil (PlaceRight sent)
    by (Some client) = All-nil (PlaceRight sent)

same_refused : (p q : Option ℕ) → same_number p q ≡ true → (client : ℕ) → p ≡ Some client → q ≡ Some client
same_refused (Some m) (Some n) h client e = ap Some (sym (eqb-true m n h)) ∙ e
same_refused (Some m) None h client e = absurd (true≢false (sym h))
same_refused None n h client e = absurd (cc e)

-- what is shown of a connection that was settled
pub record OneWith (a : Start) (past : Past) (released : List Released) (sent : List TcpFields) (b : BothLines)
    (one : Settled) : Type 0 where
  pub right : All (PlaceRight sent) (places_after a past released one.out)
  pub below : BelowStands sent b.tuple b.mine one.progress.edge

settled_edge : (b : BothLines) (p : Progress) (is_turn : Bool) (tooks : List Took)
    → (settle_one b p is_turn tooks).progress.edge ≡ new_edge b p.edge
unfolding settle_one
settled_edge b p true tooks = refl
settled_edge b p false tooks = refl

rested_edge : (b : BothLines) (m : ℕ) (p : Progress) (is_turn : Bool)
    → (if is_turn then grow_older b m p else p).edge ≡ p.edge
rested_edge b m p true = refl
rested_edge b m p false = refl

settled_with : (a : Start) (past : Past) (released : List Released) (sent : List TcpFields) (b : BothLines)
    (p : Progress) (is_turn : Bool) (tooks : List Took) → IsReadyWith a past released sent b p
    → OneWith a past released sent b (settle_one b p is_turn tooks)
unfolding settle_one
settled_with a past released sent b p is_turn tooks h =
    let plain = plain_of b p tooks in
    let due = p.refusal_due && same_number b.mine.refused b.theirs.refused in
    let refusal = release_refusal b b.mine.refused due in
    record {
      right = right_append a past sent released plain refusal
          (plain_with_both a past released sent b p tooks h)
          (refuses_both a past (released ++ plain) sent b due (λ e client f. h.theirs.refused client
          (same_refused b.mine.refused b.theirs.refused
          (and_parts p.refusal_due (same_number b.mine.refused b.theirs.refused) e).1 client f)));
      below = subst (λ (n : ℕ). BelowStands sent b.tuple b.mine n) (sym (settled_edge b p is_turn tooks))
          (new_below sent b p.edge h.theirs h.below);
    }

one_with : (a : Start) (past : Past) (released : List Released) (sent : List TcpFields) (b : BothLines)
    (p : Progress) (restarted is_turn : Bool) (tooks : List Took) → IsReadyWith a past released sent b p
    → OneWith a past released sent b (settle_or_rest restarted b p is_turn tooks)
unfolding places_after
one_with a past released sent b p true is_turn tooks h = record {
  right = All-nil (PlaceRight sent);
  below = subst (λ (n : ℕ). BelowStands sent b.tuple b.mine n)
      (sym (rested_edge b (matched_end b p.edge) p is_turn)) h.below;
}
one_with a past released sent b p false is_turn tooks h = settled_with a past released sent b p is_turn tooks h

-- ALL CONNECTIONS
abbrev pub AllBelow : List TcpFields → List Item → ProgressTable → Type 0
AllBelow sent mine progress = (t : Tuple) → BelowStands sent t (line t mine) (progress_of t progress).edge

pub record SettledWith (a : Start) (past : Past) (released : List Released) (scene : Scene)
    (so_far : Settlement) : Type 0 where
  pub right : All (PlaceRight (sent_of scene.theirs)) (places_after a past released so_far.out)
  pub below : AllBelow (sent_of scene.theirs) scene.mine so_far.progress

pub put_below : (sent : List TcpFields) (mine : List Item) (u : Tuple) (p : Progress) (table : ProgressTable)
    → BelowStands sent u (line u mine) p.edge
    → ((t : Tuple) → same_tuple u t ≡ false → BelowStands sent t (line t mine) (progress_of t table).edge)
    → AllBelow sent mine (put_progress u p table)
put_below sent mine u p table here others t = by (same_tuple u t) refl
  where
    by : (same : Bool) → same_tuple u t ≡ same
        → BelowStands sent t (line t mine) (progress_of t (put_progress u p table)).edge
    by true e =
        subst (λ (v : Tuple). BelowStands sent v (line v mine) (progress_of v (put_progress u p table)).edge)
        (same_tuple-eq u t e)
        (subst (λ (q : Progress). BelowStands sent u (line u mine) q.edge) (sym (progress_same u p table)) here)
    by false e =
        subst (λ (q : Progress). BelowStands sent t (line t mine) q.edge) (sym (progress_other u t p table e))
        (others t e)

ready_with : (a : Start) (past : Past) (released : List Released) (scene : Scene) (so_far : Settlement) (u : Tuple)
    → scene.is_alone ≡ false → SceneStands past scene → SettledSoFar a past released scene so_far
    → SettledWith a past released scene so_far
    → IsReadyWith a past (released ++ so_far.out) (sent_of scene.theirs) (both_lines scene u)
    (progress_of u so_far.progress)
unfolding both_lines
ready_with a past released scene so_far u alone g h w =
    let b = both_lines scene u in
    let p = progress_of u so_far.progress in
    let known = known_by scene u g.fit in
    let here = h.numbered u in
    record {
      small = known.small;
      sound = known.sound;
      within = here.within;
      clients = opening_fits scene.mine u g.range;
      now = λ o e. g.now u ∙ ap (option_map (λ (q : Opening). q.client)) e;
      number = λ some.
          let o = opening_is b.mine.opening (opened_by b.mine p.edge known.sound some here.within) in
          h.shown u (shown_as u o.0 scene.numbers) (here.shown o.0 o.1 some) ∙ ap Some (known.number o.0 o.1);
      theirs = subst (λ (only : Bool). TheirsStand (sent_of scene.theirs) u
          (if only then line u scene.mine else line u scene.theirs)) (sym alone) (theirs_stand scene.theirs u);
      below = w.below u;
    }

one_more_with : (a : Start) (past : Past) (released : List Released) (scene : Scene) (so_far : Settlement) (u : Tuple)
    → scene.is_alone ≡ false → SceneStands past scene → SettledSoFar a past released scene so_far
    → SettledWith a past released scene so_far
    → SettledWith a past released scene (settle_tuple scene so_far u)
unfolding settle_tuple both_lines
one_more_with a past released scene so_far u alone g h w =
    let b = both_lines scene u in
    let p = progress_of u so_far.progress in
    let one = settle_or_rest (is_restarted scene u) b p scene.is_turn scene.tooks in
    let with_it = one_with a past (released ++ so_far.out) (sent_of scene.theirs) b p (is_restarted scene u)
    scene.is_turn scene.tooks (ready_with a past released scene so_far u alone g h w) in
    record {
      right = right_append a past (sent_of scene.theirs) released so_far.out one.out w.right with_it.right;
      below = put_below (sent_of scene.theirs) scene.mine u one.progress so_far.progress with_it.below
          (λ t e. w.below t);
    }

one_settled : (scene : Scene) (before : List Tuple) (u : Tuple) (progress : ProgressTable)
    → rules.settle scene (before ++ u ∷ []) progress ≡ settle_tuple scene (rules.settle scene before progress) u
unfolding rules.settle
one_settled scene before u progress =
    fold-append (settle_tuple scene) (record { progress = progress; out = [] }) before (u ∷ [])

all_with : (a : Start) (past : Past) (released : List Released) (scene : Scene) (before tuples : List Tuple)
    (progress : ProgressTable) → scene.is_alone ≡ false → SceneStands past scene
    → AreNumbered scene.mine scene.numbers progress → SynsAreShown a released progress
    → SettledWith a past released scene (rules.settle scene before progress)
    → SettledWith a past released scene (rules.settle scene (before ++ tuples) progress)
all_with a past released scene before [] progress alone g numbered shown w =
    subst (λ (ts : List Tuple). SettledWith a past released scene (rules.settle scene ts progress))
    (sym (append-nil before)) w
all_with a past released scene before (u ∷ tuples) progress alone g numbered shown w =
    let so_far = rules.settle scene before progress in
    subst (λ (ts : List Tuple). SettledWith a past released scene (rules.settle scene ts progress))
    (append_assoc before (u ∷ []) tuples)
    (all_with a past released scene (before ++ u ∷ []) tuples progress alone g numbered shown
    (subst (SettledWith a past released scene) (sym (one_settled scene before u progress))
    (one_more_with a past released scene so_far u alone g
    (settle_right a past released scene before progress g numbered shown) w)))

pub settle_with : (a : Start) (past : Past) (released : List Released) (scene : Scene) (tuples : List Tuple)
    (progress : ProgressTable) → scene.is_alone ≡ false → SceneStands past scene
    → AreNumbered scene.mine scene.numbers progress → SynsAreShown a released progress
    → AllBelow (sent_of scene.theirs) scene.mine progress
    → SettledWith a past released scene (rules.settle scene tuples progress)
unfolding rules.settle places_after
settle_with a past released scene tuples progress alone g numbered shown below =
    all_with a past released scene [] tuples progress alone g numbered shown
    (record { right = All-nil (PlaceRight (sent_of scene.theirs)); below = below })
