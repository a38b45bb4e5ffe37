-- What a settling releases stands in what the releasing node sent, connection by connection, and the SYN that a
-- connection's progress shows is the last that went out.
use Rattle.std.proofs.Common.{◌≡◌, ℕ, ◌<◌, ◌≤◌, ◌^◌, Bool, true, false, ◌&&◌, is_some, if◌then◌else◌, List, [], ◌∷◌, ◌++◌, append-nil, append_assoc, length, fold, Option, None, Some, refl, sym, ap, subst, ◌∙◌, All, arith, true≢false}
use Rattle.std.specs.Option.{option_map}
use Rattle.std.proofs.lemmas.Grind.{fold-append}
use Rattle.std.proofs.lemmas.List.Elements.{All-append, All-nil}
use Rattle.inet_frame.specs.Fields.{TcpFields}
use Rattle.inet_frame.specs.declared.tuple.Tuple.{Tuple}
use Rattle.tcp_track.specs.Lines as lines
use Rattle.tcp_track.specs.Lines.{Item, line, sent_of}
use Rattle.tcp_track.specs.Segments.{same_tuple}
use Rattle.tcp_track.specs.Stands.{Stands}
use Rattle.tcp_track.specs.declared.answers.Took.{Took}
use Rattle.tcp_track.specs.declared.openings.Opening.{Opening}
use Rattle.tcp_track.proofs.AckedLemmas.{acked_was_sent}
use Rattle.tcp_track.proofs.ResetLemmas.{refusal_stands, reset_stands}
use Rattle.tcp_track.proofs.SymbolLemmas.{client_or_none, line_fits}
use Rattle.tcp_track.proofs.TupleLemmas.{same_tuple-eq}
use Rattle.settle_rules.specs.Matching.{BothLines, client_or_zero, matched_end}
use Rattle.settle_rules.specs.Progress.{Progress, ProgressTable, progress_of, put_progress}
use Rattle.settle_rules.specs.Release.{Released, release_refusal}
use Rattle.settle_rules.specs.Settle as rules
use Rattle.settle_rules.specs.Settle.{Scene, Settled, Settlement, both_lines, grow_older, is_restarted, new_edge, same_number, settle_one, settle_or_rest, settle_tuple}
use Rattle.pair_theorem.specs.Past.{Past, Start}
use Rattle.pair_theorem.specs.Places as places
use Rattle.pair_theorem.specs.Places.{current_client, places_after, shown_number}
use Rattle.theorem_frames.specs.Lines.{IsSound}
use Rattle.theorem_frames.specs.Shapes.{AreSentInRange}
use Rattle.theorem_frames.proofs.BytesLemmas.{NumberFits}
use Rattle.theorem_frames.proofs.PromptLemmas.{progress_other, progress_same}
use Rattle.theorem_frames.proofs.RangeLemmas.{OpeningFits, opening_fits}
use Rattle.theorem_stands.specs.Numbered.{AreNumbered, shown_as}
use Rattle.theorem_stands.proofs.KindLemmas.{IsOutOf, refusal_kinds}
use Rattle.theorem_stands.proofs.NumberedLemmas.{known_by, settle_numbered}
use Rattle.theorem_stands.proofs.PlainLemmas.{PlainCases, first, later, nothing, plain_all, plain_cases, plain_of}
use Rattle.theorem_symbols.specs.Shown.{SynsAreShown}
use Rattle.theorem_symbols.proofs.NumberShown.{Follows, follows_all, other_numbers, refusal_number}
use Rattle.theorem_symbols.proofs.PlaceLemmas.{LineStands, PlaceRight, RefusedStands, all_right, first_right, number_after, refused_right, right_append}

-- A LINE STANDS in what was sent
pub line_stands : (items : List Item) (t : Tuple) (theirs : lines.Line) (number : ℕ) (known : Bool) (o : Opening) →
    AreSentInRange items → (line t items).opening ≡ Some o →
    LineStands (sent_of items) (record {
      tuple = t;
      mine = line t items;
      theirs = theirs;
      number = number;
      number_known = known;
    }) o.client
line_stands items t theirs number known o range e = record {
  client_is = ap client_or_zero e;
  small = (subst OpeningFits e (opening_fits items t range)).0;
  symbol = λ k x f. subst (λ (p : Option Opening). Stands (sent_of items) t (client_or_none p) k x) e
      ((line_fits t items).stands k x f);
  reset = λ f. reset_stands items t o e f;
  acked = acked_was_sent items t o e;
}

pub opening_is : (o : Option Opening) → is_some o ≡ true → (x : Opening) × (o ≡ Some x)
opening_is None e = absurd (true≢false (sym e))
opening_is (Some x) e = (x, refl)

opened_by_edge : (l : lines.Line) (edge : ℕ) → IsSound l → 0 < edge → edge ≤ length l.symbols →
    is_some l.opening ≡ true
opened_by_edge l edge sound some within = by (is_some l.opening) refl
  where
    by : (is : Bool) → is_some l.opening ≡ is → is_some l.opening ≡ true
    by true e = e
    by false e =
        let none : length l.symbols ≡ 0 = ap (λ (m : lines.Line). length m.symbols) (sound.unopened e) in
        absurd (omega (arith, none, some, within))

-- ONE CONNECTION, as it stands before it is settled
record IsSettledFrom (a : Start) (past : Past) (released : List Released) (sent : List TcpFields) (b : BothLines)
    (p : Progress) : Type 0 where
  small : b.number < 2 ^ 32
  sound : IsSound b.mine
  within : p.edge ≤ length b.mine.symbols
  stands : (o : Opening) → b.mine.opening ≡ Some o → LineStands sent b o.client
  now : (o : Opening) → b.mine.opening ≡ Some o → current_client past b.tuple ≡ Some o.client
  refused : RefusedStands sent b
  number : 0 < p.edge → shown_number a b.tuple released ≡ Some b.number

plain_right : (a : Start) (past : Past) (released : List Released) (sent : List TcpFields) (b : BothLines)
    (p : Progress) (next : ℕ) (out : List Released) → IsSettledFrom a past released sent b p → All (IsOutOf b) out →
    PlainCases b p.edge next out → All (PlaceRight sent) (places_after a past released out)
unfolding places_after
plain_right a past released sent b p next out h kinds (later some all) =
    let o = opening_is b.mine.opening (opened_by_edge b.mine p.edge h.sound some h.within) in
    all_right a past released sent b o.0.client out h.small h.sound (h.stands o.0 o.1) h.refused (h.now o.0 o.1)
    (h.number some) kinds
plain_right a past released sent b p next out h kinds (first is begins) =
    let o = opening_is b.mine.opening is in
    subst (λ (rs : List Released). All (PlaceRight sent) (places_after a past released rs)) (sym begins.out_is)
    (first_right a past released sent b o.0.client begins.mss begins.rest h.small h.sound (h.stands o.0 o.1) h.refused
    (h.now o.0 o.1) (subst (All (IsOutOf b)) begins.out_is kinds))
plain_right a past released sent b p next out h kinds (nothing none empty) =
    subst (λ (rs : List Released). All (PlaceRight sent) (places_after a past released rs)) (sym empty)
    (All-nil (PlaceRight sent))

-- what is shown of a connection that was settled
record OneRight (a : Start) (past : Past) (released : List Released) (sent : List TcpFields) (b : BothLines)
    (p : Progress) (one : Settled) : Type 0 where
  right : All (PlaceRight sent) (places_after a past released one.out)
  follows : (n : Option ℕ) → Follows p.shown n →
      Follows one.progress.shown (fold (places.shown_after b.tuple) n one.out)
  kinds : All (IsOutOf b) one.out

grown_shown : (b : BothLines) (m : ℕ) (p : Progress) (is_turn : Bool) →
    (if is_turn then grow_older b m p else p).shown ≡ p.shown
grown_shown b m p true = refl
grown_shown b m p false = refl

settled_shown : (b : BothLines) (p : Progress) (is_turn : Bool) (tooks : List Took) →
    (settle_one b p is_turn tooks).progress.shown
    ≡ rules.shown_after (client_or_zero b.mine.opening) p.shown (plain_of b p tooks)
unfolding settle_one
settled_shown b p true tooks = refl
settled_shown b p false tooks = refl

settled_right : (a : Start) (past : Past) (released : List Released) (sent : List TcpFields) (b : BothLines)
    (p : Progress) (is_turn : Bool) (tooks : List Took) → IsSettledFrom a past released sent b p →
    OneRight a past released sent b p (settle_one b p is_turn tooks)
unfolding settle_one
settled_right a past released sent b p is_turn tooks h =
    let plain = plain_of b p tooks in
    let kinds = plain_all b p tooks h.sound in
    let due = p.refusal_due && same_number b.mine.refused b.theirs.refused in
    let refusal = release_refusal b b.mine.refused due in
    record {
      right = right_append a past sent released plain refusal
          (plain_right a past released sent b p (new_edge b p.edge) plain h kinds (plain_cases b p tooks h.sound))
          (refused_right a past (released ++ plain) sent b due h.refused);
      follows = λ n f o e.
          fold-append (places.shown_after b.tuple) n plain refusal
          ∙ (refusal_number b b.mine.refused due b.tuple (fold (places.shown_after b.tuple) n plain)
          ∙ follows_all b (client_or_zero b.mine.opening) plain p.shown n kinds f o
          (sym (settled_shown b p is_turn tooks) ∙ e));
      kinds = All-append (IsOutOf b) plain refusal kinds (refusal_kinds b due);
    }

one_right : (a : Start) (past : Past) (released : List Released) (sent : List TcpFields) (b : BothLines)
    (p : Progress) (restarted is_turn : Bool) (tooks : List Took) → IsSettledFrom a past released sent b p →
    OneRight a past released sent b p (settle_or_rest restarted b p is_turn tooks)
unfolding places_after
one_right a past released sent b p true is_turn tooks h = record {
  right = All-nil (PlaceRight sent);
  follows = λ n f o e. f o (sym (grown_shown b (matched_end b p.edge) p is_turn) ∙ e);
  kinds = All-nil (IsOutOf b);
}
one_right a past released sent b p false is_turn tooks h = settled_right a past released sent b p is_turn tooks h

-- ALL CONNECTIONS: the numbers of a scene fit, and its lines are those of the past after the event
pub record SceneStands (past : Past) (scene : Scene) : Type 0 where
  pub fit : All NumberFits scene.numbers
  pub range : AreSentInRange scene.mine
  pub now : (t : Tuple) →
      current_client past t ≡ option_map (λ (o : Opening). o.client) (line t scene.mine).opening

pub record SettledSoFar (a : Start) (past : Past) (released : List Released) (scene : Scene)
    (so_far : Settlement) : Type 0 where
  pub numbered : AreNumbered scene.mine scene.numbers so_far.progress
  pub shown : SynsAreShown a (released ++ so_far.out) so_far.progress
  pub right : All (PlaceRight (sent_of scene.mine)) (places_after a past released so_far.out)

settled_from : (a : Start) (past : Past) (released : List Released) (scene : Scene) (so_far : Settlement) (u : Tuple) →
    SceneStands past scene → SettledSoFar a past released scene so_far →
    IsSettledFrom a past (released ++ so_far.out) (sent_of scene.mine) (both_lines scene u)
    (progress_of u so_far.progress)
unfolding both_lines
settled_from a past released scene so_far u g h =
    let b = both_lines scene u in
    let p = progress_of u so_far.progress in
    let known = known_by scene u g.fit in
    let here = h.numbered u in
    record {
      small = known.small;
      sound = known.sound;
      within = here.within;
      stands = λ o e. line_stands scene.mine u b.theirs b.number b.number_known o g.range e;
      now = λ o e. g.now u ∙ ap (option_map (λ (q : Opening). q.client)) e;
      refused = λ client e. refusal_stands scene.mine u client e;
      number = λ some.
          let o = opening_is b.mine.opening (opened_by_edge b.mine p.edge known.sound some here.within) in
          h.shown u (shown_as u o.0 scene.numbers) (here.shown o.0 o.1 some) ∙ ap Some (known.number o.0 o.1);
    }

-- the SYNs shown, after one connection more
pub put_shown : (a : Start) (released earlier out : List Released) (b : BothLines) (old new : Progress)
    (table : ProgressTable) → old ≡ progress_of b.tuple table → All (IsOutOf b) out →
    ((n : Option ℕ) → Follows old.shown n → Follows new.shown (fold (places.shown_after b.tuple) n out)) →
    SynsAreShown a (released ++ earlier) table →
    SynsAreShown a (released ++ (earlier ++ out)) (put_progress b.tuple new table)
put_shown a released earlier out b old new table is kinds follows h t o e = by (same_tuple b.tuple t) refl
  where
    number : (u : Tuple) →
        shown_number a u (released ++ (earlier ++ out))
        ≡ fold (places.shown_after u) (shown_number a u (released ++ earlier)) out
    number u =
        ap (λ (rs : List Released). shown_number a u rs) (sym (append_assoc released earlier out))
        ∙ number_after a u (released ++ earlier) out

    here : (q : Opening) → (progress_of b.tuple (put_progress b.tuple new table)).shown ≡ Some q →
        shown_number a b.tuple (released ++ (earlier ++ out)) ≡ Some q.own
    here q f =
        number b.tuple
        ∙ follows (shown_number a b.tuple (released ++ earlier))
        (λ r g. h b.tuple r (ap (λ (x : Progress). x.shown) (sym is) ∙ g)) q
        (ap (λ (x : Progress). x.shown) (sym (progress_same b.tuple new table)) ∙ f)

    by : (same : Bool) → same_tuple b.tuple t ≡ same → shown_number a t (released ++ (earlier ++ out)) ≡ Some o.own
    by true same =
        subst (λ (u : Tuple). (progress_of u (put_progress b.tuple new table)).shown ≡ Some o →
        shown_number a u (released ++ (earlier ++ out)) ≡ Some o.own) (same_tuple-eq b.tuple t same) (here o) e
    by false other =
        number t
        ∙ (other_numbers b t out (shown_number a t (released ++ earlier)) other kinds
        ∙ h t o (ap (λ (x : Progress). x.shown) (sym (progress_other b.tuple t new table other)) ∙ e))

one_more : (a : Start) (past : Past) (released : List Released) (scene : Scene) (so_far : Settlement) (u : Tuple) →
    SceneStands past scene → SettledSoFar a past released scene so_far →
    SettledSoFar a past released scene (settle_tuple scene so_far u)
unfolding settle_tuple both_lines
one_more a past released scene so_far u g h =
    let b = both_lines scene u in
    let p = progress_of u so_far.progress in
    let one = settle_or_rest (is_restarted scene u) b p scene.is_turn scene.tooks in
    let right =
    one_right a past (released ++ so_far.out) (sent_of scene.mine) b p (is_restarted scene u) scene.is_turn scene.tooks
    (settled_from a past released scene so_far u g h) in
    record {
      numbered = settle_numbered scene so_far (u ∷ []) g.fit h.numbered;
      shown = put_shown a released so_far.out one.out b p one.progress so_far.progress refl right.kinds right.follows
          h.shown;
      right = right_append a past (sent_of scene.mine) released so_far.out one.out h.right right.right;
    }

settle_all : (a : Start) (past : Past) (released : List Released) (scene : Scene) (so_far : Settlement)
    (tuples : List Tuple) → SceneStands past scene → SettledSoFar a past released scene so_far →
    SettledSoFar a past released scene (fold (settle_tuple scene) so_far tuples)
settle_all a past released scene so_far [] g h = h
settle_all a past released scene so_far (u ∷ tuples) g h =
    settle_all a past released scene (settle_tuple scene so_far u) tuples g
    (one_more a past released scene so_far u g h)

pub settle_right : (a : Start) (past : Past) (released : List Released) (scene : Scene) (tuples : List Tuple)
    (progress : ProgressTable) → SceneStands past scene → AreNumbered scene.mine scene.numbers progress →
    SynsAreShown a released progress → SettledSoFar a past released scene (rules.settle scene tuples progress)
unfolding rules.settle places_after
settle_right a past released scene tuples progress g numbered shown =
    let none = sym (append-nil released) in
    settle_all a past released scene (record { progress = progress; out = [] }) tuples g (record {
      numbered = numbered;
      shown = subst (λ (rs : List Released). SynsAreShown a rs progress) none shown;
      right = All-nil (PlaceRight (sent_of scene.mine));
    })
