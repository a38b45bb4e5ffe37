-- At the report of the primary's stop a survivor says the agreed acknowledgement of each of its connections.
use Rattle.std.proofs.Common.{◌≡◌, ℕ, ◌<◌, max, min, Bool, true, false, is_some, List, [], ◌∷◌, ◌++◌, append_assoc, length, fold, Option, None, Some, refl, sym, ap, subst, ◌∙◌, All, arith}
use Rattle.std.specs.Option.{option_map}
use Rattle.std.proofs.lemmas.List.Elements.{All-append, All-tail}
use Rattle.inet_frame.specs.declared.tuple.Tuple.{Tuple}
use Rattle.tcp_track.specs.Lines.{Item, has_ended, line, order}
use Rattle.tcp_track.specs.Segments.{Symbol, same_tuple, syn}
use Rattle.tcp_track.specs.declared.openings.Opening.{Opening}
use Rattle.tcp_track.proofs.TupleLemmas.{same_tuple-eq}
use Rattle.settle_rules.specs.Matching.{BothLines, agreed_ack, agreed_ack_window}
use Rattle.settle_rules.specs.Numbers.{KeptNumber, keep_number, kept_number, number_or_zero}
use Rattle.settle_rules.specs.Progress.{AckWindow, Progress, progress_of, put_progress}
use Rattle.settle_rules.specs.Release.{Released, bytes_in, release_refusal, release_reset, release_symbols, segment_at, syn_ack, syn_segments}
use Rattle.settle_rules.specs.Survive.{Survival, lone_lines, survive, survive_line, survive_tuple, survivor_out, survivor_progress}
use Rattle.pair_theorem.specs.FrameParts.{ack_after, last_ack}
use Rattle.pair_theorem.specs.Past.{Start}
use Rattle.theorem_frames.specs.Lines.{IsSound}
use Rattle.theorem_frames.proofs.LineLemmas.{lines_are_sound_lem}
use Rattle.theorem_frames.proofs.PromptLemmas.{progress_other, progress_same}
use Rattle.theorem_stands.proofs.KindLemmas.{IsOutOf, IsPartOf, refusal_kinds, reset_kinds, symbol_kinds, syn_first, syn_kinds}
use Rattle.theorem_prompt.specs.Said.{AcksAreLast}
use Rattle.theorem_prompt.proofs.AckLemmas.{all_still_said, refusal_ack, segment_says}
use Rattle.theorem_prompt.proofs.AckSettle.{ack_more, put_last}

-- ONE LINE
lone_kinds : (b : BothLines) → IsSound b.mine → is_some b.mine.opening ≡ true → All (IsOutOf b) (survivor_out b)
unfolding survivor_out
lone_kinds b sound is =
    let part : IsPartOf b.mine.symbols 0 (syn ∷ []) =
    subst (λ (ys : List Symbol). IsPartOf ys 0 (syn ∷ [])) (sym (sound.opened is))
    (syn_first (bytes_in b.mine.symbols) (has_ended b.mine.symbols)) in
    let end = length b.mine.symbols in
    let symbols = release_symbols b (max 1 b.mine.base) end in
    let resets = release_reset b end b.mine.reset in
    All-append (IsOutOf b) (syn_segments b true ++ symbols ++ resets)
    (release_refusal b b.mine.refused (is_some b.mine.refused))
    (All-append (IsOutOf b) (syn_segments b true ++ symbols) resets
    (All-append (IsOutOf b) (syn_segments b true) symbols (syn_kinds b part)
    (symbol_kinds b (max 1 b.mine.base) end sound)) (reset_kinds b end b.mine.reset (λ e. e)))
    (refusal_kinds b (is_some b.mine.refused))

-- its SYN says the agreed acknowledgement, and nothing behind it another one
lone_said : (b : BothLines) (n : Option ℕ) → All (IsOutOf b) (survivor_out b) →
    fold (ack_after b.tuple) n (survivor_out b) ≡ Some (agreed_ack b)
unfolding survivor_out
lone_said b n kinds =
    let end = length b.mine.symbols in
    let mss = Some (min b.mine.mss b.theirs.mss) in
    let rest =
    release_symbols b (max 1 b.mine.base) end ++ release_reset b end b.mine.reset
    ++ release_refusal b b.mine.refused (is_some b.mine.refused) in
    ap (λ (m : Option ℕ). fold (ack_after b.tuple) m rest) (segment_says b 0 syn_ack mss [] refl n)
    ∙ all_still_said b rest (All-tail (IsOutOf b) (segment_at b 0 syn_ack mss []) rest kinds)

-- ALL LINES
-- what holds at a report
pub record SurvivedLast (a : Start) (released : List Released) (items : List Item) (x : Survival) : Type 0 where
  pub said : AcksAreLast a (released ++ x.out) x.progress
  pub agreed : (t : Tuple) → 0 < (progress_of t x.progress).edge →
      (progress_of t x.progress).last ≡ Some (agreed_ack_window (lone_lines t (line t items) 0))

line_last : (a : Start) (released : List Released) (items : List Item) (x : Survival) (u : Tuple)
    (o : Option Opening) → (line u items).opening ≡ o → SurvivedLast a released items x →
    SurvivedLast a released items (survive_line x u (line u items) o)
unfolding survive_line
line_last a released items x u None e h =
    let b = lone_lines u (line u items) 0 in
    let due = is_some b.mine.refused in
    let refusal = release_refusal b b.mine.refused due in
    record {
      said = λ t w f.
          ap (λ (rs : List Released). last_ack a t rs) (sym (append_assoc released x.out refusal))
          ∙ (ack_more a t (released ++ x.out) refusal
          ∙ (refusal_ack b b.mine.refused due t (last_ack a t (released ++ x.out)) ∙ h.said t w f));
      agreed = h.agreed;
    }
line_last a released items x u (Some o) e h =
    let numbers = keep_number u o.client o.own true x.numbers in
    let b = lone_lines u (line u items) (number_or_zero (kept_number u o.client numbers)) in
    let kinds = lone_kinds b (lines_are_sound_lem items u) (ap (λ (p : Option Opening). is_some p) e) in
    record {
      said = put_last a released x.out (survivor_out b) b (progress_of u x.progress) (survivor_progress b o) x.progress
          refl kinds (λ n f w g. lone_said b n kinds ∙ ap (option_map (λ (v : AckWindow). v.ack)) g) h.said;
      agreed = λ t some. by t (same_tuple u t) refl some;
    }
  where
    p : Progress
    p =
        survivor_progress (lone_lines u (line u items)
        (number_or_zero (kept_number u o.client (keep_number u o.client o.own true x.numbers)))) o

    by : (t : Tuple) (same : Bool) → same_tuple u t ≡ same →
        0 < (progress_of t (put_progress u p x.progress)).edge →
        (progress_of t (put_progress u p x.progress)).last ≡ Some (agreed_ack_window (lone_lines t (line t items) 0))
    by t true f some =
        subst (λ (v : Tuple). (progress_of v (put_progress u p x.progress)).last
        ≡ Some (agreed_ack_window (lone_lines v (line v items) 0))) (same_tuple-eq u t f)
        (ap (λ (q : Progress). q.last) (progress_same u p x.progress))
    by t false f some =
        let same = progress_other u t p x.progress f in
        ap (λ (q : Progress). q.last) same
        ∙ h.agreed t (subst (λ (q : Progress). 0 < q.edge) same some)

all_last : (a : Start) (released : List Released) (items : List Item) (x : Survival) (tuples : List Tuple) →
    SurvivedLast a released items x → SurvivedLast a released items (fold (survive_tuple items) x tuples)
unfolding survive_tuple
all_last a released items x [] h = h
all_last a released items x (u ∷ tuples) h =
    all_last a released items (survive_tuple items x u) tuples
    (line_last a released items x u (line u items).opening refl h)

pub survive_last : (a : Start) (released : List Released) (items : List Item) (numbers : List KeptNumber) →
    SurvivedLast a released items (survive items numbers (order items))
unfolding survive
survive_last a released items numbers =
    all_last a released items (record { numbers = numbers; progress = []; out = [] }) (order items)
    (record { said = λ t w e. absurd (cc e); agreed = λ t some. absurd (omega (arith, some)) })
