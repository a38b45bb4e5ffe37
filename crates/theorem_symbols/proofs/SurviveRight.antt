-- What a survivor releases at the report stands in what it sent, and shows its numbers.
use Rattle.std.proofs.Common.{◌≡◌, ℕ, ◌<◌, ◌^◌, max, min, true, is_some, List, [], ◌∷◌, ◌++◌, append_assoc, length, fold, Option, None, Some, refl, sym, ap, subst, ◌∙◌, All}
use Rattle.std.specs.Option.{option_map}
use Rattle.std.proofs.lemmas.Grind.{fold-append}
use Rattle.std.proofs.lemmas.List.Elements.{All-append, All-nil, All-tail}
use Rattle.inet_frame.specs.Fields.{TcpFields}
use Rattle.inet_frame.specs.declared.tuple.Tuple.{Tuple}
use Rattle.tcp_track.specs.Lines.{Item, has_ended, line, order, sent_of}
use Rattle.tcp_track.specs.Segments.{Symbol, syn}
use Rattle.tcp_track.specs.declared.openings.Opening.{Opening}
use Rattle.tcp_track.proofs.ResetLemmas.{refusal_stands}
use Rattle.settle_rules.specs.Matching.{BothLines}
use Rattle.settle_rules.specs.Numbers.{KeptNumber, is_number_of, keep_number, kept_number, number_or_zero}
use Rattle.settle_rules.specs.Progress.{progress_of}
use Rattle.settle_rules.specs.Release.{Released, bytes_in, release_refusal, release_reset, release_symbols, segment_at, syn_ack, syn_segments}
use Rattle.settle_rules.specs.Survive.{Survival, lone_lines, survive, survive_line, survive_tuple, survivor_out, survivor_progress}
use Rattle.pair_theorem.specs.Past.{Past, Start}
use Rattle.pair_theorem.specs.Places as places
use Rattle.pair_theorem.specs.Places.{current_client, places_after, shown_number}
use Rattle.theorem_frames.specs.Lines.{IsSound}
use Rattle.theorem_frames.specs.Shapes.{AreSentInRange}
use Rattle.theorem_frames.proofs.BytesLemmas.{NumberFits, kept_fit}
use Rattle.theorem_frames.proofs.LineLemmas.{lines_are_sound_lem}
use Rattle.theorem_frames.proofs.PromptLemmas.{found_fits}
use Rattle.theorem_frames.proofs.RangeLemmas.{OpeningFits, opening_fits}
use Rattle.theorem_stands.proofs.KindLemmas.{IsOutOf, IsPartOf, refusal_kinds, reset_kinds, symbol_kinds, syn_first, syn_kinds}
use Rattle.theorem_symbols.specs.Shown.{SynsAreShown}
use Rattle.theorem_symbols.proofs.NumberShown.{first_number_shown, numbers_stay, refusal_number}
use Rattle.theorem_symbols.proofs.PlaceLemmas.{LineStands, PlaceRight, RefusedStands, first_right, number_after, refused_right, right_append}
use Rattle.theorem_symbols.proofs.SettleRight.{line_stands, put_shown}

-- ONE LINE: SYN, symbols and a reset, and then a refusal
abbrev lone_rest : BothLines → List Released
lone_rest b =
    release_symbols b (max 1 b.mine.base) (length b.mine.symbols)
    ++ release_reset b (length b.mine.symbols) b.mine.reset

abbrev lone_first : BothLines → Released
lone_first b = segment_at b 0 syn_ack (Some (min b.mine.mss b.theirs.mss)) []

lone_kinds : (b : BothLines) → IsSound b.mine → is_some b.mine.opening ≡ true →
    All (IsOutOf b) (lone_first b ∷ lone_rest b)
lone_kinds b sound is =
    let part : IsPartOf b.mine.symbols 0 (syn ∷ []) =
    subst (λ (ys : List Symbol). IsPartOf ys 0 (syn ∷ [])) (sym (sound.opened is))
    (syn_first (bytes_in b.mine.symbols) (has_ended b.mine.symbols)) in
    let symbols = release_symbols b (max 1 b.mine.base) (length b.mine.symbols) in
    let resets = release_reset b (length b.mine.symbols) b.mine.reset in
    All-append (IsOutOf b) (syn_segments b true) (symbols ++ resets) (syn_kinds b part)
    (All-append (IsOutOf b) symbols resets
    (symbol_kinds b (max 1 b.mine.base) (length b.mine.symbols) sound)
    (reset_kinds b (length b.mine.symbols) b.mine.reset (λ e. e)))

lone_out : (b : BothLines) →
    survivor_out b ≡ (lone_first b ∷ lone_rest b) ++ release_refusal b b.mine.refused (is_some b.mine.refused)
unfolding survivor_out
lone_out b = refl

lone_number : (b : BothLines) (n : Option ℕ) → b.number < 2 ^ 32 → All (IsOutOf b) (lone_first b ∷ lone_rest b) →
    fold (places.shown_after b.tuple) n (survivor_out b) ≡ Some b.number
lone_number b n small kinds =
    let refusal = release_refusal b b.mine.refused (is_some b.mine.refused) in
    let plain = lone_first b ∷ lone_rest b in
    ap (λ (rs : List Released). fold (places.shown_after b.tuple) n rs) (lone_out b)
    ∙ (fold-append (places.shown_after b.tuple) n plain refusal
    ∙ (refusal_number b b.mine.refused (is_some b.mine.refused) b.tuple (fold (places.shown_after b.tuple) n plain)
    ∙ (ap (λ (m : Option ℕ). fold (places.shown_after b.tuple) m (lone_rest b))
    (first_number_shown b (Some (min b.mine.mss b.theirs.mss)) n small)
    ∙ numbers_stay b (lone_rest b) small (All-tail (IsOutOf b) (lone_first b) (lone_rest b) kinds))))

lone_right : (a : Start) (past : Past) (released : List Released) (sent : List TcpFields) (b : BothLines)
    (client : ℕ) → b.number < 2 ^ 32 → IsSound b.mine → LineStands sent b client → RefusedStands sent b →
    current_client past b.tuple ≡ Some client → All (IsOutOf b) (lone_first b ∷ lone_rest b) →
    All (PlaceRight sent) (places_after a past released (survivor_out b))
lone_right a past released sent b client small sound h refused now kinds =
    let plain = lone_first b ∷ lone_rest b in
    let due = is_some b.mine.refused in
    subst (λ (rs : List Released). All (PlaceRight sent) (places_after a past released rs)) (sym (lone_out b))
    (right_append a past sent released plain (release_refusal b b.mine.refused due)
    (first_right a past released sent b client (Some (min b.mine.mss b.theirs.mss)) (lone_rest b) small sound h refused
    now kinds)
    (refused_right a past (released ++ plain) sent b due refused))

-- ALL LINES
record SurvivedSoFar (a : Start) (past : Past) (released : List Released) (items : List Item)
    (x : Survival) : Type 0 where
  fit : All NumberFits x.numbers
  shown : SynsAreShown a (released ++ x.out) x.progress
  right : All (PlaceRight (sent_of items)) (places_after a past released x.out)

unopened_right : (a : Start) (past : Past) (released : List Released) (items : List Item) (x : Survival) (t : Tuple) →
    SurvivedSoFar a past released items x →
    SurvivedSoFar a past released items (survive_line x t (line t items) None)
unfolding survive_line
unopened_right a past released items x t h =
    let b = lone_lines t (line t items) 0 in
    let due = is_some b.mine.refused in
    let refusal = release_refusal b b.mine.refused due in
    record {
      fit = h.fit;
      shown = λ u o e.
          ap (λ (rs : List Released). shown_number a u rs) (sym (append_assoc released x.out refusal))
          ∙ (number_after a u (released ++ x.out) refusal
          ∙ (refusal_number b b.mine.refused due u (shown_number a u (released ++ x.out)) ∙ h.shown u o e));
      right = right_append a past (sent_of items) released x.out refusal h.right
          (refused_right a past (released ++ x.out) (sent_of items) b due
          (λ client e. refusal_stands items t client e));
    }

opened_right : (a : Start) (past : Past) (released : List Released) (items : List Item) (x : Survival) (t : Tuple)
    (o : Opening) → AreSentInRange items →
    ((u : Tuple) → current_client past u ≡ option_map (λ (q : Opening). q.client) (line u items).opening) →
    (line t items).opening ≡ Some o → SurvivedSoFar a past released items x →
    SurvivedSoFar a past released items (survive_line x t (line t items) (Some o))
unfolding survive_line
opened_right a past released items x t o range now e h =
    let numbers = keep_number t o.client o.own true x.numbers in
    let own = (subst OpeningFits e (opening_fits items t range)).1 in
    let fit = kept_fit t o.client o.own true x.numbers own h.fit in
    let number = number_or_zero (kept_number t o.client numbers) in
    let small = found_fits (is_number_of t o.client) numbers fit in
    let b = lone_lines t (line t items) number in
    let sound = lines_are_sound_lem items t in
    let kinds = lone_kinds b sound (ap (λ (p : Option Opening). is_some p) e) in
    let due = is_some b.mine.refused in
    let all = All-append (IsOutOf b) (lone_first b ∷ lone_rest b) (release_refusal b b.mine.refused due) kinds
    (refusal_kinds b due) in
    record {
      fit = fit;
      shown = put_shown a released x.out (survivor_out b) b (progress_of t x.progress) (survivor_progress b o)
          x.progress refl
          (subst (All (IsOutOf b)) (sym (lone_out b)) all)
          (λ n f q g. lone_number b n small kinds ∙ ap (option_map (λ (r : Opening). r.own)) g) h.shown;
      right = right_append a past (sent_of items) released x.out (survivor_out b) h.right
          (lone_right a past (released ++ x.out) (sent_of items) b o.client small sound
          (line_stands items t (line t items) number true o range e)
          (λ client f. refusal_stands items t client f)
          (now t ∙ ap (option_map (λ (q : Opening). q.client)) e) kinds);
    }

line_right : (a : Start) (past : Past) (released : List Released) (items : List Item) (x : Survival) (t : Tuple)
    (o : Option Opening) → AreSentInRange items →
    ((u : Tuple) → current_client past u ≡ option_map (λ (q : Opening). q.client) (line u items).opening) →
    (line t items).opening ≡ o → SurvivedSoFar a past released items x →
    SurvivedSoFar a past released items (survive_line x t (line t items) o)
line_right a past released items x t None range now e h = unopened_right a past released items x t h
line_right a past released items x t (Some o) range now e h =
    opened_right a past released items x t o range now e h

survive_all : (a : Start) (past : Past) (released : List Released) (items : List Item) (x : Survival)
    (tuples : List Tuple) → AreSentInRange items →
    ((u : Tuple) → current_client past u ≡ option_map (λ (q : Opening). q.client) (line u items).opening) →
    SurvivedSoFar a past released items x →
    SurvivedSoFar a past released items (fold (survive_tuple items) x tuples)
unfolding survive_tuple
survive_all a past released items x [] range now h = h
survive_all a past released items x (t ∷ tuples) range now h =
    survive_all a past released items (survive_tuple items x t) tuples range now
    (line_right a past released items x t (line t items).opening range now refl h)

-- what is shown of a report
pub record SurvivalStands (a : Start) (past : Past) (released : List Released) (items : List Item)
    (x : Survival) : Type 0 where
  pub shown : SynsAreShown a (released ++ x.out) x.progress
  pub right : All (PlaceRight (sent_of items)) (places_after a past released x.out)

pub survive_right : (a : Start) (past : Past) (released : List Released) (items : List Item)
    (numbers : List KeptNumber) → All NumberFits numbers → AreSentInRange items →
    ((u : Tuple) → current_client past u ≡ option_map (λ (q : Opening). q.client) (line u items).opening) →
    SurvivalStands a past released items (survive items numbers (order items))
unfolding survive places_after
survive_right a past released items numbers fit range now =
    let all =
    survive_all a past released items (record { numbers = numbers; progress = []; out = [] }) (order items) range now
    (record { fit = fit; shown = λ t o e. absurd (cc e); right = All-nil (PlaceRight (sent_of items)) }) in
    record { shown = all.shown; right = all.right }
