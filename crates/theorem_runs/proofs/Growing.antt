-- A log that grows: what it says of a frame stays, and of a frame that has not come it says nothing.
use Rattle.std.proofs.Common.{◌≡◌, ℕ, ◌==◌, Bool, true, false, List, [], ◌∷◌, ◌++◌, map, Option, None, Some, refl, sym, ap, subst, ◌∙◌, true≢false}
use Rattle.std.specs.Prelude.{IfSome, IsSome, if◌then◌else◌}
use Rattle.tcp_track.specs.declared.openings.Opening.{Opening}
use Rattle.replay_log.specs.declared.records.Record.{Record}
use Rattle.splice_run.specs.declared.seen.ClientFrame.{ClientFrame}
use Rattle.splice_run.specs.Frames.{client_frame, frame_with, seen_before, seen_first, seen_in, taken_frame, turn_with}
use Rattle.splice_run.specs.Tokens.{Taken}
use Rattle.splice_run.proofs.FrameLemmas.{seen_push}
use Rattle.theorem_runs.specs.Runs.{AreTurnsTold}

-- what one event says of a frame, before later ones
first_says : (f : Option ClientFrame) (i : ℕ) (s : Option Opening) (rest more : Option (Option Opening))
    → (rest ≡ Some s → more ≡ Some s) → seen_first f i rest ≡ Some s → seen_first f i more ≡ Some s
first_says None i s rest more h e = h e
first_says (Some f) i s rest more h e = by (f.index == i) e
  where
    by : (b : Bool) → (if b then Some f.seen else rest) ≡ Some s → (if b then Some f.seen else more) ≡ Some s
    by true e = e
    by false e = h e

stays_before : (log : List Record) (i : ℕ) (s : Option Opening) (later : Option (Option Opening))
    → seen_before log i None ≡ Some s → seen_before log i later ≡ Some s
stays_before [] i s later e = absurd (cc e)
stays_before (q ∷ log) i s later e =
    first_says (client_frame q) i s (seen_before log i None) (seen_before log i later)
    (λ f. stays_before log i s later f) e

first_says_none : (f : Option ClientFrame) (i : ℕ) (rest more later : Option (Option Opening))
    → (rest ≡ None → more ≡ later) → seen_first f i rest ≡ None → seen_first f i more ≡ later
first_says_none None i rest more later h e = h e
first_says_none (Some f) i rest more later h e = by (f.index == i) e
  where
    by : (b : Bool) → (if b then Some f.seen else rest) ≡ None → (if b then Some f.seen else more) ≡ later
    by true e = absurd (cc e)
    by false e = h e

none_before : (log : List Record) (i : ℕ) (later : Option (Option Opening)) → seen_before log i None ≡ None
    → seen_before log i later ≡ later
none_before [] i later e = refl
none_before (q ∷ log) i later e =
    first_says_none (client_frame q) i (seen_before log i None) (seen_before log i later) later
    (λ f. none_before log i later f) e

-- what was said stays
pub seen_stays : (log : List Record) (r : Record) (i : ℕ) (s : Option Opening) → seen_in log i ≡ Some s
    → seen_in (log ++ r ∷ []) i ≡ Some s
unfolding seen_in
seen_stays log r i s e =
    seen_push log r i None ∙ stays_before log i s (seen_first (client_frame r) i None) e

-- where nothing was said the new event says it
pub seen_new : (log : List Record) (r : Record) (i : ℕ) → seen_in log i ≡ None
    → seen_in (log ++ r ∷ []) i ≡ seen_first (client_frame r) i None
unfolding seen_in
seen_new log r i e = seen_push log r i None ∙ none_before log i (seen_first (client_frame r) i None) e

-- TURNS of which the log has the frames are the same turns by a longer log
said_still : (log : List Record) (r : Record) (i : ℕ) → IsSome (seen_in log i)
    → seen_in (log ++ r ∷ []) i ≡ seen_in log i
said_still log r i h = by (seen_in log i) refl h
  where
    by : (o : Option (Option Opening)) → seen_in log i ≡ o → IsSome o → seen_in (log ++ r ∷ []) i ≡ o
    by None e h = absurd (true≢false (sym h))
    by (Some s) e h = seen_stays log r i s e

frame_still : (log : List Record) (r : Record) (index : Option ℕ) → IfSome index (λ i. IsSome (seen_in log i))
    → taken_frame (seen_in (log ++ r ∷ [])) index ≡ taken_frame (seen_in log) index
frame_still log r None h = refl
frame_still log r (Some i) h = ap (λ (o : Option (Option Opening)). frame_with i o) (said_still log r i h)

pub turns_still : (log : List Record) (r : Record) (turns : List Taken) → AreTurnsTold log turns
    → map (turn_with (seen_in (log ++ r ∷ []))) turns ≡ map (turn_with (seen_in log)) turns
turns_still log r [] h = refl
turns_still log r (t ∷ turns) h =
    let here = frame_still log r t.index h.0 in
    let later = turns_still log r turns h.1 in
    λ i. (record { d = t.clock; frame = here i; b = t.blocks; n = t.steps }) ∷ later i

told_still : (log : List Record) (r : Record) (index : Option ℕ) → IfSome index (λ i. IsSome (seen_in log i))
    → IfSome index (λ i. IsSome (seen_in (log ++ r ∷ []) i))
told_still log r None h = tt
told_still log r (Some i) h = subst (λ (o : Option (Option Opening)). IsSome o) (sym (said_still log r i h)) h

pub turns_told : (log : List Record) (r : Record) (turns : List Taken) → AreTurnsTold log turns
    → AreTurnsTold (log ++ r ∷ []) turns
turns_told log r [] h = tt
turns_told log r (t ∷ turns) h = (told_still log r t.index h.0, turns_told log r turns h.1)
