-- The turns of both nodes, and of the last capture, are those that the log's marks cut.
use Rattle.std.proofs.Common.{◌≡◌, ℕ, ◌+◌, ◌==◌, Bool, true, false, List, [], ◌∷◌, ◌++◌, append_assoc, append-nil, find, fold, Option, Some, refl, sym, ap, subst, ◌∙◌, eq-eqb, true≢false, ◌&&◌}
use Rattle.std.proofs.lemmas.Bool.{cond-true}
use Rattle.std.proofs.lemmas.Grind.{fold-append}
use Rattle.std.proofs.lemmas.List.{map-append}
use Rattle.settle_rules.specs.Numbers.{KeptNumber}
use Rattle.settle_rules.specs.Progress.{ProgressTable}
use Rattle.state_wire.specs.Guest.{Kind}
use Rattle.frame_mirror.specs.declared.ring.Waiting.{Waiting}
use Rattle.colo_wire.specs.declared.messages.Message.{Message}
use Rattle.colo_wire.specs.declared.messages.Message.TheVariants.{End}
use Rattle.replay_log.specs.declared.lines.Line.{Line}
use Rattle.replay_log.specs.declared.lines.Line.TheVariants.{Primary, Secondary, Client, ToSecondary, ToPrimary, StopPrimary, StopSecondary, Report, Ask}
use Rattle.replay_log.specs.declared.records.Answer.TheVariants.{Nothing}
use Rattle.replay_log.specs.declared.records.Record.{Record}
use Rattle.splice_run.specs.Single.{Cut, cut_after, cut_of, no_cut, turns_at, turns_of}
use Rattle.splice_run.specs.Tokens.{Taken, Token, by_primary, by_secondary, captures, commits, record_tokens, tokens}
use Rattle.pair_theorem.specs.Checkpoint.{capture, next_capture}
use Rattle.pair_theorem.specs.ClientFrames.{trims_by}
use Rattle.pair_theorem.specs.Events.{accept_by, acknowledge, hear_end, hear_frame, hear_number, numbers_of, secondary_hears, primary_hears, secondary_survives, turn_primary, turn_secondary, turn_survivor}
use Rattle.pair_theorem.specs.GuestTurns.{TurnMade, TurnNumbers, add_turn, taken_turn, turn_from, turn_if, turn_with, turn_without}
use Rattle.pair_theorem.specs.History.{entries}
use Rattle.pair_theorem.specs.Messages.{waiting_in}
use Rattle.pair_theorem.specs.Past.{Copy, NodeRun, Past, Start, Step, is_primary_stop}
use Rattle.pair_theorem.proofs.EachHistory.{Keeps, Reached, each_history}
use Rattle.pair_theorem.proofs.EventCases.{Cases}
use Rattle.pair_theorem.proofs.MessageCases.{heard_back_case, heard_case}
use Rattle.theorem_runs.specs.Links.{IsBeside, IsPart}
use Rattle.theorem_runs.specs.Runs.{AreCut, IsCutBy}
use Rattle.theorem_runs.proofs.Checkpoints.{HeardFirst, beside, ends, number_in_end, one_checkpoint, part, pop_down}
use Rattle.theorem_runs.proofs.Settled.{ack_settled, known_base, known_settled, left_settled, primary_base, primary_settled, secondary_base, sent_base, sent_settled, survivor_settled, told_past}

-- ONE RECORD MORE
tokens-push : (log : List Record) (r : Record) → tokens (log ++ r ∷ []) ≡ tokens log ++ record_tokens r
tokens-push [] r = append-nil (record_tokens r)
tokens-push (q ∷ log) r =
    ap (λ (ts : List Token). record_tokens q ++ ts) (tokens-push log r)
    ∙ sym (append_assoc (record_tokens q) (tokens log) (record_tokens r))

pub entries-push : (steps : List Step) (s : Step) → entries (steps ++ s ∷ []) ≡ entries steps ++ s.entry ∷ []
entries-push steps s = map-append (λ (t : Step). t.entry) steps (s ∷ [])

cut-push : (steps : List Step) (s : Step) → cut_of (tokens (entries (steps ++ s ∷ [])))
    ≡ fold cut_after (cut_of (tokens (entries steps))) (record_tokens s.entry)
cut-push steps s =
    ap (λ (log : List Record). cut_of (tokens log)) (entries-push steps s)
    ∙ (ap (λ (ts : List Token). cut_of ts) (tokens-push (entries steps) s.entry)
    ∙ fold-append cut_after no_cut (tokens (entries steps)) (record_tokens s.entry))

-- what an event makes of a cut
abbrev Cuts : Past → Step → Past → Type 0
Cuts past s after = (c : Cut) → IsCutBy past c → IsCutBy after (fold cut_after c (record_tokens s.entry))

same_cut : (past after : Past) (c : Cut) → after.primary.turns ≡ past.primary.turns
    → after.secondary.turns ≡ past.secondary.turns → after.awaits_ack ≡ past.awaits_ack
    → after.captures ≡ past.captures → after.copy ≡ past.copy → IsCutBy past c → IsCutBy after c
same_cut past after c p s a n k h = record {
  primary = h.primary ∙ sym p;
  secondary = h.secondary ∙ sym s;
  copy = λ e. ap (λ (m : ℕ). turns_at m c.copies) n
      ∙ (h.copy (sym a ∙ e) ∙ ap (λ (x : Copy). x.run.turns) (sym k));
}

-- and where no checkpoint is awaited any more
none_awaited : (past after : Past) (c : Cut) → after.primary.turns ≡ past.primary.turns
    → after.secondary.turns ≡ past.secondary.turns → after.awaits_ack ≡ false → IsCutBy past c → IsCutBy after c
none_awaited past after c p s a h = record {
  primary = h.primary ∙ sym p;
  secondary = h.secondary ∙ sym s;
  copy = λ e. absurd (true≢false (sym e ∙ a));
}

idle_tokens : (x : Line) → record_tokens (record { line = x; answer = Nothing; marks = [] }) ≡ []
idle_tokens (Primary d i b n) = refl
idle_tokens (Secondary d i b n) = refl
idle_tokens Client = refl
idle_tokens ToSecondary = refl
idle_tokens ToPrimary = refl
idle_tokens StopPrimary = refl
idle_tokens StopSecondary = refl
idle_tokens Report = refl
idle_tokens Ask = refl

-- A TURN adds itself to the turns of its node
pub took_turn : (kind : Kind) (node : NodeRun) (inbox : List Waiting) (takes : Bool) (n : TurnNumbers)
    → (turn_from kind node inbox takes n).run.turns
    ≡ node.turns ++ taken_turn n (turn_from kind node inbox takes n).index ∷ []
unfolding turn_from turn_if turn_with turn_without add_turn
took_turn kind node [] takes n = refl
took_turn kind node (w ∷ inbox) takes n = by (takes && kind.can_receive node.run.state)
  where
    by : (b : Bool) → (turn_if b kind node w inbox n).run.turns
        ≡ node.turns ++ taken_turn n (turn_if b kind node w inbox n).index ∷ []
    by true = refl
    by false = refl

-- A CAPTURE
fresh_copy : (e : ℕ) (turns : List Taken) (copies : List (ℕ × List Taken)) → turns_at e ((e, turns) ∷ copies) ≡ turns
fresh_copy e turns copies =
    ap (λ (o : Option (ℕ × List Taken)). turns_of o)
    (cond-true (e == e) (Some (e, turns)) (find (λ (c : ℕ × List Taken). c.0 == e) copies) (eq-eqb e e refl))

captured_cut : (past : Past) (c : Cut) → IsCutBy past c
    → IsCutBy (capture past) (cut_after c (captures (next_capture past)))
unfolding capture
captured_cut past c h = record {
  primary = h.primary;
  secondary = h.secondary;
  copy = λ e. fresh_copy (next_capture past) c.primary c.copies ∙ h.primary;
}

-- an event that settles, whose line and answer say these tokens
none_cut : (base : Past) (c : Cut) (ns : List KeptNumber) (ps : ProgressTable) (new : List KeptNumber)
    → IsCutBy base c → IsCutBy (told_past base ns ps new) c
none_cut base c ns ps new h = record { primary = h.primary; secondary = h.secondary; copy = h.copy }

primary_cut : (past : Past) (d : ℕ) (i : Bool) (b n : ℕ) (made : TurnMade)
    → made.run.turns ≡ past.primary.turns ++ taken_turn (numbers_of d b n) made.index ∷ []
    → Cuts past (turn_primary past (Primary d i b n) made).step (turn_primary past (Primary d i b n) made).after
primary_cut past d i b n made e c h =
    let t = taken_turn (numbers_of d b n) made.index in
    let base = primary_base past made in
    let turned : IsCutBy base (cut_after c (by_primary t)) = record {
      primary = ap (λ (ts : List Taken). ts ++ t ∷ []) h.primary ∙ sym e;
      secondary = h.secondary;
      copy = h.copy;
    } in
    primary_settled (λ step after. IsCutBy after (fold cut_after c (record_tokens step.entry))) past d i b n made
    (λ out ns ps new. none_cut base (cut_after c (by_primary t)) ns ps new turned)
    (λ out ns ps new why alone. captured_cut (told_past base ns ps new) (cut_after c (by_primary t))
    (none_cut base (cut_after c (by_primary t)) ns ps new turned))

survivor_cut : (past : Past) (d : ℕ) (i : Bool) (b n : ℕ) (made : TurnMade)
    → made.run.turns ≡ past.secondary.turns ++ taken_turn (numbers_of d b n) made.index ∷ []
    → Cuts past (turn_survivor past (Secondary d i b n) made).step (turn_survivor past (Secondary d i b n) made).after
survivor_cut past d i b n made e c h =
    let t = taken_turn (numbers_of d b n) made.index in
    let base = secondary_base past made in
    let turned : IsCutBy base (cut_after c (by_secondary t)) = record {
      primary = h.primary;
      secondary = ap (λ (ts : List Taken). ts ++ t ∷ []) h.secondary ∙ sym e;
      copy = h.copy;
    } in
    survivor_settled (λ step after. IsCutBy after (fold cut_after c (record_tokens step.entry))) past d i b n made
    (λ out ns ps new. none_cut base (cut_after c (by_secondary t)) ns ps new turned)
    (λ out ns ps new why alone. captured_cut (told_past base ns ps new) (cut_after c (by_secondary t))
    (none_cut base (cut_after c (by_secondary t)) ns ps new turned))

secondary_cut : (past : Past) (d : ℕ) (i : Bool) (b n : ℕ) (made : TurnMade)
    → made.run.turns ≡ past.secondary.turns ++ taken_turn (numbers_of d b n) made.index ∷ []
    → Cuts past (turn_secondary past (Secondary d i b n) made).step (turn_secondary past (Secondary d i b n) made).after
unfolding turn_secondary
secondary_cut past d i b n made e c h = record {
  primary = h.primary;
  secondary = ap (λ (ts : List Taken). ts ++ taken_turn (numbers_of d b n) made.index ∷ []) h.secondary ∙ sym e;
  copy = h.copy;
}

accepts_cut : (b : Bool) (past : Past) (w : Waiting) (c : Cut) → IsCutBy past c
    → IsCutBy (accept_by b past w (trims_by w)) c
unfolding accept_by
accepts_cut true past w c h = same_cut past (accept_by true past w (trims_by w)) c refl refl refl refl refl h
accepts_cut false past w c h = same_cut past (accept_by false past w (trims_by w)) c refl refl refl refl refl h

-- the End that is heard is that of the last capture
ended_cut : (past : Past) (m : Message) (ms : List Message) (n : ℕ) → m ≡ End n → HeardFirst past m ms → (c : Cut)
    → IsCutBy past c → IsCutBy (hear_end (record past { to_secondary = ms }) n) (cut_after c (commits n))
ended_cut past m ms n is (beside g one) c h = absurd (subst IsBeside is g)
ended_cut past m ms n is (part g one) c h = absurd (subst IsPart is g)
ended_cut past m ms n is (ends told later same end g) c h = record {
  primary = h.primary;
  secondary = ap (λ (k : ℕ). turns_at k c.copies) (sym (number_in_end past.captures n (sym same ∙ is)))
      ∙ h.copy g.awaits;
  copy = h.copy;
}

hears_cut : (past : Past) (m : Message) (ms : List Message) → HeardFirst past m ms
    → Cuts past (secondary_hears (record past { to_secondary = ms }) m).step
    (secondary_hears (record past { to_secondary = ms }) m).after
unfolding hear_frame
hears_cut past m ms first c h =
    let p : Past = record past { to_secondary = ms } in
    heard_case (λ o. IsCutBy o.after (fold cut_after c (record_tokens o.step.entry))) p m
    (λ index seen trim frame is. same_cut past (hear_frame p (waiting_in index seen trim frame)) c refl refl refl refl
    refl h)
    (λ t client number is. same_cut past (hear_number p t client number) c refl refl refl refl refl h)
    (λ n is. ended_cut past m ms n is first c h)
    (λ apart. same_cut past p c refl refl refl refl refl h)

back_cut : (past : Past) (m : Message) (ms : List Message)
    → Cuts past (primary_hears (record past { to_primary = ms }) m).step
    (primary_hears (record past { to_primary = ms }) m).after
back_cut past m ms c h =
    let p : Past = record past { to_primary = ms } in
    let here : IsCutBy p c = same_cut past p c refl refl refl refl refl h in
    heard_back_case (λ o. IsCutBy o.after (fold cut_after c (record_tokens o.step.entry))) p m
    (λ t client number is. let base = known_base p t client number in
    let now : IsCutBy base c = same_cut p base c refl refl refl refl refl here in
    known_settled (λ step after. IsCutBy after (fold cut_after c (record_tokens step.entry))) p t client number
    past.sent_heard (λ out ns ps new. none_cut base c ns ps new now)
    (λ out ns ps new why alone. captured_cut (told_past base ns ps new) c (none_cut base c ns ps new now)))
    (λ frame is. let base = sent_base p frame in
    let now : IsCutBy base c = same_cut p base c refl refl refl refl refl here in
    sent_settled (λ step after. IsCutBy after (fold cut_after c (record_tokens step.entry))) p frame
    (past.sent_heard + 1) (λ out ns ps new. none_cut base c ns ps new now)
    (λ out ns ps new why alone. captured_cut (told_past base ns ps new) c (none_cut base c ns ps new now)))
    (λ n is. let base = acknowledge p in
    let now : IsCutBy base c = none_awaited p base c refl refl refl here in
    ack_settled (λ step after. IsCutBy after (fold cut_after c (record_tokens step.entry))) p n
    (λ out ns ps new. none_cut base c ns ps new now)
    (λ out ns ps new why alone. captured_cut (told_past base ns ps new) c (none_cut base c ns ps new now)))
    (λ foreign. here)

-- EVERY EVENT
cut_with : (steps : List Step) (s : Step) (past after : Past) → Cuts past s after → AreCut steps past
    → AreCut (steps ++ s ∷ []) after
cut_with steps s past after cuts h =
    subst (λ (c : Cut). IsCutBy after c) (sym (cut-push steps s)) (cuts (cut_of (tokens (entries steps))) h)

cut_cases : (F : Past → Line → Type 0) (a : Start) → Cases a.kind a.stream (Keeps F a AreCut)
unfolding secondary_survives
cut_cases F a = record {
  idle =
      λ past x e f steps r fits h. cut_with steps _ past past
      (λ c g. subst (λ (ts : List Token). IsCutBy past (fold cut_after c ts)) (sym (idle_tokens x)) g) h;
  primary_turn =
      λ past d i b n e f steps r fits h.
      let made = turn_from a.kind past.primary past.primary_inbox i (numbers_of d b n) in
      cut_with steps _ past _ (primary_cut past d i b n made
      (took_turn a.kind past.primary past.primary_inbox i (numbers_of d b n))) h;
  secondary_turn =
      λ past d i b n e f steps r fits h.
      let made = turn_from a.kind past.secondary past.secondary_inbox i (numbers_of d b n) in
      cut_with steps _ past _ (secondary_cut past d i b n made
      (took_turn a.kind past.secondary past.secondary_inbox i (numbers_of d b n))) h;
  survivor_turn =
      λ past d i b n e steps r fits h.
      let made = turn_from a.kind past.secondary past.secondary_inbox i (numbers_of d b n) in
      cut_with steps _ past _ (survivor_cut past d i b n made
      (took_turn a.kind past.secondary past.secondary_inbox i (numbers_of d b n))) h;
  accepts =
      λ past frame kept t e f steps r fits h. cut_with steps _ past _
      (λ c g. accepts_cut (is_primary_stop past.stop) past _ c g) h;
  is_full =
      λ past frame kept t e f steps r fits h. cut_with steps _ past _
      (λ c g. same_cut past _ c refl refl refl refl refl g) h;
  answers =
      λ past frame b t e steps r fits h. cut_with steps _ past _
      (λ c g. same_cut past _ c refl refl refl refl refl g) h;
  drops =
      λ past frame why t e steps r fits h. cut_with steps _ past _
      (λ c g. same_cut past _ c refl refl refl refl refl g) h;
  loses =
      λ past frame t e f steps r fits h. cut_with steps _ past _
      (λ c g. same_cut past _ c refl refl refl refl refl g) h;
  secondary_hears =
      λ past m ms e f g steps r fits h. cut_with steps _ past _
      (hears_cut past m ms (pop_down past m ms e (one_checkpoint F a steps past r))) h;
  ignores =
      λ past m ms e f g running alone steps r fits h. cut_with steps _ past _
      (λ c k. same_cut past _ c refl refl refl refl refl k) h;
  primary_hears = λ past m ms e f running alone steps r fits h. cut_with steps _ past _ (back_cut past m ms) h;
  primary_stops =
      λ past steps r fits h. cut_with steps _ past _ (λ c g. same_cut past _ c refl refl refl refl refl g) h;
  secondary_stops =
      λ past steps r fits h. cut_with steps _ past _ (λ c g. same_cut past _ c refl refl refl refl refl g) h;
  secondary_left =
      λ past e steps r fits h. cut_with steps _ past _ (λ c g. none_awaited past _ c refl refl refl g) h;
  primary_left =
      λ past e steps r fits h. cut_with steps _ past _
      (λ c g. left_settled (λ step after. IsCutBy after (fold cut_after c (record_tokens step.entry))) past
      (λ out ns ps new. none_awaited past _ c refl refl refl g)) h;
  asks = λ past e f g steps r fits h. cut_with steps _ past _ (λ c k. captured_cut past c k) h;
}

pub are_cut : (F : Past → Line → Type 0) (a : Start) (steps : List Step) (past : Past) → Reached F a steps past
    → AreCut steps past
are_cut F a =
    each_history F a AreCut (record { primary = refl; secondary = refl; copy = λ e. absurd (true≢false (sym e)) })
    (cut_cases F a)
