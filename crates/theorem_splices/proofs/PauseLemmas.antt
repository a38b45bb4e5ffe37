-- While a checkpoint is awaited nothing of the guests goes out: each event, by its case.
use Rattle.std.proofs.Common.{◌≡◌, ◌+◌, ◌&&◌, not, Bool, true, false, List, [], ◌∷◌, refl, sym, ap, ◌∙◌, true≢false}
use Rattle.std.proofs.lemmas.Bool.{and_parts}
use Rattle.colo_wire.specs.declared.messages.Message.{Message}
use Rattle.colo_wire.specs.declared.messages.Message.TheVariants.{Known, Sent}
use Rattle.replay_log.specs.declared.lines.Line.{Line}
use Rattle.replay_log.specs.declared.records.Mark.{Mark}
use Rattle.pair_theorem.specs.Events.{is_ack_message, numbers_of, primary_hears, secondary_hears, secondary_survives, turn_secondary}
use Rattle.pair_theorem.specs.GuestTurns.{turn_from}
use Rattle.pair_theorem.specs.History.{pair_log}
use Rattle.pair_theorem.specs.Past.{Outcome, Past, Start, Step, is_primary_stop}
use Rattle.pair_theorem.proofs.EachHistory.{Fits, Reached, reached_log}
use Rattle.pair_theorem.proofs.EventCases.{Cases, each_case}
use Rattle.pair_theorem.proofs.MessageCases.{heard_back_case, heard_case}
use Rattle.theorem_runs.proofs.Checkpoints.{not_awaiting}
use Rattle.theorem_runs.proofs.Lone.{lone_links}
use Rattle.theorem_runs.proofs.Settled.{ack_settled, known_settled, left_settled, primary_settled, sent_settled, survivor_settled}
use Rattle.theorem_frames.proofs.EachEvent.{each_event}
use Rattle.theorem_splices.specs.Pause.{IsSilentAfter, IsSilentEvent, PauseIsSilent}

-- an event of a history is silent
abbrev pub Silent : Start → Past → Line → Outcome → Type 0
Silent a past x o = (steps : List Step) → Reached Fits a steps past → IsSilentAfter past o.step

some_mark : (x : Mark) (xs : List Mark) → (x ∷ xs) ≡ [] → true ≡ false
some_mark x xs e = ap (λ (ys : List Mark). has_some ys) e
  where
    has_some : List Mark → Bool
    has_some [] = false
    has_some (y ∷ ys) = true

heard_silent : (past : Past) (m : Message) (ms : List Message)
    → IsSilentAfter past (secondary_hears (record past { to_secondary = ms }) m).step
heard_silent past m ms =
    heard_case (λ o. IsSilentAfter past o.step) (record past { to_secondary = ms }) m
    (λ index seen trim frame is e r k. tt) (λ t client number is e r k. tt) (λ n is e r k. tt) (λ apart e r k. tt)

back_silent : (past : Past) (m : Message) (ms : List Message) → (past.awaits_ack && not (is_ack_message m)) ≡ false
    → IsSilentAfter past (primary_hears (record past { to_primary = ms }) m).step
back_silent past m ms idle =
    let p : Past = record past { to_primary = ms } in
    heard_back_case (λ o. IsSilentAfter past o.step) p m
    (λ t client number is. let free = not_awaiting past m (Known t client number) idle is refl in
    known_settled (λ step after. IsSilentAfter past step) p t client number past.sent_heard
    (λ out ns ps new e r k. absurd (true≢false (sym e ∙ free)))
    (λ out ns ps new why alone e r k. absurd (true≢false (sym e ∙ free))))
    (λ frame is. let free = not_awaiting past m (Sent frame) idle is refl in
    sent_settled (λ step after. IsSilentAfter past step) p frame (past.sent_heard + 1)
    (λ out ns ps new e r k. absurd (true≢false (sym e ∙ free)))
    (λ out ns ps new why alone e r k. absurd (true≢false (sym e ∙ free))))
    (λ n is. ack_settled (λ step after. IsSilentAfter past step) p n
    (λ out ns ps new e r k. absurd (true≢false (some_mark _ _ k)))
    (λ out ns ps new why alone e r k. absurd (true≢false (some_mark _ _ k))))
    (λ foreign e r k. tt)

silent_cases : (a : Start) → Cases a.kind a.stream (Silent a)
unfolding secondary_survives turn_secondary
silent_cases a = record {
  idle = λ past x e f steps r w q k. tt;
  primary_turn =
      λ past d i b n e f steps r. primary_settled (λ step after. IsSilentAfter past step) past d i b n
      (turn_from a.kind past.primary past.primary_inbox i (numbers_of d b n))
      (λ out ns ps new w q k. absurd (true≢false (sym w ∙ f)))
      (λ out ns ps new why alone w q k. absurd (true≢false (sym w ∙ f)));
  secondary_turn = λ past d i b n e f steps r w q k. tt;
  survivor_turn =
      λ past d i b n e steps r.
      let free = (lone_links a steps past r).awaits (and_parts (is_primary_stop past.stop) past.is_reported e).1 in
      survivor_settled (λ step after. IsSilentAfter past step) past d i b n
      (turn_from a.kind past.secondary past.secondary_inbox i (numbers_of d b n))
      (λ out ns ps new e r k. absurd (true≢false (sym e ∙ free)))
      (λ out ns ps new why alone e r k. absurd (true≢false (sym e ∙ free)));
  accepts = λ past frame kept t e f steps r w q k. tt;
  is_full = λ past frame kept t e f steps r w q k. tt;
  answers = λ past frame b t e steps r w q k. (tt, tt);
  drops = λ past frame why t e steps r w q k. tt;
  loses = λ past frame t e f steps r w q k. tt;
  secondary_hears = λ past m ms e f g steps r. heard_silent past m ms;
  ignores = λ past m ms e f g running alone steps r w q k. tt;
  primary_hears = λ past m ms e f running alone steps r. back_silent past m ms f;
  primary_stops = λ past steps r w q k. tt;
  secondary_stops = λ past steps r w q k. tt;
  secondary_left = λ past e steps r w q k. absurd (true≢false q);
  primary_left =
      λ past e steps r. left_settled (λ step after. IsSilentAfter past step) past
      (λ out ns ps new w q k. absurd (true≢false q));
  asks = λ past e f g steps r w q k. absurd (true≢false (sym w ∙ e));
}

pub pause_holds : PauseIsSilent
pause_holds a lines one =
    each_event Fits a IsSilentEvent
    (λ steps past x r fits. each_case a.kind a.stream (Silent a) (silent_cases a) past x steps r)
    (pair_log a lines) _ (reached_log a lines one)
