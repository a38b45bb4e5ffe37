-- While a checkpoint is awaited the primary is at its capture, but for trims: every event keeps it, where at most one
-- node stops.
use Rattle.std.proofs.Common.{◌≡◌, ◌+◌, ◌&&◌, not, Bool, true, false, List, refl, sym, ap, ◌∙◌, true≢false}
use Rattle.std.proofs.lemmas.Bool.{and_parts}
use Rattle.tcp_track.specs.Lines.{sent_of}
use Rattle.frame_mirror.specs.declared.ring.Waiting.{Waiting}
use Rattle.colo_wire.specs.declared.messages.Message.{Message}
use Rattle.colo_wire.specs.declared.messages.Message.TheVariants.{Known, Sent}
use Rattle.pair_theorem.specs.Checkpoint.{capture}
use Rattle.pair_theorem.specs.ClientFrames.{trims_by}
use Rattle.pair_theorem.specs.Events.{accept_by, hear_frame, is_ack_message, numbers_of, primary_hears, secondary_hears, secondary_survives, turn_secondary}
use Rattle.pair_theorem.specs.GuestTurns.{turn_from}
use Rattle.pair_theorem.specs.Past.{Copy, Past, Start, Step, is_primary_stop}
use Rattle.pair_theorem.proofs.EachHistory.{Fits, Keeps, Reached, each_history}
use Rattle.pair_theorem.proofs.EventCases.{Cases}
use Rattle.pair_theorem.proofs.MessageCases.{heard_back_case, heard_case}
use Rattle.theorem_runs.specs.Links.{IsPaused}
use Rattle.theorem_runs.proofs.Checkpoints.{not_awaiting, sent_of-trims}
use Rattle.theorem_runs.proofs.Lone.{lone_links}
use Rattle.theorem_runs.proofs.Settled.{ack_settled, known_settled, left_settled, primary_settled, sent_settled, survivor_settled}

abbrev pub Pauses : List Step → Past → Type 0
Pauses steps past = past.awaits_ack ≡ true → IsPaused past

none_awaited : (past : Past) → past.awaits_ack ≡ false → past.awaits_ack ≡ true → IsPaused past
none_awaited past e f = absurd (true≢false (sym f ∙ e))

captured_pauses : (past : Past) → IsPaused (capture past)
unfolding capture
captured_pauses past = record { turns = refl; run = refl; said = refl; numbers = refl }

same_pauses : (past after : Past) → after.awaits_ack ≡ past.awaits_ack → after.primary.turns ≡ past.primary.turns
    → after.primary.run ≡ past.primary.run → sent_of after.primary.items ≡ sent_of past.primary.items
    → after.numbers ≡ past.numbers → after.copy ≡ past.copy → (past.awaits_ack ≡ true → IsPaused past)
    → after.awaits_ack ≡ true → IsPaused after
same_pauses past after w t r s n c h e =
    let g = h (sym w ∙ e) in
    record {
      turns = t ∙ (g.turns ∙ ap (λ (k : Copy). k.run.turns) (sym c));
      run = r ∙ (g.run ∙ ap (λ (k : Copy). k.run.run) (sym c));
      said = s ∙ (g.said ∙ ap (λ (k : Copy). sent_of k.run.items) (sym c));
      numbers = n ∙ (g.numbers ∙ ap (λ (k : Copy). k.numbers) (sym c));
    }

accepted_pauses : (b : Bool) (past : Past) (w : Waiting) → (past.awaits_ack ≡ true → IsPaused past)
    → (accept_by b past w (trims_by w)).awaits_ack ≡ true → IsPaused (accept_by b past w (trims_by w))
unfolding accept_by
accepted_pauses true past w h = same_pauses past (accept_by true past w (trims_by w)) refl refl refl refl refl refl h
accepted_pauses false past w h =
    same_pauses past (accept_by false past w (trims_by w)) refl refl refl (sent_of-trims past.primary.items w)
    refl refl h

heard_pauses : (past : Past) (m : Message) → (past.awaits_ack ≡ true → IsPaused past)
    → (secondary_hears past m).after.awaits_ack ≡ true → IsPaused (secondary_hears past m).after
unfolding hear_frame
heard_pauses past m h =
    heard_case (λ o. o.after.awaits_ack ≡ true → IsPaused o.after) past m
    (λ index seen trim frame is e.
    (record { turns = (h e).turns; run = (h e).run; said = (h e).said; numbers = (h e).numbers }))
    (λ t client number is e.
    (record { turns = (h e).turns; run = (h e).run; said = (h e).said; numbers = (h e).numbers }))
    (λ n is e. (record { turns = (h e).turns; run = (h e).run; said = (h e).said; numbers = (h e).numbers }))
    (λ apart. h)

back_pauses : (past : Past) (m : Message) → (past.awaits_ack && not (is_ack_message m)) ≡ false
    → (past.awaits_ack ≡ true → IsPaused past) → (primary_hears past m).after.awaits_ack ≡ true
    → IsPaused (primary_hears past m).after
back_pauses past m idle h =
    heard_back_case (λ o. o.after.awaits_ack ≡ true → IsPaused o.after) past m
    (λ t client number is. let free = not_awaiting past m (Known t client number) idle is refl in
    known_settled (λ step after. after.awaits_ack ≡ true → IsPaused after) past t client number past.sent_heard
    (λ out ns ps new e. absurd (true≢false (sym e ∙ free))) (λ out ns ps new why k e. captured_pauses _))
    (λ frame is. let free = not_awaiting past m (Sent frame) idle is refl in
    sent_settled (λ step after. after.awaits_ack ≡ true → IsPaused after) past frame (past.sent_heard + 1)
    (λ out ns ps new e. absurd (true≢false (sym e ∙ free))) (λ out ns ps new why k e. captured_pauses _))
    (λ n is. ack_settled (λ step after. after.awaits_ack ≡ true → IsPaused after) past n
    (λ out ns ps new e. absurd (true≢false (sym e))) (λ out ns ps new why k e. captured_pauses _))
    (λ foreign. h)

pause_cases : (a : Start) → Cases a.kind a.stream (Keeps Fits a Pauses)
unfolding secondary_survives turn_secondary
pause_cases a = record {
  idle = λ past x e f steps r fits h. h;
  primary_turn =
      λ past d i b n e f steps r fits h.
      primary_settled (λ step after. after.awaits_ack ≡ true → IsPaused after) past d i b n
      (turn_from a.kind past.primary past.primary_inbox i (numbers_of d b n))
      (λ out ns ps new g. absurd (true≢false (sym g ∙ f))) (λ out ns ps new why alone g. captured_pauses _);
  secondary_turn =
      λ past d i b n e f steps r fits h g. (record {
        turns = (h g).turns;
        run = (h g).run;
        said = (h g).said;
        numbers = (h g).numbers;
      });
  survivor_turn =
      λ past d i b n e steps r fits h.
      let reported = (and_parts (is_primary_stop past.stop) past.is_reported e).1 in
      survivor_settled (λ step after. after.awaits_ack ≡ true → IsPaused after) past d i b n
      (turn_from a.kind past.secondary past.secondary_inbox i (numbers_of d b n))
      (λ out ns ps new g. absurd (true≢false (sym g ∙ (lone_links a steps past r).awaits reported)))
      (λ out ns ps new why alone g. captured_pauses _);
  accepts = λ past frame kept t e f steps r fits h. accepted_pauses (is_primary_stop past.stop) past _ h;
  is_full =
      λ past frame kept t e f steps r fits h g. (record {
        turns = (h g).turns;
        run = (h g).run;
        said = (h g).said;
        numbers = (h g).numbers;
      });
  answers =
      λ past frame b t e steps r fits h g. (record {
        turns = (h g).turns;
        run = (h g).run;
        said = (h g).said;
        numbers = (h g).numbers;
      });
  drops =
      λ past frame why t e steps r fits h g. (record {
        turns = (h g).turns;
        run = (h g).run;
        said = (h g).said;
        numbers = (h g).numbers;
      });
  loses =
      λ past frame t e f steps r fits h g. (record {
        turns = (h g).turns;
        run = (h g).run;
        said = (h g).said;
        numbers = (h g).numbers;
      });
  secondary_hears =
      λ past m ms e f g steps r fits h. heard_pauses (record past { to_secondary = ms }) m
      (λ k. (record { turns = (h k).turns; run = (h k).run; said = (h k).said; numbers = (h k).numbers }));
  ignores =
      λ past m ms e f g running alone steps r fits h k. (record {
        turns = (h k).turns;
        run = (h k).run;
        said = (h k).said;
        numbers = (h k).numbers;
      });
  primary_hears =
      λ past m ms e f running alone steps r fits h. back_pauses (record past { to_primary = ms }) m f
      (λ k. (record { turns = (h k).turns; run = (h k).run; said = (h k).said; numbers = (h k).numbers }));
  primary_stops =
      λ past steps r fits h g. (record {
        turns = (h g).turns;
        run = (h g).run;
        said = (h g).said;
        numbers = (h g).numbers;
      });
  secondary_stops =
      λ past steps r fits h g. (record {
        turns = (h g).turns;
        run = (h g).run;
        said = (h g).said;
        numbers = (h g).numbers;
      });
  secondary_left = λ past e steps r fits h g. absurd (true≢false (sym g));
  primary_left =
      λ past e steps r fits h. left_settled (λ step after. after.awaits_ack ≡ true → IsPaused after) past
      (λ out ns ps new g. absurd (true≢false (sym g)));
  asks = λ past e f g steps r fits h k. captured_pauses past;
}

pub is_paused : (a : Start) (steps : List Step) (past : Past) → Reached Fits a steps past → past.awaits_ack ≡ true
    → IsPaused past
is_paused a = each_history Fits a Pauses (λ e. absurd (true≢false (sym e))) (pause_cases a)
