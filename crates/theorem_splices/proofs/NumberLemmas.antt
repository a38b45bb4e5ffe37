-- The numbers across the link: each event keeps them alike, where at most one node stops.
use Rattle.std.proofs.Common.{◌≡◌, ℕ, ◌+◌, ◌&&◌, not, Bool, true, false, List, [], ◌∷◌, ◌++◌, map, Option, None, Some, refl, sym, ap, subst, ◌∙◌, true≢false}
use Rattle.std.proofs.lemmas.Bool.{and_parts, cond-false}
use Rattle.inet_frame.specs.declared.tuple.Tuple.{Tuple}
use Rattle.tcp_track.specs.Stands.{segments}
use Rattle.settle_rules.specs.Numbers.{KeptNumber}
use Rattle.settle_rules.specs.OwnFrames.{no_own_frames, own_frames}
use Rattle.settle_rules.specs.Progress.{ProgressTable}
use Rattle.frame_mirror.specs.declared.ring.Waiting.{Waiting}
use Rattle.colo_wire.specs.declared.messages.Message.{Message}
use Rattle.colo_wire.specs.declared.messages.Message.TheVariants.{Frame, Number, End, Known, Sent, Ack}
use Rattle.replay_log.specs.declared.lines.Line.{Line}
use Rattle.replay_log.specs.declared.lines.Line.TheVariants.{Primary, ToPrimary}
use Rattle.replay_log.specs.declared.records.Answer.{Answer}
use Rattle.replay_log.specs.declared.records.Answer.TheVariants.{HeardBack, Made}
use Rattle.replay_log.specs.declared.records.Mark.{Mark}
use Rattle.replay_log.specs.declared.records.Mark.TheVariants.{Acknowledged}
use Rattle.pair_theorem.specs.Checkpoint.{capture, checkpoint_messages}
use Rattle.pair_theorem.specs.ClientFrames.{trims_by}
use Rattle.pair_theorem.specs.Events.{Settling, accept_by, ack_ended, acknowledge, committed_items, ended_by, hear_end, hear_frame, is_ack_message, known_ended, no_frames, number_message, numbers_of, outcome_with, primary_ended, primary_hears, restarts_in, secondary_hears, secondary_survives, sent_ended, settle_event, turn_primary, turn_secondary}
use Rattle.pair_theorem.specs.GuestTurns.{turn_from}
use Rattle.pair_theorem.specs.Messages.{frame_message}
use Rattle.pair_theorem.specs.Past.{Outcome, Past, Start, Step, first_past, is_primary_stop}
use Rattle.pair_theorem.specs.Starts.{IsStart, boots}
use Rattle.pair_theorem.proofs.EachHistory.{Fits, Keeps, each_history, each_log}
use Rattle.pair_theorem.proofs.EventCases.{Cases, settled_case}
use Rattle.pair_theorem.proofs.MessageCases.{heard_back_case, heard_case}
use Rattle.theorem_runs.specs.Links.{IsBeside, IsCalm, IsPart, IsReply, copied_parts}
use Rattle.theorem_runs.specs.Runs.{has_end}
use Rattle.theorem_runs.proofs.Checkpoints.{HeardBackFirst, HeardFirst, ack_calm, acks, beside, beside_frames, calm_of, ends, not_awaiting, one_checkpoint, part, parts_are, pop_down, pop_up, replies, reply_calm}
use Rattle.theorem_runs.proofs.Orders.{beside_no_end}
use Rattle.theorem_runs.proofs.Pausing.{is_paused}
use Rattle.theorem_runs.proofs.Settled.{known_base, left_settled, primary_base, sent_base, survivor_settled, told_past}
use Rattle.theorem_splices.specs.Numbers.{AgreeOnNumbers, AreAcross, AreNewAfter, NumbersAgree, numbers_on, plain_numbers}
use Rattle.theorem_splices.proofs.NumberLinks.{ack_across, apart_across, capture_across, commit_across, frames_hold_no_number, mine_alike, more_beside, more_numbers, number_across}
use Rattle.theorem_splices.proofs.NumberSteps.{all_learned_plain, learned_plain, own_adds}

abbrev Agree : List Step → Past → Type 0
Agree steps past = AgreeOnNumbers past

calm_link : (past : Past) → IsCalm past → has_end past.to_secondary ≡ false
calm_link past h = beside_no_end past.to_secondary h.down

-- AN EVENT THAT SETTLES tells the secondary of the numbers that it adds, each for a client without one
adds_settled : (P : Past → Type 0) (x : Line) (marks : List Mark) (delivered : Option Message) (answer : ℕ → Answer)
    (past : Past) (s : Settling)
    → ((ps : ProgressTable) (more : List KeptNumber) → AreNewAfter past.numbers more
    → P (told_past past (past.numbers ++ more) ps more))
    → ((ps : ProgressTable) (more : List KeptNumber) → AreNewAfter past.numbers more
    → P (capture (told_past past (past.numbers ++ more) ps more)))
    → P (outcome_with x marks delivered answer (settle_event past s)).after
unfolding settle_event ended_by own_frames
adds_settled P x marks delivered answer past s none some =
    let e = settle_event past s in
    let adds = own_adds (no_own_frames s.before past.numbers past.progress) s.own in
    let ps = e.after.progress in
    settled_case (λ (o : Outcome). P o.after) x marks delivered answer e
    (λ h. subst (λ (t : List KeptNumber × List KeptNumber). P (told_past past t.0 ps t.1))
    (λ i. (sym adds.numbers i, sym adds.new_numbers i)) (none ps adds.more adds.each_new))
    (λ why h. subst (λ (t : List KeptNumber × List KeptNumber). P (capture (told_past past t.0 ps t.1)))
    (λ i. (sym adds.numbers i, sym adds.new_numbers i)) (some ps adds.more adds.each_new))

captured_agree : (past : Past) → past.awaits_ack ≡ false → AgreeOnNumbers past → AgreeOnNumbers (capture past)
unfolding capture checkpoint_messages copied_parts
captured_agree past w h alone =
    let p = capture past in
    capture_across past.secondary_numbers past.to_secondary (copied_parts p.copy p.captures) past.numbers
    past.copy.run.items past.primary.items past.copy.numbers p.captures (parts_are p.copy p.captures)
    (subst (λ (b : Bool). AreAcross b past.secondary_numbers past.to_secondary past.numbers past.copy.run.items
    past.copy.numbers) w (h alone))

told_agree : (past : Past) (ps : ProgressTable) (more : List KeptNumber) → AreNewAfter past.numbers more
    → past.awaits_ack ≡ false → has_end past.to_secondary ≡ false → AgreeOnNumbers past
    → AgreeOnNumbers (told_past past (past.numbers ++ more) ps more)
told_agree past ps more new w endless h alone =
    let link = past.to_secondary ++ map number_message more in
    let mine = past.numbers ++ more in
    let across = more_numbers past.secondary_numbers past.to_secondary past.numbers more past.copy.run.items
    past.copy.numbers endless new
    (subst (λ (b : Bool). AreAcross b past.secondary_numbers past.to_secondary past.numbers past.copy.run.items
    past.copy.numbers) w (h alone)) in
    subst (λ (t : Bool × List Message). AreAcross t.0 past.secondary_numbers t.1 mine past.copy.run.items
    past.copy.numbers)
    (λ i. (sym w i, sym (cond-false past.is_reported past.to_secondary link alone) i)) across

-- what settles where no checkpoint is on its way
settles_agree : (base : Past) → base.awaits_ack ≡ false → has_end base.to_secondary ≡ false → AgreeOnNumbers base
    → (x : Line) (marks : List Mark) (delivered : Option Message) (answer : ℕ → Answer) (s : Settling)
    → AgreeOnNumbers (outcome_with x marks delivered answer (settle_event base s)).after
settles_agree base w endless h x marks delivered answer s =
    adds_settled AgreeOnNumbers x marks delivered answer base s
    (λ ps more new. told_agree base ps more new w endless h)
    (λ ps more new. captured_agree (told_past base (base.numbers ++ more) ps more) w
    (told_agree base ps more new w endless h))

-- A CLIENT'S FRAME
accepted_agree : (b : Bool) (past : Past) (w : Waiting) → AgreeOnNumbers past
    → AgreeOnNumbers (accept_by b past w (trims_by w))
unfolding accept_by
accepted_agree true past w h alone = h alone
accepted_agree false past w h alone =
    let link = past.to_secondary ++ frame_message w ∷ [] in
    subst (λ (ms : List Message). AreAcross past.awaits_ack past.secondary_numbers ms past.numbers
    past.copy.run.items past.copy.numbers)
    (sym (cond-false past.is_reported past.to_secondary link alone))
    (more_beside past.awaits_ack past.secondary_numbers past.to_secondary (frame_message w ∷ []) past.numbers
    past.copy.run.items past.copy.numbers refl refl (h alone))

-- THE SECONDARY HEARS
first_of : (past : Past) (m n : Message) (ms : List Message) → past.to_secondary ≡ m ∷ ms → m ≡ n
    → AgreeOnNumbers past → past.is_reported ≡ false
    → AreAcross past.awaits_ack past.secondary_numbers (n ∷ ms) past.numbers past.copy.run.items past.copy.numbers
first_of past m n ms e is h alone =
    subst (λ (xs : List Message). AreAcross past.awaits_ack past.secondary_numbers xs past.numbers
    past.copy.run.items past.copy.numbers) (e ∙ ap (λ (x : Message). x ∷ ms) is) (h alone)

frame_agree : (past : Past) (m : Message) (ms : List Message) (n : Message) → past.to_secondary ≡ m ∷ ms → m ≡ n
    → (AreAcross past.awaits_ack past.secondary_numbers (n ∷ ms) past.numbers past.copy.run.items past.copy.numbers
    → AreAcross past.awaits_ack past.secondary_numbers ms past.numbers past.copy.run.items past.copy.numbers)
    → AgreeOnNumbers past → AgreeOnNumbers (record past { to_secondary = ms })
frame_agree past m ms n e is go h alone = go (first_of past m n ms e is h alone)

end_agree : (past : Past) (m : Message) (ms : List Message) (n : ℕ) → past.to_secondary ≡ m ∷ ms → m ≡ End n
    → HeardFirst past m ms → AgreeOnNumbers past → AgreeOnNumbers (hear_end (record past { to_secondary = ms }) n)
end_agree past m ms n e is (beside g one) h alone = absurd (subst IsBeside is g)
end_agree past m ms n e is (part g one) h alone = absurd (subst IsPart is g)
end_agree past m ms n e is (ends told later same end g) h alone =
    let copied = past.copy.numbers in
    let items = past.copy.run.items in
    let none = ap (λ (xs : List Message). has_end xs) end ∙ beside_no_end later (beside_frames later g.frames) in
    subst (λ (b : Bool). AreAcross b copied ms past.numbers items copied) (sym g.awaits)
    (commit_across past.secondary_numbers n ms past.numbers items copied
    (ap numbers_on end ∙ frames_hold_no_number later g.frames) none
    (subst (λ (b : Bool). AreAcross b past.secondary_numbers (End n ∷ ms) past.numbers items copied) g.awaits
    (first_of past m (End n) ms e is h alone)))

heard_agree : (past : Past) (m : Message) (ms : List Message) → past.to_secondary ≡ m ∷ ms → HeardFirst past m ms
    → AgreeOnNumbers past → AgreeOnNumbers (secondary_hears (record past { to_secondary = ms }) m).after
unfolding hear_frame
heard_agree past m ms e first h =
    let p : Past = record past { to_secondary = ms } in
    heard_case (λ o. AgreeOnNumbers o.after) p m
    (λ index seen trim frame is alone. frame_agree past m ms (Frame index seen trim frame) e is (λ g.
    (record { each_new = g.each_new; calm = g.calm; going = g.going; coming = g.coming })) h alone)
    (λ t client number is alone. number_across past.awaits_ack past.secondary_numbers t client number ms
    past.numbers past.copy.run.items past.copy.numbers (first_of past m (Number t client number) ms e is h alone))
    (λ n is. end_agree past m ms n e is first h)
    (λ apart. frame_agree past m ms m e refl (apart_across past.awaits_ack past.secondary_numbers m ms past.numbers
    past.copy.run.items past.copy.numbers apart) h)

-- THE PRIMARY HEARS
learned_agree : (past : Past) (t : Tuple) (client number : ℕ) → past.awaits_ack ≡ false → AgreeOnNumbers past
    → AgreeOnNumbers (known_base past t client number)
learned_agree past t client number w h alone =
    subst (λ (b : Bool). AreAcross b past.secondary_numbers past.to_secondary
    (known_base past t client number).numbers past.copy.run.items past.copy.numbers) (sym w)
    (mine_alike past.secondary_numbers past.to_secondary past.numbers (known_base past t client number).numbers
    past.copy.run.items past.copy.numbers (learned_plain past.numbers t client number)
    (subst (λ (b : Bool). AreAcross b past.secondary_numbers past.to_secondary past.numbers past.copy.run.items
    past.copy.numbers) w (h alone)))

ack_agree : (past : Past) → past.awaits_ack ≡ true → has_end past.to_secondary ≡ false
    → past.numbers ≡ past.copy.numbers → AgreeOnNumbers past → AgreeOnNumbers (acknowledge past)
ack_agree past w endless same h alone =
    ack_across past.secondary_numbers past.to_secondary past.numbers (acknowledge past).numbers past.copy.run.items
    past.copy.numbers endless
    (all_learned_plain past.numbers ∙ ap (λ (xs : List KeptNumber). plain_numbers xs) same)
    (subst (λ (b : Bool). AreAcross b past.secondary_numbers past.to_secondary past.numbers past.copy.run.items
    past.copy.numbers) w (h alone))

ack_awaits : (past : Past) (m : Message) (n : ℕ) (ms : List Message) → m ≡ Ack n → HeardBackFirst past m ms
    → past.awaits_ack ≡ true
ack_awaits past m n ms is (replies g one) = absurd (subst IsReply is g)
ack_awaits past m n ms is (acks same g) = g.awaits

back_agree : (past : Past) (m : Message) (ms : List Message) → (past.awaits_ack && not (is_ack_message m)) ≡ false
    → HeardBackFirst past m ms → (past.awaits_ack ≡ true → past.numbers ≡ past.copy.numbers) → AgreeOnNumbers past
    → AgreeOnNumbers (primary_hears (record past { to_primary = ms }) m).after
unfolding known_ended sent_ended ack_ended
back_agree past m ms idle first paused h =
    let p : Past = record past { to_primary = ms } in
    heard_back_case (λ o. AgreeOnNumbers o.after) p m
    (λ t client number is. let free = not_awaiting past m (Known t client number) idle is refl in
    settles_agree (known_base p t client number) free
    (calm_link p (reply_calm past m (Known t client number) ms is refl idle first))
    (learned_agree p t client number free h) ToPrimary [] (Some (Known t client number))
    (HeardBack 12 past.sent_heard) (no_frames past.primary.items))
    (λ frame is. let free = not_awaiting past m (Sent frame) idle is refl in
    settles_agree (sent_base p frame) free
    (calm_link p (reply_calm past m (Sent frame) ms is refl idle first)) h
    ToPrimary [] (Some (Sent frame)) (HeardBack 13 (past.sent_heard + 1))
    (record (no_frames past.primary.items) { restarts = restarts_in past.known_items (segments (frame ∷ [])) }))
    (λ n is. let w = ack_awaits past m n ms is first in
    let none = calm_link (acknowledge p) (ack_calm past m n ms is first) in
    settles_agree (acknowledge p) refl none (ack_agree p w none (paused w) h) ToPrimary (Acknowledged n ∷ [])
    (Some (Ack n)) (HeardBack 14 0) (no_frames (committed_items p)))
    (λ foreign. h)

-- EVERY EVENT
agree_cases : (a : Start) → Cases a.kind a.stream (Keeps Fits a Agree)
unfolding secondary_survives turn_secondary turn_primary primary_ended
agree_cases a = record {
  idle = λ past x e f steps r fits h. h;
  primary_turn =
      λ past d i b n e f steps r fits h.
      let made = turn_from a.kind past.primary past.primary_inbox i (numbers_of d b n) in
      settles_agree (primary_base past made) f
      (calm_link past (calm_of past (one_checkpoint Fits a steps past r) f)) h (Primary d i b n) [] None
      (Made made.index) (record {
        before = past.primary.items;
        own = segments made.output;
        restarts = [];
        is_turn = true;
      });
  secondary_turn = λ past d i b n e f steps r fits h. h;
  survivor_turn =
      λ past d i b n e steps r fits h.
      let reported = (and_parts (is_primary_stop past.stop) past.is_reported e).1 in
      survivor_settled (λ step after. AgreeOnNumbers after) past d i b n
      (turn_from a.kind past.secondary past.secondary_inbox i (numbers_of d b n))
      (λ out ns ps new unreported. absurd (true≢false (sym reported ∙ unreported)))
      (λ out ns ps new why alone. absurd (true≢false (sym reported ∙ alone)));
  accepts = λ past frame kept t e f steps r fits h. accepted_agree (is_primary_stop past.stop) past _ h;
  is_full = λ past frame kept t e f steps r fits h. h;
  answers = λ past frame b t e steps r fits h. h;
  drops = λ past frame why t e steps r fits h. h;
  loses = λ past frame t e f steps r fits h. h;
  secondary_hears =
      λ past m ms e f g steps r fits h. heard_agree past m ms e
      (pop_down past m ms e (one_checkpoint Fits a steps past r)) h;
  ignores = λ past m ms e f g running alone steps r fits h. h;
  primary_hears =
      λ past m ms e f running alone steps r fits h. back_agree past m ms f
      (pop_up past m ms e (one_checkpoint Fits a steps past r)) (λ w. (is_paused a steps past r w).numbers) h;
  primary_stops = λ past steps r fits h. h;
  secondary_stops = λ past steps r fits h. h;
  secondary_left = λ past e steps r fits h alone. absurd (true≢false alone);
  primary_left =
      λ past e steps r fits h. left_settled (λ step after. AgreeOnNumbers after) past
      (λ out ns ps new alone. absurd (true≢false alone));
  asks = λ past e f g steps r fits h. captured_agree past e h;
}

first_agree : (a : Start) → IsStart a → AgreeOnNumbers (first_past a)
first_agree a (boots kind stream state m n regular fits bytes frames) alone = record {
  each_new = tt;
  calm = λ e. refl;
  going = λ e. absurd (true≢false (sym e));
  coming = λ w e. absurd (true≢false (sym w));
}

pub numbers_agree : NumbersAgree
numbers_agree a lines start =
    each_log a Agree (each_history Fits a Agree (first_agree a start) (agree_cases a)) lines
