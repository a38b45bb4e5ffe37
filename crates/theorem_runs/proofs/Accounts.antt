-- Where an accepted frame is: every event keeps account of each.
use Rattle.std.proofs.Common.{◌≡◌, ◌⊎◌, inl, inr, ℕ, ◌+◌, ◌&&◌, ◌||◌, not, Bool, true, false, List, [], ◌∷◌, ◌++◌, append-nil, append_assoc, length, Option, None, Some, refl, sym, ap, subst, ◌∙◌, true≢false}
use Rattle.std.specs.Prelude.{IsTrue, if◌then◌else◌}
use Rattle.std.specs.List.{AllByRecursion, cons_option, list_any}
use Rattle.std.proofs.lemmas.Bool.{and_from, and_parts, or_from, or_parts, or_left, or_right}
use Rattle.std.proofs.Math.Bool.{or-false}
use Rattle.std.proofs.lemmas.List.{map-append}
use Rattle.std.proofs.lemmas.List.Folds.{list_any-append}
use Rattle.inet_frame.specs.Counted.{tcp_in}
use Rattle.tcp_track.specs.declared.openings.Opening.{Opening}
use Rattle.settle_rules.specs.Release.{reply}
use Rattle.colo_base.specs.declared.fault.Cause.TheVariants.{Asked}
use Rattle.frame_mirror.specs.declared.ring.Waiting.{Waiting}
use Rattle.colo_wire.specs.declared.messages.Message.{Message}
use Rattle.colo_wire.specs.declared.messages.Message.TheVariants.{Frame, Number, End, Known, Sent, Ack}
use Rattle.replay_log.specs.declared.lines.Line.TheVariants.{Ask, Client, Primary, Secondary, StopPrimary, StopSecondary, Report, ToPrimary, ToSecondary}
use Rattle.replay_log.specs.declared.records.Answer.TheVariants.{Accepted, Arp, Dropped, Full, Heard, HeardBack, Lost, Made, Nothing, Reported, Zero}
use Rattle.replay_log.specs.declared.records.Mark.TheVariants.{Acknowledged, Captured, Committed}
use Rattle.pair_theorem.specs.Checkpoint.{next_capture}
use Rattle.pair_theorem.specs.ClientFrames.{trims_by}
use Rattle.pair_theorem.specs.Events.{accept_by, acknowledge, hear_end, hear_frame, hear_number, is_ack_message, is_full, lose_links, look_at, numbers_of, passed_frame, primary_hears, secondary_hears, secondary_survives, turn_secondary, waiting_of}
use Rattle.pair_theorem.specs.GuestTurns.{turn_from}
use Rattle.pair_theorem.specs.LogParts.{accepted_in, accepted_indices, contains_index, frame_in, frames_on, full_with, inbox_indices, is_full_for, loses}
use Rattle.pair_theorem.specs.Messages.{frame_message, number_of, waiting_in}
use Rattle.pair_theorem.specs.Log.{is_report}
use Rattle.pair_theorem.specs.Past.{Past, Start, Step, Stop, is_primary_stop, is_secondary_stop, no_stop, primary_stop, secondary_stop, secondary_releases, step_with}
use Rattle.pair_theorem.specs.Places.{events}
use Rattle.pair_theorem.proofs.EachHistory.{Fits, Keeps, Reached, each_history, is_stopped, reported_stopped}
use Rattle.pair_theorem.proofs.EventCases.{Cases}
use Rattle.pair_theorem.proofs.MessageCases.{heard_back_case, heard_case}
use Rattle.theorem_runs.specs.Links.{IsBeside, IsPart}
use Rattle.theorem_runs.specs.Runs.{AccountsFor, after_end, copy_order, has_end, is_end, is_or_was, primary_order, secondary_all, took_indices}
use Rattle.theorem_runs.proofs.Accounting.{accepted-push, none_accepted, full-push, last_event, loses-push, is_still, still_or_was, Leaves, left_accounts, same_leaves, captured_accounts, settled_accounts, caught_accounts, among_left, among_right, among_itself, among_three, among_without}
use Rattle.theorem_runs.proofs.Checkpoints.{HeardBackFirst, HeardFirst, ack_calm, beside, beside_frames, calm_of, ends, one_checkpoint, part, pop_down, pop_up, reply_calm}
use Rattle.theorem_runs.proofs.Lone.{IsLone, lone_links}
use Rattle.theorem_runs.proofs.ListFacts.{all_append, all_weaken}
use Rattle.theorem_runs.proofs.Orders.{after_with, apart_brings_none, beside_no_end, first_after, frames_on-append, taken_order, taken_reported}
use Rattle.theorem_runs.proofs.Settled.{ack_settled, known_base, known_settled, left_settled, primary_base, primary_settled, secondary_base, sent_base, sent_settled, survivor_settled, told_past}

-- A FRAME OF THE CLIENT is at the end of the list of whom it goes to
one_more : (a : Start) (steps : List Step) (past : Past) (s : Step) (next : ℕ) (P Q : ℕ → Type 0)
    → accepted_in s.entry.answer ≡ Some next → ((i : ℕ) → P i → Q i) → Q next
    → AllByRecursion P (accepted_indices steps) → AllByRecursion Q (accepted_indices (steps ++ s ∷ []))
one_more a steps past s next P Q named f here h =
    subst (AllByRecursion Q) (sym (accepted-push steps s
    ∙ ap (λ (o : Option ℕ). accepted_indices steps ++ cons_option o []) named))
    (all_append Q (accepted_indices steps) (next ∷ []) (all_weaken P Q (accepted_indices steps) f h) (here, tt))

-- the accepted one at the end of the secondary's list, and at the end of an inbox
end_of_three : (xs ys zs more : List ℕ) → xs ++ (ys ++ (zs ++ more)) ≡ (xs ++ (ys ++ zs)) ++ more
end_of_three xs ys zs more =
    sym (append_assoc xs (ys ++ zs) more ∙ ap (λ (is : List ℕ). xs ++ is) (append_assoc ys zs more))

end_of_inbox : (xs : List ℕ) (inbox : List Waiting) (w : Waiting)
    → xs ++ inbox_indices (inbox ++ w ∷ []) ≡ (xs ++ inbox_indices inbox) ++ w.index ∷ []
end_of_inbox xs inbox w =
    ap (λ (is : List ℕ). xs ++ is) (map-append (λ (v : Waiting). v.index) inbox (w ∷ []))
    ∙ sym (append_assoc xs (inbox_indices inbox) (w.index ∷ []))

more_among : (i : ℕ) (xs ys more : List ℕ) → ys ≡ xs ++ more → IsTrue (contains_index i xs)
    → IsTrue (contains_index i ys)
more_among i xs ys more e h = subst (λ (is : List ℕ). IsTrue (contains_index i is)) (sym e) (among_left i xs more h)

last_among : (i : ℕ) (xs ys : List ℕ) → ys ≡ xs ++ i ∷ [] → IsTrue (contains_index i ys)
last_among i xs ys e =
    subst (λ (is : List ℕ). IsTrue (contains_index i is)) (sym e) (among_right i xs (i ∷ []) (among_itself i))

-- the primary takes it, and puts it on the link unless the secondary's stop was reported
primary_takes : (a : Start) (steps : List Step) (past : Past) (w : Waiting) (s : Step) → Reached Fits a steps past
    → accepted_in s.entry.answer ≡ Some w.index → is_primary_stop past.stop ≡ false
    → (past.is_reported ≡ true → past.to_secondary ≡ []) → AccountsFor a steps past
    → AccountsFor a (steps ++ s ∷ []) (accept_by false past w (trims_by w))
unfolding accept_by
primary_takes a steps past w s r named running lone h = record {
  primary = λ e. one_more a steps past s w.index (λ i. IsTrue (contains_index i (primary_order past)))
      (λ i. IsTrue (contains_index i (took_indices past.primary ++ inbox_indices (past.primary_inbox ++ w ∷ []))))
      named
      (λ i g. more_among i (primary_order past)
      (took_indices past.primary ++ inbox_indices (past.primary_inbox ++ w ∷ []))
      (w.index ∷ []) (end_of_inbox (took_indices past.primary) past.primary_inbox w) g)
      (last_among w.index (primary_order past)
      (took_indices past.primary ++ inbox_indices (past.primary_inbox ++ w ∷ []))
      (end_of_inbox (took_indices past.primary) past.primary_inbox w))
      (h.primary (ap (λ (b : Bool). b && past.is_reported) running));
  secondary = by_secondary past.is_reported refl;
  copy = by_copy past.is_reported refl;
}
  where
    link : Bool → List Message
    link b = if b then past.to_secondary else past.to_secondary ++ frame_message w ∷ []

    all_of : Bool → List ℕ
    all_of b =
        took_indices past.secondary ++ (inbox_indices past.secondary_inbox ++ frames_on (link b))

    longer : all_of false ≡ secondary_all past ++ w.index ∷ []
    longer =
        ap (λ (is : List ℕ). took_indices past.secondary ++ (inbox_indices past.secondary_inbox ++ is))
        (frames_on-append past.to_secondary (frame_message w ∷ []))
        ∙ end_of_three (took_indices past.secondary) (inbox_indices past.secondary_inbox)
        (frames_on past.to_secondary) (w.index ∷ [])

    by_secondary : (b : Bool) → past.is_reported ≡ b → is_secondary_stop past.stop ≡ false
        → AllByRecursion (λ i. IsTrue (is_or_was a (steps ++ s ∷ []) (all_of b) i)) (accepted_indices (steps ++ s ∷ []))
    by_secondary true f e =
        absurd (true≢false (sym (reported_stopped a steps past r f)
        ∙ or_from (is_primary_stop past.stop) (is_secondary_stop past.stop) running e))
    by_secondary false f e =
        one_more a steps past s w.index (λ i. IsTrue (is_or_was a steps (secondary_all past) i))
        (λ i. IsTrue (is_or_was a (steps ++ s ∷ []) (all_of false) i)) named
        (λ i g. still_or_was a steps past s (secondary_all past) (all_of false) i r
        (λ k. is_still a (steps ++ s ∷ []) (all_of false) i
        (more_among i (secondary_all past) (all_of false) (w.index ∷ []) longer k)) g)
        (is_still a (steps ++ s ∷ []) (all_of false) w.index
        (last_among w.index (secondary_all past) (all_of false) longer))
        (h.secondary e)

    copy_of : Bool → List ℕ
    copy_of b =
        took_indices past.copy.run ++ (inbox_indices past.copy.inbox ++ frames_on (after_end (link b)))

    had_end : has_end (link false) ≡ true → has_end past.to_secondary ≡ true
    had_end e =
        sym (or-false (has_end past.to_secondary))
        ∙ (sym (list_any-append is_end past.to_secondary (frame_message w ∷ [])) ∙ e)

    copy_longer : has_end past.to_secondary ≡ true → copy_of false ≡ copy_order past ++ w.index ∷ []
    copy_longer e =
        ap (λ (is : List ℕ). took_indices past.copy.run ++ (inbox_indices past.copy.inbox ++ is))
        (ap frames_on (after_with past.to_secondary (frame_message w ∷ []) e)
        ∙ frames_on-append (after_end past.to_secondary) (frame_message w ∷ []))
        ∙ end_of_three (took_indices past.copy.run) (inbox_indices past.copy.inbox)
        (frames_on (after_end past.to_secondary)) (w.index ∷ [])

    by_copy : (b : Bool) → past.is_reported ≡ b → has_end (link b) ≡ true
        → AllByRecursion (λ i. IsTrue (contains_index i (copy_of b))) (accepted_indices (steps ++ s ∷ []))
    by_copy true f e = absurd (true≢false (sym e ∙ ap has_end (lone f)))
    by_copy false f e =
        let longer = copy_longer (had_end e) in
        one_more a steps past s w.index (λ i. IsTrue (contains_index i (copy_order past)))
        (λ i. IsTrue (contains_index i (copy_of false))) named
        (λ i g. more_among i (copy_order past) (copy_of false) (w.index ∷ []) longer g)
        (last_among w.index (copy_order past) (copy_of false) longer) (h.copy (had_end e))

-- the survivor takes it: nothing is on the link to it
survivor_takes : (a : Start) (steps : List Step) (past : Past) (w : Waiting) (s : Step) → Reached Fits a steps past
    → accepted_in s.entry.answer ≡ Some w.index → secondary_releases past ≡ true → past.to_secondary ≡ []
    → AccountsFor a steps past → AccountsFor a (steps ++ s ∷ []) (accept_by true past w (trims_by w))
unfolding accept_by
survivor_takes a steps past w s r named releases none h = record {
  primary = λ e. absurd (true≢false (sym releases ∙ e));
  secondary = λ e. one_more a steps past s w.index (λ i. IsTrue (is_or_was a steps (secondary_all past) i))
      (λ i. IsTrue (is_or_was a (steps ++ s ∷ []) later i)) named
      (λ i g. still_or_was a steps past s (secondary_all past) later i r
      (λ k. is_still a (steps ++ s ∷ []) later i (more_among i (secondary_all past) later (w.index ∷ []) longer k)) g)
      (is_still a (steps ++ s ∷ []) later w.index (last_among w.index (secondary_all past) later longer))
      (h.secondary e);
  copy = λ e. absurd (true≢false (sym e ∙ ap has_end none));
}
  where
    took : List ℕ
    took = took_indices past.secondary

    later : List ℕ
    later = took ++ (inbox_indices (past.secondary_inbox ++ w ∷ []) ++ frames_on past.to_secondary)

    empty : (is : List ℕ) → is ++ frames_on past.to_secondary ≡ is
    empty is = ap (λ (ms : List Message). is ++ frames_on ms) none ∙ append-nil is

    longer : later ≡ secondary_all past ++ w.index ∷ []
    longer =
        ap (λ (is : List ℕ). took ++ is) (empty (inbox_indices (past.secondary_inbox ++ w ∷ [])))
        ∙ (end_of_inbox took past.secondary_inbox w
        ∙ ap (λ (is : List ℕ). (took ++ is) ++ w.index ∷ []) (sym (empty (inbox_indices past.secondary_inbox))))

accepted_accounts : (a : Start) (steps : List Step) (past : Past) (w : Waiting) (s : Step) (b : Bool)
    → Reached Fits a steps past → is_primary_stop past.stop ≡ b → accepted_in s.entry.answer ≡ Some w.index
    → (b && not past.is_reported) ≡ false → IsLone past → AccountsFor a steps past
    → AccountsFor a (steps ++ s ∷ []) (accept_by b past w (trims_by w))
accepted_accounts a steps past w s true r is named takes lone h =
    let reported = taken_reported true past.is_reported takes refl in
    survivor_takes a steps past w s r named (λ k. is k && reported k) (lone.down reported) h
accepted_accounts a steps past w s false r is named takes lone h =
    primary_takes a steps past w s r named is lone.down h

-- THE SECONDARY HEARS
frame_heard : (a : Start) (steps : List Step) (past : Past) (index : ℕ) (w : Waiting) (ms : List Message) (s : Step)
    (full : Bool) → Reached Fits a steps past → w.index ≡ index → frames_on past.to_secondary ≡ index ∷ frames_on ms
    → full_with s.delivered s.entry.answer ≡ (if full then Some index else None) → (i : ℕ)
    → IsTrue (is_or_was a steps (secondary_all past) i)
    → IsTrue (is_or_was a (steps ++ s ∷ []) (took_indices past.secondary
    ++ (inbox_indices (if full then past.secondary_inbox else past.secondary_inbox ++ w ∷ []) ++ frames_on ms)) i)
frame_heard a steps past index w ms s true r same link named i h =
    still_or_was a steps past s (secondary_all past) later i r
    (λ k. by (among_without i index took inbox rest (subst (λ (is : List ℕ). IsTrue (contains_index i (took
    ++ (inbox ++ is)))) link k))) h
  where
    took : List ℕ
    took = took_indices past.secondary

    inbox : List ℕ
    inbox = inbox_indices past.secondary_inbox

    rest : List ℕ
    rest = frames_on ms

    later : List ℕ
    later = took ++ (inbox ++ rest)

    full_now : is_full_for index (steps ++ s ∷ []) ≡ true
    full_now =
        full-push index steps s
        ∙ or_right (is_full_for index steps)
        (contains_index index (cons_option (full_with s.delivered s.entry.answer) []))
        (ap (λ (o : Option ℕ). contains_index index (cons_option o [])) named ∙ among_itself index)

    by : IsTrue (contains_index i later) ⊎ (index ≡ i) → IsTrue (is_or_was a (steps ++ s ∷ []) later i)
    by (inl g) = is_still a (steps ++ s ∷ []) later i g
    by (inr g) =
        or_right (contains_index i later)
        (is_full_for i (steps ++ s ∷ []) || list_any (loses i) (events a (steps ++ s ∷ [])))
        (or_left (is_full_for i (steps ++ s ∷ [])) (list_any (loses i) (events a (steps ++ s ∷ [])))
        (subst (λ (j : ℕ). is_full_for j (steps ++ s ∷ []) ≡ true) g full_now))
frame_heard a steps past index w ms s false r same link named i h =
    still_or_was a steps past s (secondary_all past) later i r
    (λ k. is_still a (steps ++ s ∷ []) later i (subst (λ (is : List ℕ). IsTrue (contains_index i is)) (sym moved) k)) h
  where
    took : List ℕ
    took = took_indices past.secondary

    inbox : List ℕ
    inbox = inbox_indices past.secondary_inbox

    later : List ℕ
    later = took ++ (inbox_indices (past.secondary_inbox ++ w ∷ []) ++ frames_on ms)

    moved : later ≡ secondary_all past
    moved =
        ap (λ (is : List ℕ). took ++ (is ++ frames_on ms))
        (map-append (λ (v : Waiting). v.index) past.secondary_inbox (w ∷ []))
        ∙ (ap (λ (is : List ℕ). took ++ is) (append_assoc inbox (w.index ∷ []) (frames_on ms))
        ∙ (ap (λ (j : ℕ). took ++ (inbox ++ j ∷ frames_on ms)) same
        ∙ ap (λ (is : List ℕ). took ++ (inbox ++ is)) (sym link)))

-- a message that brings neither a frame nor an End
beside_leaves : (past : Past) (m : Message) (ms : List Message) (after : Past) → past.to_secondary ≡ m ∷ ms
    → is_end m ≡ false → frame_in m ≡ None → after.stop ≡ past.stop → after.is_reported ≡ past.is_reported
    → after.primary ≡ past.primary → after.primary_inbox ≡ past.primary_inbox → after.secondary ≡ past.secondary
    → after.secondary_inbox ≡ past.secondary_inbox → after.copy ≡ past.copy → after.to_secondary ≡ ms
    → Leaves past after
beside_leaves past m ms after link no_end no_frame t b p i s j c d =
    let frames : frames_on past.to_secondary ≡ frames_on ms = ap frames_on link
    ∙ ap (λ (o : Option ℕ). cons_option o (frames_on ms)) no_frame in
    let ends_same : has_end past.to_secondary ≡ has_end ms = ap has_end link
    ∙ ap (λ (x : Bool). x || has_end ms) no_end in
    let behind : frames_on (after_end past.to_secondary) ≡ frames_on (after_end ms) =
    ap (λ (xs : List Message). frames_on (after_end xs)) link ∙ first_after m ms no_end in
    record {
      primary = λ e. (
        (λ k. is_primary_stop (sym t k) && sym b k) ∙ e,
        (λ k. took_indices (p k) ++ inbox_indices (i k)),
      );
      secondary = λ e. (
        ap (λ (x : Stop). is_secondary_stop x) (sym t) ∙ e,
        (λ k. took_indices (s k) ++ (inbox_indices (j k) ++ (ap frames_on d ∙ sym frames) k)),
      );
      copy = λ e. (
        ends_same ∙ (ap has_end (sym d) ∙ e),
        (λ k. took_indices (c k).run ++ (inbox_indices (c k).inbox
            ++ (ap (λ (xs : List Message). frames_on (after_end xs)) d ∙ sym behind) k)),
      );
    }

-- at a commit the copy becomes the secondary
ended_accounts : (a : Start) (steps : List Step) (past : Past) (m : Message) (n : ℕ) (ms : List Message) (s : Step)
    → Reached Fits a steps past → accepted_in s.entry.answer ≡ None → past.to_secondary ≡ m ∷ ms → m ≡ End n
    → HeardFirst past m ms → AccountsFor a steps past
    → AccountsFor a (steps ++ s ∷ []) (hear_end (record past { to_secondary = ms }) n)
ended_accounts a steps past m n ms s r none link is (beside g one) h = absurd (subst IsBeside is g)
ended_accounts a steps past m n ms s r none link is (part g one) h = absurd (subst IsPart is g)
ended_accounts a steps past m n ms s r none link is (ends told later same end g) h =
    let first = link ∙ ap (λ (x : Message). x ∷ ms) is in
    let no_end : has_end ms ≡ false = ap has_end end ∙ beside_no_end later (beside_frames later g.frames) in
    let all : AllByRecursion (λ i. IsTrue (contains_index i (copy_order past))) (accepted_indices steps) =
    h.copy (ap has_end first) in
    let order : copy_order past ≡ took_indices past.copy.run ++ (inbox_indices past.copy.inbox ++ frames_on ms) =
    ap (λ (xs : List Message). took_indices past.copy.run ++ (inbox_indices past.copy.inbox
    ++ frames_on (after_end xs))) first in
    record {
      primary = λ e. subst (λ (is : List ℕ). AllByRecursion (λ i. IsTrue (contains_index i (primary_order past))) is)
          (sym (none_accepted steps s none)) (h.primary e);
      secondary = λ e. subst (λ (is : List ℕ). AllByRecursion (λ i. IsTrue (is_or_was a (steps ++ s ∷ [])
          (took_indices past.copy.run ++ (inbox_indices past.copy.inbox ++ frames_on ms)) i)) is)
          (sym (none_accepted steps s none))
          (all_weaken (λ i. IsTrue (contains_index i (copy_order past)))
          (λ i. IsTrue (is_or_was a (steps ++ s ∷ []) (took_indices past.copy.run
          ++ (inbox_indices past.copy.inbox ++ frames_on ms)) i)) (accepted_indices steps)
          (λ i k. is_still a (steps ++ s ∷ []) (took_indices past.copy.run
          ++ (inbox_indices past.copy.inbox ++ frames_on ms)) i
          (subst (λ (is : List ℕ). IsTrue (contains_index i is)) order k)) all);
      copy = λ e. absurd (true≢false (sym e ∙ no_end));
    }

-- a frame goes to the inbox, unless it is full
frame_accounts : (a : Start) (steps : List Step) (past : Past) (index : ℕ) (seen : Option Opening) (trim : ℕ)
    (frame : List ℕ) (ms : List Message) → Reached Fits a steps past
    → past.to_secondary ≡ Frame index seen trim frame ∷ ms → AccountsFor a steps past
    → AccountsFor a (steps ++ step_with ToSecondary (Heard 1 (is_full past.secondary_inbox)) []
    (Some (Frame index seen trim frame)) [] ∷ [])
    (hear_frame (record past { to_secondary = ms }) (waiting_in index seen trim frame))
unfolding hear_frame
frame_accounts a steps past index seen trim frame ms r here h = record {
  primary = λ e. subst (λ (is : List ℕ). AllByRecursion (λ i. IsTrue (contains_index i (primary_order past))) is)
      (sym (none_accepted steps s refl)) (h.primary e);
  secondary = λ e. subst (λ (is : List ℕ). AllByRecursion (λ i. IsTrue (is_or_was a (steps ++ s ∷ []) later i)) is)
      (sym (none_accepted steps s refl))
      (all_weaken (λ i. IsTrue (is_or_was a steps (secondary_all past) i))
      (λ i. IsTrue (is_or_was a (steps ++ s ∷ []) later i)) (accepted_indices steps)
      (λ i g. frame_heard a steps past index w ms s (is_full past.secondary_inbox) r refl (ap frames_on here)
      (full_said (is_full past.secondary_inbox)) i g)
      (h.secondary e));
  copy = λ e. subst (λ (is : List ℕ). AllByRecursion (λ i. IsTrue (contains_index i (took_indices past.copy.run
      ++ (inbox_indices past.copy.inbox ++ frames_on (after_end ms))))) is) (sym (none_accepted steps s refl))
      (subst (λ (is : List ℕ). AllByRecursion (λ i. IsTrue (contains_index i (took_indices past.copy.run
      ++ (inbox_indices past.copy.inbox ++ is)))) (accepted_indices steps))
      (ap (λ (xs : List Message). frames_on (after_end xs)) here) (h.copy (ap has_end here ∙ e)));
}
  where
    w : Waiting
    w = waiting_in index seen trim frame

    s : Step
    s = step_with ToSecondary (Heard 1 (is_full past.secondary_inbox)) [] (Some (Frame index seen trim frame)) []

    later : List ℕ
    later =
        took_indices past.secondary
        ++ (inbox_indices (if is_full past.secondary_inbox then past.secondary_inbox
        else past.secondary_inbox ++ w ∷ []) ++ frames_on ms)

    full_said : (b : Bool)
        → full_with (Some (Frame index seen trim frame)) (Heard 1 b) ≡ (if b then Some index else None)
    full_said true = refl
    full_said false = refl

heard_accounts : (a : Start) (steps : List Step) (past : Past) (m : Message) (ms : List Message)
    → Reached Fits a steps past → past.to_secondary ≡ m ∷ ms → HeardFirst past m ms → AccountsFor a steps past
    → AccountsFor a (steps ++ (secondary_hears (record past { to_secondary = ms }) m).step ∷ [])
    (secondary_hears (record past { to_secondary = ms }) m).after
heard_accounts a steps past m ms r link first h =
    let p : Past = record past { to_secondary = ms } in
    heard_case (λ o. AccountsFor a (steps ++ o.step ∷ []) o.after) p m
    (λ index seen trim frame is. frame_accounts a steps past index seen trim frame ms r
    (link ∙ ap (λ (x : Message). x ∷ ms) is) h)
    (λ t client number is. left_accounts a steps past (hear_number p t client number)
    (step_with ToSecondary (Heard 2 false) [] (Some (Number t client number)) []) r refl
    (beside_leaves past (Number t client number) ms (hear_number p t client number)
    (link ∙ ap (λ (x : Message). x ∷ ms) is) refl refl refl refl refl refl refl refl refl refl) h)
    (λ n is. ended_accounts a steps past m n ms
    (step_with ToSecondary (Heard 11 false) (Committed n ∷ []) (Some (End n)) []) r refl link is first h)
    (λ apart. let none = apart_brings_none m apart in
    left_accounts a steps past p (step_with ToSecondary (Heard (number_of m) false) [] (Some m) []) r refl
    (beside_leaves past m ms p link none.0 none.1 refl refl refl refl refl refl refl refl) h)

-- THE PRIMARY HEARS
back_accounts : (a : Start) (steps : List Step) (past : Past) (m : Message) (ms : List Message)
    → Reached Fits a steps past → (past.awaits_ack && not (is_ack_message m)) ≡ false → past.is_reported ≡ false
    → HeardBackFirst past m ms → AccountsFor a steps past
    → AccountsFor a (steps ++ (primary_hears (record past { to_primary = ms }) m).step ∷ [])
    (primary_hears (record past { to_primary = ms }) m).after
back_accounts a steps past m ms r idle alone first h =
    let p : Past = record past { to_primary = ms } in
    let P : Step → Past → Type 0 = λ step after. AccountsFor a (steps ++ step ∷ []) after in
    heard_back_case (λ o. AccountsFor a (steps ++ o.step ∷ []) o.after) p m
    (λ t client number is. let base = known_base p t client number in
    let none = beside_no_end past.to_secondary (reply_calm past m (Known t client number) ms is refl idle first).down in
    let l = same_leaves past base refl refl refl refl refl refl in
    known_settled P p t client number past.sent_heard
    (λ out ns ps new. settled_accounts a steps past base
    (step_with ToPrimary (HeardBack 12 past.sent_heard (length out)) [] (Some (Known t client number)) out) ns ps new r
    refl l h)
    (λ out ns ps new why k. caught_accounts a steps past base
    (step_with ToPrimary (HeardBack 12 past.sent_heard (length out))
    (Captured (next_capture (told_past base ns ps new)) why ∷ []) (Some (Known t client number)) out) ns ps new r
    refl l alone none h))
    (λ frame is. let base = sent_base p frame in
    let none = beside_no_end past.to_secondary (reply_calm past m (Sent frame) ms is refl idle first).down in
    let l = same_leaves past base refl refl refl refl refl refl in
    sent_settled P p frame (past.sent_heard + 1)
    (λ out ns ps new. settled_accounts a steps past base
    (step_with ToPrimary (HeardBack 13 (past.sent_heard + 1) (length out)) [] (Some (Sent frame)) out) ns ps new r
    refl l h)
    (λ out ns ps new why k. caught_accounts a steps past base
    (step_with ToPrimary (HeardBack 13 (past.sent_heard + 1) (length out))
    (Captured (next_capture (told_past base ns ps new)) why ∷ []) (Some (Sent frame)) out) ns ps new r refl l alone
    none h))
    (λ n is. let base = acknowledge p in
    let none = beside_no_end past.to_secondary (ack_calm past m n ms is first).down in
    let l = same_leaves past base refl refl refl refl refl refl in
    ack_settled P p n
    (λ out ns ps new. settled_accounts a steps past base
    (step_with ToPrimary (HeardBack 14 0 (length out)) (Acknowledged n ∷ []) (Some (Ack n)) out) ns ps new r refl l h)
    (λ out ns ps new why k. caught_accounts a steps past base
    (step_with ToPrimary (HeardBack 14 0 (length out))
    (Acknowledged n ∷ Captured (next_capture (told_past base ns ps new)) why ∷ []) (Some (Ack n)) out) ns ps new r
    refl l alone none h))
    (λ foreign. left_accounts a steps past p (step_with ToPrimary Nothing [] None []) r refl
    (same_leaves past p refl refl refl refl refl refl) h)

-- THE REPORT of the primary's stop loses what is on the link
lost_accounts : (a : Start) (steps : List Step) (past after : Past) (s : Step) → Reached Fits a steps past
    → accepted_in s.entry.answer ≡ None → s.entry.line ≡ Report → is_primary_stop past.stop ≡ true
    → secondary_releases after ≡ true → is_secondary_stop past.stop ≡ false → after.secondary ≡ past.secondary
    → after.secondary_inbox ≡ past.secondary_inbox → after.to_secondary ≡ [] → AccountsFor a steps past
    → AccountsFor a (steps ++ s ∷ []) after
lost_accounts a steps past after s r none line stopped releases running sec inbox link h = record {
  primary = λ e. absurd (true≢false (sym releases ∙ e));
  secondary = λ e. subst (λ (is : List ℕ). AllByRecursion (λ i. IsTrue (is_or_was a (steps ++ s ∷ [])
      (secondary_all after) i)) is) (sym (none_accepted steps s none))
      (all_weaken (λ i. IsTrue (is_or_was a steps (secondary_all past) i))
      (λ i. IsTrue (is_or_was a (steps ++ s ∷ []) (secondary_all after) i)) (accepted_indices steps)
      (λ i g. still_or_was a steps past s (secondary_all past) (secondary_all after) i r
      (λ k. moved i (among_three i took waits (frames_on past.to_secondary) k)) g) (h.secondary running));
  copy = λ e. absurd (true≢false (sym e ∙ ap has_end link));
}
  where
    took : List ℕ
    took = took_indices past.secondary

    waits : List ℕ
    waits = inbox_indices past.secondary_inbox

    left : secondary_all after ≡ took ++ (waits ++ [])
    left = λ k. took_indices (sec k) ++ (inbox_indices (inbox k) ++ frames_on (link k))

    moved : (i : ℕ) → IsTrue (contains_index i (took ++ (waits ++ [])))
        ⊎ IsTrue (contains_index i (frames_on past.to_secondary))
        → IsTrue (is_or_was a (steps ++ s ∷ []) (secondary_all after) i)
    moved i (inl g) =
        is_still a (steps ++ s ∷ []) (secondary_all after) i
        (subst (λ (is : List ℕ). IsTrue (contains_index i is)) (sym left) g)
    moved i (inr g) =
        or_right (contains_index i (secondary_all after))
        (is_full_for i (steps ++ s ∷ []) || list_any (loses i) (events a (steps ++ s ∷ [])))
        (or_right (is_full_for i (steps ++ s ∷ [])) (list_any (loses i) (events a (steps ++ s ∷ [])))
        (loses-push a i steps past s r
        ∙ or_right (list_any (loses i) (events a steps)) (loses i (last_event a steps past s) || false)
        (or_left (loses i (last_event a steps past s)) false
        (and_from (is_report s.entry.line) (is_primary_stop past.stop
        && contains_index i (frames_on past.to_secondary)) (ap is_report line)
        (and_from (is_primary_stop past.stop) (contains_index i (frames_on past.to_secondary)) stopped g)))))

-- EVERY EVENT
abbrev pub Account : Start → List Step → Past → Type 0
Account a steps past = AccountsFor a steps past

passed_accounts : (a : Start) (steps : List Step) (past : Past) (s : Step) → Reached Fits a steps past
    → accepted_in s.entry.answer ≡ None → AccountsFor a steps past → AccountsFor a (steps ++ s ∷ []) (passed_frame past)
passed_accounts a steps past s r none h =
    left_accounts a steps past (passed_frame past) s r none
    (same_leaves past (passed_frame past) refl refl refl refl refl refl) h

pub primary_not_secondary : (stop : Stop) → is_primary_stop stop ≡ true → is_secondary_stop stop ≡ false
primary_not_secondary no_stop e = refl
primary_not_secondary primary_stop e = refl
primary_not_secondary secondary_stop e = absurd (true≢false (sym e))

-- before a stop the survivor doesn't release, and the secondary runs
unstopped : (stop : Stop) → is_stopped stop ≡ false → (is_primary_stop stop ≡ false) × (is_secondary_stop stop ≡ false)
unstopped stop e = or_parts (is_primary_stop stop) (is_secondary_stop stop) e

primary_stopped : (a : Start) (steps : List Step) (past : Past) (s : Step) → Reached Fits a steps past
    → accepted_in s.entry.answer ≡ None → is_stopped past.stop ≡ false → AccountsFor a steps past
    → AccountsFor a (steps ++ s ∷ []) (record past { stop = primary_stop })
primary_stopped a steps past s r none free h =
    let runs = unstopped past.stop free in
    left_accounts a steps past (record past { stop = primary_stop }) s r none (record {
      primary = λ e. (ap (λ (b : Bool). b && past.is_reported) runs.0, refl);
      secondary = λ e. (runs.1, refl);
      copy = λ e. (e, refl);
    }) h

secondary_stopped : (a : Start) (steps : List Step) (past : Past) (s : Step) → Reached Fits a steps past
    → accepted_in s.entry.answer ≡ None → is_stopped past.stop ≡ false → AccountsFor a steps past
    → AccountsFor a (steps ++ s ∷ []) (record past { stop = secondary_stop })
secondary_stopped a steps past s r none free h =
    let runs = unstopped past.stop free in
    left_accounts a steps past (record past { stop = secondary_stop }) s r none (record {
      primary = λ e. (ap (λ (b : Bool). b && past.is_reported) runs.0, refl);
      secondary = λ e. absurd (true≢false e);
      copy = λ e. (e, refl);
    }) h

-- a primary left alone: the secondary was stopped
left_alone : (a : Start) (steps : List Step) (past : Past) → Reached Fits a steps past
    → is_primary_stop past.stop ≡ false → is_stopped past.stop ≡ true → Leaves past (lose_links past)
left_alone a steps past r running stopped = record {
  primary = λ e. (ap (λ (b : Bool). b && past.is_reported) running, refl);
  secondary = λ e. absurd (true≢false (sym stopped
      ∙ or_from (is_primary_stop past.stop) (is_secondary_stop past.stop) running e));
  copy = λ e. absurd (true≢false (sym e));
}

turn_accounts : (a : Start) (steps : List Step) (past : Past) (d : ℕ) (i : Bool) (b n : ℕ) (s : Step)
    → Reached Fits a steps past → accepted_in s.entry.answer ≡ None → AccountsFor a steps past
    → AccountsFor a (steps ++ s ∷ [])
    (turn_secondary past (Secondary d i b n)
    (turn_from a.kind past.secondary past.secondary_inbox i (numbers_of d b n))).after
unfolding turn_secondary
turn_accounts a steps past d i b n s r none h =
    let made = turn_from a.kind past.secondary past.secondary_inbox i (numbers_of d b n) in
    let after = (turn_secondary past (Secondary d i b n) made).after in
    left_accounts a steps past after s r none (same_leaves past after refl refl refl
    (taken_order a.kind past.secondary past.secondary_inbox i (numbers_of d b n) (frames_on past.to_secondary)) refl
    refl) h

-- the primary's order after its turn
turned_order : (a : Start) (past : Past) (i : Bool) (d b n : ℕ)
    → primary_order (primary_base past (turn_from a.kind past.primary past.primary_inbox i (numbers_of d b n)))
    ≡ primary_order past
turned_order a past i d b n =
    let made = turn_from a.kind past.primary past.primary_inbox i (numbers_of d b n) in
    ap (λ (is : List ℕ). took_indices made.run ++ is) (sym (append-nil (inbox_indices made.inbox)))
    ∙ (taken_order a.kind past.primary past.primary_inbox i (numbers_of d b n) []
    ∙ ap (λ (is : List ℕ). took_indices past.primary ++ is) (append-nil (inbox_indices past.primary_inbox)))

account_cases : (a : Start) → Cases a.kind a.stream (Keeps Fits a (Account a))
unfolding secondary_survives turn_secondary
account_cases a = record {
  idle =
      λ past x e f steps r fits h. left_accounts a steps past past (step_with x Nothing [] None []) r refl
      (same_leaves past past refl refl refl refl refl refl) h;
  primary_turn =
      λ past d i b n e f steps r fits h.
      let made = turn_from a.kind past.primary past.primary_inbox i (numbers_of d b n) in
      let base = primary_base past made in
      let none = beside_no_end past.to_secondary (calm_of past (one_checkpoint Fits a steps past r) f).down in
      let l = same_leaves past base refl refl (turned_order a past i d b n) refl refl refl in
      primary_settled (λ step after. AccountsFor a (steps ++ step ∷ []) after) past d i b n made
      (λ out ns ps new. settled_accounts a steps past base
      (step_with (Primary d i b n) (Made made.index (length out)) [] None out) ns ps new r refl l h)
      (λ out ns ps new why alone. caught_accounts a steps past base
      (step_with (Primary d i b n) (Made made.index (length out))
      (Captured (next_capture (told_past base ns ps new)) why ∷ []) None out) ns ps new r refl l alone none h);
  secondary_turn =
      λ past d i b n e f steps r fits h.
      let made = turn_from a.kind past.secondary past.secondary_inbox i (numbers_of d b n) in
      turn_accounts a steps past d i b n (step_with (Secondary d i b n) (Made made.index 0) [] None []) r refl h;
  survivor_turn =
      λ past d i b n e steps r fits h.
      let made = turn_from a.kind past.secondary past.secondary_inbox i (numbers_of d b n) in
      let base = secondary_base past made in
      let lone = (and_parts (is_primary_stop past.stop) past.is_reported e).1 in
      let l = same_leaves past base refl refl refl
      (taken_order a.kind past.secondary past.secondary_inbox i (numbers_of d b n) (frames_on past.to_secondary)) refl
      refl in
      survivor_settled (λ step after. AccountsFor a (steps ++ step ∷ []) after) past d i b n made
      (λ out ns ps new. settled_accounts a steps past base
      (step_with (Secondary d i b n) (Made made.index (length out)) [] None out) ns ps new r refl l h)
      (λ out ns ps new why alone. absurd (true≢false (sym lone ∙ alone)));
  accepts =
      λ past frame kept t e f steps r fits h.
      let w = waiting_of past (look_at past (tcp_in kept)) kept in
      accepted_accounts a steps past w (step_with Client (Accepted past.next w.seen w.trim 0) [] None [])
      (is_primary_stop past.stop) r refl refl t.1 (lone_links a steps past r) h;
  is_full =
      λ past frame kept t e f steps r fits h. passed_accounts a steps past
      (step_with Client (Full past.next) [] None []) r refl h;
  answers =
      λ past frame b t e steps r fits h. passed_accounts a steps past
      (step_with Client (Arp past.next) [] None (reply b ∷ [])) r refl h;
  drops =
      λ past frame why t e steps r fits h. passed_accounts a steps past
      (step_with Client (Dropped past.next why.number) [] None []) r refl h;
  loses =
      λ past frame t e f steps r fits h. passed_accounts a steps past (step_with Client (Lost past.next) [] None []) r
      refl h;
  secondary_hears =
      λ past m ms e f g steps r fits h. heard_accounts a steps past m ms r e
      (pop_down past m ms e (one_checkpoint Fits a steps past r)) h;
  ignores =
      λ past m ms e f g running alone steps r fits h. left_accounts a steps past (record past { to_primary = ms })
      (step_with ToPrimary (HeardBack (number_of m) past.sent_heard 0) [] (Some m) []) r refl
      (same_leaves past (record past { to_primary = ms }) refl refl refl refl refl refl) h;
  primary_hears =
      λ past m ms e f running alone steps r fits h. back_accounts a steps past m ms r f alone
      (pop_up past m ms e (one_checkpoint Fits a steps past r)) h;
  primary_stops =
      λ past steps r fits h. primary_stopped a steps past (step_with StopPrimary Zero [] None []) r refl
      (fits.stop refl) h;
  secondary_stops =
      λ past steps r fits h. secondary_stopped a steps past (step_with StopSecondary Zero [] None []) r refl
      (fits.stop refl) h;
  secondary_left =
      λ past e steps r fits h. lost_accounts a steps past _ _ r refl refl e
      (ap (λ (b : Bool). b && true) e) (primary_not_secondary past.stop e) refl refl refl h;
  primary_left =
      λ past e steps r fits h.
      left_settled (λ step after. AccountsFor a (steps ++ step ∷ []) after) past
      (λ out ns ps new. settled_accounts a steps past (lose_links past)
      (step_with Report (Reported (length out)) [] None out) ns ps new r refl
      (left_alone a steps past r e (fits.stopped refl)) h);
  asks =
      λ past e f g steps r fits h.
      let none = beside_no_end past.to_secondary (calm_of past (one_checkpoint Fits a steps past r) e).down in
      captured_accounts a (steps ++ step_with Ask Zero (Captured (next_capture past) Asked ∷ []) None [] ∷ []) past
      (ap (λ (b : Bool). b && past.is_reported) f) none
      (left_accounts a steps past past (step_with Ask Zero (Captured (next_capture past) Asked ∷ []) None []) r refl
      (same_leaves past past refl refl refl refl refl refl) h);
}

pub each_accounted : (a : Start) (steps : List Step) (past : Past) → Reached Fits a steps past
    → AccountsFor a steps past
each_accounted a =
    each_history Fits a (Account a) (record { primary = λ e. tt; secondary = λ e. tt; copy = λ e. tt })
    (account_cases a)
