-- Until a report the secondary has each number that the primary knows it to have, and each that it says on its link
-- with no acknowledgement after it: every event keeps both.
use Rattle.std.proofs.Common.{◌≡◌, ℕ, ◌+◌, ◌&&◌, not, Bool, true, false, List, [], ◌∷◌, ◌++◌, append-nil, map, Option, None, Some, refl, sym, ap, subst, ◌∙◌, true≢false}
use Rattle.std.proofs.Math.Bool.{or-true}
use Rattle.std.proofs.lemmas.Bool.{and_parts, or_parts}
use Rattle.std.proofs.lemmas.List.Folds.{list_any-append}
use Rattle.std.specs.Prelude.{⊤}
use Rattle.inet_frame.specs.declared.tuple.Tuple.{Tuple}
use Rattle.tcp_track.specs.Stands.{segments}
use Rattle.settle_rules.specs.Numbers.{KeptNumber, kept_number}
use Rattle.settle_rules.specs.OwnFrames.{no_own_frames, own_frames}
use Rattle.frame_mirror.specs.declared.ring.Waiting.{Waiting}
use Rattle.colo_wire.specs.declared.messages.Message.{Message}
use Rattle.colo_wire.specs.declared.messages.Message.TheVariants.{End, Known, Sent, Ack}
use Rattle.replay_log.specs.declared.lines.Line.{Line}
use Rattle.replay_log.specs.declared.lines.Line.TheVariants.{Primary, Secondary, ToPrimary}
use Rattle.replay_log.specs.declared.records.Answer.{Answer}
use Rattle.replay_log.specs.declared.records.Answer.TheVariants.{HeardBack, Made}
use Rattle.replay_log.specs.declared.records.Mark.{Mark}
use Rattle.replay_log.specs.declared.records.Mark.TheVariants.{Acknowledged}
use Rattle.pair_theorem.specs.Checkpoint.{capture}
use Rattle.pair_theorem.specs.ClientFrames.{trims_by}
use Rattle.pair_theorem.specs.Events.{Settling, accept_by, ack_ended, acknowledge, committed_items, counted_frames, ended_by, hear_end, hear_frame, hear_number, is_ack_message, known_ended, no_frames, number_said, numbers_of, outcome_with, primary_ended, primary_hears, restarts_in, secondary_hears, secondary_survives, sent_ended, settle_event, turn_primary, turn_secondary}
use Rattle.pair_theorem.specs.GuestTurns.{TurnMade, turn_from}
use Rattle.pair_theorem.specs.Past.{Outcome, Past, Start, Step, first_past, is_primary_stop}
use Rattle.pair_theorem.specs.Starts.{IsStart, boots}
use Rattle.pair_theorem.proofs.EachHistory.{Fits, Keeps, Reached, each_history}
use Rattle.pair_theorem.proofs.EventCases.{Cases, settled_case}
use Rattle.pair_theorem.proofs.MessageCases.{heard_back_case, heard_case}
use Rattle.theorem_runs.specs.Links.{IsBeside, IsPart, IsPaused, IsReply}
use Rattle.theorem_runs.proofs.Checkpoints.{HeardBackFirst, HeardFirst, acks, beside, beside_frames, ends, one_checkpoint, part, pop_down, pop_up, replies, reply_calm}
use Rattle.theorem_runs.proofs.Orders.{beside_no_end}
use Rattle.theorem_runs.proofs.Pausing.{is_paused}
use Rattle.theorem_runs.proofs.Settled.{known_base, left_settled, primary_base, sent_base, survivor_settled}
use Rattle.theorem_splices.specs.Known.{has_ack}
use Rattle.theorem_splices.specs.Numbers.{AgreeOnNumbers, numbers_on, plain_numbers}
use Rattle.theorem_splices.proofs.NumberLemmas.{numbers_agree}
use Rattle.theorem_splices.proofs.KnownSteps.{replies_hold_no_ack}
use Rattle.theorem_splices.proofs.NumberLinks.{frames_hold_no_number}
use Rattle.theorem_numbers.proofs.SynLemmas.{HasNumber}
use Rattle.theorem_survivor.proofs.LogLemmas.{of_each_log}
use Rattle.theorem_survivor.proofs.HadLemmas.{KeepsAll, KnownHad, all_learnt_had, as_kept, keep_keeps, learnt_had, own_had, plain_keeps, said_had, thinned_had}

-- WHAT IS SAID of a number is of one that the secondary has
abbrev pub SaysHad : List KeptNumber → Message → Type 0
SaysHad theirs m =
    (t : Tuple) (client number : ℕ) → m ≡ Known t client number → HasNumber theirs t client number

-- of each message on the link to the primary, with no acknowledgement after it
abbrev pub AllSayHad : List KeptNumber → List Message → Type 0
AllSayHad theirs [] = ⊤
AllSayHad theirs (m ∷ ms) = (has_ack (m ∷ ms) ≡ false → SaysHad theirs m) × AllSayHad theirs ms

no_ack_front : (ms more : List Message) → has_ack (ms ++ more) ≡ false → has_ack ms ≡ false
no_ack_front ms more e =
    (or_parts (has_ack ms) (has_ack more) (sym (list_any-append is_ack_message ms more) ∙ e)).0

has_ack_last : (ms : List Message) (e : ℕ) → has_ack (ms ++ Ack e ∷ []) ≡ true
has_ack_last ms e = list_any-append is_ack_message ms (Ack e ∷ []) ∙ or-true (has_ack ms)

says_more : (theirs : List KeptNumber) (ms more : List Message) → AllSayHad theirs ms → AllSayHad theirs more
    → AllSayHad theirs (ms ++ more)
says_more theirs [] more h g = g
says_more theirs (m ∷ ms) more h g =
    (λ e. h.0 (no_ack_front (m ∷ ms) more e), says_more theirs ms more h.1 g)

says_before_ack : (theirs : List KeptNumber) (ms : List Message) (e : ℕ) → AllSayHad theirs (ms ++ Ack e ∷ [])
says_before_ack theirs [] e = (λ f. absurd (true≢false f), tt)
says_before_ack theirs (m ∷ ms) e =
    (λ f. absurd (true≢false (sym (has_ack_last (m ∷ ms) e) ∙ f)), says_before_ack theirs ms e)

says_still : (old new : List KeptNumber) (ms : List Message) → KeepsAll old new → AllSayHad old ms
    → AllSayHad new ms
says_still old new [] keeps h = tt
says_still old new (m ∷ ms) keeps h =
    (λ e t client number is. keeps t client number (h.0 e t client number is), says_still old new ms keeps h.1)

abbrev is_sent : Message → Bool
is_sent (Sent frame) = true
is_sent _ = false

sent_says : (theirs : List KeptNumber) (frames : List (List ℕ)) → AllSayHad theirs (map Sent frames)
sent_says theirs [] = tt
sent_says theirs (f ∷ frames) =
    (λ e t client number is. absurd (true≢false (ap is_sent is)), sent_says theirs frames)

-- OF A PAST, until a report
pub record NumbersHad (past : Past) : Type 0 where
  pub known : KnownHad past.numbers past.secondary_numbers
  pub said : AllSayHad past.secondary_numbers past.to_primary

abbrev pub Had : Past → Type 0
Had past = past.is_reported ≡ false → NumbersHad past

abbrev pub HadSteps : List Step → Past → Type 0
HadSteps steps past = Had past

same_had : (past after : Past) → after.is_reported ≡ past.is_reported → after.numbers ≡ past.numbers
    → after.secondary_numbers ≡ past.secondary_numbers → after.to_primary ≡ past.to_primary → Had past → Had after
same_had past after r n s u h alone =
    let g = h (sym r ∙ alone) in
    record {
      known = subst (λ (x : List KeptNumber × List KeptNumber). KnownHad x.0 x.1) (λ i. (sym n i, sym s i)) g.known;
      said = subst (λ (x : List KeptNumber × List Message). AllSayHad x.0 x.1) (λ i. (sym s i, sym u i)) g.said;
    }

captured_had : (past : Past) → Had past → Had (capture past)
unfolding capture
captured_had past h alone =
    record {
      known = thinned_had past.primary.items past.numbers past.secondary_numbers (h alone).known;
      said = (h alone).said;
    }

-- what settles
settles_had : (base : Past) (x : Line) (marks : List Mark) (delivered : Option Message) (answer : ℕ → Answer)
    (s : Settling) → Had base → Had (outcome_with x marks delivered answer (settle_event base s)).after
unfolding settle_event ended_by own_frames capture
settles_had base x marks delivered answer s h =
    let begin = no_own_frames s.before base.numbers base.progress in
    let own = own_frames s.before base.numbers base.progress s.own in
    settled_case (λ (o : Outcome). Had o.after) x marks delivered answer (settle_event base s)
    (λ none alone. (record {
      known = own_had begin s.own base.secondary_numbers (h alone).known;
      said = (h alone).said;
    }))
    (λ why some alone. (record {
      known = thinned_had base.primary.items own.numbers base.secondary_numbers
          (own_had begin s.own base.secondary_numbers (h alone).known);
      said = (h alone).said;
    }))

-- A CLIENT'S FRAME
accepted_had : (b : Bool) (past : Past) (w : Waiting) → Had past → Had (accept_by b past w (trims_by w))
unfolding accept_by
accepted_had true past w h = same_had past (accept_by true past w (trims_by w)) refl refl refl refl h
accepted_had false past w h = same_had past (accept_by false past w (trims_by w)) refl refl refl refl h

-- THE SECONDARY HEARS
told_had : (past : Past) (t : Tuple) (client number : ℕ) → Had past → Had (hear_number past t client number)
told_had past t client number h alone =
    let theirs = past.secondary_numbers in
    let now = (hear_number past t client number).secondary_numbers in
    let keeps : KeepsAll theirs now = keep_keeps theirs t client number in
    let said = number_said (kept_number t client theirs) number in
    record {
      known = λ u other m k. keeps u other m ((h alone).known u other m k);
      said = says_more now past.to_primary (Known t client said ∷ [])
          (says_still theirs now past.to_primary keeps (h alone).said)
          (λ e u other m is. said_here u other m is, tt);
    }
  where
    said_here : (u : Tuple) (other m : ℕ)
        → Known t client (number_said (kept_number t client past.secondary_numbers) number) ≡ Known u other m
        → HasNumber (hear_number past t client number).secondary_numbers u other m
    said_here u other m is =
        let theirs = past.secondary_numbers in
        let now = (hear_number past t client number).secondary_numbers in
        subst (λ (x : Tuple × ℕ × ℕ). HasNumber now x.0 x.1 x.2)
        (ap (λ (x : Message). said_of x) is) (said_had theirs t client number)
      where
        said_of : Message → Tuple × ℕ × ℕ
        said_of (Known v c n) = (v, c, n)
        said_of _ = (t, client, number)

committed_had : (past : Past) (m : Message) (ms : List Message) (n : ℕ) → m ≡ End n → HeardFirst past m ms
    → (past.awaits_ack ≡ true → IsPaused past) → Had (hear_end (record past { to_secondary = ms }) n)
committed_had past m ms n is (beside g one) paused alone = absurd (subst IsBeside is g)
committed_had past m ms n is (part g one) paused alone = absurd (subst IsPart is g)
committed_had past m ms n is (ends told later same end g) paused alone =
    let numbers_are = (paused g.awaits).numbers in
    record {
      known = λ t client number k. subst (λ (ks : List KeptNumber). HasNumber ks t client number) numbers_are
          (as_kept past.numbers t client number k);
      said = says_before_ack past.copy.numbers past.to_primary n;
    }

heard_had : (past : Past) (m : Message) (ms : List Message) → HeardFirst past m ms
    → (past.awaits_ack ≡ true → IsPaused past) → Had past
    → Had (secondary_hears (record past { to_secondary = ms }) m).after
unfolding hear_frame
heard_had past m ms first paused h =
    let p : Past = record past { to_secondary = ms } in
    let now : Had p = same_had past p refl refl refl refl h in
    heard_case (λ o. Had o.after) p m (λ index seen trim frame is. same_had past _ refl refl refl refl h)
    (λ t client number is. told_had p t client number now) (λ n is. committed_had past m ms n is first paused)
    (λ apart. now)

-- THE PRIMARY HEARS
popped_had : (past : Past) (m : Message) (ms : List Message) → past.to_primary ≡ m ∷ ms → Had past
    → Had (record past { to_primary = ms })
popped_had past m ms e h alone =
    record {
      known = (h alone).known;
      said = (subst (AllSayHad past.secondary_numbers) e (h alone).said).1;
    }

pub number_had : (past : Past) (m : Message) (ms : List Message) (t : Tuple) (client number : ℕ)
    → past.to_primary ≡ m ∷ ms → m ≡ Known t client number → has_ack ms ≡ false → Had past
    → Had (known_base (record past { to_primary = ms }) t client number)
number_had past m ms t client number e is none h alone =
    let all = subst (AllSayHad past.secondary_numbers) (e ∙ ap (λ (x : Message). x ∷ ms) is) (h alone).said in
    record {
      known = learnt_had past.numbers past.secondary_numbers t client number (all.0 none t client number refl)
          (h alone).known;
      said = all.1;
    }

-- at an acknowledgement the secondary has the numbers that the primary keeps
acked_keeps : (past : Past) (m : Message) (n : ℕ) (ms : List Message) → m ≡ Ack n → HeardBackFirst past m ms
    → (past.awaits_ack ≡ true → IsPaused past) → AgreeOnNumbers past → past.is_reported ≡ false
    → KeepsAll past.numbers past.secondary_numbers
acked_keeps past m n ms is (replies g one) paused agree alone = absurd (subst IsReply is g)
acked_keeps past m n ms is (acks same g) paused agree alone =
    let theirs = past.secondary_numbers in
    let endless = beside_no_end past.to_secondary (beside_frames past.to_secondary g.down) in
    let none = frames_hold_no_number past.to_secondary g.down in
    let all : theirs ++ numbers_on past.to_secondary ≡ theirs =
    ap (λ (ks : List KeptNumber). theirs ++ ks) none ∙ append-nil theirs in
    plain_keeps past.numbers theirs
    (ap plain_numbers (paused g.awaits).numbers
    ∙ (sym ((agree alone).coming g.awaits endless) ∙ ap plain_numbers all))

pub acked_had : (past : Past) (m : Message) (n : ℕ) (ms : List Message) → past.to_primary ≡ m ∷ ms → m ≡ Ack n
    → HeardBackFirst past m ms → (past.awaits_ack ≡ true → IsPaused past) → AgreeOnNumbers past → Had past
    → Had (acknowledge (record past { to_primary = ms }))
acked_had past m n ms e is first paused agree h alone = record {
  known = all_learnt_had past.numbers past.secondary_numbers (acked_keeps past m n ms is first paused agree alone);
  said = (subst (AllSayHad past.secondary_numbers) e (h alone).said).1;
}

back_had : (past : Past) (m : Message) (ms : List Message) → past.to_primary ≡ m ∷ ms
    → (past.awaits_ack && not (is_ack_message m)) ≡ false → HeardBackFirst past m ms
    → (past.awaits_ack ≡ true → IsPaused past) → AgreeOnNumbers past → Had past
    → Had (primary_hears (record past { to_primary = ms }) m).after
unfolding known_ended sent_ended ack_ended
back_had past m ms e idle first paused agree h =
    let p : Past = record past { to_primary = ms } in
    heard_back_case (λ o. Had o.after) p m
    (λ t client number is. let calm = reply_calm past m (Known t client number) ms is refl idle first in
    settles_had (known_base p t client number) ToPrimary [] (Some (Known t client number))
    (HeardBack 12 past.sent_heard) (no_frames past.primary.items)
    (number_had past m ms t client number e is (replies_hold_no_ack ms calm.up) h))
    (λ frame is. settles_had (sent_base p frame) ToPrimary [] (Some (Sent frame)) (HeardBack 13 (past.sent_heard + 1))
    (record (no_frames past.primary.items) { restarts = restarts_in past.known_items (segments (frame ∷ [])) })
    (same_had p (sent_base p frame) refl refl refl refl (popped_had past m ms e h)))
    (λ n is. settles_had (acknowledge p) ToPrimary (Acknowledged n ∷ []) (Some (Ack n)) (HeardBack 14 0)
    (no_frames (committed_items p)) (acked_had past m n ms e is first paused agree h))
    (λ foreign. popped_had past m ms e h)

-- A SECONDARY'S TURN
turned_had : (past : Past) (d : ℕ) (i : Bool) (b n : ℕ) (made : TurnMade) → Had past
    → Had (turn_secondary past (Secondary d i b n) made).after
unfolding turn_secondary
turned_had past d i b n made h alone = record {
  known = (h alone).known;
  said = says_more past.secondary_numbers past.to_primary (map Sent (counted_frames made.output)) (h alone).said
      (sent_says past.secondary_numbers (counted_frames made.output));
}

-- EVERY EVENT
pub agree_reached : (a : Start) → IsStart a → (steps : List Step) (past : Past) → Reached Fits a steps past
    → AgreeOnNumbers past
agree_reached a start =
    of_each_log a (λ (steps : List Step) (past : Past). AgreeOnNumbers past)
    (λ lines one. numbers_agree a lines start one)

had_cases : (a : Start) → IsStart a → Cases a.kind a.stream (Keeps Fits a HadSteps)
unfolding secondary_survives turn_primary primary_ended
had_cases a start = record {
  idle = λ past x e f steps r fits h. h;
  primary_turn =
      λ past d i b n e f steps r fits h.
      let made = turn_from a.kind past.primary past.primary_inbox i (numbers_of d b n) in
      settles_had (primary_base past made) (Primary d i b n) [] None (Made made.index) (record {
        before = past.primary.items;
        own = segments made.output;
        restarts = [];
        is_turn = true;
      }) (same_had past (primary_base past made) refl refl refl refl h);
  secondary_turn =
      λ past d i b n e f steps r fits h. turned_had past d i b n
      (turn_from a.kind past.secondary past.secondary_inbox i (numbers_of d b n)) h;
  survivor_turn =
      λ past d i b n e steps r fits h.
      let reported = (and_parts (is_primary_stop past.stop) past.is_reported e).1 in
      survivor_settled (λ step after. Had after) past d i b n
      (turn_from a.kind past.secondary past.secondary_inbox i (numbers_of d b n))
      (λ out ns ps new unreported. absurd (true≢false (sym reported ∙ unreported)))
      (λ out ns ps new why alone. absurd (true≢false (sym reported ∙ alone)));
  accepts = λ past frame kept t e f steps r fits h. accepted_had (is_primary_stop past.stop) past _ h;
  is_full = λ past frame kept t e f steps r fits h. same_had past _ refl refl refl refl h;
  answers = λ past frame b t e steps r fits h. same_had past _ refl refl refl refl h;
  drops = λ past frame why t e steps r fits h. same_had past _ refl refl refl refl h;
  loses = λ past frame t e f steps r fits h. same_had past _ refl refl refl refl h;
  secondary_hears =
      λ past m ms e f g steps r fits h. heard_had past m ms (pop_down past m ms e (one_checkpoint Fits a steps past r))
      (is_paused a steps past r) h;
  ignores = λ past m ms e f g running alone steps r fits h. popped_had past m ms e h;
  primary_hears =
      λ past m ms e f running alone steps r fits h. back_had past m ms e f
      (pop_up past m ms e (one_checkpoint Fits a steps past r)) (is_paused a steps past r)
      (agree_reached a start steps past r) h;
  primary_stops = λ past steps r fits h. same_had past _ refl refl refl refl h;
  secondary_stops = λ past steps r fits h. same_had past _ refl refl refl refl h;
  secondary_left = λ past e steps r fits h alone. absurd (true≢false alone);
  primary_left =
      λ past e steps r fits h. left_settled (λ step after. Had after) past
      (λ out ns ps new alone. absurd (true≢false alone));
  asks = λ past e f g steps r fits h. captured_had past h;
}

first_had : (a : Start) → IsStart a → Had (first_past a)
first_had a (boots kind stream state m n regular fits bytes frames) alone =
    record { known = λ t client number k. absurd (cc k.found); said = tt }

pub had_reached : (a : Start) → IsStart a → (steps : List Step) (past : Past) → Reached Fits a steps past → Had past
had_reached a start = each_history Fits a HadSteps (first_had a start) (had_cases a start)
