-- A number that is kept stays so through an event, but where a capture drops that of a client that isn't current.
use Rattle.std.proofs.Common.{◌≡◌, ◌⊎◌, inl, inr, ℕ, ◌+◌, ◌==◌, Bool, true, false, ◌&&◌, List, [], ◌∷◌, ◌++◌, map, fold, Option, None, Some, is_some, refl, sym, ap, subst, ◌∙◌, eqb-true, true≢false}
use Rattle.inet_frame.specs.Counted.{tcp_in}
use Rattle.inet_frame.specs.Fields.{TcpFields}
use Rattle.inet_frame.specs.declared.tuple.Tuple.{Tuple}
use Rattle.tcp_track.specs.Lines.{Item, line, sent}
use Rattle.tcp_track.specs.Stands.{segments}
use Rattle.tcp_track.specs.declared.openings.Opening.{Opening}
use Rattle.settle_rules.specs.Numbers.{KeptNumber, kept_number, learn_number, new_number, number_or_zero, thin}
use Rattle.settle_rules.specs.OwnFrames.{OwnFrames, no_own_frames, own_after, own_frames}
use Rattle.frame_mirror.specs.declared.ring.Waiting.{Waiting}
use Rattle.state_wire.specs.Guest.{Kind}
use Rattle.colo_wire.specs.declared.messages.Message.{Message}
use Rattle.colo_wire.specs.declared.messages.Message.TheVariants.{Known, Sent, Ack}
use Rattle.replay_log.specs.declared.lines.Line.{Line}
use Rattle.replay_log.specs.declared.lines.Line.TheVariants.{Primary, Secondary, ToPrimary, Report}
use Rattle.replay_log.specs.declared.records.Answer.{Answer}
use Rattle.replay_log.specs.declared.records.Answer.TheVariants.{Made, HeardBack, Reported}
use Rattle.replay_log.specs.declared.records.Mark.{Mark}
use Rattle.replay_log.specs.declared.records.Mark.TheVariants.{Acknowledged}
use Rattle.pair_theorem.specs.Checkpoint.{capture}
use Rattle.pair_theorem.specs.ClientFrames.{trims_by}
use Rattle.pair_theorem.specs.Events.{Settling, accept_by, ack_ended, acknowledge, committed_items, ended_by, hear_end, hear_frame, hear_number, known_ended, lose_links, look_at, no_frames, numbers_of, outcome_with, passed_frame, primary_ended, primary_hears, primary_survives, raise_count, restarts_in, secondary_hears, secondary_survives, sent_ended, settle_event, survivor_ended, turn_primary, turn_secondary, turn_survivor, waiting_of}
use Rattle.pair_theorem.specs.Messages.{waiting_in}
use Rattle.pair_theorem.specs.GuestTurns.{TurnMade, turn_from}
use Rattle.pair_theorem.specs.Past.{Past, is_primary_stop, primary_stop, secondary_releases, secondary_stop}
use Rattle.pair_theorem.proofs.EventCases.{Cases, settled_case}
use Rattle.pair_theorem.proofs.MessageCases.{heard_back_case, heard_case}
use Rattle.theorem_stands.proofs.KeptLemmas.{KeepsAlike, all_learnt, kept_more, kept_thinned, number_for, one_learnt}
use Rattle.theorem_numbers.proofs.SynLemmas.{HasNumber, has_number}

-- WHAT IS KEPT
is_kept : (numbers : List KeptNumber) (t : Tuple) (c n : ℕ) → HasNumber numbers t c n →
    (is_some (kept_number t c numbers) ≡ true) × (number_for t c numbers ≡ n)
is_kept numbers t c n h = (ap is_some h.found, ap number_or_zero h.found ∙ h.number_is)

has_alike : (old new : List KeptNumber) (t : Tuple) (c n : ℕ) → KeepsAlike old new t c → HasNumber old t c n →
    HasNumber new t c n
has_alike old new t c n same h =
    let kept = is_kept old t c n h in
    has_number new t c n (same.some ∙ kept.0) (same.number ∙ kept.1)

own_has : (own : OwnFrames) (xs : List TcpFields) (t : Tuple) (c n : ℕ) → HasNumber own.numbers t c n →
    HasNumber (fold own_after own xs).numbers t c n
own_has own [] t c n h = h
own_has own (s ∷ xs) t c n h =
    own_has (own_after own s) xs t c n (record {
      kept = h.kept;
      found = kept_more t c own.numbers (new_number own.numbers s) (ap is_some h.found) ∙ h.found;
      number_is = h.number_is;
    })

-- a client that the primary's current opening is not of
abbrev pub NotCurrent : List Item → Tuple → ℕ → Type 0
NotCurrent items t c = (o : Opening) → (line t items).opening ≡ Some o → (o.client == c) ≡ false

thinned_has : (items : List Item) (numbers : List KeptNumber) (t : Tuple) (c n : ℕ) → HasNumber numbers t c n →
    HasNumber (thin items numbers) t c n ⊎ NotCurrent items t c
thinned_has items numbers t c n h = by (line t items).opening refl
  where
    by : (now : Option Opening) → (line t items).opening ≡ now →
        HasNumber (thin items numbers) t c n ⊎ NotCurrent items t c
    by None e = inr (λ o f. absurd (cc (sym e ∙ f)))
    by (Some q) e = test (q.client == c) refl
      where
        same : (a b : Opening) → Some a ≡ Some b → a ≡ b
        same a b f = cc

        test : (b : Bool) → (q.client == c) ≡ b → HasNumber (thin items numbers) t c n ⊎ NotCurrent items t c
        test true f =
            let is : q.client ≡ c = eqb-true q.client c f in
            inl (record {
              kept = h.kept;
              found = subst (λ (d : ℕ). kept_number t d (thin items numbers) ≡ kept_number t d numbers) is
                  (kept_thinned items t q numbers e) ∙ h.found;
              number_is = h.number_is;
            })
        test false f = inr (λ o g. subst (λ (r : Opening). (r.client == c) ≡ false) (same q o (sym e ∙ g)) f)

-- EVENTS: what was kept is kept, or of a client that isn't current
abbrev pub GoOn : List KeptNumber → Past → Type 0
GoOn numbers new =
    (t : Tuple) (c n : ℕ) → HasNumber numbers t c n →
    HasNumber new.numbers t c n ⊎ NotCurrent new.primary.items t c

settled_on : (p : Past) (x : Settling) (l : Line) (marks : List Mark) (delivered : Option Message)
    (answer : ℕ → Answer) → GoOn p.numbers (outcome_with l marks delivered answer (settle_event p x)).after
unfolding settle_event ended_by own_frames capture
settled_on p x l marks delivered answer t c n h =
    let begin = no_own_frames x.before p.numbers p.progress in
    let own = own_frames x.before p.numbers p.progress x.own in
    let kept : HasNumber own.numbers t c n = own_has begin x.own t c n h in
    settled_case (λ o. HasNumber o.after.numbers t c n ⊎ NotCurrent o.after.primary.items t c) l marks delivered answer
    (settle_event p x) (λ none. inl kept) (λ why some. thinned_has p.primary.items own.numbers t c n kept)

alike_on : (old : List KeptNumber) (p : Past) (x : Settling) (l : Line) (marks : List Mark) (delivered : Option Message)
    (answer : ℕ → Answer) → ((t : Tuple) (c : ℕ) → KeepsAlike old p.numbers t c) →
    GoOn old (outcome_with l marks delivered answer (settle_event p x)).after
alike_on old p x l marks delivered answer same t c n h =
    settled_on p x l marks delivered answer t c n (has_alike old p.numbers t c n (same t c) h)

kept_on : (past new : Past) → new.numbers ≡ past.numbers → GoOn past.numbers new
kept_on past new same t c n h = inl (subst (λ (ks : List KeptNumber). HasNumber ks t c n) (sym same) h)

primary_on : (past : Past) (l : Line) (made : TurnMade) → GoOn past.numbers (turn_primary past l made).after
unfolding turn_primary primary_ended
primary_on past l made =
    settled_on (record past {
      primary = made.run;
      primary_inbox = made.inbox;
      primary_turned = raise_count past.primary_turned;
    }) (record {
      before = past.primary.items;
      own = segments made.output;
      restarts = [];
      is_turn = true;
    }) l [] None (Made made.index)

survivor_on : (past : Past) (l : Line) (made : TurnMade) → GoOn past.numbers (turn_survivor past l made).after
unfolding turn_survivor survivor_ended
survivor_on past l made =
    settled_on (record past {
      secondary = made.run;
      secondary_inbox = made.inbox;
      secondary_turned = raise_count past.secondary_turned;
    }) (record {
      before = past.secondary.items;
      own = segments made.output;
      restarts = [];
      is_turn = true;
    }) l [] None (Made made.index)

heard_on : (past : Past) (m : Message) → GoOn past.numbers (primary_hears past m).after
unfolding known_ended sent_ended ack_ended
heard_on past m =
    heard_back_case (λ o. GoOn past.numbers o.after) past m
    (λ t client number is.
    alike_on past.numbers (record past { numbers = learn_number past.numbers t client number })
    (no_frames past.primary.items) ToPrimary [] (Some (Known t client number)) (HeardBack 12 past.sent_heard)
    (λ u c. one_learnt past.numbers t client number u c))
    (λ frame is.
    settled_on (record past {
      sent_heard = past.sent_heard + 1;
      known_items = past.known_items ++ map sent (segments (frame ∷ []));
    }) (record (no_frames past.primary.items) { restarts = restarts_in past.known_items (segments (frame ∷ [])) })
    ToPrimary [] (Some (Sent frame)) (HeardBack 13 (past.sent_heard + 1)))
    (λ n is.
    alike_on past.numbers (acknowledge past) (no_frames (committed_items past)) ToPrimary (Acknowledged n ∷ [])
    (Some (Ack n)) (HeardBack 14 0) (λ u c. all_learnt past.numbers u c))
    (λ foreign. kept_on past past refl)

told_on : (past : Past) (m : Message) → GoOn past.numbers (secondary_hears past m).after
unfolding hear_frame
told_on past m =
    heard_case (λ o. GoOn past.numbers o.after) past m
    (λ index seen trim frame is. kept_on past (hear_frame past (waiting_in index seen trim frame)) refl)
    (λ t client number is. kept_on past (hear_number past t client number) refl)
    (λ n is. kept_on past (hear_end past n) refl) (λ apart. kept_on past past refl)

left_on : (past : Past) → GoOn past.numbers (outcome_with Report [] None Reported (primary_survives past)).after
unfolding primary_survives
left_on past = settled_on (lose_links past) (no_frames past.primary.items) Report [] None Reported

accepted_on : (b : Bool) (past : Past) (w : Waiting) → GoOn past.numbers (accept_by b past w (trims_by w))
unfolding accept_by
accepted_on true past w = kept_on past (accept_by true past w (trims_by w)) refl
accepted_on false past w = kept_on past (accept_by false past w (trims_by w)) refl

survived_on : (past : Past) → is_primary_stop past.stop ≡ true →
    secondary_releases (secondary_survives past).after ≡ false → GoOn past.numbers (secondary_survives past).after
unfolding secondary_survives
survived_on past e f = absurd (true≢false (sym (ap (λ (b : Bool). b && true) e) ∙ f))

pub each_on : (kind : Kind) (stream : List (List ℕ)) →
    Cases kind stream (λ past x o. secondary_releases o.after ≡ false → GoOn past.numbers o.after)
unfolding turn_secondary capture
each_on kind stream = record {
  idle = λ past x e f primary. kept_on past past refl;
  primary_turn = λ past d i b n e f primary.
      primary_on past (Primary d i b n) (turn_from kind past.primary past.primary_inbox i (numbers_of d b n));
  secondary_turn = λ past d i b n e f primary. kept_on past (turn_secondary past (Secondary d i b n)
      (turn_from kind past.secondary past.secondary_inbox i (numbers_of d b n))).after refl;
  survivor_turn = λ past d i b n e primary.
      survivor_on past (Secondary d i b n) (turn_from kind past.secondary past.secondary_inbox i (numbers_of d b n));
  accepts = λ past frame kept t e f primary. accepted_on (is_primary_stop past.stop) past
      (waiting_of past (look_at past (tcp_in kept)) kept);
  is_full = λ past frame kept t e f primary. kept_on past (passed_frame past) refl;
  answers = λ past frame b t e primary. kept_on past (passed_frame past) refl;
  drops = λ past frame why t e primary. kept_on past (passed_frame past) refl;
  loses = λ past frame t e f primary. kept_on past (passed_frame past) refl;
  secondary_hears = λ past m ms e f g primary. told_on (record past { to_secondary = ms }) m;
  ignores = λ past m ms e f g running alone primary. kept_on past (record past { to_primary = ms }) refl;
  primary_hears = λ past m ms e f running alone primary. heard_on (record past { to_primary = ms }) m;
  primary_stops = λ past primary. kept_on past (record past { stop = primary_stop }) refl;
  secondary_stops = λ past primary. kept_on past (record past { stop = secondary_stop }) refl;
  secondary_left = λ past e primary. survived_on past e primary;
  primary_left = λ past e primary. left_on past;
  asks = λ past e f g primary t c n h. thinned_has past.primary.items past.numbers t c n h;
}
