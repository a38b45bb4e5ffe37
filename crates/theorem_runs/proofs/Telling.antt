-- What the secondary was told ends with a whole checkpoint where it hears an End, and so it is then in the state that
-- all it was told spells.
use Rattle.std.proofs.Common.{◌≡◌, ℕ, ◌+◌, ◌&&◌, ◌||◌, not, Bool, true, false, List, [], ◌∷◌, ◌++◌, append-nil, append_assoc, fold, length, map, Option, None, Some, refl, sym, ap, subst, ◌∙◌, arith, length-append, unwrap_or, true≢false}
use Rattle.std.specs.Prelude.{if◌then◌else◌}
use Rattle.std.proofs.Math.Bool.{or-false}
use Rattle.std.proofs.lemmas.Bool.{and_parts}
use Rattle.std.proofs.lemmas.Grind.{flat_map-append, fold-append}
use Rattle.std.proofs.lemmas.List.{same_from_push}
use Rattle.std.proofs.lemmas.List.Folds.{list_any-append}
use Rattle.inet_frame.specs.Counted.{tcp_in}
use Rattle.settle_rules.specs.Numbers.{KeptNumber}
use Rattle.settle_rules.specs.Progress.{ProgressTable}
use Rattle.settle_rules.specs.Release.{reply}
use Rattle.state_wire.specs.Regular.{IsRegular}
use Rattle.frame_mirror.specs.declared.ring.Waiting.{Waiting}
use Rattle.colo_wire.specs.declared.messages.Message.{Message}
use Rattle.colo_wire.specs.declared.messages.Message.TheVariants.{Frame, Number, Begin, State, Page, Disk, Write, Held, Bytes, End, Known, Sent, Ack}
use Rattle.colo_wire.specs.declared.messages.Message.TheVariants as message
use Rattle.kept_checkpoint.specs.Spelled.{spell}
use Rattle.replay_log.specs.declared.lines.Line.{Line}
use Rattle.replay_log.specs.declared.lines.Line.TheVariants.{Primary, Secondary, Client, ToSecondary, ToPrimary, StopPrimary, StopSecondary, Report, Ask}
use Rattle.replay_log.specs.declared.records.Answer.TheVariants.{Accepted, Arp, Dropped, Full, Heard, HeardBack, Lost, Made, Nothing, Zero}
use Rattle.replay_log.specs.declared.records.Mark.TheVariants.{Acknowledged, Committed}
use Rattle.pair_theorem.specs.Checkpoint.{capture, checkpoint_messages}
use Rattle.pair_theorem.specs.ClientFrames.{trims_by}
use Rattle.pair_theorem.specs.Events.{accept_by, acknowledge, hear_frame, hear_number, is_ack_message, look_at, number_message, numbers_of, outcome_of, passed_frame, primary_hears, secondary_hears, secondary_survives, turn_secondary, waiting_of}
use Rattle.pair_theorem.specs.GuestTurns.{TurnMade, turn_from}
use Rattle.pair_theorem.specs.LogParts.{nodes_at, told_secondary, told_with}
use Rattle.pair_theorem.specs.Messages.{frame_message, number_of, waiting_in}
use Rattle.pair_theorem.specs.Past.{Past, Start, Step, is_primary_stop, primary_stop, secondary_stop, step_with}
use Rattle.pair_theorem.specs.Starts.{IsStart, boots}
use Rattle.pair_theorem.proofs.EachHistory.{Any, Keeps, Reached, begins, each_any_log, each_history, goes}
use Rattle.pair_theorem.proofs.EventCases.{Cases, Claim, each_case}
use Rattle.pair_theorem.proofs.MessageCases.{heard_back_case, heard_case}
use Rattle.theorem_runs.specs.Laws.{ToldOfEachLog}
use Rattle.theorem_runs.specs.Links.{IsBeside, IsPart, IsReply, copied_parts}
use Rattle.theorem_runs.specs.Runs.{IsState, Tells, has_end, is_end, until_end}
use Rattle.theorem_runs.proofs.Checkpoints.{HeardBackFirst, HeardFirst, ack_calm, acks, beside, beside_frames, calm_of, ends, one_checkpoint, part, parts_are, pop_down, pop_up, replies, reply_calm}
use Rattle.theorem_runs.proofs.Accounting.{told_end}
use Rattle.theorem_runs.proofs.Orders.{apart_brings_none, beside_no_end, parts_no_end, told_no_end, until_with, until_without}
use Rattle.theorem_runs.proofs.Running.{StartsPlain}
use Rattle.theorem_runs.proofs.Settled.{ack_settled, known_base, known_settled, left_settled, primary_base, primary_settled, secondary_base, sent_base, sent_settled, survivor_settled, told_past}
use Rattle.theorem_runs.proofs.Spelling.{copied_spells, sizes_from, spelled_counts}
use Rattle.theorem_runs.proofs.States.{states_fit}

-- ONE STEP MORE
told-push : (steps : List Step) (s : Step)
    → told_secondary (steps ++ s ∷ []) ≡ told_secondary steps ++ told_with s.entry.line s.delivered
told-push steps s =
    flat_map-append (λ (t : Step). told_with t.entry.line t.delivered) steps (s ∷ [])
    ∙ ap (λ (ms : List Message). told_secondary steps ++ ms) (append-nil (told_with s.entry.line s.delivered))

told_nothing : (steps : List Step) (s : Step) → told_with s.entry.line s.delivered ≡ []
    → told_secondary (steps ++ s ∷ []) ≡ told_secondary steps
told_nothing steps s e =
    told-push steps s
    ∙ (ap (λ (ms : List Message). told_secondary steps ++ ms) e ∙ append-nil (told_secondary steps))

-- an event that tells the secondary nothing, and leaves what it is to hear before an End
quiet_tells : (steps : List Step) (past after : Past) (s : Step) → told_with s.entry.line s.delivered ≡ []
    → (has_end after.to_secondary ≡ true
    → (has_end past.to_secondary ≡ true) × (until_end after.to_secondary ≡ until_end past.to_secondary))
    → after.copy ≡ past.copy → after.captures ≡ past.captures → Tells steps past → Tells (steps ++ s ∷ []) after
quiet_tells steps past after s none link c n h e =
    let k = link e in
    let g = h k.0 in
    record {
      earlier = g.earlier;
      whole = (λ i. told_nothing steps s none i ++ k.1 i)
          ∙ (g.whole ∙ (λ i. g.earlier ++ copied_parts (sym c i) (sym n i)));
    }

same_tells : (steps : List Step) (past after : Past) (s : Step) → told_with s.entry.line s.delivered ≡ []
    → after.to_secondary ≡ past.to_secondary → after.copy ≡ past.copy → after.captures ≡ past.captures
    → Tells steps past → Tells (steps ++ s ∷ []) after
same_tells steps past after s none d c n h =
    quiet_tells steps past after s none (λ e. (ap has_end (sym d) ∙ e, ap until_end d)) c n h

-- A SETTLING AND A CAPTURE
until_told : (past : Past) (ns : List KeptNumber) (ps : ProgressTable) (new : List KeptNumber)
    → has_end past.to_secondary ≡ true
    → until_end (told_past past ns ps new).to_secondary ≡ until_end past.to_secondary
until_told past ns ps new e = by past.is_reported
  where
    by : (b : Bool) → until_end (if b then past.to_secondary else past.to_secondary ++ map number_message new)
        ≡ until_end past.to_secondary
    by true = refl
    by false = until_with past.to_secondary (map number_message new) e

settled_tells : (steps : List Step) (past base : Past) (s : Step) (ns : List KeptNumber) (ps : ProgressTable)
    (new : List KeptNumber) → told_with s.entry.line s.delivered ≡ [] → base.to_secondary ≡ past.to_secondary
    → base.copy ≡ past.copy → base.captures ≡ past.captures → Tells steps past
    → Tells (steps ++ s ∷ []) (told_past base ns ps new)
settled_tells steps past base s ns ps new none d c n h =
    quiet_tells steps past (told_past base ns ps new) s none
    (λ e. let f = told_end base ns ps new e in
    (ap has_end (sym d) ∙ f, until_told base ns ps new f ∙ ap until_end d)) c n h

captured_tells : (steps : List Step) (past : Past) → has_end past.to_secondary ≡ false → Tells steps (capture past)
unfolding capture checkpoint_messages copied_parts
captured_tells steps past none e =
    let p = capture past in
    let parts = copied_parts p.copy p.captures in
    let ms = past.to_secondary in
    let told = told_secondary steps in
    record {
      earlier = told ++ ms;
      whole = ap (λ (ns : List Message). told ++ ns)
          (until_without ms (parts ++ End p.captures ∷ []) none
          ∙ (ap (λ (ns : List Message). ms ++ ns)
          (until_without parts (End p.captures ∷ []) (parts_no_end parts (parts_are p.copy p.captures))
          ∙ append-nil parts)))
          ∙ sym (append_assoc told ms parts);
    }

accepted_tells : (steps : List Step) (b : Bool) (past : Past) (w : Waiting) (s : Step)
    → told_with s.entry.line s.delivered ≡ [] → Tells steps past
    → Tells (steps ++ s ∷ []) (accept_by b past w (trims_by w))
unfolding accept_by
accepted_tells steps true past w s none h =
    same_tells steps past (accept_by true past w (trims_by w)) s none refl refl refl h
accepted_tells steps false past w s none h =
    quiet_tells steps past (accept_by false past w (trims_by w)) s none (by past.is_reported) refl refl h
  where
    by : (c : Bool)
        → has_end (if c then past.to_secondary else past.to_secondary ++ frame_message w ∷ []) ≡ true
        → (has_end past.to_secondary ≡ true)
        × (until_end (if c then past.to_secondary else past.to_secondary ++ frame_message w ∷ [])
        ≡ until_end past.to_secondary)
    by true e = (e, refl)
    by false e =
        let had : has_end past.to_secondary ≡ true = sym (or-false (has_end past.to_secondary))
        ∙ (sym (list_any-append is_end past.to_secondary (frame_message w ∷ [])) ∙ e) in
        (had, until_with past.to_secondary (frame_message w ∷ []) had)

-- THE SECONDARY HEARS what stood before an End
before_tells : (steps : List Step) (past after : Past) (m : Message) (ms : List Message) (s : Step)
    → past.to_secondary ≡ m ∷ ms → is_end m ≡ false → told_with s.entry.line s.delivered ≡ m ∷ []
    → after.to_secondary ≡ ms → after.copy ≡ past.copy → after.captures ≡ past.captures → Tells steps past
    → Tells (steps ++ s ∷ []) after
before_tells steps past after m ms s link no_end told d c n h e =
    let had : has_end past.to_secondary ≡ true =
    ap has_end link ∙ (ap (λ (b : Bool). b || has_end ms) no_end ∙ (ap has_end (sym d) ∙ e)) in
    let g = h had in
    let until : until_end past.to_secondary ≡ m ∷ until_end ms =
    ap until_end link ∙ ap (λ (b : Bool). if b then [] else m ∷ until_end ms) no_end in
    record {
      earlier = g.earlier;
      whole = (λ i. (told-push steps s ∙ ap (λ (ns : List Message). told_secondary steps ++ ns) told) i
          ++ until_end (d i))
          ∙ (append_assoc (told_secondary steps) (m ∷ []) (until_end ms)
          ∙ (ap (λ (ns : List Message). told_secondary steps ++ ns) (sym until)
          ∙ (g.whole ∙ (λ i. g.earlier ++ copied_parts (sym c i) (sym n i)))));
    }

-- behind an End nothing ends
behind_no_end : (past : Past) (m : Message) (n : ℕ) (ms : List Message) → m ≡ End n → HeardFirst past m ms
    → has_end ms ≡ false
behind_no_end past m n ms is (beside g one) = absurd (subst IsBeside is g)
behind_no_end past m n ms is (part g one) = absurd (subst IsPart is g)
behind_no_end past m n ms is (ends told later same end g) =
    ap has_end end ∙ beside_no_end later (beside_frames later g.frames)

heard_tells : (steps : List Step) (past : Past) (m : Message) (ms : List Message) → past.to_secondary ≡ m ∷ ms
    → HeardFirst past m ms → Tells steps past
    → Tells (steps ++ (secondary_hears (record past { to_secondary = ms }) m).step ∷ [])
    (secondary_hears (record past { to_secondary = ms }) m).after
unfolding hear_frame
heard_tells steps past m ms link first h =
    let p : Past = record past { to_secondary = ms } in
    heard_case (λ o. Tells (steps ++ o.step ∷ []) o.after) p m
    (λ index seen trim frame is. before_tells steps past (hear_frame p (waiting_in index seen trim frame))
    (Frame index seen trim frame) ms _ (link ∙ ap (λ (x : Message). x ∷ ms) is) refl refl refl refl refl h)
    (λ t client number is. before_tells steps past (hear_number p t client number) (Number t client number) ms
    (step_with ToSecondary (Heard 2 false) [] (Some (Number t client number)) [])
    (link ∙ ap (λ (x : Message). x ∷ ms) is) refl refl refl refl refl h)
    (λ n is e. absurd (true≢false (sym e ∙ behind_no_end past m n ms is first)))
    (λ apart. before_tells steps past p m ms (step_with ToSecondary (Heard (number_of m) false) [] (Some m) []) link
    (apart_brings_none m apart).0 refl refl refl refl h)

-- THE PRIMARY HEARS
back_tells : (steps : List Step) (past : Past) (m : Message) (ms : List Message)
    → (past.awaits_ack && not (is_ack_message m)) ≡ false → HeardBackFirst past m ms → Tells steps past
    → Tells (steps ++ (primary_hears (record past { to_primary = ms }) m).step ∷ [])
    (primary_hears (record past { to_primary = ms }) m).after
back_tells steps past m ms idle first h =
    let p : Past = record past { to_primary = ms } in
    let P : Step → Past → Type 0 = λ step after. Tells (steps ++ step ∷ []) after in
    heard_back_case (λ o. Tells (steps ++ o.step ∷ []) o.after) p m
    (λ t client number is. let base = known_base p t client number in
    let none = beside_no_end past.to_secondary (reply_calm past m (Known t client number) ms is refl idle first).down in
    known_settled P p t client number past.sent_heard
    (λ out ns ps new. settled_tells steps past base
    (step_with ToPrimary (HeardBack 12 past.sent_heard (length out)) [] (Some (Known t client number)) out) ns ps new
    refl refl refl refl h)
    (λ out ns ps new why k. captured_tells _ (told_past base ns ps new) (told_no_end base ns ps new none)))
    (λ frame is. let base = sent_base p frame in
    let none = beside_no_end past.to_secondary (reply_calm past m (Sent frame) ms is refl idle first).down in
    sent_settled P p frame (past.sent_heard + 1)
    (λ out ns ps new. settled_tells steps past base
    (step_with ToPrimary (HeardBack 13 (past.sent_heard + 1) (length out)) [] (Some (Sent frame)) out) ns ps new refl
    refl refl refl h)
    (λ out ns ps new why k. captured_tells _ (told_past base ns ps new) (told_no_end base ns ps new none)))
    (λ n is. let base = acknowledge p in
    let none = beside_no_end past.to_secondary (ack_calm past m n ms is first).down in
    ack_settled P p n
    (λ out ns ps new. settled_tells steps past base
    (step_with ToPrimary (HeardBack 14 0 (length out)) (Acknowledged n ∷ []) (Some (Ack n)) out) ns ps new refl refl
    refl refl h)
    (λ out ns ps new why k. captured_tells _ (told_past base ns ps new) (told_no_end base ns ps new none)))
    (λ foreign. same_tells steps past p (step_with ToPrimary Nothing [] None []) refl refl refl refl h)

idle_told : (x : Line) → told_with x None ≡ []
idle_told (Primary d i b n) = refl
idle_told (Secondary d i b n) = refl
idle_told Client = refl
idle_told ToSecondary = refl
idle_told ToPrimary = refl
idle_told StopPrimary = refl
idle_told StopSecondary = refl
idle_told Report = refl
idle_told Ask = refl

turned_tells : (steps : List Step) (past : Past) (d : ℕ) (i : Bool) (b n : ℕ) (made : TurnMade) → Tells steps past
    → Tells (steps ++ (turn_secondary past (Secondary d i b n) made).step ∷ [])
    (turn_secondary past (Secondary d i b n) made).after
unfolding turn_secondary
turned_tells steps past d i b n made h =
    same_tells steps past (turn_secondary past (Secondary d i b n) made).after
    (turn_secondary past (Secondary d i b n) made).step refl refl refl refl h

tell_cases : (F : Past → Line → Type 0) (a : Start) → Cases a.kind a.stream (Keeps F a Tells)
unfolding secondary_survives
tell_cases F a = record {
  idle =
      λ past x e f steps r fits h.
      same_tells steps past past (step_with x Nothing [] None []) (idle_told x) refl refl refl h;
  primary_turn =
      λ past d i b n e f steps r fits h.
      let made = turn_from a.kind past.primary past.primary_inbox i (numbers_of d b n) in
      let base = primary_base past made in
      let none = beside_no_end past.to_secondary (calm_of past (one_checkpoint F a steps past r) f).down in
      primary_settled (λ step after. Tells (steps ++ step ∷ []) after) past d i b n made
      (λ out ns ps new. settled_tells steps past base
      (step_with (Primary d i b n) (Made made.index (length out)) [] None out)
      ns ps new refl refl refl refl h)
      (λ out ns ps new why alone. captured_tells _ (told_past base ns ps new) (told_no_end base ns ps new none));
  secondary_turn =
      λ past d i b n e f steps r fits h. turned_tells steps past d i b n
      (turn_from a.kind past.secondary past.secondary_inbox i (numbers_of d b n)) h;
  survivor_turn =
      λ past d i b n e steps r fits h.
      let made = turn_from a.kind past.secondary past.secondary_inbox i (numbers_of d b n) in
      let base = secondary_base past made in
      let lone = (and_parts (is_primary_stop past.stop) past.is_reported e).1 in
      survivor_settled (λ step after. Tells (steps ++ step ∷ []) after) past d i b n made
      (λ out ns ps new. settled_tells steps past base
      (step_with (Secondary d i b n) (Made made.index (length out)) [] None out)
      ns ps new refl refl refl refl h)
      (λ out ns ps new why alone. absurd (true≢false (sym lone ∙ alone)));
  accepts =
      λ past frame kept t e f steps r fits h.
      let w = waiting_of past (look_at past (tcp_in kept)) kept in
      accepted_tells steps (is_primary_stop past.stop) past w
      (step_with Client (Accepted past.next w.seen w.trim 0) [] None []) refl h;
  is_full =
      λ past frame kept t e f steps r fits h. same_tells steps past (passed_frame past)
      (step_with Client (Full past.next) [] None []) refl refl refl refl h;
  answers =
      λ past frame b t e steps r fits h. same_tells steps past (passed_frame past)
      (step_with Client (Arp past.next) [] None (reply b ∷ [])) refl refl refl refl h;
  drops =
      λ past frame why t e steps r fits h. same_tells steps past (passed_frame past)
      (step_with Client (Dropped past.next why.number) [] None []) refl refl refl refl h;
  loses =
      λ past frame t e f steps r fits h. same_tells steps past (passed_frame past)
      (step_with Client (Lost past.next) [] None []) refl refl refl refl h;
  secondary_hears =
      λ past m ms e f g steps r fits h. heard_tells steps past m ms e
      (pop_down past m ms e (one_checkpoint F a steps past r)) h;
  ignores =
      λ past m ms e f g running alone steps r fits h. same_tells steps past (record past { to_primary = ms })
      (step_with ToPrimary (HeardBack (number_of m) past.sent_heard 0) [] (Some m) []) refl refl refl refl h;
  primary_hears =
      λ past m ms e f running alone steps r fits h. back_tells steps past m ms f
      (pop_up past m ms e (one_checkpoint F a steps past r)) h;
  primary_stops =
      λ past steps r fits h. same_tells steps past (record past { stop = primary_stop })
      (step_with StopPrimary Zero [] None []) refl refl refl refl h;
  secondary_stops =
      λ past steps r fits h. same_tells steps past (record past { stop = secondary_stop })
      (step_with StopSecondary Zero [] None []) refl refl refl refl h;
  secondary_left = λ past e steps r fits h f. absurd (true≢false (sym f));
  primary_left =
      λ past e steps r fits h. left_settled (λ step after. Tells (steps ++ step ∷ []) after) past
      (λ out ns ps new f. absurd (true≢false (sym f)));
  asks =
      λ past e f g steps r fits h. captured_tells _ past
      (beside_no_end past.to_secondary (calm_of past (one_checkpoint F a steps past r) e).down);
}

pub it_tells : (F : Past → Line → Type 0) (a : Start) (steps : List Step) (past : Past) → Reached F a steps past
    → Tells steps past
it_tells F a = each_history F a Tells (λ e. absurd (true≢false (sym e))) (tell_cases F a)

-- AT AN END the secondary is in the state that all it was told spells
record StartsFit (a : Start) : Type 0 where
  plain : StartsPlain a
  regular : IsRegular a.kind
  state : IsState a.kind a.run.state

starts_fit : (a : Start) → IsStart a → StartsFit a
starts_fit a (boots kind stream state m n regular fits bytes frames) = record {
  plain = record { inbox = refl; said = refl; bytes = frames };
  regular = regular;
  state = record { fits = fits; bytes = bytes };
}

ToldAt : Start → Claim
ToldAt a past x o =
    (steps : List Step) → Reached Any a steps past → (e : ℕ) → o.step.delivered ≡ Some (End e)
    → o.after.secondary.run.state ≡ fold spell a.run.state (told_secondary (steps ++ o.step ∷ []))

no_message : (e : ℕ) {X : Type 0} → None ≡ Some (End e) → X
no_message e f = absurd (cc f)

other_message : (m : Message) (e : ℕ) {X : Type 0} → is_end m ≡ false → Some m ≡ Some (End e) → X
other_message m e none f =
    absurd (true≢false (sym (ap (λ (o : Option Message). is_end (unwrap_or o m)) f) ∙ none))

end_told : (a : Start) → StartsFit a → (steps : List Step) (past : Past) (n : ℕ) (ms : List Message) (s : Step)
    → Reached Any a steps past → past.to_secondary ≡ End n ∷ ms → told_with s.entry.line s.delivered ≡ End n ∷ []
    → past.copy.run.run.state ≡ fold spell a.run.state (told_secondary (steps ++ s ∷ []))
end_told a fit steps past n ms s r link told =
    let g = it_tells Any a steps past r (ap has_end link) in
    let copy = past.copy in
    let states = states_fit Any a fit.plain fit.regular fit.state steps past r in
    let z = fold spell a.run.state g.earlier in
    let counts = spelled_counts a.run.state g.earlier in
    let all : told_secondary steps ≡ g.earlier ++ copied_parts copy past.captures =
    sym (append-nil (told_secondary steps))
    ∙ (ap (λ (ns : List Message). told_secondary steps ++ until_end ns) (sym link) ∙ g.whole) in
    sym (ap (λ (ns : List Message). fold spell a.run.state ns)
    (told-push steps s ∙ ap (λ (ns : List Message). told_secondary steps ++ ns) told)
    ∙ (fold-append spell a.run.state (told_secondary steps) (End n ∷ [])
    ∙ (ap (λ (ns : List Message). fold spell a.run.state ns) all
    ∙ (fold-append spell a.run.state g.earlier (copied_parts copy past.captures)
    ∙ copied_spells copy past.captures z (sizes_from 512 copy.run.run.state.sectors states.copy.fits.sectors)
    (counts.pages ∙ (fit.state.fits.page_count ∙ sym states.copy.fits.page_count))
    (counts.sectors ∙ (fit.state.fits.sector_count ∙ sym states.copy.fits.sector_count))))))

heard_told : (a : Start) → StartsFit a → (past : Past) (m : Message) (ms : List Message)
    → past.to_secondary ≡ m ∷ ms → ToldAt a past ToSecondary (secondary_hears (record past { to_secondary = ms }) m)
unfolding ToldAt
heard_told a fit past m ms link steps r =
    let p : Past = record past { to_secondary = ms } in
    heard_case (λ o. (e : ℕ) → o.step.delivered ≡ Some (End e)
    → o.after.secondary.run.state ≡ fold spell a.run.state (told_secondary (steps ++ o.step ∷ []))) p m
    (λ index seen trim frame is e f. other_message (Frame index seen trim frame) e refl f)
    (λ t client number is e f. other_message (Number t client number) e refl f)
    (λ n is e f. end_told a fit steps past n ms
    (step_with ToSecondary (Heard 11 false) (Committed n ∷ []) (Some (End n)) []) r
    (link ∙ ap (λ (x : Message). x ∷ ms) is) refl)
    (λ apart e f. other_message m e (apart_brings_none m apart).0 f)

-- what comes to the primary is no End
reply_no_end : (m : Message) → IsReply m → is_end m ≡ false
reply_no_end (Frame index seen trim frame) h = refl
reply_no_end (Number t client number) h = refl
reply_no_end (Begin e) h = refl
reply_no_end (State bytes) h = refl
reply_no_end (Page k bytes) h = refl
reply_no_end (Disk first bytes) h = refl
reply_no_end (Write k bytes) h = refl
reply_no_end (Held index seen trim frame) h = refl
reply_no_end (message.Line t mac flags client own number refused acked window mss base) h = refl
reply_no_end (Bytes bytes) h = refl
reply_no_end (End e) h = absurd h
reply_no_end (Known t client number) h = refl
reply_no_end (Sent frame) h = refl
reply_no_end (Ack e) h = refl

back_no_end : (past : Past) (m : Message) (ms : List Message) → HeardBackFirst past m ms → is_end m ≡ false
back_no_end past m ms (replies g one) = reply_no_end m g
back_no_end past m ms (acks same g) = ap is_end same

back_told : (a : Start) (past : Past) (m : Message) (ms : List Message)
    → ToldAt a past ToPrimary (primary_hears (record past { to_primary = ms }) m)
unfolding ToldAt
back_told a past m ms steps r =
    let p : Past = record past { to_primary = ms } in
    let P : Step → Past → Type 0 = λ step after. (e : ℕ) → step.delivered ≡ Some (End e)
    → after.secondary.run.state ≡ fold spell a.run.state (told_secondary (steps ++ step ∷ [])) in
    heard_back_case (λ o. (e : ℕ) → o.step.delivered ≡ Some (End e)
    → o.after.secondary.run.state ≡ fold spell a.run.state (told_secondary (steps ++ o.step ∷ []))) p m
    (λ t client number is. known_settled P p t client number past.sent_heard
    (λ out ns ps new e f. other_message (Known t client number) e refl f)
    (λ out ns ps new why k e f. other_message (Known t client number) e refl f))
    (λ frame is. sent_settled P p frame (past.sent_heard + 1)
    (λ out ns ps new e f. other_message (Sent frame) e refl f)
    (λ out ns ps new why k e f. other_message (Sent frame) e refl f))
    (λ n is. ack_settled P p n (λ out ns ps new e f. other_message (Ack n) e refl f)
    (λ out ns ps new why k e f. other_message (Ack n) e refl f))
    (λ foreign e f. no_message e f)

told_cases : (a : Start) → StartsFit a → Cases a.kind a.stream (ToldAt a)
unfolding ToldAt secondary_survives turn_secondary
told_cases a fit = record {
  idle = λ past x e f steps r n g. no_message n g;
  primary_turn =
      λ past d i b n e f steps r. primary_settled (λ step after. (k : ℕ) → step.delivered ≡ Some (End k)
      → after.secondary.run.state ≡ fold spell a.run.state (told_secondary (steps ++ step ∷ []))) past d i b n
      (turn_from a.kind past.primary past.primary_inbox i (numbers_of d b n)) (λ out ns ps new k g. no_message k g)
      (λ out ns ps new why alone k g. no_message k g);
  secondary_turn = λ past d i b n e f steps r k g. no_message k g;
  survivor_turn =
      λ past d i b n e steps r. survivor_settled (λ step after. (k : ℕ) → step.delivered ≡ Some (End k)
      → after.secondary.run.state ≡ fold spell a.run.state (told_secondary (steps ++ step ∷ []))) past d i b n
      (turn_from a.kind past.secondary past.secondary_inbox i (numbers_of d b n)) (λ out ns ps new k g. no_message k g)
      (λ out ns ps new why alone k g. no_message k g);
  accepts = λ past frame kept t e f steps r k g. no_message k g;
  is_full = λ past frame kept t e f steps r k g. no_message k g;
  answers = λ past frame b t e steps r k g. no_message k g;
  drops = λ past frame why t e steps r k g. no_message k g;
  loses = λ past frame t e f steps r k g. no_message k g;
  secondary_hears = λ past m ms e f g. heard_told a fit past m ms e;
  ignores =
      λ past m ms e f g running alone steps r k d. other_message m k
      (back_no_end past m ms (pop_up past m ms e (one_checkpoint Any a steps past r))) d;
  primary_hears = λ past m ms e f running alone. back_told a past m ms;
  primary_stops = λ past steps r k g. no_message k g;
  secondary_stops = λ past steps r k g. no_message k g;
  secondary_left = λ past e steps r k g. no_message k g;
  primary_left =
      λ past e steps r. left_settled (λ step after. (k : ℕ) → step.delivered ≡ Some (End k)
      → after.secondary.run.state ≡ fold spell a.run.state (told_secondary (steps ++ step ∷ []))) past
      (λ out ns ps new k g. no_message k g);
  asks = λ past e f g steps r k d. no_message k d;
}

-- of each history that ends with an End
EndsTold : Start → List Step → Past → Type 0
EndsTold a steps past =
    (before : List Step) (s : Step) (e : ℕ) → steps ≡ before ++ s ∷ [] → s.delivered ≡ Some (End e)
    → past.secondary.run.state ≡ fold spell a.run.state (told_secondary steps)

ends_told : (a : Start) → StartsFit a → (steps : List Step) (past : Past) → Reached Any a steps past
    → EndsTold a steps past
unfolding EndsTold ToldAt
ends_told a fit steps past begins before s e at told =
    let longer = length-append before (s ∷ []) in
    let same = ap (λ (xs : List Step). length xs) at in
    absurd (omega (arith, longer, same))
ends_told a fit steps past (goes front old x h any) before s e at told =
    let o = outcome_of a.kind a.stream old x in
    let last = (same_from_push front before o.step s at).1 in
    each_case a.kind a.stream (ToldAt a) (told_cases a fit) old x front h e
    (ap (λ (t : Step). t.delivered) last ∙ told)

pub told_holds : ToldOfEachLog
unfolding nodes_at EndsTold
told_holds a lines start = each_any_log a (EndsTold a) (ends_told a (starts_fit a start)) lines
