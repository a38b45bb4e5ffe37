-- What is known of the secondary is a front of what it sent: each event keeps it, where at most one node stops.
use Rattle.std.proofs.Common.{◌≡◌, ℕ, ◌+◌, ◌&&◌, not, Bool, true, false, List, [], ◌∷◌, ◌++◌, append-nil, map, None, Some, if◌then◌else◌, refl, sym, ap, subst, ◌∙◌, true≢false}
use Rattle.std.proofs.lemmas.Bool.{and_parts}
use Rattle.std.proofs.lemmas.List.Elements.{filter_map-append}
use Rattle.inet_frame.specs.Fields.{TcpFields}
use Rattle.tcp_track.specs.Lines.{Item, commit, segment_of, sent, sent_of}
use Rattle.tcp_track.specs.Stands.{segments}
use Rattle.state_wire.specs.Guest.{GuestTurn, Kind}
use Rattle.frame_mirror.specs.declared.ring.Waiting.{Waiting}
use Rattle.colo_wire.specs.declared.messages.Message.{Message}
use Rattle.colo_wire.specs.declared.messages.Message.TheVariants.{Frame, Number, Begin, State, Page, Disk, Write, Held, Bytes, End, Known, Sent, Ack}
use Rattle.colo_wire.specs.declared.messages.Message.TheVariants as message
use Rattle.replay_log.specs.declared.lines.Line.TheVariants.{Secondary}
use Rattle.splice_run.specs.Tokens.{Taken}
use Rattle.pair_theorem.specs.Checkpoint.{capture}
use Rattle.pair_theorem.specs.ClientFrames.{trims_by}
use Rattle.pair_theorem.specs.Events.{accept_by, acknowledge, counted_frames, hear_end, hear_frame, hear_number, is_ack_message, number_said, numbers_of, primary_hears, secondary_hears, secondary_survives, turn_secondary}
use Rattle.pair_theorem.specs.GuestTurns.{TurnMade, TurnNumbers, add_turn, guest_turn, raise_waiting, taken_turn, turn_from, turn_if, turn_with, turn_without}
use Rattle.pair_theorem.specs.Messages.{waiting_in}
use Rattle.pair_theorem.specs.Past.{NodeRun, Past, Start, Step, first_past, is_primary_stop}
use Rattle.settle_rules.specs.Numbers.{KeptNumber, kept_number}
use Rattle.settle_rules.specs.Progress.{ProgressTable}
use Rattle.inet_frame.specs.declared.tuple.Tuple.{Tuple}
use Rattle.pair_theorem.proofs.EachHistory.{Fits, Keeps, each_history, each_log}
use Rattle.pair_theorem.proofs.EventCases.{Cases}
use Rattle.pair_theorem.proofs.MessageCases.{heard_back_case, heard_case, is_foreign}
use Rattle.theorem_runs.specs.Links.{IsBeside, IsCalm, IsPart, IsReply}
use Rattle.theorem_runs.proofs.Checkpoints.{HeardBackFirst, HeardFirst, ack_calm, acks, beside, calm_of, ends, not_awaiting, one_checkpoint, part, pop_down, pop_up, replies, reply_calm, sent_of-trims}
use Rattle.theorem_runs.proofs.Pausing.{is_paused}
use Rattle.theorem_runs.proofs.Settled.{ack_settled, known_base, known_settled, left_settled, primary_base, primary_settled, sent_base, sent_settled, survivor_settled, told_past}
use Rattle.theorem_splices.specs.Known.{IsKnown, KnowsSecondary, SecondaryIsKnown, has_ack, segments_on}
use Rattle.theorem_splices.proofs.KnownSteps.{ack_known, capture_known, commit_known, hear_known, ignore_known, more_said, more_told, replies_hold_no_ack, told_frames, told_hold_no_ack}

abbrev Knows : List Step → Past → Type 0
Knows steps past = KnowsSecondary past

-- WHAT A TURN SENDS
sent_again : (xs : List TcpFields) → sent_of (map sent xs) ≡ xs
sent_again [] = refl
sent_again (x ∷ xs) = ap (λ (ys : List TcpFields). x ∷ ys) (sent_again xs)

turn_sends : (kind : Kind) (node : NodeRun) (turn : GuestTurn) (taken : Taken)
    → sent_of (add_turn kind node turn taken).items
    ≡ sent_of node.items ++ segments (kind.sent node.run.state turn)
unfolding add_turn
turn_sends kind node turn taken =
    filter_map-append segment_of node.items (map sent (segments (kind.sent node.run.state turn)))
    ∙ ap (λ (xs : List TcpFields). sent_of node.items ++ xs) (sent_again (segments (kind.sent node.run.state turn)))

abbrev SendsOutput : NodeRun → TurnMade → Type 0
SendsOutput node made = sent_of made.run.items ≡ sent_of node.items ++ segments made.output

made_sends : (kind : Kind) (node : NodeRun) (inbox : List Waiting) (takes : Bool) (n : TurnNumbers)
    → SendsOutput node (turn_from kind node inbox takes n)
unfolding turn_from turn_if turn_with turn_without
made_sends kind node [] takes n = turn_sends kind node (guest_turn n None) (taken_turn n None)
made_sends kind node (w ∷ inbox) takes n = by (takes && kind.can_receive node.run.state)
  where
    by : (b : Bool) → SendsOutput node (turn_if b kind node w inbox n)
    by true =
        turn_sends kind node (guest_turn n (Some (raise_waiting w (sent_of node.items)))) (taken_turn n (Some w.index))
    by false = turn_sends kind node (guest_turn n None) (taken_turn n None)

-- WHERE NOTHING OF IT CHANGES
same_known : (past after : Past) → after.is_reported ≡ past.is_reported → after.awaits_ack ≡ past.awaits_ack
    → sent_of after.known_items ≡ sent_of past.known_items
    → sent_of after.secondary.items ≡ sent_of past.secondary.items
    → sent_of after.copy.run.items ≡ sent_of past.copy.run.items → after.to_primary ≡ past.to_primary
    → KnowsSecondary past → KnowsSecondary after
same_known past after r w k s c u h alone =
    subst (λ (t : Bool × List TcpFields × List TcpFields × List TcpFields × List Message). IsKnown t.0 t.1 t.2 t.3 t.4)
    (λ i. (sym w i, sym k i, sym s i, sym c i, sym u i)) (h (sym r ∙ alone))

captured_known : (past : Past) → past.awaits_ack ≡ false → has_ack past.to_primary ≡ false → KnowsSecondary past
    → KnowsSecondary (capture past)
unfolding capture
captured_known past w none h alone =
    capture_known (sent_of past.known_items) (sent_of past.secondary.items) (sent_of past.copy.run.items)
    (sent_of past.primary.items) past.to_primary none
    (subst (λ (b : Bool). IsKnown b (sent_of past.known_items) (sent_of past.secondary.items)
    (sent_of past.copy.run.items) past.to_primary) w (h alone))

calm_link : (past : Past) → IsCalm past → has_ack past.to_primary ≡ false
calm_link past h = replies_hold_no_ack past.to_primary h.up

-- A SECONDARY'S TURN
turned_known : (past : Past) (d : ℕ) (i : Bool) (b n : ℕ) (made : TurnMade) → SendsOutput past.secondary made
    → KnowsSecondary past → KnowsSecondary (turn_secondary past (Secondary d i b n) made).after
unfolding turn_secondary
turned_known past d i b n made sends h alone =
    let link = past.to_primary ++ map Sent (counted_frames made.output) in
    subst (λ (xs : List TcpFields). IsKnown past.awaits_ack (sent_of past.known_items) xs
    (sent_of past.copy.run.items) link)
    (ap (λ (xs : List TcpFields). sent_of past.secondary.items ++ xs) (told_frames made.output) ∙ sym sends)
    (more_told past.awaits_ack (sent_of past.known_items) (sent_of past.secondary.items)
    (sent_of past.copy.run.items) past.to_primary (map Sent (counted_frames made.output))
    (told_hold_no_ack (counted_frames made.output)) (h alone))

-- A CLIENT'S FRAME
trims_known : (b : Bool) (items : List Item) (w : Waiting)
    → sent_of (if b then items else items ++ trims_by w) ≡ sent_of items
trims_known true items w = refl
trims_known false items w = sent_of-trims items w

accepted_known : (b : Bool) (past : Past) (w : Waiting) → KnowsSecondary past
    → KnowsSecondary (accept_by b past w (trims_by w))
unfolding accept_by
accepted_known true past w h =
    same_known past (accept_by true past w (trims_by w)) refl refl refl (sent_of-trims past.secondary.items w) refl refl
    h
accepted_known false past w h =
    same_known past (accept_by false past w (trims_by w)) refl refl (trims_known past.is_reported past.known_items w)
    refl refl refl h

-- THE SECONDARY HEARS
number_known : (past : Past) → KnowsSecondary past → (t : Tuple) (client number : ℕ)
    → KnowsSecondary (hear_number past t client number)
number_known past h t client number alone =
    more_said past.awaits_ack (sent_of past.known_items) (sent_of past.secondary.items)
    (sent_of past.copy.run.items) past.to_primary
    (Known t client (number_said (kept_number t client past.secondary_numbers) number) ∷ []) refl refl (h alone)

-- a commit is no segment
committed_sends : (items : List Item) → sent_of (items ++ commit ∷ []) ≡ sent_of items
committed_sends items = filter_map-append segment_of items (commit ∷ []) ∙ append-nil (sent_of items)

end_known : (past : Past) (m : Message) (ms : List Message) (n : ℕ) → m ≡ End n → HeardFirst past m ms
    → KnowsSecondary (hear_end (record past { to_secondary = ms }) n)
end_known past m ms n is (beside g one) alone = absurd (subst IsBeside is g)
end_known past m ms n is (part g one) alone = absurd (subst IsPart is g)
end_known past m ms n is (ends told later same end g) alone =
    let copy = sent_of past.copy.run.items in
    let link = past.to_primary ++ Ack n ∷ [] in
    subst (λ (t : Bool × List TcpFields). IsKnown t.0 (sent_of past.known_items) t.1 copy link)
    (λ i. (sym g.awaits i, sym (committed_sends past.copy.run.items) i))
    (commit_known (sent_of past.known_items) copy past.to_primary n (replies_hold_no_ack past.to_primary g.up))

heard_known : (past : Past) (m : Message) (ms : List Message) → HeardFirst past m ms → KnowsSecondary past
    → KnowsSecondary (secondary_hears (record past { to_secondary = ms }) m).after
unfolding hear_frame
heard_known past m ms first h =
    let p : Past = record past { to_secondary = ms } in
    heard_case (λ o. KnowsSecondary o.after) p m
    (λ index seen trim frame is.
    same_known past (hear_frame p (waiting_in index seen trim frame)) refl refl refl
    (sent_of-trims past.secondary.items (waiting_in index seen trim frame)) refl refl h)
    (λ t client number is. number_known p h t client number)
    (λ n is. end_known past m ms n is first) (λ apart. h)

-- THE PRIMARY HEARS
ignored_known : (past : Past) (m : Message) (ms : List Message) → past.to_primary ≡ m ∷ ms → is_ack_message m ≡ false
    → past.awaits_ack ≡ true → KnowsSecondary past → KnowsSecondary (record past { to_primary = ms })
ignored_known past m ms e other w h alone =
    let known = sent_of past.known_items in
    let own = sent_of past.secondary.items in
    let copy = sent_of past.copy.run.items in
    subst (λ (b : Bool). IsKnown b known own copy ms) (sym w)
    (ignore_known known own copy m ms other
    (subst (λ (t : Bool × List Message). IsKnown t.0 known own copy t.1) (λ i. (w i, e i)) (h alone)))

-- a reply, where no checkpoint is awaited, is heard in full
reply_known : (past : Past) (m n : Message) (ms : List Message) → past.to_primary ≡ m ∷ ms → m ≡ n
    → past.awaits_ack ≡ false → has_ack ms ≡ false → KnowsSecondary past → past.is_reported ≡ false
    → IsKnown past.awaits_ack (sent_of past.known_items ++ segments_on (n ∷ [])) (sent_of past.secondary.items)
    (sent_of past.copy.run.items) ms
reply_known past m n ms e is w none h alone =
    let known = sent_of past.known_items in
    let own = sent_of past.secondary.items in
    let copy = sent_of past.copy.run.items in
    subst (λ (b : Bool). IsKnown b (known ++ segments_on (n ∷ [])) own copy ms) (sym w)
    (hear_known known own copy n ms none
    (subst (λ (t : Bool × List Message). IsKnown t.0 known own copy t.1)
    (λ i. (w i, (e ∙ ap (λ (x : Message). x ∷ ms) is) i)) (h alone)))

number_back_known : (past : Past) (m : Message) (ms : List Message) → past.to_primary ≡ m ∷ ms → (t : Tuple)
    (client number : ℕ) → m ≡ Known t client number → past.awaits_ack ≡ false → has_ack ms ≡ false
    → KnowsSecondary past → KnowsSecondary (known_base (record past { to_primary = ms }) t client number)
number_back_known past m ms e t client number is w none h alone =
    subst (λ (xs : List TcpFields). IsKnown past.awaits_ack xs (sent_of past.secondary.items)
    (sent_of past.copy.run.items) ms) (append-nil (sent_of past.known_items))
    (reply_known past m (Known t client number) ms e is w none h alone)

sent_items : (items : List Item) (frame : List ℕ)
    → sent_of (items ++ map sent (segments (frame ∷ []))) ≡ sent_of items ++ segments (frame ∷ [])
sent_items items frame =
    filter_map-append segment_of items (map sent (segments (frame ∷ [])))
    ∙ ap (λ (xs : List TcpFields). sent_of items ++ xs) (sent_again (segments (frame ∷ [])))

frame_back_known : (past : Past) (m : Message) (ms : List Message) → past.to_primary ≡ m ∷ ms → (frame : List ℕ)
    → m ≡ Sent frame → past.awaits_ack ≡ false → has_ack ms ≡ false → KnowsSecondary past
    → KnowsSecondary (sent_base (record past { to_primary = ms }) frame)
frame_back_known past m ms e frame is w none h alone =
    subst (λ (xs : List TcpFields). IsKnown past.awaits_ack xs (sent_of past.secondary.items)
    (sent_of past.copy.run.items) ms) (sym (sent_items past.known_items frame))
    (reply_known past m (Sent frame) ms e is w none h alone)

-- the acknowledgement: the primary's own run is what it knows, and the captured one
ack_back_known : (past : Past) (m : Message) (ms : List Message) → past.to_primary ≡ m ∷ ms → (n : ℕ) → m ≡ Ack n
    → HeardBackFirst past m ms → sent_of past.primary.items ≡ sent_of past.copy.run.items → KnowsSecondary past
    → KnowsSecondary (acknowledge (record past { to_primary = ms }))
ack_back_known past m ms e n is (replies g one) same h alone = absurd (subst IsReply is g)
ack_back_known past m ms e n is (acks this g) same h alone =
    let known = sent_of past.known_items in
    let own = sent_of past.secondary.items in
    let copy = sent_of past.copy.run.items in
    ack_known known own copy (sent_of (past.primary.items ++ commit ∷ [])) n ms
    (replies_hold_no_ack ms g.behind) (committed_sends past.primary.items ∙ same)
    (subst (λ (t : Bool × List Message). IsKnown t.0 known own copy t.1)
    (λ i. (g.awaits i, (e ∙ ap (λ (x : Message). x ∷ ms) is) i)) (h alone))

-- what the secondary says back is never foreign to the primary
foreign_reply : (m : Message) → is_foreign m ≡ true → IsReply m → ⊥
foreign_reply (Frame index seen trim frame) f h = h
foreign_reply (Number t client number) f h = h
foreign_reply (Begin e) f h = h
foreign_reply (State bytes) f h = h
foreign_reply (Page k bytes) f h = h
foreign_reply (Disk first bytes) f h = h
foreign_reply (Write k bytes) f h = h
foreign_reply (Held index seen trim frame) f h = h
foreign_reply (message.Line t mac flags client own number refused acked window mss base) f h = h
foreign_reply (Bytes bytes) f h = h
foreign_reply (End e) f h = h
foreign_reply (Known t client number) f h = true≢false (sym f)
foreign_reply (Sent frame) f h = true≢false (sym f)
foreign_reply (Ack e) f h = h

-- an acknowledgement that is heard was awaited
ack_awaits : (past : Past) (m : Message) (n : ℕ) (ms : List Message) → m ≡ Ack n → HeardBackFirst past m ms
    → past.awaits_ack ≡ true
ack_awaits past m n ms is (replies g one) = absurd (subst IsReply is g)
ack_awaits past m n ms is (acks same g) = g.awaits

foreign_known : (past : Past) (m : Message) (ms : List Message) → is_foreign m ≡ true → HeardBackFirst past m ms
    → KnowsSecondary (record past { to_primary = ms })
foreign_known past m ms f (replies g one) alone = absurd (foreign_reply m f g)
foreign_known past m ms f (acks same g) alone = absurd (true≢false (sym f ∙ ap is_foreign same))

-- what settles with no acknowledgement on the link
settles_known : (base : Past) → base.awaits_ack ≡ false → has_ack base.to_primary ≡ false → KnowsSecondary base
    → (ns : List KeptNumber) (ps : ProgressTable) (new : List KeptNumber)
    → KnowsSecondary (told_past base ns ps new) × KnowsSecondary (capture (told_past base ns ps new))
settles_known base w none h ns ps new = (
  same_known base (told_past base ns ps new) refl refl refl refl refl refl h,
  captured_known (told_past base ns ps new) w none
      (same_known base (told_past base ns ps new) refl refl refl refl refl refl h),
)

back_known : (past : Past) (m : Message) (ms : List Message) → past.to_primary ≡ m ∷ ms
    → (past.awaits_ack && not (is_ack_message m)) ≡ false → HeardBackFirst past m ms
    → (past.awaits_ack ≡ true → sent_of past.primary.items ≡ sent_of past.copy.run.items) → KnowsSecondary past
    → KnowsSecondary (primary_hears (record past { to_primary = ms }) m).after
back_known past m ms e idle first paused h =
    let p : Past = record past { to_primary = ms } in
    heard_back_case (λ o. KnowsSecondary o.after) p m
    (λ t client number is. let free = not_awaiting past m (Known t client number) idle is refl in
    let none = calm_link p (reply_calm past m (Known t client number) ms is refl idle first) in
    let now = settles_known (known_base p t client number) free none
    (number_back_known past m ms e t client number is free none h) in
    known_settled (λ step after. KnowsSecondary after) p t client number past.sent_heard
    (λ out ns ps new. (now ns ps new).0) (λ out ns ps new why alone. (now ns ps new).1))
    (λ frame is. let free = not_awaiting past m (Sent frame) idle is refl in
    let none = calm_link p (reply_calm past m (Sent frame) ms is refl idle first) in
    let now = settles_known (sent_base p frame) free none (frame_back_known past m ms e frame is free none h) in
    sent_settled (λ step after. KnowsSecondary after) p frame (past.sent_heard + 1)
    (λ out ns ps new. (now ns ps new).0) (λ out ns ps new why alone. (now ns ps new).1))
    (λ n is. let none = calm_link (acknowledge p) (ack_calm past m n ms is first) in
    let now = settles_known (acknowledge p) refl none (ack_back_known past m ms e n is first
    (paused (ack_awaits past m n ms is first)) h) in
    ack_settled (λ step after. KnowsSecondary after) p n (λ out ns ps new. (now ns ps new).0)
    (λ out ns ps new why alone. (now ns ps new).1))
    (λ foreign. foreign_known past m ms foreign first)

-- EVERY EVENT
known_cases : (a : Start) → Cases a.kind a.stream (Keeps Fits a Knows)
unfolding secondary_survives
known_cases a = record {
  idle = λ past x e f steps r fits h. h;
  primary_turn =
      λ past d i b n e f steps r fits h.
      let made = turn_from a.kind past.primary past.primary_inbox i (numbers_of d b n) in
      let none = calm_link past (calm_of past (one_checkpoint Fits a steps past r) f) in
      let now = settles_known (primary_base past made) f none
      (same_known past (primary_base past made) refl refl refl refl refl refl h) in
      primary_settled (λ step after. KnowsSecondary after) past d i b n made
      (λ out ns ps new. (now ns ps new).0) (λ out ns ps new why alone. (now ns ps new).1);
  secondary_turn =
      λ past d i b n e f steps r fits h. turned_known past d i b n
      (turn_from a.kind past.secondary past.secondary_inbox i (numbers_of d b n))
      (made_sends a.kind past.secondary past.secondary_inbox i (numbers_of d b n)) h;
  survivor_turn =
      λ past d i b n e steps r fits h.
      let reported = (and_parts (is_primary_stop past.stop) past.is_reported e).1 in
      survivor_settled (λ step after. KnowsSecondary after) past d i b n
      (turn_from a.kind past.secondary past.secondary_inbox i (numbers_of d b n))
      (λ out ns ps new unreported. absurd (true≢false (sym reported ∙ unreported)))
      (λ out ns ps new why alone. absurd (true≢false (sym reported ∙ alone)));
  accepts = λ past frame kept t e f steps r fits h. accepted_known (is_primary_stop past.stop) past _ h;
  is_full = λ past frame kept t e f steps r fits h. h;
  answers = λ past frame b t e steps r fits h. h;
  drops = λ past frame why t e steps r fits h. h;
  loses = λ past frame t e f steps r fits h. h;
  secondary_hears =
      λ past m ms e f g steps r fits h. heard_known past m ms
      (pop_down past m ms e (one_checkpoint Fits a steps past r)) h;
  ignores = λ past m ms e f g running alone steps r fits h. ignored_known past m ms e f g h;
  primary_hears =
      λ past m ms e f running alone steps r fits h. back_known past m ms e f
      (pop_up past m ms e (one_checkpoint Fits a steps past r)) (λ w. (is_paused a steps past r w).said) h;
  primary_stops = λ past steps r fits h. h;
  secondary_stops = λ past steps r fits h. h;
  secondary_left = λ past e steps r fits h alone. absurd (true≢false alone);
  primary_left =
      λ past e steps r fits h. left_settled (λ step after. KnowsSecondary after) past
      (λ out ns ps new alone. absurd (true≢false alone));
  asks =
      λ past e f g steps r fits h. captured_known past e
      (calm_link past (calm_of past (one_checkpoint Fits a steps past r) e)) h;
}

first_known : (a : Start) → KnowsSecondary (first_past a)
first_known a alone = record {
  whole = λ e. append-nil (sent_of a.items);
  front = λ e. ([], sym (append-nil (sent_of a.items)));
  copied = λ e. absurd (true≢false (sym e));
}

pub known_holds : SecondaryIsKnown
known_holds a = each_log a Knows (each_history Fits a Knows (first_known a) (known_cases a))
