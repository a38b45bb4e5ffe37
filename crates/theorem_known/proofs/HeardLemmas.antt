-- What the primary counts is what it knows of the secondary: each event keeps it, where at most one node stops.
use Rattle.std.proofs.Common.{◌≡◌, ℕ, ◌+◌, ◌&&◌, ◌||◌, not, Bool, true, false, List, [], ◌∷◌, ◌++◌, length, length-append, take, map, Option, None, Some, if◌then◌else◌, refl, sym, ap, subst, ◌∙◌, arith, true≢false}
use Rattle.std.proofs.Math.Bool.{or-false, or-true}
use Rattle.std.proofs.Math.Seq.{take-append-add, take-append_seam}
use Rattle.std.proofs.lemmas.Bool.{and_parts}
use Rattle.std.proofs.lemmas.List.Elements.{filter_map-append}
use Rattle.std.proofs.lemmas.List.Folds.{list_any-append}
use Rattle.std.specs.Prelude.{IsSome}
use Rattle.std.specs.List.{cons_option}
use Rattle.inet_frame.specs.Counted.{counted}
use Rattle.inet_frame.specs.Fields.{TcpFields}
use Rattle.tcp_track.specs.Lines.{Item, commit, segment_of, sent, sent_of}
use Rattle.tcp_track.specs.Stands.{segments}
use Rattle.settle_rules.specs.Numbers.{KeptNumber, kept_number}
use Rattle.settle_rules.specs.Progress.{ProgressTable}
use Rattle.frame_mirror.specs.declared.ring.Waiting.{Waiting}
use Rattle.colo_wire.specs.declared.messages.Message.{Message}
use Rattle.colo_wire.specs.declared.messages.Message.TheVariants.{Frame, Number, Begin, State, Page, Disk, Write, Held, Bytes, End, Known, Sent, Ack}
use Rattle.colo_wire.specs.declared.messages.Message.TheVariants as message
use Rattle.replay_log.specs.declared.lines.Line.TheVariants.{Secondary}
use Rattle.pair_theorem.specs.Checkpoint.{capture}
use Rattle.pair_theorem.specs.ClientFrames.{trims_by}
use Rattle.pair_theorem.specs.Events.{accept_by, acknowledge, counted_frames, hear_end, hear_frame, hear_number, is_ack_message, number_said, numbers_of, primary_hears, secondary_hears, secondary_survives, turn_secondary}
use Rattle.pair_theorem.specs.GuestTurns.{TurnMade, turn_from}
use Rattle.pair_theorem.specs.History.{pair_log, past_at}
use Rattle.pair_theorem.specs.Messages.{waiting_in}
use Rattle.pair_theorem.specs.Past.{Past, Start, Step, first_past, is_primary_stop}
use Rattle.pair_theorem.specs.Splicing.{before_commit, since_commit}
use Rattle.pair_theorem.specs.Starts.{IsStart, boots}
use Rattle.pair_theorem.proofs.EachHistory.{Fits, Keeps, each_history, each_log}
use Rattle.pair_theorem.proofs.EventCases.{Cases}
use Rattle.pair_theorem.proofs.MessageCases.{heard_back_case, heard_case, is_foreign}
use Rattle.theorem_runs.specs.Links.{IsCalm, IsReply}
use Rattle.theorem_runs.proofs.Checkpoints.{HeardBackFirst, ack_calm, acks, calm_of, one_checkpoint, pop_up, replies, reply_calm, sent_of-trims}
use Rattle.theorem_runs.proofs.Pausing.{is_paused}
use Rattle.theorem_runs.proofs.Settled.{ack_settled, known_base, known_settled, left_settled, primary_base, primary_settled, sent_base, sent_settled, survivor_settled, told_past}
use Rattle.theorem_splices.specs.Known.{KnowsSecondary, has_ack}
use Rattle.theorem_splices.proofs.KnownSteps.{replies_hold_no_ack, told_hold_no_ack}
use Rattle.theorem_splices.proofs.KnownLemmas.{known_holds}
use Rattle.theorem_known.specs.Splices.{KnownSplicesEachLog, KnownSplicesOf}
use Rattle.theorem_known.proofs.FrontLemmas.{each_front}
use Rattle.theorem_known.proofs.ItemLemmas.{committed_before, committed_sends, same_before, sent_own, sent_together, trims_own, turn_items}

-- Whether a commit is unheard of; what is known of the secondary, what it had sent at its last commit, and what the
-- copy had sent; and how many of its own frames were heard.
record AreCounted (unheard : Bool) (known before copy : List TcpFields) (heard : ℕ) : Type 0 where
  counts : unheard ≡ false → length known ≡ length before + heard
  copied : unheard ≡ true → copy ≡ before

-- until a report
Counts : Past → Type 0
Counts past =
    past.is_reported ≡ false
    → AreCounted (has_ack past.to_primary) (sent_of past.known_items) (sent_of (before_commit past.secondary.items))
    (sent_of past.copy.run.items) past.sent_heard

CountsSteps : List Step → Past → Type 0
CountsSteps steps past = Counts past

-- WHERE NOTHING OF IT CHANGES
same_counts : (past after : Past) → after.is_reported ≡ past.is_reported
    → has_ack after.to_primary ≡ has_ack past.to_primary → sent_of after.known_items ≡ sent_of past.known_items
    → sent_of (before_commit after.secondary.items) ≡ sent_of (before_commit past.secondary.items)
    → sent_of after.copy.run.items ≡ sent_of past.copy.run.items → after.sent_heard ≡ past.sent_heard → Counts past
    → Counts after
unfolding Counts
same_counts past after r u k b c n h alone =
    subst (λ (t : Bool × List TcpFields × List TcpFields × List TcpFields × ℕ). AreCounted t.0 t.1 t.2 t.3 t.4)
    (λ i. (sym u i, sym k i, sym b i, sym c i, sym n i)) (h (sym r ∙ alone))

more_up : (link more : List Message) → has_ack more ≡ false → has_ack (link ++ more) ≡ has_ack link
more_up link more none =
    list_any-append is_ack_message link more
    ∙ (ap (λ (b : Bool). has_ack link || b) none ∙ or-false (has_ack link))

calm_link : (past : Past) → IsCalm past → has_ack past.to_primary ≡ false
calm_link past h = replies_hold_no_ack past.to_primary h.up

-- a capture, where no commit is unheard of
captured_counts : (past : Past) → has_ack past.to_primary ≡ false → Counts past → Counts (capture past)
unfolding capture Counts
captured_counts past none h alone = record {
  counts = (h alone).counts;
  copied = λ e. absurd (true≢false (sym e ∙ none));
}

-- what settles with no commit unheard of
settles_counts : (base : Past) → has_ack base.to_primary ≡ false → Counts base → (ns : List KeptNumber)
    → (ps : ProgressTable) → (new : List KeptNumber)
    → Counts (told_past base ns ps new) × Counts (capture (told_past base ns ps new))
unfolding Counts
settles_counts base none h ns ps new = (h, captured_counts (told_past base ns ps new) none h)

-- THE SECONDARY
before_sent : (items more : List Item) (xs : List TcpFields) → more ≡ items ++ map sent xs
    → sent_of (before_commit more) ≡ sent_of (before_commit items)
before_sent items more xs e =
    ap (λ (ys : List Item). sent_of (before_commit ys)) e
    ∙ ap (λ (ys : List Item). sent_of ys) (same_before items (map sent xs) (sent_own xs))

before_trims : (items : List Item) (w : Waiting)
    → sent_of (before_commit (items ++ trims_by w)) ≡ sent_of (before_commit items)
before_trims items w = ap (λ (ys : List Item). sent_of ys) (same_before items (trims_by w) (trims_own w))

turned_counts : (past : Past) (d : ℕ) (i : Bool) (b n : ℕ) (made : TurnMade)
    → made.run.items ≡ past.secondary.items ++ map sent (segments made.output) → Counts past
    → Counts (turn_secondary past (Secondary d i b n) made).after
unfolding turn_secondary
turned_counts past d i b n made items h =
    let after = (turn_secondary past (Secondary d i b n) made).after in
    same_counts past after refl
    (more_up past.to_primary (map Sent (counted_frames made.output)) (told_hold_no_ack (counted_frames made.output)))
    refl (before_sent past.secondary.items made.run.items (segments made.output) items) refl refl h

pub trims_counts : (b : Bool) (items : List Item) (w : Waiting)
    → sent_of (if b then items else items ++ trims_by w) ≡ sent_of items
trims_counts true items w = refl
trims_counts false items w = sent_of-trims items w

accepted_counts : (b : Bool) (past : Past) (w : Waiting) → Counts past → Counts (accept_by b past w (trims_by w))
unfolding accept_by
accepted_counts true past w h =
    same_counts past (accept_by true past w (trims_by w)) refl refl refl (before_trims past.secondary.items w) refl refl
    h
accepted_counts false past w h =
    same_counts past (accept_by false past w (trims_by w)) refl refl
    (trims_counts past.is_reported past.known_items w) refl refl refl h

-- the commit
committed_counts : (past : Past) (n : ℕ) → Counts (hear_end past n)
unfolding Counts
committed_counts past n alone =
    let unheard : has_ack (past.to_primary ++ Ack n ∷ []) ≡ true =
    list_any-append is_ack_message past.to_primary (Ack n ∷ []) ∙ or-true (has_ack past.to_primary) in
    record {
      counts = λ e. absurd (true≢false (sym unheard ∙ e));
      copied = λ e. sym (committed_before past.copy.run.items);
    }

heard_counts : (past : Past) (m : Message) → Counts past → Counts (secondary_hears past m).after
unfolding hear_frame
heard_counts past m h =
    heard_case (λ o. Counts o.after) past m
    (λ index seen trim frame is.
    same_counts past (hear_frame past (waiting_in index seen trim frame)) refl refl refl
    (before_trims past.secondary.items (waiting_in index seen trim frame)) refl refl h)
    (λ t client number is.
    same_counts past (hear_number past t client number) refl
    (more_up past.to_primary
    (Known t client (number_said (kept_number t client past.secondary_numbers) number) ∷ []) refl)
    refl refl refl refl h)
    (λ n is. committed_counts past n) (λ apart. h)

-- THE PRIMARY
-- what is popped from the link, but an acknowledgement
popped_counts : (past : Past) (m : Message) (ms : List Message) → past.to_primary ≡ m ∷ ms → is_ack_message m ≡ false
    → Counts past → Counts (record past { to_primary = ms })
popped_counts past m ms e other h =
    same_counts past (record past { to_primary = ms }) refl
    (sym (ap (λ (xs : List Message). has_ack xs) e ∙ ap (λ (b : Bool). b || has_ack ms) other)) refl refl refl refl h

no_ack_foreign : (m : Message) → is_foreign m ≡ true → is_ack_message m ≡ false
no_ack_foreign (Frame index seen trim frame) f = refl
no_ack_foreign (Number t client number) f = refl
no_ack_foreign (Begin e) f = refl
no_ack_foreign (State bytes) f = refl
no_ack_foreign (Page k bytes) f = refl
no_ack_foreign (Disk first bytes) f = refl
no_ack_foreign (Write k bytes) f = refl
no_ack_foreign (Held index seen trim frame) f = refl
no_ack_foreign (message.Line t mac flags client own number refused acked window mss base) f = refl
no_ack_foreign (Bytes bytes) f = refl
no_ack_foreign (End e) f = refl
no_ack_foreign (Known t client number) f = refl
no_ack_foreign (Sent frame) f = refl
no_ack_foreign (Ack e) f = absurd (true≢false (sym f))

-- a frame of the secondary's that is told is one segment
one_segment : (frame : List ℕ) → IsSome (counted frame) → length (segments (frame ∷ [])) ≡ 1
one_segment frame some = by (counted frame) some
  where
    by : (o : Option TcpFields) → IsSome o → length (cons_option o []) ≡ 1
    by None h = absurd (true≢false (sym h))
    by (Some s) h = refl

sent_again : (xs : List TcpFields) → sent_of (map sent xs) ≡ xs
sent_again [] = refl
sent_again (x ∷ xs) = ap (λ (ys : List TcpFields). x ∷ ys) (sent_again xs)

frame_counts : (past : Past) (frame : List ℕ) → IsSome (counted frame) → has_ack past.to_primary ≡ false
    → Counts past → Counts (sent_base past frame)
unfolding Counts
frame_counts past frame some none h alone =
    let xs = segments (frame ∷ []) in
    let known : sent_of (past.known_items ++ map sent xs) ≡ sent_of past.known_items ++ xs =
    filter_map-append segment_of past.known_items (map sent xs)
    ∙ ap (λ (ys : List TcpFields). sent_of past.known_items ++ ys) (sent_again xs) in
    let longer = ap (λ (ys : List TcpFields). length ys) known ∙ length-append (sent_of past.known_items) xs in
    let one = one_segment frame some in
    let now = (h alone).counts none in
    record {
      counts = λ e. omega (arith, longer, one, now);
      copied = λ e. absurd (true≢false (sym e ∙ none));
    }

acked_counts : (past : Past) (n : ℕ) (ms : List Message) → past.to_primary ≡ Ack n ∷ ms → has_ack ms ≡ false
    → sent_of past.primary.items ≡ sent_of past.copy.run.items → Counts past
    → Counts (acknowledge (record past { to_primary = ms }))
unfolding Counts
acked_counts past n ms e none same h alone =
    let unheard = ap (λ (xs : List Message). has_ack xs) e in
    let known : sent_of (past.primary.items ++ commit ∷ []) ≡ sent_of (before_commit past.secondary.items) =
    committed_sends past.primary.items ∙ (same ∙ (h alone).copied unheard) in
    let long = ap (λ (ys : List TcpFields). length ys) known in
    record {
      counts = λ f. omega (arith, long);
      copied = λ f. absurd (true≢false (sym f ∙ none));
    }

reply_of : (past : Past) (m : Message) (frame : List ℕ) (ms : List Message) → m ≡ Sent frame
    → HeardBackFirst past m ms → IsSome (counted frame)
reply_of past m frame ms is (replies g one) = subst IsReply is g
reply_of past m frame ms is (acks same g) =
    absurd (true≢false (ap is_ack_message (sym same ∙ is)))

ack_awaits : (past : Past) (m : Message) (n : ℕ) (ms : List Message) → m ≡ Ack n → HeardBackFirst past m ms
    → past.awaits_ack ≡ true
ack_awaits past m n ms is (replies g one) = absurd (subst IsReply is g)
ack_awaits past m n ms is (acks same g) = g.awaits

back_counts : (past : Past) (m : Message) (ms : List Message) → past.to_primary ≡ m ∷ ms
    → (past.awaits_ack && not (is_ack_message m)) ≡ false → HeardBackFirst past m ms
    → (past.awaits_ack ≡ true → sent_of past.primary.items ≡ sent_of past.copy.run.items) → Counts past
    → Counts (primary_hears (record past { to_primary = ms }) m).after
unfolding Counts
back_counts past m ms e idle first paused h =
    let p : Past = record past { to_primary = ms } in
    heard_back_case (λ o. Counts o.after) p m
    (λ t client number is. let none = calm_link p (reply_calm past m (Known t client number) ms is refl idle first) in
    let now = settles_counts (known_base p t client number) none
    (popped_counts past m ms e (ap is_ack_message is) h) in
    known_settled (λ step after. Counts after) p t client number past.sent_heard
    (λ out ns ps new. (now ns ps new).0) (λ out ns ps new why alone. (now ns ps new).1))
    (λ frame is. let none = calm_link p (reply_calm past m (Sent frame) ms is refl idle first) in
    let now = settles_counts (sent_base p frame) none
    (frame_counts p frame (reply_of past m frame ms is first) none
    (popped_counts past m ms e (ap is_ack_message is) h)) in
    sent_settled (λ step after. Counts after) p frame (past.sent_heard + 1)
    (λ out ns ps new. (now ns ps new).0) (λ out ns ps new why alone. (now ns ps new).1))
    (λ n is. let none = calm_link (acknowledge p) (ack_calm past m n ms is first) in
    let now = settles_counts (acknowledge p) none (acked_counts past n ms
    (e ∙ ap (λ (x : Message). x ∷ ms) is) none (paused (ack_awaits past m n ms is first)) h) in
    ack_settled (λ step after. Counts after) p n (λ out ns ps new. (now ns ps new).0)
    (λ out ns ps new why alone. (now ns ps new).1))
    (λ foreign. popped_counts past m ms e (no_ack_foreign m foreign) h)

-- EVERY EVENT
counts_cases : (a : Start) → Cases a.kind a.stream (Keeps Fits a CountsSteps)
unfolding secondary_survives CountsSteps Counts
counts_cases a = record {
  idle = λ past x e f steps r fits h. h;
  primary_turn =
      λ past d i b n e f steps r fits h.
      let made = turn_from a.kind past.primary past.primary_inbox i (numbers_of d b n) in
      let none = calm_link past (calm_of past (one_checkpoint Fits a steps past r) f) in
      let now = settles_counts (primary_base past made) none h in
      primary_settled (λ step after. Counts after) past d i b n made
      (λ out ns ps new. (now ns ps new).0) (λ out ns ps new why alone. (now ns ps new).1);
  secondary_turn =
      λ past d i b n e f steps r fits h. turned_counts past d i b n
      (turn_from a.kind past.secondary past.secondary_inbox i (numbers_of d b n))
      (turn_items a.kind past.secondary past.secondary_inbox i (numbers_of d b n)) h;
  survivor_turn =
      λ past d i b n e steps r fits h.
      let reported = (and_parts (is_primary_stop past.stop) past.is_reported e).1 in
      survivor_settled (λ step after. Counts after) past d i b n
      (turn_from a.kind past.secondary past.secondary_inbox i (numbers_of d b n))
      (λ out ns ps new unreported. absurd (true≢false (sym reported ∙ unreported)))
      (λ out ns ps new why alone. absurd (true≢false (sym reported ∙ alone)));
  accepts = λ past frame kept t e f steps r fits h. accepted_counts (is_primary_stop past.stop) past _ h;
  is_full = λ past frame kept t e f steps r fits h. h;
  answers = λ past frame b t e steps r fits h. h;
  drops = λ past frame why t e steps r fits h. h;
  loses = λ past frame t e f steps r fits h. h;
  secondary_hears =
      λ past m ms e f g steps r fits h. heard_counts (record past { to_secondary = ms }) m h;
  ignores = λ past m ms e f g running alone steps r fits h. popped_counts past m ms e f h;
  primary_hears =
      λ past m ms e f running alone steps r fits h. back_counts past m ms e f
      (pop_up past m ms e (one_checkpoint Fits a steps past r)) (λ w. (is_paused a steps past r w).said) h;
  primary_stops = λ past steps r fits h. h;
  secondary_stops = λ past steps r fits h. h;
  secondary_left = λ past e steps r fits h alone. absurd (true≢false alone);
  primary_left =
      λ past e steps r fits h. left_settled (λ step after. Counts after) past
      (λ out ns ps new alone. absurd (true≢false alone));
  asks =
      λ past e f g steps r fits h. captured_counts past
      (calm_link past (calm_of past (one_checkpoint Fits a steps past r) e)) h;
}

first_counts : (a : Start) → IsStart a → Counts (first_past a)
unfolding Counts
first_counts a (boots kind stream state m n regular fits bytes frames) alone =
    record { counts = λ e. refl; copied = λ e. absurd (true≢false (sym e)) }

-- THE SENTENCE
splices : (past : Past) → KnowsSecondary past → Counts past → KnownSplicesOf past
unfolding Counts
splices past knows counts alone =
    let known = sent_of past.known_items in
    let before = sent_of (before_commit past.secondary.items) in
    let since = sent_of (since_commit past.secondary.items) in
    record {
      known = λ e. let front = (knows alone).front e in
          sym (take-append_seam known front.0)
          ∙ ((λ i. take ((counts alone).counts e i)
          ((sym front.1 ∙ sym (sent_together past.secondary.items)) i))
          ∙ take-append-add before since past.sent_heard);
      copied = (counts alone).copied;
    }

pub known_splices_hold : KnownSplicesEachLog
unfolding CountsSteps
known_splices_hold a lines start =
    each_front a (λ (steps : List Step) (past : Past). KnownSplicesOf past)
    (λ xs one. splices (past_at a (pair_log a xs)) (known_holds a xs one)
    (each_log a CountsSteps (each_history Fits a CountsSteps (first_counts a start) (counts_cases a)) xs one)) lines
