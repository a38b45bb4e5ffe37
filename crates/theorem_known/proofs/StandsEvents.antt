-- What each event releases stands in what is known of the secondary, until a report.
use Rattle.std.proofs.Common.{◌≡◌, ℕ, ◌+◌, ◌&&◌, Bool, true, false, if◌then◌else◌, List, [], ◌∷◌, ◌++◌, append-nil, map, Option, None, Some, refl, sym, ap, subst, ◌∙◌, All, true≢false}
use Rattle.std.proofs.lemmas.Bool.{and_parts}
use Rattle.std.proofs.lemmas.List.Elements.{All-nil, filter_map-append}
use Rattle.inet_frame.specs.Counted.{tcp_in}
use Rattle.inet_frame.specs.Fields.{TcpFields}
use Rattle.inet_frame.specs.Laws.{AreInRange}
use Rattle.inet_frame.specs.declared.tuple.Tuple.{Tuple}
use Rattle.tcp_track.specs.Lines.{Item, commit, line, order, segment_of, sent, sent_of}
use Rattle.tcp_track.specs.Stands.{segments}
use Rattle.settle_rules.specs.Numbers.{learn_number}
use Rattle.settle_rules.specs.OwnFrames.{no_own_frames, own_frames}
use Rattle.settle_rules.specs.Progress.{ProgressTable, clear_ages, progress_of}
use Rattle.settle_rules.specs.Release.{Released}
use Rattle.settle_rules.specs.Settle.{settle}
use Rattle.frame_mirror.specs.declared.ring.Waiting.{Waiting}
use Rattle.state_wire.specs.Regular.{IsRegular}
use Rattle.colo_wire.specs.declared.messages.Message.{Message}
use Rattle.colo_wire.specs.declared.messages.Message.TheVariants.{Known, Sent, Ack}
use Rattle.replay_log.specs.declared.lines.Line.{Line}
use Rattle.replay_log.specs.declared.lines.Line.TheVariants.{Primary, ToPrimary}
use Rattle.replay_log.specs.declared.records.Answer.{Answer}
use Rattle.replay_log.specs.declared.records.Answer.TheVariants.{HeardBack, Made}
use Rattle.replay_log.specs.declared.records.Mark.{Mark}
use Rattle.replay_log.specs.declared.records.Mark.TheVariants.{Acknowledged}
use Rattle.pair_theorem.specs.Checkpoint.{capture}
use Rattle.pair_theorem.specs.ClientFrames.{trims_by}
use Rattle.pair_theorem.specs.Events.{Settling, accept_by, ack_ended, acknowledge, committed_items, ended_by, hear_frame, known_ended, look_at, numbers_of, outcome_with, primary_ended, primary_hears, raise_count, restarts_in, scene_of, secondary_hears, secondary_survives, sent_ended, settle_event, turn_primary, turn_secondary, waiting_of}
use Rattle.pair_theorem.specs.GuestTurns.{TurnMade, turn_from}
use Rattle.pair_theorem.specs.Past.{Past, Start, Step, is_primary_stop, releasing_items}
use Rattle.pair_theorem.specs.Places.{places_after}
use Rattle.pair_theorem.proofs.EventCases.{Cases, settled_case}
use Rattle.pair_theorem.proofs.MessageCases.{heard_back_case, heard_case}
use Rattle.theorem_frames.specs.Shapes.{AreSentInRange}
use Rattle.theorem_frames.proofs.BytesLemmas.{NumberFits, all_learnt_fit, as_before, learnt_fit, own_in_range, own_numbers_fit, turn_of_bytes}
use Rattle.theorem_frames.proofs.GrowthLemmas.{what_stands_goes_on}
use Rattle.theorem_frames.proofs.ShapeLemmas.{IsOfBytes}
use Rattle.theorem_runs.proofs.Settled.{left_settled, survivor_settled}
use Rattle.theorem_stands.specs.Numbered.{AreNumbered, NumbersAreKept}
use Rattle.theorem_stands.proofs.NumberedEvents.{acknowledged_numbered, learnt_numbered, no_survivor, not_yet, when_primary}
use Rattle.theorem_stands.proofs.NumberedLemmas.{all_own_numbered, cleared, own_items}
use Rattle.theorem_symbols.specs.Shown.{SynsAreShown}
use Rattle.theorem_symbols.proofs.PlaceLemmas.{PlaceRight}
use Rattle.theorem_symbols.proofs.ReleaseEvents.{clients_are, own_alike, shown_alike}
use Rattle.theorem_known.proofs.BelowLemmas.{SameSymbols, all_own_below, below_same, trims_same}
use Rattle.theorem_known.proofs.BothRight.{AllBelow, BelowStands, settle_with, theirs_stand}
use Rattle.theorem_known.proofs.HeardLemmas.{trims_counts}
use Rattle.theorem_known.proofs.ItemLemmas.{committed_sends, turn_items}

-- what is known of the secondary after an event: what was known and more, or what the primary had sent
pub data Source (known own now : List TcpFields) : Type 0 where
  knows_more : (xs : List TcpFields) → now ≡ known ++ xs → Source known own now
  knows_own : now ≡ own → Source known own now

-- of the past before an event and the past after it
abbrev pub KnownFrom : Past → Past → Type 0
KnownFrom past after =
    Source (sent_of past.known_items) (sent_of past.primary.items) (sent_of after.known_items)

-- what is shown of an event, after all that was released before it
pub record EventWith (a : Start) (released : List Released) (known own : List TcpFields) (step : Step)
    (after : Past) : Type 0 where
  pub right : All (PlaceRight (sent_of after.known_items)) (places_after a after released step.released)
  pub below : AllBelow (sent_of after.known_items) after.primary.items after.progress
  pub source : Source known own (sent_of after.known_items)

-- until a report
abbrev pub With : Start → List Released → Past → Step → Past → Type 0
With a released past step after =
    after.is_reported ≡ false
    → EventWith a released (sent_of past.known_items) (sent_of past.primary.items) step after

abbrev pub BelowKnown : Past → Type 0
BelowKnown past =
    past.is_reported ≡ false → AllBelow (sent_of past.known_items) past.primary.items past.progress

-- A SETTLING, and the past after it
record SettledKnown (a : Start) (p : Past) (released : List Released) (x : Settling) (after : Past) : Type 0 where
  right : All (PlaceRight (sent_of p.known_items)) (places_after a after released (settle_event p x).out)
  below : AllBelow (sent_of p.known_items) p.primary.items (settle_event p x).after.progress

record IsReadyKnown (a : Start) (p : Past) (released : List Released) (x : Settling) : Type 0 where
  items : p.primary.items ≡ x.before ++ map sent x.own
  fit : All NumberFits p.numbers
  range : AreSentInRange x.before
  own : All AreInRange x.own
  numbered : AreNumbered x.before p.numbers p.progress
  shown : SynsAreShown a released p.progress
  below : p.is_reported ≡ false → AllBelow (sent_of p.known_items) x.before p.progress

settles_known : (a : Start) (p : Past) (released : List Released) (x : Settling) (after : Past)
    → p.is_reported ≡ false → IsReadyKnown a p released x → releasing_items after ≡ p.primary.items
    → SettledKnown a p released x after
unfolding settle_event ended_by own_frames
settles_known a p released x after alone h releasing =
    let begin = no_own_frames x.before p.numbers p.progress in
    let own = own_frames x.before p.numbers p.progress x.own in
    let scene = scene_of p own x in
    let same : p.primary.items ≡ own.items = h.items ∙ sym (own_items begin x.own) in
    let fit = own_numbers_fit begin x.own (record { all = h.fit; new = All-nil NumberFits }) h.own in
    let all =
    settle_with a after released scene (order own.items) own.progress alone (record {
      fit = fit.all;
      range = own_in_range begin x.own h.range h.own;
      now = clients_are after own.items (releasing ∙ same);
    }) (all_own_numbered begin x.own h.numbered)
    (shown_alike a released p.progress own.progress (own_alike begin x.own) h.shown)
    (all_own_below (sent_of p.known_items) begin x.own h.numbered (h.below alone)) in
    record {
      right = all.right;
      below = subst (λ (xs : List Item).
          AllBelow (sent_of p.known_items) xs (settle scene (order own.items) own.progress).progress)
          (sym same) all.below;
    }

-- at the primary, which then may capture
settles : (a : Start) (past p : Past) (released : List Released) (x : Settling) (l : Line) (marks : List Mark)
    (delivered : Option Message) (answer : ℕ → Answer) → IsReadyKnown a p released x
    → ((after : Past) → after.known_items ≡ p.known_items → KnownFrom past after)
    → With a released past (outcome_with l marks delivered answer (settle_event p x)).step
    (outcome_with l marks delivered answer (settle_event p x)).after
unfolding settle_event ended_by capture
settles a past p released x l marks delivered answer h source =
    settled_case (λ o. With a released past o.step o.after) l marks delivered answer (settle_event p x)
    (λ none alone. let after = (settle_event p x).after in
    let all = settles_known a p released x after alone h (primary_is after alone) in
    record { right = all.right; below = all.below; source = source after refl })
    (λ why some alone. let after = capture (settle_event p x).after in
    let all = settles_known a p released x after alone h (primary_is after alone) in
    record { right = all.right; below = all.below; source = source after refl })
  where
    primary_is : (after : Past) → after.is_reported ≡ false → releasing_items after ≡ after.primary.items
    primary_is after alone =
        ap (λ (b : Bool). if b then after.secondary.items else after.primary.items) (not_yet after alone)

-- AN EVENT THAT RELEASES NO SEGMENT
quiet : (a : Start) (released : List Released) (past after : Past) (step : Step)
    → places_after a after released step.released ≡ [] → after.is_reported ≡ past.is_reported
    → sent_of after.known_items ≡ sent_of past.known_items → after.progress ≡ past.progress
    → ((t : Tuple) → SameSymbols (line t past.primary.items) (line t after.primary.items)) → BelowKnown past
    → With a released past step after
quiet a released past after step none r k g same h alone =
    let before = h (sym r ∙ alone) in
    record {
      right = subst (All (PlaceRight (sent_of after.known_items))) (sym none)
          (All-nil (PlaceRight (sent_of after.known_items)));
      below = λ t.
          below_same (sent_of after.known_items) t (line t past.primary.items) (line t after.primary.items)
          (progress_of t after.progress).edge (same t)
          (subst (λ (x : List TcpFields × ProgressTable).
          BelowStands x.0 t (line t past.primary.items) (progress_of t x.1).edge) (λ i. (sym k i, sym g i)) (before t));
      source = knows_more [] (k ∙ sym (append-nil (sent_of past.known_items)));
    }

as_it_was : (items : List Item) (t : Tuple) → SameSymbols (line t items) (line t items)
as_it_was items t = record { opening = refl; symbols = refl }

-- A TURN
turned : (a : Start) (released : List Released) (past : Past) (d : ℕ) (i : Bool) (b n : ℕ) (made : TurnMade)
    → is_primary_stop past.stop ≡ false → IsOfBytes a.kind past → All AreInRange (segments made.output)
    → made.run.items ≡ past.primary.items ++ map sent (segments made.output)
    → AreNumbered past.primary.items past.numbers past.progress → SynsAreShown a released past.progress
    → BelowKnown past
    → With a released past (turn_primary past (Primary d i b n) made).step
    (turn_primary past (Primary d i b n) made).after
unfolding turn_primary primary_ended
turned a released past d i b n made e bytes own items numbered shown h =
    settles a past (record past {
      primary = made.run;
      primary_inbox = made.inbox;
      primary_turned = raise_count past.primary_turned;
    }) released (record {
      before = past.primary.items;
      own = segments made.output;
      restarts = [];
      is_turn = true;
    }) (Primary d i b n) [] None (Made made.index) (record {
      items = items;
      fit = bytes.numbers;
      range = bytes.primary.items;
      own = own;
      numbered = numbered;
      shown = shown;
      below = h;
    }) (λ after k. knows_more [] (ap (λ (xs : List Item). sent_of xs) k ∙ sym (append-nil (sent_of past.known_items))))

-- A CLIENT'S FRAME
accepted : (a : Start) (released : List Released) (past : Past) (w : Waiting) (b : Bool) (step : Step)
    → step.released ≡ [] → BelowKnown past → With a released past step (accept_by b past w (trims_by w))
unfolding accept_by places_after
accepted a released past w true step none h =
    quiet a released past (accept_by true past w (trims_by w)) step
    (ap (λ (rs : List Released). places_after a (accept_by true past w (trims_by w)) released rs) none) refl refl refl
    (as_it_was past.primary.items) h
accepted a released past w false step none h =
    quiet a released past (accept_by false past w (trims_by w)) step
    (ap (λ (rs : List Released). places_after a (accept_by false past w (trims_by w)) released rs) none) refl
    (trims_counts past.is_reported past.known_items w) refl (λ t. trims_same t past.primary.items w) h

-- THE SECONDARY HEARS
heard : (a : Start) (released : List Released) (past : Past) (m : Message) → BelowKnown past
    → With a released past (secondary_hears past m).step (secondary_hears past m).after
unfolding hear_frame places_after
heard a released past m h =
    heard_case (λ o. With a released past o.step o.after) past m
    (λ index seen trim frame is. quiet a released past _ _ refl refl refl refl (as_it_was past.primary.items) h)
    (λ t client number is. quiet a released past _ _ refl refl refl refl (as_it_was past.primary.items) h)
    (λ n is. quiet a released past _ _ refl refl refl refl (as_it_was past.primary.items) h)
    (λ apart. quiet a released past _ _ refl refl refl refl (as_it_was past.primary.items) h)

-- THE PRIMARY HEARS
below_more : (said xs : List TcpFields) (mine : List Item) (progress : ProgressTable) → AllBelow said mine progress
    → AllBelow (said ++ xs) mine progress
below_more said xs mine progress h t o k x e low f =
    (what_stands_goes_on said xs t o.client).symbol k x (h t o k x e low f)

hears : (a : Start) (past p : Past) (released : List Released) (before : List Item) (restarts : List Tuple)
    (marks : List Mark) (delivered : Option Message) (answer : ℕ → Answer) → before ≡ p.primary.items
    → All NumberFits p.numbers → AreSentInRange p.primary.items → AreNumbered p.primary.items p.numbers p.progress
    → SynsAreShown a released p.progress → BelowKnown p
    → ((after : Past) → after.known_items ≡ p.known_items → KnownFrom past after)
    → With a released past
    (outcome_with ToPrimary marks delivered answer
    (settle_event p (record { before = before; own = []; restarts = restarts; is_turn = false }))).step
    (outcome_with ToPrimary marks delivered answer
    (settle_event p (record { before = before; own = []; restarts = restarts; is_turn = false }))).after
hears a past p released before restarts marks delivered answer is fit range numbered shown h source =
    settles a past p released (record { before = before; own = []; restarts = restarts; is_turn = false }) ToPrimary
    marks delivered answer (record {
      items = sym (append-nil p.primary.items) ∙ ap (λ (xs : List Item). xs ++ []) (sym is);
      fit = fit;
      range = subst AreSentInRange (sym is) range;
      own = All-nil AreInRange;
      numbered = subst (λ (xs : List Item). AreNumbered xs p.numbers p.progress) (sym is) numbered;
      shown = shown;
      below = λ alone. subst (λ (xs : List Item). AllBelow (sent_of p.known_items) xs p.progress) (sym is) (h alone);
    }) source

hears_back : (a : Start) (released : List Released) (past : Past) (m : Message)
    → is_primary_stop past.stop ≡ false → All NumberFits past.numbers → AreSentInRange past.primary.items
    → AreNumbered past.primary.items past.numbers past.progress → SynsAreShown a released past.progress
    → BelowKnown past → With a released past (primary_hears past m).step (primary_hears past m).after
unfolding known_ended sent_ended ack_ended places_after
hears_back a released past m e fit range numbered shown h =
    let known = sent_of past.known_items in
    heard_back_case (λ o. With a released past o.step o.after) past m
    (λ t client number is.
    hears a past (record past { numbers = learn_number past.numbers t client number }) released past.primary.items [] []
    (Some (Known t client number)) (HeardBack 12 past.sent_heard) refl (learnt_fit t client number past.numbers fit)
    range (learnt_numbered past t client number numbered) shown h
    (λ after k. knows_more [] (ap (λ (xs : List Item). sent_of xs) k ∙ sym (append-nil known))))
    (λ frame is. let xs = map sent (segments (frame ∷ [])) in
    let grows : sent_of (past.known_items ++ xs) ≡ known ++ sent_of xs =
    filter_map-append segment_of past.known_items xs in
    hears a past (record past { sent_heard = past.sent_heard + 1; known_items = past.known_items ++ xs }) released
    past.primary.items (restarts_in past.known_items (segments (frame ∷ []))) [] (Some (Sent frame))
    (HeardBack 13 (past.sent_heard + 1)) refl fit range numbered shown
    (λ alone. subst (λ (ys : List TcpFields). AllBelow ys past.primary.items past.progress) (sym grows)
    (below_more known (sent_of xs) past.primary.items past.progress (h alone)))
    (λ after k. knows_more (sent_of xs) (ap (λ (ys : List Item). sent_of ys) k ∙ grows)))
    (λ n is.
    hears a past (acknowledge past) released (committed_items past) [] (Acknowledged n ∷ []) (Some (Ack n))
    (HeardBack 14 0) refl (all_learnt_fit past.numbers fit)
    (as_before past.primary.items (commit ∷ []) refl range) (acknowledged_numbered past numbered)
    (shown_alike a released past.progress (clear_ages past.progress) (λ t. (cleared t past.progress).1) shown)
    (λ alone t o k x f low g. (theirs_stand (committed_items past) t).symbol o f k x g)
    (λ after k. knows_own (ap (λ (ys : List Item). sent_of ys) k ∙ committed_sends past.primary.items)))
    (λ foreign. quiet a released past _ _ refl refl refl refl (as_it_was past.primary.items) h)

-- EVERY EVENT
mine_numbered : (past : Past) → is_primary_stop past.stop ≡ false → NumbersAreKept past
    → AreNumbered past.primary.items past.numbers past.progress
mine_numbered past e h =
    when_primary (is_primary_stop past.stop && past.is_reported) past.secondary.items past.primary.items past.numbers
    past.progress (no_survivor past e) h

pub with_cases : (a : Start) → IsRegular a.kind
    → Cases a.kind a.stream (λ past x o. (released : List Released) → IsOfBytes a.kind past → NumbersAreKept past
    → SynsAreShown a released past.progress → BelowKnown past → With a released past o.step o.after)
unfolding secondary_survives turn_secondary capture places_after
with_cases a regular = record {
  idle = λ past x e f released bytes kept shown h.
      quiet a released past _ _ refl refl refl refl (as_it_was past.primary.items) h;
  primary_turn =
      λ past d i b n e f released bytes kept shown h. turned a released past d i b n
      (turn_from a.kind past.primary past.primary_inbox i (numbers_of d b n)) e bytes
      (turn_of_bytes a.kind past.primary past.primary_inbox i (numbers_of d b n) regular bytes.primary).own
      (turn_items a.kind past.primary past.primary_inbox i (numbers_of d b n)) (mine_numbered past e kept) shown h;
  secondary_turn = λ past d i b n e f released bytes kept shown h.
      quiet a released past _ _ refl refl refl refl (as_it_was past.primary.items) h;
  survivor_turn =
      λ past d i b n e released bytes kept shown h.
      let reported = (and_parts (is_primary_stop past.stop) past.is_reported e).1 in
      survivor_settled (λ step after. With a released past step after) past d i b n
      (turn_from a.kind past.secondary past.secondary_inbox i (numbers_of d b n))
      (λ out ns ps new alone. absurd (true≢false (sym reported ∙ alone)))
      (λ out ns ps new why some alone. absurd (true≢false (sym reported ∙ alone)));
  accepts = λ past frame kept t e f released bytes numbered shown h.
      accepted a released past (waiting_of past (look_at past (tcp_in kept)) kept) (is_primary_stop past.stop) _ refl h;
  is_full = λ past frame kept t e f released bytes numbered shown h.
      quiet a released past _ _ refl refl refl refl (as_it_was past.primary.items) h;
  answers = λ past frame b t e released bytes numbered shown h.
      quiet a released past _ _ refl refl refl refl (as_it_was past.primary.items) h;
  drops = λ past frame why t e released bytes numbered shown h.
      quiet a released past _ _ refl refl refl refl (as_it_was past.primary.items) h;
  loses = λ past frame t e f released bytes numbered shown h.
      quiet a released past _ _ refl refl refl refl (as_it_was past.primary.items) h;
  secondary_hears = λ past m ms e f g released bytes kept shown h.
      heard a released (record past { to_secondary = ms }) m h;
  ignores = λ past m ms e f g running alone released bytes kept shown h.
      quiet a released past _ _ refl refl refl refl (as_it_was past.primary.items) h;
  primary_hears = λ past m ms e f running alone released bytes kept shown h.
      hears_back a released (record past { to_primary = ms }) m running bytes.numbers bytes.primary.items
      (mine_numbered past running kept) shown h;
  primary_stops = λ past released bytes kept shown h.
      quiet a released past _ _ refl refl refl refl (as_it_was past.primary.items) h;
  secondary_stops = λ past released bytes kept shown h.
      quiet a released past _ _ refl refl refl refl (as_it_was past.primary.items) h;
  secondary_left = λ past e released bytes kept shown h alone. absurd (true≢false alone);
  primary_left = λ past e released bytes kept shown h.
      left_settled (λ step after. With a released past step after) past
      (λ out ns ps new alone. absurd (true≢false alone));
  asks = λ past e f g released bytes kept shown h.
      quiet a released past _ _ refl refl refl refl (as_it_was past.primary.items) h;
}
