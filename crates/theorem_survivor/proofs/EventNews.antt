-- Which SYNs each event shows until a report, and how it goes on with numbers and with what is known.
use Rattle.std.proofs.Common.{◌≡◌, ◌⊎◌, inl, ℕ, ◌+◌, ◌<◌, ◌&&◌, ◌||◌, not, Bool, true, false, is_some, if◌then◌else◌, List, [], ◌∷◌, ◌++◌, append-nil, map, fold, Option, None, Some, refl, sym, ap, subst, ◌∙◌, All, Contains, arith, eqb-true, true≢false}
use Rattle.std.proofs.Math.Bool.{or-true}
use Rattle.std.specs.List.{list_any}
use Rattle.std.proofs.lemmas.Bool.{and_parts}
use Rattle.std.proofs.lemmas.List.Elements.{All-nil, filter_map-append}
use Rattle.std.proofs.lemmas.List.Folds.{list_any-append}
use Rattle.inet_frame.specs.Fields.{TcpFields}
use Rattle.inet_frame.specs.Laws.{AreInRange}
use Rattle.inet_frame.specs.declared.tuple.Tuple.{Tuple}
use Rattle.tcp_track.specs.Laws.{took_after}
use Rattle.tcp_track.specs.Lines.{Item, line, order, segment_of, sent, sent_of}
use Rattle.tcp_track.specs.Stands.{segments}
use Rattle.tcp_track.specs.declared.answers.What.{What}
use Rattle.tcp_track.specs.declared.answers.What.TheVariants.{Ignored, Opened, Restarted, Symbols, Reset, Refused}
use Rattle.tcp_track.specs.declared.openings.Opening.{Opening}
use Rattle.tcp_track.proofs.SymbolLemmas.{line_fits}
use Rattle.settle_rules.specs.Matching.{client_or_zero, has_one_client, have_one_client}
use Rattle.settle_rules.specs.Numbers.{KeptNumber, is_known, kept_number, learn_all, learn_number, new_number, number_or_zero}
use Rattle.settle_rules.specs.OwnFrames.{OwnFrames, no_own_frames, own_after, own_frames, progress_with}
use Rattle.settle_rules.specs.Progress.{Progress, ProgressTable, clear_ages, progress_of}
use Rattle.settle_rules.specs.Release.{Released}
use Rattle.settle_rules.specs.Settle.{Scene, both_lines}
use Rattle.frame_mirror.specs.declared.ring.Waiting.{Waiting}
use Rattle.state_wire.specs.Regular.{IsRegular}
use Rattle.colo_wire.specs.declared.messages.Message.{Message}
use Rattle.colo_wire.specs.declared.messages.Message.TheVariants.{End, Known, Sent, Ack}
use Rattle.replay_log.specs.declared.lines.Line.{Line}
use Rattle.replay_log.specs.declared.lines.Line.TheVariants.{Primary, Secondary, ToPrimary}
use Rattle.replay_log.specs.declared.records.Answer.{Answer}
use Rattle.replay_log.specs.declared.records.Answer.TheVariants.{HeardBack, Made}
use Rattle.replay_log.specs.declared.records.Mark.{Mark}
use Rattle.replay_log.specs.declared.records.Mark.TheVariants.{Acknowledged, Captured}
use Rattle.pair_theorem.specs.Checkpoint.{capture, next_capture}
use Rattle.pair_theorem.specs.ClientFrames.{trims_by}
use Rattle.pair_theorem.specs.Events.{Settling, accept_by, ack_ended, acknowledge, committed_items, ended_by, hear_end, hear_frame, is_ack_message, known_ended, no_frames, numbers_of, outcome_with, primary_ended, primary_hears, raise_count, restarts_in, scene_of, secondary_hears, secondary_survives, sent_ended, settle_event, turn_primary, turn_secondary}
use Rattle.pair_theorem.specs.FrameParts.{Syn, clients_opened, syn_shown_on}
use Rattle.pair_theorem.specs.GuestTurns.{TurnMade, turn_from}
use Rattle.pair_theorem.specs.Messages.{waiting_in}
use Rattle.pair_theorem.specs.LogParts.{is_captured, is_committed}
use Rattle.pair_theorem.specs.Past.{Outcome, Past, Start, Step, is_primary_stop, releasing_items}
use Rattle.pair_theorem.specs.Places.{places_after}
use Rattle.pair_theorem.proofs.EventCases.{Cases, settled_case}
use Rattle.pair_theorem.proofs.MessageCases.{heard_back_case, heard_case}
use Rattle.theorem_frames.proofs.BytesLemmas.{NumberFits, all_learnt_fit, learnt_fit, own_numbers_fit, turn_of_bytes}
use Rattle.theorem_frames.proofs.ShapeLemmas.{IsOfBytes}
use Rattle.theorem_runs.specs.Links.{IsBeside, IsPart, IsPaused, IsReply, OneCheckpoint}
use Rattle.theorem_runs.proofs.Checkpoints.{HeardBackFirst, HeardFirst, acks, beside, ends, not_awaiting, part, pop_down, pop_up, replies, sent_of-trims}
use Rattle.theorem_runs.proofs.Settled.{left_settled, survivor_settled}
use Rattle.theorem_splices.specs.Known.{IsFrontOf}
use Rattle.theorem_stands.specs.Numbered.{AreNumbered, NumbersAreKept, shown_as}
use Rattle.theorem_stands.proofs.KeptLemmas.{kept_more, number_for}
use Rattle.theorem_stands.proofs.NumberedEvents.{acknowledged_numbered, learnt_numbered, no_survivor, not_yet, turn_items, when_primary}
use Rattle.theorem_stands.proofs.NumberedLemmas.{all_own_numbered, cleared, own_items}
use Rattle.theorem_symbols.proofs.ReleaseEvents.{clients_are}
use Rattle.theorem_known.proofs.HeardLemmas.{trims_counts}
use Rattle.theorem_known.proofs.ItemLemmas.{committed_sends}
use Rattle.theorem_numbers.proofs.ClientLemmas.{EndsWith, last_opened}
use Rattle.theorem_numbers.proofs.SynLemmas.{HasNumber}
use Rattle.theorem_survivor.proofs.HadEvents.{Had}
use Rattle.theorem_survivor.proofs.HadLemmas.{HasKnown, KeepsAll, KnownHad, keep_keeps, learn_all_keeps, learn_keeps, own_had}
use Rattle.theorem_survivor.proofs.NewsLemmas.{news}
use Rattle.theorem_survivor.proofs.SettleNews.{EdgesShow, put_shows, settle_shows}

-- a SYN that was shown, of a number that the secondary has
abbrev pub WasShown : List KeptNumber → List Syn → Syn → Type 0
WasShown theirs shown x = HasNumber theirs x.tuple x.client x.number × Contains shown x

-- a SYN of such a number, for the client of the opening that is known of the secondary
abbrev pub IsFirst : List KeptNumber → List TcpFields → Syn → Type 0
IsFirst theirs known x =
    HasNumber theirs x.tuple x.client x.number × EndsWith x.client (clients_opened x.tuple known)

-- THE FIRST SYN of a connection
has_known : (numbers : List KeptNumber) (t : Tuple) (client : ℕ) → is_known (kept_number t client numbers) ≡ true
    → HasKnown numbers t client (number_for t client numbers)
has_known numbers t client e = by (kept_number t client numbers) refl e
  where
    by : (o : Option KeptNumber) → kept_number t client numbers ≡ o → is_known o ≡ true
        → HasKnown numbers t client (number_or_zero (kept_number t client numbers))
    by None f g = absurd (true≢false (sym g))
    by (Some k) f g = record { kept = k; found = f; known = g; number_is = sym (ap number_or_zero f) }

scene_first : (scene : Scene) (theirs : List KeptNumber) → scene.is_alone ≡ false → KnownHad scene.numbers theirs
    → (t : Tuple) (o : Opening) → (line t scene.mine).opening ≡ Some o
    → (both_lines scene t).number_known ≡ true → has_one_client (both_lines scene t) ≡ true
    → IsFirst theirs (sent_of scene.theirs) (syn_shown_on t (shown_as t o scene.numbers))
unfolding both_lines
scene_first scene theirs alone had t o e known one =
    let is : is_known (kept_number t o.client scene.numbers) ≡ true =
    sym (λ i. alone i || is_known (kept_number t (client_or_zero (e i)) scene.numbers)) ∙ known in
    let same : have_one_client (Some o) (line t scene.theirs).opening ≡ true =
    sym (λ i. have_one_client (e i) (if alone i then line t scene.mine else line t scene.theirs).opening) ∙ one in (
      had t o.client (number_for t o.client scene.numbers) (has_known scene.numbers t o.client is),
      by (line t scene.theirs).opening refl same,
    )
  where
    by : (q : Option Opening) → (line t scene.theirs).opening ≡ q → have_one_client (Some o) q ≡ true
        → EndsWith o.client (clients_opened t (sent_of scene.theirs))
    by None f g = absurd (true≢false (sym g))
    by (Some r) f g =
        subst (λ (c : ℕ). EndsWith c (clients_opened t (sent_of scene.theirs))) (sym (eqb-true o.client r.client g))
        (last_opened t (sent_of scene.theirs) r ((line_fits t scene.theirs).opened ∙ f))

-- AN EVENT'S OWN SEGMENTS
pub own_keeps : (own : OwnFrames) (xs : List TcpFields) → KeepsAll own.numbers (fold own_after own xs).numbers
own_keeps own [] t client number h = h
own_keeps own (s ∷ xs) t client number h =
    own_keeps (own_after own s) xs t client number (record {
      kept = h.kept;
      found = kept_more t client own.numbers (new_number own.numbers s) (ap is_some h.found) ∙ h.found;
      number_is = h.number_is;
    })

shown_before : (what : What) (q : Progress)
    → ((progress_with what q).shown ≡ q.shown) × (0 < (progress_with what q).edge → 0 < q.edge)
shown_before Ignored q = (refl, λ e. e)
shown_before (Opened o) q = (refl, λ e. absurd (omega (arith, e)))
shown_before (Restarted o) q = (refl, λ e. absurd (omega (arith, e)))
shown_before (Symbols from to) q = (refl, λ e. e)
shown_before Reset q = (refl, λ e. e)
shown_before (Refused c) q = (refl, λ e. e)

pub own_edges : (P : Syn → Type 0) (own : OwnFrames) (xs : List TcpFields) → EdgesShow P own.progress
    → EdgesShow P (fold own_after own xs).progress
own_edges P own [] h = h
own_edges P own (s ∷ xs) h =
    let took = took_after own.items s in
    let as_before = shown_before took.what (progress_of took.tuple own.progress) in
    own_edges P (own_after own s) xs
    (put_shows P took.tuple (progress_with took.what (progress_of took.tuple own.progress)) own.progress
    (λ q e some. h took.tuple q (sym as_before.0 ∙ e) (as_before.1 some)) h)

-- A SETTLING
record IsReadyBase (p : Past) (x : Settling) (Old : Syn → Type 0) : Type 0 where
  items : p.primary.items ≡ x.before ++ map sent x.own
  fit : All NumberFits p.numbers
  own : All AreInRange x.own
  numbered : AreNumbered x.before p.numbers p.progress
  known : KnownHad p.numbers p.secondary_numbers
  edges : EdgesShow Old p.progress

record SettlingShows (a : Start) (p : Past) (released : List Released) (x : Settling) (Old : Syn → Type 0)
    (after : Past) : Type 0 where
  edges : EdgesShow (λ y. Old y ⊎ Contains (news a after released (settle_event p x).out) y)
      (settle_event p x).after.progress
  syns : All (λ y. Old y ⊎ IsFirst p.secondary_numbers (sent_of p.known_items) y)
      (news a after released (settle_event p x).out)

base_shows : (a : Start) (p : Past) (released : List Released) (x : Settling) (Old : Syn → Type 0) (after : Past)
    → p.is_reported ≡ false → IsReadyBase p x Old → releasing_items after ≡ p.primary.items
    → SettlingShows a p released x Old after
unfolding settle_event ended_by own_frames
base_shows a p released x Old after alone h releasing =
    let begin = no_own_frames x.before p.numbers p.progress in
    let own = own_frames x.before p.numbers p.progress x.own in
    let scene = scene_of p own x in
    let same : p.primary.items ≡ own.items = h.items ∙ sym (own_items begin x.own) in
    let fit = own_numbers_fit begin x.own (record { all = h.fit; new = All-nil NumberFits }) h.own in
    let all = settle_shows a after released scene Old (IsFirst p.secondary_numbers (sent_of p.known_items))
    (order own.items) own.progress (record {
      fit = fit.all;
      now = clients_are after own.items (releasing ∙ same);
      first = scene_first scene p.secondary_numbers alone (own_had begin x.own p.secondary_numbers h.known);
    }) (all_own_numbered begin x.own h.numbered) (own_edges Old begin x.own h.edges) in
    record { edges = all.edges; syns = all.syns }

-- WHAT AN EVENT MAKES OF THE PAST
-- nothing is shown, and nothing settles
pub record IsQuiet (past : Past) (step : Step) (after : Past) : Type 0 where
  pub captured : list_any is_captured step.entry.marks ≡ false
  pub committed : list_any is_committed step.entry.marks ≡ false
  pub awaits : after.awaits_ack ≡ past.awaits_ack
  pub known : sent_of after.known_items ≡ sent_of past.known_items
  pub numbers : after.numbers ≡ past.numbers
  pub progress : after.progress ≡ past.progress
  pub theirs : KeepsAll past.secondary_numbers after.secondary_numbers
  pub said : IsFrontOf (sent_of past.secondary.items) (sent_of after.secondary.items)

-- the secondary commits: it is where the primary is
pub record IsCommit (past : Past) (step : Step) (after : Past) : Type 0 where
  pub captured : list_any is_captured step.entry.marks ≡ false
  pub committed : list_any is_committed step.entry.marks ≡ true
  pub awaited : past.awaits_ack ≡ true
  pub awaits : after.awaits_ack ≡ true
  pub progress : after.progress ≡ past.progress
  pub theirs : after.secondary_numbers ≡ past.numbers
  pub said : sent_of after.secondary.items ≡ sent_of past.primary.items

-- where what is known comes from: from what was known, or at an acknowledgement from the primary's own
pub data KnownFrom (past after : Past) : Type 0 where
  knows_more : past.awaits_ack ≡ false → IsFrontOf (sent_of past.known_items) (sent_of after.known_items)
      → KnownFrom past after
  knows_own : past.awaits_ack ≡ true → sent_of after.known_items ≡ sent_of past.primary.items → KnownFrom past after

-- it settles, and then may capture
pub record IsSettled (shown : List Syn) (past : Past) (step : Step) (after : Past) (new : List Syn) : Type 0 where
  pub captured : list_any is_captured step.entry.marks ≡ after.awaits_ack
  pub committed : list_any is_committed step.entry.marks ≡ false
  pub known : KnownFrom past after
  pub numbers : after.awaits_ack ≡ false → KeepsAll past.numbers after.numbers
  pub theirs : after.secondary_numbers ≡ past.secondary_numbers
  pub said : sent_of after.secondary.items ≡ sent_of past.secondary.items
  pub edges : EdgesShow (λ x. WasShown after.secondary_numbers shown x ⊎ Contains new x) after.progress
  pub syns : All (λ x. WasShown after.secondary_numbers shown x
      ⊎ IsFirst after.secondary_numbers (sent_of after.known_items) x) new

pub data Goes (shown : List Syn) (past : Past) (step : Step) (after : Past) (new : List Syn) : Type 0 where
  quiet : new ≡ [] → IsQuiet past step after → Goes shown past step after new
  commits : new ≡ [] → IsCommit past step after → Goes shown past step after new
  settles : IsSettled shown past step after new → Goes shown past step after new

-- until a report
abbrev pub GoesOf : Start → List Released → List Syn → Past → Outcome → Type 0
GoesOf a released shown past o =
    o.after.is_reported ≡ false
    → Goes shown past o.step o.after (news a o.after released o.step.released)

-- THE EVENTS THAT SETTLE
primary_is : (after : Past) → after.is_reported ≡ false → releasing_items after ≡ after.primary.items
primary_is after alone =
    ap (λ (b : Bool). if b then after.secondary.items else after.primary.items) (not_yet after alone)

settling_goes : (a : Start) (past p : Past) (released : List Released) (shown : List Syn) (x : Settling) (l : Line)
    (marks : List Mark) (delivered : Option Message) (answer : ℕ → Answer) → p.awaits_ack ≡ false
    → list_any is_captured marks ≡ false → list_any is_committed marks ≡ false
    → (p.is_reported ≡ false → IsReadyBase p x (WasShown p.secondary_numbers shown))
    → ((after : Past) → after.known_items ≡ p.known_items → KnownFrom past after) → KeepsAll past.numbers p.numbers
    → p.secondary_numbers ≡ past.secondary_numbers
    → sent_of p.secondary.items ≡ sent_of past.secondary.items
    → GoesOf a released shown past (outcome_with l marks delivered answer (settle_event p x))
unfolding settle_event ended_by own_frames capture
settling_goes a past p released shown x l marks delivered answer free no_capture no_commit ready known keeps
    theirs said =
    let begin = no_own_frames x.before p.numbers p.progress in
    let more : KeepsAll past.numbers (own_frames x.before p.numbers p.progress x.own).numbers =
    λ t client number h. own_keeps begin x.own t client number (keeps t client number h) in
    settled_case (λ (o : Outcome). GoesOf a released shown past o) l marks delivered answer (settle_event p x)
    (λ none alone. let after = (settle_event p x).after in
    let all = base_shows a p released x (WasShown p.secondary_numbers shown) after alone (ready alone)
    (primary_is after alone) in
    settles (record {
      captured = no_capture ∙ sym free;
      committed = no_commit;
      known = known after refl;
      numbers = λ e. more;
      theirs = theirs;
      said = said;
      edges = all.edges;
      syns = all.syns;
    }))
    (λ why some alone. let after = capture (settle_event p x).after in
    let all = base_shows a p released x (WasShown p.secondary_numbers shown) after alone (ready alone)
    (primary_is after alone) in
    settles (record {
      captured = list_any-append is_captured marks (Captured (next_capture (settle_event p x).after) why ∷ [])
          ∙ or-true (list_any is_captured marks);
      committed = list_any-append is_committed marks (Captured (next_capture (settle_event p x).after) why ∷ [])
          ∙ ap (λ (b : Bool). b || false) no_commit;
      known = known after refl;
      numbers = λ e. absurd (true≢false e);
      theirs = theirs;
      said = said;
      edges = all.edges;
      syns = all.syns;
    }))

-- WHAT AN EVENT STANDS ON
pub record Ground (a : Start) (shown : List Syn) (past : Past) : Type 0 where
  pub bytes : IsOfBytes a.kind past
  pub kept : NumbersAreKept past
  pub had : Had past
  pub one : OneCheckpoint past
  pub paused : past.awaits_ack ≡ true → IsPaused past
  pub edges : past.is_reported ≡ false → EdgesShow (WasShown past.secondary_numbers shown) past.progress

same_front : (old new : List TcpFields) → new ≡ old → IsFrontOf old new
same_front old new e = ([], e ∙ sym (append-nil old))

mine_numbered : (past : Past) → is_primary_stop past.stop ≡ false → NumbersAreKept past
    → AreNumbered past.primary.items past.numbers past.progress
mine_numbered past e h =
    when_primary (is_primary_stop past.stop && past.is_reported) past.secondary.items past.primary.items past.numbers
    past.progress (no_survivor past e) h

still : (past : Past) → KeepsAll past.secondary_numbers past.secondary_numbers
still past t client number h = h

-- A TURN
turned : (a : Start) (released : List Released) (shown : List Syn) (past : Past) (d : ℕ) (i : Bool) (b n : ℕ)
    (made : TurnMade) → is_primary_stop past.stop ≡ false → past.awaits_ack ≡ false
    → All AreInRange (segments made.output)
    → made.run.items ≡ past.primary.items ++ map sent (segments made.output) → Ground a shown past
    → GoesOf a released shown past (turn_primary past (Primary d i b n) made)
unfolding turn_primary primary_ended
turned a released shown past d i b n made e free own items g =
    settling_goes a past (record past {
      primary = made.run;
      primary_inbox = made.inbox;
      primary_turned = raise_count past.primary_turned;
    }) released shown (record {
      before = past.primary.items;
      own = segments made.output;
      restarts = [];
      is_turn = true;
    }) (Primary d i b n) [] None (Made made.index) free refl refl (λ alone. (record {
      items = items;
      fit = g.bytes.numbers;
      own = own;
      numbered = mine_numbered past e g.kept;
      known = (g.had alone).known;
      edges = g.edges alone;
    }))
    (λ after k. knows_more free (same_front (sent_of past.known_items) (sent_of after.known_items)
    (ap (λ (xs : List Item). sent_of xs) k)))
    (λ t client number h. h) refl refl

-- WHAT THE PRIMARY HEARS
heard_ready : (p : Past) (x : Settling) (Old : Syn → Type 0) → x.own ≡ [] → x.before ≡ p.primary.items
    → All NumberFits p.numbers → AreNumbered p.primary.items p.numbers p.progress
    → KnownHad p.numbers p.secondary_numbers → EdgesShow Old p.progress → IsReadyBase p x Old
heard_ready p x Old none before fit numbered known edges = record {
  items = sym ((λ i. before i ++ map sent (none i)) ∙ append-nil p.primary.items);
  fit = fit;
  own = subst (All AreInRange) (sym none) (All-nil AreInRange);
  numbered = subst (λ (xs : List Item). AreNumbered xs p.numbers p.progress) (sym before) numbered;
  known = known;
  edges = edges;
}

cleared_edges : (P : Syn → Type 0) (progress : ProgressTable) → EdgesShow P progress
    → EdgesShow P (clear_ages progress)
cleared_edges P progress h t s e some =
    let same = cleared t progress in
    let edge_is = same.0 in
    h t s (sym same.1 ∙ e) (omega (arith, edge_is, some))

ack_awaits : (past : Past) (m : Message) (n : ℕ) (ms : List Message) → m ≡ Ack n → HeardBackFirst past m ms
    → past.awaits_ack ≡ true
ack_awaits past m n ms is (replies g one) = absurd (subst IsReply is g)
ack_awaits past m n ms is (acks same g) = g.awaits

sent_more : (items : List Item) (xs : List TcpFields)
    → IsFrontOf (sent_of items) (sent_of (items ++ map sent xs))
sent_more items xs = (sent_of (map sent xs), filter_map-append segment_of items (map sent xs))

heard_back : (a : Start) (released : List Released) (shown : List Syn) (past : Past) (m : Message)
    (ms : List Message) → (past.awaits_ack && not (is_ack_message m)) ≡ false → is_primary_stop past.stop ≡ false
    → HeardBackFirst past m ms → Ground a shown past
    → (past.is_reported ≡ false → (t : Tuple) (client number : ℕ) → m ≡ Known t client number
    → KnownHad (learn_number past.numbers t client number) past.secondary_numbers)
    → (past.is_reported ≡ false → (n : ℕ) → m ≡ Ack n → KnownHad (learn_all past.numbers) past.secondary_numbers)
    → GoesOf a released shown past (primary_hears (record past { to_primary = ms }) m)
unfolding known_ended sent_ended ack_ended places_after
heard_back a released shown past m ms idle running first g learns acked =
    let p : Past = record past { to_primary = ms } in
    let mine = mine_numbered past running g.kept in
    heard_back_case (GoesOf a released shown past) p m
    (λ t client number is. let free = not_awaiting past m (Known t client number) idle is refl in
    settling_goes a past (record p { numbers = learn_number past.numbers t client number }) released shown
    (no_frames past.primary.items) ToPrimary [] (Some (Known t client number)) (HeardBack 12 past.sent_heard) free refl
    refl
    (λ alone. heard_ready (record p { numbers = learn_number past.numbers t client number })
    (no_frames past.primary.items) (WasShown past.secondary_numbers shown) refl refl
    (learnt_fit t client number past.numbers g.bytes.numbers) (learnt_numbered past t client number mine)
    (learns alone t client number is) (g.edges alone))
    (λ after k. knows_more free (same_front (sent_of past.known_items) (sent_of after.known_items)
    (ap (λ (xs : List Item). sent_of xs) k)))
    (learn_keeps past.numbers t client number) refl refl)
    (λ frame is. let free = not_awaiting past m (Sent frame) idle is refl in
    let heard = segments (frame ∷ []) in
    let base : Past = record p { sent_heard = past.sent_heard + 1; known_items = past.known_items ++ map sent heard } in
    let x : Settling = record (no_frames past.primary.items) { restarts = restarts_in past.known_items heard } in
    settling_goes a past base released shown x ToPrimary [] (Some (Sent frame)) (HeardBack 13 (past.sent_heard + 1))
    free refl refl
    (λ alone. heard_ready base x (WasShown past.secondary_numbers shown) refl refl g.bytes.numbers mine
    (g.had alone).known (g.edges alone))
    (λ after k. knows_more free (subst (λ (xs : List Item). IsFrontOf (sent_of past.known_items) (sent_of xs)) (sym k)
    (sent_more past.known_items heard)))
    (λ t client number h. h) refl refl)
    (λ n is. let base = acknowledge p in
    settling_goes a past base released shown (no_frames (committed_items p)) ToPrimary (Acknowledged n ∷ [])
    (Some (Ack n)) (HeardBack 14 0) refl refl refl
    (λ alone. heard_ready base (no_frames (committed_items p)) (WasShown past.secondary_numbers shown) refl refl
    (all_learnt_fit past.numbers g.bytes.numbers) (acknowledged_numbered past mine) (acked alone n is)
    (cleared_edges (WasShown past.secondary_numbers shown) past.progress (g.edges alone)))
    (λ after k. knows_own (ack_awaits past m n ms is first)
    (ap (λ (xs : List Item). sent_of xs) k ∙ committed_sends past.primary.items))
    (learn_all_keeps past.numbers) refl refl)
    (λ foreign alone. quiet refl (record {
      captured = refl;
      committed = refl;
      awaits = refl;
      known = refl;
      numbers = refl;
      progress = refl;
      theirs = still past;
      said = same_front (sent_of past.secondary.items) (sent_of past.secondary.items) refl;
    }))

-- AN EVENT THAT SETTLES NOTHING
unchanged : (a : Start) (released : List Released) (shown : List Syn) (past after : Past) (step : Step)
    → news a after released step.released ≡ [] → list_any is_captured step.entry.marks ≡ false
    → list_any is_committed step.entry.marks ≡ false → after.awaits_ack ≡ past.awaits_ack
    → sent_of after.known_items ≡ sent_of past.known_items → after.numbers ≡ past.numbers
    → after.progress ≡ past.progress → KeepsAll past.secondary_numbers after.secondary_numbers
    → IsFrontOf (sent_of past.secondary.items) (sent_of after.secondary.items)
    → Goes shown past step after (news a after released step.released)
unchanged a released shown past after step none captured committed awaits known numbers progress theirs said =
    quiet none (record {
      captured = captured;
      committed = committed;
      awaits = awaits;
      known = known;
      numbers = numbers;
      progress = progress;
      theirs = theirs;
      said = said;
    })

-- nothing at all
same_said : (past : Past) → IsFrontOf (sent_of past.secondary.items) (sent_of past.secondary.items)
same_said past = same_front (sent_of past.secondary.items) (sent_of past.secondary.items) refl

accepted : (b : Bool) (a : Start) (released : List Released) (shown : List Syn) (past : Past) (w : Waiting)
    (step : Step) → step.released ≡ [] → step.entry.marks ≡ []
    → Goes shown past step (accept_by b past w (trims_by w))
    (news a (accept_by b past w (trims_by w)) released step.released)
unfolding accept_by places_after
accepted true a released shown past w step none unmarked =
    unchanged a released shown past (accept_by true past w (trims_by w)) step
    (ap (λ (rs : List Released). news a (accept_by true past w (trims_by w)) released rs) none)
    (ap (list_any is_captured) unmarked) (ap (list_any is_committed) unmarked) refl refl refl refl (still past)
    (same_front (sent_of past.secondary.items) _ (sent_of-trims past.secondary.items w))
accepted false a released shown past w step none unmarked =
    unchanged a released shown past (accept_by false past w (trims_by w)) step
    (ap (λ (rs : List Released). news a (accept_by false past w (trims_by w)) released rs) none)
    (ap (list_any is_captured) unmarked) (ap (list_any is_committed) unmarked) refl
    (trims_counts past.is_reported past.known_items w) refl refl (still past) (same_said past)

-- THE SECONDARY HEARS
end_goes : (a : Start) (released : List Released) (shown : List Syn) (past : Past) (m : Message) (ms : List Message)
    (n : ℕ) → m ≡ End n → HeardFirst past m ms → (past.awaits_ack ≡ true → IsPaused past) → (step : Step)
    → step.released ≡ [] → list_any is_captured step.entry.marks ≡ false
    → list_any is_committed step.entry.marks ≡ true
    → Goes shown past step (hear_end (record past { to_secondary = ms }) n)
    (news a (hear_end (record past { to_secondary = ms }) n) released step.released)
unfolding places_after
end_goes a released shown past m ms n is (beside g one) paused step none captured committed =
    absurd (subst IsBeside is g)
end_goes a released shown past m ms n is (part g one) paused step none captured committed =
    absurd (subst IsPart is g)
end_goes a released shown past m ms n is (ends told later same end g) paused step none captured committed =
    let at = paused g.awaits in
    commits
    (ap (λ (rs : List Released). news a (hear_end (record past { to_secondary = ms }) n) released rs) none) (record {
      captured = captured;
      committed = committed;
      awaited = g.awaits;
      awaits = g.awaits;
      progress = refl;
      theirs = sym at.numbers;
      said = committed_sends past.copy.run.items ∙ sym at.said;
    })

heard : (a : Start) (released : List Released) (shown : List Syn) (past : Past) (m : Message) (ms : List Message)
    → HeardFirst past m ms → (past.awaits_ack ≡ true → IsPaused past)
    → GoesOf a released shown past (secondary_hears (record past { to_secondary = ms }) m)
unfolding hear_frame places_after
heard a released shown past m ms first paused =
    let p : Past = record past { to_secondary = ms } in
    heard_case (GoesOf a released shown past) p m
    (λ index seen trim frame is alone. unchanged a released shown past _ _ refl refl refl refl refl refl refl
    (still past) (same_front (sent_of past.secondary.items) _
    (sent_of-trims past.secondary.items (waiting_in index seen trim frame))))
    (λ t client number is alone. unchanged a released shown past _ _ refl refl refl refl refl refl refl
    (keep_keeps past.secondary_numbers t client number) (same_said past))
    (λ n is alone. end_goes a released shown past m ms n is first paused _ refl refl refl)
    (λ apart alone. unchanged a released shown past _ _ refl refl refl refl refl refl refl (still past)
    (same_said past))

-- A SECONDARY'S TURN
turned_quietly : (a : Start) (released : List Released) (shown : List Syn) (past : Past) (d : ℕ) (i : Bool)
    (b n : ℕ) (made : TurnMade)
    → made.run.items ≡ past.secondary.items ++ map sent (segments made.output)
    → GoesOf a released shown past (turn_secondary past (Secondary d i b n) made)
unfolding turn_secondary places_after
turned_quietly a released shown past d i b n made items alone =
    unchanged a released shown past _ _ refl refl refl refl refl refl refl (still past)
    (subst (λ (xs : List Item). IsFrontOf (sent_of past.secondary.items) (sent_of xs)) (sym items)
    (sent_more past.secondary.items (segments made.output)))

-- A CHECKPOINT IS ASKED FOR
asked : (a : Start) (released : List Released) (shown : List Syn) (past : Past) (step : Step)
    → step.released ≡ [] → list_any is_captured step.entry.marks ≡ true
    → list_any is_committed step.entry.marks ≡ false → past.awaits_ack ≡ false
    → EdgesShow (WasShown past.secondary_numbers shown) past.progress
    → Goes shown past step (capture past) (news a (capture past) released step.released)
unfolding capture places_after
asked a released shown past step none captured committed free edges =
    settles (record {
      captured = captured;
      committed = committed;
      known = knows_more free (same_front (sent_of past.known_items) (sent_of past.known_items) refl);
      numbers = λ e. absurd (true≢false e);
      theirs = refl;
      said = refl;
      edges = λ t s e some. inl (edges t s e some);
      syns = subst (λ (rs : List Released). All (λ x. WasShown past.secondary_numbers shown x
          ⊎ IsFirst past.secondary_numbers (sent_of past.known_items) x) (news a (capture past) released rs))
          (sym none) (All-nil _);
    })

-- EVERY EVENT
-- what the primary learns from a message is had
abbrev pub LearnsHad : Past → Type 0
LearnsHad past =
    past.is_reported ≡ false → (m : Message) (ms : List Message) → past.to_primary ≡ m ∷ ms
    → (past.awaits_ack && not (is_ack_message m)) ≡ false
    → ((t : Tuple) (client number : ℕ) → m ≡ Known t client number
    → KnownHad (learn_number past.numbers t client number) past.secondary_numbers)
    × ((n : ℕ) → m ≡ Ack n → KnownHad (learn_all past.numbers) past.secondary_numbers)

pub goes_cases : (a : Start) → IsRegular a.kind
    → Cases a.kind a.stream (λ past x o. (released : List Released) (shown : List Syn) → Ground a shown past
    → LearnsHad past → GoesOf a released shown past o)
unfolding secondary_survives places_after capture
goes_cases a regular = record {
  idle = λ past x e f released shown g learns alone.
      unchanged a released shown past _ _ refl refl refl refl refl refl refl (still past) (same_said past);
  primary_turn =
      λ past d i b n e f released shown g learns. turned a released shown past d i b n
      (turn_from a.kind past.primary past.primary_inbox i (numbers_of d b n)) e f
      (turn_of_bytes a.kind past.primary past.primary_inbox i (numbers_of d b n) regular g.bytes.primary).own
      (turn_items a.kind past.primary past.primary_inbox i (numbers_of d b n)) g;
  secondary_turn =
      λ past d i b n e f released shown g learns. turned_quietly a released shown past d i b n
      (turn_from a.kind past.secondary past.secondary_inbox i (numbers_of d b n))
      (turn_items a.kind past.secondary past.secondary_inbox i (numbers_of d b n));
  survivor_turn =
      λ past d i b n e released shown g learns.
      let reported = (and_parts (is_primary_stop past.stop) past.is_reported e).1 in
      survivor_settled (λ step after. after.is_reported ≡ false
      → Goes shown past step after (news a after released step.released)) past d i b n
      (turn_from a.kind past.secondary past.secondary_inbox i (numbers_of d b n))
      (λ out ns ps new alone. absurd (true≢false (sym reported ∙ alone)))
      (λ out ns ps new why some alone. absurd (true≢false (sym reported ∙ alone)));
  accepts = λ past frame kept t e f released shown g learns alone.
      accepted (is_primary_stop past.stop) a released shown past _ _ refl refl;
  is_full = λ past frame kept t e f released shown g learns alone.
      unchanged a released shown past _ _ refl refl refl refl refl refl refl (still past) (same_said past);
  answers = λ past frame b t e released shown g learns alone.
      unchanged a released shown past _ _ refl refl refl refl refl refl refl (still past) (same_said past);
  drops = λ past frame why t e released shown g learns alone.
      unchanged a released shown past _ _ refl refl refl refl refl refl refl (still past) (same_said past);
  loses = λ past frame t e f released shown g learns alone.
      unchanged a released shown past _ _ refl refl refl refl refl refl refl (still past) (same_said past);
  secondary_hears = λ past m ms e f g released shown ground learns.
      heard a released shown past m ms (pop_down past m ms e ground.one) ground.paused;
  ignores = λ past m ms e f g running alone released shown ground learns unreported.
      unchanged a released shown past _ _ refl refl refl refl refl refl refl (still past) (same_said past);
  primary_hears = λ past m ms e f running alone released shown ground learns.
      heard_back a released shown past m ms f running (pop_up past m ms e ground.one) ground
      (λ unreported. (learns unreported m ms e f).0) (λ unreported. (learns unreported m ms e f).1);
  primary_stops = λ past released shown g learns alone.
      unchanged a released shown past _ _ refl refl refl refl refl refl refl (still past) (same_said past);
  secondary_stops = λ past released shown g learns alone.
      unchanged a released shown past _ _ refl refl refl refl refl refl refl (still past) (same_said past);
  secondary_left = λ past e released shown g learns alone. absurd (true≢false alone);
  primary_left = λ past e released shown g learns.
      left_settled (λ step after. after.is_reported ≡ false
      → Goes shown past step after (news a after released step.released)) past
      (λ out ns ps new alone. absurd (true≢false alone));
  asks = λ past e f g released shown ground learns alone.
      asked a released shown past _ refl refl refl e (ground.edges alone);
}
