-- Edges and numbers of the releasing node's connections go on through every event.
use Rattle.std.proofs.Common.{◌≡◌, ℕ, ◌+◌, ◌≤◌, Bool, true, false, not, ◌&&◌, nat_le, if◌then◌else◌, List, [], ◌∷◌, ◌++◌, append-nil, map, Option, None, Some, refl, sym, ap, subst, ◌∙◌, All, arith, true≢false}
use Rattle.std.proofs.lemmas.Bool.{and_parts, cond_both, leb-true, or_parts}
use Rattle.std.proofs.lemmas.List.Elements.{All-nil}
use Rattle.inet_frame.specs.Counted.{client_tuple_of, tcp_in}
use Rattle.inet_frame.specs.Fields.{TcpFields}
use Rattle.inet_frame.specs.Flags.{has_ack}
use Rattle.inet_frame.specs.Laws.{AreInRange}
use Rattle.inet_frame.specs.declared.tuple.Tuple.{Tuple}
use Rattle.shared_definitions.specs.Bytes.{AreBytes}
use Rattle.tcp_track.specs.Lines as lines
use Rattle.tcp_track.specs.Lines.{Item, after_trim, commit, line, line_after, order, sent, trim}
use Rattle.tcp_track.specs.Offsets.{distance}
use Rattle.tcp_track.specs.Segments.{same_tuple}
use Rattle.tcp_track.specs.Stands.{is_of_client, segments}
use Rattle.tcp_track.specs.declared.openings.Opening.{Opening}
use Rattle.tcp_track.proofs.TupleLemmas.{same_tuple-eq}
use Rattle.settle_rules.specs.Look.{look_with, trim_of}
use Rattle.settle_rules.specs.Causes.{cause_of}
use Rattle.settle_rules.specs.Numbers.{KeptNumber, learn_all, learn_number, thin}
use Rattle.settle_rules.specs.OwnFrames.{no_own_frames, own_frames}
use Rattle.settle_rules.specs.Progress.{Progress, ProgressTable, clear_ages, progress_of}
use Rattle.settle_rules.specs.Settle.{settle}
use Rattle.settle_rules.specs.Survive.{survive}
use Rattle.frame_mirror.specs.declared.ring.Waiting.{Waiting}
use Rattle.state_wire.specs.Guest.{Kind}
use Rattle.state_wire.specs.Regular.{IsRegular}
use Rattle.colo_wire.specs.declared.messages.Message.{Message}
use Rattle.colo_wire.specs.declared.messages.Message.TheVariants.{Known, Sent, Ack}
use Rattle.replay_log.specs.declared.lines.Line.{Line}
use Rattle.replay_log.specs.declared.lines.Line.TheVariants.{Primary, Secondary, ToPrimary, Report}
use Rattle.replay_log.specs.declared.records.Answer.{Answer}
use Rattle.replay_log.specs.declared.records.Answer.TheVariants.{Made, HeardBack, Reported}
use Rattle.replay_log.specs.declared.records.Mark.{Mark}
use Rattle.replay_log.specs.declared.records.Mark.TheVariants.{Acknowledged}
use Rattle.pair_theorem.specs.Checkpoint.{capture}
use Rattle.pair_theorem.specs.ClientFrames.{trim_items, trims_by}
use Rattle.pair_theorem.specs.Events.{Ended, Settling, accept_by, ack_ended, acknowledge, committed_items, ended_by, hear_frame, known_ended, look_at, lose_links, no_frames, numbers_of, outcome_with, primary_ended, primary_hears, primary_survives, raise_count, restarts_in, scene_of, secondary_hears, secondary_survives, sent_ended, settle_event, survivor_ended, turn_primary, turn_secondary, turn_survivor, waiting_of}
use Rattle.pair_theorem.specs.GuestTurns.{TurnMade, TurnNumbers, add_turn, turn_from, turn_if, turn_with, turn_without}
use Rattle.pair_theorem.specs.Messages.{waiting_in}
use Rattle.pair_theorem.specs.Past.{NodeRun, Outcome, Past, Start, Step, Stop, first_past, is_primary_stop, is_secondary_stop, primary_stop, releasing_items, secondary_releases, secondary_stop}
use Rattle.pair_theorem.specs.Starts.{IsStart, boots}
use Rattle.pair_theorem.proofs.EachHistory.{Fits, Keeps, Reached, each_history, each_log, is_stopped, reported_stopped}
use Rattle.pair_theorem.proofs.EventCases.{Cases, settled_case}
use Rattle.pair_theorem.proofs.MessageCases.{heard_back_case, heard_case}
use Rattle.theorem_frames.proofs.BytesLemmas.{NumberFits, all_learnt_fit, learnt_fit, own_numbers_fit, turn_of_bytes}
use Rattle.theorem_frames.proofs.ShapeLemmas.{IsOfBytes, bytes_of_start}
use Rattle.theorem_frames.proofs.ShownLemmas.{bytes_reached}
use Rattle.theorem_stands.specs.Numbered.{AreNumbered, IsNumbered, NumbersAreKept, NumbersOfEachLog}
use Rattle.theorem_stands.proofs.KeptLemmas.{all_learnt, one_learnt}
use Rattle.theorem_stands.proofs.NumberedLemmas.{all_own_numbered, cleared_numbered, committed_numbered, line_push, numbered_alike, numbered_trim, own_items, settle_numbered, survivor_numbered, thinned_numbered}

-- WHICH NODE RELEASES
pub no_survivor : (past : Past) → is_primary_stop past.stop ≡ false → secondary_releases past ≡ false
no_survivor past e = ap (λ (b : Bool). b && past.is_reported) e

pub not_yet : (past : Past) → past.is_reported ≡ false → secondary_releases past ≡ false
not_yet past e = by (is_primary_stop past.stop) past.is_reported e
  where
    by : (b c : Bool) → c ≡ false → (b && c) ≡ false
    by true c f = f
    by false c f = refl

-- the node that doesn't release may change
abbrev either : Bool → List Item → List Item → List Item
either b theirs mine = if b then theirs else mine

pub when_primary : (b : Bool) (theirs mine : List Item) (numbers : List KeptNumber) (progress : ProgressTable) →
    b ≡ false → AreNumbered (either b theirs mine) numbers progress → AreNumbered mine numbers progress
when_primary b theirs mine numbers progress e h =
    subst (λ (c : Bool). AreNumbered (either c theirs mine) numbers progress) e h

as_primary : (b : Bool) (theirs mine : List Item) (numbers : List KeptNumber) (progress : ProgressTable) →
    b ≡ false → AreNumbered mine numbers progress → AreNumbered (either b theirs mine) numbers progress
as_primary b theirs mine numbers progress e h =
    subst (λ (c : Bool). AreNumbered (either c theirs mine) numbers progress) (sym e) h

pub when_survivor : (b : Bool) (theirs mine : List Item) (numbers : List KeptNumber) (progress : ProgressTable) →
    b ≡ true → AreNumbered (either b theirs mine) numbers progress → AreNumbered theirs numbers progress
when_survivor b theirs mine numbers progress e h =
    subst (λ (c : Bool). AreNumbered (either c theirs mine) numbers progress) e h

as_survivor : (b : Bool) (theirs mine : List Item) (numbers : List KeptNumber) (progress : ProgressTable) →
    b ≡ true → AreNumbered theirs numbers progress → AreNumbered (either b theirs mine) numbers progress
as_survivor b theirs mine numbers progress e h =
    subst (λ (c : Bool). AreNumbered (either c theirs mine) numbers progress) (sym e) h

-- SETTLING
Numbered : Outcome → Type 0
Numbered o = NumbersAreKept o.after

-- the items of the releasing node are those before the event, with the event's own segments
settled_event : (past : Past) (x : Settling) → All NumberFits past.numbers → All AreInRange x.own →
    AreNumbered x.before past.numbers past.progress →
    AreNumbered (x.before ++ map sent x.own) (settle_event past x).after.numbers (settle_event past x).after.progress
unfolding settle_event ended_by own_frames settle
settled_event past x fit range h =
    let first = no_own_frames x.before past.numbers past.progress in
    let own = own_frames x.before past.numbers past.progress x.own in
    let fits = own_numbers_fit first x.own (record { all = fit; new = All-nil NumberFits }) range in
    subst (λ (items : List Item). AreNumbered items own.numbers
    (settle (scene_of past own x) (order own.items) own.progress).progress) (own_items first x.own)
    (settle_numbered (scene_of past own x) (record { progress = own.progress; out = [] }) (order own.items) fits.all
    (all_own_numbered first x.own h))

-- an event that settled at the primary, and then may capture
with_cause : (x : Line) (marks : List Mark) (delivered : Option Message) (answer : ℕ → Answer) (e : Ended) →
    secondary_releases e.after ≡ false → AreNumbered e.after.primary.items e.after.numbers e.after.progress →
    Numbered (outcome_with x marks delivered answer e)
unfolding Numbered capture
with_cause x marks delivered answer e primary h =
    settled_case Numbered x marks delivered answer e
    (λ none. as_primary (secondary_releases e.after) e.after.secondary.items e.after.primary.items e.after.numbers
    e.after.progress primary h)
    (λ why some. as_primary (secondary_releases e.after) e.after.secondary.items e.after.primary.items
    (thin e.after.primary.items e.after.numbers) e.after.progress primary
    (thinned_numbered e.after.primary.items e.after.numbers e.after.progress h))

settled_primary : (p : Past) (settling : Settling) (x : Line) (marks : List Mark) (delivered : Option Message)
    (answer : ℕ → Answer) → secondary_releases p ≡ false →
    AreNumbered p.primary.items (settle_event p settling).after.numbers (settle_event p settling).after.progress →
    Numbered (outcome_with x marks delivered answer (settle_event p settling))
unfolding settle_event ended_by
settled_primary p settling x marks delivered answer e h =
    with_cause x marks delivered answer (settle_event p settling) e h

-- a node alone captures nothing
settled_survivor : (p : Past) (settling : Settling) (x : Line) (marks : List Mark) (delivered : Option Message)
    (answer : ℕ → Answer) → secondary_releases p ≡ true →
    AreNumbered p.secondary.items (settle_event p settling).after.numbers (settle_event p settling).after.progress →
    Numbered (outcome_with x marks delivered answer (settle_event p settling))
unfolding settle_event ended_by Numbered
settled_survivor p settling x marks delivered answer e h =
    let own = own_frames settling.before p.numbers p.progress settling.own in
    let scene = scene_of p own settling in
    let ended = settle scene (order own.items) own.progress in
    settled_case Numbered x marks delivered answer (settle_event p settling)
    (λ none. as_survivor (secondary_releases p) p.secondary.items p.primary.items
    (settle_event p settling).after.numbers (settle_event p settling).after.progress e h)
    (λ why some.
    let alone = (and_parts (is_primary_stop p.stop) p.is_reported e).1 in
    absurd (cc (sym (ap (λ (b : Bool). if b then None else cause_of scene (order own.items) ended.progress) alone)
    ∙ some)))

pub turn_items : (kind : Kind) (node : NodeRun) (inbox : List Waiting) (takes : Bool) (n : TurnNumbers) →
    (turn_from kind node inbox takes n).run.items
    ≡ node.items ++ map sent (segments (turn_from kind node inbox takes n).output)
unfolding turn_from turn_if turn_with turn_without add_turn
turn_items kind node [] takes n = refl
turn_items kind node (w ∷ inbox) takes n = by (takes && kind.can_receive node.run.state)
  where
    by : (b : Bool) →
        (turn_if b kind node w inbox n).run.items
        ≡ node.items ++ map sent (segments (turn_if b kind node w inbox n).output)
    by true = refl
    by false = refl

primary_numbered : (past : Past) (x : Line) (made : TurnMade) → is_primary_stop past.stop ≡ false →
    All NumberFits past.numbers → All AreInRange (segments made.output) →
    made.run.items ≡ past.primary.items ++ map sent (segments made.output) → NumbersAreKept past →
    Numbered (turn_primary past x made)
unfolding turn_primary primary_ended
primary_numbered past x made e fit range items h =
    let p : Past = record past {
      primary = made.run;
      primary_inbox = made.inbox;
      primary_turned = raise_count past.primary_turned;
    } in
    let settling : Settling = record {
      before = past.primary.items;
      own = segments made.output;
      restarts = [];
      is_turn = true;
    } in
    settled_primary p settling x [] None (Made made.index) (no_survivor past e)
    (subst (λ (xs : List Item). AreNumbered xs (settle_event p settling).after.numbers
    (settle_event p settling).after.progress) (sym items)
    (settled_event p settling fit range
    (when_primary (secondary_releases past) past.secondary.items past.primary.items past.numbers past.progress
    (no_survivor past e) h)))

survivor_turned : (past : Past) (x : Line) (made : TurnMade) → secondary_releases past ≡ true →
    All NumberFits past.numbers → All AreInRange (segments made.output) →
    made.run.items ≡ past.secondary.items ++ map sent (segments made.output) → NumbersAreKept past →
    Numbered (turn_survivor past x made)
unfolding turn_survivor survivor_ended
survivor_turned past x made e fit range items h =
    let p : Past = record past {
      secondary = made.run;
      secondary_inbox = made.inbox;
      secondary_turned = raise_count past.secondary_turned;
    } in
    let settling : Settling = record {
      before = past.secondary.items;
      own = segments made.output;
      restarts = [];
      is_turn = true;
    } in
    settled_survivor p settling x [] None (Made made.index) e
    (subst (λ (xs : List Item). AreNumbered xs (settle_event p settling).after.numbers
    (settle_event p settling).after.progress) (sym items)
    (settled_event p settling fit range
    (when_survivor (secondary_releases past) past.secondary.items past.primary.items past.numbers past.progress e h)))

-- the secondary's own turn, and what it hears, change nothing of the releasing node
secondary_turned : (past : Past) (x : Line) (made : TurnMade) → secondary_releases past ≡ false → NumbersAreKept past →
    Numbered (turn_secondary past x made)
unfolding turn_secondary Numbered
secondary_turned past x made e h =
    as_primary (secondary_releases past) made.run.items past.primary.items past.numbers past.progress e
    (when_primary (secondary_releases past) past.secondary.items past.primary.items past.numbers past.progress e h)

secondary_heard : (past : Past) (m : Message) → secondary_releases past ≡ false → NumbersAreKept past →
    Numbered (secondary_hears past m)
unfolding Numbered hear_frame
secondary_heard past m e h =
    let mine =
    when_primary (secondary_releases past) past.secondary.items past.primary.items past.numbers past.progress e h in
    heard_case Numbered past m
    (λ index seen trim frame is.
    as_primary (secondary_releases past) (past.secondary.items ++ trims_by (waiting_in index seen trim frame))
    past.primary.items past.numbers past.progress e mine)
    (λ t client number is. h)
    (λ n is.
    as_primary (secondary_releases past) (past.copy.run.items ++ commit ∷ []) past.primary.items past.numbers
    past.progress e mine)
    (λ apart. h)

-- A FRAME THAT IS TAKEN trims what was released
trimmed_within : (s : TcpFields) (p : Progress) (shown : Opening) (current : Option Opening) →
    trim_of s p.edge shown current ≤ p.edge
trimmed_within s p shown current =
    let to = distance shown.own s.ack in
    cond_both (has_ack s.flags && (nat_le 1 to && (nat_le to p.edge && is_of_client current shown.client))) to 0
    (λ (n : ℕ). n ≤ p.edge)
    (λ e.
    let acks = and_parts (has_ack s.flags) (nat_le 1 to && (nat_le to p.edge && is_of_client current shown.client)) e in
    let low = and_parts (nat_le 1 to) (nat_le to p.edge && is_of_client current shown.client) acks.1 in
    leb-true to p.edge (and_parts (nat_le to p.edge) (is_of_client current shown.client) low.1).0)
    (λ e. omega arith)

trim_numbered : (items : List Item) (numbers : List KeptNumber) (progress : ProgressTable) (u : Tuple)
    (client to : ℕ) → to ≤ (progress_of u progress).edge → AreNumbered items numbers progress →
    AreNumbered (items ++ trim u client to ∷ []) numbers progress
unfolding line_after
trim_numbered items numbers progress u client to low h t =
    subst (λ (l : lines.Line). IsNumbered t l (progress_of t progress) numbers)
    (sym (line_push t items (trim u client to)))
    (cond_both (same_tuple u t) (after_trim (line t items) client to) (line t items)
    (λ (l : lines.Line). IsNumbered t l (progress_of t progress) numbers)
    (λ e. numbered_trim t (line t items) (progress_of t progress) numbers client to
    (subst (λ (v : Tuple). to ≤ (progress_of v progress).edge) (same_tuple-eq u t e) low) (h t)) (λ e. h t))

taken_numbered : (past : Past) (frame : List ℕ) → NumbersAreKept past →
    AreNumbered (releasing_items past ++ trims_by (waiting_of past (look_at past (tcp_in frame)) frame)) past.numbers
    past.progress
unfolding trims_by look_at
taken_numbered past frame h = by (tcp_in frame)
  where
    same : AreNumbered (releasing_items past ++ []) past.numbers past.progress
    same =
        let all = sym (append-nil (releasing_items past)) in
        subst (λ (xs : List Item). AreNumbered xs past.numbers past.progress) all h

    seen : (s : TcpFields) (p : Progress) (now : Option Opening) →
        p ≡ progress_of (client_tuple_of s) past.progress →
        (shown : Option Opening) →
        AreNumbered (releasing_items past
        ++ trim_items (Some s) (look_with s p.edge shown now).seen (look_with s p.edge shown now).trim) past.numbers
        past.progress
    seen s p now e None = same
    seen s p now e (Some shown) =
        trim_numbered (releasing_items past) past.numbers past.progress (client_tuple_of s) shown.client
        (trim_of s p.edge shown now)
        (subst (λ (q : Progress). trim_of s p.edge shown now ≤ q.edge) e (trimmed_within s p shown now)) h

    by : (o : Option TcpFields) →
        AreNumbered (releasing_items past ++ trim_items o (look_at past o).seen (look_at past o).trim) past.numbers
        past.progress
    by None = same
    by (Some s) =
        let p = progress_of (client_tuple_of s) past.progress in
        seen s p (line (client_tuple_of s) (releasing_items past)).opening refl p.shown

accepted_numbered : (past : Past) (w : Waiting) → (is_primary_stop past.stop && not past.is_reported) ≡ false →
    AreNumbered (releasing_items past ++ trims_by w) past.numbers past.progress →
    NumbersAreKept (accept_by (is_primary_stop past.stop) past w (trims_by w))
unfolding accept_by
accepted_numbered past w takes h = by (is_primary_stop past.stop) past.is_reported refl refl takes
  where
    more : (theirs mine : List Item) → Bool → List Item
    more theirs mine b = (if b then theirs else mine) ++ trims_by w

    by : (stopped reported : Bool) → is_primary_stop past.stop ≡ stopped → past.is_reported ≡ reported →
        (stopped && not reported) ≡ false → NumbersAreKept (accept_by stopped past w (trims_by w))
    by true false e f g = absurd (true≢false g)
    by true true e f g =
        let here : secondary_releases past ≡ true = λ i. e i && f i in
        as_survivor (secondary_releases past) (past.secondary.items ++ trims_by w) past.primary.items past.numbers
        past.progress here
        (subst (λ (b : Bool). AreNumbered (more past.secondary.items past.primary.items b) past.numbers past.progress)
        here h)
    by false reported e f g =
        let here = no_survivor past e in
        as_primary (secondary_releases past) past.secondary.items (past.primary.items ++ trims_by w) past.numbers
        past.progress here
        (subst (λ (b : Bool). AreNumbered (more past.secondary.items past.primary.items b) past.numbers past.progress)
        here h)

-- WHAT THE PRIMARY HEARS
quiet_settled : (p : Past) (settling : Settling) (x : Line) (marks : List Mark) (delivered : Option Message)
    (answer : ℕ → Answer) → secondary_releases p ≡ false → settling.own ≡ [] → settling.before ≡ p.primary.items →
    All NumberFits p.numbers → AreNumbered p.primary.items p.numbers p.progress →
    Numbered (outcome_with x marks delivered answer (settle_event p settling))
quiet_settled p settling x marks delivered answer e none before fit h =
    settled_primary p settling x marks delivered answer e
    (subst (λ (xs : List Item). AreNumbered xs (settle_event p settling).after.numbers
    (settle_event p settling).after.progress)
    ((λ i. before i ++ map sent (none i)) ∙ append-nil p.primary.items)
    (settled_event p settling fit (subst (All AreInRange) (sym none) (All-nil AreInRange))
    (subst (λ (xs : List Item). AreNumbered xs p.numbers p.progress) (sym before) h)))

pub learnt_numbered : (past : Past) (t : Tuple) (client number : ℕ) →
    AreNumbered past.primary.items past.numbers past.progress →
    AreNumbered past.primary.items (learn_number past.numbers t client number) past.progress
learnt_numbered past t client number h u =
    numbered_alike u (line u past.primary.items) (progress_of u past.progress) past.numbers
    (learn_number past.numbers t client number) (λ o e. one_learnt past.numbers t client number u o.client) (h u)

pub acknowledged_numbered : (past : Past) → AreNumbered past.primary.items past.numbers past.progress →
    AreNumbered (committed_items past) (learn_all past.numbers) (clear_ages past.progress)
acknowledged_numbered past h =
    cleared_numbered (committed_items past) (learn_all past.numbers) past.progress (λ u.
    numbered_alike u (line u (committed_items past)) (progress_of u past.progress) past.numbers (learn_all past.numbers)
    (λ o e. all_learnt past.numbers u o.client)
    (committed_numbered past.primary.items past.numbers past.progress h u))

primary_heard : (past : Past) (m : Message) → secondary_releases past ≡ false → All NumberFits past.numbers →
    NumbersAreKept past → Numbered (primary_hears past m)
unfolding Numbered known_ended sent_ended ack_ended
primary_heard past m e fit h =
    let mine =
    when_primary (secondary_releases past) past.secondary.items past.primary.items past.numbers past.progress e h in
    heard_back_case Numbered past m
    (λ t client number is.
    quiet_settled (record past { numbers = learn_number past.numbers t client number }) (no_frames past.primary.items)
    ToPrimary [] (Some (Known t client number)) (HeardBack 12 past.sent_heard) e refl refl
    (learnt_fit t client number past.numbers fit) (learnt_numbered past t client number mine))
    (λ frame is.
    quiet_settled (record past {
      sent_heard = past.sent_heard + 1;
      known_items = past.known_items ++ map sent (segments (frame ∷ []));
    }) (record (no_frames past.primary.items) { restarts = restarts_in past.known_items (segments (frame ∷ [])) })
    ToPrimary [] (Some (Sent frame)) (HeardBack 13 (past.sent_heard + 1)) e refl refl fit mine)
    (λ n is.
    quiet_settled (acknowledge past) (no_frames (committed_items past)) ToPrimary (Acknowledged n ∷ []) (Some (Ack n))
    (HeardBack 14 0) e refl refl (all_learnt_fit past.numbers fit) (acknowledged_numbered past mine))
    (λ foreign. h)

left_numbered : (past : Past) → is_primary_stop past.stop ≡ false → All NumberFits past.numbers →
    NumbersAreKept past → Numbered (outcome_with Report [] None Reported (primary_survives past))
unfolding primary_survives
left_numbered past e fit h =
    quiet_settled (lose_links past) (no_frames past.primary.items) Report [] None Reported
    (ap (λ (b : Bool). b && true) e) refl refl fit
    (when_primary (secondary_releases past) past.secondary.items past.primary.items past.numbers past.progress
    (no_survivor past e) h)

survived_numbered : (past : Past) → is_primary_stop past.stop ≡ true → Numbered (secondary_survives past)
unfolding secondary_survives Numbered
survived_numbered past e =
    let x = survive past.secondary.items past.secondary_numbers (order past.secondary.items) in
    as_survivor (is_primary_stop past.stop && true) past.secondary.items past.primary.items x.numbers x.progress
    (ap (λ (b : Bool). b && true) e) (survivor_numbered past.secondary.items past.secondary_numbers)

captured_numbered : (past : Past) → is_primary_stop past.stop ≡ false → NumbersAreKept past →
    NumbersAreKept (capture past)
unfolding capture
captured_numbered past e h =
    as_primary (secondary_releases past) past.secondary.items past.primary.items (thin past.primary.items past.numbers)
    past.progress (no_survivor past e)
    (thinned_numbered past.primary.items past.numbers past.progress
    (when_primary (secondary_releases past) past.secondary.items past.primary.items past.numbers past.progress
    (no_survivor past e) h))

-- A STOP comes before a report
stopped_numbered : (past : Past) (stop : Stop) → is_stopped past.stop ≡ false →
    (past.is_reported ≡ true → is_stopped past.stop ≡ true) → NumbersAreKept past →
    NumbersAreKept (record past { stop = stop })
stopped_numbered past stop running reported h =
    let apart = or_parts (is_primary_stop past.stop) (is_secondary_stop past.stop) running in
    as_primary (is_primary_stop stop && past.is_reported) past.secondary.items past.primary.items past.numbers
    past.progress (not_yet (record past { stop = stop }) (by past.is_reported refl))
    (when_primary (secondary_releases past) past.secondary.items past.primary.items past.numbers past.progress
    (no_survivor past apart.0) h)
  where
    by : (b : Bool) → past.is_reported ≡ b → past.is_reported ≡ false
    by true e = absurd (true≢false (sym (reported e) ∙ running))
    by false e = e

-- EVERY EVENT
NumbersSteps : List Step → Past → Type 0
NumbersSteps steps past = NumbersAreKept past

each_numbered : (a : Start) → IsRegular a.kind → All AreBytes a.stream → IsOfBytes a.kind (first_past a) →
    Cases a.kind a.stream (Keeps Fits a NumbersSteps)
unfolding NumbersSteps Numbered
each_numbered a regular stream first = record {
  idle = λ past x e f steps r fits h. h;
  primary_turn = λ past d i b n e f steps r fits h.
      let made = turn_from a.kind past.primary past.primary_inbox i (numbers_of d b n) in
      primary_numbered past (Primary d i b n) made e (of_bytes steps past r).numbers
      (turn_of_bytes a.kind past.primary past.primary_inbox i (numbers_of d b n) regular
      (of_bytes steps past r).primary).own
      (turn_items a.kind past.primary past.primary_inbox i (numbers_of d b n)) h;
  secondary_turn = λ past d i b n e f steps r fits h.
      secondary_turned past (Secondary d i b n)
      (turn_from a.kind past.secondary past.secondary_inbox i (numbers_of d b n)) f h;
  survivor_turn = λ past d i b n e steps r fits h.
      let made = turn_from a.kind past.secondary past.secondary_inbox i (numbers_of d b n) in
      survivor_turned past (Secondary d i b n) made e (of_bytes steps past r).numbers
      (turn_of_bytes a.kind past.secondary past.secondary_inbox i (numbers_of d b n) regular
      (of_bytes steps past r).secondary).own
      (turn_items a.kind past.secondary past.secondary_inbox i (numbers_of d b n)) h;
  accepts = λ past frame kept t e f steps r fits h.
      accepted_numbered past (waiting_of past (look_at past (tcp_in kept)) kept) t.1 (taken_numbered past kept h);
  is_full = λ past frame kept t e f steps r fits h. h;
  answers = λ past frame b t e steps r fits h. h;
  drops = λ past frame why t e steps r fits h. h;
  loses = λ past frame t e f steps r fits h. h;
  secondary_hears = λ past m ms e f g steps r fits h.
      secondary_heard (record past { to_secondary = ms }) m (not_yet past g) h;
  ignores = λ past m ms e f g running alone steps r fits h. h;
  primary_hears = λ past m ms e f running alone steps r fits h.
      primary_heard (record past { to_primary = ms }) m (no_survivor past running) (of_bytes steps past r).numbers h;
  primary_stops = λ past steps r fits h.
      stopped_numbered past primary_stop (fits.stop refl) (reported_stopped a steps past r) h;
  secondary_stops = λ past steps r fits h.
      stopped_numbered past secondary_stop (fits.stop refl) (reported_stopped a steps past r) h;
  secondary_left = λ past e steps r fits h. survived_numbered past e;
  primary_left = λ past e steps r fits h. left_numbered past e (of_bytes steps past r).numbers h;
  asks = λ past e f g steps r fits h. captured_numbered past f h;
}
  where
    of_bytes : (steps : List Step) (past : Past) → Reached Fits a steps past → IsOfBytes a.kind past
    of_bytes steps past r = bytes_reached Fits a regular stream first steps past r

first_numbered : (a : Start) → IsStart a → NumbersAreKept (first_past a)
unfolding line
first_numbered a (boots kind stream state m n regular fits bytes are) t = record {
  trimmed = omega arith;
  within = omega arith;
  kept = λ o e. absurd (cc e);
  shown = λ o e some. absurd (cc e);
}

pub numbers_reached : (a : Start) → IsStart a → (steps : List Step) (past : Past) → Reached Fits a steps past →
    NumbersAreKept past
unfolding NumbersSteps
numbers_reached a start steps past r =
    let bytes = bytes_of_start a start in
    each_history Fits a NumbersSteps (first_numbered a start)
    (each_numbered a bytes.regular bytes.stream bytes.first) steps past r

pub numbers_of_each_log : NumbersOfEachLog
numbers_of_each_log a schedule start one =
    each_log a (λ (steps : List Step) (past : Past). NumbersAreKept past) (numbers_reached a start) schedule one
