-- Each event releases what stands in the releasing node's run, and the SYNs that are shown are the last released.
use Rattle.std.proofs.Common.{◌≡◌, ℕ, ◌+◌, Bool, true, false, ◌&&◌, if◌then◌else◌, List, [], ◌∷◌, ◌++◌, append-nil, map, fold, Option, None, Some, refl, sym, ap, subst, ◌∙◌, All}
use Rattle.std.specs.Option.{option_map}
use Rattle.std.proofs.lemmas.Bool.{and_parts}
use Rattle.std.proofs.lemmas.List.Elements.{All-nil}
use Rattle.inet_frame.specs.Counted.{tcp_in}
use Rattle.inet_frame.specs.Fields.{TcpFields}
use Rattle.inet_frame.specs.Laws.{AreInRange}
use Rattle.inet_frame.specs.declared.tuple.Tuple.{Tuple}
use Rattle.tcp_track.specs.Laws.{took_after}
use Rattle.tcp_track.specs.Lines.{Item, commit, line, order, sent, sent_of}
use Rattle.tcp_track.specs.Segments.{same_tuple}
use Rattle.tcp_track.specs.Stands.{segments}
use Rattle.tcp_track.specs.declared.answers.What.{What}
use Rattle.tcp_track.specs.declared.answers.What.TheVariants.{Ignored, Opened, Restarted, Symbols, Reset, Refused}
use Rattle.tcp_track.specs.declared.openings.Opening.{Opening}
use Rattle.tcp_track.proofs.TupleLemmas.{same_tuple-eq}
use Rattle.settle_rules.specs.Causes.{cause_of}
use Rattle.settle_rules.specs.Numbers.{learn_number}
use Rattle.settle_rules.specs.OwnFrames.{OwnFrames, no_own_frames, own_after, own_frames, progress_with}
use Rattle.settle_rules.specs.Progress.{Progress, ProgressTable, clear_ages, progress_of, put_progress}
use Rattle.settle_rules.specs.Release.{Released, reply}
use Rattle.settle_rules.specs.Settle.{settle}
use Rattle.settle_rules.specs.Survive.{survive}
use Rattle.frame_mirror.specs.declared.ring.Waiting.{Waiting}
use Rattle.state_wire.specs.Regular.{IsRegular}
use Rattle.colo_wire.specs.declared.messages.Message.{Message}
use Rattle.colo_wire.specs.declared.messages.Message.TheVariants.{Known, Sent, Ack}
use Rattle.replay_log.specs.declared.lines.Line.{Line}
use Rattle.replay_log.specs.declared.lines.Line.TheVariants.{Primary, Secondary, ToPrimary, Report}
use Rattle.replay_log.specs.declared.records.Answer.{Answer}
use Rattle.replay_log.specs.declared.records.Answer.TheVariants.{Made, HeardBack, Reported}
use Rattle.replay_log.specs.declared.records.Mark.{Mark}
use Rattle.replay_log.specs.declared.records.Mark.TheVariants.{Acknowledged}
use Rattle.pair_theorem.specs.Checkpoint.{capture}
use Rattle.pair_theorem.specs.ClientFrames.{trims_by}
use Rattle.pair_theorem.specs.Events.{Ended, Settling, accept_by, ack_ended, acknowledge, committed_items, ended_by, hear_frame, known_ended, lose_links, look_at, no_frames, numbers_of, outcome_with, primary_ended, primary_hears, primary_survives, raise_count, restarts_in, scene_of, secondary_hears, secondary_survives, sent_ended, settle_event, survivor_ended, turn_primary, turn_secondary, turn_survivor, waiting_of}
use Rattle.pair_theorem.specs.GuestTurns.{TurnMade, turn_from}
use Rattle.pair_theorem.specs.Past.{Outcome, Past, Start, is_primary_stop, releasing_items, secondary_releases, silently}
use Rattle.pair_theorem.specs.Places.{current_client, places_after, shown_number}
use Rattle.pair_theorem.proofs.EventCases.{Cases, settled_case}
use Rattle.pair_theorem.proofs.MessageCases.{heard_back_case, heard_case}
use Rattle.theorem_frames.specs.Shapes.{AreSentInRange}
use Rattle.theorem_frames.proofs.BytesLemmas.{NumberFits, all_learnt_fit, as_before, learnt_fit, own_in_range, own_numbers_fit, turn_of_bytes}
use Rattle.theorem_frames.proofs.PromptLemmas.{progress_other, progress_same}
use Rattle.theorem_frames.proofs.ShapeLemmas.{IsOfBytes}
use Rattle.theorem_stands.specs.Numbered.{AreNumbered, NumbersAreKept}
use Rattle.theorem_stands.proofs.NumberedEvents.{acknowledged_numbered, learnt_numbered, no_survivor, turn_items, when_primary, when_survivor}
use Rattle.theorem_stands.proofs.NumberedLemmas.{all_own_numbered, cleared, own_items}
use Rattle.theorem_symbols.specs.Shown.{SynsAreShown}
use Rattle.theorem_symbols.proofs.PlaceLemmas.{PlaceRight, number_after}
use Rattle.theorem_symbols.proofs.SettleRight.{settle_right}
use Rattle.theorem_symbols.proofs.SurviveRight.{survive_right}

-- what is shown of an event, after all that was released before it
pub record EventRight (a : Start) (released : List Released) (o : Outcome) : Type 0 where
  pub shown : SynsAreShown a (released ++ o.step.released) o.after.progress
  pub right : All (PlaceRight (sent_of (releasing_items o.after)))
      (places_after a o.after released o.step.released)

-- PROGRESS that shows the same
abbrev pub SameShown : ProgressTable → ProgressTable → Type 0
SameShown old new = (t : Tuple) → (progress_of t new).shown ≡ (progress_of t old).shown

pub shown_alike : (a : Start) (released : List Released) (old new : ProgressTable) → SameShown old new →
    SynsAreShown a released old → SynsAreShown a released new
shown_alike a released old new same h t o e = h t o (sym (same t) ∙ e)

with_shown : (what : What) (p : Progress) → (progress_with what p).shown ≡ p.shown
with_shown Ignored p = refl
with_shown (Opened o) p = refl
with_shown (Restarted o) p = refl
with_shown (Symbols from to) p = refl
with_shown Reset p = refl
with_shown (Refused c) p = refl

put_alike : (u : Tuple) (p : Progress) (table : ProgressTable) → p.shown ≡ (progress_of u table).shown →
    SameShown table (put_progress u p table)
put_alike u p table e t = by (same_tuple u t) refl
  where
    by : (same : Bool) → same_tuple u t ≡ same →
        (progress_of t (put_progress u p table)).shown ≡ (progress_of t table).shown
    by true same =
        subst (λ (v : Tuple). (progress_of v (put_progress u p table)).shown ≡ (progress_of v table).shown)
        (same_tuple-eq u t same) (ap (λ (q : Progress). q.shown) (progress_same u p table) ∙ e)
    by false other = ap (λ (q : Progress). q.shown) (progress_other u t p table other)

pub own_alike : (own : OwnFrames) (xs : List TcpFields) → SameShown own.progress (fold own_after own xs).progress
own_alike own [] t = refl
own_alike own (s ∷ xs) t =
    let u = (took_after own.items s).tuple in
    let what = (took_after own.items s).what in
    own_alike (own_after own s) xs t
    ∙ put_alike u (progress_with what (progress_of u own.progress)) own.progress
    (with_shown what (progress_of u own.progress)) t

-- THE LINES of the past after an event
pub clients_are : (past : Past) (items : List Item) → releasing_items past ≡ items → (t : Tuple) →
    current_client past t ≡ option_map (λ (o : Opening). o.client) (line t items).opening
unfolding current_client
clients_are past items e t =
    ap (λ (xs : List Item). option_map (λ (o : Opening). o.client) (line t xs).opening) e

-- A SETTLING, from the past that has the event's own frames in its run; and the past after it
record SettledRight (a : Start) (after : Past) (released : List Released) (e : Ended) : Type 0 where
  shown : SynsAreShown a (released ++ e.out) e.after.progress
  right : All (PlaceRight (sent_of (releasing_items after))) (places_after a after released e.out)

-- what is known before a settling: numbers, fields in range, edges, and the SYNs shown
record IsReady (a : Start) (past : Past) (released : List Released) (x : Settling) : Type 0 where
  fit : All NumberFits past.numbers
  range : AreSentInRange x.before
  own : All AreInRange x.own
  numbered : AreNumbered x.before past.numbers past.progress
  shown : SynsAreShown a released past.progress

settles : (a : Start) (past : Past) (released : List Released) (x : Settling) (after : Past) →
    IsReady a past released x → releasing_items after ≡ x.before ++ map sent x.own →
    SettledRight a after released (settle_event past x)
unfolding settle_event ended_by own_frames
settles a past released x after h items =
    let begin = no_own_frames x.before past.numbers past.progress in
    let own = own_frames x.before past.numbers past.progress x.own in
    let scene = scene_of past own x in
    let same : releasing_items after ≡ own.items = items ∙ sym (own_items begin x.own) in
    let fit = own_numbers_fit begin x.own (record { all = h.fit; new = All-nil NumberFits }) h.own in
    let all =
    settle_right a after released scene (order own.items) own.progress (record {
      fit = fit.all;
      range = own_in_range begin x.own h.range h.own;
      now = clients_are after own.items same;
    }) (all_own_numbered begin x.own h.numbered)
    (shown_alike a released past.progress own.progress (own_alike begin x.own) h.shown) in
    record {
      shown = all.shown;
      right = subst (λ (xs : List Item).
          All (PlaceRight (sent_of xs))
          (places_after a after released (settle scene (order own.items) own.progress).out))
          (sym same) all.right;
    }

-- at the primary, which then may capture
primary_settles : (a : Start) (p : Past) (released : List Released) (x : Settling) (l : Line) (marks : List Mark)
    (delivered : Option Message) (answer : ℕ → Answer) → secondary_releases p ≡ false →
    p.primary.items ≡ x.before ++ map sent x.own → IsReady a p released x →
    EventRight a released (outcome_with l marks delivered answer (settle_event p x))
unfolding settle_event ended_by capture
primary_settles a p released x l marks delivered answer e items h =
    let is : releasing_items p ≡ x.before ++ map sent x.own =
    ap (λ (b : Bool). if b then p.secondary.items else p.primary.items) e ∙ items in
    settled_case (EventRight a released) l marks delivered answer (settle_event p x)
    (λ none. let all = settles a p released x (settle_event p x).after h is in
    record { shown = all.shown; right = all.right })
    (λ why some. let all = settles a p released x (capture (settle_event p x).after) h is in
    record { shown = all.shown; right = all.right })

-- a survivor, which captures nothing
survivor_settles : (a : Start) (p : Past) (released : List Released) (x : Settling) (l : Line) (marks : List Mark)
    (delivered : Option Message) (answer : ℕ → Answer) → secondary_releases p ≡ true →
    p.secondary.items ≡ x.before ++ map sent x.own → IsReady a p released x →
    EventRight a released (outcome_with l marks delivered answer (settle_event p x))
unfolding settle_event ended_by
survivor_settles a p released x l marks delivered answer e items h =
    let is : releasing_items p ≡ x.before ++ map sent x.own =
    ap (λ (b : Bool). if b then p.secondary.items else p.primary.items) e ∙ items in
    let own = own_frames x.before p.numbers p.progress x.own in
    let scene = scene_of p own x in
    let ended = settle scene (order own.items) own.progress in
    settled_case (EventRight a released) l marks delivered answer (settle_event p x)
    (λ none. let all = settles a p released x (settle_event p x).after h is in
    record { shown = all.shown; right = all.right })
    (λ why some.
    let alone = (and_parts (is_primary_stop p.stop) p.is_reported e).1 in
    absurd (cc (sym (ap (λ (b : Bool). if b then None else cause_of scene (order own.items) ended.progress) alone)
    ∙ some)))

-- AN EVENT THAT RELEASES NOTHING
silent_right : (a : Start) (released : List Released) (o : Outcome) (progress : ProgressTable) →
    o.step.released ≡ [] → o.after.progress ≡ progress → SynsAreShown a released progress → EventRight a released o
unfolding places_after
silent_right a released o progress none same h = record {
  shown = λ t q e.
      ap (λ (rs : List Released). shown_number a t (released ++ rs)) none
      ∙ (ap (λ (rs : List Released). shown_number a t rs) (append-nil released)
      ∙ h t q (ap (λ (table : ProgressTable). (progress_of t table).shown) (sym same) ∙ e));
  right = subst (λ (rs : List Released).
      All (PlaceRight (sent_of (releasing_items o.after))) (places_after a o.after released rs)) (sym none)
      (All-nil (PlaceRight (sent_of (releasing_items o.after))));
}

-- a reply is no segment
reply_right : (a : Start) (released : List Released) (o : Outcome) (bytes : List ℕ) (progress : ProgressTable) →
    o.step.released ≡ reply bytes ∷ [] → o.after.progress ≡ progress → SynsAreShown a released progress →
    EventRight a released o
unfolding places_after
reply_right a released o bytes progress one same h = record {
  shown = λ t q e.
      ap (λ (rs : List Released). shown_number a t (released ++ rs)) one
      ∙ (number_after a t released (reply bytes ∷ [])
      ∙ h t q (ap (λ (table : ProgressTable). (progress_of t table).shown) (sym same) ∙ e));
  right = subst (λ (rs : List Released).
      All (PlaceRight (sent_of (releasing_items o.after))) (places_after a o.after released rs)) (sym one)
      (All-nil (PlaceRight (sent_of (releasing_items o.after))));
}

-- TURNS
abbrev Ready : Start → List Released → Past → Type 0
Ready a released past = SynsAreShown a released past.progress

mine_numbered : (past : Past) → secondary_releases past ≡ false → NumbersAreKept past →
    AreNumbered past.primary.items past.numbers past.progress
mine_numbered past e h =
    when_primary (secondary_releases past) past.secondary.items past.primary.items past.numbers past.progress e h

primary_turned : (a : Start) (released : List Released) (past : Past) (l : Line) (made : TurnMade) →
    is_primary_stop past.stop ≡ false → IsOfBytes a.kind past → All AreInRange (segments made.output) →
    made.run.items ≡ past.primary.items ++ map sent (segments made.output) → NumbersAreKept past →
    Ready a released past → EventRight a released (turn_primary past l made)
unfolding turn_primary primary_ended
primary_turned a released past l made e bytes own items kept h =
    primary_settles a (record past {
      primary = made.run;
      primary_inbox = made.inbox;
      primary_turned = raise_count past.primary_turned;
    }) released (record {
      before = past.primary.items;
      own = segments made.output;
      restarts = [];
      is_turn = true;
    }) l [] None (Made made.index) (no_survivor past e) items (record {
      fit = bytes.numbers;
      range = bytes.primary.items;
      own = own;
      numbered = mine_numbered past (no_survivor past e) kept;
      shown = h;
    })

survivor_turned : (a : Start) (released : List Released) (past : Past) (l : Line) (made : TurnMade) →
    secondary_releases past ≡ true → IsOfBytes a.kind past → All AreInRange (segments made.output) →
    made.run.items ≡ past.secondary.items ++ map sent (segments made.output) → NumbersAreKept past →
    Ready a released past → EventRight a released (turn_survivor past l made)
unfolding turn_survivor survivor_ended
survivor_turned a released past l made e bytes own items kept h =
    survivor_settles a (record past {
      secondary = made.run;
      secondary_inbox = made.inbox;
      secondary_turned = raise_count past.secondary_turned;
    }) released (record {
      before = past.secondary.items;
      own = segments made.output;
      restarts = [];
      is_turn = true;
    }) l [] None (Made made.index) e items (record {
      fit = bytes.numbers;
      range = bytes.secondary.items;
      own = own;
      numbered = when_survivor (secondary_releases past) past.secondary.items past.primary.items past.numbers
          past.progress e kept;
      shown = h;
    })

-- WHAT THE PRIMARY HEARS
quiet_settles : (a : Start) (p : Past) (released : List Released) (x : Settling) (l : Line) (marks : List Mark)
    (delivered : Option Message) (answer : ℕ → Answer) → secondary_releases p ≡ false → x.own ≡ [] →
    x.before ≡ p.primary.items → All NumberFits p.numbers → AreSentInRange p.primary.items →
    AreNumbered p.primary.items p.numbers p.progress → SynsAreShown a released p.progress →
    EventRight a released (outcome_with l marks delivered answer (settle_event p x))
quiet_settles a p released x l marks delivered answer e none before fit range numbered h =
    primary_settles a p released x l marks delivered answer e
    (sym ((λ i. before i ++ map sent (none i)) ∙ append-nil p.primary.items)) (record {
      fit = fit;
      range = subst AreSentInRange (sym before) range;
      own = subst (All AreInRange) (sym none) (All-nil AreInRange);
      numbered = subst (λ (xs : List Item). AreNumbered xs p.numbers p.progress) (sym before) numbered;
      shown = h;
    })

primary_heard : (a : Start) (released : List Released) (past : Past) (m : Message) →
    secondary_releases past ≡ false → All NumberFits past.numbers → AreSentInRange past.primary.items →
    NumbersAreKept past → Ready a released past → EventRight a released (primary_hears past m)
unfolding known_ended sent_ended ack_ended
primary_heard a released past m e fit range kept h =
    let mine = mine_numbered past e kept in
    heard_back_case (EventRight a released) past m
    (λ t client number is.
    quiet_settles a (record past { numbers = learn_number past.numbers t client number }) released
    (no_frames past.primary.items) ToPrimary [] (Some (Known t client number)) (HeardBack 12 past.sent_heard) e refl
    refl (learnt_fit t client number past.numbers fit) range
    (learnt_numbered past t client number mine) h)
    (λ frame is.
    quiet_settles a (record past {
      sent_heard = past.sent_heard + 1;
      known_items = past.known_items ++ map sent (segments (frame ∷ []));
    }) released
    (record (no_frames past.primary.items) { restarts = restarts_in past.known_items (segments (frame ∷ [])) })
    ToPrimary [] (Some (Sent frame)) (HeardBack 13 (past.sent_heard + 1)) e refl refl fit range mine h)
    (λ n is.
    quiet_settles a (acknowledge past) released (no_frames (committed_items past)) ToPrimary (Acknowledged n ∷ [])
    (Some (Ack n)) (HeardBack 14 0) e refl refl (all_learnt_fit past.numbers fit)
    (as_before past.primary.items (commit ∷ []) refl range) (acknowledged_numbered past mine)
    (shown_alike a released past.progress (clear_ages past.progress) (λ t. (cleared t past.progress).1) h))
    (λ foreign. silent_right a released _ past.progress refl refl h)

secondary_heard : (a : Start) (released : List Released) (past : Past) (m : Message) → Ready a released past →
    EventRight a released (secondary_hears past m)
unfolding hear_frame
secondary_heard a released past m h =
    heard_case (EventRight a released) past m
    (λ index seen trim frame is. silent_right a released _ past.progress refl refl h)
    (λ t client number is. silent_right a released _ past.progress refl refl h)
    (λ n is. silent_right a released _ past.progress refl refl h)
    (λ apart. silent_right a released _ past.progress refl refl h)

-- THE REPORT
primary_left : (a : Start) (released : List Released) (past : Past) → is_primary_stop past.stop ≡ false →
    IsOfBytes a.kind past → NumbersAreKept past → Ready a released past →
    EventRight a released (outcome_with Report [] None Reported (primary_survives past))
unfolding primary_survives
primary_left a released past e bytes kept h =
    quiet_settles a (lose_links past) released (no_frames past.primary.items) Report [] None Reported
    (ap (λ (b : Bool). b && true) e) refl refl bytes.numbers bytes.primary.items
    (mine_numbered past (no_survivor past e) kept) h

secondary_left : (a : Start) (released : List Released) (past : Past) → is_primary_stop past.stop ≡ true →
    IsOfBytes a.kind past → EventRight a released (secondary_survives past)
unfolding secondary_survives
secondary_left a released past e bytes =
    let items = past.secondary.items in
    let after = (secondary_survives past).after in
    let is : releasing_items after ≡ items =
    ap (λ (b : Bool). if b && true then past.secondary.items else past.primary.items) e in
    let all =
    survive_right a after released items past.secondary_numbers bytes.told bytes.secondary.items
    (clients_are after items is) in
    record {
      shown = all.shown;
      right = subst (λ (xs : List Item). All (PlaceRight (sent_of xs))
          (places_after a after released (survive items past.secondary_numbers (order items)).out)) (sym is) all.right;
    }

accepted_right : (a : Start) (released : List Released) (past : Past) (w : Waiting) (l : Line) (answer : Answer) →
    Ready a released past →
    EventRight a released (silently (accept_by (is_primary_stop past.stop) past w (trims_by w)) l answer None)
unfolding accept_by
accepted_right a released past w l answer h =
    silent_right a released _ past.progress refl (same (is_primary_stop past.stop)) h
  where
    same : (b : Bool) → (accept_by b past w (trims_by w)).progress ≡ past.progress
    same true = refl
    same false = refl

-- EVERY EVENT
pub each_right : (a : Start) → IsRegular a.kind →
    Cases a.kind a.stream (λ past x o. (released : List Released) → IsOfBytes a.kind past → NumbersAreKept past →
    SynsAreShown a released past.progress → EventRight a released o)
unfolding turn_secondary capture
each_right a regular = record {
  idle = λ past x e f released bytes kept h. silent_right a released _ past.progress refl refl h;
  primary_turn = λ past d i b n e f released bytes kept h.
      let made = turn_from a.kind past.primary past.primary_inbox i (numbers_of d b n) in
      primary_turned a released past (Primary d i b n) made e bytes
      (turn_of_bytes a.kind past.primary past.primary_inbox i (numbers_of d b n) regular bytes.primary).own
      (turn_items a.kind past.primary past.primary_inbox i (numbers_of d b n)) kept h;
  secondary_turn = λ past d i b n e f released bytes kept h. silent_right a released _ past.progress refl refl h;
  survivor_turn = λ past d i b n e released bytes kept h.
      let made = turn_from a.kind past.secondary past.secondary_inbox i (numbers_of d b n) in
      survivor_turned a released past (Secondary d i b n) made e bytes
      (turn_of_bytes a.kind past.secondary past.secondary_inbox i (numbers_of d b n) regular bytes.secondary).own
      (turn_items a.kind past.secondary past.secondary_inbox i (numbers_of d b n)) kept h;
  accepts = λ past frame kept t e f released bytes numbered h.
      accepted_right a released past (waiting_of past (look_at past (tcp_in kept)) kept) _ _ h;
  is_full = λ past frame kept t e f released bytes numbered h. silent_right a released _ past.progress refl refl h;
  answers = λ past frame b t e released bytes numbered h. reply_right a released _ b past.progress refl refl h;
  drops = λ past frame why t e released bytes numbered h. silent_right a released _ past.progress refl refl h;
  loses = λ past frame t e f released bytes numbered h. silent_right a released _ past.progress refl refl h;
  secondary_hears = λ past m ms e f g released bytes kept h.
      secondary_heard a released (record past { to_secondary = ms }) m h;
  ignores = λ past m ms e f g running alone released bytes kept h.
      silent_right a released _ past.progress refl refl h;
  primary_hears = λ past m ms e f running alone released bytes kept h.
      primary_heard a released (record past { to_primary = ms }) m (no_survivor past running) bytes.numbers
      bytes.primary.items kept h;
  primary_stops = λ past released bytes kept h. silent_right a released _ past.progress refl refl h;
  secondary_stops = λ past released bytes kept h. silent_right a released _ past.progress refl refl h;
  secondary_left = λ past e released bytes kept h. secondary_left a released past e bytes;
  primary_left = λ past e released bytes kept h. primary_left a released past e bytes kept h;
  asks = λ past e f g released bytes kept h. silent_right a released _ past.progress refl refl h;
}
