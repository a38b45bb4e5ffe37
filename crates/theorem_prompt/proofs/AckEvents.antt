-- After each event without a checkpoint under way, the agreed acknowledgement of each connection was said.
use Rattle.std.proofs.Common.{◌≡◌, ℕ, ◌+◌, ◌<◌, Bool, true, false, not, ◌&&◌, max, min, if◌then◌else◌, List, [], ◌∷◌, ◌++◌, append-nil, find, map, Option, None, Some, refl, sym, ap, subst, ◌∙◌, arith, true≢false}
use Rattle.std.specs.List.{list_any}
use Rattle.std.specs.Option.{option_map_or}
use Rattle.std.proofs.lemmas.Bool.{cond_both, or_parts}
use Rattle.inet_frame.specs.Counted.{client_tuple_of, tcp_in}
use Rattle.inet_frame.specs.Fields.{TcpFields}
use Rattle.inet_frame.specs.declared.tuple.Tuple.{Tuple}
use Rattle.tcp_track.specs.Lines as lines
use Rattle.tcp_track.specs.Lines.{Item, after_trim, line, line_after, no_line, order, sent, trim, trim_end}
use Rattle.tcp_track.specs.Segments.{same_tuple}
use Rattle.tcp_track.specs.Stands.{is_of_client, segments}
use Rattle.tcp_track.specs.declared.openings.Opening.{Opening}
use Rattle.settle_rules.specs.Causes.{cause_of}
use Rattle.settle_rules.specs.Matching.{agreed_ack_window}
use Rattle.settle_rules.specs.Numbers.{learn_number}
use Rattle.settle_rules.specs.OwnFrames.{OwnFrames, no_own_frames, own_frames}
use Rattle.settle_rules.specs.Progress.{AckWindow, Progress, ProgressTable, clear_ages, no_progress, progress_of}
use Rattle.settle_rules.specs.Release.{Released, reply}
use Rattle.settle_rules.specs.Settle.{Scene, both_lines, is_restarted, settle}
use Rattle.frame_mirror.specs.declared.ring.Waiting.{Waiting}
use Rattle.colo_wire.specs.declared.messages.Message.{Message}
use Rattle.colo_wire.specs.declared.messages.Message.TheVariants.{Known, Sent, Ack}
use Rattle.replay_log.specs.declared.lines.Line.{Line}
use Rattle.replay_log.specs.declared.lines.Line.TheVariants.{Primary, Secondary, ToPrimary, Report}
use Rattle.replay_log.specs.declared.records.Answer.{Answer}
use Rattle.replay_log.specs.declared.records.Answer.TheVariants.{Made, HeardBack, Reported}
use Rattle.replay_log.specs.declared.records.Mark.{Mark}
use Rattle.replay_log.specs.declared.records.Mark.TheVariants.{Acknowledged}
use Rattle.pair_theorem.specs.Checkpoint.{capture}
use Rattle.pair_theorem.specs.ClientFrames.{trim_items, trims_by}
use Rattle.pair_theorem.specs.Events.{Ended, Settling, accept_by, ack_ended, acknowledge, committed_items, ended_by, hear_frame, known_ended, lose_links, look_at, no_frames, numbers_of, outcome_with, primary_ended, primary_hears, primary_survives, raise_count, restarts_in, scene_of, secondary_hears, secondary_survives, sent_ended, settle_event, survivor_ended, turn_primary, turn_secondary, turn_survivor, waiting_of}
use Rattle.pair_theorem.specs.FrameParts.{last_ack, lines_in}
use Rattle.pair_theorem.specs.GuestTurns.{TurnMade, turn_from}
use Rattle.pair_theorem.specs.Past.{Outcome, Past, Start, Stop, is_primary_stop, is_secondary_stop, primary_stop, releasing_items, secondary_releases, secondary_stop, silently}
use Rattle.pair_theorem.proofs.EachHistory.{Fits, is_stopped}
use Rattle.pair_theorem.proofs.EventCases.{Cases, settled_case}
use Rattle.pair_theorem.proofs.MessageCases.{heard_back_case, heard_case}
use Rattle.theorem_stands.proofs.NumberedEvents.{no_survivor, not_yet, turn_items}
use Rattle.theorem_stands.proofs.NumberedLemmas.{line_push, opened_in_order, own_items}
use Rattle.theorem_prompt.specs.Said.{AcksAreLast}
use Rattle.theorem_prompt.proofs.AckSettle.{ack_more, all_zero, last_alike, own_last, restart_causes, settle_last}
use Rattle.theorem_prompt.proofs.AckSurvive.{survive_last}

-- WHAT IS AGREED of both lines
abbrev window_of : Tuple → lines.Line → lines.Line → AckWindow
window_of t mine theirs =
    agreed_ack_window (record { tuple = t; mine = mine; theirs = theirs; number = 0; number_known = false })

abbrev window_at : List Item → List Item → Bool → Tuple → AckWindow
window_at mine theirs alone t = window_of t (line t mine) (if alone then line t mine else line t theirs)

window_is : (past : Past) (t : Tuple) →
    agreed_ack_window (lines_in past t) ≡ window_at (releasing_items past) past.known_items past.is_reported t
unfolding lines_in both_lines
window_is past t = refl

scene_window : (scene : Scene) (t : Tuple) →
    agreed_ack_window (both_lines scene t) ≡ window_at scene.mine scene.theirs scene.is_alone t
unfolding both_lines
scene_window scene t = refl

-- what is agreed of each connection of the releasing node was said
abbrev pub AgreesAfter : Past → Type 0
AgreesAfter past =
    (t : Tuple) (o : Opening) → (line t (releasing_items past)).opening ≡ Some o
    → 0 < (progress_of t past.progress).edge
    → (progress_of t past.progress).last ≡ Some (agreed_ack_window (lines_in past t))

pub record EventSaid (a : Start) (released : List Released) (o : Outcome) : Type 0 where
  pub said : AcksAreLast a (released ++ o.step.released) o.after.progress
  pub agreed : o.after.awaits_ack ≡ false → AgreesAfter o.after

-- A PAST with the same lines, but for trims
agrees_alike : (old new : Past) →
    ((t : Tuple) → window_at (releasing_items new) new.known_items new.is_reported t
    ≡ window_at (releasing_items old) old.known_items old.is_reported t) →
    ((t : Tuple) → (line t (releasing_items new)).opening ≡ (line t (releasing_items old)).opening) →
    new.progress ≡ old.progress → AgreesAfter old → AgreesAfter new
agrees_alike old new windows openings same h t o e some =
    ap (λ (table : ProgressTable). (progress_of t table).last) same
    ∙ (h t o (sym (openings t) ∙ e) (subst (λ (table : ProgressTable). 0 < (progress_of t table).edge) same some)
    ∙ ap Some (window_is old t ∙ (sym (windows t) ∙ sym (window_is new t))))

agrees_same : (old new : Past) → releasing_items new ≡ releasing_items old → new.known_items ≡ old.known_items →
    new.is_reported ≡ old.is_reported → new.progress ≡ old.progress → AgreesAfter old → AgreesAfter new
agrees_same old new items known reported same h =
    agrees_alike old new (λ t i. window_at (items i) (known i) (reported i) t)
    (λ t. ap (λ (xs : List Item). (line t xs).opening) items) same h

-- TRIMS change nothing of what is said
record SaysAlike (l m : lines.Line) : Type 0 where
  opening : m.opening ≡ l.opening
  acked : m.acked ≡ l.acked
  window : m.window ≡ l.window

says_same : (l : lines.Line) → SaysAlike l l
says_same l = record { opening = refl; acked = refl; window = refl }

trim_alike : (l : lines.Line) (client to : ℕ) → SaysAlike l (after_trim l client to)
unfolding after_trim
trim_alike l client to = by (is_of_client l.opening client)
  where
    by : (b : Bool) → SaysAlike l (if b then record l { base = max l.base (min to (trim_end l.symbols)) } else l)
    by true = record { opening = refl; acked = refl; window = refl }
    by false = says_same l

trims_alike : (items : List Item) (w : Waiting) (t : Tuple) → SaysAlike (line t items) (line t (items ++ trims_by w))
unfolding trims_by line_after
trims_alike items w t = by (tcp_in w.frame) w.seen
  where
    none : SaysAlike (line t items) (line t (items ++ []))
    none =
        subst (λ (xs : List Item). SaysAlike (line t items) (line t xs)) (sym (append-nil items))
        (says_same (line t items))

    by : (s : Option TcpFields) (seen : Option Opening) →
        SaysAlike (line t items) (line t (items ++ trim_items s seen w.trim))
    by None seen = none
    by (Some s) None = none
    by (Some s) (Some o) =
        let u = client_tuple_of s in
        subst (λ (l : lines.Line). SaysAlike (line t items) l) (sym (line_push t items (trim u o.client w.trim)))
        (cond_both (same_tuple u t) (after_trim (line t items) o.client w.trim) (line t items)
        (SaysAlike (line t items)) (λ e. trim_alike (line t items) o.client w.trim) (λ e. says_same (line t items)))

window_alike : (t : Tuple) (l k m n : lines.Line) → SaysAlike l k → SaysAlike m n →
    window_of t k n ≡ window_of t l m
window_alike t l k m n h g i =
    window_of t (record no_line { opening = h.opening i; acked = h.acked i; window = h.window i })
    (record no_line { opening = g.opening i; acked = g.acked i; window = g.window i })

-- own lines with trims, and those of the other node with the same, where one isn't alone
both_trimmed : (mine known : List Item) (w : Waiting) (t : Tuple) (alone : Bool) →
    window_at (mine ++ trims_by w) (if alone then known else known ++ trims_by w) alone t
    ≡ window_at mine known alone t
both_trimmed mine known w t true =
    window_alike t (line t mine) (line t (mine ++ trims_by w)) (line t mine) (line t (mine ++ trims_by w))
    (trims_alike mine w t) (trims_alike mine w t)
both_trimmed mine known w t false =
    window_alike t (line t mine) (line t (mine ++ trims_by w)) (line t known) (line t (known ++ trims_by w))
    (trims_alike mine w t) (trims_alike known w t)

own_trimmed : (mine known : List Item) (w : Waiting) (t : Tuple) (alone : Bool) →
    window_at (mine ++ trims_by w) known alone t ≡ window_at mine known alone t
own_trimmed mine known w t true =
    window_alike t (line t mine) (line t (mine ++ trims_by w)) (line t mine) (line t (mine ++ trims_by w))
    (trims_alike mine w t) (trims_alike mine w t)
own_trimmed mine known w t false =
    window_alike t (line t mine) (line t (mine ++ trims_by w)) (line t known) (line t known) (trims_alike mine w t)
    (says_same (line t known))

accepted_agrees : (past : Past) (w : Waiting) → (is_primary_stop past.stop && not past.is_reported) ≡ false →
    AgreesAfter past → AgreesAfter (accept_by (is_primary_stop past.stop) past w (trims_by w))
unfolding accept_by
accepted_agrees past w takes h = by (is_primary_stop past.stop) past.is_reported refl refl takes
  where
    by : (stopped reported : Bool) → is_primary_stop past.stop ≡ stopped → past.is_reported ≡ reported →
        (stopped && not reported) ≡ false → AgreesAfter (accept_by stopped past w (trims_by w))
    by true false e f g = absurd (true≢false g)
    by true true e f g =
        let is : secondary_releases past ≡ true = λ i. e i && f i in
        let new : releasing_items (accept_by true past w (trims_by w)) ≡ past.secondary.items ++ trims_by w =
        ap (λ (b : Bool). if b then past.secondary.items ++ trims_by w else past.primary.items) is in
        let old : releasing_items past ≡ past.secondary.items =
        ap (λ (b : Bool). if b then past.secondary.items else past.primary.items) is in
        agrees_alike past (accept_by true past w (trims_by w))
        (λ t. (λ i. window_at (new i) past.known_items past.is_reported t)
        ∙ (own_trimmed past.secondary.items past.known_items w t past.is_reported
        ∙ (λ i. window_at (sym old i) past.known_items past.is_reported t)))
        (λ t. ap (λ (xs : List Item). (line t xs).opening) new
        ∙ ((trims_alike past.secondary.items w t).opening
        ∙ ap (λ (xs : List Item). (line t xs).opening) (sym old))) refl h
    by false reported e f g =
        let is = no_survivor past e in
        let trimmed = past.primary.items ++ trims_by w in
        let new : releasing_items (accept_by false past w (trims_by w)) ≡ trimmed =
        ap (λ (b : Bool). if b then past.secondary.items else trimmed) is in
        let old : releasing_items past ≡ past.primary.items =
        ap (λ (b : Bool). if b then past.secondary.items else past.primary.items) is in
        agrees_alike past (accept_by false past w (trims_by w))
        (λ t. (λ i. window_at (new i)
        (if past.is_reported then past.known_items else past.known_items ++ trims_by w) past.is_reported t)
        ∙ (both_trimmed past.primary.items past.known_items w t past.is_reported
        ∙ (λ i. window_at (sym old i) past.known_items past.is_reported t)))
        (λ t. ap (λ (xs : List Item). (line t xs).opening) new
        ∙ ((trims_alike past.primary.items w t).opening
        ∙ ap (λ (xs : List Item). (line t xs).opening) (sym old))) refl h

-- A SETTLING
abbrev own_of : Past → Settling → OwnFrames
own_of past x = own_frames x.before past.numbers past.progress x.own

-- of what was restarted, where that is no cause, nothing was released
abbrev Rests : Past → Settling → Type 0
Rests past x =
    (settle_event past x).cause ≡ None
    → (t : Tuple) → is_restarted (scene_of past (own_of past x) x) t ≡ true
    → (progress_of t (own_of past x).progress).edge ≡ 0

own_rests : (past : Past) (x : Settling) → x.restarts ≡ [] → Rests past x
unfolding own_frames
own_rests past x none cause t is =
    let own = own_of past x in
    let begin = no_own_frames x.before past.numbers past.progress in
    let restarts : own.restarts ++ x.restarts ≡ own.restarts =
    ap (λ (ts : List Tuple). own.restarts ++ ts) none ∙ append-nil own.restarts in
    all_zero begin x.own (λ u e. absurd (true≢false (sym e))) t
    (sym (ap (λ (ts : List Tuple). list_any (same_tuple t) ts) restarts) ∙ is)

-- in a pair a restart is a cause
pair_rests : (past : Past) (x : Settling) → past.is_reported ≡ false → Rests past x
unfolding settle_event ended_by
pair_rests past x alone cause t is =
    let own = own_of past x in
    let scene = scene_of past own x in
    let tuples = order own.items in
    let after = (settle scene tuples own.progress).progress in
    let none : cause_of scene tuples after ≡ None =
    sym (ap (λ (b : Bool). if b then None else cause_of scene tuples after) alone) ∙ cause in
    absurd (true≢false (sym is ∙ restart_causes scene tuples after t none))

record EndedSaid (a : Start) (released : List Released) (past : Past) (x : Settling) (e : Ended) : Type 0 where
  said : AcksAreLast a (released ++ e.out) e.after.progress
  agreed : e.cause ≡ None → releasing_items e.after ≡ (own_of past x).items → AgreesAfter e.after

ended_said : (a : Start) (released : List Released) (past : Past) (x : Settling) →
    AcksAreLast a released past.progress → Rests past x → EndedSaid a released past x (settle_event past x)
unfolding settle_event ended_by own_frames
ended_said a released past x h rests =
    let own = own_of past x in
    let begin = no_own_frames x.before past.numbers past.progress in
    let scene = scene_of past own x in
    let last =
    settle_last a released scene (order own.items) own.progress
    (last_alike a released past.progress own.progress (own_last begin x.own) h) in
    record {
      said = last.said;
      agreed = λ none same t o opened some. by none same t o opened some (is_restarted scene t) refl;
    }
  where
    ended : Ended
    ended = settle_event past x

    mine : OwnFrames
    mine = own_of past x

    scene : Scene
    scene = scene_of past mine x

    by : ended.cause ≡ None → releasing_items ended.after ≡ mine.items → (t : Tuple) (o : Opening) →
        (line t (releasing_items ended.after)).opening ≡ Some o → 0 < (progress_of t ended.after.progress).edge →
        (restarted : Bool) → is_restarted scene t ≡ restarted →
        (progress_of t ended.after.progress).last ≡ Some (agreed_ack_window (lines_in ended.after t))
    by none same t o opened some true is =
        let begin = no_own_frames x.before past.numbers past.progress in
        let last =
        settle_last a released scene (order mine.items) mine.progress
        (last_alike a released past.progress mine.progress (own_last begin x.own) h) in
        let zero = last.unreleased t is (rests none t is) in
        absurd (omega (arith, some, zero))
    by none same t o opened some false is =
        let begin = no_own_frames x.before past.numbers past.progress in
        let last =
        settle_last a released scene (order mine.items) mine.progress
        (last_alike a released past.progress mine.progress (own_last begin x.own) h) in
        let met = opened_in_order mine.items t o (ap (λ (xs : List Item). (line t xs).opening) (sym same) ∙ opened) in
        last.agreed t met is some
        ∙ ap Some (scene_window scene t
        ∙ ((λ i. window_at (sym same i) past.known_items past.is_reported t) ∙ sym (window_is ended.after t)))

settles : (a : Start) (p : Past) (released : List Released) (x : Settling) (l : Line) (marks : List Mark)
    (delivered : Option Message) (answer : ℕ → Answer) → AcksAreLast a released p.progress → Rests p x →
    releasing_items p ≡ x.before ++ map sent x.own →
    EventSaid a released (outcome_with l marks delivered answer (settle_event p x))
unfolding settle_event ended_by own_frames capture
settles a p released x l marks delivered answer h rests items =
    let all = ended_said a released p x h rests in
    let begin = no_own_frames x.before p.numbers p.progress in
    settled_case (EventSaid a released) l marks delivered answer (settle_event p x)
    (λ none. record {
      said = all.said;
      agreed = λ calm. all.agreed none (items ∙ sym (own_items begin x.own));
    })
    (λ why some. record { said = all.said; agreed = λ calm. absurd (true≢false calm) })

-- AN EVENT THAT SETTLES NOTHING
silent_said : (a : Start) (released : List Released) (o : Outcome) (progress : ProgressTable) →
    o.step.released ≡ [] → o.after.progress ≡ progress → AcksAreLast a released progress →
    (o.after.awaits_ack ≡ false → AgreesAfter o.after) → EventSaid a released o
silent_said a released o progress none same h agreed = record {
  said = λ t w e.
      ap (λ (rs : List Released). last_ack a t (released ++ rs)) none
      ∙ (ap (λ (rs : List Released). last_ack a t rs) (append-nil released)
      ∙ h t w (ap (λ (table : ProgressTable). (progress_of t table).last) (sym same) ∙ e));
  agreed = agreed;
}

reply_said : (a : Start) (released : List Released) (o : Outcome) (bytes : List ℕ) (progress : ProgressTable) →
    o.step.released ≡ reply bytes ∷ [] → o.after.progress ≡ progress → AcksAreLast a released progress →
    (o.after.awaits_ack ≡ false → AgreesAfter o.after) → EventSaid a released o
reply_said a released o bytes progress one same h agreed = record {
  said = λ t w e.
      ap (λ (rs : List Released). last_ack a t (released ++ rs)) one
      ∙ (ack_more a t released (reply bytes ∷ [])
      ∙ h t w (ap (λ (table : ProgressTable). (progress_of t table).last) (sym same) ∙ e));
  agreed = agreed;
}

-- what the past before an event says
abbrev Agreed : Past → Type 0
Agreed past = past.awaits_ack ≡ false → AgreesAfter past

-- the primary's lines, where the secondary releases nothing
primary_items : (past : Past) (theirs : List Item) → secondary_releases past ≡ false →
    (if secondary_releases past then theirs else past.primary.items) ≡ releasing_items past
primary_items past theirs e =
    ap (λ (b : Bool). if b then theirs else past.primary.items) e
    ∙ sym (ap (λ (b : Bool). if b then past.secondary.items else past.primary.items) e)

-- TURNS
primary_said : (a : Start) (released : List Released) (past : Past) (l : Line) (made : TurnMade) →
    is_primary_stop past.stop ≡ false → made.run.items ≡ past.primary.items ++ map sent (segments made.output) →
    AcksAreLast a released past.progress → EventSaid a released (turn_primary past l made)
unfolding turn_primary primary_ended
primary_said a released past l made e items h =
    let p : Past = record past {
      primary = made.run;
      primary_inbox = made.inbox;
      primary_turned = raise_count past.primary_turned;
    } in
    let x : Settling = record {
      before = past.primary.items;
      own = segments made.output;
      restarts = [];
      is_turn = true;
    } in
    settles a p released x l [] None (Made made.index) h (own_rests p x refl)
    (ap (λ (b : Bool). if b then past.secondary.items else made.run.items) (no_survivor past e) ∙ items)

survivor_said : (a : Start) (released : List Released) (past : Past) (l : Line) (made : TurnMade) →
    secondary_releases past ≡ true → made.run.items ≡ past.secondary.items ++ map sent (segments made.output) →
    AcksAreLast a released past.progress → EventSaid a released (turn_survivor past l made)
unfolding turn_survivor survivor_ended
survivor_said a released past l made e items h =
    let p : Past = record past {
      secondary = made.run;
      secondary_inbox = made.inbox;
      secondary_turned = raise_count past.secondary_turned;
    } in
    let x : Settling = record {
      before = past.secondary.items;
      own = segments made.output;
      restarts = [];
      is_turn = true;
    } in
    settles a p released x l [] None (Made made.index) h (own_rests p x refl)
    (ap (λ (b : Bool). if b then made.run.items else past.primary.items) e ∙ items)

secondary_said : (a : Start) (released : List Released) (past : Past) (l : Line) (made : TurnMade) →
    secondary_releases past ≡ false → AcksAreLast a released past.progress → Agreed past →
    EventSaid a released (turn_secondary past l made)
unfolding turn_secondary
secondary_said a released past l made e h agreed =
    silent_said a released _ past.progress refl refl h
    (λ calm. agrees_same past _ (primary_items past made.run.items e) refl refl refl (agreed calm))

-- WHAT THE PRIMARY HEARS
cleared_last : (t : Tuple) (table : ProgressTable) →
    (progress_of t (clear_ages table)).last ≡ (progress_of t table).last
cleared_last t [] = refl
cleared_last t (x ∷ table) = by (same_tuple x.0 t) (cleared_last t table)
  where
    found : ProgressTable → Option (Tuple × Progress)
    found xs = find (λ (y : Tuple × Progress). same_tuple y.0 t) xs

    value : Option (Tuple × Progress) → Progress
    value o = option_map_or (λ (y : Tuple × Progress). y.1) o no_progress

    by : (b : Bool) → (value (found (clear_ages table))).last ≡ (value (found table)).last →
        (value (if b then Some (x.0, record x.1 { age = 0 }) else found (clear_ages table))).last
        ≡ (value (if b then Some x else found table)).last
    by true more = refl
    by false more = more

quiet_said : (a : Start) (p : Past) (released : List Released) (x : Settling) (l : Line) (marks : List Mark)
    (delivered : Option Message) (answer : ℕ → Answer) → secondary_releases p ≡ false → x.own ≡ [] →
    x.before ≡ p.primary.items → Rests p x → AcksAreLast a released p.progress →
    EventSaid a released (outcome_with l marks delivered answer (settle_event p x))
quiet_said a p released x l marks delivered answer e none before rests h =
    settles a p released x l marks delivered answer h rests
    (ap (λ (b : Bool). if b then p.secondary.items else p.primary.items) e
    ∙ sym ((λ i. before i ++ map sent (none i)) ∙ append-nil p.primary.items))

primary_heard : (a : Start) (released : List Released) (past : Past) (m : Message) →
    secondary_releases past ≡ false → past.is_reported ≡ false → AcksAreLast a released past.progress → Agreed past →
    EventSaid a released (primary_hears past m)
unfolding known_ended sent_ended ack_ended
primary_heard a released past m e alone h agreed =
    heard_back_case (EventSaid a released) past m
    (λ t client number is.
    let p : Past = record past { numbers = learn_number past.numbers t client number } in
    quiet_said a p released (no_frames past.primary.items) ToPrimary [] (Some (Known t client number))
    (HeardBack 12 past.sent_heard) e refl refl (own_rests p (no_frames past.primary.items) refl) h)
    (λ frame is.
    let p : Past = record past {
      sent_heard = past.sent_heard + 1;
      known_items = past.known_items ++ map sent (segments (frame ∷ []));
    } in
    let x : Settling =
    record (no_frames past.primary.items) { restarts = restarts_in past.known_items (segments (frame ∷ [])) } in
    quiet_said a p released x ToPrimary [] (Some (Sent frame)) (HeardBack 13 (past.sent_heard + 1)) e refl refl
    (pair_rests p x alone) h)
    (λ n is.
    let p = acknowledge past in
    quiet_said a p released (no_frames (committed_items past)) ToPrimary (Acknowledged n ∷ []) (Some (Ack n))
    (HeardBack 14 0) e refl refl (own_rests p (no_frames (committed_items past)) refl)
    (last_alike a released past.progress (clear_ages past.progress) (λ t. cleared_last t past.progress) h))
    (λ foreign. silent_said a released _ past.progress refl refl h agreed)

-- WHAT THE SECONDARY HEARS
secondary_heard : (a : Start) (released : List Released) (past : Past) (m : Message) →
    secondary_releases past ≡ false → AcksAreLast a released past.progress → Agreed past →
    EventSaid a released (secondary_hears past m)
unfolding hear_frame
secondary_heard a released past m e h agreed =
    heard_case (EventSaid a released) past m
    (λ index seen trim frame is. silent_said a released _ past.progress refl refl h
    (λ calm. agrees_same past _ (primary_items past _ e) refl refl refl (agreed calm)))
    (λ t client number is. silent_said a released _ past.progress refl refl h
    (λ calm. agrees_same past _ refl refl refl refl (agreed calm)))
    (λ n is. silent_said a released _ past.progress refl refl h
    (λ calm. agrees_same past _ (primary_items past _ e) refl refl refl (agreed calm)))
    (λ apart. silent_said a released _ past.progress refl refl h agreed)

-- THE REPORT
primary_left : (a : Start) (released : List Released) (past : Past) → is_primary_stop past.stop ≡ false →
    AcksAreLast a released past.progress →
    EventSaid a released (outcome_with Report [] None Reported (primary_survives past))
unfolding primary_survives
primary_left a released past e h =
    quiet_said a (lose_links past) released (no_frames past.primary.items) Report [] None Reported
    (ap (λ (b : Bool). b && true) e) refl refl (own_rests (lose_links past) (no_frames past.primary.items) refl) h

secondary_left : (a : Start) (released : List Released) (past : Past) → is_primary_stop past.stop ≡ true →
    EventSaid a released (secondary_survives past)
unfolding secondary_survives
secondary_left a released past e =
    let items = past.secondary.items in
    let after = (secondary_survives past).after in
    let last = survive_last a released items past.secondary_numbers in
    let is : releasing_items after ≡ items =
    ap (λ (b : Bool). if b && true then past.secondary.items else past.primary.items) e in
    record {
      said = last.said;
      agreed = λ calm t o opened some.
          last.agreed t some
          ∙ ap Some ((λ i. window_at (sym is i) past.known_items true t) ∙ sym (window_is after t));
    }

-- A STOP comes before a report
stop_said : (a : Start) (released : List Released) (past : Past) (stop : Stop) (l : Line) (answer : Answer) →
    is_stopped past.stop ≡ false → (past.is_reported ≡ true → is_stopped past.stop ≡ true) →
    AcksAreLast a released past.progress → Agreed past →
    EventSaid a released (silently (record past { stop = stop }) l answer None)
stop_said a released past stop l answer running reported h agreed =
    let new : Past = record past { stop = stop } in
    let choose : Bool → List Item = λ b. if b then past.secondary.items else past.primary.items in
    let apart = or_parts (is_primary_stop past.stop) (is_secondary_stop past.stop) running in
    silent_said a released _ past.progress refl refl h
    (λ calm. agrees_same past new
    (ap choose (not_yet new (alone past.is_reported refl)) ∙ sym (ap choose (no_survivor past apart.0))) refl refl refl
    (agreed calm))
  where
    alone : (b : Bool) → past.is_reported ≡ b → past.is_reported ≡ false
    alone true e = absurd (true≢false (sym (reported e) ∙ running))
    alone false e = e

accepted_said : (a : Start) (released : List Released) (past : Past) (w : Waiting) (l : Line) (answer : Answer) →
    (is_primary_stop past.stop && not past.is_reported) ≡ false → AcksAreLast a released past.progress → Agreed past →
    EventSaid a released (silently (accept_by (is_primary_stop past.stop) past w (trims_by w)) l answer None)
unfolding accept_by
accepted_said a released past w l answer takes h agreed =
    silent_said a released _ past.progress refl (same (is_primary_stop past.stop)) h
    (λ calm. accepted_agrees past w takes (agreed (sym (awaits (is_primary_stop past.stop)) ∙ calm)))
  where
    same : (b : Bool) → (accept_by b past w (trims_by w)).progress ≡ past.progress
    same true = refl
    same false = refl

    awaits : (b : Bool) → (accept_by b past w (trims_by w)).awaits_ack ≡ past.awaits_ack
    awaits true = refl
    awaits false = refl

-- EVERY EVENT
pub each_said : (a : Start) →
    Cases a.kind a.stream (λ past x o. (released : List Released) →
    (past.is_reported ≡ true → is_stopped past.stop ≡ true) → Fits past x → AcksAreLast a released past.progress →
    (past.awaits_ack ≡ false → AgreesAfter past) → EventSaid a released o)
unfolding capture
each_said a = record {
  idle = λ past x e f released reported fits h agreed.
      silent_said a released _ past.progress refl refl h agreed;
  primary_turn = λ past d i b n e f released reported fits h agreed.
      primary_said a released past (Primary d i b n)
      (turn_from a.kind past.primary past.primary_inbox i (numbers_of d b n)) e
      (turn_items a.kind past.primary past.primary_inbox i (numbers_of d b n)) h;
  secondary_turn = λ past d i b n e f released reported fits h agreed.
      secondary_said a released past (Secondary d i b n)
      (turn_from a.kind past.secondary past.secondary_inbox i (numbers_of d b n)) f h agreed;
  survivor_turn = λ past d i b n e released reported fits h agreed.
      survivor_said a released past (Secondary d i b n)
      (turn_from a.kind past.secondary past.secondary_inbox i (numbers_of d b n)) e
      (turn_items a.kind past.secondary past.secondary_inbox i (numbers_of d b n)) h;
  accepts = λ past frame kept t e f released reported fits h agreed.
      accepted_said a released past (waiting_of past (look_at past (tcp_in kept)) kept) _ _ t.1 h agreed;
  is_full = λ past frame kept t e f released reported fits h agreed.
      silent_said a released _ past.progress refl refl h
      (λ calm. agrees_same past _ refl refl refl refl (agreed calm));
  answers = λ past frame b t e released reported fits h agreed.
      reply_said a released _ b past.progress refl refl h
      (λ calm. agrees_same past _ refl refl refl refl (agreed calm));
  drops = λ past frame why t e released reported fits h agreed.
      silent_said a released _ past.progress refl refl h
      (λ calm. agrees_same past _ refl refl refl refl (agreed calm));
  loses = λ past frame t e f released reported fits h agreed.
      silent_said a released _ past.progress refl refl h
      (λ calm. agrees_same past _ refl refl refl refl (agreed calm));
  secondary_hears = λ past m ms e f g released reported fits h agreed.
      secondary_heard a released (record past { to_secondary = ms }) m (not_yet past g) h
      (λ calm. agrees_same past (record past { to_secondary = ms }) refl refl refl refl (agreed calm));
  ignores = λ past m ms e f g running alone released reported fits h agreed.
      silent_said a released _ past.progress refl refl h (λ calm. absurd (true≢false (sym g ∙ calm)));
  primary_hears = λ past m ms e f running alone released reported fits h agreed.
      primary_heard a released (record past { to_primary = ms }) m (no_survivor past running) alone h
      (λ calm. agrees_same past (record past { to_primary = ms }) refl refl refl refl (agreed calm));
  primary_stops = λ past released reported fits h agreed.
      stop_said a released past primary_stop _ _ (fits.stop refl) reported h agreed;
  secondary_stops = λ past released reported fits h agreed.
      stop_said a released past secondary_stop _ _ (fits.stop refl) reported h agreed;
  secondary_left = λ past e released reported fits h agreed. secondary_left a released past e;
  primary_left = λ past e released reported fits h agreed. primary_left a released past e h;
  asks = λ past e f g released reported fits h agreed.
      silent_said a released _ past.progress refl refl h (λ calm. absurd (true≢false calm));
}
