-- Until a survivor releases, each SYN that an event releases has the number that is kept, at the event's end, for the
-- client of the primary's current opening.
use Rattle.std.proofs.Common.{◌≡◌, ℕ, ◌+◌, Bool, true, false, ◌&&◌, if◌then◌else◌, is_some, List, [], ◌∷◌, ◌++◌, append-nil, map, fold, Option, None, Some, refl, sym, ap, subst, ◌∙◌, All, true≢false}
use Rattle.std.specs.Option.{option_map}
use Rattle.std.proofs.lemmas.List.Elements.{All-nil}
use Rattle.inet_frame.specs.Laws.{AreInRange}
use Rattle.inet_frame.specs.declared.tuple.Tuple.{Tuple}
use Rattle.tcp_track.specs.Lines.{Item, line, order, sent}
use Rattle.tcp_track.specs.Stands.{segments}
use Rattle.tcp_track.specs.declared.openings.Opening.{Opening}
use Rattle.settle_rules.specs.Numbers.{KeptNumber, kept_number, learn_number, number_or_zero, thin}
use Rattle.settle_rules.specs.OwnFrames.{no_own_frames, own_frames}
use Rattle.settle_rules.specs.Progress.{progress_of}
use Rattle.settle_rules.specs.Release.{Released}
use Rattle.settle_rules.specs.Settle.{Scene, Settlement, both_lines, is_restarted, settle, settle_or_rest, settle_tuple}
use Rattle.state_wire.specs.Regular.{IsRegular}
use Rattle.colo_wire.specs.declared.messages.Message.{Message}
use Rattle.colo_wire.specs.declared.messages.Message.TheVariants.{Known, Sent, Ack}
use Rattle.replay_log.specs.declared.lines.Line.{Line}
use Rattle.replay_log.specs.declared.lines.Line.TheVariants.{Primary, Secondary, ToPrimary, Report}
use Rattle.replay_log.specs.declared.records.Answer.{Answer}
use Rattle.replay_log.specs.declared.records.Answer.TheVariants.{Made, HeardBack, Reported}
use Rattle.replay_log.specs.declared.records.Mark.{Mark}
use Rattle.replay_log.specs.declared.records.Mark.TheVariants.{Acknowledged}
use Rattle.pair_theorem.specs.Checkpoint.{capture}
use Rattle.pair_theorem.specs.Events.{Settling, ack_ended, acknowledge, committed_items, ended_by, hear_frame, known_ended, lose_links, no_frames, numbers_of, outcome_of, outcome_with, primary_ended, primary_hears, primary_survives, raise_count, restarts_in, scene_of, secondary_hears, secondary_survives, sent_ended, settle_event, survivor_ended, turn_primary, turn_secondary, turn_survivor}
use Rattle.pair_theorem.specs.GuestTurns.{TurnMade, turn_from}
use Rattle.pair_theorem.specs.Past.{Outcome, Past, Start, Step, is_primary_stop, releasing_items, secondary_releases}
use Rattle.pair_theorem.specs.Places.{current_client, places_after}
use Rattle.pair_theorem.specs.Starts.{IsStart}
use Rattle.pair_theorem.proofs.EachHistory.{Fits, Reached, released_by}
use Rattle.pair_theorem.proofs.EventCases.{Cases, each_case, settled_case}
use Rattle.pair_theorem.proofs.MessageCases.{heard_back_case, heard_case}
use Rattle.theorem_frames.proofs.BytesLemmas.{NumberFits, all_learnt_fit, learnt_fit, own_numbers_fit, turn_of_bytes}
use Rattle.theorem_frames.proofs.LineLemmas.{lines_are_sound_lem}
use Rattle.theorem_frames.proofs.ShapeLemmas.{IsOfBytes, bytes_of_start}
use Rattle.theorem_frames.proofs.ShownLemmas.{bytes_reached}
use Rattle.theorem_stands.specs.Numbered.{AreNumbered, NumbersAreKept}
use Rattle.theorem_stands.proofs.KeptLemmas.{KeepsAlike, kept_thinned}
use Rattle.theorem_stands.proofs.NumberedEvents.{acknowledged_numbered, learnt_numbered, no_survivor, numbers_reached, turn_items, when_primary}
use Rattle.theorem_stands.proofs.NumberedLemmas.{all_own_numbered, known_by, own_items}
use Rattle.theorem_symbols.proofs.ReleaseEvents.{clients_are}
use Rattle.theorem_prompt.proofs.AckLemmas.{one_last}
use Rattle.theorem_numbers.proofs.SynLemmas.{HasNumber, KeepsCurrent, SynIsKept, all_kept, has_number, kept_append}

-- WHAT A SETTLING STANDS ON: numbers that fit, the current clients of the past after it, a number for each of them, and
-- the same in the numbers that are kept then
record Grounds (past : Past) (numbers : List KeptNumber) (scene : Scene) : Type 0 where
  fit : All NumberFits scene.numbers
  now : (t : Tuple) → current_client past t ≡ option_map (λ (o : Opening). o.client) (line t scene.mine).opening
  known : (t : Tuple) (o : Opening) → (line t scene.mine).opening ≡ Some o →
      is_some (kept_number t o.client scene.numbers) ≡ true
  kept : (t : Tuple) (o : Opening) → (line t scene.mine).opening ≡ Some o →
      KeepsAlike scene.numbers numbers t o.client

current_kept : (past : Past) (numbers : List KeptNumber) (scene : Scene) (u : Tuple) → Grounds past numbers scene →
    KeepsCurrent past numbers (both_lines scene u)
unfolding both_lines
current_kept past numbers scene u g client e = by (line u scene.mine).opening refl (sym (g.now u) ∙ e)
  where
    same : (m n : ℕ) → Some m ≡ Some n → m ≡ n
    same m n f = cc

    by : (o : Option Opening) → (line u scene.mine).opening ≡ o →
        option_map (λ (q : Opening). q.client) o ≡ Some client →
        HasNumber numbers u client (both_lines scene u).number
    by None f k = absurd (cc k)
    by (Some o) f k =
        let alike = g.kept u o f in
        subst (λ (c : ℕ). HasNumber numbers u c (both_lines scene u).number) (same o.client client k)
        (has_number numbers u o.client (both_lines scene u).number (alike.some ∙ g.known u o f)
        (alike.number ∙ (known_by scene u g.fit).number o f))

settle_syns : (a : Start) (past : Past) (released : List Released) (numbers : List KeptNumber) (scene : Scene)
    (so_far : Settlement) (tuples : List Tuple) → Grounds past numbers scene →
    All (SynIsKept numbers) (places_after a past released so_far.out) →
    All (SynIsKept numbers) (places_after a past released (fold (settle_tuple scene) so_far tuples).out)
unfolding settle_tuple both_lines
settle_syns a past released numbers scene so_far [] g h = h
settle_syns a past released numbers scene so_far (u ∷ tuples) g h =
    let b = both_lines scene u in
    let p = progress_of u so_far.progress in
    let restarted = is_restarted scene u in
    let one = settle_or_rest restarted b p scene.is_turn scene.tooks in
    let last = one_last b p restarted scene.is_turn scene.tooks (lines_are_sound_lem scene.mine u) in
    settle_syns a past released numbers scene (settle_tuple scene so_far u) tuples g
    (kept_append a past numbers released so_far.out one.out h
    (all_kept a past (released ++ so_far.out) numbers b one.out (known_by scene u g.fit).small
    (current_kept past numbers scene u g) last.kinds))

-- AN EVENT
abbrev pub SynsKept : Start → List Released → Outcome → Type 0
SynsKept a released o = All (SynIsKept o.after.numbers) (places_after a o.after released o.step.released)

pub settles : (a : Start) (past : Past) (released : List Released) (numbers : List KeptNumber) (x : Settling)
    (after : Past) → All NumberFits past.numbers → All AreInRange x.own →
    AreNumbered x.before past.numbers past.progress → releasing_items after ≡ x.before ++ map sent x.own →
    ((t : Tuple) (o : Opening) → (line t (releasing_items after)).opening ≡ Some o →
    KeepsAlike (settle_event past x).after.numbers numbers t o.client) →
    All (SynIsKept numbers) (places_after a after released (settle_event past x).out)
unfolding settle_event ended_by own_frames settle places_after
settles a past released numbers x after fit own numbered items kept =
    let begin = no_own_frames x.before past.numbers past.progress in
    let frames = own_frames x.before past.numbers past.progress x.own in
    let scene = scene_of past frames x in
    let same : releasing_items after ≡ frames.items = items ∙ sym (own_items begin x.own) in
    let fits = own_numbers_fit begin x.own (record { all = fit; new = All-nil NumberFits }) own in
    settle_syns a after released numbers scene (record { progress = frames.progress; out = [] }) (order frames.items)
    (record {
      fit = fits.all;
      now = clients_are after frames.items same;
      known = λ t o e. (all_own_numbered begin x.own numbered t).kept o e;
      kept = λ t o e. kept t o (ap (λ (xs : List Item). (line t xs).opening) same ∙ e);
    }) (All-nil (SynIsKept numbers))

pub same_kept : (numbers : List KeptNumber) (t : Tuple) (c : ℕ) → KeepsAlike numbers numbers t c
same_kept numbers t c = record { some = refl; number = refl }

primary_settles : (a : Start) (p : Past) (released : List Released) (x : Settling) (l : Line) (marks : List Mark)
    (delivered : Option Message) (answer : ℕ → Answer) → secondary_releases p ≡ false →
    p.primary.items ≡ x.before ++ map sent x.own → All NumberFits p.numbers → All AreInRange x.own →
    AreNumbered x.before p.numbers p.progress →
    SynsKept a released (outcome_with l marks delivered answer (settle_event p x))
unfolding settle_event ended_by capture
primary_settles a p released x l marks delivered answer e items fit own numbered =
    let after = (settle_event p x).after in
    let is : releasing_items p ≡ x.before ++ map sent x.own =
    ap (λ (b : Bool). if b then p.secondary.items else p.primary.items) e ∙ items in
    let thinned = thin p.primary.items after.numbers in
    settled_case (SynsKept a released) l marks delivered answer (settle_event p x)
    (λ none. settles a p released after.numbers x after fit own numbered is
    (λ t o f. same_kept after.numbers t o.client))
    (λ why some. settles a p released thinned x (capture after) fit own numbered is
    (λ t o f.
    let found =
    kept_thinned p.primary.items t o after.numbers
    (sym (ap (λ (b : Bool). (line t (if b then p.secondary.items else p.primary.items)).opening) e) ∙ f) in
    record { some = ap is_some found; number = ap number_or_zero found }))

-- WHICH EVENTS SETTLE
mine_numbered : (past : Past) → secondary_releases past ≡ false → NumbersAreKept past →
    AreNumbered past.primary.items past.numbers past.progress
mine_numbered past e h =
    when_primary (secondary_releases past) past.secondary.items past.primary.items past.numbers past.progress e h

primary_turned : (a : Start) (released : List Released) (past : Past) (l : Line) (made : TurnMade) →
    is_primary_stop past.stop ≡ false → All NumberFits past.numbers → All AreInRange (segments made.output) →
    made.run.items ≡ past.primary.items ++ map sent (segments made.output) → NumbersAreKept past →
    SynsKept a released (turn_primary past l made)
unfolding turn_primary primary_ended
primary_turned a released past l made e fit own items kept =
    primary_settles a (record past {
      primary = made.run;
      primary_inbox = made.inbox;
      primary_turned = raise_count past.primary_turned;
    }) released (record {
      before = past.primary.items;
      own = segments made.output;
      restarts = [];
      is_turn = true;
    }) l [] None (Made made.index) (no_survivor past e) items fit own (mine_numbered past (no_survivor past e) kept)

quiet_settles : (a : Start) (p : Past) (released : List Released) (x : Settling) (l : Line) (marks : List Mark)
    (delivered : Option Message) (answer : ℕ → Answer) → secondary_releases p ≡ false → x.own ≡ [] →
    x.before ≡ p.primary.items → All NumberFits p.numbers → AreNumbered p.primary.items p.numbers p.progress →
    SynsKept a released (outcome_with l marks delivered answer (settle_event p x))
quiet_settles a p released x l marks delivered answer e none before fit numbered =
    primary_settles a p released x l marks delivered answer e
    (sym ((λ i. before i ++ map sent (none i)) ∙ append-nil p.primary.items)) fit
    (subst (All AreInRange) (sym none) (All-nil AreInRange))
    (subst (λ (xs : List Item). AreNumbered xs p.numbers p.progress) (sym before) numbered)

primary_heard : (a : Start) (released : List Released) (past : Past) (m : Message) →
    secondary_releases past ≡ false → All NumberFits past.numbers → NumbersAreKept past →
    SynsKept a released (primary_hears past m)
unfolding known_ended sent_ended ack_ended places_after
primary_heard a released past m e fit kept =
    let mine = mine_numbered past e kept in
    heard_back_case (SynsKept a released) past m
    (λ t client number is.
    quiet_settles a (record past { numbers = learn_number past.numbers t client number }) released
    (no_frames past.primary.items) ToPrimary [] (Some (Known t client number)) (HeardBack 12 past.sent_heard) e refl
    refl (learnt_fit t client number past.numbers fit) (learnt_numbered past t client number mine))
    (λ frame is.
    quiet_settles a (record past {
      sent_heard = past.sent_heard + 1;
      known_items = past.known_items ++ map sent (segments (frame ∷ []));
    }) released
    (record (no_frames past.primary.items) { restarts = restarts_in past.known_items (segments (frame ∷ [])) })
    ToPrimary [] (Some (Sent frame)) (HeardBack 13 (past.sent_heard + 1)) e refl refl fit mine)
    (λ n is.
    quiet_settles a (acknowledge past) released (no_frames (committed_items past)) ToPrimary (Acknowledged n ∷ [])
    (Some (Ack n)) (HeardBack 14 0) e refl refl (all_learnt_fit past.numbers fit) (acknowledged_numbered past mine))
    (λ foreign. All-nil (SynIsKept past.numbers))

told_kept : (a : Start) (released : List Released) (past : Past) (m : Message) →
    SynsKept a released (secondary_hears past m)
unfolding hear_frame places_after
told_kept a released past m =
    heard_case (SynsKept a released) past m (λ index seen trim frame is. All-nil (SynIsKept past.numbers))
    (λ t client number is. All-nil (SynIsKept past.numbers)) (λ n is. All-nil (SynIsKept past.numbers))
    (λ apart. All-nil (SynIsKept past.numbers))

left_kept : (a : Start) (released : List Released) (past : Past) → is_primary_stop past.stop ≡ false →
    All NumberFits past.numbers → NumbersAreKept past →
    SynsKept a released (outcome_with Report [] None Reported (primary_survives past))
unfolding primary_survives
left_kept a released past e fit kept =
    quiet_settles a (lose_links past) released (no_frames past.primary.items) Report [] None Reported
    (ap (λ (b : Bool). b && true) e) refl refl fit (mine_numbered past (no_survivor past e) kept)

survived_kept : (a : Start) (released : List Released) (past : Past) → is_primary_stop past.stop ≡ true →
    secondary_releases (secondary_survives past).after ≡ false → SynsKept a released (secondary_survives past)
unfolding secondary_survives
survived_kept a released past e f = absurd (true≢false (sym (ap (λ (b : Bool). b && true) e) ∙ f))

survivor_kept : (a : Start) (released : List Released) (past : Past) (l : Line) (made : TurnMade) →
    secondary_releases past ≡ true → secondary_releases (turn_survivor past l made).after ≡ false →
    SynsKept a released (turn_survivor past l made)
unfolding turn_survivor survivor_ended settle_event ended_by capture
survivor_kept a released past l made e =
    settled_case (λ o. secondary_releases o.after ≡ false → SynsKept a released o) l [] None (Made made.index)
    (survivor_ended past made) (λ none f. absurd (true≢false (sym e ∙ f)))
    (λ why some f. absurd (true≢false (sym e ∙ f)))

-- EVERY EVENT
each_kept : (a : Start) → IsRegular a.kind →
    Cases a.kind a.stream (λ past x o. (released : List Released) → IsOfBytes a.kind past → NumbersAreKept past →
    secondary_releases o.after ≡ false → SynsKept a released o)
unfolding turn_secondary capture places_after
each_kept a regular = record {
  idle = λ past x e f released bytes kept primary. All-nil (SynIsKept past.numbers);
  primary_turn = λ past d i b n e f released bytes kept primary.
      let made = turn_from a.kind past.primary past.primary_inbox i (numbers_of d b n) in
      primary_turned a released past (Primary d i b n) made e bytes.numbers
      (turn_of_bytes a.kind past.primary past.primary_inbox i (numbers_of d b n) regular bytes.primary).own
      (turn_items a.kind past.primary past.primary_inbox i (numbers_of d b n)) kept;
  secondary_turn = λ past d i b n e f released bytes kept primary. All-nil (SynIsKept past.numbers);
  survivor_turn = λ past d i b n e released bytes kept primary.
      survivor_kept a released past (Secondary d i b n)
      (turn_from a.kind past.secondary past.secondary_inbox i (numbers_of d b n)) e primary;
  accepts = λ past frame kept t e f released bytes numbered primary. All-nil _;
  is_full = λ past frame kept t e f released bytes numbered primary. All-nil (SynIsKept past.numbers);
  answers = λ past frame b t e released bytes numbered primary. All-nil (SynIsKept past.numbers);
  drops = λ past frame why t e released bytes numbered primary. All-nil (SynIsKept past.numbers);
  loses = λ past frame t e f released bytes numbered primary. All-nil (SynIsKept past.numbers);
  secondary_hears = λ past m ms e f g released bytes kept primary.
      told_kept a released (record past { to_secondary = ms }) m;
  ignores = λ past m ms e f g running alone released bytes kept primary. All-nil (SynIsKept past.numbers);
  primary_hears = λ past m ms e f running alone released bytes kept primary.
      primary_heard a released (record past { to_primary = ms }) m (no_survivor past running) bytes.numbers kept;
  primary_stops = λ past released bytes kept primary. All-nil (SynIsKept past.numbers);
  secondary_stops = λ past released bytes kept primary. All-nil (SynIsKept past.numbers);
  secondary_left = λ past e released bytes kept primary. survived_kept a released past e primary;
  primary_left = λ past e released bytes kept primary. left_kept a released past e bytes.numbers kept;
  asks = λ past e f g released bytes kept primary. All-nil _;
}

pub syns_reached : (a : Start) → IsStart a → (steps : List Step) (past : Past) (x : Line) → Reached Fits a steps past →
    secondary_releases (outcome_of a.kind a.stream past x).after ≡ false →
    SynsKept a (released_by steps) (outcome_of a.kind a.stream past x)
syns_reached a start steps past x r =
    let bytes = bytes_of_start a start in
    each_case a.kind a.stream (λ (p : Past) (l : Line) (o : Outcome). (released : List Released) →
    IsOfBytes a.kind p → NumbersAreKept p → secondary_releases o.after ≡ false → SynsKept a released o)
    (each_kept a bytes.regular) past x (released_by steps)
    (bytes_reached Fits a bytes.regular bytes.stream bytes.first steps past r) (numbers_reached a start steps past r)
