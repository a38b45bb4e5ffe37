-- Every event of every log releases the symbols that both nodes agree on.
use Rattle.std.proofs.Common.{◌+◌, ℕ, true, List, [], ◌∷◌, ◌++◌, map, Option, None, Some, All}
use Rattle.std.specs.Prelude.{IsTrue}
use Rattle.std.proofs.lemmas.List.Elements.{All-nil, All-weaker}
use Rattle.inet_frame.specs.Laws.{AreInRange}
use Rattle.shared_definitions.specs.Bytes.{AreBytes}
use Rattle.tcp_track.specs.Lines as lines
use Rattle.tcp_track.specs.Stands.{segments}
use Rattle.settle_rules.specs.Numbers.{learn_number}
use Rattle.settle_rules.specs.OwnFrames.{no_own_frames, own_frames}
use Rattle.settle_rules.specs.Release.{Released}
use Rattle.state_wire.specs.Guest.{Kind}
use Rattle.state_wire.specs.Regular.{IsRegular}
use Rattle.replay_log.specs.declared.lines.Line.{Line}
use Rattle.replay_log.specs.declared.lines.Line.TheVariants.{Primary, Secondary, ToPrimary, Report}
use Rattle.replay_log.specs.declared.records.Answer.{Answer}
use Rattle.replay_log.specs.declared.records.Answer.TheVariants.{Made, HeardBack, Reported}
use Rattle.replay_log.specs.declared.records.Mark.{Mark}
use Rattle.replay_log.specs.declared.records.Mark.TheVariants.{Acknowledged}
use Rattle.colo_wire.specs.declared.messages.Message.{Message}
use Rattle.colo_wire.specs.declared.messages.Message.TheVariants.{Known, Sent, Ack}
use Rattle.pair_theorem.specs.Events.{Ended, Settling, ack_ended, acknowledge, committed_items, ended_by, known_ended, lose_links, no_frames, numbers_of, outcome_of, outcome_with, primary_ended, primary_hears, primary_survives, raise_count, restarts_in, scene_of, secondary_hears, secondary_survives, sent_ended, settle_event, survivor_ended, turn_primary, turn_secondary, turn_survivor}
use Rattle.pair_theorem.specs.FrameParts.{ReleasesAgreed, is_released}
use Rattle.pair_theorem.specs.GuestTurns.{TurnMade, turn_from}
use Rattle.pair_theorem.specs.History.{pair_log, past_from}
use Rattle.pair_theorem.specs.Past.{Agreed, Outcome, Past, Start, Step, first_past}
use Rattle.pair_theorem.proofs.EachHistory.{Any, Reached, begins, goes, reached_any}
use Rattle.pair_theorem.proofs.EventCases.{Cases, each_case, settled_case}
use Rattle.pair_theorem.proofs.MessageCases.{heard_back_case, heard_case}
use Rattle.theorem_frames.specs.Prompt.{SymbolsOfEachLog}
use Rattle.theorem_frames.proofs.BytesLemmas.{IsTurnOfBytes, NumberFits, all_learnt_fit, learnt_fit, own_numbers_fit, turn_of_bytes}
use Rattle.theorem_frames.proofs.EachEvent.{each_event}
use Rattle.theorem_frames.proofs.PromptLemmas.{Shows, settle_shows, shows_test, survivors_show}
use Rattle.theorem_frames.proofs.ShapeLemmas.{IsOfBytes, IsStepOfBytes, bytes_last, bytes_of_start}

-- what an outcome is to release is in what it releases
OutcomeShows : Outcome → Type 0
OutcomeShows o = All (Shows o.step.released) o.agreed

nothing_shown : (out : List Released) → All (Shows out) []
nothing_shown out = All-nil (Shows out)

-- AN EVENT THAT SETTLES
settled_shown : (past : Past) (x : Settling) → All NumberFits past.numbers → All AreInRange x.own →
    All (Shows (settle_event past x).out) (settle_event past x).agreed
unfolding settle_event ended_by own_frames
settled_shown past x h own =
    let frames = own_frames x.before past.numbers past.progress x.own in
    let fit =
    own_numbers_fit (no_own_frames x.before past.numbers past.progress) x.own
    (record { all = h; new = All-nil NumberFits }) own in
    settle_shows (scene_of past frames x) frames.progress fit.all

caused_shown : (x : Line) (marks : List Mark) (delivered : Option Message) (answer : ℕ → Answer) (e : Ended) →
    All (Shows e.out) e.agreed → OutcomeShows (outcome_with x marks delivered answer e)
unfolding OutcomeShows
caused_shown x marks delivered answer e h = settled_case OutcomeShows x marks delivered answer e (λ f. h) (λ why f. h)

primary_shown : (kind : Kind) (past : Past) (x : Line) (made : TurnMade) → IsOfBytes kind past →
    IsTurnOfBytes kind made → OutcomeShows (turn_primary past x made)
unfolding turn_primary primary_ended
primary_shown kind past x made h g =
    caused_shown x [] None (Made made.index) (primary_ended past made)
    (settled_shown (record past {
      primary = made.run;
      primary_inbox = made.inbox;
      primary_turned = raise_count past.primary_turned;
    }) (record {
      before = past.primary.items;
      own = segments made.output;
      restarts = [];
      is_turn = true;
    }) h.numbers g.own)

survivor_shown : (kind : Kind) (past : Past) (x : Line) (made : TurnMade) → IsOfBytes kind past →
    IsTurnOfBytes kind made → OutcomeShows (turn_survivor past x made)
unfolding turn_survivor survivor_ended
survivor_shown kind past x made h g =
    caused_shown x [] None (Made made.index) (survivor_ended past made)
    (settled_shown (record past {
      secondary = made.run;
      secondary_inbox = made.inbox;
      secondary_turned = raise_count past.secondary_turned;
    }) (record {
      before = past.secondary.items;
      own = segments made.output;
      restarts = [];
      is_turn = true;
    }) h.numbers g.own)

secondary_shown : (past : Past) (x : Line) (made : TurnMade) → OutcomeShows (turn_secondary past x made)
unfolding turn_secondary OutcomeShows
secondary_shown past x made = nothing_shown []

told_shown : (past : Past) (m : Message) → OutcomeShows (secondary_hears past m)
unfolding OutcomeShows
told_shown past m =
    heard_case OutcomeShows past m (λ index seen trim frame e. nothing_shown [])
    (λ t client number e. nothing_shown []) (λ n e. nothing_shown []) (λ kept. nothing_shown [])

heard_shown : (past : Past) (m : Message) → All NumberFits past.numbers → OutcomeShows (primary_hears past m)
unfolding OutcomeShows known_ended sent_ended ack_ended
heard_shown past m h =
    heard_back_case OutcomeShows past m
    (λ t client number e.
    caused_shown ToPrimary [] (Some (Known t client number)) (HeardBack 12 past.sent_heard)
    (known_ended past t client number)
    (settled_shown (record past { numbers = learn_number past.numbers t client number }) (no_frames past.primary.items)
    (learnt_fit t client number past.numbers h) (All-nil AreInRange)))
    (λ frame e.
    caused_shown ToPrimary [] (Some (Sent frame)) (HeardBack 13 (past.sent_heard + 1)) (sent_ended past frame)
    (settled_shown (record past {
      sent_heard = past.sent_heard + 1;
      known_items = past.known_items ++ map lines.sent (segments (frame ∷ []));
    }) (record (no_frames past.primary.items) {
      restarts = restarts_in past.known_items (segments (frame ∷ []));
    }) h (All-nil AreInRange)))
    (λ n e.
    caused_shown ToPrimary (Acknowledged n ∷ []) (Some (Ack n)) (HeardBack 14 0) (ack_ended past)
    (settled_shown (acknowledge past) (no_frames (committed_items past)) (all_learnt_fit past.numbers h)
    (All-nil AreInRange)))
    (λ foreign. nothing_shown [])

survival_shown : (kind : Kind) (past : Past) → IsOfBytes kind past → OutcomeShows (secondary_survives past)
unfolding secondary_survives OutcomeShows
survival_shown kind past h = survivors_show past.secondary.items past.secondary_numbers h.secondary.items h.told

left_shown : (past : Past) → All NumberFits past.numbers →
    OutcomeShows (outcome_with Report [] None Reported (primary_survives past))
unfolding primary_survives
left_shown past h =
    caused_shown Report [] None Reported (primary_survives past)
    (settled_shown (lose_links past) (no_frames past.primary.items) h (All-nil AreInRange))

-- EVERY EVENT
all_shown : (a : Start) → IsRegular a.kind →
    Cases a.kind a.stream (λ past x o. IsOfBytes a.kind past → OutcomeShows o)
unfolding OutcomeShows
all_shown a regular = record {
  idle = λ past x e f h. nothing_shown [];
  primary_turn = λ past d i b n e f h. primary_shown a.kind past (Primary d i b n)
      (turn_from a.kind past.primary past.primary_inbox i (numbers_of d b n)) h
      (turn_of_bytes a.kind past.primary past.primary_inbox i (numbers_of d b n) regular h.primary);
  secondary_turn = λ past d i b n e f h. secondary_shown past (Secondary d i b n)
      (turn_from a.kind past.secondary past.secondary_inbox i (numbers_of d b n));
  survivor_turn = λ past d i b n e h. survivor_shown a.kind past (Secondary d i b n)
      (turn_from a.kind past.secondary past.secondary_inbox i (numbers_of d b n)) h
      (turn_of_bytes a.kind past.secondary past.secondary_inbox i (numbers_of d b n) regular h.secondary);
  accepts = λ past frame kept t e f h. nothing_shown [];
  is_full = λ past frame kept t e f h. nothing_shown [];
  answers = λ past frame b t e h. nothing_shown _;
  drops = λ past frame why t e h. nothing_shown [];
  loses = λ past frame t e f h. nothing_shown [];
  secondary_hears = λ past m ms e f g h. told_shown (record past { to_secondary = ms }) m;
  ignores = λ past m ms e f g running alone h. nothing_shown [];
  primary_hears = λ past m ms e f running alone h. heard_shown (record past { to_primary = ms }) m h.numbers;
  primary_stops = λ past h. nothing_shown [];
  secondary_stops = λ past h. nothing_shown [];
  secondary_left = λ past e h. survival_shown a.kind past h;
  primary_left = λ past e h. left_shown past h.numbers;
  asks = λ past e f g h. nothing_shown [];
}

-- both nodes hold bytes throughout
pub bytes_reached : (F : Past → Line → Type 0) (a : Start) → IsRegular a.kind → All AreBytes a.stream →
    IsOfBytes a.kind (first_past a) → (steps : List Step) (past : Past) → Reached F a steps past →
    IsOfBytes a.kind past
bytes_reached F a regular stream first steps past begins = first
bytes_reached F a regular stream first steps past (goes before old x h fits) =
    (each_case a.kind a.stream (λ (p : Past) (l : Line) (o : Outcome). IsOfBytes a.kind p → IsStepOfBytes a o)
    (bytes_last a regular stream) old x (bytes_reached F a regular stream first before old h)).after

pub symbols_of_each_log : SymbolsOfEachLog
unfolding OutcomeShows
symbols_of_each_log a schedule start =
    let bytes = bytes_of_start a start in
    each_event Any a ReleasesAgreed
    (λ steps past x h f.
    let o = outcome_of a.kind a.stream past x in
    All-weaker (Shows o.step.released) (λ (g : Agreed). IsTrue (is_released o.step.released g))
    (shows_test o.step.released) o.agreed
    (each_case a.kind a.stream (λ (p : Past) (l : Line) (q : Outcome). IsOfBytes a.kind p → OutcomeShows q)
    (all_shown a bytes.regular) past x
    (bytes_reached Any a bytes.regular bytes.stream bytes.first steps past h)))
    (pair_log a schedule) (past_from a.kind a.stream (first_past a) schedule) (reached_any a schedule)
