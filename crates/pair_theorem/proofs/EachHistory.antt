-- The principle for what holds of a log and of the past after it: it is shown of the start, and of each event by cases.
use Rattle.std.proofs.Common.{◌≡◌, ℕ, ◌+◌, Bool, true, false, not, ◌&&◌, ◌||◌, List, [], ◌∷◌, ◌++◌, append-nil, append_assoc, Option, None, Some, refl, sym, ap, subst, ◌∙◌, true≢false}
use Rattle.std.proofs.Math.Bool.{or-false, or-true}
use Rattle.std.proofs.lemmas.Bool.{and_parts, not-true}
use Rattle.std.proofs.lemmas.List.Elements.{All-append, All-cons, All-nil}
use Rattle.std.specs.Prelude.{All, IsTrue, ⊤}
use Rattle.std.specs.List.{flat_map}
use Rattle.settle_rules.specs.Release.{Released}
use Rattle.state_wire.specs.Guest.{Kind}
use Rattle.replay_log.specs.declared.lines.Line.{Line}
use Rattle.inet_frame.specs.Counted.{tcp_in}
use Rattle.frame_mirror.specs.declared.ring.Waiting.{Waiting}
use Rattle.colo_wire.specs.declared.messages.Message.{Message}
use Rattle.colo_wire.specs.declared.messages.Message.TheVariants.{Known, Sent, Ack}
use Rattle.replay_log.specs.declared.lines.Line.TheVariants.{Primary, Secondary, Client, ToSecondary, ToPrimary, Report, Ask}
use Rattle.replay_log.specs.declared.records.Answer.{Answer}
use Rattle.replay_log.specs.declared.records.Answer.TheVariants.{Made, HeardBack, Reported}
use Rattle.replay_log.specs.declared.records.Mark.{Mark}
use Rattle.replay_log.specs.declared.records.Mark.TheVariants.{Acknowledged}
use Rattle.pair_theorem.specs.Checkpoint.{capture}
use Rattle.pair_theorem.specs.ClientFrames.{trims_by}
use Rattle.pair_theorem.specs.Events.{Ended, accept_by, ack_ended, ended_by, hear_end, hear_frame, hear_number, known_ended, look_at, numbers_of, outcome_of, outcome_with, passed_frame, primary_ended, primary_hears, primary_survives, secondary_hears, secondary_survives, sent_ended, settle_event, survivor_ended, turn_primary, turn_secondary, turn_survivor, waiting_of}
use Rattle.pair_theorem.specs.GuestTurns.{TurnMade, turn_from}
use Rattle.pair_theorem.specs.Messages.{waiting_in}
use Rattle.pair_theorem.specs.History.{lines_of, pair_log, past_at, past_from, steps_from}
use Rattle.pair_theorem.specs.Log.{HasOneStop, is_report, is_stop, stops_fit}
use Rattle.pair_theorem.specs.Past.{Past, Start, Step, Stop, first_past, is_primary_stop, is_secondary_stop}
use Rattle.pair_theorem.specs.Places.{Event, events, events_from}
use Rattle.pair_theorem.proofs.EachLog.{past_is}
use Rattle.pair_theorem.proofs.EventCases.{Cases, Claim, asked_outcome, each_case, settled_case}
use Rattle.pair_theorem.proofs.EventFacts.{event_facts}
use Rattle.pair_theorem.proofs.HistoryLemmas.{pair_log-append, past_from-append}
use Rattle.pair_theorem.proofs.MessageCases.{heard_back_case, heard_case}

abbrev pub is_stopped : Stop → Bool
is_stopped stop = is_primary_stop stop || is_secondary_stop stop

-- a line that a schedule with at most one stop may go on with
pub record Fits (past : Past) (x : Line) : Type 0 where
  pub stop : is_stop x ≡ true → is_stopped past.stop ≡ false
  pub stopped : is_report x ≡ true → is_stopped past.stop ≡ true
  pub report : is_report x ≡ true → past.is_reported ≡ false

-- any line
abbrev pub Any : Past → Line → Type 0
Any past x = ⊤

-- A HISTORY: the steps of a schedule, of which each line may come where the past is as it is then (F), and the past after
-- them
pub data Reached (F : Past → Line → Type 0) (a : Start) : List Step → Past → Type 0 where
  begins : Reached F a [] (first_past a)
  goes : (steps : List Step) (past : Past) (x : Line) → Reached F a steps past → F past x
      → Reached F a (steps ++ (outcome_of a.kind a.stream past x).step ∷ []) (outcome_of a.kind a.stream past x).after

-- an event keeps what holds of the steps and of the past
abbrev pub Keeps : (Past → Line → Type 0) → Start → (List Step → Past → Type 0) → Claim
Keeps F a I past x o =
    (steps : List Step) → Reached F a steps past → F past x → I steps past → I (steps ++ o.step ∷ []) o.after

-- THE PRINCIPLE: what holds at the start and is kept in each case of an event holds of every history
pub each_history : (F : Past → Line → Type 0) (a : Start) (I : List Step → Past → Type 0) → I [] (first_past a)
    → Cases a.kind a.stream (Keeps F a I) → (steps : List Step) (past : Past) → Reached F a steps past → I steps past
each_history F a I first cases steps past begins = first
each_history F a I first cases steps past (goes before old x h fits) =
    each_case a.kind a.stream (Keeps F a I) cases old x before h fits
    (each_history F a I first cases before old h)

-- HOW STOP AND REPORT GO ON
pub record StopFacts (past : Past) (x : Line) (after : Past) : Type 0 where
  pub stop : is_stopped after.stop ≡ (is_stopped past.stop || is_stop x)
  pub report : after.is_reported ≡ (past.is_reported || is_report x)

StopFactsOf : Claim
StopFactsOf past x o = StopFacts past x o.after

-- an event that neither stops nor reports
stays : (past after : Past) (x : Line) → after.stop ≡ past.stop → after.is_reported ≡ past.is_reported
    → is_stop x ≡ false → is_report x ≡ false → StopFacts past x after
stays past after x s r f g = record {
  stop = ap (λ (t : Stop). is_stopped t) s ∙ (sym (or-false (is_stopped past.stop))
      ∙ ap (λ (b : Bool). is_stopped past.stop || b) (sym f));
  report = r ∙ (sym (or-false past.is_reported) ∙ ap (λ (b : Bool). past.is_reported || b) (sym g));
}

settled_stays : (past : Past) (x : Line) (marks : List Mark) (delivered : Option Message) (answer : ℕ → Answer)
    (e : Ended) → StopFacts past x e.after → StopFactsOf past x (outcome_with x marks delivered answer e)
unfolding StopFactsOf capture
settled_stays past x marks delivered answer e h =
    settled_case (StopFactsOf past x) x marks delivered answer e (λ none. h)
    (λ why some. (record { stop = h.stop; report = h.report }))

primary_stays : (past : Past) (d : ℕ) (i : Bool) (b n : ℕ) (made : TurnMade)
    → StopFactsOf past (Primary d i b n) (turn_primary past (Primary d i b n) made)
unfolding turn_primary primary_ended settle_event ended_by
primary_stays past d i b n made =
    settled_stays past (Primary d i b n) [] None (Made made.index) (primary_ended past made)
    (stays past (primary_ended past made).after (Primary d i b n) refl refl refl refl)

secondary_stays : (past : Past) (d : ℕ) (i : Bool) (b n : ℕ) (made : TurnMade)
    → StopFactsOf past (Secondary d i b n) (turn_secondary past (Secondary d i b n) made)
unfolding turn_secondary StopFactsOf
secondary_stays past d i b n made =
    stays past (turn_secondary past (Secondary d i b n) made).after (Secondary d i b n) refl refl refl refl

survivor_stays : (past : Past) (d : ℕ) (i : Bool) (b n : ℕ) (made : TurnMade)
    → StopFactsOf past (Secondary d i b n) (turn_survivor past (Secondary d i b n) made)
unfolding turn_survivor survivor_ended settle_event ended_by
survivor_stays past d i b n made =
    settled_stays past (Secondary d i b n) [] None (Made made.index) (survivor_ended past made)
    (stays past (survivor_ended past made).after (Secondary d i b n) refl refl refl refl)

accept_stays : (by_secondary : Bool) (past : Past) (w : Waiting)
    → StopFacts past Client (accept_by by_secondary past w (trims_by w))
unfolding accept_by
accept_stays true past w = stays past (accept_by true past w (trims_by w)) Client refl refl refl refl
accept_stays false past w = stays past (accept_by false past w (trims_by w)) Client refl refl refl refl

down_stays : (past : Past) (m : Message) (ms : List Message)
    → StopFactsOf past ToSecondary (secondary_hears (record past { to_secondary = ms }) m)
unfolding StopFactsOf hear_frame
down_stays past m ms =
    let p : Past = record past { to_secondary = ms } in
    heard_case (StopFactsOf past ToSecondary) p m
    (λ index seen trim frame e. stays past (hear_frame p (waiting_in index seen trim frame)) ToSecondary refl refl refl
    refl)
    (λ t client number e. stays past (hear_number p t client number) ToSecondary refl refl refl refl)
    (λ n e. stays past (hear_end p n) ToSecondary refl refl refl refl)
    (λ apart. stays past p ToSecondary refl refl refl refl)

up_stays : (past : Past) (m : Message) (ms : List Message)
    → StopFactsOf past ToPrimary (primary_hears (record past { to_primary = ms }) m)
unfolding StopFactsOf known_ended sent_ended ack_ended settle_event ended_by
up_stays past m ms =
    let p : Past = record past { to_primary = ms } in
    heard_back_case (StopFactsOf past ToPrimary) p m
    (λ t client number e. settled_stays past ToPrimary [] (Some (Known t client number)) (HeardBack 12 past.sent_heard)
    (known_ended p t client number) (stays past (known_ended p t client number).after ToPrimary refl refl refl refl))
    (λ frame e. settled_stays past ToPrimary [] (Some (Sent frame)) (HeardBack 13 (past.sent_heard + 1))
    (sent_ended p frame) (stays past (sent_ended p frame).after ToPrimary refl refl refl refl))
    (λ n e. settled_stays past ToPrimary (Acknowledged n ∷ []) (Some (Ack n)) (HeardBack 14 0) (ack_ended p)
    (stays past (ack_ended p).after ToPrimary refl refl refl refl))
    (λ foreign. stays past p ToPrimary refl refl refl refl)

left_stays : (past : Past) → StopFactsOf past Report (outcome_with Report [] None Reported (primary_survives past))
unfolding primary_survives settle_event ended_by
left_stays past =
    settled_stays past Report [] None Reported (primary_survives past)
    (record { stop = sym (or-false (is_stopped past.stop)); report = sym (or-true past.is_reported) })

survived_stays : (past : Past) → StopFactsOf past Report (secondary_survives past)
unfolding secondary_survives StopFactsOf
survived_stays past =
    record { stop = sym (or-false (is_stopped past.stop)); report = sym (or-true past.is_reported) }

asked_stays : (past : Past) → StopFactsOf past Ask (asked_outcome past)
unfolding capture StopFactsOf
asked_stays past = stays past (capture past) Ask refl refl refl refl

stop_cases : (kind : Kind) (stream : List (List ℕ)) → Cases kind stream StopFactsOf
unfolding StopFactsOf
stop_cases kind stream = record {
  idle = λ past x e f. stays past past x refl refl e f;
  primary_turn =
      λ past d i b n e f. primary_stays past d i b n
      (turn_from kind past.primary past.primary_inbox i (numbers_of d b n));
  secondary_turn =
      λ past d i b n e f. secondary_stays past d i b n
      (turn_from kind past.secondary past.secondary_inbox i (numbers_of d b n));
  survivor_turn =
      λ past d i b n e. survivor_stays past d i b n
      (turn_from kind past.secondary past.secondary_inbox i (numbers_of d b n));
  accepts =
      λ past frame kept t e f. accept_stays (is_primary_stop past.stop) past
      (waiting_of past (look_at past (tcp_in kept)) kept);
  is_full = λ past frame kept t e f. stays past (passed_frame past) Client refl refl refl refl;
  answers = λ past frame b t e. stays past (passed_frame past) Client refl refl refl refl;
  drops = λ past frame why t e. stays past (passed_frame past) Client refl refl refl refl;
  loses = λ past frame t e f. stays past (passed_frame past) Client refl refl refl refl;
  secondary_hears = λ past m ms e f g. down_stays past m ms;
  ignores =
      λ past m ms e f g running alone. stays past (record past { to_primary = ms }) ToPrimary refl refl refl refl;
  primary_hears = λ past m ms e f running alone. up_stays past m ms;
  primary_stops = λ past. (record { stop = sym (or-true (is_stopped past.stop)); report = sym (or-false past.is_reported) });
  secondary_stops = λ past. (record { stop = sym (or-true (is_stopped past.stop)); report = sym (or-false past.is_reported) });
  secondary_left = λ past e. survived_stays past;
  primary_left = λ past e. left_stays past;
  asks = λ past e f g. asked_stays past;
}

pub stop_facts : (kind : Kind) (stream : List (List ℕ)) (past : Past) (x : Line)
    → StopFacts past x (outcome_of kind stream past x).after
unfolding StopFactsOf
stop_facts kind stream past x = each_case kind stream StopFactsOf (stop_cases kind stream) past x

stopped_by : (old : Past) (x : Line) → (old.is_reported ≡ true → is_stopped old.stop ≡ true)
    → (is_report x ≡ true → is_stopped old.stop ≡ true) → true ≡ (old.is_reported || is_report x)
    → (is_stopped old.stop || is_stop x) ≡ true
stopped_by old x earlier now e = by old.is_reported refl (is_report x) refl e
  where
    stopped_so_far : is_stopped old.stop ≡ true → (is_stopped old.stop || is_stop x) ≡ true
    stopped_so_far f = ap (λ (b : Bool). b || is_stop x) f

    by : (b : Bool) → old.is_reported ≡ b → (c : Bool) → is_report x ≡ c → true ≡ (b || c)
        → (is_stopped old.stop || is_stop x) ≡ true
    by true f c g k = stopped_so_far (earlier f)
    by false f true g k = stopped_so_far (now g)
    by false f false g k = absurd (true≢false k)

-- a report comes after a stop
pub reported_stopped : (a : Start) (steps : List Step) (past : Past) → Reached Fits a steps past → past.is_reported ≡ true
    → is_stopped past.stop ≡ true
reported_stopped a steps past begins e = absurd (true≢false (sym e))
reported_stopped a steps past (goes before old x h fits) e =
    let facts = stop_facts a.kind a.stream old x in
    let earlier : old.is_reported ≡ true → is_stopped old.stop ≡ true = λ f. reported_stopped a before old h f in
    facts.stop ∙ stopped_by old x earlier fits.stopped (sym (sym facts.report ∙ e))

-- THE HISTORY OF A SCHEDULE
abbrev pub FitsLines : Past → List Line → Type 0
FitsLines past lines = IsTrue (stops_fit (is_stopped past.stop) past.is_reported lines)

fits_first : (past : Past) (x : Line) → not (is_stop x && is_stopped past.stop) ≡ true
    → not (is_report x && (past.is_reported || not (is_stopped past.stop))) ≡ true → Fits past x
fits_first past x s r = record {
  stop = λ e. by_stop (is_stop x) (is_stopped past.stop) (not-true (is_stop x && is_stopped past.stop) s) e;
  stopped = λ e. (by_report (is_report x) past.is_reported (is_stopped past.stop)
      (not-true (is_report x && (past.is_reported || not (is_stopped past.stop))) r) e).0;
  report = λ e. (by_report (is_report x) past.is_reported (is_stopped past.stop)
      (not-true (is_report x && (past.is_reported || not (is_stopped past.stop))) r) e).1;
}
  where
    by_stop : (b c : Bool) → (b && c) ≡ false → b ≡ true → c ≡ false
    by_stop true c h e = h
    by_stop false c h e = absurd (true≢false (sym e))

    by_report : (b c d : Bool) → (b && (c || not d)) ≡ false → b ≡ true → (d ≡ true) × (c ≡ false)
    by_report false c d h e = absurd (true≢false (sym e))
    by_report true true d h e = absurd (true≢false h)
    by_report true false true h e = (refl, refl)
    by_report true false false h e = absurd (true≢false h)

reached_from : (a : Start) (steps : List Step) (past : Past) (lines : List Line) → Reached Fits a steps past
    → FitsLines past lines
    → Reached Fits a (steps ++ steps_from a.kind a.stream past lines) (past_from a.kind a.stream past lines)
unfolding steps_from past_from
reached_from a steps past [] h fits =
    subst (λ (xs : List Step). Reached Fits a xs past) (sym (append-nil steps)) h
reached_from a steps past (x ∷ lines) h fits =
    let o = outcome_of a.kind a.stream past x in
    let facts = stop_facts a.kind a.stream past x in
    let parts = and_parts (not (is_stop x && is_stopped past.stop)) _ fits in
    let inner = and_parts (not (is_report x && (past.is_reported || not (is_stopped past.stop)))) _ parts.1 in
    let later : FitsLines o.after lines =
    subst (λ (b : Bool). IsTrue (stops_fit b o.after.is_reported lines)) (sym facts.stop)
    (subst (λ (b : Bool). IsTrue (stops_fit (is_stopped past.stop || is_stop x) b lines)) (sym facts.report) inner.1)
    in
    subst (λ (xs : List Step). Reached Fits a xs (past_from a.kind a.stream o.after lines))
    (append_assoc steps (o.step ∷ []) (steps_from a.kind a.stream o.after lines))
    (reached_from a (steps ++ o.step ∷ []) o.after lines
    (goes steps past x h (fits_first past x parts.0 inner.0)) later)

-- each schedule with at most one stop has its history
pub reached_log : (a : Start) (lines : List Line) → HasOneStop lines
    → Reached Fits a (pair_log a lines) (past_from a.kind a.stream (first_past a) lines)
unfolding pair_log
reached_log a lines one = reached_from a [] (first_past a) lines begins one

any_from : (a : Start) (steps : List Step) (past : Past) (lines : List Line) → Reached Any a steps past
    → Reached Any a (steps ++ steps_from a.kind a.stream past lines) (past_from a.kind a.stream past lines)
unfolding steps_from past_from
any_from a steps past [] h = subst (λ (xs : List Step). Reached Any a xs past) (sym (append-nil steps)) h
any_from a steps past (x ∷ lines) h =
    let o = outcome_of a.kind a.stream past x in
    subst (λ (xs : List Step). Reached Any a xs (past_from a.kind a.stream o.after lines))
    (append_assoc steps (o.step ∷ []) (steps_from a.kind a.stream o.after lines))
    (any_from a (steps ++ o.step ∷ []) o.after lines (goes steps past x h tt))

-- and each schedule whatever has one
pub reached_any : (a : Start) (lines : List Line)
    → Reached Any a (pair_log a lines) (past_from a.kind a.stream (first_past a) lines)
unfolding pair_log
reached_any a lines = any_from a [] (first_past a) lines begins

-- what every history has holds of each log and the past after it
pub each_log : (a : Start) (I : List Step → Past → Type 0)
    → ((steps : List Step) (past : Past) → Reached Fits a steps past → I steps past)
    → (lines : List Line) → HasOneStop lines → I (pair_log a lines) (past_at a (pair_log a lines))
each_log a I each lines one =
    subst (λ (p : Past). I (pair_log a lines) p) (sym (past_is a lines))
    (each (pair_log a lines) (past_from a.kind a.stream (first_past a) lines) (reached_log a lines one))

pub each_any_log : (a : Start) (I : List Step → Past → Type 0)
    → ((steps : List Step) (past : Past) → Reached Any a steps past → I steps past)
    → (lines : List Line) → I (pair_log a lines) (past_at a (pair_log a lines))
each_any_log a I each lines =
    subst (λ (p : Past). I (pair_log a lines) p) (sym (past_is a lines))
    (each (pair_log a lines) (past_from a.kind a.stream (first_past a) lines) (reached_any a lines))

-- A HISTORY IS A LOG
-- the lines of a history
pub lines_to : (F : Past → Line → Type 0) (a : Start) (steps : List Step) (past : Past) → Reached F a steps past → List Line
lines_to F a steps past begins = []
lines_to F a steps past (goes before old x h fits) = lines_to F a before old h ++ x ∷ []

-- a history's steps and past are those of its lines
pub record IsLogOf (a : Start) (steps : List Step) (past : Past) (lines : List Line) : Type 0 where
  pub steps_are : steps ≡ pair_log a lines
  pub past_is : past ≡ past_from a.kind a.stream (first_past a) lines

pub reached_lines : (F : Past → Line → Type 0) (a : Start) (steps : List Step) (past : Past) (h : Reached F a steps past)
    → IsLogOf a steps past (lines_to F a steps past h)
unfolding pair_log past_from steps_from lines_to
reached_lines F a steps past begins = record { steps_are = refl; past_is = refl }
reached_lines F a steps past (goes before old x h fits) =
    let l = reached_lines F a before old h in
    let lines = lines_to F a before old h in
    record {
      steps_are = (λ i. l.steps_are i ++ (outcome_of a.kind a.stream (l.past_is i) x).step ∷ [])
          ∙ sym (pair_log-append a lines (x ∷ []));
      past_is = ap (λ (p : Past). (outcome_of a.kind a.stream p x).after) l.past_is
          ∙ sym (past_from-append a.kind a.stream (first_past a) lines (x ∷ []));
    }

-- the past after a history is that after its steps
pub past_reached : (F : Past → Line → Type 0) (a : Start) (steps : List Step) (past : Past) → Reached F a steps past → past_at a steps ≡ past
past_reached F a steps past h =
    let l = reached_lines F a steps past h in
    ap (λ (xs : List Step). past_at a xs) l.steps_are ∙ (past_is a (lines_to F a steps past h) ∙ sym l.past_is)

-- ONE EVENT MORE: the events of a history end with the event of its last line
abbrev pub released_by : List Step → List Released
released_by steps = flat_map (λ (s : Step). s.released) steps

pub event_at : Start → List Step → Past → Line → Event
event_at a steps past x = record {
  past = past;
  released = released_by steps;
  step = (outcome_of a.kind a.stream past x).step;
  outcome = outcome_of a.kind a.stream past x;
}

pub events_from-append : (kind : Kind) (stream : List (List ℕ)) (past : Past) (released : List Released) (xs ys : List Step)
    → events_from kind stream past released (xs ++ ys)
    ≡ events_from kind stream past released xs
    ++ events_from kind stream (past_from kind stream past (lines_of xs)) (released ++ released_by xs) ys
unfolding events_from past_from
events_from-append kind stream past released [] ys =
    ap (λ (rs : List Released). events_from kind stream past rs ys) (sym (append-nil released))
events_from-append kind stream past released (s ∷ xs) ys =
    let o = outcome_of kind stream past s.entry.line in
    let e : Event = record { past = past; released = released; step = s; outcome = o } in
    ap (λ (es : List Event). e ∷ es)
    (events_from-append kind stream o.after (released ++ s.released) xs ys
    ∙ ap (λ (rs : List Released). events_from kind stream o.after (released ++ s.released) xs
    ++ events_from kind stream (past_from kind stream o.after (lines_of xs)) rs ys)
    (append_assoc released s.released (released_by xs)))

pub events-push : (F : Past → Line → Type 0) (a : Start) (steps : List Step) (past : Past) (x : Line) → Reached F a steps past
    → events a (steps ++ (outcome_of a.kind a.stream past x).step ∷ [])
    ≡ events a steps ++ event_at a steps past x ∷ []
unfolding events past_at events_from event_at
events-push F a steps past x h =
    let step = (outcome_of a.kind a.stream past x).step in
    let last : Past → Line → Event =
    λ p l. (record {
      past = p;
      released = released_by steps;
      step = step;
      outcome = outcome_of a.kind a.stream p l;
    }) in
    events_from-append a.kind a.stream (first_past a) [] steps (step ∷ [])
    ∙ (λ i. events a steps ++ last (past_reached F a steps past h i) ((event_facts a.kind a.stream past x).line i) ∷ [])

-- what holds of each event of a history holds of all events
pub each_event_reached : (F : Past → Line → Type 0) (a : Start) (Q : Event → Type 0)
    → ((steps : List Step) (past : Past) (x : Line) → Reached F a steps past → F past x → Q (event_at a steps past x))
    → (steps : List Step) (past : Past) → Reached F a steps past → All Q (events a steps)
unfolding events events_from
each_event_reached F a Q each steps past begins = All-nil Q
each_event_reached F a Q each steps past (goes before old x h fits) =
    subst (λ (es : List Event). All Q es) (sym (events-push F a before old x h))
    (All-append Q (events a before) (event_at a before old x ∷ []) (each_event_reached F a Q each before old h)
    (All-cons Q (event_at a before old x) [] (each before old x h fits) (All-nil Q)))
