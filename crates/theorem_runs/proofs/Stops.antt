-- The stop that a past has is the one that its log names.
use Rattle.std.proofs.Common.{◌≡◌, ℕ, ◌+◌, ◌||◌, Bool, true, false, List, [], ◌∷◌, refl, sym, ap, ◌∙◌, true≢false}
use Rattle.std.proofs.Math.Bool.{or-false, or-true}
use Rattle.std.proofs.lemmas.Bool.{or_parts}
use Rattle.std.proofs.lemmas.List.Folds.{list_any-append}
use Rattle.inet_frame.specs.Counted.{tcp_in}
use Rattle.frame_mirror.specs.declared.ring.Waiting.{Waiting}
use Rattle.state_wire.specs.Guest.{Kind}
use Rattle.colo_wire.specs.declared.messages.Message.{Message}
use Rattle.replay_log.specs.declared.lines.Line.{Line}
use Rattle.replay_log.specs.declared.lines.Line.TheVariants.{Primary, Secondary, Client, ToSecondary, ToPrimary, StopPrimary, StopSecondary, Report, Ask}
use Rattle.replay_log.specs.declared.records.Record.{Record}
use Rattle.splice_run.specs.Log.{has_primary_stop, stops_primary}
use Rattle.pair_theorem.specs.Checkpoint.{capture}
use Rattle.pair_theorem.specs.ClientFrames.{trims_by}
use Rattle.pair_theorem.specs.Events.{accept_by, hear_frame, look_at, numbers_of, outcome_of, primary_hears, secondary_hears, secondary_survives, turn_primary, turn_secondary, turn_survivor, waiting_of}
use Rattle.pair_theorem.specs.GuestTurns.{TurnMade, turn_from}
use Rattle.pair_theorem.specs.History.{entries}
use Rattle.pair_theorem.specs.Log.{is_stop}
use Rattle.pair_theorem.specs.Past.{Past, Start, Step, Stop, is_primary_stop, is_secondary_stop, primary_stop, secondary_stop}
use Rattle.pair_theorem.proofs.EachHistory.{Fits, Reached, begins, goes, is_stopped}
use Rattle.pair_theorem.proofs.EventCases.{Cases, Claim, each_case}
use Rattle.pair_theorem.proofs.EventFacts.{event_facts}
use Rattle.pair_theorem.proofs.MessageCases.{heard_back_case, heard_case}
use Rattle.theorem_runs.proofs.Cuts.{entries-push}
use Rattle.theorem_runs.proofs.Settled.{ack_settled, known_settled, left_settled, primary_settled, sent_settled, survivor_settled}

-- the stop after a line
abbrev stop_after : Line → Stop → Stop
stop_after (Primary d i b n) stop = stop
stop_after (Secondary d i b n) stop = stop
stop_after Client stop = stop
stop_after ToSecondary stop = stop
stop_after ToPrimary stop = stop
stop_after StopPrimary stop = primary_stop
stop_after StopSecondary stop = secondary_stop
stop_after Report stop = stop
stop_after Ask stop = stop

StopsAt : Claim
StopsAt past x o = o.after.stop ≡ stop_after x past.stop

idle_stop : (x : Line) (stop : Stop) → is_stop x ≡ false → stop ≡ stop_after x stop
idle_stop (Primary d i b n) stop e = refl
idle_stop (Secondary d i b n) stop e = refl
idle_stop Client stop e = refl
idle_stop ToSecondary stop e = refl
idle_stop ToPrimary stop e = refl
idle_stop StopPrimary stop e = absurd (true≢false e)
idle_stop StopSecondary stop e = absurd (true≢false e)
idle_stop Report stop e = refl
idle_stop Ask stop e = refl

primary_turn_stop : (past : Past) (d : ℕ) (i : Bool) (b n : ℕ) (made : TurnMade)
    → (turn_primary past (Primary d i b n) made).after.stop ≡ past.stop
unfolding capture
primary_turn_stop past d i b n made =
    primary_settled (λ step after. after.stop ≡ past.stop) past d i b n made (λ out ns ps new. refl)
    (λ out ns ps new why alone. refl)

survivor_turn_stop : (past : Past) (d : ℕ) (i : Bool) (b n : ℕ) (made : TurnMade)
    → (turn_survivor past (Secondary d i b n) made).after.stop ≡ past.stop
unfolding capture
survivor_turn_stop past d i b n made =
    survivor_settled (λ step after. after.stop ≡ past.stop) past d i b n made (λ out ns ps new. refl)
    (λ out ns ps new why alone. refl)

accept_stop : (b : Bool) (past : Past) (w : Waiting) → (accept_by b past w (trims_by w)).stop ≡ past.stop
unfolding accept_by
accept_stop true past w = refl
accept_stop false past w = refl

down_stop : (past : Past) (m : Message) → (secondary_hears past m).after.stop ≡ past.stop
unfolding hear_frame
down_stop past m =
    heard_case (λ o. o.after.stop ≡ past.stop) past m (λ index seen trim frame is. refl) (λ t client number is. refl)
    (λ n is. refl) (λ apart. refl)

up_stop : (past : Past) (m : Message) → (primary_hears past m).after.stop ≡ past.stop
unfolding capture
up_stop past m =
    heard_back_case (λ o. o.after.stop ≡ past.stop) past m
    (λ t client number is. known_settled (λ step after. after.stop ≡ past.stop) past t client number past.sent_heard
    (λ out ns ps new. refl) (λ out ns ps new why alone. refl))
    (λ frame is. sent_settled (λ step after. after.stop ≡ past.stop) past frame (past.sent_heard + 1)
    (λ out ns ps new. refl) (λ out ns ps new why alone. refl))
    (λ n is. ack_settled (λ step after. after.stop ≡ past.stop) past n (λ out ns ps new. refl)
    (λ out ns ps new why alone. refl))
    (λ foreign. refl)

stop_cases : (kind : Kind) (stream : List (List ℕ)) → Cases kind stream StopsAt
unfolding StopsAt turn_secondary secondary_survives capture
stop_cases kind stream = record {
  idle = λ past x e f. idle_stop x past.stop e;
  primary_turn =
      λ past d i b n e f. primary_turn_stop past d i b n
      (turn_from kind past.primary past.primary_inbox i (numbers_of d b n));
  secondary_turn = λ past d i b n e f. refl;
  survivor_turn =
      λ past d i b n e. survivor_turn_stop past d i b n
      (turn_from kind past.secondary past.secondary_inbox i (numbers_of d b n));
  accepts =
      λ past frame kept t e f. accept_stop (is_primary_stop past.stop) past
      (waiting_of past (look_at past (tcp_in kept)) kept);
  is_full = λ past frame kept t e f. refl;
  answers = λ past frame b t e. refl;
  drops = λ past frame why t e. refl;
  loses = λ past frame t e f. refl;
  secondary_hears = λ past m ms e f g. down_stop (record past { to_secondary = ms }) m;
  ignores = λ past m ms e f g running alone. refl;
  primary_hears = λ past m ms e f running alone. up_stop (record past { to_primary = ms }) m;
  primary_stops = λ past. refl;
  secondary_stops = λ past. refl;
  secondary_left = λ past e. refl;
  primary_left = λ past e. left_settled (λ step after. after.stop ≡ past.stop) past (λ out ns ps new. refl);
  asks = λ past e f g. refl;
}

-- one line more, where at most one stop is to come
named_after : (x : Line) (stop : Stop) → (is_stop x ≡ true → is_stopped stop ≡ false)
    → (is_primary_stop stop || stops_primary x) ≡ is_primary_stop (stop_after x stop)
named_after (Primary d i b n) stop h = or-false (is_primary_stop stop)
named_after (Secondary d i b n) stop h = or-false (is_primary_stop stop)
named_after Client stop h = or-false (is_primary_stop stop)
named_after ToSecondary stop h = or-false (is_primary_stop stop)
named_after ToPrimary stop h = or-false (is_primary_stop stop)
named_after StopPrimary stop h = or-true (is_primary_stop stop)
named_after StopSecondary stop h =
    or-false (is_primary_stop stop) ∙ (or_parts (is_primary_stop stop) (is_secondary_stop stop) (h refl)).0
named_after Report stop h = or-false (is_primary_stop stop)
named_after Ask stop h = or-false (is_primary_stop stop)

-- the log names a stop of the primary exactly where the past has it
pub stop_named : (a : Start) (steps : List Step) (past : Past) → Reached Fits a steps past
    → has_primary_stop (entries steps) ≡ is_primary_stop past.stop
unfolding StopsAt
stop_named a steps past begins = refl
stop_named a steps past (goes before old x h fits) =
    let o = outcome_of a.kind a.stream old x in
    let stop : o.after.stop ≡ stop_after x old.stop =
    each_case a.kind a.stream StopsAt (stop_cases a.kind a.stream) old x in
    ap has_primary_stop (entries-push before o.step)
    ∙ (list_any-append (λ (r : Record). stops_primary r.line) (entries before) (o.step.entry ∷ [])
    ∙ ((λ i. stop_named a before old h i || (stops_primary ((event_facts a.kind a.stream old x).line i) || false))
    ∙ (ap (λ (b : Bool). is_primary_stop old.stop || b) (or-false (stops_primary x))
    ∙ (named_after x old.stop fits.stop ∙ ap is_primary_stop (sym stop)))))
