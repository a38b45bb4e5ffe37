-- What holds of every event: its line, the count of its frames, its marks, and both guests' turns.
use Rattle.std.proofs.Common.{◌≡◌, ℕ, ◌+◌, ◌%◌, ◌^◌, Bool, true, false, List, [], ◌∷◌, Option, None, Some, refl, sym, ap, ◌∙◌, length, filter, true≢false}
use Rattle.colo_base.specs.declared.fault.Cause.{Cause}
use Rattle.settle_rules.specs.Release.{reply}
use Rattle.state_wire.specs.Guest.{Kind}
use Rattle.pair_theorem.specs.Checkpoint.{capture}
use Rattle.frame_mirror.specs.declared.ring.Waiting.{Waiting}
use Rattle.pair_theorem.specs.ClientFrames.{trims_by}
use Rattle.inet_frame.specs.Counted.{tcp_in}
use Rattle.pair_theorem.specs.Events.{look_at, waiting_of, hear_end, hear_frame, hear_number, is_ack_message, is_full, numbers_of, passed_frame, Ended, accept_by, ack_ended, ended_by, known_ended, mark_cause, outcome_of, outcome_with, primary_ended, primary_hears, primary_survives, turn_primary, secondary_hears, secondary_survives, turn_secondary, sent_ended, settle_event, survivor_ended, turn_survivor}
use Rattle.pair_theorem.specs.GuestTurns.{TurnMade, turn_from}
use Rattle.replay_log.specs.declared.lines.Line.{Line}
use Rattle.replay_log.specs.declared.lines.Line.TheVariants.{Primary, Secondary, Client, ToSecondary, ToPrimary, StopPrimary, StopSecondary, Report, Ask}
use Rattle.replay_log.specs.declared.records.Answer.{Answer}
use Rattle.replay_log.specs.declared.records.Answer.TheVariants.{Nothing, Made, Accepted, Arp, Dropped, Full, Lost, Heard, HeardBack, Zero, Reported}
use Rattle.replay_log.specs.declared.records.Mark.{Mark}
use Rattle.replay_log.specs.declared.records.Mark.TheVariants.{Captured, Committed, Acknowledged}
use Rattle.splice_run.specs.Log.{released_count}
use Rattle.pair_theorem.specs.LogParts.{ack_marks, commit_marks, count_on, is_acknowledged, is_captured, is_committed}
use Rattle.colo_wire.specs.declared.messages.Message.{Message}
use Rattle.colo_wire.specs.declared.messages.Message.TheVariants.{Frame, Number, Begin, State, Page, Disk, Write, Held, Bytes, End, Known, Sent, Ack}
use Rattle.colo_wire.specs.declared.messages.Message.TheVariants as message
use Rattle.pair_theorem.specs.Messages.{number_of, waiting_in}
use Rattle.pair_theorem.specs.Past.{Outcome, Past, is_primary_stop, primary_stop, quietly, secondary_stop, silently, step_with}
use Rattle.splice_run.specs.Tokens.{made_by_primary, made_by_secondary}
use Rattle.pair_theorem.proofs.EventCases.{Cases, asked_outcome, each_case}

-- the mark of a capture, and the number of the last capture after it
abbrev pub captured_mark : ℕ → Option Cause → List Mark
captured_mark n None = []
captured_mark n (Some why) = Captured ((n + 1) % 2 ^ 32) why ∷ []

abbrev pub captures_after : ℕ → Option Cause → ℕ
captures_after n None = n
captures_after n (Some why) = (n + 1) % 2 ^ 32

pub record EventFacts (past : Past) (x : Line) (o : Outcome) : Type 0 where
  pub line : o.step.entry.line ≡ x
  pub counts : released_count o.step.entry.answer ≡ length o.step.released
  pub captured : filter is_captured o.step.entry.marks ≡ captured_mark past.captures o.cause
  pub captures : o.after.captures ≡ captures_after past.captures o.cause
  pub committed : filter is_committed o.step.entry.marks ≡ commit_marks x o.step.delivered
  pub acknowledged : filter is_acknowledged o.step.entry.marks ≡ ack_marks x o.step.delivered
  pub primary_turned : o.after.primary_turned ≡ count_on past.primary_turned (made_by_primary x o.step.entry.answer)
  pub secondary_turned : o.after.secondary_turned ≡ count_on past.secondary_turned
      (made_by_secondary x o.step.entry.answer)

-- what is answered by `-` and delivers nothing is no turn, no commit and no acknowledgement
nothing_made : (x : Line) → (made_by_primary x Nothing ≡ []) × (made_by_secondary x Nothing ≡ [])
    × (commit_marks x None ≡ []) × (ack_marks x None ≡ [])
nothing_made (Primary d i b n) = (refl, refl, refl, refl)
nothing_made (Secondary d i b n) = (refl, refl, refl, refl)
nothing_made Client = (refl, refl, refl, refl)
nothing_made ToSecondary = (refl, refl, refl, refl)
nothing_made ToPrimary = (refl, refl, refl, refl)
nothing_made StopPrimary = (refl, refl, refl, refl)
nothing_made StopSecondary = (refl, refl, refl, refl)
nothing_made Report = (refl, refl, refl, refl)
nothing_made Ask = (refl, refl, refl, refl)

idle_facts : (past : Past) (x : Line) → EventFacts past x (silently past x Nothing None)
idle_facts past x = record {
  line = refl;
  counts = refl;
  captured = refl;
  captures = refl;
  committed = sym (nothing_made x).2;
  acknowledged = sym (nothing_made x).3;
  primary_turned = ap (λ ts. count_on past.primary_turned ts) (sym (nothing_made x).0);
  secondary_turned = ap (λ ts. count_on past.secondary_turned ts) (sym (nothing_made x).1);
}

-- an event that settled: the cause adds its mark and starts the checkpoint, which changes no guest
pub record EndedFacts (past : Past) (x : Line) (answer : ℕ → Answer) (e : Ended) : Type 0 where
  pub counts : released_count (answer (length e.out)) ≡ length e.out
  pub captures : e.after.captures ≡ past.captures
  pub primary_turned : e.after.primary_turned ≡ count_on past.primary_turned (made_by_primary x (answer (length e.out)))
  pub secondary_turned : e.after.secondary_turned ≡ count_on past.secondary_turned
      (made_by_secondary x (answer (length e.out)))

ended_facts : (past : Past) (why : Option Cause) (x : Line) (delivered : Option Message) (answer : ℕ → Answer)
    (e : Ended)
    → commit_marks x delivered ≡ [] → ack_marks x delivered ≡ [] → EndedFacts past x answer e
    → EventFacts past x (mark_cause why x [] delivered answer e)
unfolding mark_cause capture
ended_facts past None x delivered answer e c a h = record {
  line = refl;
  counts = h.counts;
  captured = refl;
  captures = h.captures;
  committed = sym c;
  acknowledged = sym a;
  primary_turned = h.primary_turned;
  secondary_turned = h.secondary_turned;
}
ended_facts past (Some why) x delivered answer e c a h = record {
  line = refl;
  counts = h.counts;
  captured = ap (λ (n : ℕ). Captured ((n + 1) % 2 ^ 32) why ∷ []) h.captures;
  captures = ap (λ (n : ℕ). (n + 1) % 2 ^ 32) h.captures;
  committed = sym c;
  acknowledged = sym a;
  primary_turned = h.primary_turned;
  secondary_turned = h.secondary_turned;
}

acked_facts : (past : Past) (why : Option Cause) (n : ℕ) (answer : ℕ → Answer) (e : Ended)
    → EndedFacts past ToPrimary answer e
    → EventFacts past ToPrimary (mark_cause why ToPrimary (Acknowledged n ∷ []) (Some (Ack n)) answer e)
unfolding mark_cause capture
acked_facts past None n answer e h = record {
  line = refl;
  counts = h.counts;
  captured = refl;
  captures = h.captures;
  committed = refl;
  acknowledged = refl;
  primary_turned = h.primary_turned;
  secondary_turned = h.secondary_turned;
}
acked_facts past (Some why) n answer e h = record {
  line = refl;
  counts = h.counts;
  captured = ap (λ (m : ℕ). Captured ((m + 1) % 2 ^ 32) why ∷ []) h.captures;
  captures = ap (λ (m : ℕ). (m + 1) % 2 ^ 32) h.captures;
  committed = refl;
  acknowledged = refl;
  primary_turned = h.primary_turned;
  secondary_turned = h.secondary_turned;
}

primary_facts : (kind : Kind) (past : Past) (d : ℕ) (i : Bool) (b n : ℕ) (made : TurnMade)
    → EventFacts past (Primary d i b n) (turn_primary past (Primary d i b n) made)
unfolding turn_primary outcome_with primary_ended settle_event ended_by
primary_facts kind past d i b n made =
    ended_facts past (primary_ended past made).cause (Primary d i b n) None (Made made.index) (primary_ended past made)
    refl refl
    (record { counts = refl; captures = refl; primary_turned = refl; secondary_turned = refl })

secondary_facts : (past : Past) (d : ℕ) (i : Bool) (b n : ℕ) (made : TurnMade)
    → EventFacts past (Secondary d i b n) (turn_secondary past (Secondary d i b n) made)
unfolding turn_secondary
secondary_facts past d i b n made = record {
  line = refl;
  counts = refl;
  captured = refl;
  captures = refl;
  committed = refl;
  acknowledged = refl;
  primary_turned = refl;
  secondary_turned = refl;
}

survivor_facts : (past : Past) (d : ℕ) (i : Bool) (b n : ℕ) (made : TurnMade)
    → EventFacts past (Secondary d i b n) (turn_survivor past (Secondary d i b n) made)
unfolding turn_survivor outcome_with survivor_ended settle_event ended_by
survivor_facts past d i b n made =
    ended_facts past (survivor_ended past made).cause (Secondary d i b n) None (Made made.index)
    (survivor_ended past made)
    refl refl (record { counts = refl; captures = refl; primary_turned = refl; secondary_turned = refl })

-- a client event changes no count of turns, and no number of captures
abbrev pub SameCounts : Past → Past → Type 0
SameCounts old new =
    (new.captures ≡ old.captures) × (new.primary_turned ≡ old.primary_turned) ×
    (new.secondary_turned ≡ old.secondary_turned)

accepts_alike : (by_secondary : Bool) (past : Past) (w : Waiting) → SameCounts past
    (accept_by by_secondary past w (trims_by w))
unfolding accept_by
accepts_alike true past w = (refl, refl, refl)
accepts_alike false past w = (refl, refl, refl)

quiet_facts : (past after : Past) (x : Line) (answer : Answer) → SameCounts past after → released_count answer ≡ 0
    → made_by_primary x answer ≡ [] → made_by_secondary x answer ≡ []
    → EventFacts past x (silently after x answer None)
quiet_facts past after x answer same c p s = record {
  line = refl;
  counts = c;
  captured = refl;
  captures = same.0;
  committed = sym (nothing_made x).2;
  acknowledged = sym (nothing_made x).3;
  primary_turned = same.1 ∙ ap (λ ts. count_on past.primary_turned ts) (sym p);
  secondary_turned = same.2 ∙ ap (λ ts. count_on past.secondary_turned ts) (sym s);
}

-- a message that releases nothing and whose marks are those of what is delivered
heard_facts : (past after : Past) (x : Line) (answer : Answer) (marks : List Mark) (m : Message) → SameCounts past after
    → released_count answer ≡ 0 → made_by_primary x answer ≡ [] → made_by_secondary x answer ≡ []
    → filter is_captured marks ≡ [] → filter is_committed marks ≡ commit_marks x (Some m)
    → filter is_acknowledged marks ≡ ack_marks x (Some m)
    → EventFacts past x (quietly after (step_with x answer marks (Some m) []))
heard_facts past after x answer marks m same c p s q k a = record {
  line = refl;
  counts = c;
  captured = q;
  captures = same.0;
  committed = k;
  acknowledged = a;
  primary_turned = same.1 ∙ ap (λ ts. count_on past.primary_turned ts) (sym p);
  secondary_turned = same.2 ∙ ap (λ ts. count_on past.secondary_turned ts) (sym s);
}

-- a message to the secondary that commits nothing
told_facts : (past after : Past) (k : ℕ) (full : Bool) (m : Message) → SameCounts past after
    → commit_marks ToSecondary (Some m) ≡ []
    → EventFacts past ToSecondary (silently after ToSecondary (Heard k full) (Some m))
told_facts past after k full m same e =
    heard_facts past after ToSecondary (Heard k full) [] m same refl refl refl refl (sym e) refl

-- what is only kept for the commit
kept_facts : (past : Past) (ms : List Message) (m : Message) → commit_marks ToSecondary (Some m) ≡ []
    → EventFacts past ToSecondary
    (silently (record past { to_secondary = ms }) ToSecondary (Heard (number_of m) false) (Some m))
kept_facts past ms m e =
    told_facts past (record past { to_secondary = ms }) (number_of m) false m (refl, refl, refl) e

down_facts : (past : Past) (m : Message) (ms : List Message)
    → EventFacts past ToSecondary (secondary_hears (record past { to_secondary = ms }) m)
unfolding secondary_hears hear_frame
down_facts past (Frame index seen trim frame) ms =
    told_facts past (hear_frame (record past { to_secondary = ms }) (waiting_in index seen trim frame)) 1
    (is_full past.secondary_inbox) (Frame index seen trim frame) (refl, refl, refl) refl
down_facts past (Number t client number) ms =
    told_facts past (hear_number (record past { to_secondary = ms }) t client number) 2 false
    (Number t client number) (refl, refl, refl) refl
down_facts past (End e) ms =
    heard_facts past (hear_end (record past { to_secondary = ms }) e) ToSecondary (Heard 11 false)
    (Committed e ∷ []) (End e) (refl, refl, refl) refl refl refl refl refl refl
down_facts past (Begin e) ms = kept_facts past ms (Begin e) refl
down_facts past (State bytes) ms = kept_facts past ms (State bytes) refl
down_facts past (Page k bytes) ms = kept_facts past ms (Page k bytes) refl
down_facts past (Disk first bytes) ms = kept_facts past ms (Disk first bytes) refl
down_facts past (Write k bytes) ms = kept_facts past ms (Write k bytes) refl
down_facts past (Held index seen trim frame) ms = kept_facts past ms (Held index seen trim frame) refl
down_facts past (message.Line t mac flags client own number refused acked window mss base) ms =
    kept_facts past ms (message.Line t mac flags client own number refused acked window mss base) refl
down_facts past (Bytes bytes) ms = kept_facts past ms (Bytes bytes) refl
down_facts past (Known t client number) ms = kept_facts past ms (Known t client number) refl
down_facts past (Sent frame) ms = kept_facts past ms (Sent frame) refl
down_facts past (Ack e) ms = kept_facts past ms (Ack e) refl

-- a message that the primary ignores is no acknowledgement
ignored_ack : (m : Message) → is_ack_message m ≡ false → ack_marks ToPrimary (Some m) ≡ []
ignored_ack (Frame index seen trim frame) e = refl
ignored_ack (Number t client number) e = refl
ignored_ack (Begin n) e = refl
ignored_ack (State bytes) e = refl
ignored_ack (Page k bytes) e = refl
ignored_ack (Disk first bytes) e = refl
ignored_ack (Write k bytes) e = refl
ignored_ack (Held index seen trim frame) e = refl
ignored_ack (message.Line t mac flags client own number refused acked window mss base) e = refl
ignored_ack (Bytes bytes) e = refl
ignored_ack (End n) e = refl
ignored_ack (Known t client number) e = refl
ignored_ack (Sent frame) e = refl
ignored_ack (Ack n) e = absurd (true≢false e)

ignored_facts : (past : Past) (m : Message) (ms : List Message) → is_ack_message m ≡ false
    → EventFacts past ToPrimary
    (silently (record past { to_primary = ms }) ToPrimary (HeardBack (number_of m) past.sent_heard 0) (Some m))
ignored_facts past m ms e =
    heard_facts past (record past { to_primary = ms }) ToPrimary (HeardBack (number_of m) past.sent_heard 0) [] m
    (refl, refl, refl) refl refl refl refl refl (sym (ignored_ack m e))

-- a message that the primary never hears
idle_hearing : (past : Past) (ms : List Message)
    → EventFacts past ToPrimary (silently (record past { to_primary = ms }) ToPrimary Nothing None)
idle_hearing past ms =
    quiet_facts past (record past { to_primary = ms }) ToPrimary Nothing (refl, refl, refl) refl refl refl

up_facts : (past : Past) (m : Message) (ms : List Message)
    → EventFacts past ToPrimary (primary_hears (record past { to_primary = ms }) m)
unfolding primary_hears outcome_with known_ended sent_ended ack_ended settle_event ended_by
up_facts past (Known t client number) ms =
    let e = known_ended (record past { to_primary = ms }) t client number in
    ended_facts past e.cause ToPrimary (Some (Known t client number)) (HeardBack 12 past.sent_heard) e refl refl
    (record { counts = refl; captures = refl; primary_turned = refl; secondary_turned = refl })
up_facts past (Sent frame) ms =
    let e = sent_ended (record past { to_primary = ms }) frame in
    ended_facts past e.cause ToPrimary (Some (Sent frame)) (HeardBack 13 (past.sent_heard + 1)) e refl refl
    (record { counts = refl; captures = refl; primary_turned = refl; secondary_turned = refl })
up_facts past (Ack n) ms =
    let e = ack_ended (record past { to_primary = ms }) in
    acked_facts past e.cause n (HeardBack 14 0) e
    (record { counts = refl; captures = refl; primary_turned = refl; secondary_turned = refl })
up_facts past (Frame index seen trim frame) ms = idle_hearing past ms
up_facts past (Number t client number) ms = idle_hearing past ms
up_facts past (Begin e) ms = idle_hearing past ms
up_facts past (State bytes) ms = idle_hearing past ms
up_facts past (Page k bytes) ms = idle_hearing past ms
up_facts past (Disk first bytes) ms = idle_hearing past ms
up_facts past (Write k bytes) ms = idle_hearing past ms
up_facts past (Held index seen trim frame) ms = idle_hearing past ms
up_facts past (message.Line t mac flags client own number refused acked window mss base) ms = idle_hearing past ms
up_facts past (Bytes bytes) ms = idle_hearing past ms
up_facts past (End e) ms = idle_hearing past ms

left_facts : (past : Past) → EventFacts past Report (outcome_with Report [] None Reported (primary_survives past))
unfolding outcome_with primary_survives settle_event ended_by
left_facts past =
    ended_facts past (primary_survives past).cause Report None Reported (primary_survives past) refl refl
    (record { counts = refl; captures = refl; primary_turned = refl; secondary_turned = refl })

survive_facts : (past : Past) → EventFacts past Report (secondary_survives past)
unfolding secondary_survives
survive_facts past = record {
  line = refl;
  counts = refl;
  captured = refl;
  captures = refl;
  committed = refl;
  acknowledged = refl;
  primary_turned = refl;
  secondary_turned = refl;
}

asked_facts : (past : Past) → EventFacts past Ask (asked_outcome past)
unfolding capture
asked_facts past = record {
  line = refl;
  counts = refl;
  captured = refl;
  captures = refl;
  committed = refl;
  acknowledged = refl;
  primary_turned = refl;
  secondary_turned = refl;
}

answered_facts : (past : Past) (b : List ℕ)
    → EventFacts past Client (quietly (passed_frame past) (step_with Client (Arp past.next) [] None (reply b ∷ [])))
answered_facts past b = record {
  line = refl;
  counts = refl;
  captured = refl;
  captures = refl;
  committed = refl;
  acknowledged = refl;
  primary_turned = refl;
  secondary_turned = refl;
}

facts : (kind : Kind) (stream : List (List ℕ)) → Cases kind stream EventFacts
facts kind stream = record {
  idle = λ past x e f. idle_facts past x;
  primary_turn =
      λ past d i b n e f. primary_facts kind past d i b n
      (turn_from kind past.primary past.primary_inbox i (numbers_of d b n));
  secondary_turn =
      λ past d i b n e f. secondary_facts past d i b n
      (turn_from kind past.secondary past.secondary_inbox i (numbers_of d b n));
  survivor_turn =
      λ past d i b n e. survivor_facts past d i b n
      (turn_from kind past.secondary past.secondary_inbox i (numbers_of d b n));
  accepts =
      λ past frame kept t e f. let w = waiting_of past (look_at past (tcp_in kept)) kept in
      quiet_facts past (accept_by (is_primary_stop past.stop) past w (trims_by w)) Client
      (Accepted past.next w.seen w.trim 0) (accepts_alike (is_primary_stop past.stop) past w) refl refl refl;
  is_full =
      λ past frame kept t e f. quiet_facts past (passed_frame past) Client (Full past.next) (refl, refl, refl) refl
      refl refl;
  answers = λ past frame b t e. answered_facts past b;
  drops =
      λ past frame why t e. quiet_facts past (passed_frame past) Client (Dropped past.next why.number)
      (refl, refl, refl) refl refl refl;
  loses =
      λ past frame t e f. quiet_facts past (passed_frame past) Client (Lost past.next) (refl, refl, refl) refl refl
      refl;
  secondary_hears = λ past m ms e f g. down_facts past m ms;
  ignores = λ past m ms e f g running alone. ignored_facts past m ms f;
  primary_hears = λ past m ms e f running alone. up_facts past m ms;
  primary_stops =
      λ past. quiet_facts past (record past { stop = primary_stop }) StopPrimary Zero (refl, refl, refl) refl refl refl;
  secondary_stops =
      λ past. quiet_facts past (record past { stop = secondary_stop }) StopSecondary Zero (refl, refl, refl) refl refl
      refl;
  secondary_left = λ past e. survive_facts past;
  primary_left = λ past e. left_facts past;
  asks = λ past e f g. asked_facts past;
}

-- of every event, after any past
pub event_facts : (kind : Kind) (stream : List (List ℕ)) (past : Past) (x : Line)
    → EventFacts past x (outcome_of kind stream past x)
event_facts kind stream past x = each_case kind stream EventFacts (facts kind stream) past x
