-- What each event may be: a property of every event's outcome is shown case by case.
use Rattle.std.proofs.Common.{◌≡◌, ℕ, ◌||◌, if◌then◌else◌, not, ◌&&◌, nat_le, Bool, true, false, List, [], ◌∷◌, ◌++◌, Option, None, Some, refl, slice_get, length}
use Rattle.std.proofs.lemmas.Bool.{cond_both, or_parts, and_parts, not-true}
use Rattle.colo_base.specs.declared.fault.Cause.{Cause}
use Rattle.colo_base.specs.declared.fault.Cause.TheVariants.{Asked}
use Rattle.inet_frame.specs.Counted.{tcp_in}
use Rattle.settle_rules.specs.Release.{reply}
use Rattle.state_wire.specs.Guest.{Kind}
use Rattle.pair_theorem.specs.Checkpoint.{capture, next_capture}
use Rattle.inet_frame.specs.declared.why.Why.{Why}
use Rattle.frame_mirror.specs.declared.ingress.Entry.{Entry}
use Rattle.frame_mirror.specs.declared.ingress.Entry.TheVariants as entry
use Rattle.frame_mirror.specs.Accepted.{entry_of}
use Rattle.frame_mirror.specs.declared.ring.Waiting.{Waiting}
use Rattle.frame_mirror.specs.declared.ring.TheConstants.{INBOX_ROOM}
use Rattle.pair_theorem.specs.ClientFrames.{trims_by}
use Rattle.pair_theorem.specs.Events.{Ended, accept_by, ask_event, client_entry, client_event, deliver_down, deliver_up, is_ack_message, look_at, mark_cause, numbers_of, outcome_of, outcome_with, passed_frame, primary_event, primary_hears, primary_survives, turn_primary, report_event, secondary_event, secondary_hears, secondary_survives, turn_secondary, turn_survivor, take_frame, taking_inbox, waiting_of}
use Rattle.pair_theorem.specs.GuestTurns.{turn_from}
use Rattle.replay_log.specs.declared.lines.Line.{Line}
use Rattle.replay_log.specs.declared.lines.Line.TheVariants.{Primary, Secondary, Client, ToSecondary, ToPrimary, StopPrimary, StopSecondary, Report, Ask}
use Rattle.replay_log.specs.declared.records.Answer.{Answer}
use Rattle.replay_log.specs.declared.records.Answer.TheVariants.{Nothing, Accepted, Arp, Dropped, Full, Lost, HeardBack, Zero, Reported}
use Rattle.replay_log.specs.declared.records.Mark.{Mark}
use Rattle.replay_log.specs.declared.records.Mark.TheVariants.{Captured}
use Rattle.colo_wire.specs.declared.messages.Message.{Message}
use Rattle.pair_theorem.specs.Log.{is_report, is_stop}
use Rattle.pair_theorem.specs.Messages.{number_of}
use Rattle.pair_theorem.specs.Past.{Outcome, Past, is_primary_stop, is_secondary_stop, primary_stop, secondary_stop, quietly, secondary_releases, silently, step_with}

-- a claim on the past before an event, its line, and its outcome
abbrev pub Claim : Type 1
Claim = Past → Line → Outcome → Type 0

abbrev pub accepted_outcome : Past → Waiting → Outcome
accepted_outcome past w =
    silently (accept_by (is_primary_stop past.stop) past w (trims_by w)) Client (Accepted past.next w.seen w.trim 0)
    None

abbrev pub asked_outcome : Past → Outcome
asked_outcome past = record {
  after = capture past;
  step = step_with Ask Zero (Captured (next_capture past) Asked ∷ []) None [];
  cause = Some Asked;
  agreed = [];
}

abbrev pub primary_made : Kind → Past → ℕ → Bool → ℕ → ℕ → Outcome
primary_made kind past d i b n =
    turn_primary past (Primary d i b n) (turn_from kind past.primary past.primary_inbox i (numbers_of d b n))

abbrev pub secondary_made : Kind → Past → ℕ → Bool → ℕ → ℕ → Outcome
secondary_made kind past d i b n =
    turn_secondary past (Secondary d i b n) (turn_from kind past.secondary past.secondary_inbox i (numbers_of d b n))

abbrev pub survivor_made : Kind → Past → ℕ → Bool → ℕ → ℕ → Outcome
survivor_made kind past d i b n =
    turn_survivor past (Secondary d i b n) (turn_from kind past.secondary past.secondary_inbox i (numbers_of d b n))

-- an event that settled, where nothing is a cause, and where something is
abbrev pub uncaused : Line → List Mark → Option Message → (ℕ → Answer) → Ended → Outcome
uncaused x marks delivered answer e = record {
  after = e.after;
  step = step_with x (answer (length e.out)) marks delivered e.out;
  cause = None;
  agreed = e.agreed;
}

abbrev pub caused : Cause → Line → List Mark → Option Message → (ℕ → Answer) → Ended → Outcome
caused why x marks delivered answer e = record {
  after = capture e.after;
  step = step_with x (answer (length e.out)) (marks ++ Captured (next_capture e.after) why ∷ []) delivered e.out;
  cause = Some why;
  agreed = e.agreed;
}

pub settled_case : (P : Outcome → Type 0) (x : Line) (marks : List Mark) (delivered : Option Message)
    (answer : ℕ → Answer) (e : Ended) → (e.cause ≡ None → P (uncaused x marks delivered answer e))
    → ((why : Cause) → e.cause ≡ Some why → P (caused why x marks delivered answer e))
    → P (outcome_with x marks delivered answer e)
unfolding outcome_with mark_cause
settled_case P x marks delivered answer e none some = by e.cause refl
  where
    by : (why : Option Cause) → e.cause ≡ why → P (mark_cause why x marks delivered answer e)
    by None h = none h
    by (Some why) h = some why h

-- a client event takes a frame of the stream: no report of the primary's stop is outstanding
abbrev pub TakesFrame : List (List ℕ) → Past → List ℕ → Type 0
TakesFrame stream past frame =
    (slice_get stream past.next ≡ Some frame) × ((is_primary_stop past.stop && not past.is_reported) ≡ false)

-- Each case has the tests that led to it.
pub record Cases (kind : Kind) (stream : List (List ℕ)) (P : Claim) : Type 0 where
  pub idle : (past : Past) (x : Line) → is_stop x ≡ false → is_report x ≡ false → P past x (silently past x Nothing None)
  pub primary_turn : (past : Past) (d : ℕ) (i : Bool) (b n : ℕ) → is_primary_stop past.stop ≡ false
      → past.awaits_ack ≡ false → P past (Primary d i b n) (primary_made kind past d i b n)
  pub secondary_turn : (past : Past) (d : ℕ) (i : Bool) (b n : ℕ) → is_secondary_stop past.stop ≡ false
      → secondary_releases past ≡ false → P past (Secondary d i b n) (secondary_made kind past d i b n)
  pub survivor_turn : (past : Past) (d : ℕ) (i : Bool) (b n : ℕ) → secondary_releases past ≡ true
      → P past (Secondary d i b n) (survivor_made kind past d i b n)
  pub accepts : (past : Past) (frame kept : List ℕ) → TakesFrame stream past frame → entry_of frame ≡ entry.Frame kept
      → nat_le INBOX_ROOM (length (taking_inbox past)) ≡ false
      → P past Client (accepted_outcome past (waiting_of past (look_at past (tcp_in kept)) kept))
  pub is_full : (past : Past) (frame kept : List ℕ) → TakesFrame stream past frame → entry_of frame ≡ entry.Frame kept
      → nat_le INBOX_ROOM (length (taking_inbox past)) ≡ true
      → P past Client (silently (passed_frame past) Client (Full past.next) None)
  pub answers : (past : Past) (frame b : List ℕ) → TakesFrame stream past frame → entry_of frame ≡ entry.Answer b
      → P past Client (quietly (passed_frame past) (step_with Client (Arp past.next) [] None (reply b ∷ [])))
  pub drops : (past : Past) (frame : List ℕ) (why : Why) → TakesFrame stream past frame
      → entry_of frame ≡ entry.Drop why
      → P past Client (silently (passed_frame past) Client (Dropped past.next why.number) None)
  pub loses : (past : Past) (frame : List ℕ) → slice_get stream past.next ≡ Some frame
      → is_primary_stop past.stop ≡ true → past.is_reported ≡ false
      → P past Client (silently (passed_frame past) Client (Lost past.next) None)
  pub secondary_hears : (past : Past) (m : Message) (ms : List Message) → past.to_secondary ≡ m ∷ ms
      → is_secondary_stop past.stop ≡ false → past.is_reported ≡ false
      → P past ToSecondary (secondary_hears (record past { to_secondary = ms }) m)
  pub ignores : (past : Past) (m : Message) (ms : List Message) → past.to_primary ≡ m ∷ ms → is_ack_message m ≡ false
      → past.awaits_ack ≡ true → is_primary_stop past.stop ≡ false → past.is_reported ≡ false
      → P past ToPrimary
      (silently (record past { to_primary = ms }) ToPrimary (HeardBack (number_of m) past.sent_heard 0) (Some m))
  pub primary_hears : (past : Past) (m : Message) (ms : List Message) → past.to_primary ≡ m ∷ ms
      → (past.awaits_ack && not (is_ack_message m)) ≡ false → is_primary_stop past.stop ≡ false
      → past.is_reported ≡ false
      → P past ToPrimary (primary_hears (record past { to_primary = ms }) m)
  pub primary_stops : (past : Past)
      → P past StopPrimary (silently (record past { stop = primary_stop }) StopPrimary Zero None)
  pub secondary_stops : (past : Past)
      → P past StopSecondary (silently (record past { stop = secondary_stop }) StopSecondary Zero None)
  pub secondary_left : (past : Past) → is_primary_stop past.stop ≡ true → P past Report (secondary_survives past)
  pub primary_left : (past : Past) → is_primary_stop past.stop ≡ false
      → P past Report (outcome_with Report [] None Reported (primary_survives past))
  pub asks : (past : Past) → past.awaits_ack ≡ false → is_primary_stop past.stop ≡ false
      → is_secondary_stop past.stop ≡ false → P past Ask (asked_outcome past)

take_case : (kind : Kind) (stream : List (List ℕ)) (P : Claim) → Cases kind stream P → (past : Past)
    (frame kept : List ℕ) → TakesFrame stream past frame → entry_of frame ≡ entry.Frame kept
    → P past Client (take_frame past (waiting_of past (look_at past (tcp_in kept)) kept))
unfolding take_frame
take_case kind stream P h past frame kept t e =
    let w = waiting_of past (look_at past (tcp_in kept)) kept in
    cond_both (nat_le INBOX_ROOM (length (taking_inbox past)))
    (silently (passed_frame past) Client (Full past.next) None) (accepted_outcome past w) (P past Client)
    (λ f. h.is_full past frame kept t e f) (λ f. h.accepts past frame kept t e f)

entry_case : (kind : Kind) (stream : List (List ℕ)) (P : Claim) → Cases kind stream P → (past : Past) (frame : List ℕ)
    (entry : Entry) → TakesFrame stream past frame → entry_of frame ≡ entry → P past Client (client_entry past entry)
unfolding client_entry
entry_case kind stream P h past frame (entry.Frame kept) t e = take_case kind stream P h past frame kept t e
entry_case kind stream P h past frame (entry.Answer b) t e = h.answers past frame b t e
entry_case kind stream P h past frame (entry.Drop w) t e = h.drops past frame w t e

client_case : (kind : Kind) (stream : List (List ℕ)) (P : Claim) → Cases kind stream P → (past : Past)
    (frame : Option (List ℕ)) → slice_get stream past.next ≡ frame → P past Client (client_event past frame)
unfolding client_event
client_case kind stream P h past None at = h.idle past Client refl refl
client_case kind stream P h past (Some frame) at =
    cond_both (is_primary_stop past.stop && not past.is_reported)
    (silently (passed_frame past) Client (Lost past.next) None) (client_entry past (entry_of frame)) (P past Client)
    (λ e. let parts = and_parts (is_primary_stop past.stop) (not past.is_reported) e in
    h.loses past frame at parts.0 (not-true past.is_reported parts.1))
    (λ e. entry_case kind stream P h past frame (entry_of frame) (at, e) refl)

down_case : (kind : Kind) (stream : List (List ℕ)) (P : Claim) → Cases kind stream P
    → (past : Past) (ms : List Message) → past.to_secondary ≡ ms
    → is_secondary_stop past.stop ≡ false → past.is_reported ≡ false → P past ToSecondary (deliver_down past ms)
unfolding deliver_down
down_case kind stream P h past [] e running alone = h.idle past ToSecondary refl refl
down_case kind stream P h past (m ∷ ms) e running alone = h.secondary_hears past m ms e running alone

up_case : (kind : Kind) (stream : List (List ℕ)) (P : Claim) → Cases kind stream P
    → (past : Past) (ms : List Message) → past.to_primary ≡ ms
    → is_primary_stop past.stop ≡ false → past.is_reported ≡ false → P past ToPrimary (deliver_up past ms)
unfolding deliver_up
up_case kind stream P h past [] e running alone = h.idle past ToPrimary refl refl
up_case kind stream P h past (m ∷ ms) e running alone =
    cond_both (past.awaits_ack && not (is_ack_message m))
    (silently (record past { to_primary = ms }) ToPrimary (HeardBack (number_of m) past.sent_heard 0) (Some m))
    (primary_hears (record past { to_primary = ms }) m) (P past ToPrimary)
    (λ f. let parts = and_parts past.awaits_ack (not (is_ack_message m)) f in
    h.ignores past m ms e (not-true (is_ack_message m) parts.1) parts.0 running alone)
    (λ f. h.primary_hears past m ms e f running alone)

primary_case : (kind : Kind) (stream : List (List ℕ)) (P : Claim) → Cases kind stream P
    → (past : Past) (d : ℕ) (i : Bool) (b n : ℕ)
    → P past (Primary d i b n) (primary_event kind past (Primary d i b n) i (numbers_of d b n))
unfolding primary_event
primary_case kind stream P h past d i b n =
    cond_both (is_primary_stop past.stop || past.awaits_ack) (silently past (Primary d i b n) Nothing None)
    (primary_made kind past d i b n) (P past (Primary d i b n))
    (λ e. h.idle past (Primary d i b n) refl refl)
    (λ e. let parts =
    or_parts (is_primary_stop past.stop) past.awaits_ack e in h.primary_turn past d i b n parts.0 parts.1)

secondary_case : (kind : Kind) (stream : List (List ℕ)) (P : Claim) → Cases kind stream P
    → (past : Past) (d : ℕ) (i : Bool) (b n : ℕ)
    → P past (Secondary d i b n) (secondary_event kind past (Secondary d i b n) i (numbers_of d b n))
unfolding secondary_event
secondary_case kind stream P h past d i b n =
    cond_both (is_secondary_stop past.stop) (silently past (Secondary d i b n) Nothing None)
    (if secondary_releases past then survivor_made kind past d i b n else secondary_made kind past d i b n)
    (P past (Secondary d i b n))
    (λ e. h.idle past (Secondary d i b n) refl refl)
    (λ e. cond_both (secondary_releases past) (survivor_made kind past d i b n) (secondary_made kind past d i b n)
    (P past (Secondary d i b n)) (λ f. h.survivor_turn past d i b n f) (λ f. h.secondary_turn past d i b n e f))

report_case : (kind : Kind) (stream : List (List ℕ)) (P : Claim) → Cases kind stream P
    → (past : Past) → P past Report (report_event past)
unfolding report_event
report_case kind stream P h past =
    cond_both (is_primary_stop past.stop) (secondary_survives past)
    (outcome_with Report [] None Reported (primary_survives past)) (P past Report)
    (λ e. h.secondary_left past e) (λ e. h.primary_left past e)

ask_case : (kind : Kind) (stream : List (List ℕ)) (P : Claim) → Cases kind stream P
    → (past : Past) → P past Ask (ask_event past)
unfolding ask_event
ask_case kind stream P h past =
    cond_both (past.awaits_ack || (is_primary_stop past.stop || is_secondary_stop past.stop))
    (silently past Ask Nothing None)
    (asked_outcome past) (P past Ask)
    (λ e. h.idle past Ask refl refl)
    (λ e. let outer = or_parts past.awaits_ack (is_primary_stop past.stop || is_secondary_stop past.stop) e in
    let inner = or_parts (is_primary_stop past.stop) (is_secondary_stop past.stop) outer.1 in
    h.asks past outer.0 inner.0 inner.1)

-- every event
pub each_case : (kind : Kind) (stream : List (List ℕ)) (P : Claim) → Cases kind stream P → (past : Past) (x : Line)
    → P past x (outcome_of kind stream past x)
unfolding outcome_of
each_case kind stream P h past (Primary d i b n) = primary_case kind stream P h past d i b n
each_case kind stream P h past (Secondary d i b n) = secondary_case kind stream P h past d i b n
each_case kind stream P h past Client = client_case kind stream P h past (slice_get stream past.next) refl
each_case kind stream P h past ToSecondary =
    cond_both (is_secondary_stop past.stop || past.is_reported) (silently past ToSecondary Nothing None)
    (deliver_down past past.to_secondary) (P past ToSecondary)
    (λ e. h.idle past ToSecondary refl refl)
    (λ e. let parts = or_parts (is_secondary_stop past.stop) past.is_reported e in
    down_case kind stream P h past past.to_secondary refl parts.0 parts.1)
each_case kind stream P h past ToPrimary =
    cond_both (is_primary_stop past.stop || past.is_reported) (silently past ToPrimary Nothing None)
    (deliver_up past past.to_primary) (P past ToPrimary)
    (λ e. h.idle past ToPrimary refl refl)
    (λ e. let parts = or_parts (is_primary_stop past.stop) past.is_reported e in
    up_case kind stream P h past past.to_primary refl parts.0 parts.1)
each_case kind stream P h past StopPrimary = h.primary_stops past
each_case kind stream P h past StopSecondary = h.secondary_stops past
each_case kind stream P h past Report = report_case kind stream P h past
each_case kind stream P h past Ask = ask_case kind stream P h past
