-- What each line of a schedule makes of the past: its answer, marks, messages and released frames.
use Rattle.std.specs.Prelude.{ℕ, ◌+◌, ◌%◌, ◌^◌, Bool, true, false, not, ◌&&◌, ◌||◌, ◌==◌, nat_le, is_some, if◌then◌else◌, List, [], ◌∷◌, ◌++◌, length, slice_get, filter, map, Option, None, Some}
use Rattle.colo_base.specs.declared.fault.Cause.{Cause}
use Rattle.colo_base.specs.declared.fault.Cause.TheVariants.{Asked}
use Rattle.inet_frame.specs.Counted.{tcp_in, counted, client_tuple_of, tuple_of}
use Rattle.inet_frame.specs.Fields.{TcpFields}
use Rattle.inet_frame.specs.Frame.{seen_of}
use Rattle.inet_frame.specs.Options.{options_of}
use Rattle.inet_build.specs.Edit.{clean_syn, update_checksum}
use Rattle.inet_build.specs.Options.{clean_options}
use Rattle.shared_definitions.specs.Overwrite.{overwrite}
use Rattle.inet_frame.specs.declared.tuple.Tuple.{Tuple}
use Rattle.tcp_track.specs.Lines.{Item, sent, commit, line, order}
use Rattle.tcp_track.specs.Restarts.{is_restart}
use Rattle.tcp_track.specs.Stands.{segments}
use Rattle.settle_rules.specs.Causes.{cause_of}
use Rattle.settle_rules.specs.Look.{Look, look_with}
use Rattle.settle_rules.specs.Numbers.{KeptNumber, keep_number, kept_number, learn_number, learn_all}
use Rattle.settle_rules.specs.OwnFrames.{OwnFrames, own_frames}
use Rattle.settle_rules.specs.Progress.{progress_of, clear_ages}
use Rattle.settle_rules.specs.Release.{Released, reply}
use Rattle.settle_rules.specs.Settle.{Scene, settle}
use Rattle.settle_rules.specs.Survive.{survive}
use Rattle.pair_theorem.specs.Agreed.{agreed_in, survivor_agreed}
use Rattle.pair_theorem.specs.Checkpoint.{capture, next_capture}
use Rattle.frame_mirror.specs.declared.ingress.Entry.{Entry}
use Rattle.frame_mirror.specs.declared.ingress.Entry.TheVariants as entry
use Rattle.frame_mirror.specs.Accepted.{entry_of}
use Rattle.frame_mirror.specs.declared.ring.Waiting.{Waiting}
use Rattle.frame_mirror.specs.declared.ring.TheConstants.{INBOX_ROOM}
use Rattle.pair_theorem.specs.ClientFrames.{trims_by}
use Rattle.state_wire.specs.Guest.{Kind}
use Rattle.pair_theorem.specs.GuestTurns.{TurnNumbers, TurnMade, turn_from}
use Rattle.replay_log.specs.declared.lines.Line.{Line}
use Rattle.replay_log.specs.declared.lines.Line.TheVariants.{Primary, Secondary, Client, ToSecondary, ToPrimary, StopPrimary, StopSecondary, Report, Ask}
use Rattle.replay_log.specs.declared.records.Answer.{Answer}
use Rattle.replay_log.specs.declared.records.Answer.TheVariants.{Nothing, Made, Accepted, Arp, Dropped, Full, Lost, Heard, HeardBack, Zero, Reported}
use Rattle.replay_log.specs.declared.records.Mark.{Mark}
use Rattle.replay_log.specs.declared.records.Mark.TheVariants.{Captured, Committed, Acknowledged}
use Rattle.colo_wire.specs.declared.messages.Message.{Message}
use Rattle.colo_wire.specs.declared.messages.Message.TheVariants.{Frame, Number, End, Known, Sent, Ack}
use Rattle.pair_theorem.specs.Messages.{number_of, frame_message, waiting_in}
use Rattle.pair_theorem.specs.Past.{Agreed, Outcome, Past, is_primary_stop, is_secondary_stop, primary_stop, secondary_stop, quietly, releasing_items, secondary_releases, silently, step_with}

abbrev pub raise_count : ℕ → ℕ
raise_count turned = (turned + 1) % 2 ^ 64

-- SETTLING an event: the items before it, the releasing node's own segments in it, the tuples that
-- the other node restarted in it, and whether it is a turn
pub record Settling : Type 0 where
  pub before : List Item
  pub own : List TcpFields
  pub restarts : List Tuple
  pub is_turn : Bool

-- the past after the settling, what it releases, the cause of a checkpoint, and what it was to
-- release
pub record Ended : Type 0 where
  pub after : Past
  pub out : List Released
  pub cause : Option Cause
  pub agreed : List Agreed

abbrev pub scene_of : Past → OwnFrames → Settling → Scene
scene_of past own x = record {
  mine = own.items;
  theirs = past.known_items;
  numbers = own.numbers;
  is_alone = past.is_reported;
  is_turn = x.is_turn;
  tooks = own.tooks;
  restarts = own.restarts ++ x.restarts;
}

abbrev pub number_message : KeptNumber → Message
number_message k = Number k.tuple k.client k.number

-- newly kept numbers are told to the secondary; a node alone tells nothing, and has no cause
unfoldable pub ended_by : Past → OwnFrames → Scene → List Tuple → Ended
unfolding settle cause_of agreed_in
ended_by past own scene tuples =
    let settled = settle scene tuples own.progress in
    record {
      after = record past {
        numbers = own.numbers;
        progress = settled.progress;
        to_secondary =
            if past.is_reported then past.to_secondary
            else past.to_secondary ++ map number_message own.new_numbers;
      };
      out = settled.out;
      cause = if past.is_reported then None else cause_of scene tuples settled.progress;
      agreed = agreed_in scene tuples own.progress;
    }

-- the past has the event's own frames in its run already
unfoldable pub settle_event : Past → Settling → Ended
unfolding ended_by own_frames order
settle_event past x =
    let own = own_frames x.before past.numbers past.progress x.own in
    ended_by past own (scene_of past own x) (order own.items)

-- an event that settled, with the marks that it has so far; a cause starts a checkpoint
unfoldable pub mark_cause : Option Cause → Line → List Mark → Option Message → (ℕ → Answer) → Ended
    → Outcome
unfolding capture
mark_cause None line marks delivered answer x = record {
  after = x.after;
  step = step_with line (answer (length x.out)) marks delivered x.out;
  cause = None;
  agreed = x.agreed;
}
mark_cause (Some cause) line marks delivered answer x = record {
  after = capture x.after;
  step = step_with line (answer (length x.out))
      (marks ++ Captured (next_capture x.after) cause ∷ []) delivered x.out;
  cause = Some cause;
  agreed = x.agreed;
}

unfoldable pub outcome_with : Line → List Mark → Option Message → (ℕ → Answer) → Ended → Outcome
unfolding mark_cause
outcome_with line marks delivered answer x = mark_cause x.cause line marks delivered answer x

-- TURNS
unfoldable pub primary_ended : Past → TurnMade → Ended
unfolding settle_event
primary_ended past made =
    settle_event (record past {
      primary = made.run;
      primary_inbox = made.inbox;
      primary_turned = raise_count past.primary_turned;
    }) (record {
      before = past.primary.items;
      own = segments made.output;
      restarts = [];
      is_turn = true;
    })

unfoldable pub turn_primary : Past → Line → TurnMade → Outcome
unfolding outcome_with primary_ended seen_of
turn_primary past line made =
    outcome_with line [] None (Made made.index) (primary_ended past made)

-- the frames of a list that count
abbrev pub counted_frames : List (List ℕ) → List (List ℕ)
counted_frames frames = filter (λ f. is_some (counted f)) frames

-- a secondary settles nothing; it tells the frames that count
unfoldable pub turn_secondary : Past → Line → TurnMade → Outcome
unfolding seen_of
turn_secondary past line made = silently (record past {
  secondary = made.run;
  secondary_inbox = made.inbox;
  secondary_turned = raise_count past.secondary_turned;
  to_primary = past.to_primary ++ map Sent (counted_frames made.output);
}) line (Made made.index 0) None

-- a surviving secondary settles its own turns
unfoldable pub survivor_ended : Past → TurnMade → Ended
unfolding settle_event
survivor_ended past made =
    settle_event (record past {
      secondary = made.run;
      secondary_inbox = made.inbox;
      secondary_turned = raise_count past.secondary_turned;
    }) (record {
      before = past.secondary.items;
      own = segments made.output;
      restarts = [];
      is_turn = true;
    })

unfoldable pub turn_survivor : Past → Line → TurnMade → Outcome
unfolding outcome_with survivor_ended seen_of
turn_survivor past line made =
    outcome_with line [] None (Made made.index) (survivor_ended past made)

-- CLIENT FRAMES
unfoldable pub look_at : Past → Option TcpFields → Look
unfolding line
look_at past None = record { seen = None; trim = 0 }
look_at past (Some s) =
    let p = progress_of (client_tuple_of s) past.progress in
    look_with s p.edge p.shown (line (client_tuple_of s) (releasing_items past)).opening

abbrev pub passed_frame : Past → Past
passed_frame past = record past { next = past.next + 1 }

-- The primary takes an accepted frame and tells the secondary of it; its trim counts for both known
-- lines, as the secondary's own takes it when it hears of the frame. Where the primary was stopped
-- the survivor takes it.
unfoldable pub accept_by : Bool → Past → Waiting → List Item → Past
accept_by true past w trims = record past {
  next = past.next + 1;
  secondary = record past.secondary { items = past.secondary.items ++ trims };
  secondary_inbox = past.secondary_inbox ++ w ∷ [];
}
accept_by false past w trims = record past {
  next = past.next + 1;
  primary = record past.primary { items = past.primary.items ++ trims };
  primary_inbox = past.primary_inbox ++ w ∷ [];
  known_items = if past.is_reported then past.known_items else past.known_items ++ trims;
  to_secondary =
      if past.is_reported then past.to_secondary else past.to_secondary ++ frame_message w ∷ [];
}

abbrev pub taking_inbox : Past → List Waiting
taking_inbox past = if is_primary_stop past.stop then past.secondary_inbox else past.primary_inbox

abbrev pub waiting_of : Past → Look → List ℕ → Waiting
waiting_of past look frame =
    record { index = past.next; seen = look.seen; trim = look.trim; frame = frame }

unfoldable pub take_frame : Past → Waiting → Outcome
unfolding accept_by trims_by
take_frame past w =
    if nat_le INBOX_ROOM (length (taking_inbox past))
    then silently (passed_frame past) Client (Full past.next) None
    else silently (accept_by (is_primary_stop past.stop) past w (trims_by w)) Client
    (Accepted past.next w.seen w.trim 0) None

unfoldable pub client_entry : Past → Entry → Outcome
unfolding take_frame look_at seen_of
client_entry past (entry.Frame frame) =
    take_frame past (waiting_of past (look_at past (tcp_in frame)) frame)
client_entry past (entry.Answer bytes) =
    quietly (passed_frame past) (step_with Client (Arp past.next) [] None (reply bytes ∷ []))
client_entry past (entry.Drop w) =
    silently (passed_frame past) Client (Dropped past.next w.number) None

unfoldable pub client_event : Past → Option (List ℕ) → Outcome
unfolding client_entry entry_of clean_syn clean_options options_of update_checksum overwrite seen_of
client_event past None = silently past Client Nothing None
client_event past (Some frame) =
    if is_primary_stop past.stop && not past.is_reported
    then silently (passed_frame past) Client (Lost past.next) None
    else client_entry past (entry_of frame)

-- THE SECONDARY HEARS
abbrev pub number_said : Option KeptNumber → ℕ → ℕ
number_said None number = number
number_said (Some k) number = k.number

abbrev pub is_full : List Waiting → Bool
is_full inbox = nat_le INBOX_ROOM (length inbox)

-- a frame that a full inbox cannot take is dropped after its trim
unfoldable pub hear_frame : Past → Waiting → Past
unfolding trims_by
hear_frame past w = record past {
  secondary = record past.secondary { items = past.secondary.items ++ trims_by w };
  secondary_inbox =
      if is_full past.secondary_inbox then past.secondary_inbox
      else past.secondary_inbox ++ w ∷ [];
}

-- the first number for a client is kept, and the kept one is said back
abbrev pub hear_number : Past → Tuple → ℕ → ℕ → Past
hear_number past t client number = record past {
  secondary_numbers = keep_number t client number true past.secondary_numbers;
  to_primary =
      past.to_primary
      ++ Known t client (number_said (kept_number t client past.secondary_numbers) number) ∷ [];
}

-- the commit: guest, inbox, lines and numbers become the captured ones
abbrev pub hear_end : Past → ℕ → Past
hear_end past e = record past {
  secondary = record past.copy.run { items = past.copy.run.items ++ commit ∷ [] };
  secondary_inbox = past.copy.inbox;
  secondary_numbers = past.copy.numbers;
  to_primary = past.to_primary ++ Ack e ∷ [];
}

-- what else belongs to a checkpoint is kept apart
unfoldable pub secondary_hears : Past → Message → Outcome
unfolding hear_frame
secondary_hears past (Frame index seen trim frame) =
    silently (hear_frame past (waiting_in index seen trim frame)) ToSecondary
    (Heard 1 (is_full past.secondary_inbox)) (Some (Frame index seen trim frame))
secondary_hears past (Number t client number) =
    silently (hear_number past t client number) ToSecondary (Heard 2 false)
    (Some (Number t client number))
secondary_hears past (End e) =
    quietly (hear_end past e)
    (step_with ToSecondary (Heard 11 false) (Committed e ∷ []) (Some (End e)) [])
secondary_hears past m = silently past ToSecondary (Heard (number_of m) false) (Some m)

unfoldable pub deliver_down : Past → List Message → Outcome
unfolding secondary_hears
deliver_down past [] = silently past ToSecondary Nothing None
deliver_down past (m ∷ ms) = secondary_hears (record past { to_secondary = ms }) m

-- THE PRIMARY HEARS
unfoldable pub restarts_in : List Item → List TcpFields → List Tuple
unfolding is_restart
restarts_in items [] = []
restarts_in items (s ∷ _) = if is_restart items s then tuple_of s ∷ [] else []

abbrev pub no_frames : List Item → Settling
no_frames items = record { before = items; own = []; restarts = []; is_turn = false }

unfoldable pub known_ended : Past → Tuple → ℕ → ℕ → Ended
unfolding settle_event
known_ended past t client number =
    settle_event (record past { numbers = learn_number past.numbers t client number })
    (no_frames past.primary.items)

unfoldable pub sent_ended : Past → List ℕ → Ended
unfolding settle_event restarts_in seen_of
sent_ended past frame =
    let heard = segments (frame ∷ []) in
    settle_event (record past {
      sent_heard = past.sent_heard + 1;
      known_items = past.known_items ++ map sent heard;
    }) (record (no_frames past.primary.items) {
      restarts = restarts_in past.known_items heard;
    })

-- the primary's own run with the commit in it is from then on what it knows of the other line too
abbrev pub committed_items : Past → List Item
committed_items past = past.primary.items ++ commit ∷ []

abbrev pub acknowledge : Past → Past
acknowledge past = record past {
  sent_heard = 0;
  awaits_ack = false;
  primary = record past.primary { items = committed_items past };
  known_items = committed_items past;
  numbers = learn_all past.numbers;
  progress = clear_ages past.progress;
}

unfoldable pub ack_ended : Past → Ended
unfolding settle_event
ack_ended past = settle_event (acknowledge past) (no_frames (committed_items past))

-- no other message is ever on that link, and no acknowledgement that is not awaited
unfoldable pub primary_hears : Past → Message → Outcome
unfolding outcome_with known_ended sent_ended ack_ended
primary_hears past (Known t client number) =
    outcome_with ToPrimary [] (Some (Known t client number)) (HeardBack 12 past.sent_heard)
    (known_ended past t client number)
primary_hears past (Sent frame) =
    outcome_with ToPrimary [] (Some (Sent frame)) (HeardBack 13 (past.sent_heard + 1))
    (sent_ended past frame)
primary_hears past (Ack e) =
    outcome_with ToPrimary (Acknowledged e ∷ []) (Some (Ack e)) (HeardBack 14 0) (ack_ended past)
primary_hears past m = silently past ToPrimary Nothing None

abbrev pub is_ack_message : Message → Bool
is_ack_message m = number_of m == 14

-- while it awaits an acknowledgement the primary ignores every other message
unfoldable pub deliver_up : Past → List Message → Outcome
unfolding primary_hears
deliver_up past [] = silently past ToPrimary Nothing None
deliver_up past (m ∷ ms) =
    if past.awaits_ack && not (is_ack_message m)
    then silently (record past { to_primary = ms }) ToPrimary
    (HeardBack (number_of m) past.sent_heard 0) (Some m)
    else primary_hears (record past { to_primary = ms }) m

-- THE REPORT: what is left on both links is lost, and an unfinished checkpoint is dropped
abbrev pub lose_links : Past → Past
lose_links past = record past {
  is_reported = true;
  to_secondary = [];
  to_primary = [];
  awaits_ack = false;
}

unfoldable pub secondary_survives : Past → Outcome
unfolding survive survivor_agreed order
secondary_survives past =
    let items = past.secondary.items in
    let x = survive items past.secondary_numbers (order items) in
    record {
      after = record (lose_links past) { numbers = x.numbers; progress = x.progress };
      step = step_with Report (Reported (length x.out)) [] None x.out;
      cause = None;
      agreed = survivor_agreed items x.numbers (order items);
    }

unfoldable pub primary_survives : Past → Ended
unfolding settle_event
primary_survives past = settle_event (lose_links past) (no_frames past.primary.items)

unfoldable pub report_event : Past → Outcome
unfolding secondary_survives outcome_with primary_survives
report_event past =
    if is_primary_stop past.stop then secondary_survives past
    else outcome_with Report [] None Reported (primary_survives past)

-- a checkpoint is asked for while a pair is complete and none is under way
unfoldable pub ask_event : Past → Outcome
unfolding capture
ask_event past =
    if past.awaits_ack || (is_primary_stop past.stop || is_secondary_stop past.stop)
    then silently past Ask Nothing None
    else record {
      after = capture past;
      step = step_with Ask Zero (Captured (next_capture past) Asked ∷ []) None [];
      cause = Some Asked;
      agreed = [];
    }

abbrev pub numbers_of : ℕ → ℕ → ℕ → TurnNumbers
numbers_of d b n = record { clock = d; blocks = b; steps = n }

unfoldable pub primary_event : Kind → Past → Line → Bool → TurnNumbers → Outcome
unfolding turn_primary turn_from
primary_event kind past line takes n =
    if is_primary_stop past.stop || past.awaits_ack then silently past line Nothing None
    else turn_primary past line (turn_from kind past.primary past.primary_inbox takes n)

unfoldable pub secondary_event : Kind → Past → Line → Bool → TurnNumbers → Outcome
unfolding turn_secondary turn_survivor turn_from
secondary_event kind past line takes n =
    let made = turn_from kind past.secondary past.secondary_inbox takes n in
    if is_secondary_stop past.stop then silently past line Nothing None
    else (if secondary_releases past then turn_survivor past line made
    else turn_secondary past line made)

-- THE EVENT of a line of a schedule
unfoldable pub outcome_of : Kind → List (List ℕ) → Past → Line → Outcome
unfolding primary_event secondary_event client_event deliver_down deliver_up report_event ask_event
outcome_of kind stream past (Primary d i b n) =
    primary_event kind past (Primary d i b n) i (numbers_of d b n)
outcome_of kind stream past (Secondary d i b n) =
    secondary_event kind past (Secondary d i b n) i (numbers_of d b n)
outcome_of kind stream past Client = client_event past (slice_get stream past.next)
outcome_of kind stream past ToSecondary =
    if is_secondary_stop past.stop || past.is_reported
    then silently past ToSecondary Nothing None
    else deliver_down past past.to_secondary
outcome_of kind stream past ToPrimary =
    if is_primary_stop past.stop || past.is_reported
    then silently past ToPrimary Nothing None
    else deliver_up past past.to_primary
outcome_of kind stream past StopPrimary =
    silently (record past { stop = primary_stop }) StopPrimary Zero None
outcome_of kind stream past StopSecondary =
    silently (record past { stop = secondary_stop }) StopSecondary Zero None
outcome_of kind stream past Report = report_event past
outcome_of kind stream past Ask = ask_event past
