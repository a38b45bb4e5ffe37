-- Every event keeps both guests, inboxes and the link to the secondary bytes, and releases segments of fields in
-- their ranges, or the ARP reply that it owes.
use Rattle.std.proofs.lemmas.List.Elements.{All-map, All-filter}
use Rattle.std.proofs.Common.{◌≡◌, ◌<◌, ◌^◌, ℕ, ◌+◌, Bool, true, false, List, [], ◌∷◌, ◌++◌, map, slice_get, Option, None, Some, refl, sym, ap, subst, ◌∙◌, All}
use Rattle.std.specs.List.{enumerate_from, flat_map}
use Rattle.std.proofs.lemmas.Bool.{cond_both}
use Rattle.std.proofs.lemmas.List.Elements.{All-append, All-cons, All-head, All-nil, All-push, All-tail, All-weaker}
use Rattle.colo_base.specs.declared.fault.Cause.{Cause}
use Rattle.inet_frame.specs.Counted.{tcp_in}
use Rattle.inet_frame.specs.Laws.{AreInRange}
use Rattle.inet_frame.specs.declared.tuple.Tuple.{Tuple}
use Rattle.shared_definitions.specs.Bytes.{AreBytes}
use Rattle.tcp_track.specs.Lines as lines
use Rattle.tcp_track.specs.Lines.{Item, commit, order}
use Rattle.tcp_track.specs.Stands.{is_of_client, segments}
use Rattle.settle_rules.specs.Numbers.{KeptNumber, learn_number, thin}
use Rattle.settle_rules.specs.OwnFrames.{no_own_frames, own_frames}
use Rattle.settle_rules.specs.Release.{Released, reply, tcp}
use Rattle.settle_rules.specs.Survive.{survive}
use Rattle.frame_mirror.specs.Accepted.{entry_of}
use Rattle.frame_mirror.specs.declared.ingress.Entry.TheVariants as entry
use Rattle.frame_mirror.specs.declared.ring.Waiting.{Waiting}
use Rattle.frame_mirror.proofs.AcceptLemmas.{accepted_is_kept}
use Rattle.state_wire.specs.Guest.{GuestState, Kind}
use Rattle.state_wire.specs.Regular.{IsRegular}
use Rattle.replay_log.specs.declared.lines.Line.{Line}
use Rattle.replay_log.specs.declared.lines.Line.TheVariants.{Primary, Secondary, Client, ToSecondary, ToPrimary, StopPrimary, StopSecondary, Report}
use Rattle.replay_log.specs.declared.records.Answer.{Answer}
use Rattle.replay_log.specs.declared.records.Answer.TheVariants.{Nothing, Made, HeardBack, Reported, Zero}
use Rattle.replay_log.specs.declared.records.Mark.{Mark}
use Rattle.replay_log.specs.declared.records.Mark.TheVariants.{Acknowledged}
use Rattle.splice_run.proofs.GivenLemmas.{stream_is}
use Rattle.checkpoint_form.specs.Inbox.{held_message}
use Rattle.checkpoint_form.specs.Rows.{bytes_messages, row_bytes}
use Rattle.checkpoint_form.specs.State.{disk_message, disk_messages, page_messages, state_messages}
use Rattle.colo_wire.specs.declared.messages.Message.{Message}
use Rattle.colo_wire.specs.declared.messages.Message.TheVariants.{Frame, Number, Begin, State, Page, Disk, Write, Held, Bytes, End, Known, Sent, Ack}
use Rattle.colo_wire.specs.declared.messages.Message.TheVariants as message
use Rattle.settle_rules.specs.Pieces.{pieces_of}
use Rattle.pair_theorem.specs.Checkpoint.{capture, checkpoint_messages, next_capture, row_messages}
use Rattle.pair_theorem.specs.ClientFrames.{trims_by}
use Rattle.pair_theorem.specs.Events.{Ended, Settling, accept_by, ack_ended, acknowledge, committed_items, ended_by, hear_frame, hear_number, is_full, known_ended, look_at, lose_links, mark_cause, no_frames, number_message, numbers_of, outcome_of, outcome_with, passed_frame, primary_ended, primary_hears, primary_survives, raise_count, restarts_in, scene_of, secondary_hears, secondary_survives, sent_ended, settle_event, survivor_ended, turn_primary, turn_secondary, turn_survivor, waiting_of}
use Rattle.pair_theorem.specs.FrameParts.{IsShaped, reply_due, reply_in}
use Rattle.pair_theorem.specs.GuestTurns.{TurnMade}
use Rattle.pair_theorem.specs.History.{pair_log, steps_from}
use Rattle.pair_theorem.specs.Messages.{frame_message, waiting_in}
use Rattle.pair_theorem.specs.Past.{NodeRun, Outcome, Past, Start, Step, boot, first_past, first_run, is_primary_stop, primary_stop, secondary_stop, silently}
use Rattle.pair_theorem.specs.Starts.{IsStart, boots}
use Rattle.pair_theorem.specs.TheRun.{stream_entry}
use Rattle.pair_theorem.proofs.AllLemmas.{All_at}
use Rattle.pair_theorem.proofs.EventCases.{Cases, each_case}
use Rattle.theorem_frames.specs.Shapes.{AreSentInRange, IsBuilt, ShapeOfEachLog}
use Rattle.theorem_frames.proofs.BuildLemmas.{settling_builds_lem, surviving_builds_lem}
use Rattle.theorem_frames.proofs.BytesLemmas.{NumberFits, all_learnt_fit, kept_fit, learnt_fit, own_numbers_fit, survived_fit, IsNodeOfBytes, IsTurnOfBytes, as_before, own_in_range, trims_in_range, turn_of_bytes}

-- an accepted frame or a number on the link
abbrev HasBytes : Message → Type 0
HasBytes (Frame index seen trim frame) = AreBytes frame
HasBytes (Number t client number) = number < 2 ^ 32
HasBytes (Begin e) = Unit {0}
HasBytes (State bytes) = Unit {0}
HasBytes (Page k bytes) = Unit {0}
HasBytes (Disk first bytes) = Unit {0}
HasBytes (Write k bytes) = Unit {0}
HasBytes (Held index seen trim frame) = Unit {0}
HasBytes (message.Line t mac flags client own number refused acked window mss base) = Unit {0}
HasBytes (Bytes bytes) = Unit {0}
HasBytes (End e) = Unit {0}
HasBytes (Known t client number) = Unit {0}
HasBytes (Sent frame) = Unit {0}
HasBytes (Ack e) = Unit {0}

pub record IsOfBytes (kind : Kind) (past : Past) : Type 0 where
  pub primary : IsNodeOfBytes kind past.primary past.primary_inbox
  pub secondary : IsNodeOfBytes kind past.secondary past.secondary_inbox
  pub copy : IsNodeOfBytes kind past.copy.run past.copy.inbox
  pub numbers : All NumberFits past.numbers
  pub told : All NumberFits past.secondary_numbers
  pub copied : All NumberFits past.copy.numbers
  pub link : All HasBytes past.to_secondary

-- A CAPTURE: no message of a checkpoint is an accepted frame
pages_have : (n : ℕ) (pages : List (List ℕ)) →
    All HasBytes (map (λ (x : ℕ × List ℕ). Page x.0 x.1) (enumerate_from n pages))
pages_have n [] = All-nil HasBytes
pages_have n (p ∷ pages) =
    All-cons HasBytes (Page n p) (map (λ (x : ℕ × List ℕ). Page x.0 x.1) (enumerate_from (n + 1) pages)) tt
    (pages_have (n + 1) pages)

disk_has : (n : ℕ) (pieces : List (List (List ℕ))) → All HasBytes (map disk_message (enumerate_from n pieces))
disk_has n [] = All-nil HasBytes
disk_has n (p ∷ pieces) =
    All-cons HasBytes (disk_message (n, p)) (map disk_message (enumerate_from (n + 1) pieces)) tt
    (disk_has (n + 1) pieces)

held_have : (inbox : List Waiting) → All HasBytes (map held_message inbox)
held_have [] = All-nil HasBytes
held_have (w ∷ inbox) = All-cons HasBytes (held_message w) (map held_message inbox) tt (held_have inbox)

bytes_have : (pieces : List (List ℕ)) → All HasBytes (map Bytes pieces)
bytes_have [] = All-nil HasBytes
bytes_have (p ∷ pieces) = All-cons HasBytes (Bytes p) (map Bytes pieces) tt (bytes_have pieces)

rows_have : (items : List Item) (numbers : List KeptNumber) (tuples : List Tuple) →
    All HasBytes (flat_map (row_messages items numbers) tuples)
unfolding row_messages
rows_have items numbers [] = All-nil HasBytes
rows_have items numbers (t ∷ tuples) =
    All-append HasBytes (row_messages items numbers t) (flat_map (row_messages items numbers) tuples)
    (All-cons HasBytes _ (bytes_messages (row_bytes (lines.line t items))) tt
    (bytes_have (pieces_of 65536 (row_bytes (lines.line t items))))) (rows_have items numbers tuples)

state_has : (s : GuestState) → All HasBytes (state_messages s)
state_has s =
    All-cons HasBytes (State s.bytes) (page_messages s.pages ++ disk_messages s.sectors) tt
    (All-append HasBytes (page_messages s.pages) (disk_messages s.sectors) (pages_have 0 s.pages)
    (disk_has 0 (pieces_of 128 s.sectors)))

messages_have : (past : Past) (numbers : List KeptNumber) (e : ℕ) →
    All HasBytes (checkpoint_messages past numbers e)
unfolding checkpoint_messages
messages_have past numbers e =
    let state = state_messages past.primary.run.state in
    let inbox = map held_message past.primary_inbox in
    let rows = flat_map (row_messages past.primary.items numbers) (order past.primary.items) in
    All-cons HasBytes (Begin e) (state ++ inbox ++ rows) tt
    (All-append HasBytes (state ++ inbox) rows
    (All-append HasBytes state inbox (state_has past.primary.run.state) (held_have past.primary_inbox))
    (rows_have past.primary.items numbers (order past.primary.items)))

captured : (kind : Kind) (past : Past) → IsOfBytes kind past → IsOfBytes kind (capture past)
unfolding capture thin
captured kind past h =
    let numbers = thin past.primary.items past.numbers in
    let thinned =
    All-filter (λ (k : KeptNumber). is_of_client (lines.line k.tuple past.primary.items).opening k.client) NumberFits
    past.numbers h.numbers in
    record {
      primary = h.primary;
      secondary = h.secondary;
      copy = h.primary;
      numbers = thinned;
      told = h.told;
      copied = thinned;
      link = All-append HasBytes past.to_secondary
          (checkpoint_messages past numbers (next_capture past) ++ End (next_capture past) ∷ []) h.link
          (All-push HasBytes (checkpoint_messages past numbers (next_capture past)) (End (next_capture past))
          (messages_have past numbers (next_capture past)) tt);
    }

-- A SETTLING
record IsEndedOfBytes (kind : Kind) (e : Ended) : Type 0 where
  after : IsOfBytes kind e.after
  out : All IsBuilt e.out

numbers_have : (numbers : List KeptNumber) → All NumberFits numbers → All HasBytes (map number_message numbers)
numbers_have numbers h = All-map HasBytes number_message numbers h

settled : (kind : Kind) (past : Past) (x : Settling) → IsOfBytes kind past → AreSentInRange x.before →
    All AreInRange x.own → IsEndedOfBytes kind (settle_event past x)
unfolding settle_event ended_by own_frames
settled kind past x h before own =
    let frames = own_frames x.before past.numbers past.progress x.own in
    let fit =
    own_numbers_fit (no_own_frames x.before past.numbers past.progress) x.own
    (record { all = h.numbers; new = All-nil NumberFits }) own in
    record {
      after = record {
        primary = h.primary;
        secondary = h.secondary;
        copy = h.copy;
        numbers = fit.all;
        told = h.told;
        copied = h.copied;
        link =
            cond_both past.is_reported past.to_secondary
            (past.to_secondary ++ map number_message frames.new_numbers) (All HasBytes) (λ e. h.link)
            (λ e. All-append HasBytes past.to_secondary (map number_message frames.new_numbers) h.link
            (numbers_have frames.new_numbers fit.new));
      };
      out = settling_builds_lem (scene_of past frames x) frames.progress
          (own_in_range (no_own_frames x.before past.numbers past.progress) x.own before own);
    }

-- A STEP: the past after it, and each frame that it releases
pub record IsStepOfBytes (a : Start) (o : Outcome) : Type 0 where
  pub after : IsOfBytes a.kind o.after
  pub shaped : All (IsShaped (reply_due a o.step)) o.step.released

built_shaped : (due : Option (List ℕ)) (r : Released) → IsBuilt r → IsShaped due r
built_shaped due (tcp s payload) h = h
built_shaped due (reply b) h = absurd h

all_shaped : (due : Option (List ℕ)) (out : List Released) → All IsBuilt out → All (IsShaped due) out
all_shaped due out h = All-weaker IsBuilt (IsShaped due) (built_shaped due) out h

marked : (a : Start) (why : Option Cause) (line : Line) (marks : List Mark) (delivered : Option Message)
    (answer : ℕ → Answer) (e : Ended) → IsEndedOfBytes a.kind e →
    IsStepOfBytes a (mark_cause why line marks delivered answer e)
unfolding mark_cause
marked a None line marks delivered answer e h = record {
  after = h.after;
  shaped = all_shaped (reply_due a (mark_cause None line marks delivered answer e).step) e.out h.out;
}
marked a (Some why) line marks delivered answer e h = record {
  after = captured a.kind e.after h.after;
  shaped = all_shaped (reply_due a (mark_cause (Some why) line marks delivered answer e).step) e.out h.out;
}

with_cause : (a : Start) (line : Line) (marks : List Mark) (delivered : Option Message) (answer : ℕ → Answer)
    (e : Ended) → IsEndedOfBytes a.kind e → IsStepOfBytes a (outcome_with line marks delivered answer e)
unfolding outcome_with
with_cause a line marks delivered answer e h = marked a e.cause line marks delivered answer e h

silent : (a : Start) (after : Past) (line : Line) (answer : Answer) (delivered : Option Message) →
    IsOfBytes a.kind after → IsStepOfBytes a (silently after line answer delivered)
silent a after line answer delivered h = record {
  after = h;
  shaped = All-nil (IsShaped (reply_due a (silently after line answer delivered).step));
}

-- TURNS
primary_turns : (a : Start) (past : Past) (line : Line) (made : TurnMade) → IsOfBytes a.kind past →
    IsTurnOfBytes a.kind made → IsStepOfBytes a (turn_primary past line made)
unfolding turn_primary primary_ended
primary_turns a past line made h g =
    with_cause a line [] None (Made made.index) (primary_ended past made)
    (settled a.kind (record past {
      primary = made.run;
      primary_inbox = made.inbox;
      primary_turned = raise_count past.primary_turned;
    }) (record {
      before = past.primary.items;
      own = segments made.output;
      restarts = [];
      is_turn = true;
    }) (record {
      primary = g.node;
      secondary = h.secondary;
      copy = h.copy;
      numbers = h.numbers;
      told = h.told;
      copied = h.copied;
      link = h.link;
    }) h.primary.items g.own)

survivor_turns : (a : Start) (past : Past) (line : Line) (made : TurnMade) → IsOfBytes a.kind past →
    IsTurnOfBytes a.kind made → IsStepOfBytes a (turn_survivor past line made)
unfolding turn_survivor survivor_ended
survivor_turns a past line made h g =
    with_cause a line [] None (Made made.index) (survivor_ended past made)
    (settled a.kind (record past {
      secondary = made.run;
      secondary_inbox = made.inbox;
      secondary_turned = raise_count past.secondary_turned;
    }) (record {
      before = past.secondary.items;
      own = segments made.output;
      restarts = [];
      is_turn = true;
    }) (record {
      primary = h.primary;
      secondary = g.node;
      copy = h.copy;
      numbers = h.numbers;
      told = h.told;
      copied = h.copied;
      link = h.link;
    }) h.secondary.items g.own)

secondary_turns : (a : Start) (past : Past) (line : Line) (made : TurnMade) → IsOfBytes a.kind past →
    IsTurnOfBytes a.kind made → IsStepOfBytes a (turn_secondary past line made)
unfolding turn_secondary
secondary_turns a past line made h g =
    silent a _ line (Made made.index 0) None
    (record {
      primary = h.primary;
      secondary = g.node;
      copy = h.copy;
      numbers = h.numbers;
      told = h.told;
      copied = h.copied;
      link = h.link;
    })

-- CLIENT FRAMES
pub more_waiting : (kind : Kind) (node : NodeRun) (inbox : List Waiting) (w : Waiting) → AreBytes w.frame →
    IsNodeOfBytes kind node inbox →
    IsNodeOfBytes kind (record node { items = node.items ++ trims_by w }) (inbox ++ w ∷ [])
more_waiting kind node inbox w bytes h = record {
  fits = h.fits;
  bytes = h.bytes;
  items = trims_in_range node.items w h.items;
  waiting = All-push (λ (x : Waiting). AreBytes x.frame) inbox w h.waiting bytes;
}

accepted : (kind : Kind) (by_secondary : Bool) (past : Past) (w : Waiting) → AreBytes w.frame → IsOfBytes kind past →
    IsOfBytes kind (accept_by by_secondary past w (trims_by w))
unfolding accept_by
accepted kind true past w bytes h = record {
  primary = h.primary;
  secondary = more_waiting kind past.secondary past.secondary_inbox w bytes h.secondary;
  copy = h.copy;
  numbers = h.numbers;
  told = h.told;
  copied = h.copied;
  link = h.link;
}
accepted kind false past w bytes h = record {
  primary = more_waiting kind past.primary past.primary_inbox w bytes h.primary;
  secondary = h.secondary;
  copy = h.copy;
  numbers = h.numbers;
  told = h.told;
  copied = h.copied;
  link =
      cond_both past.is_reported past.to_secondary (past.to_secondary ++ frame_message w ∷ []) (All HasBytes)
      (λ e. h.link) (λ e. All-push HasBytes past.to_secondary (frame_message w) h.link bytes);
}

-- the reply that is owed is that of the client event's frame
reply_owed : (a : Start) (past : Past) (frame b : List ℕ) → slice_get a.stream past.next ≡ Some frame →
    entry_of frame ≡ entry.Answer b → reply_in (stream_entry a past.next) ≡ Some b
unfolding stream_entry
reply_owed a past frame b at e =
    ap (λ (f : List ℕ). reply_in (entry_of f)) (sym (stream_is a.stream past.next frame at)) ∙ ap reply_in e

-- MESSAGES
secondary_told : (a : Start) (past : Past) (m : Message) (ms : List Message) → past.to_secondary ≡ m ∷ ms →
    IsOfBytes a.kind past → IsStepOfBytes a (secondary_hears (record past { to_secondary = ms }) m)
unfolding secondary_hears hear_frame
secondary_told a past m ms e h = by m (All-head HasBytes m ms link) (All-tail HasBytes m ms link)
  where
    link : All HasBytes (m ∷ ms)
    link = subst (All HasBytes) e h.link

    same : All HasBytes ms → (answer : Answer) (n : Message) →
        IsStepOfBytes a (silently (record past { to_secondary = ms }) ToSecondary answer (Some n))
    same rest answer n =
        silent a (record past { to_secondary = ms }) ToSecondary answer (Some n)
        (record {
          primary = h.primary;
          secondary = h.secondary;
          copy = h.copy;
          numbers = h.numbers;
          told = h.told;
          copied = h.copied;
          link = rest;
        })

    by : (n : Message) → HasBytes n → All HasBytes ms →
        IsStepOfBytes a (secondary_hears (record past { to_secondary = ms }) n)
    by (Frame index seen trim frame) bytes rest =
        let w = waiting_in index seen trim frame in
        let more = more_waiting a.kind past.secondary past.secondary_inbox w bytes h.secondary in
        silent a _ ToSecondary _ (Some (Frame index seen trim frame)) (record {
          primary = h.primary;
          secondary = record {
            fits = h.secondary.fits;
            bytes = h.secondary.bytes;
            items = more.items;
            waiting =
                cond_both (is_full past.secondary_inbox) past.secondary_inbox (past.secondary_inbox ++ w ∷ [])
                (All (λ (x : Waiting). AreBytes x.frame)) (λ f. h.secondary.waiting) (λ f. more.waiting);
          };
          copy = h.copy;
          numbers = h.numbers;
          told = h.told;
          copied = h.copied;
          link = rest;
        })
    by (Number t client number) bytes rest =
        silent a (hear_number (record past { to_secondary = ms }) t client number) ToSecondary _ _
        (record {
          primary = h.primary;
          secondary = h.secondary;
          copy = h.copy;
          numbers = h.numbers;
          told = kept_fit t client number true past.secondary_numbers bytes h.told;
          copied = h.copied;
          link = rest;
        })
    by (End n) bytes rest = record {
      after = record {
        primary = h.primary;
        secondary = record {
          fits = h.copy.fits;
          bytes = h.copy.bytes;
          items = as_before past.copy.run.items (commit ∷ []) refl h.copy.items;
          waiting = h.copy.waiting;
        };
        copy = h.copy;
        numbers = h.numbers;
        told = h.copied;
        copied = h.copied;
        link = rest;
      };
      shaped = All-nil (IsShaped None);
    }
    by (Begin n) bytes rest = same rest _ (Begin n)
    by (State b) bytes rest = same rest _ (State b)
    by (Page k b) bytes rest = same rest _ (Page k b)
    by (Disk k b) bytes rest = same rest _ (Disk k b)
    by (Write k b) bytes rest = same rest _ (Write k b)
    by (Held index seen trim frame) bytes rest = same rest _ (Held index seen trim frame)
    by (message.Line t mac flags client own number refused acked window mss base) bytes rest =
        same rest _ (message.Line t mac flags client own number refused acked window mss base)
    by (Bytes b) bytes rest = same rest _ (Bytes b)
    by (Known t client number) bytes rest = same rest _ (Known t client number)
    by (Sent frame) bytes rest = same rest _ (Sent frame)
    by (Ack n) bytes rest = same rest _ (Ack n)

primary_told : (a : Start) (past : Past) (m : Message) (ms : List Message) → IsOfBytes a.kind past →
    IsStepOfBytes a (primary_hears (record past { to_primary = ms }) m)
unfolding primary_hears known_ended sent_ended ack_ended
primary_told a past m ms h = by m
  where
    idle : (n : Message) → IsStepOfBytes a (silently (record past { to_primary = ms }) ToPrimary Nothing None)
    idle n =
        silent a (record past { to_primary = ms }) ToPrimary Nothing None
        (record {
          primary = h.primary;
          secondary = h.secondary;
          copy = h.copy;
          numbers = h.numbers;
          told = h.told;
          copied = h.copied;
          link = h.link;
        })

    by : (n : Message) → IsStepOfBytes a (primary_hears (record past { to_primary = ms }) n)
    by (Known t client number) =
        with_cause a ToPrimary [] (Some (Known t client number)) (HeardBack 12 past.sent_heard)
        (known_ended (record past { to_primary = ms }) t client number)
        (settled a.kind
        (record past { to_primary = ms; numbers = learn_number past.numbers t client number })
        (no_frames past.primary.items)
        (record {
          primary = h.primary;
          secondary = h.secondary;
          copy = h.copy;
          numbers = learnt_fit t client number past.numbers h.numbers;
          told = h.told;
          copied = h.copied;
          link = h.link;
        }) h.primary.items
        (All-nil AreInRange))
    by (Sent frame) =
        with_cause a ToPrimary [] (Some (Sent frame)) (HeardBack 13 (past.sent_heard + 1))
        (sent_ended (record past { to_primary = ms }) frame)
        (settled a.kind (record past {
          to_primary = ms;
          sent_heard = past.sent_heard + 1;
          known_items = past.known_items ++ map lines.sent (segments (frame ∷ []));
        }) (record (no_frames past.primary.items) {
          restarts = restarts_in past.known_items (segments (frame ∷ []));
        })
        (record {
          primary = h.primary;
          secondary = h.secondary;
          copy = h.copy;
          numbers = h.numbers;
          told = h.told;
          copied = h.copied;
          link = h.link;
        }) h.primary.items
        (All-nil AreInRange))
    by (Ack n) =
        let items = as_before past.primary.items (commit ∷ []) refl h.primary.items in
        with_cause a ToPrimary (Acknowledged n ∷ []) (Some (Ack n)) (HeardBack 14 0)
        (ack_ended (record past { to_primary = ms }))
        (settled a.kind (acknowledge (record past { to_primary = ms })) (no_frames (committed_items past)) (record {
          primary = record {
            fits = h.primary.fits;
            bytes = h.primary.bytes;
            items = items;
            waiting = h.primary.waiting;
          };
          secondary = h.secondary;
          copy = h.copy;
          numbers = all_learnt_fit past.numbers h.numbers;
          told = h.told;
          copied = h.copied;
          link = h.link;
        }) items (All-nil AreInRange))
    by (Frame index seen trim frame) = idle (Frame index seen trim frame)
    by (Number t client number) = idle (Number t client number)
    by (Begin n) = idle (Begin n)
    by (State b) = idle (State b)
    by (Page k b) = idle (Page k b)
    by (Disk k b) = idle (Disk k b)
    by (Write k b) = idle (Write k b)
    by (Held index seen trim frame) = idle (Held index seen trim frame)
    by (message.Line t mac flags client own number refused acked window mss base) = idle (Ack 0)
    by (Bytes b) = idle (Bytes b)
    by (End n) = idle (End n)

-- THE REPORT
secondary_goes_on : (a : Start) (past : Past) → IsOfBytes a.kind past → IsStepOfBytes a (secondary_survives past)
unfolding secondary_survives survive
secondary_goes_on a past h = record {
  after = record {
    primary = h.primary;
    secondary = h.secondary;
    copy = h.copy;
    numbers =
        survived_fit past.secondary.items (record { numbers = past.secondary_numbers; progress = []; out = [] })
        (order past.secondary.items) h.secondary.items h.told;
    told = h.told;
    copied = h.copied;
    link = All-nil HasBytes;
  };
  shaped =
      all_shaped None (survive past.secondary.items past.secondary_numbers (order past.secondary.items)).out
      (surviving_builds_lem past.secondary.items past.secondary_numbers h.secondary.items);
}

primary_goes_on : (a : Start) (past : Past) → IsOfBytes a.kind past →
    IsStepOfBytes a (outcome_with Report [] None Reported (primary_survives past))
unfolding primary_survives
primary_goes_on a past h =
    with_cause a Report [] None Reported (primary_survives past)
    (settled a.kind (lose_links past) (no_frames past.primary.items)
    (record {
      primary = h.primary;
      secondary = h.secondary;
      copy = h.copy;
      numbers = h.numbers;
      told = h.told;
      copied = h.copied;
      link = All-nil HasBytes;
    }) h.primary.items
    (All-nil AreInRange))

-- EVERY EVENT
pub bytes_last : (a : Start) → IsRegular a.kind → All AreBytes a.stream →
    Cases a.kind a.stream (λ past x o. IsOfBytes a.kind past → IsStepOfBytes a o)
unfolding secondary_hears capture
bytes_last a regular stream = record {
  idle = λ past x e f h. silent a past x Nothing None h;
  primary_turn = λ past d i b n e f h. primary_turns a past (Primary d i b n) _ h
      (turn_of_bytes a.kind past.primary past.primary_inbox i (numbers_of d b n) regular h.primary);
  secondary_turn = λ past d i b n e f h. secondary_turns a past (Secondary d i b n) _ h
      (turn_of_bytes a.kind past.secondary past.secondary_inbox i (numbers_of d b n) regular h.secondary);
  survivor_turn = λ past d i b n e h. survivor_turns a past (Secondary d i b n) _ h
      (turn_of_bytes a.kind past.secondary past.secondary_inbox i (numbers_of d b n) regular h.secondary);
  accepts = λ past frame kept t e f h.
      let w = waiting_of past (look_at past (tcp_in kept)) kept in
      let bytes = (accepted_is_kept frame kept (All_at AreBytes a.stream past.next frame stream t.0) e).bytes in
      silent a (accept_by (is_primary_stop past.stop) past w (trims_by w)) Client _ None
      (accepted a.kind (is_primary_stop past.stop) past w bytes h);
  is_full = λ past frame kept t e f h. silent a (passed_frame past) Client _ None (passed past h);
  answers = λ past frame b t e h. record {
    after = passed past h;
    shaped = All-cons (IsShaped (reply_in (stream_entry a past.next))) (reply b) []
        (reply_owed a past frame b t.0 e) (All-nil (IsShaped (reply_in (stream_entry a past.next))));
  };
  drops = λ past frame why t e h. silent a (passed_frame past) Client _ None (passed past h);
  loses = λ past frame t e f h. silent a (passed_frame past) Client _ None (passed past h);
  secondary_hears = λ past m ms e f g h. secondary_told a past m ms e h;
  ignores = λ past m ms e f g running alone h. silent a (record past { to_primary = ms }) ToPrimary _ (Some m)
      (record {
        primary = h.primary;
        secondary = h.secondary;
        copy = h.copy;
        numbers = h.numbers;
        told = h.told;
        copied = h.copied;
        link = h.link;
      });
  primary_hears = λ past m ms e f running alone h. primary_told a past m ms h;
  primary_stops = λ past h. silent a (record past { stop = primary_stop }) StopPrimary Zero None
      (record {
        primary = h.primary;
        secondary = h.secondary;
        copy = h.copy;
        numbers = h.numbers;
        told = h.told;
        copied = h.copied;
        link = h.link;
      });
  secondary_stops = λ past h. silent a (record past { stop = secondary_stop }) StopSecondary Zero None
      (record {
        primary = h.primary;
        secondary = h.secondary;
        copy = h.copy;
        numbers = h.numbers;
        told = h.told;
        copied = h.copied;
        link = h.link;
      });
  secondary_left = λ past e h. secondary_goes_on a past h;
  primary_left = λ past e h. primary_goes_on a past h;
  asks = λ past e f g h. record { after = captured a.kind past h; shaped = All-nil (IsShaped None) };
}
  where
    passed : (past : Past) → IsOfBytes a.kind past → IsOfBytes a.kind (passed_frame past)
    passed past h = record {
      primary = h.primary;
      secondary = h.secondary;
      copy = h.copy;
      numbers = h.numbers;
      told = h.told;
      copied = h.copied;
      link = h.link;
    }

-- EVERY LOG
each_shaped : (a : Start) → Cases a.kind a.stream (λ past x o. IsOfBytes a.kind past → IsStepOfBytes a o) →
    (past : Past) (schedule : List Line) → IsOfBytes a.kind past →
    All (λ (s : Step). All (IsShaped (reply_due a s)) s.released) (steps_from a.kind a.stream past schedule)
unfolding steps_from
each_shaped a cases past [] h = All-nil (λ (s : Step). All (IsShaped (reply_due a s)) s.released)
each_shaped a cases past (x ∷ xs) h =
    let o = outcome_of a.kind a.stream past x in
    let step = each_case a.kind a.stream (λ (p : Past) (l : Line) (q : Outcome). IsOfBytes a.kind p → IsStepOfBytes a q)
    cases past x h in
    All-cons (λ (s : Step). All (IsShaped (reply_due a s)) s.released) o.step
    (steps_from a.kind a.stream o.after xs) step.shaped (each_shaped a cases o.after xs step.after)

-- a start's kind is regular, its stream is bytes, and both nodes hold bytes
pub record StartsOfBytes (a : Start) : Type 0 where
  pub regular : IsRegular a.kind
  pub stream : All AreBytes a.stream
  pub first : IsOfBytes a.kind (first_past a)

pub bytes_of_start : (a : Start) → IsStart a → StartsOfBytes a
bytes_of_start a (boots kind stream state m n regular fits bytes are) =
    let node : IsNodeOfBytes kind (first_run (boot kind stream state m n)) [] = record {
      fits = fits;
      bytes = bytes;
      items = All-nil AreInRange;
      waiting = All-nil (λ (w : Waiting). AreBytes w.frame);
    } in
    record {
      regular = regular;
      stream = are;
      first = record {
        primary = node;
        secondary = node;
        copy = node;
        numbers = All-nil NumberFits;
        told = All-nil NumberFits;
        copied = All-nil NumberFits;
        link = All-nil HasBytes;
      };
    }

pub shape_of_each_log : ShapeOfEachLog
unfolding pair_log
shape_of_each_log a schedule start =
    let h = bytes_of_start a start in
    each_shaped a (bytes_last a h.regular h.stream) (first_past a) schedule h.first
