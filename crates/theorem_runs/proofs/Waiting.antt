-- The frames that wait, in both inboxes, in the captured one and on the link, are those that the log says.
use Rattle.std.proofs.Common.{◌≡◌, ℕ, ◌+◌, ◌≤◌, ◌&&◌, ◌==◌, Bool, true, false, List, [], ◌∷◌, ◌++◌, append-nil, map, Option, None, Some, refl, sym, ap, subst, ◌∙◌, arith, eq-eqb, slice_get, unwrap_or}
use Rattle.std.specs.Prelude.{if◌then◌else◌}
use Rattle.std.specs.List.{AllByRecursion, filter_map}
use Rattle.std.specs.List.{cons_option}
use Rattle.std.proofs.lemmas.Bool.{cond-true, cond-false, eqb-true}
use Rattle.std.proofs.lemmas.List.Elements.{filter_map-append}
use Rattle.inet_frame.specs.Counted.{tcp_in}
use Rattle.tcp_track.specs.declared.openings.Opening.{Opening}
use Rattle.settle_rules.specs.Numbers.{KeptNumber}
use Rattle.settle_rules.specs.Progress.{ProgressTable}
use Rattle.settle_rules.specs.Release.{reply}
use Rattle.state_wire.specs.Guest.{Kind}
use Rattle.frame_mirror.specs.Accepted.{entry_of}
use Rattle.frame_mirror.specs.declared.ingress.Entry.{Entry}
use Rattle.frame_mirror.specs.declared.ingress.Entry.TheVariants as entry
use Rattle.frame_mirror.specs.declared.ring.Waiting.{Waiting}
use Rattle.colo_wire.specs.declared.messages.Message.{Message}
use Rattle.colo_wire.specs.declared.messages.Message.TheVariants.{Frame, Number, Begin, State, Page, Disk, Write, Held, Bytes, End, Known, Sent, Ack}
use Rattle.colo_wire.specs.declared.messages.Message.TheVariants as message
use Rattle.replay_log.specs.declared.lines.Line.{Line}
use Rattle.replay_log.specs.declared.lines.Line.TheVariants.{Primary, Secondary, Client, ToSecondary, ToPrimary, StopPrimary, StopSecondary, Report, Ask}
use Rattle.replay_log.specs.declared.records.Answer.TheVariants.{Accepted, Arp, Dropped, Full, Lost, Nothing}
use Rattle.replay_log.specs.declared.records.Record.{Record}
use Rattle.splice_run.specs.declared.seen.ClientFrame.{ClientFrame}
use Rattle.splice_run.specs.Frames.{client_frame, seen_first, seen_in}
use Rattle.splice_run.specs.Runs.{accepted_frame, kept_of, kept_where}
use Rattle.pair_theorem.specs.Checkpoint.{capture, checkpoint_messages}
use Rattle.pair_theorem.specs.ClientFrames.{trims_by}
use Rattle.pair_theorem.specs.Events.{accept_by, acknowledge, hear_frame, is_full, lose_links, look_at, number_message, numbers_of, passed_frame, primary_hears, secondary_hears, secondary_survives, turn_secondary, waiting_of}
use Rattle.pair_theorem.specs.GuestTurns.{TurnNumbers, turn_from, turn_if, turn_with, turn_without}
use Rattle.pair_theorem.specs.History.{entries}
use Rattle.pair_theorem.specs.Messages.{frame_message, waiting_in}
use Rattle.pair_theorem.specs.Past.{NodeRun, Past, Start, Step, is_primary_stop, step_with}
use Rattle.pair_theorem.proofs.EachHistory.{Keeps, Reached, each_history}
use Rattle.pair_theorem.proofs.EventCases.{Cases}
use Rattle.pair_theorem.proofs.MessageCases.{heard_back_case, heard_case}
use Rattle.theorem_runs.specs.Links.{IsPart, copied_parts}
use Rattle.theorem_runs.specs.Runs.{AreTold, IsTold, WaitRightly, waiting_on}
use Rattle.theorem_runs.proofs.Checkpoints.{parts_are}
use Rattle.theorem_runs.proofs.Cuts.{entries-push}
use Rattle.theorem_runs.proofs.Growing.{seen_new, seen_stays}
use Rattle.theorem_runs.proofs.ListFacts.{all_append, all_weaken}
use Rattle.theorem_runs.proofs.Settled.{ack_settled, known_base, known_settled, left_settled, primary_base, primary_settled, secondary_base, sent_base, sent_settled, survivor_settled, told_past}

-- WHAT STAYS when the log grows and more frames come
pub told_longer : (a : Start) (log : List Record) (r : Record) (old new : ℕ) → old ≤ new → (w : Waiting)
    → IsTold a log old w → IsTold a (log ++ r ∷ []) new w
told_longer a log r old new le w h = record {
  below = let b = h.below in omega (arith, b, le);
  frame = h.frame;
  seen = seen_stays log r w.index w.seen h.seen;
}

pub all_longer : (a : Start) (log : List Record) (r : Record) (old new : ℕ) → old ≤ new → (ws : List Waiting)
    → AllByRecursion (IsTold a log old) ws → AllByRecursion (IsTold a (log ++ r ∷ []) new) ws
all_longer a log r old new le ws h =
    all_weaken (IsTold a log old) (IsTold a (log ++ r ∷ []) new) ws (told_longer a log r old new le) h

-- an event that names no frame
fresh_still : (log : List Record) (r : Record) (i : ℕ) → client_frame r ≡ None → seen_in log i ≡ None
    → seen_in (log ++ r ∷ []) i ≡ None
fresh_still log r i none e =
    seen_new log r i e ∙ ap (λ (f : Option ClientFrame). seen_first f i None) none

no_frame : (a : Start) (log : List Record) (r : Record) (past : Past) → client_frame r ≡ None → WaitRightly a log past
    → WaitRightly a (log ++ r ∷ []) past
no_frame a log r past none h =
    let same : past.next ≤ past.next = omega arith in
    record {
      primary = all_longer a log r past.next past.next same past.primary_inbox h.primary;
      secondary = all_longer a log r past.next past.next same past.secondary_inbox h.secondary;
      copy = all_longer a log r past.next past.next same past.copy.inbox h.copy;
      link = all_longer a log r past.next past.next same (filter_map waiting_on past.to_secondary) h.link;
      fresh = λ i le. fresh_still log r i none (h.fresh i le);
    }

-- one that names the next frame
named_frame : (a : Start) (log : List Record) (r : Record) (past : Past) (seen : Option Opening)
    → client_frame r ≡ Some (record { index = past.next; seen = seen }) → WaitRightly a log past
    → WaitRightly a (log ++ r ∷ []) (record past { next = past.next + 1 })
named_frame a log r past seen named h =
    let more : past.next ≤ past.next + 1 = omega arith in
    record {
      primary = all_longer a log r past.next (past.next + 1) more past.primary_inbox h.primary;
      secondary = all_longer a log r past.next (past.next + 1) more past.secondary_inbox h.secondary;
      copy = all_longer a log r past.next (past.next + 1) more past.copy.inbox h.copy;
      link = all_longer a log r past.next (past.next + 1) more (filter_map waiting_on past.to_secondary) h.link;
      fresh = λ i le. seen_new log r i (h.fresh i (omega (arith, le)))
          ∙ (ap (λ (f : Option ClientFrame). seen_first f i None) named
          ∙ cond-false (past.next == i) (Some seen) None (other i le));
    }
  where
    other : (i : ℕ) → past.next + 1 ≤ i → (past.next == i) ≡ false
    other i le = by (past.next == i) refl
      where
        by : (b : Bool) → (past.next == i) ≡ b → b ≡ false
        by true e = let same = eqb-true past.next i e in absurd (omega (arith, le, same))
        by false e = refl

-- WHAT IS ON THE LINK: numbers and parts of a checkpoint bring no frame
numbers_bring_none : (new : List KeptNumber) → filter_map waiting_on (map number_message new) ≡ []
numbers_bring_none [] = refl
numbers_bring_none (k ∷ new) = numbers_bring_none new

part_brings_none : (m : Message) → IsPart m → waiting_on m ≡ None
part_brings_none (Frame index seen trim frame) h = absurd h
part_brings_none (Number t client number) h = absurd h
part_brings_none (Begin e) h = refl
part_brings_none (State bytes) h = refl
part_brings_none (Page k bytes) h = refl
part_brings_none (Disk first bytes) h = refl
part_brings_none (Write k bytes) h = absurd h
part_brings_none (Held index seen trim frame) h = refl
part_brings_none (message.Line t mac flags client own number refused acked window mss base) h = refl
part_brings_none (Bytes bytes) h = refl
part_brings_none (End e) h = absurd h
part_brings_none (Known t client number) h = absurd h
part_brings_none (Sent frame) h = absurd h
part_brings_none (Ack e) h = absurd h

parts_bring_none : (ms : List Message) → AllByRecursion IsPart ms → filter_map waiting_on ms ≡ []
parts_bring_none [] h = refl
parts_bring_none (m ∷ ms) h = none_first (waiting_on m) (part_brings_none m h.0) (parts_bring_none ms h.1)
  where
    none_first : (o : Option Waiting) → o ≡ None → filter_map waiting_on ms ≡ []
        → cons_option o (filter_map waiting_on ms) ≡ []
    none_first None e h = h
    none_first (Some w) e h = absurd (cc e)

pub link-told : (past : Past) (ns : List KeptNumber) (ps : ProgressTable) (new : List KeptNumber)
    → filter_map waiting_on (told_past past ns ps new).to_secondary ≡ filter_map waiting_on past.to_secondary
link-told past ns ps new = by past.is_reported
  where
    by : (b : Bool) → filter_map waiting_on (if b then past.to_secondary else past.to_secondary
        ++ map number_message new) ≡ filter_map waiting_on past.to_secondary
    by true = refl
    by false =
        filter_map-append waiting_on past.to_secondary (map number_message new)
        ∙ (ap (λ (ws : List Waiting). filter_map waiting_on past.to_secondary ++ ws) (numbers_bring_none new)
        ∙ append-nil (filter_map waiting_on past.to_secondary))

pub link-captured : (past : Past)
    → filter_map waiting_on (capture past).to_secondary ≡ filter_map waiting_on past.to_secondary
unfolding capture checkpoint_messages copied_parts
link-captured past =
    let p = capture past in
    let parts = copied_parts p.copy p.captures in
    filter_map-append waiting_on past.to_secondary (parts ++ End p.captures ∷ [])
    ∙ (ap (λ (ws : List Waiting). filter_map waiting_on past.to_secondary ++ ws)
    (filter_map-append waiting_on parts (End p.captures ∷ [])
    ∙ (append-nil (filter_map waiting_on parts) ∙ parts_bring_none parts (parts_are p.copy p.captures)))
    ∙ append-nil (filter_map waiting_on past.to_secondary))

told_waits : (a : Start) (log : List Record) (past : Past) (ns : List KeptNumber) (ps : ProgressTable)
    (new : List KeptNumber) → WaitRightly a log past → WaitRightly a log (told_past past ns ps new)
told_waits a log past ns ps new h = record {
  primary = h.primary;
  secondary = h.secondary;
  copy = h.copy;
  link = subst (λ (ws : List Waiting). AllByRecursion (IsTold a log past.next) ws) (sym (link-told past ns ps new))
      h.link;
  fresh = h.fresh;
}

captured_waits : (a : Start) (log : List Record) (past : Past) → WaitRightly a log past
    → WaitRightly a log (capture past)
unfolding capture
captured_waits a log past h = record {
  primary = h.primary;
  secondary = h.secondary;
  copy = h.primary;
  link = subst (λ (ws : List Waiting). AllByRecursion (IsTold a log past.next) ws) (sym (link-captured past)) h.link;
  fresh = h.fresh;
}

-- A TURN takes the oldest frame, or none
left_all : (P : Waiting → Type 0) (kind : Kind) (node : NodeRun) (inbox : List Waiting) (takes : Bool) (n : TurnNumbers)
    → AllByRecursion P inbox → AllByRecursion P (turn_from kind node inbox takes n).inbox
unfolding turn_from turn_if turn_with turn_without
left_all P kind node [] takes n h = tt
left_all P kind node (w ∷ inbox) takes n h = by (takes && kind.can_receive node.run.state)
  where
    by : (b : Bool) → AllByRecursion P (turn_if b kind node w inbox n).inbox
    by true = h.1
    by false = h

-- A FRAME OF THE CLIENT
accepted_told : (a : Start) (log : List Record) (r : Record) (past : Past) (frame : List ℕ) (w : Waiting)
    → w.index ≡ past.next → slice_get a.stream past.next ≡ Some frame → entry_of frame ≡ entry.Frame w.frame
    → client_frame r ≡ Some (record { index = past.next; seen = w.seen }) → seen_in log past.next ≡ None
    → IsTold a (log ++ r ∷ []) (past.next + 1) w
unfolding accepted_frame
accepted_told a log r past frame w same at e named none = record {
  below = omega (arith, same);
  frame = ap (λ (i : ℕ). kept_where (slice_get a.stream i)) same
      ∙ (ap (λ (o : Option (List ℕ)). kept_where o) at ∙ ap (λ (x : Entry). kept_of x) e);
  seen = ap (λ (i : ℕ). seen_in (log ++ r ∷ []) i) same
      ∙ (seen_new log r past.next none
      ∙ (ap (λ (f : Option ClientFrame). seen_first f past.next None) named
      ∙ cond-true (past.next == past.next) (Some w.seen) None (eq-eqb past.next past.next refl)));
}

accepted_waits : (a : Start) (log : List Record) (r : Record) (b : Bool) (past : Past) (w : Waiting)
    → IsTold a (log ++ r ∷ []) (past.next + 1) w
    → client_frame r ≡ Some (record { index = past.next; seen = w.seen }) → WaitRightly a log past
    → WaitRightly a (log ++ r ∷ []) (accept_by b past w (trims_by w))
unfolding accept_by
accepted_waits a log r true past w told named h =
    let g = named_frame a log r past w.seen named h in
    record {
      primary = g.primary;
      secondary = all_append (IsTold a (log ++ r ∷ []) (past.next + 1)) past.secondary_inbox (w ∷ []) g.secondary
          (told, tt);
      copy = g.copy;
      link = g.link;
      fresh = g.fresh;
    }
accepted_waits a log r false past w told named h =
    let g = named_frame a log r past w.seen named h in
    let P = IsTold a (log ++ r ∷ []) (past.next + 1) in
    record {
      primary = all_append P past.primary_inbox (w ∷ []) g.primary (told, tt);
      secondary = g.secondary;
      copy = g.copy;
      link = by past.is_reported g.link;
      fresh = g.fresh;
    }
  where
    by : (c : Bool)
        → AllByRecursion (IsTold a (log ++ r ∷ []) (past.next + 1)) (filter_map waiting_on past.to_secondary)
        → AllByRecursion (IsTold a (log ++ r ∷ []) (past.next + 1))
        (filter_map waiting_on (if c then past.to_secondary else past.to_secondary ++ frame_message w ∷ []))
    by true l = l
    by false l =
        subst (λ (ws : List Waiting). AllByRecursion (IsTold a (log ++ r ∷ []) (past.next + 1)) ws)
        (sym (filter_map-append waiting_on past.to_secondary (frame_message w ∷ [])))
        (all_append (IsTold a (log ++ r ∷ []) (past.next + 1)) (filter_map waiting_on past.to_secondary) (w ∷ []) l
        (told, tt))

-- THE SECONDARY HEARS
link_rest : (P : Waiting → Type 0) (m : Message) (ms : List Message) → AllByRecursion P (filter_map waiting_on (m ∷ ms))
    → AllByRecursion P (filter_map waiting_on ms)
link_rest P m ms h = by (waiting_on m) h
  where
    by : (o : Option Waiting) → AllByRecursion P (cons_option o (filter_map waiting_on ms))
        → AllByRecursion P (filter_map waiting_on ms)
    by None h = h
    by (Some w) h = h.1

link_first : (P : Waiting → Type 0) (m n : Message) (w : Waiting) (ms : List Message) → m ≡ n
    → AllByRecursion P (filter_map waiting_on (m ∷ ms)) → waiting_on n ≡ Some w → P w
link_first P m n w ms is h on = by (waiting_on m) (ap (λ (x : Message). waiting_on x) is ∙ on) h
  where
    by : (o : Option Waiting) → o ≡ Some w → AllByRecursion P (cons_option o (filter_map waiting_on ms)) → P w
    by None e h = absurd (cc e)
    by (Some v) e h = subst P (ap (λ (o : Option Waiting). unwrap_or o v) e) h.0

heard_waits : (a : Start) (log : List Record) (past : Past) (m : Message) (ms : List Message)
    → past.to_secondary ≡ m ∷ ms → WaitRightly a log past
    → WaitRightly a log (secondary_hears (record past { to_secondary = ms }) m).after
unfolding hear_frame
heard_waits a log past m ms e h =
    let P = IsTold a log past.next in
    let all : AllByRecursion P (filter_map waiting_on (m ∷ ms)) =
    subst (λ (xs : List Message). AllByRecursion P (filter_map waiting_on xs)) e h.link in
    let p : Past = record past { to_secondary = ms } in
    let rest = link_rest P m ms all in
    heard_case (λ o. WaitRightly a log o.after) p m
    (λ index seen trim frame is. (record {
      primary = h.primary;
      secondary = room (is_full past.secondary_inbox) (waiting_in index seen trim frame)
          (link_first P m (Frame index seen trim frame) (waiting_in index seen trim frame) ms is all refl);
      copy = h.copy;
      link = rest;
      fresh = h.fresh;
    }))
    (λ t client number is. (record {
      primary = h.primary;
      secondary = h.secondary;
      copy = h.copy;
      link = rest;
      fresh = h.fresh;
    }))
    (λ n is. (record { primary = h.primary; secondary = h.copy; copy = h.copy; link = rest; fresh = h.fresh }))
    (λ apart. (record { primary = h.primary; secondary = h.secondary; copy = h.copy; link = rest; fresh = h.fresh }))
  where
    room : (full : Bool) (w : Waiting) → IsTold a log past.next w → AllByRecursion (IsTold a log past.next)
        (if full then past.secondary_inbox else past.secondary_inbox ++ w ∷ [])
    room true w told = h.secondary
    room false w told = all_append (IsTold a log past.next) past.secondary_inbox (w ∷ []) h.secondary (told, tt)

same_waits : (a : Start) (log : List Record) (past after : Past) → after.next ≡ past.next
    → after.primary_inbox ≡ past.primary_inbox → after.secondary_inbox ≡ past.secondary_inbox
    → after.copy.inbox ≡ past.copy.inbox → after.to_secondary ≡ past.to_secondary → WaitRightly a log past
    → WaitRightly a log after
same_waits a log past after n p s c d h = record {
  primary = subst (λ (k : ℕ). AllByRecursion (IsTold a log k) after.primary_inbox) (sym n)
      (subst (λ (ws : List Waiting). AllByRecursion (IsTold a log past.next) ws) (sym p) h.primary);
  secondary = subst (λ (k : ℕ). AllByRecursion (IsTold a log k) after.secondary_inbox) (sym n)
      (subst (λ (ws : List Waiting). AllByRecursion (IsTold a log past.next) ws) (sym s) h.secondary);
  copy = subst (λ (k : ℕ). AllByRecursion (IsTold a log k) after.copy.inbox) (sym n)
      (subst (λ (ws : List Waiting). AllByRecursion (IsTold a log past.next) ws) (sym c) h.copy);
  link = subst (λ (k : ℕ). AllByRecursion (IsTold a log k) (filter_map waiting_on after.to_secondary)) (sym n)
      (subst (λ (ms : List Message). AllByRecursion (IsTold a log past.next) (filter_map waiting_on ms)) (sym d)
      h.link);
  fresh = λ i le. h.fresh i (subst (λ (k : ℕ). k ≤ i) n le);
}

lost_waits : (a : Start) (log : List Record) (past : Past) → WaitRightly a log past
    → WaitRightly a log (lose_links past)
lost_waits a log past h =
    record { primary = h.primary; secondary = h.secondary; copy = h.copy; link = tt; fresh = h.fresh }

idle_frame : (x : Line) → client_frame (record { line = x; answer = Nothing; marks = [] }) ≡ None
idle_frame (Primary d i b n) = refl
idle_frame (Secondary d i b n) = refl
idle_frame Client = refl
idle_frame ToSecondary = refl
idle_frame ToPrimary = refl
idle_frame StopPrimary = refl
idle_frame StopSecondary = refl
idle_frame Report = refl
idle_frame Ask = refl

-- EVERY EVENT: the log grows by its record, and then the past goes on
grown : (a : Start) (steps : List Step) (s : Step) (after : Past)
    → WaitRightly a (entries steps ++ s.entry ∷ []) after → AreTold a (steps ++ s ∷ []) after
grown a steps s after h = subst (λ (log : List Record). WaitRightly a log after) (sym (entries-push steps s)) h

-- of an event that names no frame
went_on : (a : Start) (steps : List Step) (s : Step) (past after : Past) → client_frame s.entry ≡ None
    → (WaitRightly a (entries steps ++ s.entry ∷ []) past → WaitRightly a (entries steps ++ s.entry ∷ []) after)
    → AreTold a steps past → AreTold a (steps ++ s ∷ []) after
went_on a steps s past after none f h =
    grown a steps s after (f (no_frame a (entries steps) s.entry past none h))

-- and of one that settles
settled_on : (a : Start) (steps : List Step) (past base : Past) (s : Step) (ns : List KeptNumber) (ps : ProgressTable)
    (new : List KeptNumber) → client_frame s.entry ≡ None
    → (WaitRightly a (entries steps ++ s.entry ∷ []) past → WaitRightly a (entries steps ++ s.entry ∷ []) base)
    → AreTold a steps past → AreTold a (steps ++ s ∷ []) (told_past base ns ps new)
settled_on a steps past base s ns ps new none f h =
    went_on a steps s past (told_past base ns ps new) none
    (λ g. told_waits a (entries steps ++ s.entry ∷ []) base ns ps new (f g)) h

captured_on : (a : Start) (steps : List Step) (past base : Past) (s : Step) (ns : List KeptNumber) (ps : ProgressTable)
    (new : List KeptNumber) → client_frame s.entry ≡ None
    → (WaitRightly a (entries steps ++ s.entry ∷ []) past → WaitRightly a (entries steps ++ s.entry ∷ []) base)
    → AreTold a steps past → AreTold a (steps ++ s ∷ []) (capture (told_past base ns ps new))
captured_on a steps past base s ns ps new none f h =
    went_on a steps s past (capture (told_past base ns ps new)) none
    (λ g. let log = entries steps ++ s.entry ∷ [] in
    captured_waits a log (told_past base ns ps new) (told_waits a log base ns ps new (f g))) h

-- what the secondary hears names no frame of the client
heard_names_none : (past : Past) (m : Message) → client_frame (secondary_hears past m).step.entry ≡ None
heard_names_none past m =
    heard_case (λ o. client_frame o.step.entry ≡ None) past m (λ index seen trim frame is. refl)
    (λ t client number is. refl) (λ n is. refl) (λ apart. refl)

heard_on : (a : Start) (steps : List Step) (past : Past) (m : Message) (ms : List Message)
    → past.to_secondary ≡ m ∷ ms → AreTold a steps past
    → AreTold a (steps ++ (secondary_hears (record past { to_secondary = ms }) m).step ∷ [])
    (secondary_hears (record past { to_secondary = ms }) m).after
heard_on a steps past m ms e h =
    let o = secondary_hears (record past { to_secondary = ms }) m in
    went_on a steps o.step past o.after (heard_names_none (record past { to_secondary = ms }) m)
    (λ g. heard_waits a (entries steps ++ o.step.entry ∷ []) past m ms e g) h

turned_waits : (a : Start) (log : List Record) (past : Past) (takes : Bool) (n : TurnNumbers) → WaitRightly a log past
    → WaitRightly a log (primary_base past (turn_from a.kind past.primary past.primary_inbox takes n))
turned_waits a log past takes n h = record {
  primary = left_all (IsTold a log past.next) a.kind past.primary past.primary_inbox takes n h.primary;
  secondary = h.secondary;
  copy = h.copy;
  link = h.link;
  fresh = h.fresh;
}

survivor_waits : (a : Start) (log : List Record) (past : Past) (takes : Bool) (n : TurnNumbers)
    → WaitRightly a log past
    → WaitRightly a log (secondary_base past (turn_from a.kind past.secondary past.secondary_inbox takes n))
survivor_waits a log past takes n h = record {
  primary = h.primary;
  secondary = left_all (IsTold a log past.next) a.kind past.secondary past.secondary_inbox takes n h.secondary;
  copy = h.copy;
  link = h.link;
  fresh = h.fresh;
}

back_waits : (a : Start) (steps : List Step) (past : Past) (m : Message) (ms : List Message) → AreTold a steps past
    → AreTold a (steps ++ (primary_hears (record past { to_primary = ms }) m).step ∷ [])
    (primary_hears (record past { to_primary = ms }) m).after
back_waits a steps past m ms h =
    let p : Past = record past { to_primary = ms } in
    let P : Step → Past → Type 0 = λ step after. AreTold a (steps ++ step ∷ []) after in
    heard_back_case (λ o. AreTold a (steps ++ o.step ∷ []) o.after) p m
    (λ t client number is. let base = known_base p t client number in
    known_settled P p t client number past.sent_heard
    (λ out ns ps new. settled_on a steps past base _ ns ps new refl
    (λ g. same_waits a _ past base refl refl refl refl refl g) h)
    (λ out ns ps new why alone. captured_on a steps past base _ ns ps new refl
    (λ g. same_waits a _ past base refl refl refl refl refl g) h))
    (λ frame is. let base = sent_base p frame in
    sent_settled P p frame (past.sent_heard + 1)
    (λ out ns ps new. settled_on a steps past base _ ns ps new refl
    (λ g. same_waits a _ past base refl refl refl refl refl g) h)
    (λ out ns ps new why alone. captured_on a steps past base _ ns ps new refl
    (λ g. same_waits a _ past base refl refl refl refl refl g) h))
    (λ n is. let base = acknowledge p in
    ack_settled P p n
    (λ out ns ps new. settled_on a steps past base _ ns ps new refl
    (λ g. same_waits a _ past base refl refl refl refl refl g) h)
    (λ out ns ps new why alone. captured_on a steps past base _ ns ps new refl
    (λ g. same_waits a _ past base refl refl refl refl refl g) h))
    (λ foreign. went_on a steps (step_with ToPrimary Nothing [] None []) past p refl
    (λ g. same_waits a _ past p refl refl refl refl refl g) h)

passed_on : (a : Start) (steps : List Step) (s : Step) (past : Past) (seen : Option Opening)
    → client_frame s.entry ≡ Some (record { index = past.next; seen = seen }) → AreTold a steps past
    → AreTold a (steps ++ s ∷ []) (passed_frame past)
passed_on a steps s past seen named h =
    grown a steps s (passed_frame past) (named_frame a (entries steps) s.entry past seen named h)

wait_cases : (F : Past → Line → Type 0) (a : Start) → Cases a.kind a.stream (Keeps F a (AreTold a))
unfolding secondary_survives turn_secondary
wait_cases F a = record {
  idle =
      λ past x e f steps r fits h. went_on a steps (step_with x Nothing [] None []) past past (idle_frame x) (λ g. g) h;
  primary_turn =
      λ past d i b n e f steps r fits h.
      let made = turn_from a.kind past.primary past.primary_inbox i (numbers_of d b n) in
      primary_settled (λ step after. AreTold a (steps ++ step ∷ []) after) past d i b n made
      (λ out ns ps new. settled_on a steps past (primary_base past made) _ ns ps new refl
      (λ g. turned_waits a _ past i (numbers_of d b n) g) h)
      (λ out ns ps new why alone. captured_on a steps past (primary_base past made) _ ns ps new refl
      (λ g. turned_waits a _ past i (numbers_of d b n) g) h);
  secondary_turn =
      λ past d i b n e f steps r fits h.
      let made = turn_from a.kind past.secondary past.secondary_inbox i (numbers_of d b n) in
      went_on a steps (turn_secondary past (Secondary d i b n) made).step past
      (turn_secondary past (Secondary d i b n) made).after refl
      (λ g. same_waits a _ (secondary_base past made) _ refl refl refl refl refl
      (survivor_waits a _ past i (numbers_of d b n) g)) h;
  survivor_turn =
      λ past d i b n e steps r fits h.
      let made = turn_from a.kind past.secondary past.secondary_inbox i (numbers_of d b n) in
      survivor_settled (λ step after. AreTold a (steps ++ step ∷ []) after) past d i b n made
      (λ out ns ps new. settled_on a steps past (secondary_base past made) _ ns ps new refl
      (λ g. survivor_waits a _ past i (numbers_of d b n) g) h)
      (λ out ns ps new why alone. captured_on a steps past (secondary_base past made) _ ns ps new refl
      (λ g. survivor_waits a _ past i (numbers_of d b n) g) h);
  accepts =
      λ past frame kept t e f steps r fits h.
      let w = waiting_of past (look_at past (tcp_in kept)) kept in
      let s = step_with Client (Accepted past.next w.seen w.trim 0) [] None [] in
      grown a steps s (accept_by (is_primary_stop past.stop) past w (trims_by w))
      (accepted_waits a (entries steps) s.entry (is_primary_stop past.stop) past w
      (accepted_told a (entries steps) s.entry past frame w refl t.0 e refl (h.fresh past.next (omega arith))) refl h);
  is_full =
      λ past frame kept t e f steps r fits h. passed_on a steps (step_with Client (Full past.next) [] None []) past None
      refl h;
  answers =
      λ past frame b t e steps r fits h. passed_on a steps (step_with Client (Arp past.next) [] None (reply b ∷ []))
      past None refl h;
  drops =
      λ past frame why t e steps r fits h. passed_on a steps
      (step_with Client (Dropped past.next why.number) [] None []) past None refl h;
  loses =
      λ past frame t e f steps r fits h. passed_on a steps (step_with Client (Lost past.next) [] None []) past None refl
      h;
  secondary_hears =
      λ past m ms e f g steps r fits h. heard_on a steps past m ms e h;
  ignores =
      λ past m ms e f g running alone steps r fits h. went_on a steps _ past (record past { to_primary = ms }) refl
      (λ k. same_waits a _ past (record past { to_primary = ms }) refl refl refl refl refl k) h;
  primary_hears = λ past m ms e f running alone steps r fits h. back_waits a steps past m ms h;
  primary_stops =
      λ past steps r fits h. went_on a steps _ past _ refl (λ g. same_waits a _ past _ refl refl refl refl refl g) h;
  secondary_stops =
      λ past steps r fits h. went_on a steps _ past _ refl (λ g. same_waits a _ past _ refl refl refl refl refl g) h;
  secondary_left =
      λ past e steps r fits h. went_on a steps _ past _ refl
      (λ g. same_waits a _ (lose_links past) _ refl refl refl refl refl (lost_waits a _ past g)) h;
  primary_left =
      λ past e steps r fits h. left_settled (λ step after. AreTold a (steps ++ step ∷ []) after) past
      (λ out ns ps new. settled_on a steps past (lose_links past) _ ns ps new refl (λ g. lost_waits a _ past g) h);
  asks =
      λ past e f g steps r fits h. went_on a steps _ past (capture past) refl (λ k. captured_waits a _ past k) h;
}

pub are_told : (F : Past → Line → Type 0) (a : Start) → a.inbox ≡ [] → (steps : List Step) (past : Past)
    → Reached F a steps past → AreTold a steps past
unfolding seen_in
are_told F a none =
    each_history F a (AreTold a) (record {
      primary = subst (λ (ws : List Waiting). AllByRecursion (IsTold a [] a.next) ws) (sym none) tt;
      secondary = subst (λ (ws : List Waiting). AllByRecursion (IsTold a [] a.next) ws) (sym none) tt;
      copy = subst (λ (ws : List Waiting). AllByRecursion (IsTold a [] a.next) ws) (sym none) tt;
      link = tt;
      fresh = λ i le. refl;
    }) (wait_cases F a)
