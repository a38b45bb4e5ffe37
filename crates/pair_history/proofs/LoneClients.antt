-- A client's frame where the primary stopped: it is lost, or the survivor takes it; and any client's frame.
use Rattle.std.proofs.Common.{◌≡◌, ℕ, ◌+◌, ◌&&◌, not, Bool, true, false, nat_le, List, [], ◌∷◌, ◌++◌, append-nil, length, slice_get, Option, None, Some, refl, sym, ap, subst, ◌∙◌, true≢false}
use Rattle.std.specs.Prelude.{All, if◌then◌else◌}
use Rattle.shared_definitions.specs.Bytes.{AreBytes}
use Rattle.inet_frame.specs.Counted.{tcp_in}
use Rattle.inet_frame.specs.Fields.{TcpFields}
use Rattle.frame_mirror.specs.Accepted.{entry_of, is_accepted}
use Rattle.frame_mirror.specs.Inboxes.{has_room}
use Rattle.frame_mirror.specs.declared.ingress.Entry.{Entry}
use Rattle.frame_mirror.specs.declared.ingress.Entry.TheVariants as entry
use Rattle.frame_mirror.specs.declared.ring.TheConstants.{INBOX_ROOM}
use Rattle.frame_mirror.specs.declared.ring.Waiting.{Waiting}
use Rattle.frame_mirror.proofs.AcceptLemmas.{accepted_is_segment, kept_is_accepted_as_it_is}
use Rattle.settle_rules.specs.Release.{released_frame}
use Rattle.state_wire.specs.Guest.{Kind}
use Rattle.colo_wire.specs.declared.answers.Gate.{Gate}
use Rattle.colo_wire.specs.declared.answers.Gate.TheVariants as gate
use Rattle.replay_log.specs.declared.lines.Line.TheVariants.{Client}
use Rattle.replay_log.specs.declared.records.Answer.TheVariants as answer
use Rattle.node_release.specs.Gated.{Gated, gated, looked_by, refused, taken_by}
use Rattle.node_secondary.specs.Steps.{gate_for, let_in, secondary_ingress}
use Rattle.node_secondary.specs.Survivor.{Second, Survivor, alone, guest_of, hears}
use Rattle.out_compare.specs.Comparing.{Comparing}
use Rattle.out_compare.specs.Look.{look_after}
use Rattle.pair_core.specs.Events as core
use Rattle.pair_core.specs.Events.{primary_takes, secondary_takes}
use Rattle.pair_core.specs.Pair.{Pair, is_primary}
use Rattle.pair_theorem.specs.ClientFrames.{trims_by}
use Rattle.pair_theorem.specs.Events.{accept_by, client_entry, client_event, outcome_of, passed_frame, take_frame}
use Rattle.pair_theorem.specs.LogParts.{delivered_bytes}
use Rattle.pair_theorem.specs.Past.{Past, is_primary_stop, secondary_releases, silently}
use Rattle.pair_theorem.proofs.AllLemmas.{All_at}
use Rattle.settle_history.specs.Standing.{StandsFor}
use Rattle.compare_history.specs.Books.{survivor_books}
use Rattle.compare_history.specs.Laws.{looked_frame}
use Rattle.compare_history.proofs.EventLemmas as comparer
use Rattle.pair_history.specs.Standing.{SecondStands, Stands, SurvivorStands, guest_in}
use Rattle.pair_history.proofs.ClientEvents.{primary_takes_alike, segment_in, waiting_by, waits_alike}
use Rattle.pair_history.proofs.Flags.{primary_alone, primary_flag, releases_reported, releases_stopped}
use Rattle.pair_history.proofs.Goes.{Goes, idle}
use Rattle.pair_history.proofs.SecondLemmas.{full_is}
use Rattle.pair_history.proofs.Written.{alone_pair, alone_pair_is}

-- AT A SURVIVOR
abbrev survivor_of : Kind → Past → Survivor → Survivor
survivor_of kind past n = record n {
  guest = guest_in kind past.secondary past.secondary_turned;
  inbox = past.secondary_inbox;
}

abbrev taken : Kind → List (List ℕ) → Past → Survivor → Pair → Gated → core.Outcome
taken kind stream past n w g =
    let v = alone_pair kind stream past n w in
    core.quiet (record (core.passed v) { second = alone (let_in (survivor_of kind past n) g) })
    (core.gate_answer past.next g.answer) g.out

-- what stands of a survivor's pair with its inbox and its comparer
lone_stands : (kind : Kind) (stream : List (List ℕ)) (past after : Past) (w : Pair) (n : Survivor) (x : Survivor)
    → Stands kind stream past (alone_pair kind stream past n w) → secondary_releases past ≡ true
    → after ≡ record past { next = past.next + 1; secondary = after.secondary; secondary_inbox = after.secondary_inbox }
    → x.guest ≡ guest_in kind after.secondary past.secondary_turned → SurvivorStands after x
    → Stands kind stream after (record (core.passed (alone_pair kind stream past n w)) { second = alone x })
lone_stands kind stream past after w n x h releases is guest s =
    subst (λ (q : Past). SurvivorStands q x → Stands kind stream q
    (record (core.passed (alone_pair kind stream past n w)) { second = alone x })) (sym is) (λ t. record {
      frames = refl;
      next = refl;
      down = refl;
      up = refl;
      sent_heard = refl;
      stop = h.stop;
      reported = refl;
      first_guest = h.first_guest;
      second_guest = guest;
      first = λ f. absurd (true≢false (sym (releases_stopped past releases)
          ∙ (primary_flag kind stream past (alone_pair kind stream past n w) h ∙ f)));
      second = λ f. (releases, t);
    }) s

refused_stands : (kind : Kind) (stream : List (List ℕ)) (past : Past) (w : Pair) (n : Survivor) (why : Gate)
    (out : List (List ℕ)) → Stands kind stream past (alone_pair kind stream past n w)
    → secondary_releases past ≡ true → SurvivorStands past n
    → Stands kind stream (passed_frame past) (taken kind stream past n w (refused why n.comparing out)).after
refused_stands kind stream past w n why out h releases s =
    lone_stands kind stream past (passed_frame past) w n
    (let_in (survivor_of kind past n) (refused why n.comparing out)) h releases refl refl
    (record { inbox = append-nil past.secondary_inbox; compares = s.compares })

abbrev let_in_as : Kind → List (List ℕ) → Past → Survivor → Pair → Waiting → Comparing → core.Outcome
let_in_as kind stream past n w x c =
    let v = alone_pair kind stream past n w in
    core.quiet (record (core.passed v) {
      second = alone (record (survivor_of kind past n) {
        inbox = past.secondary_inbox ++ x ∷ [];
        comparing = c;
      });
    }) (answer.Accepted past.next x.seen x.trim 0) []

let_in_alike : (kind : Kind) (stream : List (List ℕ)) (past : Past) (w : Pair) (n : Survivor) (x : Waiting)
    (c : Comparing) → Stands kind stream past (alone_pair kind stream past n w) → secondary_releases past ≡ true
    → StandsFor (survivor_books (accept_by true past x (trims_by x))) c
    → Goes kind stream (silently (accept_by true past x (trims_by x)) Client (answer.Accepted past.next x.seen x.trim 0)
    None) (let_in_as kind stream past n w x c)
unfolding accept_by delivered_bytes
let_in_alike kind stream past w n x c h releases compares states rests = record {
  happens = record { answer = refl; marks = refl; released = refl; wire = refl };
  after = lone_stands kind stream past (accept_by true past x (trims_by x)) w n (record (survivor_of kind past n) {
    inbox = past.secondary_inbox ++ x ∷ [];
    comparing = c;
  }) h releases refl refl (record { inbox = refl; compares = compares });
}

accepted_alike : (kind : Kind) (stream : List (List ℕ)) (past : Past) (w : Pair) (n : Survivor) (kept : List ℕ)
    → Stands kind stream past (alone_pair kind stream past n w) → secondary_releases past ≡ true
    → SurvivorStands past n → is_accepted kept ≡ true
    → Goes kind stream (silently (accept_by true past (looked_frame past kept) (trims_by (looked_frame past kept)))
    Client (answer.Accepted past.next (looked_frame past kept).seen (looked_frame past kept).trim 0) None)
    (let_in_as kind stream past n w (waiting_by n.comparing past.next kept (tcp_in kept))
    (looked_by n.comparing (tcp_in kept)))
accepted_alike kind stream past w n kept h releases t clean =
    let x = n.comparing in
    let s = segment_in (tcp_in kept) (accepted_is_segment kept clean) in
    let l = comparer.survivor_looks past kept s.fields x s.is releases t.compares in
    let y = looked_frame past kept in
    let o = silently (accept_by true past y (trims_by y)) Client (answer.Accepted past.next y.seen y.trim 0) None in
    subst (λ (z : Waiting). Goes kind stream o (let_in_as kind stream past n w z (looked_by x (tcp_in kept))))
    (sym (waits_alike past (accept_by true past y (trims_by y)) survivor_books kept s.fields x s.is l))
    (subst (λ (u : Option TcpFields). Goes kind stream o (let_in_as kind stream past n w y (looked_by x u))) (sym s.is)
    (let_in_alike kind stream past w n y (look_after x s.fields) h releases l.accepted))

frame_alike : (kind : Kind) (stream : List (List ℕ)) (past : Past) (w : Pair) (n : Survivor) (kept : List ℕ)
    → Stands kind stream past (alone_pair kind stream past n w) → secondary_releases past ≡ true
    → SurvivorStands past n → is_accepted kept ≡ true
    → Goes kind stream (take_frame past (looked_frame past kept))
    (taken kind stream past n w (gated n.comparing past.secondary_inbox past.next (entry.Frame kept)))
unfolding take_frame gated delivered_bytes
frame_alike kind stream past w n kept h releases t clean =
    subst (λ (c : Bool). Goes kind stream (if nat_le INBOX_ROOM (length (if c then past.secondary_inbox
    else past.primary_inbox)) then silently (passed_frame past) Client (answer.Full past.next) None
    else silently (accept_by c past y (trims_by y)) Client (answer.Accepted past.next y.seen y.trim 0) None)
    (taken kind stream past n w (if has_room past.secondary_inbox then taken_by x past.next kept (tcp_in kept)
    else refused gate.Full x [])))
    (sym (releases_stopped past releases)) (subst (λ (c : Bool). Goes kind stream (if c
    then silently (passed_frame past) Client (answer.Full past.next) None
    else silently (accept_by true past y (trims_by y)) Client (answer.Accepted past.next y.seen y.trim 0) None)
    (taken kind stream past n w (if has_room past.secondary_inbox then taken_by x past.next kept (tcp_in kept)
    else refused gate.Full x [])))
    (full_is past.secondary_inbox) (by (has_room past.secondary_inbox)))
  where
    x : Comparing
    x = n.comparing

    y : Waiting
    y = looked_frame past kept

    by : (c : Bool) → Goes kind stream
        (if not c then silently (passed_frame past) Client (answer.Full past.next) None
        else silently (accept_by true past y (trims_by y)) Client (answer.Accepted past.next y.seen y.trim 0) None)
        (taken kind stream past n w (if c then taken_by x past.next kept (tcp_in kept) else refused gate.Full x []))
    by true = accepted_alike kind stream past w n kept h releases t clean
    by false = λ states rests. record {
      happens = record { answer = refl; marks = refl; released = refl; wire = refl };
      after = refused_stands kind stream past w n gate.Full [] h releases t;
    }

entry_alike : (kind : Kind) (stream : List (List ℕ)) (past : Past) (w : Pair) (n : Survivor) (frame : List ℕ)
    (x : Entry) → Stands kind stream past (alone_pair kind stream past n w) → secondary_releases past ≡ true
    → SurvivorStands past n → AreBytes frame → entry_of frame ≡ x
    → Goes kind stream (client_entry past x)
    (taken kind stream past n w (gated n.comparing past.secondary_inbox past.next x))
unfolding client_entry gated delivered_bytes released_frame
entry_alike kind stream past w n frame (entry.Frame kept) h releases t bytes is states rests =
    frame_alike kind stream past w n kept h releases t (kept_is_accepted_as_it_is frame kept bytes is) states rests
entry_alike kind stream past w n frame (entry.Answer b) h releases t bytes is states rests = record {
  happens = record { answer = refl; marks = refl; released = refl; wire = refl };
  after = refused_stands kind stream past w n gate.Answered (b ∷ []) h releases t;
}
entry_alike kind stream past w n frame (entry.Drop why) h releases t bytes is states rests = record {
  happens = record { answer = refl; marks = refl; released = refl; wire = refl };
  after = refused_stands kind stream past w n (gate.Dropped why) [] h releases t;
}

survivor_takes : (kind : Kind) (stream : List (List ℕ)) (past : Past) (w : Pair) (n : Survivor) (frame : List ℕ)
    → Stands kind stream past (alone_pair kind stream past n w) → secondary_releases past ≡ true
    → SurvivorStands past n → AreBytes frame
    → Goes kind stream (client_entry past (entry_of frame))
    (secondary_takes (core.passed (alone_pair kind stream past n w)) past.next frame)
unfolding secondary_takes
survivor_takes kind stream past w n frame h releases t bytes =
    entry_alike kind stream past w n frame (entry_of frame) h releases t bytes refl

-- BEFORE THE REPORT it is lost
lost_alike : (kind : Kind) (stream : List (List ℕ)) (past : Past) (w : Pair) (s : Second) (frame : List ℕ)
    → Stands kind stream past w → w.second ≡ s → is_primary w.stopped ≡ true → SecondStands kind past s
    → past.is_reported ≡ false
    → Goes kind stream (silently (passed_frame past) Client (answer.Lost past.next) None)
    (secondary_takes (core.passed w) w.next frame)
unfolding secondary_takes delivered_bytes
lost_alike kind stream past w (hears n) frame h is stops s together =
    let sound : Stands kind stream (passed_frame past) (record (core.passed w) { second = hears n }) = record {
      frames = h.frames;
      next = ap (λ (k : ℕ). k + 1) h.next;
      down = h.down;
      up = h.up;
      sent_heard = h.sent_heard;
      stop = h.stop;
      reported = h.reported;
      first_guest = h.first_guest;
      second_guest = (λ i. guest_of (sym is i)) ∙ h.second_guest;
      first = λ f. absurd (true≢false (sym stops ∙ f));
      second = λ f. (s.0, s.1);
    } in
    subst (λ (x : Second). Goes kind stream (silently (passed_frame past) Client (answer.Lost past.next) None)
    (let e = secondary_ingress x w.next frame in
    core.quiet (record (core.passed w) { second = e.after }) (core.lone_answer w.next (gate_for x w.next frame)) e.out))
    (sym is) (λ states rests. record {
      happens = record { answer = ap (λ (k : ℕ). answer.Lost k) h.next; marks = refl; released = refl; wire = refl };
      after = sound;
    })
lost_alike kind stream past w (alone n) frame h is stops s together =
    absurd (true≢false (sym (releases_reported past s.0) ∙ together))

stopped_alike : (kind : Kind) (stream : List (List ℕ)) (past : Past) (w : Pair) (s : Second) (frame : List ℕ)
    (reported : Bool) → Stands kind stream past w → w.second ≡ s → is_primary w.stopped ≡ true
    → SecondStands kind past s → AreBytes frame → past.is_reported ≡ reported
    → Goes kind stream (if not reported then silently (passed_frame past) Client (answer.Lost past.next) None
    else client_entry past (entry_of frame)) (secondary_takes (core.passed w) w.next frame)
stopped_alike kind stream past w s frame false h is stops t bytes r =
    lost_alike kind stream past w s frame h is stops t r
stopped_alike kind stream past w (hears n) frame true h is stops t bytes r = absurd (true≢false (sym r ∙ t.0))
stopped_alike kind stream past w (alone n) frame true h is stops t bytes r =
    subst (λ (v : Pair). Stands kind stream past v
    → Goes kind stream (client_entry past (entry_of frame)) (secondary_takes (core.passed v) v.next frame))
    (sym (alone_pair_is kind stream past n w h is t.1))
    (λ g. survivor_takes kind stream past w n frame g t.0 t.1 bytes) h

-- ANY CLIENT'S FRAME
comes_alike : (kind : Kind) (stream : List (List ℕ)) (past : Past) (w : Pair) (frame : List ℕ) (p q : Bool)
    → Stands kind stream past w → AreBytes frame → p ≡ q → is_primary w.stopped ≡ q
    → Goes kind stream (if p && not past.is_reported
    then silently (passed_frame past) Client (answer.Lost past.next) None else client_entry past (entry_of frame))
    (if q then secondary_takes (core.passed w) w.next frame else primary_takes (core.passed w) w.next frame)
comes_alike kind stream past w frame true true h bytes e is =
    stopped_alike kind stream past w w.second frame past.is_reported h refl is
    (h.second (primary_alone w.stopped is)) bytes refl
comes_alike kind stream past w frame false false h bytes e is = primary_takes_alike kind stream past w frame h is bytes
comes_alike kind stream past w frame true false h bytes e is = absurd (true≢false e)
comes_alike kind stream past w frame false true h bytes e is = absurd (true≢false (sym e))

pub client_alike : (kind : Kind) (stream : List (List ℕ)) (past : Past) (w : Pair) → Stands kind stream past w
    → All AreBytes stream → Goes kind stream (outcome_of kind stream past Client) (core.event_of w Client)
unfolding outcome_of client_event
client_alike kind stream past w h bytes =
    subst (λ (o : Option (List ℕ)). Goes kind stream (client_event past (slice_get stream past.next))
    (core.client_with w o)) (λ i. slice_get (sym h.frames i) (sym h.next i)) (by (slice_get stream past.next) refl)
  where
    by : (o : Option (List ℕ)) → slice_get stream past.next ≡ o
        → Goes kind stream (client_event past o) (core.client_with w o)
    by None is = idle kind stream past Client w h
    by (Some frame) is =
        comes_alike kind stream past w frame (is_primary_stop past.stop) (is_primary w.stopped) h
        (All_at AreBytes stream past.next frame bytes is) (primary_flag kind stream past w h) refl
