-- A client's frame.
use Rattle.std.proofs.Common.{◌≡◌, ◌≤◌, ℕ, not, Bool, true, false, nat_le, nat_lt, List, [], ◌∷◌, ◌++◌, append-nil, length, Option, None, Some, refl, sym, ap, subst, ◌∙◌, arith, length-append, true≢false}
use Rattle.std.specs.Prelude.{IsSome, if◌then◌else◌}
use Rattle.std.specs.List.{AllByRecursion}
use Rattle.std.proofs.lemmas.Bool.{and_left}
use Rattle.shared_definitions.specs.Bytes.{AreBytes}
use Rattle.inet_frame.specs.Counted.{tcp_in}
use Rattle.inet_frame.specs.Fields.{TcpFields}
use Rattle.frame_mirror.specs.Accepted.{entry_of, is_accepted}
use Rattle.frame_mirror.specs.Inboxes.{has_room}
use Rattle.frame_mirror.specs.declared.ingress.Entry.{Entry}
use Rattle.frame_mirror.specs.declared.ingress.Entry.TheVariants as entry
use Rattle.frame_mirror.specs.declared.ring.TheConstants.{INBOX_ROOM}
use Rattle.frame_mirror.specs.declared.ring.Waiting.{Waiting}
use Rattle.frame_mirror.proofs.AcceptLemmas.{accepted_is_segment, kept_is_accepted_as_it_is}
use Rattle.settle_rules.specs.Release.{released_frame}
use Rattle.state_wire.specs.Guest.{Kind}
use Rattle.colo_wire.specs.declared.answers.Gate.{Gate}
use Rattle.colo_wire.specs.declared.answers.Gate.TheVariants as gate
use Rattle.colo_wire.specs.declared.messages.Message.{Message}
use Rattle.replay_log.specs.declared.lines.Line.TheVariants.{Client}
use Rattle.replay_log.specs.declared.records.Answer.TheVariants as answer
use Rattle.node_release.specs.Gated.{Gated, gated, looked_by, refused, seen_by, taken_by, trim_by}
use Rattle.node_primary.specs.Steps.{compares, frame_message, let_in, told, with_waiting}
use Rattle.node_secondary.specs.Survivor.{Second, alone, hears}
use Rattle.out_compare.specs.Comparing.{Comparing}
use Rattle.out_compare.specs.Look.{look_after}
use Rattle.pair_core.specs.Events as core
use Rattle.pair_core.specs.Events.{primary_takes, secondary_takes}
use Rattle.pair_core.specs.Pair.{Pair, is_primary, sent_down}
use Rattle.pair_theorem.specs.ClientFrames.{trims_by}
use Rattle.pair_theorem.specs.Events.{accept_by, client_entry, passed_frame, take_frame}
use Rattle.pair_theorem.specs.LogParts.{delivered_bytes}
use Rattle.pair_theorem.specs.Past.{Past, is_primary_stop, secondary_releases, silently}
use Rattle.settle_history.specs.Standing.{Books, StandsFor}
use Rattle.compare_history.specs.Books.{primary_books}
use Rattle.compare_history.specs.Laws.{LooksWith, looked_frame}
use Rattle.compare_history.proofs.EventLemmas as comparer
use Rattle.pair_history.specs.Due.{Due}
use Rattle.pair_history.specs.Standing.{SecondStands, Stands}
use Rattle.pair_history.proofs.DueLemmas.{due_behind, due_frame}
use Rattle.pair_history.proofs.Flags.{primary_flag, releases_stopped}
use Rattle.pair_history.proofs.Goes.{Goes}
use Rattle.pair_history.proofs.SecondLemmas.{full_is}
use Rattle.pair_history.proofs.TurnEvents.{told_link}
use Rattle.pair_history.proofs.Written.{primary_pair, primary_pair_is}

abbrev before : Kind → List (List ℕ) → Past → Pair → Pair
before kind stream past w = primary_pair kind stream past past.awaits_ack past.is_reported w

-- AT THE PRIMARY, which lets a frame in or not
abbrev gated_pair : Pair → Gated → Pair
gated_pair v g = sent_down (record (core.passed v) { first = let_in v.first g })

abbrev taken : Pair → Gated → core.Outcome
taken v g = core.quiet (gated_pair v g) (core.gate_answer v.next g.answer) g.out

told_none : (b : Bool) → told b [] ≡ []
told_none true = refl
told_none false = refl

passed_second : (kind : Kind) (past : Past) (s : Second) → SecondStands kind past s
    → SecondStands kind (passed_frame past) s
passed_second kind past (hears n) s = s
passed_second kind past (alone n) s = s

-- not
refused_stands : (kind : Kind) (stream : List (List ℕ)) (past : Past) (w : Pair) (why : Gate) (out : List (List ℕ))
    → Stands kind stream past (before kind stream past w) → is_primary w.stopped ≡ false
    → Stands kind stream (passed_frame past) (gated_pair (before kind stream past w)
    (refused why (before kind stream past w).first.comparing out))
refused_stands kind stream past w why out h runs =
    let p = h.first runs in
    let same = sym (append-nil past.primary_inbox) in
    record {
      frames = refl;
      next = refl;
      down = ap (λ (ms : List Message). past.to_secondary ++ ms) (told_none past.is_reported)
          ∙ append-nil past.to_secondary;
      up = refl;
      sent_heard = refl;
      stop = h.stop;
      reported = refl;
      first_guest = refl;
      second_guest = h.second_guest;
      first = λ f. record {
        inbox = sym same;
        room = subst (λ (ws : List Waiting). length ws ≤ INBOX_ROOM) same p.room;
        accepted = subst (λ (ws : List Waiting). AllByRecursion (λ x. is_accepted x.frame ≡ true) ws) same p.accepted;
        compares = p.compares;
        captures = refl;
        awaits = refl;
        waits = refl;
      };
      second = λ f. passed_second kind past w.second (h.second f);
    }

-- or it does
accepted_second : (kind : Kind) (past : Past) (x : Waiting) (s : Second) → is_primary_stop past.stop ≡ false
    → is_accepted x.frame ≡ true → SecondStands kind past s
    → SecondStands kind (accept_by false past x (trims_by x)) s
unfolding accept_by
accepted_second kind past x (hears n) runs clean s = (
  s.0,
  record {
    inbox = s.1.inbox;
    lines = s.1.lines;
    numbers = s.1.numbers;
    waits = s.1.waits;
    due = subst (λ (c : Bool). Due kind past.copy past.captures n.committed n.under_way
        (if c then past.to_secondary else past.to_secondary ++ frame_message x ∷ [])) (sym s.0)
        (due_behind kind past.copy past.captures n.committed n.under_way past.to_secondary (frame_message x ∷ [])
        (due_frame kind past.copy past.captures x clean) s.1.due);
  },
)
accepted_second kind past x (alone n) runs clean s = absurd (true≢false (sym (releases_stopped past s.0) ∙ runs))

one_more : {X : Type 0} (xs : List X) (x : X) (k : ℕ) → nat_lt (length xs) k ≡ true → length (xs ++ x ∷ []) ≤ k
one_more xs x k e = grind (arith, e, length-append xs (x ∷ []))

all_more : (P : Waiting → Type 0) (xs : List Waiting) (x : Waiting) → AllByRecursion P xs → P x
    → AllByRecursion P (xs ++ x ∷ [])
all_more P [] x h g = (g, tt)
all_more P (y ∷ xs) x h g = (h.0, all_more P xs x h.1 g)

-- what is let in, as the past has it
abbrev let_in_as : Pair → Waiting → Comparing → core.Outcome
let_in_as v x c =
    core.quiet (sent_down (record (core.passed v) { first = compares (with_waiting v.first (Some x)) c }))
    (answer.Accepted v.next x.seen x.trim 0) []

let_in_alike : (kind : Kind) (stream : List (List ℕ)) (past : Past) (w : Pair) (x : Waiting) (c : Comparing)
    → Stands kind stream past (before kind stream past w) → is_primary w.stopped ≡ false
    → has_room past.primary_inbox ≡ true → is_accepted x.frame ≡ true
    → StandsFor (primary_books (accept_by false past x (trims_by x))) c
    → Goes kind stream (silently (accept_by false past x (trims_by x)) Client
    (answer.Accepted past.next x.seen x.trim 0) None) (let_in_as (before kind stream past w) x c)
unfolding accept_by delivered_bytes
let_in_alike kind stream past w x c h runs room clean compares states rests =
    let p = h.first runs in record {
      happens = record { answer = refl; marks = refl; released = refl; wire = refl };
      after = record {
        frames = refl;
        next = refl;
        down = told_link past.is_reported past.to_secondary (frame_message x ∷ []);
        up = refl;
        sent_heard = refl;
        stop = h.stop;
        reported = refl;
        first_guest = refl;
        second_guest = h.second_guest;
        first = λ f. record {
          inbox = refl;
          room = one_more past.primary_inbox x INBOX_ROOM room;
          accepted = all_more (λ y. is_accepted y.frame ≡ true) past.primary_inbox x p.accepted clean;
          compares = compares;
          captures = refl;
          awaits = refl;
          waits = refl;
        };
        second = λ f. accepted_second kind past x w.second
            (primary_flag kind stream past (before kind stream past w) h ∙ runs) clean (h.second f);
      };
    }

-- the waiting frame that a look makes
abbrev pub waiting_by : Comparing → ℕ → List ℕ → Option TcpFields → Waiting
waiting_by x index frame t =
    record { index = index; seen = seen_by x t; trim = trim_by x t; frame = frame }

-- some segment, as a frame is one
pub record Segment (o : Option TcpFields) : Type 0 where
  pub fields : TcpFields
  pub is : o ≡ Some fields

pub segment_in : (o : Option TcpFields) → IsSome o → Segment o
segment_in (Some s) h = record { fields = s; is = refl }
segment_in None h = absurd (true≢false (sym h))

pub waits_alike : (past after : Past) (books : Past → Books) (kept : List ℕ) (s : TcpFields) (x : Comparing)
    → tcp_in kept ≡ Some s → LooksWith past after kept s books x
    → waiting_by x past.next kept (tcp_in kept) ≡ looked_frame past kept
waits_alike past after books kept s x e l = λ i. record {
  index = past.next;
  seen = (ap (λ (o : Option TcpFields). seen_by x o) e ∙ l.seen) i;
  trim = (ap (λ (o : Option TcpFields). trim_by x o) e ∙ l.trim_is) i;
  frame = kept;
}

not_releasing : (past : Past) → is_primary_stop past.stop ≡ false → secondary_releases past ≡ false
not_releasing past e = and_left (is_primary_stop past.stop) past.is_reported e

accepted_alike : (kind : Kind) (stream : List (List ℕ)) (past : Past) (w : Pair) (kept : List ℕ)
    → Stands kind stream past (before kind stream past w) → is_primary w.stopped ≡ false
    → has_room past.primary_inbox ≡ true → is_accepted kept ≡ true
    → Goes kind stream (silently (accept_by false past (looked_frame past kept) (trims_by (looked_frame past kept)))
    Client (answer.Accepted past.next (looked_frame past kept).seen (looked_frame past kept).trim 0) None)
    (let_in_as (before kind stream past w)
    (waiting_by (before kind stream past w).first.comparing past.next kept (tcp_in kept))
    (looked_by (before kind stream past w).first.comparing (tcp_in kept)))
accepted_alike kind stream past w kept h runs room clean =
    let v = before kind stream past w in
    let x = v.first.comparing in
    let s = segment_in (tcp_in kept) (accepted_is_segment kept clean) in
    let stops = primary_flag kind stream past v h ∙ runs in
    let l = comparer.primary_looks past kept s.fields x s.is (not_releasing past stops) (h.first runs).compares in
    let y = looked_frame past kept in
    let o = silently (accept_by false past y (trims_by y)) Client (answer.Accepted past.next y.seen y.trim 0) None in
    subst (λ (z : Waiting). Goes kind stream o (let_in_as v z (looked_by x (tcp_in kept))))
    (sym (waits_alike past (accept_by false past y (trims_by y)) primary_books kept s.fields x s.is l))
    (subst (λ (t : Option TcpFields). Goes kind stream o (let_in_as v y (looked_by x t))) (sym s.is)
    (let_in_alike kind stream past w y (look_after x s.fields) h runs room clean l.accepted))

-- A FRAME finds room, or not
frame_alike : (kind : Kind) (stream : List (List ℕ)) (past : Past) (w : Pair) (kept : List ℕ)
    → Stands kind stream past (before kind stream past w) → is_primary w.stopped ≡ false → is_accepted kept ≡ true
    → Goes kind stream (take_frame past (looked_frame past kept)) (taken (before kind stream past w)
    (gated (before kind stream past w).first.comparing past.primary_inbox past.next (entry.Frame kept)))
unfolding take_frame gated delivered_bytes
frame_alike kind stream past w kept h runs clean =
    subst (λ (c : Bool). Goes kind stream (if nat_le INBOX_ROOM (length (if c then past.secondary_inbox
    else past.primary_inbox)) then silently (passed_frame past) Client (answer.Full past.next) None
    else silently (accept_by c past y (trims_by y)) Client (answer.Accepted past.next y.seen y.trim 0) None)
    (taken v (if has_room past.primary_inbox then taken_by x past.next kept (tcp_in kept) else refused gate.Full x [])))
    (sym stops) (subst (λ (c : Bool). Goes kind stream (if c
    then silently (passed_frame past) Client (answer.Full past.next) None
    else silently (accept_by false past y (trims_by y)) Client (answer.Accepted past.next y.seen y.trim 0) None)
    (taken v (if has_room past.primary_inbox then taken_by x past.next kept (tcp_in kept) else refused gate.Full x [])))
    (full_is past.primary_inbox) (by (has_room past.primary_inbox) refl))
  where
    v : Pair
    v = before kind stream past w

    x : Comparing
    x = v.first.comparing

    y : Waiting
    y = looked_frame past kept

    stops : is_primary_stop past.stop ≡ false
    stops = primary_flag kind stream past v h ∙ runs

    by : (c : Bool) → has_room past.primary_inbox ≡ c → Goes kind stream
        (if not c then silently (passed_frame past) Client (answer.Full past.next) None
        else silently (accept_by false past y (trims_by y)) Client (answer.Accepted past.next y.seen y.trim 0) None)
        (taken v (if c then taken_by x past.next kept (tcp_in kept) else refused gate.Full x []))
    by true room = accepted_alike kind stream past w kept h runs room clean
    by false room = λ states rests. record {
      happens = record { answer = refl; marks = refl; released = refl; wire = refl };
      after = refused_stands kind stream past w gate.Full [] h runs;
    }

entry_alike : (kind : Kind) (stream : List (List ℕ)) (past : Past) (w : Pair) (frame : List ℕ) (x : Entry)
    → Stands kind stream past (before kind stream past w) → is_primary w.stopped ≡ false → AreBytes frame
    → entry_of frame ≡ x
    → Goes kind stream (client_entry past x) (taken (before kind stream past w)
    (gated (before kind stream past w).first.comparing past.primary_inbox past.next x))
unfolding client_entry gated delivered_bytes released_frame
entry_alike kind stream past w frame (entry.Frame kept) h runs bytes is states rests =
    frame_alike kind stream past w kept h runs (kept_is_accepted_as_it_is frame kept bytes is) states rests
entry_alike kind stream past w frame (entry.Answer b) h runs bytes is states rests = record {
  happens = record { answer = refl; marks = refl; released = refl; wire = refl };
  after = refused_stands kind stream past w gate.Answered (b ∷ []) h runs;
}
entry_alike kind stream past w frame (entry.Drop why) h runs bytes is states rests = record {
  happens = record { answer = refl; marks = refl; released = refl; wire = refl };
  after = refused_stands kind stream past w (gate.Dropped why) [] h runs;
}

pub primary_takes_alike : (kind : Kind) (stream : List (List ℕ)) (past : Past) (w : Pair) (frame : List ℕ)
    → Stands kind stream past w → is_primary w.stopped ≡ false → AreBytes frame
    → Goes kind stream (client_entry past (entry_of frame)) (primary_takes (core.passed w) w.next frame)
unfolding primary_takes
primary_takes_alike kind stream past w frame h runs bytes =
    subst (λ (v : Pair). Stands kind stream past v
    → Goes kind stream (client_entry past (entry_of frame)) (primary_takes (core.passed v) v.next frame))
    (sym (primary_pair_is kind stream past past.awaits_ack past.is_reported w h (h.first runs) refl refl))
    (λ g. entry_alike kind stream past w frame (entry_of frame) g runs bytes refl) h
