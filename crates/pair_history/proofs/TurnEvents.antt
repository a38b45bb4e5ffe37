-- A turn of the primary.
use Rattle.std.proofs.Common.{◌≡◌, ◌≤◌, ℕ, ◌||◌, Bool, true, false, List, [], ◌∷◌, ◌++◌, append-nil, fold, length, map, Option, None, Some, is_some, refl, sym, ap, subst, ◌∙◌, arith, true≢false}
use Rattle.std.specs.Prelude.{if◌then◌else◌}
use Rattle.std.specs.List.{AllByRecursion}
use Rattle.colo_base.specs.declared.fault.Cause.{Cause}
use Rattle.tcp_track.specs.Stands.{segments}
use Rattle.settle_rules.specs.OwnFrames.{own_frames}
use Rattle.frame_mirror.specs.Accepted.{is_accepted}
use Rattle.frame_mirror.specs.declared.ring.TheConstants.{INBOX_ROOM}
use Rattle.frame_mirror.specs.declared.ring.Waiting.{Waiting}
use Rattle.state_wire.specs.Guest.{Kind}
use Rattle.colo_wire.specs.declared.messages.Message.{Message}
use Rattle.replay_log.specs.declared.lines.Line.TheVariants.{Primary}
use Rattle.replay_log.specs.declared.records.Answer.TheVariants as answer
use Rattle.replay_log.specs.declared.records.Answer.TheVariants.{Made, Nothing}
use Rattle.node_parts.specs.Turns.{left_frames, takes}
use Rattle.node_release.specs.Causes.{cause_of}
use Rattle.node_release.specs.Following.{new_numbers}
use Rattle.node_primary.specs.Steps.{followed, settle_node, told}
use Rattle.node_secondary.specs.Survivor.{Second, alone, hears}
use Rattle.out_compare.specs.Comparing.{need_after, take_own}
use Rattle.pair_core.specs.Events as core
use Rattle.pair_core.specs.Events.{primary_makes}
use Rattle.pair_core.specs.Pair.{Pair, is_primary}
use Rattle.pair_theorem.specs.Events.{ended_by, number_message, numbers_of, outcome_of, primary_ended, primary_event, settle_event, turn_primary}
use Rattle.pair_theorem.specs.GuestTurns.{TurnMade, turn_from}
use Rattle.pair_theorem.specs.LogParts.{delivered_bytes}
use Rattle.pair_theorem.specs.Past.{Past, is_primary_stop, silently}
use Rattle.settle_history.specs.Laws.{numbers_said}
use Rattle.compare_history.specs.Books.{primary_books}
use Rattle.compare_history.specs.Laws.{EndsAs}
use Rattle.compare_history.proofs.EventLemmas as comparer
use Rattle.theorem_runs.specs.Links.{OneCheckpoint}
use Rattle.theorem_runs.specs.Runs.{has_end}
use Rattle.theorem_runs.proofs.Checkpoints.{calm_of}
use Rattle.theorem_runs.proofs.Orders.{beside_no_end, told_no_end}
use Rattle.pair_history.specs.Due.{Due}
use Rattle.pair_history.specs.Standing.{PrimaryStands, SecondStands, Stands, guest_in}
use Rattle.pair_history.proofs.DueLemmas.{due_behind, due_numbers}
use Rattle.pair_history.proofs.EndLemmas.{MayCapture, calm_pair, ended, ends_alike}
use Rattle.pair_history.proofs.Flags.{primary_flag, releases_stopped}
use Rattle.pair_history.proofs.Goes.{Goes, idle, nothing_sent}
use Rattle.pair_history.proofs.TurnLemmas.{numbers_alike, turns_alike}
use Rattle.pair_history.proofs.Written.{primary_pair, primary_pair_is}

-- WHAT WAITS after a turn
pub left_room : (c : Bool) (inbox : List Waiting) (k : ℕ) → length inbox ≤ k → length (left_frames c inbox) ≤ k
left_room false inbox k h = h
left_room true [] k h = h
left_room true (w ∷ inbox) k h = omega (arith, h)

pub left_all : (P : Waiting → Type 0) (c : Bool) (inbox : List Waiting) → AllByRecursion P inbox
    → AllByRecursion P (left_frames c inbox)
left_all P false inbox h = h
left_all P true [] h = h
left_all P true (w ∷ inbox) h = h.1

-- WHAT IS TOLD
pub told_link : (b : Bool) (link messages : List Message)
    → link ++ told b messages ≡ (if b then link else link ++ messages)
told_link true link messages = append-nil link
told_link false link messages = refl

pub lone_cause : (b : Bool) (why : Option Cause) (c : Cause) → (if b then None else why) ≡ Some c → b ≡ false
lone_cause true why c e = absurd (true≢false (sym (ap (λ (o : Option Cause). is_some o) e)))
lone_cause false why c e = refl

-- a turn that is to settle may capture, where no checkpoint is on its way
may_capture : (past : Past) (made : TurnMade) (why : Cause) → has_end past.to_secondary ≡ false
    → (primary_ended past made).cause ≡ Some why → MayCapture (primary_ended past made).after
unfolding primary_ended settle_event ended_by
may_capture past made why none e = record {
  together = lone_cause past.is_reported _ why e;
  no_end = told_no_end past [] []
      (own_frames past.primary.items past.numbers past.progress (segments made.output)).new_numbers none;
}

-- the pair before a turn, and what the theorem makes of it
abbrev before : Kind → List (List ℕ) → Past → Pair → Pair
before kind stream past w = primary_pair kind stream past false past.is_reported w

abbrev made_of : Kind → Past → ℕ → Bool → ℕ → ℕ → TurnMade
made_of kind past d i b n = turn_from kind past.primary past.primary_inbox i (numbers_of d b n)

-- its node after the guest's turn, with all told
abbrev after_turn_of : Kind → List (List ℕ) → Past → Pair → ℕ → Bool → ℕ → ℕ → Pair
after_turn_of kind stream past w d i b n =
    let v = before kind stream past w in record v { first = followed v.first (core.turn_of d i b n) }

ends_as : (kind : Kind) (stream : List (List ℕ)) (past : Past) (w : Pair) (d : ℕ) (i : Bool) (b n : ℕ)
    → PrimaryStands past (before kind stream past w).first
    → EndsAs (primary_ended past (made_of kind past d i b n)) primary_books true
    (after_turn_of kind stream past w d i b n).first.comparing
unfolding followed
ends_as kind stream past w d i b n p =
    let x = (before kind stream past w).first.comparing in
    let turn = turns_alike kind past.primary past.primary_turned past.primary_inbox x.mine d i b n p.compares.mine_is in
    subst (λ (fs : List (List ℕ)). EndsAs (primary_ended past (made_of kind past d i b n)) primary_books true
    (fold take_own x fs)) (sym turn.output)
    (comparer.primary_turns kind past i (numbers_of d b n) x p.compares).ends

-- what is on the link then
link_after : (kind : Kind) (stream : List (List ℕ)) (past : Past) (w : Pair) (d : ℕ) (i : Bool) (b n : ℕ)
    → PrimaryStands past (before kind stream past w).first
    → past.to_secondary ++ (after_turn_of kind stream past w d i b n).first.waits
    ≡ (primary_ended past (made_of kind past d i b n)).after.to_secondary
unfolding followed
link_after kind stream past w d i b n p =
    let x = (before kind stream past w).first.comparing in
    let made = made_of kind past d i b n in
    let turn = turns_alike kind past.primary past.primary_turned past.primary_inbox x.mine d i b n p.compares.mine_is in
    ap (λ (ms : List Message). past.to_secondary ++ told past.is_reported ms)
    (ap (λ (fs : List (List ℕ)). new_numbers x fs) turn.output ∙ numbers_alike x made.output)
    ∙ (told_link past.is_reported past.to_secondary (map number_message (numbers_said x made.output))
    ∙ sym (comparer.primary_turns kind past i (numbers_of d b n) x p.compares).tells)

-- the secondary is to hear of new numbers
second_told : (kind : Kind) (past : Past) (made : TurnMade) (s : Second) → is_primary_stop past.stop ≡ false
    → SecondStands kind past s → SecondStands kind (primary_ended past made).after s
unfolding primary_ended settle_event ended_by
second_told kind past made (hears n) runs s =
    let new = (own_frames past.primary.items past.numbers past.progress (segments made.output)).new_numbers in (
      s.0,
      record {
        inbox = s.1.inbox;
        lines = s.1.lines;
        numbers = s.1.numbers;
        waits = s.1.waits;
        due = subst (λ (c : Bool). Due kind past.copy past.captures n.committed n.under_way
            (if c then past.to_secondary else past.to_secondary ++ map number_message new)) (sym s.0)
            (due_behind kind past.copy past.captures n.committed n.under_way past.to_secondary
            (map number_message new) (due_numbers kind past.copy past.captures new) s.1.due);
      },
    )
second_told kind past made (alone n) runs s = absurd (true≢false (sym (releases_stopped past s.0) ∙ runs))

-- THE PAIR after it, but for a capture
turned_calm : (kind : Kind) (stream : List (List ℕ)) (past : Past) (w : Pair) (d : ℕ) (i : Bool) (b n : ℕ)
    → Stands kind stream past (before kind stream past w) → is_primary w.stopped ≡ false
    → Stands kind stream (primary_ended past (made_of kind past d i b n)).after
    (calm_pair (after_turn_of kind stream past w d i b n) true)
unfolding primary_ended settle_event ended_by followed
turned_calm kind stream past w d i b n h runs =
    let v = before kind stream past w in
    let p = h.first runs in
    let made = made_of kind past d i b n in
    let turn = turns_alike kind past.primary past.primary_turned past.primary_inbox v.first.comparing.mine d i b n
    p.compares.mine_is in
    let takes_one = takes (guest_in kind past.primary past.primary_turned) i in
    record {
      frames = refl;
      next = refl;
      down = link_after kind stream past w d i b n p;
      up = refl;
      sent_heard = refl;
      stop = h.stop;
      reported = refl;
      first_guest = turn.guest;
      second_guest = h.second_guest;
      first = λ f. record {
        inbox = turn.inbox;
        room = left_room takes_one past.primary_inbox INBOX_ROOM p.room;
        accepted = left_all (λ (x : Waiting). is_accepted x.frame ≡ true) takes_one past.primary_inbox p.accepted;
        compares = (ends_as kind stream past w d i b n p).after;
        captures = refl;
        awaits = p.awaits;
        waits = refl;
      };
      second = λ f. second_told kind past made w.second (primary_flag kind stream past v h ∙ runs) (h.second f);
    }

turned_alike : (kind : Kind) (stream : List (List ℕ)) (past : Past) (w : Pair) (d : ℕ) (i : Bool) (b n : ℕ)
    → Stands kind stream past (before kind stream past w) → is_primary w.stopped ≡ false
    → has_end past.to_secondary ≡ false
    → Goes kind stream (turn_primary past (Primary d i b n) (made_of kind past d i b n))
    (primary_makes (before kind stream past w) (core.turn_of d i b n))
unfolding turn_primary primary_makes settle_node delivered_bytes
turned_alike kind stream past w d i b n h runs none =
    let v = before kind stream past w in
    let p = h.first runs in
    let made = made_of kind past d i b n in
    let w₁ = after_turn_of kind stream past w d i b n in
    let turn = turns_alike kind past.primary past.primary_turned past.primary_inbox v.first.comparing.mine d i b n
    p.compares.mine_is in
    let why = cause_of (need_after w₁.first.comparing true) in
    subst (λ (k : Option ℕ). Goes kind stream (turn_primary past (Primary d i b n) made)
    (ended w₁ why true (answer.Made k) [] [])) (sym turn.index)
    (ends_alike kind stream (Primary d i b n) [] None (Made made.index) (primary_ended past made) w₁ true (record {
      ends = ends_as kind stream past w d i b n p;
      calm = turned_calm kind stream past w d i b n h runs;
      runs = runs;
      may = λ why e. may_capture past made why none e;
    }))

-- while a checkpoint is awaited there is none
paused_alike : (kind : Kind) (stream : List (List ℕ)) (past : Past) (w : Pair) (d : ℕ) (i : Bool) (b n : ℕ)
    → Stands kind stream past (primary_pair kind stream past true past.is_reported w) → is_primary w.stopped ≡ false
    → Goes kind stream (silently past (Primary d i b n) Nothing None)
    (primary_makes (primary_pair kind stream past true past.is_reported w) (core.turn_of d i b n))
unfolding primary_makes delivered_bytes
paused_alike kind stream past w d i b n h runs states rests = record {
  happens = record { answer = refl; marks = refl; released = refl; wire = refl };
  after = nothing_sent kind stream past (primary_pair kind stream past true past.is_reported w) h (h.first runs);
}

running_turn : (kind : Kind) (stream : List (List ℕ)) (past : Past) (w : Pair) (d : ℕ) (i : Bool) (b n : ℕ)
    (awaits : Bool) → Stands kind stream past w → OneCheckpoint past → is_primary w.stopped ≡ false
    → past.awaits_ack ≡ awaits
    → Goes kind stream (if awaits then silently past (Primary d i b n) Nothing None
    else turn_primary past (Primary d i b n) (made_of kind past d i b n)) (primary_makes w (core.turn_of d i b n))
running_turn kind stream past w d i b n true h one runs a =
    subst (λ (v : Pair). Stands kind stream past v → Goes kind stream (silently past (Primary d i b n) Nothing None)
    (primary_makes v (core.turn_of d i b n)))
    (sym (primary_pair_is kind stream past true past.is_reported w h (h.first runs) a refl))
    (λ g. paused_alike kind stream past w d i b n g runs) h
running_turn kind stream past w d i b n false h one runs a =
    subst (λ (v : Pair). Stands kind stream past v
    → Goes kind stream (turn_primary past (Primary d i b n) (made_of kind past d i b n))
    (primary_makes v (core.turn_of d i b n)))
    (sym (primary_pair_is kind stream past false past.is_reported w h (h.first runs) a refl))
    (λ g. turned_alike kind stream past w d i b n g runs (beside_no_end past.to_secondary (calm_of past one a).down)) h

pub primary_alike : (kind : Kind) (stream : List (List ℕ)) (past : Past) (w : Pair) (d : ℕ) (i : Bool) (b n : ℕ)
    → Stands kind stream past w → OneCheckpoint past
    → Goes kind stream (outcome_of kind stream past (Primary d i b n)) (core.event_of w (Primary d i b n))
unfolding outcome_of primary_event
primary_alike kind stream past w d i b n h one =
    by (is_primary_stop past.stop) (is_primary w.stopped) (primary_flag kind stream past w h) refl
  where
    by : (p q : Bool) → p ≡ q → is_primary w.stopped ≡ q
        → Goes kind stream (if p || past.awaits_ack then silently past (Primary d i b n) Nothing None
        else turn_primary past (Primary d i b n) (made_of kind past d i b n))
        (if q then core.nothing w else primary_makes w (core.turn_of d i b n))
    by true true e is = idle kind stream past (Primary d i b n) w h
    by false false e is = running_turn kind stream past w d i b n past.awaits_ack h one is refl
    by true false e is = absurd (true≢false e)
    by false true e is = absurd (true≢false (sym e))
