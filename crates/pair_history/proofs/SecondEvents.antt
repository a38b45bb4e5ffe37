-- A turn of the secondary.
use Rattle.std.proofs.Common.{◌≡◌, ℕ, Bool, true, false, List, [], ◌++◌, append-nil, fold, length, map, Option, None, Some, refl, sym, ap, subst, ◌∙◌, true≢false}
use Rattle.std.specs.Prelude.{if◌then◌else◌}
use Rattle.std.proofs.lemmas.Bool.{and_right, cond-false, cond-true}
use Rattle.colo_base.specs.declared.fault.Cause.{Cause}
use Rattle.tcp_track.specs.Lines.{Item, sent}
use Rattle.tcp_track.specs.Stands.{segments}
use Rattle.settle_rules.specs.OwnFrames.{own_frames}
use Rattle.settle_rules.specs.Release.{Released, released_frame}
use Rattle.state_wire.specs.Guest.{Kind, sent_in}
use Rattle.colo_wire.specs.declared.messages.Message.{Message}
use Rattle.colo_wire.specs.declared.messages.Message.TheVariants.{Sent}
use Rattle.replay_log.specs.declared.lines.Line.TheVariants.{Secondary}
use Rattle.replay_log.specs.declared.records.Answer.TheVariants as answer
use Rattle.replay_log.specs.declared.records.Answer.TheVariants.{Nothing}
use Rattle.node_secondary.specs.Node.{Node}
use Rattle.node_secondary.specs.Steps.{followed, settle_alone}
use Rattle.node_secondary.specs.Survivor.{Second, Survivor, alone, hears}
use Rattle.node_secondary.specs.Turns.{guest_turn, make_turn, sent_messages}
use Rattle.out_compare.specs.Comparing.{settlement_of, take_own}
use Rattle.pair_core.specs.Events as core
use Rattle.pair_core.specs.Events.{secondary_makes}
use Rattle.pair_core.specs.Pair.{Pair, is_secondary}
use Rattle.pair_theorem.specs.Events.{counted_frames, ended_by, number_message, numbers_of, outcome_of, raise_count, secondary_event, settle_event, survivor_ended, turn_secondary, turn_survivor}
use Rattle.pair_theorem.specs.GuestTurns.{TurnMade, turn_from}
use Rattle.pair_theorem.specs.LogParts.{delivered_bytes}
use Rattle.pair_theorem.specs.Past.{Outcome, Past, is_primary_stop, is_secondary_stop, secondary_releases, silently}
use Rattle.pair_theorem.proofs.EventCases.{settled_case, uncaused}
use Rattle.settle_history.specs.Standing.{Tracks}
use Rattle.compare_history.specs.Books.{survivor_books}
use Rattle.compare_history.specs.Laws.{EndsAs}
use Rattle.compare_history.proofs.EventLemmas as comparer
use Rattle.pair_history.specs.Standing.{SecondStands, SecondaryStands, Stands, SurvivorStands, guest_in}
use Rattle.pair_history.proofs.EndLemmas.{counted}
use Rattle.pair_history.proofs.Flags.{both_branches, primary_flag, releases_reported, releases_stopped, secondary_flag}
use Rattle.pair_history.proofs.Goes.{Goes, idle}
use Rattle.pair_history.proofs.SecondLemmas.{second_stands}
use Rattle.pair_history.proofs.TurnEvents.{lone_cause}
use Rattle.pair_history.proofs.TurnLemmas.{sent_alike, tracks_frames, turns_alike}
use Rattle.pair_history.proofs.Written.{alone_pair, alone_pair_is, hears_pair, hears_pair_is}

abbrev made_of : Kind → Past → ℕ → Bool → ℕ → ℕ → TurnMade
made_of kind past d i b k = turn_from kind past.secondary past.secondary_inbox i (numbers_of d b k)

-- IT HEARS: its guest's frames that count are told
hearing_turn : (kind : Kind) (stream : List (List ℕ)) (past : Past) (w : Pair) (n : Node) (d : ℕ) (i : Bool) (b k : ℕ)
    → Stands kind stream past (hears_pair kind stream past n w) → past.is_reported ≡ false
    → SecondaryStands kind past n
    → Goes kind stream (turn_secondary past (Secondary d i b k) (made_of kind past d i b k))
    (secondary_makes (hears_pair kind stream past n w) (core.turn_of d i b k))
unfolding turn_secondary secondary_makes make_turn delivered_bytes
hearing_turn kind stream past w n d i b k h together s states rests =
    let v = hears_pair kind stream past n w in
    let made = made_of kind past d i b k in
    let t = core.turn_of d i b k in
    let x : Node = record n {
      guest = guest_in kind past.secondary past.secondary_turned;
      inbox = past.secondary_inbox;
      waits = [];
    } in
    let turn = turns_alike kind past.secondary past.secondary_turned past.secondary_inbox n.lines d i b k s.lines in
    record {
      happens = record {
        answer = ap (λ (x : Option ℕ). answer.Made x 0) turn.index;
        marks = refl;
        released = refl;
        wire = refl;
      };
      after = second_stands kind stream past v (record (make_turn x t) { waits = [] }) made.run made.inbox
          (raise_count past.secondary_turned)
          past.secondary_numbers past.to_secondary (past.to_primary ++ map Sent (counted_frames made.output))
          (make_turn x t).waits h together turn.guest (record {
            inbox = turn.inbox;
            lines = subst (λ (xs : List Item). Tracks xs (make_turn x t).lines)
                (ap (λ (fs : List (List ℕ)). past.secondary.items ++ map sent (segments fs)) turn.output
                ∙ sym turn.items)
                (tracks_frames past.secondary.items n.lines (sent_in x.guest (guest_turn x t)) s.lines);
            numbers = s.numbers;
            waits = refl;
            due = s.due;
          })
          (ap (λ (ms : List Message). past.to_primary ++ ms)
          (ap (λ (fs : List (List ℕ)). sent_messages fs) turn.output ∙ sent_alike made.output));
    }

-- IT IS ALONE, and settles
no_cause : (past : Past) (made : TurnMade) (why : Cause) → past.is_reported ≡ true
    → (survivor_ended past made).cause ≡ Some why → ⊥
unfolding survivor_ended settle_event ended_by
no_cause past made why reported e = true≢false (sym reported ∙ lone_cause past.is_reported _ why e)

abbrev after_alone : Kind → List (List ℕ) → Past → Survivor → Pair → ℕ → Bool → ℕ → ℕ → Survivor
after_alone kind stream past n w d i b k =
    followed (record n {
      guest = guest_in kind past.secondary past.secondary_turned;
      inbox = past.secondary_inbox;
    }) (core.turn_of d i b k)

ends_as : (kind : Kind) (stream : List (List ℕ)) (past : Past) (w : Pair) (n : Survivor) (d : ℕ) (i : Bool) (b k : ℕ)
    → SurvivorStands past n
    → EndsAs (survivor_ended past (made_of kind past d i b k)) survivor_books true
    (after_alone kind stream past n w d i b k).comparing
unfolding followed
ends_as kind stream past w n d i b k s =
    let x = n.comparing in
    let turn = turns_alike kind past.secondary past.secondary_turned past.secondary_inbox x.mine d i b k
    s.compares.mine_is in
    subst (λ (fs : List (List ℕ)). EndsAs (survivor_ended past (made_of kind past d i b k)) survivor_books true
    (fold take_own x fs)) (sym turn.output)
    (comparer.survivor_turns kind past i (numbers_of d b k) x s.compares).ends

alone_uncaused : (kind : Kind) (stream : List (List ℕ)) (past : Past) (w : Pair) (n : Survivor) (d : ℕ) (i : Bool)
    (b k : ℕ) → Stands kind stream past (alone_pair kind stream past n w) → secondary_releases past ≡ true
    → SurvivorStands past n
    → Goes kind stream (uncaused (Secondary d i b k) [] None (answer.Made (made_of kind past d i b k).index)
    (survivor_ended past (made_of kind past d i b k)))
    (secondary_makes (alone_pair kind stream past n w) (core.turn_of d i b k))
unfolding survivor_ended settle_event ended_by secondary_makes settle_alone followed delivered_bytes
alone_uncaused kind stream past w n d i b k h releases s states rests =
    let made = made_of kind past d i b k in
    let x = survivor_ended past made in
    let new = (own_frames past.secondary.items past.numbers past.progress (segments made.output)).new_numbers in
    let ends = ends_as kind stream past w n d i b k s in
    let turn = turns_alike kind past.secondary past.secondary_turned past.secondary_inbox n.comparing.mine d i b k
    s.compares.mine_is in
    let out = ap (λ (rs : List Released). map released_frame rs) ends.out in
    let frames = map released_frame (settlement_of (after_alone kind stream past n w d i b k).comparing true).out in
    let number = counted (λ (c : ℕ). answer.Made made.index c) frames x.out out in
    record {
      happens = record {
        answer = ap (λ (j : Option ℕ). answer.Made j (length frames)) turn.index ∙ number;
        marks = refl;
        released = out;
        wire = refl;
      };
      after = record {
        frames = refl;
        next = refl;
        down = sym (cond-true past.is_reported past.to_secondary (past.to_secondary ++ map number_message new)
            (releases_reported past releases));
        up = append-nil past.to_primary;
        sent_heard = refl;
        stop = h.stop;
        reported = refl;
        first_guest = h.first_guest;
        second_guest = turn.guest;
        first = λ f. absurd (true≢false (sym (releases_stopped past releases)
            ∙ (primary_flag kind stream past (alone_pair kind stream past n w) h ∙ f)));
        second = λ f. (releases, record { inbox = turn.inbox; compares = ends.after });
      };
    }

alone_turn : (kind : Kind) (stream : List (List ℕ)) (past : Past) (w : Pair) (n : Survivor) (d : ℕ) (i : Bool) (b k : ℕ)
    → Stands kind stream past (alone_pair kind stream past n w) → secondary_releases past ≡ true
    → SurvivorStands past n
    → Goes kind stream (turn_survivor past (Secondary d i b k) (made_of kind past d i b k))
    (secondary_makes (alone_pair kind stream past n w) (core.turn_of d i b k))
unfolding turn_survivor
alone_turn kind stream past w n d i b k h releases s =
    let made = made_of kind past d i b k in
    settled_case (λ o. Goes kind stream o (secondary_makes (alone_pair kind stream past n w) (core.turn_of d i b k)))
    (Secondary d i b k) [] None (answer.Made made.index) (survivor_ended past made)
    (λ none. alone_uncaused kind stream past w n d i b k h releases s)
    (λ why e. absurd (no_cause past made why (releases_reported past releases) e))

-- EITHER
running_turn : (kind : Kind) (stream : List (List ℕ)) (past : Past) (w : Pair) (s : Second) (d : ℕ) (i : Bool) (b k : ℕ)
    → Stands kind stream past w → w.second ≡ s → SecondStands kind past s
    → Goes kind stream (if secondary_releases past
    then turn_survivor past (Secondary d i b k) (made_of kind past d i b k)
    else turn_secondary past (Secondary d i b k) (made_of kind past d i b k)) (secondary_makes w (core.turn_of d i b k))
running_turn kind stream past w (hears n) d i b k h is s =
    let made = made_of kind past d i b k in
    subst (λ (o : Outcome). Goes kind stream o (secondary_makes w (core.turn_of d i b k)))
    (sym (cond-false (secondary_releases past) (turn_survivor past (Secondary d i b k) made)
    (turn_secondary past (Secondary d i b k) made) (and_right (is_primary_stop past.stop) past.is_reported s.0)))
    (subst (λ (v : Pair). Stands kind stream past v → Goes kind stream (turn_secondary past (Secondary d i b k) made)
    (secondary_makes v (core.turn_of d i b k))) (sym (hears_pair_is kind stream past n w h is s.1))
    (λ g. hearing_turn kind stream past w n d i b k g s.0 s.1) h)
running_turn kind stream past w (alone n) d i b k h is s =
    let made = made_of kind past d i b k in
    subst (λ (o : Outcome). Goes kind stream o (secondary_makes w (core.turn_of d i b k)))
    (sym (cond-true (secondary_releases past) (turn_survivor past (Secondary d i b k) made)
    (turn_secondary past (Secondary d i b k) made) s.0))
    (subst (λ (v : Pair). Stands kind stream past v → Goes kind stream (turn_survivor past (Secondary d i b k) made)
    (secondary_makes v (core.turn_of d i b k))) (sym (alone_pair_is kind stream past n w h is s.1))
    (λ g. alone_turn kind stream past w n d i b k g s.0 s.1) h)

pub secondary_alike : (kind : Kind) (stream : List (List ℕ)) (past : Past) (w : Pair) (d : ℕ) (i : Bool) (b k : ℕ)
    → Stands kind stream past w
    → Goes kind stream (outcome_of kind stream past (Secondary d i b k)) (core.event_of w (Secondary d i b k))
unfolding outcome_of secondary_event
secondary_alike kind stream past w d i b k h =
    let made = made_of kind past d i b k in
    both_branches (λ o c. Goes kind stream o c) (is_secondary_stop past.stop) (is_secondary w.stopped)
    (silently past (Secondary d i b k) Nothing None)
    (if secondary_releases past then turn_survivor past (Secondary d i b k) made
    else turn_secondary past (Secondary d i b k) made)
    (core.nothing w) (secondary_makes w (core.turn_of d i b k)) (secondary_flag kind stream past w h)
    (λ f. idle kind stream past (Secondary d i b k) w h)
    (λ f. running_turn kind stream past w w.second d i b k h refl (h.second f))
