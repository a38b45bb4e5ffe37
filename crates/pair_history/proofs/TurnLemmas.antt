-- A turn of a node's guest is the theorem's, and what is told of it is what the theorem tells.
use Rattle.std.proofs.Common.{◌≡◌, ℕ, ◌&&◌, Bool, true, false, List, [], ◌∷◌, ◌++◌, append-nil, append_assoc, fold, map, Option, None, Some, is_some, refl, sym, ap, subst, ◌∙◌}
use Rattle.std.specs.Prelude.{if◌then◌else◌}
use Rattle.std.specs.List.{cons_option}
use Rattle.std.specs.Option.{option_map}
use Rattle.std.proofs.lemmas.List.{map-append}
use Rattle.inet_frame.specs.Counted.{client_tuple_of, counted, tcp_in}
use Rattle.inet_frame.specs.Fields.{TcpFields}
use Rattle.inet_frame.specs.declared.tuple.Tuple.{Tuple}
use Rattle.tcp_track.specs.Lines.{Item, sent, sent_of}
use Rattle.tcp_track.specs.Stands.{segments}
use Rattle.tcp_track.specs.Tracking.{Tracking, taken, took_of}
use Rattle.tcp_track.specs.declared.openings.Opening.{Opening}
use Rattle.seq_rewriter.specs.Given.{opening_for, raise_frame}
use Rattle.frame_mirror.specs.declared.ring.Waiting.{Waiting}
use Rattle.state_wire.specs.Guest.{Kind, after_turn, sent_in, turn_of}
use Rattle.colo_wire.specs.declared.messages.Message.{Message}
use Rattle.colo_wire.specs.declared.messages.Message.TheVariants.{Sent}
use Rattle.node_parts.specs.Turns.{current_for, frame_for, left_frames, taken_frame, takes}
use Rattle.node_release.specs.Following as following
use Rattle.node_release.specs.Following.{new_numbers}
use Rattle.node_secondary.specs.Turns.{sent_messages}
use Rattle.out_compare.specs.Comparing.{Comparing, take_own}
use Rattle.out_compare.specs.Noting.{new_number, opening_made}
use Rattle.pair_theorem.specs.Events.{counted_frames, number_message, numbers_of, raise_count}
use Rattle.pair_theorem.specs.GuestTurns.{TurnMade, add_turn, raise_waiting, turn_from, turn_if, turn_with, turn_without}
use Rattle.pair_theorem.specs.Past.{NodeRun}
use Rattle.settle_history.specs.Laws.{numbers_said}
use Rattle.settle_history.specs.Standing.{Tracks, number_said}
use Rattle.settle_history.proofs.TrackLemmas.{opening_is, tracks_frame}
use Rattle.pair_history.specs.Standing.{guest_in}

-- THE FRAME that a guest is given
current_is : (items : List Item) (lines : Tracking) (o : Option TcpFields) → Tracks items lines
    → current_for lines o ≡ opening_for o (sent_of items)
current_is items lines None h = refl
current_is items lines (Some s) h = opening_is items lines (client_tuple_of s) h

given_alike : (items : List Item) (lines : Tracking) (w : Waiting) → Tracks items lines
    → frame_for lines w ≡ raise_waiting w (sent_of items)
unfolding raise_waiting
given_alike items lines w h =
    ap (λ (o : Option Opening). raise_frame w.frame w.seen o) (current_is items lines (tcp_in w.frame) h)

-- THE TURN, with this frame taken and these left
pub record Turns (kind : Kind) (node : NodeRun) (turned : ℕ) (taken_one : Option Waiting) (left : List Waiting)
    (lines : Tracking) (d b n : ℕ) (made : TurnMade) : Type 0 where
  pub guest : after_turn (guest_in kind node turned) (turn_of d (option_map (frame_for lines) taken_one) b n)
      ≡ guest_in kind made.run (raise_count turned)
  pub inbox : left ≡ made.inbox
  pub index : option_map (λ (w : Waiting). w.index) taken_one ≡ made.index
  pub output : sent_in (guest_in kind node turned) (turn_of d (option_map (frame_for lines) taken_one) b n)
      ≡ made.output
  pub items : made.run.items ≡ node.items ++ map sent (segments made.output)

turns_none : (kind : Kind) (node : NodeRun) (turned : ℕ) (inbox : List Waiting) (lines : Tracking) (d b n : ℕ)
    → Turns kind node turned None inbox lines d b n (turn_without kind node inbox (numbers_of d b n))
unfolding turn_without add_turn
turns_none kind node turned inbox lines d b n =
    record { guest = refl; inbox = refl; index = refl; output = refl; items = refl }

turns_some : (kind : Kind) (node : NodeRun) (turned : ℕ) (w : Waiting) (inbox : List Waiting) (lines : Tracking)
    (d b n : ℕ) → Tracks node.items lines
    → Turns kind node turned (Some w) inbox lines d b n (turn_with kind node w inbox (numbers_of d b n))
unfolding turn_with add_turn
turns_some kind node turned w inbox lines d b n h =
    let given = given_alike node.items lines w h in
    record {
      guest = ap (λ (f : List ℕ). after_turn (guest_in kind node turned) (turn_of d (Some f) b n)) given;
      inbox = refl;
      index = refl;
      output = ap (λ (f : List ℕ). kind.sent node.run.state (turn_of d (Some f) b n)) given;
      items = refl;
    }

pub turns_alike : (kind : Kind) (node : NodeRun) (turned : ℕ) (inbox : List Waiting) (lines : Tracking) (d : ℕ)
    (i : Bool) (b n : ℕ) → Tracks node.items lines
    → Turns kind node turned (taken_frame (takes (guest_in kind node turned) i) inbox)
    (left_frames (takes (guest_in kind node turned) i) inbox) lines d b n
    (turn_from kind node inbox i (numbers_of d b n))
unfolding turn_from turn_if
turns_alike kind node turned [] lines d i b n h = by (i && kind.can_receive node.run.state)
  where
    by : (c : Bool) → Turns kind node turned (taken_frame c []) (left_frames c []) lines d b n
        (turn_without kind node [] (numbers_of d b n))
    by true = turns_none kind node turned [] lines d b n
    by false = turns_none kind node turned [] lines d b n
turns_alike kind node turned (w ∷ inbox) lines d i b n h = by (i && kind.can_receive node.run.state)
  where
    by : (c : Bool) → Turns kind node turned (taken_frame c (w ∷ inbox)) (left_frames c (w ∷ inbox)) lines d b n
        (turn_if c kind node w inbox (numbers_of d b n))
    by true = turns_some kind node turned w inbox lines d b n h
    by false = turns_none kind node turned (w ∷ inbox) lines d b n

-- LINES that follow all frames
frame_items : (o : Option TcpFields) (said : List TcpFields)
    → map sent (cons_option o []) ++ map sent said ≡ map sent (cons_option o said)
frame_items None said = refl
frame_items (Some s) said = refl

pub tracks_frames : (items : List Item) (lines : Tracking) (frames : List (List ℕ)) → Tracks items lines
    → Tracks (items ++ map sent (segments frames)) (fold taken lines frames)
tracks_frames items lines [] h = subst (λ (xs : List Item). Tracks xs lines) (sym (append-nil items)) h
tracks_frames items lines (f ∷ frames) h =
    subst (λ (xs : List Item). Tracks xs (fold taken (taken lines f) frames))
    (append_assoc items (map sent (segments (f ∷ []))) (map sent (segments frames))
    ∙ ap (λ (xs : List Item). items ++ xs) (frame_items (counted f) (segments frames)))
    (tracks_frames (items ++ map sent (segments (f ∷ []))) (taken lines f) frames (tracks_frame items lines f h))

-- WHAT IS TOLD of what a secondary's guest sent
pub sent_alike : (frames : List (List ℕ)) → sent_messages frames ≡ map Sent (counted_frames frames)
sent_alike [] = refl
sent_alike (f ∷ frames) = by (is_some (counted f)) (sent_alike frames)
  where
    by : (c : Bool) → sent_messages frames ≡ map Sent (counted_frames frames)
        → (if c then Sent f ∷ [] else []) ++ sent_messages frames
        ≡ map Sent (if c then f ∷ counted_frames frames else counted_frames frames)
    by true rest = ap (λ (ms : List Message). Sent f ∷ ms) rest
    by false rest = rest

-- THE NEW NUMBERS that are told
number_alike : (t : Tuple) (o : Option Opening) (number : Option ℕ)
    → following.number_message t o number ≡ map number_message (number_said t o number)
number_alike t None number = refl
number_alike t (Some o) None = refl
number_alike t (Some o) (Some number) = refl

pub numbers_alike : (x : Comparing) (frames : List (List ℕ))
    → new_numbers x frames ≡ map number_message (numbers_said x frames)
numbers_alike x [] = refl
numbers_alike x (f ∷ frames) =
    let took = took_of x.mine f in
    (λ i. number_alike took.tuple (opening_made took.what) (new_number x.numbers took) i
    ++ numbers_alike (take_own x f) frames i)
    ∙ sym (map-append number_message (number_said took.tuple (opening_made took.what) (new_number x.numbers took))
    (numbers_said (take_own x f) frames))
