-- What a turn and a client's frame leave, from what their parts leave.
use Rattle.std.proofs.Common.{◌≡◌, ℕ, Bool, true, false, List, [], ◌++◌, map, Option, None, Some, refl, ap, ◌∙◌}
use Rattle.std.specs.Prelude.{if◌then◌else◌, option_to_list}
use Rattle.inet_frame.specs.Counted.{tcp_in}
use Rattle.inet_frame.specs.Fields.{TcpFields}
use Rattle.frame_mirror.specs.Accepted.{entry_of}
use Rattle.frame_mirror.specs.Inboxes.{has_room}
use Rattle.frame_mirror.specs.declared.ingress.Entry.{Entry}
use Rattle.frame_mirror.specs.declared.ingress.Entry.TheVariants.{Frame, Answer, Drop}
use Rattle.frame_mirror.specs.declared.ring.Waiting.{Waiting}
use Rattle.tcp_track.specs.Tracking.{Tracking}
use Rattle.state_wire.specs.Guest.{Meaning, after_turn, sent_in}
use Rattle.colo_wire.specs.declared.answers.Gate.TheVariants as gate
use Rattle.out_compare.specs.Comparing.{Comparing}
use Rattle.node_parts.specs.Turns.{Turn, left_frames, takes, turn_for}
use Rattle.node_release.specs.Gated.{gated, looked_by, refused, taken_by}
use Rattle.node_primary.specs.Node.{Primary}
use Rattle.node_primary.specs.Steps.{compares, follow_all, followed, frame_message, gated_for, primary_ingress, told, with_waiting}

-- a turn of the guest, followed
pub turn_followed : (n new : Primary) (t : Turn) (lines : Tracking) (guest : Meaning) (inbox : List Waiting)
    (sent : List (List ℕ)) → lines ≡ n.comparing.mine → guest ≡ after_turn n.guest (turn_for n.guest n.inbox lines t) →
    inbox ≡ left_frames (takes n.guest t.wants) n.inbox → sent ≡ sent_in n.guest (turn_for n.guest n.inbox lines t) →
    new ≡ follow_all (record n { guest = guest; inbox = inbox }) sent → new ≡ followed n t
unfolding followed
turn_followed n new t lines guest inbox sent l g i s e =
    e ∙ all_same n (g ∙ ap (λ (x : Tracking). after_turn n.guest (turn_for n.guest n.inbox x t)) l) i
    (s ∙ ap (λ (x : Tracking). sent_in n.guest (turn_for n.guest n.inbox x t)) l)
  where
    all_same : (n : Primary) {a b : Meaning} {c d : List Waiting} {x y : List (List ℕ)} → a ≡ b → c ≡ d → x ≡ y →
        follow_all (record n { guest = a; inbox = c }) x ≡ follow_all (record n { guest = b; inbox = d }) y
    all_same n p q r = cc

-- letting a frame in leaves whether the node is alone
looked_alone : (x : Comparing) (t : Option TcpFields) → (looked_by x t).is_alone ≡ x.is_alone
looked_alone x None = refl
looked_alone x (Some s) = refl

gated_alone : (x : Comparing) (inbox : List Waiting) (index : ℕ) (entry : Entry) →
    (gated x inbox index entry).comparing.is_alone ≡ x.is_alone
unfolding gated
gated_alone x inbox index (Drop why) = refl
gated_alone x inbox index (Answer reply) = refl
gated_alone x inbox index (Frame frame) = by (has_room inbox)
  where
    by : (room : Bool) →
        (if room then taken_by x index frame (tcp_in frame) else refused gate.Full x []).comparing.is_alone ≡ x.is_alone
    by true = looked_alone x (tcp_in frame)
    by false = refl

-- a frame that waits is put once the comparer has looked at it
put_after : (n : Primary) (y : Comparing) (waiting : Option Waiting) → y.is_alone ≡ n.comparing.is_alone →
    with_waiting (compares n y) waiting ≡ compares (with_waiting n waiting) y
put_after n y waiting e =
    ap (λ (alone : Bool). record n {
      comparing = y;
      inbox = n.inbox ++ option_to_list waiting;
      waits = n.waits ++ told alone (map frame_message (option_to_list waiting));
    }) e

pub frame_taken_in : (n new : Primary) (index : ℕ) (frame : List ℕ) (x : Comparing) (w : Option Waiting) →
    x ≡ (gated_for n index frame).comparing → w ≡ (gated_for n index frame).waiting →
    new ≡ with_waiting (compares n x) w → new ≡ primary_ingress n index frame
frame_taken_in n new index frame x w ex ew e =
    let g = gated_for n index frame in
    e
    ∙ (ap (λ (y : Comparing). with_waiting (compares n y) w) ex
    ∙ (ap (λ (o : Option Waiting). with_waiting (compares n g.comparing) o) ew
    ∙ put_after n g.comparing g.waiting (gated_alone n.comparing n.inbox index (entry_of frame))))
