-- Both guests, their inboxes and the link to the secondary hold bytes alone, so that the fields of all that was
-- sent are in their ranges.
use Rattle.tcp_track.specs.Segments.{opening_in, may_open}
use Rattle.std.specs.List.{list_any}
use Rattle.std.proofs.lemmas.List.Elements.{All-map, All-push, All-weaker}
use Rattle.tcp_track.specs.Lines.{Line, line}
use Rattle.std.proofs.Common.{◌≡◌, ◌==◌, ◌<◌, ◌^◌, ℕ, Bool, not, true, false, ◌&&◌, List, [], ◌∷◌, ◌++◌, append-nil, map, fold, Option, None, Some, refl, sym, ap, subst, ◌∙◌, All}
use Rattle.std.specs.List.{cons_option}
use Rattle.std.specs.Option.{option_and_then}
use Rattle.std.proofs.lemmas.Bool.{cond_both}
use Rattle.std.proofs.lemmas.List.Elements.{All-append, All-cons, All-head, All-nil, All-tail, filter_map-append}
use Rattle.inet_frame.specs.Counted.{counted, from_guest, guest_address, tcp_in, tuple_of}
use Rattle.inet_frame.specs.declared.tuple.Tuple.{Tuple}
use Rattle.inet_frame.specs.Fields.{TcpFields}
use Rattle.inet_frame.specs.Laws.{AreInRange}
use Rattle.inet_frame.proofs.FieldLemmas.{in_range}
use Rattle.inet_build.proofs.EditLemmas.{AreBytes-shift_ack}
use Rattle.shared_definitions.specs.Bytes.{AreBytes}
use Rattle.tcp_track.specs.Lines.{Item, segment_of, sent, sent_of}
use Rattle.tcp_track.specs.Stands.{segments}
use Rattle.tcp_track.specs.declared.openings.Opening.{Opening}
use Rattle.seq_rewriter.specs.Given.{opening_for, raise_ack, raise_frame, raise_in}
use Rattle.frame_mirror.specs.declared.ring.Waiting.{Waiting}
use Rattle.state_wire.specs.Guest.{GuestTurn, Kind}
use Rattle.state_wire.specs.Regular.{FitsKind, FrameBytes, GuestBytes, IsRegular}
use Rattle.splice_run.specs.Tokens.{Taken}
use Rattle.settle_rules.specs.Numbers.{KeptNumber, is_number_of, keep_number, learn, learn_all, learn_number, new_number}
use Rattle.settle_rules.specs.OwnFrames.{OwnFrames, own_after}
use Rattle.settle_rules.specs.Survive.{Survival, survive_line, survive_tuple}
use Rattle.pair_theorem.specs.ClientFrames.{trim_items, trims_by}
use Rattle.pair_theorem.specs.GuestTurns.{TurnMade, TurnNumbers, add_turn, guest_turn, raise_waiting, taken_turn, turn_from, turn_if, turn_with, turn_without}
use Rattle.pair_theorem.specs.Past.{NodeRun}
use Rattle.theorem_frames.specs.Shapes.{AreSentInRange}
use Rattle.theorem_frames.proofs.RangeLemmas.{OpeningFits, opening_fits}

-- SEGMENTS OF BYTES
counted_is : (o : Option TcpFields) (s : TcpFields) → from_guest o ≡ Some s → o ≡ Some s
counted_is None s e = e
counted_is (Some t) s e =
    cond_both (t.src == guest_address) (Some t) None (λ (x : Option TcpFields). x ≡ Some s → Some t ≡ Some s)
    (λ f g. g) (λ f g. absurd (cc g)) e

segments_in_range : (frames : List (List ℕ)) → All AreBytes frames → All AreInRange (segments frames)
segments_in_range [] h = All-nil AreInRange
segments_in_range (frame ∷ frames) h =
    by (counted frame) refl (segments_in_range frames (All-tail AreBytes frame frames h))
  where
    by : (o : Option TcpFields) → counted frame ≡ o → All AreInRange (segments frames) →
        All AreInRange (cons_option o (segments frames))
    by None e later = later
    by (Some s) e later =
        All-cons AreInRange s (segments frames)
        (in_range frame s (All-head AreBytes frame frames h) (counted_is (tcp_in frame) s e)) later

sent_of-sent : (xs : List TcpFields) → sent_of (map sent xs) ≡ xs
sent_of-sent [] = refl
sent_of-sent (x ∷ xs) = ap (λ (ys : List TcpFields). x ∷ ys) (sent_of-sent xs)

pub more_in_range : (items : List Item) (xs : List TcpFields) → AreSentInRange items → All AreInRange xs →
    AreSentInRange (items ++ map sent xs)
more_in_range items xs h g =
    subst (All AreInRange)
    (sym (filter_map-append segment_of items (map sent xs)
    ∙ ap (λ (ys : List TcpFields). sent_of items ++ ys) (sent_of-sent xs)))
    (All-append AreInRange (sent_of items) xs h g)

-- items without a segment after them
pub as_before : (items more : List Item) → sent_of more ≡ [] → AreSentInRange items → AreSentInRange (items ++ more)
as_before items more e h =
    subst (All AreInRange)
    (sym (filter_map-append segment_of items more
    ∙ (ap (λ (ys : List TcpFields). sent_of items ++ ys) e ∙ append-nil (sent_of items)))) h

trims_send_nothing : (s : Option TcpFields) (seen : Option Opening) (to : ℕ) → sent_of (trim_items s seen to) ≡ []
trims_send_nothing None seen to = refl
trims_send_nothing (Some s) None to = refl
trims_send_nothing (Some s) (Some o) to = refl

pub trims_in_range : (items : List Item) (w : Waiting) → AreSentInRange items → AreSentInRange (items ++ trims_by w)
unfolding trims_by
trims_in_range items w h = as_before items (trims_by w) (trims_send_nothing (tcp_in w.frame) w.seen w.trim) h

pub own_in_range : (own : OwnFrames) (xs : List TcpFields) → AreSentInRange own.items → All AreInRange xs →
    AreSentInRange (fold own_after own xs).items
own_in_range own [] h g = h
own_in_range own (s ∷ xs) h g =
    own_in_range (own_after own s) xs
    (more_in_range own.items (s ∷ []) h
    (All-cons AreInRange s [] (All-head AreInRange s xs g) (All-nil AreInRange)))
    (All-tail AreInRange s xs g)

-- KEPT NUMBERS are sequence numbers
abbrev pub NumberFits : KeptNumber → Type 0
NumberFits k = k.number < 2 ^ 32

new_number_fits : (numbers : List KeptNumber) (s : TcpFields) → AreInRange s → All NumberFits (new_number numbers s)
unfolding new_number
new_number_fits numbers s h =
    let k : KeptNumber = record {
      tuple = tuple_of s;
      client = (opening_in s).client;
      number = s.seq;
      known = false;
    } in
    cond_both (may_open s && not (list_any (is_number_of (tuple_of s) (opening_in s).client) numbers)) (k ∷ []) []
    (All NumberFits) (λ e. All-cons NumberFits k [] h.seq (All-nil NumberFits)) (λ e. All-nil NumberFits)

-- the numbers kept by the own frames of an event, and those of them that are new
pub record AreOwnNumbers (own : OwnFrames) : Type 0 where
  pub all : All NumberFits own.numbers
  pub new : All NumberFits own.new_numbers

pub own_numbers_fit : (own : OwnFrames) (xs : List TcpFields) → AreOwnNumbers own → All AreInRange xs →
    AreOwnNumbers (fold own_after own xs)
own_numbers_fit own [] h g = h
own_numbers_fit own (s ∷ xs) h g =
    let new = new_number_fits own.numbers s (All-head AreInRange s xs g) in
    own_numbers_fit (own_after own s) xs (record {
      all = All-append NumberFits own.numbers (new_number own.numbers s) h.all new;
      new = All-append NumberFits own.new_numbers (new_number own.numbers s) h.new new;
    }) (All-tail AreInRange s xs g)

pub kept_fit : (t : Tuple) (client number : ℕ) (known : Bool) (numbers : List KeptNumber) → number < 2 ^ 32 →
    All NumberFits numbers → All NumberFits (keep_number t client number known numbers)
kept_fit t client number known numbers small h =
    let k : KeptNumber = record { tuple = t; client = client; number = number; known = known } in
    cond_both (list_any (is_number_of t client) numbers) numbers (numbers ++ k ∷ []) (All NumberFits) (λ e. h)
    (λ e. All-push NumberFits numbers k h small)

learnt_fits : (t : Tuple) (client number : ℕ) (k : KeptNumber) → NumberFits k → NumberFits (learn t client number k)
learnt_fits t client number k h =
    cond_both (is_number_of t client k && k.number == number) (record k { known = true }) k NumberFits (λ e. h) (λ e. h)

pub learnt_fit : (t : Tuple) (client number : ℕ) (numbers : List KeptNumber) → All NumberFits numbers →
    All NumberFits (learn_number numbers t client number)
learnt_fit t client number numbers h =
    All-map NumberFits (learn t client number) numbers
    (All-weaker NumberFits (λ (k : KeptNumber). NumberFits (learn t client number k)) (learnt_fits t client number)
    numbers h)

pub all_learnt_fit : (numbers : List KeptNumber) → All NumberFits numbers → All NumberFits (learn_all numbers)
all_learnt_fit numbers h =
    All-map NumberFits (λ (k : KeptNumber). record k { known = true }) numbers h

-- what a survivor keeps: the numbers of its own openings too
pub survived_fits : (x : Survival) (t : Tuple) (l : Line) (o : Option Opening) → OpeningFits o →
    All NumberFits x.numbers → All NumberFits (survive_line x t l o).numbers
unfolding survive_line
survived_fits x t l None h g = g
survived_fits x t l (Some o) h g = kept_fit t o.client o.own true x.numbers h.1 g

pub survived_fit : (items : List Item) (x : Survival) (tuples : List Tuple) → AreSentInRange items →
    All NumberFits x.numbers → All NumberFits (fold (survive_tuple items) x tuples).numbers
unfolding survive_tuple
survived_fit items x [] h g = g
survived_fit items x (t ∷ tuples) h g =
    survived_fit items (survive_tuple items x t) tuples h
    (survived_fits x t (line t items) (line t items).opening (opening_fits items t h) g)

-- A NODE
pub record IsNodeOfBytes (kind : Kind) (node : NodeRun) (inbox : List Waiting) : Type 0 where
  pub fits : FitsKind kind node.run.state
  pub bytes : GuestBytes node.run.state
  pub items : AreSentInRange node.items
  pub waiting : All (λ (w : Waiting). AreBytes w.frame) inbox

-- the node after a turn, and what its guest sent in it
pub record IsTurnOfBytes (kind : Kind) (made : TurnMade) : Type 0 where
  pub node : IsNodeOfBytes kind made.run made.inbox
  pub own : All AreInRange (segments made.output)

raised_bytes : (b : List ℕ) (by : Option ℕ) → AreBytes b → AreBytes (raise_ack b by)
raised_bytes b None h = h
raised_bytes b (Some by) h = AreBytes-shift_ack b by h

given_bytes : (w : Waiting) (said : List TcpFields) → AreBytes w.frame → AreBytes (raise_waiting w said)
unfolding raise_waiting raise_frame
given_bytes w said h =
    raised_bytes w.frame
    (option_and_then (raise_in w.seen (opening_for (tcp_in w.frame) said)) (tcp_in w.frame)) h

turn_added : (kind : Kind) (node : NodeRun) (inbox : List Waiting) (turn : GuestTurn) (taken : Taken) →
    IsRegular kind → IsNodeOfBytes kind node inbox → FrameBytes turn.frame →
    IsNodeOfBytes kind (add_turn kind node turn taken) inbox
unfolding add_turn
turn_added kind node inbox turn taken regular h frame =
    let next = regular.next node.run.state turn h.fits h.bytes frame in
    let output = kind.sent node.run.state turn in
    let own = segments_in_range output (regular.sent node.run.state turn h.bytes frame) in
    record {
      fits = next.0;
      bytes = next.1;
      items = more_in_range node.items (segments output) h.items own;
      waiting = h.waiting;
    }

without_frame : (kind : Kind) (node : NodeRun) (inbox : List Waiting) (n : TurnNumbers) → IsRegular kind →
    IsNodeOfBytes kind node inbox → IsTurnOfBytes kind (turn_without kind node inbox n)
unfolding turn_without
without_frame kind node inbox n regular h = record {
  node = turn_added kind node inbox (guest_turn n None) (taken_turn n None) regular h tt;
  own = segments_in_range (kind.sent node.run.state (guest_turn n None))
      (regular.sent node.run.state (guest_turn n None) h.bytes tt);
}

with_frame : (kind : Kind) (node : NodeRun) (w : Waiting) (inbox : List Waiting) (n : TurnNumbers) → IsRegular kind →
    IsNodeOfBytes kind node (w ∷ inbox) → IsTurnOfBytes kind (turn_with kind node w inbox n)
unfolding turn_with
with_frame kind node w inbox n regular h =
    let frame = raise_waiting w (sent_of node.items) in
    let turn = guest_turn n (Some frame) in
    let bytes = given_bytes w (sent_of node.items) (All-head (λ (x : Waiting). AreBytes x.frame) w inbox h.waiting) in
    let rest : IsNodeOfBytes kind node inbox = record {
      fits = h.fits;
      bytes = h.bytes;
      items = h.items;
      waiting = All-tail (λ (x : Waiting). AreBytes x.frame) w inbox h.waiting;
    } in
    record {
      node = turn_added kind node inbox turn (taken_turn n (Some w.index)) regular rest bytes;
      own = segments_in_range (kind.sent node.run.state turn) (regular.sent node.run.state turn h.bytes bytes);
    }

by_taking : (takes : Bool) (kind : Kind) (node : NodeRun) (w : Waiting) (inbox : List Waiting) (n : TurnNumbers) →
    IsRegular kind → IsNodeOfBytes kind node (w ∷ inbox) → IsTurnOfBytes kind (turn_if takes kind node w inbox n)
unfolding turn_if
by_taking true kind node w inbox n regular h = with_frame kind node w inbox n regular h
by_taking false kind node w inbox n regular h = without_frame kind node (w ∷ inbox) n regular h

pub turn_of_bytes : (kind : Kind) (node : NodeRun) (inbox : List Waiting) (takes : Bool) (n : TurnNumbers) →
    IsRegular kind → IsNodeOfBytes kind node inbox → IsTurnOfBytes kind (turn_from kind node inbox takes n)
unfolding turn_from
turn_of_bytes kind node [] takes n regular h = without_frame kind node [] n regular h
turn_of_bytes kind node (w ∷ inbox) takes n regular h =
    by_taking (takes && kind.can_receive node.run.state) kind node w inbox n regular h
