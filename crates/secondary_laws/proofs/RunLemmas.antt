-- A secondary's guest over a list of calls: its turns are counted, whatever is heard between them.
use Rattle.std.proofs.Common.{◌≡◌, ℕ, suc, ◌+◌, ◌%◌, ◌^◌, Bool, true, false, List, [], ◌∷◌, refl, ap, ◌∙◌, arith}
use Rattle.std.specs.Prelude.{if◌then◌else◌}
use Rattle.std.proofs.Math.Nat.{mod-add-mod}
use Rattle.state_wire.specs.Guest.{Meaning}
use Rattle.colo_wire.specs.declared.messages.Message.{Message}
use Rattle.colo_wire.specs.declared.messages.Message.TheVariants.{Frame, Number, Begin, State, Page, Disk, Write, Held, Line, Bytes, End, Known, Sent, Ack}
use Rattle.kept_checkpoint.specs.Kept.{load_kept}
use Rattle.node_parts.specs.Turns.{Turn}
use Rattle.secondary_laws.specs.Calls.{CountsAllTurns, after_call, came, count_turns, gave, heard, made, reported}
use Rattle.node_secondary.specs.Hearing.{commit, hear, hear_due, is_due}
use Rattle.node_secondary.specs.Node.{Node}
use Rattle.node_secondary.specs.Steps.{followed, secondary_turn, settle_alone, survive_as}
use Rattle.node_secondary.specs.Survivor.{Second, alone, guest_of, hears}
use Rattle.node_secondary.specs.Turns.{make_turn}
use Rattle.node_secondary.specs.declared.under_way.UnderWay.{UnderWay}
use Rattle.node_secondary.specs.declared.under_way.UnderWay.TheVariants.{Nothing, Begun, Heard}

-- ---- only turns change the count, and nothing changes the kind

pub record KeepsGuest (old new : Meaning) : Type 0 where
  pub kind : new.kind ≡ old.kind
  pub turned : new.turned ≡ old.turned

same_guest : (g : Meaning) → KeepsGuest g g
same_guest g = record { kind = refl; turned = refl }

commit_keeps : (n : Node) (e : ℕ) (u : UnderWay) → KeepsGuest n.guest (commit n e u).guest
unfolding load_kept
commit_keeps n e Nothing = same_guest n.guest
commit_keeps n e Begun = same_guest n.guest
commit_keeps n e (Heard kept) = record { kind = refl; turned = refl }

due_keeps : (n : Node) (m : Message) → KeepsGuest n.guest (hear_due n m).guest
due_keeps n (Frame index seen trim frame) = same_guest n.guest
due_keeps n (Number tuple client number) = same_guest n.guest
due_keeps n (Begin e) = same_guest n.guest
due_keeps n (State bytes) = same_guest n.guest
due_keeps n (End e) = commit_keeps n e n.under_way
due_keeps n (Page k bytes) = same_guest n.guest
due_keeps n (Disk first bytes) = same_guest n.guest
due_keeps n (Write k bytes) = same_guest n.guest
due_keeps n (Held index seen trim frame) = same_guest n.guest
due_keeps n (Line tuple mac flags client own number refusal acked window mss base) = same_guest n.guest
due_keeps n (Bytes bytes) = same_guest n.guest
due_keeps n (Known tuple client number) = same_guest n.guest
due_keeps n (Sent frame) = same_guest n.guest
due_keeps n (Ack e) = same_guest n.guest

hear_keeps : (n : Node) (m : Message) → KeepsGuest n.guest (hear n m).guest
hear_keeps n m = by (is_due n m)
  where
    by : (b : Bool) → KeepsGuest n.guest (if b then hear_due n m else n).guest
    by true = due_keeps n m
    by false = same_guest n.guest

heard_keeps : (s : Second) (m : Message) → KeepsGuest (guest_of s) (guest_of (after_call s (heard m)))
heard_keeps (hears n) m = hear_keeps n m
heard_keeps (alone n) m = same_guest n.guest

reported_keeps : (s : Second) → KeepsGuest (guest_of s) (guest_of (after_call s reported))
unfolding survive_as
reported_keeps (hears n) = same_guest n.guest
reported_keeps (alone n) = same_guest n.guest

came_keeps : (s : Second) (index : ℕ) (frame : List ℕ) →
    KeepsGuest (guest_of s) (guest_of (after_call s (came index frame)))
came_keeps (hears n) index frame = same_guest n.guest
came_keeps (alone n) index frame = same_guest n.guest

gave_keeps : (s : Second) → KeepsGuest (guest_of s) (guest_of (after_call s gave))
gave_keeps (hears n) = same_guest n.guest
gave_keeps (alone n) = same_guest n.guest

-- ---- turns are counted

more : (t c : ℕ) → ((t + 1) % 2 ^ 64 + c) % 2 ^ 64 ≡ (t + suc c) % 2 ^ 64
more t c = mod-add-mod (t + 1) (2 ^ 64) c ∙ ap (λ (x : ℕ). x % 2 ^ 64) (omega arith)

turn_counts : (s : Second) (t : Turn) →
    (guest_of (secondary_turn s t).after).turned ≡ ((guest_of s).turned + 1) % 2 ^ 64
unfolding make_turn settle_alone followed
turn_counts (hears n) t = refl
turn_counts (alone n) t = refl

-- after a call that isn't a turn
counts_on : (old new : Meaning) (c turned : ℕ) → turned ≡ (new.turned + c) % 2 ^ 64 → KeepsGuest old new →
    turned ≡ (old.turned + c) % 2 ^ 64
counts_on old new c turned e keeps = e ∙ ap (λ (x : ℕ). (x + c) % 2 ^ 64) keeps.turned

pub counts_all : CountsAllTurns
counts_all s [] = ap (λ (x : ℕ). x % 2 ^ 64) (omega arith)
counts_all s (heard m ∷ calls) =
    counts_on (guest_of s) (guest_of (after_call s (heard m))) (count_turns calls) _
    (counts_all (after_call s (heard m)) calls) (heard_keeps s m)
counts_all s (made t ∷ calls) =
    counts_all (secondary_turn s t).after calls
    ∙ (ap (λ (x : ℕ). (x + count_turns calls) % 2 ^ 64) (turn_counts s t)
    ∙ more (guest_of s).turned (count_turns calls))
counts_all s (reported ∷ calls) =
    counts_on (guest_of s) (guest_of (after_call s reported)) (count_turns calls) _
    (counts_all (after_call s reported) calls) (reported_keeps s)
counts_all s (came index frame ∷ calls) =
    counts_on (guest_of s) (guest_of (after_call s (came index frame))) (count_turns calls) _
    (counts_all (after_call s (came index frame)) calls) (came_keeps s index frame)
counts_all s (gave ∷ calls) =
    counts_on (guest_of s) (guest_of (after_call s gave)) (count_turns calls) _
    (counts_all (after_call s gave) calls) (gave_keeps s)
