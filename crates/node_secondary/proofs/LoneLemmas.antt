-- That the node is alone, by the option that says so, and what always holds then.
use Rattle.std.proofs.Common.{◌≡◌, ℕ, Bool, true, false, List, [], ◌++◌, map, Option, None, Some, sym, ap, ◌∙◌}
use Rattle.std.specs.Prelude.{IsSome, fold}
use Rattle.std.specs.Global.{Vec}
use Rattle.std.proofs.lemmas.Bool.{false≢true, true≢false}
use Rattle.colo_wire.specs.declared.messages.Message.{Message}
use Rattle.tcp_track.specs.Tracking.{Tracking}
use Rattle.frame_mirror.specs.declared.ring.Waiting.{Waiting}
use Rattle.state_wire.specs.Guest.{Meaning, after_turn, sent_in}
use Rattle.settle_rules.specs.Release.{released_frame}
use Rattle.out_compare.specs.Comparing.{Comparing, settle, settlement_of, take_own}
use Rattle.out_compare.specs.Held as compare
use Rattle.node_parts.specs.Outboxes.{TakesFirst}
use Rattle.node_parts.specs.Turns.{Turn, left_frames, takes, turn_for}
use Rattle.node_secondary.specs.Inside.{IsLone, comparing_of, lone}
use Rattle.node_secondary.specs.Steps.{followed, settle_alone}
use Rattle.node_secondary.specs.Survivor.{Survivor, alone}

-- one that isn't
pub lone_by : (held : Option compare.Held) (waits : List Message) (spent : Bool) → comparing_of held ≡ None →
    IsLone held waits spent
lone_by None waits spent e = tt
lone_by (Some held) waits spent e = absurd cc

-- one that answered that memory ran out
pub lone_spent : (held : Option compare.Held) (waits : List Message) (old new : Bool) → new ≡ true →
    IsLone held waits old → IsLone held waits new
lone_spent None waits old new e lone = tt
lone_spent (Some held) waits old new e lone = (lone.0, λ still. absurd (true≢false (sym e ∙ still)))

-- one whose comparer goes on
pub lone_on : (held : Option compare.Held) (waits : List Message) (spent : Bool) (old new : compare.Held) →
    held ≡ Some old → (spent ≡ false → new.spent ≡ false) → IsLone held waits spent → IsLone (Some new) waits spent
lone_on None waits spent old new e going lone = absurd cc
lone_on (Some held) waits spent old new e going lone = (lone.0, going)

pub lone_going : (held : Option compare.Held) (waits : List Message) (spent : Bool) (old : compare.Held) →
    held ≡ Some old → spent ≡ false → IsLone held waits spent → old.spent ≡ false
lone_going None waits spent old e going lone = absurd cc
lone_going (Some held) waits spent old e going lone = cc (e, lone.1 going)

-- none of its messages is taken
pub lone_taken : (held : Option compare.Held) (old new : List Message) (spent : Bool) (taken : Option (Vec ℕ)) →
    TakesFirst old new taken → IsLone held old spent → IsLone held new spent
lone_taken None old new spent taken takes lone = tt
lone_taken (Some held) old new spent None takes lone = (takes.1, lone.1)
lone_taken (Some held) old new spent (Some bytes) takes lone = absurd cc

pub lone_silent : (held : Option compare.Held) (waits : List Message) (spent : Bool) → IsSome (comparing_of held) →
    IsLone held waits spent → waits ≡ []
lone_silent None waits spent some lone = absurd (false≢true some)
lone_silent (Some held) waits spent some lone = lone.0

-- ---- a turn of a node alone

-- followed, from what its parts leave
pub lone_followed : (n : Survivor) (t : Turn) (lines : Tracking) (guest : Meaning) (inbox : List Waiting)
    (sent : List (List ℕ)) (after : compare.Held) → lines ≡ n.comparing.mine →
    guest ≡ after_turn n.guest (turn_for n.guest n.inbox lines t) →
    inbox ≡ left_frames (takes n.guest t.wants) n.inbox → sent ≡ sent_in n.guest (turn_for n.guest n.inbox lines t) →
    after ≡ compare.holds (fold take_own n.comparing sent) → lone guest inbox after.comparing ≡ followed n t
unfolding followed
lone_followed n t lines guest inbox sent after l g i s a =
    same (g ∙ ap (λ (x : Tracking). after_turn n.guest (turn_for n.guest n.inbox x t)) l) i
    (ap (λ (h : compare.Held). h.comparing) a
    ∙ ap (λ (x : List (List ℕ)). fold take_own n.comparing x)
    (s ∙ ap (λ (x : Tracking). sent_in n.guest (turn_for n.guest n.inbox x t)) l))
  where
    same : {a b : Meaning} {c d : List Waiting} {x y : Comparing} → a ≡ b → c ≡ d → x ≡ y → lone a c x ≡ lone b d y
    same p q r = cc

-- and settled
pub lone_settled : (n : Survivor) (guest : Meaning) (inbox : List Waiting) (x : Comparing) (after : compare.Held) →
    lone guest inbox x ≡ n → after ≡ compare.holds (settle x true) →
    alone (lone guest inbox after.comparing) ≡ (settle_alone n).after
unfolding settle_alone
lone_settled n guest inbox x after e a =
    ap (λ (h : compare.Held). alone (lone guest inbox h.comparing)) a
    ∙ ap (λ (m : Survivor). (settle_alone m).after) e

pub lone_released : (n : Survivor) (guest : Meaning) (inbox : List Waiting) (x : Comparing)
    (old out : List (List ℕ)) → lone guest inbox x ≡ n →
    out ≡ old ++ map released_frame (settlement_of x true).out → out ≡ old ++ (settle_alone n).out
unfolding settle_alone
lone_released n guest inbox x old out e o = o ∙ ap (λ (m : Survivor). old ++ (settle_alone m).out) e
