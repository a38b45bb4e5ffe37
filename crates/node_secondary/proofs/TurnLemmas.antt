-- What a guest sends, frame by frame.
use Rattle.std.proofs.Common.{◌≡◌, ℕ, ◌+◌, ◌-◌, ◌%◌, List, ◌++◌, Option, Some, None, length, take, slice_get, refl, sym, ap, ◌∙◌, arith}
use Rattle.std.specs.Prelude.{IsSome, fold}
use Rattle.std.proofs.lemmas.List.{flat_map_more}
use Rattle.std.proofs.lemmas.List.Sums.{fold_push}
use Rattle.std.proofs.lemmas.Nat.{mod_below}
use Rattle.inet_frame.specs.Counted.{counted, from_guest, tcp_in}
use Rattle.inet_frame.specs.Fields.{TcpFields}
use Rattle.inet_frame.proofs.FieldLemmas.{length_fits}
use Rattle.tcp_track.specs.Tracking.{Tracking, taken}
use Rattle.frame_mirror.specs.declared.ring.Waiting.{Waiting}
use Rattle.state_wire.proofs.BeginLemmas.{take_one}
use Rattle.state_wire.specs.Guest.{Meaning, after_turn, sent_in}
use Rattle.colo_wire.specs.Spelling.{HasSpelling}
use Rattle.colo_wire.specs.declared.messages.Message.{Message}
use Rattle.colo_wire.specs.declared.messages.Message.TheVariants.{Sent}
use Rattle.node_parts.specs.Turns.{Turn, left_frames, takes}
use Rattle.node_secondary.specs.Node.{Node}
use Rattle.node_secondary.specs.Turns.{guest_turn, make_turn, sent_message, sent_messages}

-- a frame that counts has a length that a message allows
spelled_by : (frame : List ℕ) (o : Option TcpFields) → tcp_in frame ≡ o → IsSome (from_guest o) →
    HasSpelling (Sent frame)
spelled_by frame None e some = absurd cc
spelled_by frame (Some t) e some =
    let fits = length_fits frame t e in
    let whole : (length frame - 14) % 1 ≡ 0 = omega (arith, mod_below (length frame - 14) 1 (omega arith)) in
    record {
      length = record { from = omega (arith, fits.0); to = fits.1; stepped = whole };
      places = refl;
    }

pub sent_spelled : (frame : List ℕ) → IsSome (counted frame) → HasSpelling (Sent frame)
sent_spelled frame some = spelled_by frame (tcp_in frame) refl some

-- one frame more
pub lines_more : (lines : Tracking) (frames : List (List ℕ)) (k : ℕ) (frame : List ℕ) →
    slice_get frames k ≡ Some frame →
    fold taken lines (take (k + 1) frames) ≡ taken (fold taken lines (take k frames)) frame
lines_more lines frames k frame e =
    ap (fold taken lines) (take_one frames k frame e) ∙ fold_push taken lines (take k frames) frame

pub waits_more : (waits : List Message) (frames : List (List ℕ)) (k : ℕ) (frame : List ℕ) →
    slice_get frames k ≡ Some frame →
    waits ++ sent_messages (take (k + 1) frames) ≡ (waits ++ sent_messages (take k frames)) ++ sent_message frame
waits_more waits frames k frame e =
    ap (λ (xs : List (List ℕ)). waits ++ sent_messages xs) (take_one frames k frame e)
    ∙ sym (flat_map_more sent_message waits (take k frames) frame)

-- what a turn leaves, from what its parts leave
pub turn_made : (n : Node) (t : Turn) (guest : Meaning) (inbox : List Waiting) (sent : List (List ℕ))
    (lines : Tracking) (waits : List Message) → sent ≡ sent_in n.guest (guest_turn n t) →
    guest ≡ after_turn n.guest (guest_turn n t) → inbox ≡ left_frames (takes n.guest t.wants) n.inbox →
    lines ≡ fold taken n.lines sent → waits ≡ n.waits ++ sent_messages sent →
    record n { guest = guest; inbox = inbox; lines = lines; waits = waits } ≡ make_turn n t
unfolding make_turn
turn_made n t guest inbox sent lines waits s g i l m =
    nodes_same n g i (l ∙ ap (λ (x : List (List ℕ)). fold taken n.lines x) s)
    (m ∙ ap (λ (x : List (List ℕ)). n.waits ++ sent_messages x) s)
  where
    nodes_same : (n : Node) {a b : Meaning} {c d : List Waiting} {e f : Tracking} {x y : List Message} →
        a ≡ b → c ≡ d → e ≡ f → x ≡ y →
        record n { guest = a; inbox = c; lines = e; waits = x }
        ≡ record n { guest = b; inbox = d; lines = f; waits = y }
    nodes_same n p q r s = cc
