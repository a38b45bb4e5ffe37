-- The parts of a primary, as a record of plain data, and what always holds of them.
use Rattle.std.specs.Prelude.{◌≡◌, ℕ, Bool, true, false}
use Rattle.frame_mirror.specs.Inboxes.{AreAccepted}
use Rattle.state_wire.specs.Guest.{Meaning}
use Rattle.node_parts.specs.Counts.{HasCounts}
use Rattle.node_parts.specs.Turns.{Turn}
use Rattle.checkpoint_capture.specs.Trims.{TrimWhatIsSeen}
use Rattle.node_primary.specs.Node.{Held, IsCaptured, Primary}
use Rattle.node_primary.specs.declared.parts.Parts.{Parts}

abbrev pub held_of : {G : Type 0} → Parts G → Bool → Held G
held_of parts spent = record {
  guest = parts.guest;
  inbox = parts.inbox;
  comparing = parts.compare.comparing;
  waits = parts.waits;
  captures = parts.captures;
  awaits = parts.awaits;
  spent = spent;
}

abbrev pub plain : {G : Type 0} → (G → Meaning) → Parts G → Primary
plain meaning parts = record {
  guest = meaning parts.guest;
  inbox = parts.inbox;
  comparing = parts.compare.comparing;
  waits = parts.waits;
  captures = parts.captures;
  awaits = parts.awaits;
}

-- the arguments of a turn, in their order
abbrev pub turn_in : ℕ × Bool × ℕ × ℕ → Turn
turn_in t = record { ticks = t.0; wants = t.1; requests = t.2; steps = t.3 }

-- frames that wait were accepted and can be sent; the guest has its kind's pages and sectors, and
-- was captured while an acknowledgement is awaited, since it rests then
pub record AreSound {G : Type 0} (meaning : G → Meaning) (parts : Parts G) : Type 0 where
  pub accepted : AreAccepted parts.inbox
  pub trims : TrimWhatIsSeen parts.inbox
  pub counts : HasCounts (meaning parts.guest)
  pub captured : parts.awaits ≡ true → IsCaptured (meaning parts.guest)

-- the comparer answers that memory ran out only where the node does
abbrev pub AnswersToo : {G : Type 0} → Parts G → Bool → Type 0
AnswersToo parts spent = spent ≡ false → parts.compare.spent ≡ false
