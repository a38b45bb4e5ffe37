-- The parts of a pair, as a record of plain data, and what a call makes.
use Rattle.std.specs.Prelude.{◌≡◌, ℕ, Bool}
use Rattle.state_wire.specs.Guest.{Meaning}
use Rattle.node_primary.specs.Node.{primary_of}
use Rattle.node_secondary.specs.Survivor.{second_of}
use Rattle.pair_core.specs.Events.{Outcome}
use Rattle.pair_core.specs.Pair.{Held, Pair}
use Rattle.pair_core.specs.declared.event.Event.{Event}
use Rattle.pair_core.specs.declared.parts.Parts.{Parts}

abbrev pub held_of : {G : Type 0} → Parts G → ℕ → Bool → Held G
held_of parts steps spent = record {
  first = parts.first;
  second = parts.second;
  down = parts.down;
  up = parts.up;
  frames = parts.frames;
  next = parts.next;
  stopped = parts.stopped;
  is_reported = parts.is_reported;
  sent_heard = parts.sent_heard;
  steps = steps;
  spent = spent;
}

abbrev pub plain : {G : Type 0} → (G → Meaning) → Parts G → Pair
plain meaning parts = record {
  first = primary_of meaning parts.first;
  second = second_of meaning parts.second;
  down = parts.down;
  up = parts.up;
  frames = parts.frames;
  next = parts.next;
  stopped = parts.stopped;
  is_reported = parts.is_reported;
  sent_heard = parts.sent_heard;
}

-- an event is as it must be
pub record Makes (e : Event) (o : Outcome) : Type 0 where
  pub answer : e.answer ≡ o.answer
  pub marks : e.marks ≡ o.marks
  pub released : e.released ≡ o.released
  pub wire : e.wire.items ≡ o.wire
