-- The fields of a secondary that speak of its being alone, and what always holds of them.
use Rattle.std.specs.Prelude.{◌≡◌, ℕ, Bool, false, List, [], Option, None, Some, ⊤}
use Rattle.std.specs.Option.{option_map}
use Rattle.frame_mirror.specs.declared.ring.Waiting.{Waiting}
use Rattle.state_wire.specs.Guest.{Meaning}
use Rattle.colo_wire.specs.declared.messages.Message.{Message}
use Rattle.out_compare.specs.Comparing.{Comparing}
use Rattle.out_compare.specs.Held as compare
use Rattle.node_parts.specs.Turns.{Turn}
use Rattle.node_secondary.specs.Survivor.{Survivor}

-- what the comparer of a node alone compares
abbrev pub comparing_of : Option compare.Held → Option Comparing
comparing_of held = option_map (λ (h : compare.Held). h.comparing) held

abbrev pub lone : Meaning → List Waiting → Comparing → Survivor
lone guest inbox x = record { guest = guest; inbox = inbox; comparing = x }

-- the arguments of a turn, in their order
abbrev pub turn_in : ℕ × Bool × ℕ × ℕ → Turn
turn_in t = record { ticks = t.0; wants = t.1; requests = t.2; steps = t.3 }

-- no message waits at a node alone, and its comparer answers that memory ran out only where the
-- node does
abbrev pub IsLone : Option compare.Held → List Message → Bool → Type 0
IsLone None waits spent = ⊤
IsLone (Some held) waits spent = (waits ≡ []) × (spent ≡ false → held.spent ≡ false)
