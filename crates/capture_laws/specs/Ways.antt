-- What is under way at a secondary while it hears messages one after the other, whatever turns lie
-- between, and which of them are due.
use Rattle.std.specs.Prelude.{◌≡◌, ℕ, true, List, [], ◌∷◌, ⊤}
use Rattle.state_wire.specs.Guest.{Kind}
use Rattle.colo_wire.specs.declared.messages.Message.{Message}
use Rattle.colo_wire.specs.declared.messages.Message.TheVariants.{Begin, State, End}
use Rattle.kept_checkpoint.specs.Kept.{begin_kept}
use Rattle.node_secondary.specs.Hearing.{is_due_at, keep_part}
use Rattle.node_secondary.specs.declared.under_way.UnderWay.{UnderWay}
use Rattle.node_secondary.specs.declared.under_way.UnderWay.TheVariants.{Nothing, Begun, Heard}

-- an End leaves nothing of a checkpoint of which the state was heard
abbrev pub way_after_end : UnderWay → UnderWay
way_after_end (Heard kept) = Nothing
way_after_end u = u

-- what is under way after a message that is due
abbrev pub way : Kind → UnderWay → Message → UnderWay
way kind u (Begin e) = Begun
way kind u (State bytes) = Heard (begin_kept bytes kind.page_count kind.sector_count)
way kind u (End e) = way_after_end u
way kind u m = keep_part u m

-- each is due when it comes
abbrev pub AreDue : Kind → ℕ → UnderWay → List Message → Type 0
AreDue kind next u [] = ⊤
AreDue kind next u (m ∷ ms) = (is_due_at kind next u m ≡ true) × AreDue kind next (way kind u m) ms
