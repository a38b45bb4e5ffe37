-- Messages that wait to go out, the oldest first.
use Rattle.std.specs.Prelude.{◌≡◌, ℕ, List, [], ◌∷◌, Option, None, Some}
use Rattle.std.specs.Global.{Vec}
use Rattle.colo_wire.specs.Reader.{IsWhole, message_of}
use Rattle.colo_wire.specs.declared.messages.Message.{Message}

-- bytes that are a message, whole and alone
abbrev pub IsRead : Vec ℕ → Type 0
IsRead bytes = IsWhole (message_of bytes.items) bytes.items

-- the oldest message that waits is taken, spelled, and nothing else changes; none is taken where
-- none waits
abbrev pub TakesFirst : List Message → List Message → Option (Vec ℕ) → Type 0
TakesFirst old new None = (old ≡ []) × (new ≡ [])
TakesFirst old new (Some bytes) = (old ≡ message_of bytes.items ∷ new) × IsRead bytes
