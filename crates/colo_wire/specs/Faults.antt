-- What stands in front of a string of bytes: a message, the beginning of one, or the first place
-- where no message goes on so.
use Rattle.std.specs.Prelude.{◌≡◌, ℕ, ◌<◌, ◌≤◌, List, length, take}
use Rattle.colo_wire.specs.Spelling.{IsMessage, message_bytes}
use Rattle.colo_wire.specs.declared.faults.WireFault.{WireFault}
use Rattle.colo_wire.specs.declared.faults.WireFault.TheVariants.{More, Kind, Length, Field, NoMemory}
use Rattle.colo_wire.specs.declared.messages.Message.{Message}

-- the first k bytes are the spelling of m
pub record IsFirst (m : Message) (k : ℕ) (bytes : List ℕ) : Type 0 where
  pub message : IsMessage m
  pub within : k ≤ length bytes
  pub spelled : take k bytes ≡ message_bytes m

-- two strings agree as far as both go
abbrev pub Agrees : List ℕ → List ℕ → Type 0
Agrees a b = take (length b) a ≡ take (length a) b

-- some message agrees with the bytes
abbrev pub GoesOn : List ℕ → Type 0
GoesOn bytes = (m : Message) × IsMessage m × Agrees (message_bytes m) bytes

-- the bytes are the beginning of this message, and not all of it
pub record IsBegun (m : Message) (bytes : List ℕ) : Type 0 where
  pub message : IsMessage m
  pub part : length bytes < length (message_bytes m)
  pub spelled : take (length bytes) (message_bytes m) ≡ bytes

-- Kind: no message agrees with the first byte. Length: one does, but none with the first five,
-- which are the kind and the length. Field: one agrees with the first five, but none with all.
abbrev pub IsFault : WireFault → List ℕ → Type 0
IsFault More bytes = (m : Message) × IsBegun m bytes
IsFault Kind bytes = ¬ GoesOn (take 1 bytes)
IsFault Length bytes = GoesOn (take 1 bytes) × ¬ GoesOn (take 5 bytes)
IsFault Field bytes = GoesOn (take 5 bytes) × ¬ GoesOn bytes
IsFault NoMemory bytes = ⊥
