-- What bytes are read as: one whole message, or the first reason why they are none.
use Rattle.std.specs.Prelude.{ℕ, ◌<◌, List, length, Result, Ok, Err, ◌⊎◌}
use Rattle.colo_wire.specs.Faults.{IsFault, IsFirst}
use Rattle.colo_wire.specs.Reader.{IsWhole}
use Rattle.colo_wire.specs.declared.faults.WireFault.{WireFault}
use Rattle.colo_wire.specs.declared.faults.WireFault.TheVariants.{More, Kind, Length, Field, NoMemory}
use Rattle.colo_wire.specs.declared.messages.Message.{Message}

-- others follow a whole message
abbrev pub IsFollowed : List ℕ → Type 0
IsFollowed bytes = (m : Message) × (k : ℕ) × IsFirst m k bytes × (k < length bytes)

-- what bytes are read as
abbrev pub Reading : Type 0
Reading = Result Message WireFault

-- the length is the first place that is wrong also where bytes follow a whole message
abbrev pub Reads : List ℕ → Reading → Type 0
Reads bytes (Ok m) = IsWhole m bytes
Reads bytes (Err More) = IsFault More bytes
Reads bytes (Err Kind) = IsFault Kind bytes
Reads bytes (Err Length) = IsFault Length bytes ⊎ IsFollowed bytes
Reads bytes (Err Field) = IsFault Field bytes
Reads bytes (Err NoMemory) = ⊥
