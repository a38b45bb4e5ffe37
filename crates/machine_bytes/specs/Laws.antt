-- The bytes of a state and its values are one, both ways.
use Rattle.std.specs.Prelude.{◌≡◌, ℕ, true, List}
use Rattle.shared_definitions.specs.Bytes.{AreBytes}
use Rattle.machine_bytes.specs.Reading.{fields_in, accepts}
use Rattle.machine_bytes.specs.Spelling.{bytes_of}
use Rattle.machine_bytes.specs.Legal.{IsInRange, IsLegal}
use Rattle.machine_bytes.specs.declared.fields.StateFields.{StateFields}

-- values that a machine can have are read again from their bytes
abbrev pub ReadsBack : Type 0
ReadsBack = (v : StateFields) → IsInRange v → IsLegal v → fields_in (bytes_of v) ≡ v

-- their bytes are accepted
abbrev pub AreAccepted : Type 0
AreAccepted = (v : StateFields) → IsInRange v → IsLegal v → accepts (bytes_of v) ≡ true

-- bytes that are accepted stand for values that a machine can have
abbrev pub AreLegalFields : Type 0
AreLegalFields =
    (b : List ℕ) → AreBytes b → accepts b ≡ true → IsInRange (fields_in b) × IsLegal (fields_in b)

-- bytes that are accepted are written again as they are
abbrev pub WritesBack : Type 0
WritesBack = (b : List ℕ) → AreBytes b → accepts b ≡ true → bytes_of (fields_in b) ≡ b
