-- The values of the machine's state that the registers hold, and the registers that have them.
use Rattle.std.specs.Prelude.{◌≡◌, ◌%◌, ◌∷◌, drop}
use Rattle.rv_core.specs.Registers.{Regs}
use Rattle.rv_core.specs.declared.registers.HartFields.{HartFields}

-- x1 to x31, and the rest as it is
abbrev pub fields_of : Regs → HartFields
fields_of h = record { pc = h.pc; x = drop 1 h.x; reserved = h.reserved; address = h.address }

-- the registers of these values
abbrev pub state_of : HartFields → Regs
state_of f = record { pc = f.pc; x = 0 ∷ f.x; reserved = f.reserved; address = f.address }

-- what registers can hold: the program counter is a multiple of 4
abbrev pub IsLegal : HartFields → Type 0
IsLegal f = f.pc % 4 ≡ 0
