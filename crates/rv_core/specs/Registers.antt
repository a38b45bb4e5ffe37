-- The registers of one hart (RISC-V unprivileged, RV32I, 2.1; the reservation: A,
-- "Load-Reserved/Store-Conditional Instructions").
use Rattle.std.specs.Prelude.{◌≡◌, ℕ, ◌+◌, ◌%◌, ◌^◌, ◌==◌, Bool, true, false, List, slice_index, slice_set, if◌then◌else◌}

-- the program counter, x0 to x31, whether an address is reserved, and the address that was reserved
-- last
pub record Regs : Type 0 where
  pub pc : ℕ
  pub x : List ℕ
  pub reserved : Bool
  pub address : ℕ

-- what holds of the registers at every moment: x0 is 0, and the program counter is a multiple of 4
pub record IsHart (h : Regs) : Type 0 where
  pub x0 : slice_index h.x 0 ≡ 0
  pub aligned : h.pc % 4 ≡ 0

-- the register x with the number k
abbrev pub x_of : Regs → ℕ → ℕ
x_of h k = slice_index h.x k

-- the registers after a write of v to the register rd; a write to x0 is dropped
abbrev pub write_register : Regs → ℕ → ℕ → Regs
write_register h rd v = record h { x = if rd == 0 then h.x else slice_set h.x rd v }

-- the address of the instruction behind this one
abbrev pub next_pc : Regs → ℕ
next_pc h = (h.pc + 4) % 2 ^ 32

-- the registers with the program counter elsewhere
abbrev pub with_pc : Regs → ℕ → Regs
with_pc h pc = record h { pc = pc }

-- an address is reserved, in place of any other; and none is, which leaves the address
abbrev pub reserve : Regs → ℕ → Regs
reserve h addr = record h { reserved = true; address = addr }

abbrev pub unreserve : Regs → Regs
unreserve h = record h { reserved = false }
