-- The causes of traps by their names (RISC-V privileged, 3.1.15 "Machine Cause Register", table of
-- causes).
use Rattle.std.specs.Prelude.{ℕ, ◌^◌}

-- ---- exceptions

abbrev pub instruction_address_misaligned : ℕ
instruction_address_misaligned = 0

abbrev pub instruction_access_fault : ℕ
instruction_access_fault = 1

abbrev pub illegal_instruction : ℕ
illegal_instruction = 2

abbrev pub breakpoint : ℕ
breakpoint = 3

abbrev pub load_address_misaligned : ℕ
load_address_misaligned = 4

abbrev pub load_access_fault : ℕ
load_access_fault = 5

-- AMO is in the standard's names of these two, since an atomic operation stores
abbrev pub store_address_misaligned : ℕ
store_address_misaligned = 6

abbrev pub store_access_fault : ℕ
store_access_fault = 7

abbrev pub environment_call_from_m_mode : ℕ
environment_call_from_m_mode = 11

-- ---- interrupts: the number of each is its bit in mie and mip too

abbrev pub machine_software_interrupt : ℕ
machine_software_interrupt = 3

abbrev pub machine_timer_interrupt : ℕ
machine_timer_interrupt = 7

abbrev pub machine_external_interrupt : ℕ
machine_external_interrupt = 11

-- bit 31 of mcause is 1 for an interrupt
abbrev pub interrupt_bit : ℕ
interrupt_bit = 2 ^ 31
