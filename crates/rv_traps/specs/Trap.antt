-- The due interrupt, the entry of a trap and the return from it. RISC-V privileged, 3.1.6.1
-- (privilege and interrupt-enable stack), 3.1.7 (mtvec), 3.1.9 (mip and mie), 3.1.15 (mcause),
-- 3.3.2 (MRET).
use Rattle.std.specs.Prelude.{ℕ, ◌+◌, ◌-◌, ◌*◌, ◌/◌, ◌%◌, ◌^◌, true, false, if◌then◌else◌, ◌&&◌, List, [], ◌∷◌, Option, None, bit_and}
use Rattle.std.specs.List.{find}
use Rattle.std.specs.Option.{option_map}
use Rattle.rv_traps.specs.Cause.{machine_software_interrupt, machine_timer_interrupt, machine_external_interrupt, interrupt_bit}
use Rattle.rv_traps.specs.CsrState.{CsrState, is_set, mstatus_with}
use Rattle.rv_traps.specs.CsrTable.{mip_of}

-- the interrupts in their order: external, software, timer
abbrev pub interrupt_order : List ℕ
interrupt_order =
    machine_external_interrupt ∷ machine_software_interrupt ∷ machine_timer_interrupt ∷ []

-- where MIE is 1, the cause of the first interrupt that mie and mip share, with bit 31 set
unfoldable pub pending_interrupt : CsrState → Option ℕ
pending_interrupt c =
    if is_set 3 c.mstatus
    then option_map
    (λ k. interrupt_bit + k)
    (find (λ k. is_set k (bit_and c.mie (mip_of c))) interrupt_order)
    else None

-- mepc is the pc, mcause and mtval are set, MPIE becomes MIE, MIE becomes 0
unfoldable pub enter_trap : CsrState → ℕ → ℕ → ℕ → CsrState
enter_trap c cause value pc = record c {
  mstatus = mstatus_with false (is_set 3 c.mstatus);
  mepc = pc;
  mcause = cause;
  mtval = value;
}

-- the base, and for an interrupt where mtvec is vectored 4 times the cause without bit 31 above it
unfoldable pub trap_handler : CsrState → ℕ → ℕ
trap_handler c cause =
    if is_set 31 cause && is_set 0 c.mtvec
    then (c.mtvec / 4 * 4 + 4 * (cause % 2 ^ 31)) % 2 ^ 32
    else c.mtvec / 4 * 4

-- MIE becomes MPIE, MPIE becomes 1; the pc becomes mepc
unfoldable pub return_from_trap : CsrState → CsrState
return_from_trap c = record c { mstatus = mstatus_with (is_set 7 c.mstatus) true }

-- mtime after d more microseconds
abbrev pub tick : CsrState → ℕ → CsrState
tick c d = record c { mtime = (c.mtime + d) % 2 ^ 64 }

-- one step more
abbrev pub count_step : CsrState → CsrState
count_step c = record c { steps = (c.steps + 1) % 2 ^ 64 }

-- at the start all are 0 but mtimecmp, which is all ones, and mstatus
unfoldable pub boot_csrs : CsrState
boot_csrs = record {
  mstatus = 0x1800;
  mie = 0;
  mtvec = 0;
  mscratch = 0;
  mepc = 0;
  mcause = 0;
  mtval = 0;
  msip = false;
  mtime = 0;
  mtimecmp = 2 ^ 64 - 1;
  steps = 0;
  external = false;
}
