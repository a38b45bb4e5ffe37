-- The values of the machine's state that the CSRs hold, and the state that has them.
use Rattle.std.specs.Prelude.{Bool}
use Rattle.rv_traps.specs.declared.fields.CsrFields.{CsrFields}
use Rattle.rv_traps.specs.CsrState.{CsrState, AreLegal}

-- what registers can hold: mstatus is 0x1800 with bits 3 and 7 free, mie is within 0x888, bit 1 of
-- mtvec is 0, mepc is a multiple of 4
abbrev pub IsLegal : CsrFields → Type 0
IsLegal f = AreLegal f.mstatus f.mie f.mtvec f.mepc

abbrev pub fields_of : CsrState → CsrFields
fields_of c = record {
  mstatus = c.mstatus;
  mie = c.mie;
  mtvec = c.mtvec;
  mscratch = c.mscratch;
  mepc = c.mepc;
  mcause = c.mcause;
  mtval = c.mtval;
  msip = c.msip;
  mtime = c.mtime;
  mtimecmp = c.mtimecmp;
  steps = c.steps;
}

-- the state of these values, with the devices' line
abbrev pub state_of : CsrFields → Bool → CsrState
state_of f on = record {
  mstatus = f.mstatus;
  mie = f.mie;
  mtvec = f.mtvec;
  mscratch = f.mscratch;
  mepc = f.mepc;
  mcause = f.mcause;
  mtval = f.mtval;
  msip = f.msip;
  mtime = f.mtime;
  mtimecmp = f.mtimecmp;
  steps = f.steps;
  external = on;
}
