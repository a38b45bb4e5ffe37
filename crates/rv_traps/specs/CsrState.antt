-- What the control and status registers of the one hart hold, with the timer and the lines that
-- raise interrupts. RISC-V privileged, machine-level ISA, 3.1 (machine-level CSRs) and 3.2
-- (machine-level memory-mapped registers).
use Rattle.std.specs.Prelude.{◌≡◌, ℕ, ◌<◌, ◌+◌, ◌*◌, ◌/◌, ◌%◌, ◌^◌, Bool, false, if◌then◌else◌, ◌==◌, bit_and}

-- msip is the software interrupt's line, mtime and mtimecmp the timer, steps the number of steps
-- that were made, and external the line of the devices
pub record CsrState : Type 0 where
  pub mstatus : ℕ
  pub mie : ℕ
  pub mtvec : ℕ
  pub mscratch : ℕ
  pub mepc : ℕ
  pub mcause : ℕ
  pub mtval : ℕ
  pub msip : Bool
  pub mtime : ℕ
  pub mtimecmp : ℕ
  pub steps : ℕ
  pub external : Bool

-- bit k of a word
abbrev pub is_set : ℕ → ℕ → Bool
is_set k w = w / 2 ^ k % 2 == 1

-- mstatus: bit 3 is MIE, bit 7 is MPIE, bits 12 and 11 (MPP) are 1 since there is machine mode
-- alone
abbrev pub mstatus_with : Bool → Bool → ℕ
mstatus_with mie mpie = 0x1800 + (if mie then 8 else 0) + (if mpie then 0x80 else 0)

-- what mstatus holds of a word that is written
abbrev pub mstatus_of : ℕ → ℕ
mstatus_of w = mstatus_with (is_set 3 w) (is_set 7 w)

-- mie: bits 3 (software), 7 (timer) and 11 (external)
abbrev pub mie_of : ℕ → ℕ
mie_of w = bit_and w 0x888

-- mtvec: the base and bit 0 (vectored); bit 1 is 0
abbrev pub mtvec_of : ℕ → ℕ
mtvec_of w = bit_and w 0xFFFFFFFD

-- mepc: a multiple of 4
abbrev pub mepc_of : ℕ → ℕ
mepc_of w = w / 4 * 4

-- what these four registers can hold
pub record AreLegal (mstatus mie mtvec mepc : ℕ) : Type 0 where
  pub status : mstatus ≡ mstatus_of mstatus
  pub enables : mie_of mie ≡ mie
  pub vector : is_set 1 mtvec ≡ false
  pub address : mepc % 4 ≡ 0

-- the registers that hold any word, up to a bit or two, are words of 32 bits
pub record AreWords (mtvec mscratch mepc mcause mtval : ℕ) : Type 0 where
  pub vector : mtvec < 2 ^ 32
  pub scratch : mscratch < 2 ^ 32
  pub address : mepc < 2 ^ 32
  pub cause : mcause < 2 ^ 32
  pub value : mtval < 2 ^ 32

-- an instruction leaves the lines, the timer and the count of steps to others
pub record KeepsLines (old new : CsrState) : Type 0 where
  pub msip : new.msip ≡ old.msip
  pub mtime : new.mtime ≡ old.mtime
  pub mtimecmp : new.mtimecmp ≡ old.mtimecmp
  pub steps : new.steps ≡ old.steps
  pub external : new.external ≡ old.external
