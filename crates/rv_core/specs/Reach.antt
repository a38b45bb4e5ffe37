-- What an instruction leaves, by how far it reaches: the registers, the CSRs too, the bus too.
-- RISC-V unprivileged, RV32I, 2.5 and 2.6, A and Zicsr; the causes of traps: privileged, 3.1.15.
use Rattle.std.specs.Prelude.{ℕ, ◌%◌, ◌==◌, Bool, if◌then◌else◌, ◌&&◌, Option, Some, None, Result, Ok, Err, ok_or}
use Rattle.rv_traps.specs.Cause.{instruction_address_misaligned, illegal_instruction, load_address_misaligned, load_access_fault, store_address_misaligned, store_access_fault}
use Rattle.rv_traps.specs.CsrState.{CsrState}
use Rattle.rv_traps.specs.CsrTable.{write_csr, is_writable}
use Rattle.rv_core.specs.Acts.{Acts}
use Rattle.rv_core.specs.Registers.{Regs, write_register, next_pc, with_pc, reserve, unreserve}
use Rattle.rv_core.specs.declared.registers.Outcome.{Outcome}
use Rattle.rv_core.specs.declared.registers.Outcome.TheVariants.{Next, Trap}

-- an outcome, and the registers with it
pub record HartResult : Type 0 where
  pub outcome : Outcome
  pub hart : Regs

-- an outcome, and the registers and the CSRs with it
pub record CsrResult : Type 0 where
  pub outcome : Outcome
  pub hart : Regs
  pub csrs : CsrState

-- an outcome, and the registers and the bus with it
pub record BusResult (S : Type 0) : Type 0 where
  pub outcome : Outcome
  pub hart : Regs
  pub bus : S

-- an outcome, and all three with it
pub record ExecutionResult (S : Type 0) : Type 0 where
  pub outcome : Outcome
  pub hart : Regs
  pub csrs : CsrState
  pub bus : S

abbrev pub hart_result : Outcome → Regs → HartResult
hart_result o h = record { outcome = o; hart = h }

abbrev pub csr_result : Outcome → Regs → CsrState → CsrResult
csr_result o h c = record { outcome = o; hart = h; csrs = c }

abbrev pub bus_result : {S : Type 0} → Outcome → Regs → S → BusResult S
bus_result o h s = record { outcome = o; hart = h; bus = s }

abbrev pub execution_result : {S : Type 0} → Outcome → Regs → CsrState → S → ExecutionResult S
execution_result o h c s = record { outcome = o; hart = h; csrs = c; bus = s }

-- what was done to the registers, with the CSRs, or with the bus
abbrev pub with_csrs : HartResult → CsrState → CsrResult
with_csrs d c = record { outcome = d.outcome; hart = d.hart; csrs = c }

abbrev pub with_bus : {S : Type 0} → HartResult → S → BusResult S
with_bus d s = record { outcome = d.outcome; hart = d.hart; bus = s }

-- ---- registers

-- the instruction is over, and the next one follows
abbrev pub advance : Regs → HartResult
advance h = hart_result Next (with_pc h (next_pc h))

-- the same with a value in rd
abbrev pub write_rd : Regs → ℕ → ℕ → HartResult
write_rd h rd v = advance (write_register h rd v)

-- an exception changes no register
abbrev pub raise : Regs → ℕ → ℕ → HartResult
raise h cause value = hart_result (Trap cause value) h

-- a jump that leaves the address of the next instruction in rd; a target that is no multiple of 4
-- traps
abbrev pub jump : Regs → ℕ → ℕ → HartResult
jump h rd target =
    if target % 4 == 0
    then hart_result Next (with_pc (write_register h rd (next_pc h)) target)
    else raise h instruction_address_misaligned target

-- a branch is a jump that leaves nothing, where it is taken
abbrev pub branch : Regs → Bool → ℕ → HartResult
branch h taken target = if taken then jump h 0 target else advance h

-- what was loaded, or the trap instead
abbrev pub write_loaded : Regs → ℕ → (ℕ → ℕ) → Result ℕ Outcome → HartResult
write_loaded h rd extend (Ok v) = write_rd h rd (extend v)
write_loaded h rd extend (Err trap) = hart_result trap h

-- LR: the word to rd, and a reservation of its address
abbrev pub load_reserved : Regs → ℕ → ℕ → Result ℕ Outcome → HartResult
load_reserved h rd addr (Ok v) = write_rd (reserve h addr) rd v
load_reserved h rd addr (Err trap) = hart_result trap h

-- ---- CSRs

-- an illegal instruction, whose value is its word, changes no register and no CSR
abbrev pub raise_illegal : Regs → CsrState → ℕ → CsrResult
raise_illegal h c w = with_csrs (raise h illegal_instruction w) c

-- a CSR's old value to rd, and the CSR changed where it is written; no such CSR, or one that can't
-- be written, is illegal
abbrev pub access_csr : Regs → CsrState → ℕ → ℕ → ℕ → Bool → (ℕ → ℕ) → Option ℕ → CsrResult
access_csr h c w rd csr is_write change None = raise_illegal h c w
access_csr h c w rd csr is_write change (Some old) =
    if is_write
    then if is_writable csr
    then with_csrs (write_rd h rd old) (write_csr c csr (change old))
    else raise_illegal h c w
    else with_csrs (write_rd h rd old) c

-- ---- the bus

-- what a load of so many bytes gives, or its trap: a misaligned address is tested before the bus is
-- asked
abbrev pub load_at : {S : Type 0} → Acts S → S → ℕ → ℕ → Result ℕ Outcome
load_at b s addr width =
    if addr % width == 0
    then ok_or (b.loaded s addr width) (Trap load_access_fault addr)
    else Err (Trap load_address_misaligned addr)

-- the word for LR, SC or AMO, which reach only what can be fetched, or the trap with the cause for
-- a misaligned address or the one for an address that can't be fetched
abbrev pub word_at : {S : Type 0} → Acts S → S → ℕ → ℕ → ℕ → Result ℕ Outcome
word_at b s misaligned fault addr =
    if addr % 4 == 0
    then ok_or (b.fetched s addr) (Trap fault addr)
    else Err (Trap misaligned addr)

-- the word that LR reads, and the one that SC and AMO reach
abbrev pub word_to_load : {S : Type 0} → Acts S → S → ℕ → Result ℕ Outcome
word_to_load b s addr = word_at b s load_address_misaligned load_access_fault addr

abbrev pub word_to_modify : {S : Type 0} → Acts S → S → ℕ → Result ℕ Outcome
word_to_modify b s addr = word_at b s store_address_misaligned store_access_fault addr

-- a store of so many bytes: a misaligned address is tested before the bus is asked
abbrev pub store_at : {S : Type 0} → Acts S → Regs → S → ℕ → ℕ → ℕ → BusResult S
store_at b h s addr width v =
    if addr % width == 0
    then if b.stores s addr width v
    then with_bus (advance h) (b.stored s addr width v)
    else with_bus (raise h store_access_fault addr) s
    else with_bus (raise h store_address_misaligned addr) s

-- SC: where its address is reserved the store and 0 to rd, else 1 to rd; the reservation is gone
-- either way
abbrev pub store_conditional : {S : Type 0} → Acts S → Regs → S → ℕ → ℕ → ℕ → Result ℕ Outcome
    → BusResult S
store_conditional b h s rd addr v (Ok _) =
    if h.reserved && h.address == addr
    then with_bus (write_rd (unreserve h) rd 0) (b.stored s addr 4 v)
    else with_bus (write_rd (unreserve h) rd 1) s
store_conditional b h s rd addr v (Err trap) = with_bus (hart_result trap h) s

-- AMO: the old word to rd, and the new one in its place
abbrev pub modify : {S : Type 0} → Acts S → Regs → S → ℕ → ℕ → (ℕ → ℕ) → Result ℕ Outcome
    → BusResult S
modify b h s rd addr new (Ok old) = with_bus (write_rd h rd old) (b.stored s addr 4 (new old))
modify b h s rd addr new (Err trap) = with_bus (hart_result trap h) s
