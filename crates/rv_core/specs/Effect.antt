-- What each instruction does (RISC-V unprivileged, RV32I, M, A, Zicsr and Zifencei; privileged,
-- MRET and WFI), over any bus.
use Rattle.std.specs.Prelude.{◌≡◌, ℕ, ◌*◌, ◌/◌, ◌^◌, ◌<◌, ◌==◌, Bool, true, not, ℤ, bit_and, bit_or, bit_xor, Some}
use Rattle.std.specs.Int.{w32, bit_not}
use Rattle.rv_isa.specs.Table.{decode}
use Rattle.rv_isa.specs.declared.instr.Instr.{Instr}
use Rattle.rv_isa.specs.declared.instr.Instr.TheVariants.{Lui, Auipc, Jal, Jalr, Beq, Bne, Blt, Bge, Bltu, Bgeu, Lb, Lh, Lw, Lbu, Lhu, Sb, Sh, Sw, Addi, Slti, Sltiu, Xori, Ori, Andi, Slli, Srli, Srai, Add, Sll, Slt, Sltu, Xor, Srl, Or, And, Sub, Sra, Mul, Mulh, Mulhsu, Mulhu, Div, Divu, Rem, Remu, Fence, FenceI, Csrrw, Csrrs, Csrrc, Csrrwi, Csrrsi, Csrrci, Ecall, Ebreak, Mret, Wfi, Lr, Sc, AmoSwap, AmoAdd, AmoXor, AmoAnd, AmoOr, AmoMin, AmoMax, AmoMinu, AmoMaxu}
use Rattle.rv_traps.specs.Cause.{breakpoint, environment_call_from_m_mode}
use Rattle.rv_traps.specs.CsrState.{CsrState}
use Rattle.rv_traps.specs.CsrTable.{read_csr}
use Rattle.rv_traps.specs.Trap.{return_from_trap}
use Rattle.rv_core.specs.Acts.{Acts}
use Rattle.rv_core.specs.Registers.{Regs, x_of, with_pc}
use Rattle.rv_core.specs.Arithmetic.{word_of, lt, ltu, sign_extended, zero_extended, add, sub, slt, sltu, sll, srl, sra, mul, mulh, mulhsu, mulhu, div, divu, rem, remu, min, max, minu, maxu}
use Rattle.rv_core.specs.Reach.{HartResult, CsrResult, BusResult, ExecutionResult, hart_result, with_csrs, advance, write_rd, raise, jump, branch, write_loaded, load_reserved, access_csr, load_at, word_to_load, word_to_modify, store_at, store_conditional, modify}
use Rattle.rv_core.specs.declared.registers.Outcome.{Outcome}
use Rattle.rv_core.specs.declared.registers.Outcome.TheVariants.{Next, Trap}

-- the word decodes to the instruction
abbrev pub IsWordOf : ℕ → Instr → Type 0
IsWordOf w i = (w < 2 ^ 32) × (decode w ≡ Some i)

-- a word plus a signed number, modulo 2^32
abbrev pub add_signed : ℕ → ℤ → ℕ
add_signed a z = add a (word_of z)

-- a number with bit 0 cleared
abbrev pub clear_bit_0 : ℕ → ℕ
clear_bit_0 n = n / 2 * 2

-- the bits of a word without those of another
abbrev pub clear_bits : ℕ → ℕ → ℕ
clear_bits a b = bit_and a (bit_not w32 b)

-- The effect of each row on the registers h, the CSRs c and the bus s, for an instruction in the
-- word w.
module _ {S : Type 0} (b : Acts S) (h : Regs) (c : CsrState) (s : S) (w : ℕ) where
  -- it reaches the registers alone, the CSRs too, or the bus too
  abbrev hart_only : HartResult → ExecutionResult S
  hart_only d = record { outcome = d.outcome; hart = d.hart; csrs = c; bus = s }

  abbrev hart_and_csrs : CsrResult → ExecutionResult S
  hart_and_csrs d = record { outcome = d.outcome; hart = d.hart; csrs = d.csrs; bus = s }

  abbrev hart_and_bus : BusResult S → ExecutionResult S
  hart_and_bus d = record { outcome = d.outcome; hart = d.hart; csrs = c; bus = d.bus }

  abbrev x : ℕ → ℕ
  x k = x_of h k

  -- what is read of a CSR goes to rd, and what it becomes follows from that
  abbrev csr_access : ℕ → ℕ → Bool → (ℕ → ℕ) → ExecutionResult S
  csr_access rd csr is_write change =
      hart_and_csrs (access_csr h c w rd csr is_write change (read_csr c csr))

  -- a load of so many bytes
  abbrev load : ℕ → ℕ → ℕ → (ℕ → ℕ) → ExecutionResult S
  load rd addr width extend = hart_only (write_loaded h rd extend (load_at b s addr width))

  -- an atomic memory operation
  abbrev amo : ℕ → ℕ → (ℕ → ℕ) → ExecutionResult S
  amo rd addr new = hart_and_bus (modify b h s rd addr new (word_to_modify b s addr))

  unfoldable pub effect : Instr → ExecutionResult S
  -- RV32I, 2.4 and 2.5
  effect (Lui rd imm) = hart_only (write_rd h rd (imm * 2 ^ 12))
  effect (Auipc rd imm) = hart_only (write_rd h rd (add h.pc (imm * 2 ^ 12)))
  effect (Jal rd imm) = hart_only (jump h rd (add_signed h.pc imm))
  effect (Jalr rd rs1 imm) = hart_only (jump h rd (clear_bit_0 (add_signed (x rs1) imm)))
  effect (Beq rs1 rs2 imm) = hart_only (branch h (x rs1 == x rs2) (add_signed h.pc imm))
  effect (Bne rs1 rs2 imm) = hart_only (branch h (not (x rs1 == x rs2)) (add_signed h.pc imm))
  effect (Blt rs1 rs2 imm) = hart_only (branch h (lt (x rs1) (x rs2)) (add_signed h.pc imm))
  effect (Bge rs1 rs2 imm) = hart_only (branch h (not (lt (x rs1) (x rs2))) (add_signed h.pc imm))
  effect (Bltu rs1 rs2 imm) = hart_only (branch h (ltu (x rs1) (x rs2)) (add_signed h.pc imm))
  effect (Bgeu rs1 rs2 imm) = hart_only (branch h (not (ltu (x rs1) (x rs2))) (add_signed h.pc imm))
  -- 2.6
  effect (Lb rd rs1 imm) = load rd (add_signed (x rs1) imm) 1 (sign_extended 8)
  effect (Lh rd rs1 imm) = load rd (add_signed (x rs1) imm) 2 (sign_extended 16)
  effect (Lw rd rs1 imm) = load rd (add_signed (x rs1) imm) 4 (λ v. v)
  effect (Lbu rd rs1 imm) = load rd (add_signed (x rs1) imm) 1 (zero_extended 8)
  effect (Lhu rd rs1 imm) = load rd (add_signed (x rs1) imm) 2 (zero_extended 16)
  effect (Sb rs1 rs2 imm) =
      hart_and_bus (store_at b h s (add_signed (x rs1) imm) 1 (zero_extended 8 (x rs2)))
  effect (Sh rs1 rs2 imm) =
      hart_and_bus (store_at b h s (add_signed (x rs1) imm) 2 (zero_extended 16 (x rs2)))
  effect (Sw rs1 rs2 imm) = hart_and_bus (store_at b h s (add_signed (x rs1) imm) 4 (x rs2))
  -- 2.4.1
  effect (Addi rd rs1 imm) = hart_only (write_rd h rd (add (x rs1) (word_of imm)))
  effect (Slti rd rs1 imm) = hart_only (write_rd h rd (slt (x rs1) (word_of imm)))
  effect (Sltiu rd rs1 imm) = hart_only (write_rd h rd (sltu (x rs1) (word_of imm)))
  effect (Xori rd rs1 imm) = hart_only (write_rd h rd (bit_xor (x rs1) (word_of imm)))
  effect (Ori rd rs1 imm) = hart_only (write_rd h rd (bit_or (x rs1) (word_of imm)))
  effect (Andi rd rs1 imm) = hart_only (write_rd h rd (bit_and (x rs1) (word_of imm)))
  effect (Slli rd rs1 shamt) = hart_only (write_rd h rd (sll (x rs1) shamt))
  effect (Srli rd rs1 shamt) = hart_only (write_rd h rd (srl (x rs1) shamt))
  effect (Srai rd rs1 shamt) = hart_only (write_rd h rd (sra (x rs1) shamt))
  -- 2.4.2, and M
  effect (Add rd rs1 rs2) = hart_only (write_rd h rd (add (x rs1) (x rs2)))
  effect (Sll rd rs1 rs2) = hart_only (write_rd h rd (sll (x rs1) (x rs2)))
  effect (Slt rd rs1 rs2) = hart_only (write_rd h rd (slt (x rs1) (x rs2)))
  effect (Sltu rd rs1 rs2) = hart_only (write_rd h rd (sltu (x rs1) (x rs2)))
  effect (Xor rd rs1 rs2) = hart_only (write_rd h rd (bit_xor (x rs1) (x rs2)))
  effect (Srl rd rs1 rs2) = hart_only (write_rd h rd (srl (x rs1) (x rs2)))
  effect (Or rd rs1 rs2) = hart_only (write_rd h rd (bit_or (x rs1) (x rs2)))
  effect (And rd rs1 rs2) = hart_only (write_rd h rd (bit_and (x rs1) (x rs2)))
  effect (Sub rd rs1 rs2) = hart_only (write_rd h rd (sub (x rs1) (x rs2)))
  effect (Sra rd rs1 rs2) = hart_only (write_rd h rd (sra (x rs1) (x rs2)))
  effect (Mul rd rs1 rs2) = hart_only (write_rd h rd (mul (x rs1) (x rs2)))
  effect (Mulh rd rs1 rs2) = hart_only (write_rd h rd (mulh (x rs1) (x rs2)))
  effect (Mulhsu rd rs1 rs2) = hart_only (write_rd h rd (mulhsu (x rs1) (x rs2)))
  effect (Mulhu rd rs1 rs2) = hart_only (write_rd h rd (mulhu (x rs1) (x rs2)))
  effect (Div rd rs1 rs2) = hart_only (write_rd h rd (div (x rs1) (x rs2)))
  effect (Divu rd rs1 rs2) = hart_only (write_rd h rd (divu (x rs1) (x rs2)))
  effect (Rem rd rs1 rs2) = hart_only (write_rd h rd (rem (x rs1) (x rs2)))
  effect (Remu rd rs1 rs2) = hart_only (write_rd h rd (remu (x rs1) (x rs2)))
  -- 2.7 and Zifencei: with one hart and no cache there is nothing to do
  effect (Fence rest) = hart_only (advance h)
  effect (FenceI rest) = hart_only (advance h)
  -- Zicsr: CSRRW and CSRRWI always write, the others where the field of rs1 or of the number isn't
  -- 0
  effect (Csrrw rd rs1 csr) = csr_access rd csr true (λ _. x rs1)
  effect (Csrrs rd rs1 csr) = csr_access rd csr (not (rs1 == 0)) (λ old. bit_or old (x rs1))
  effect (Csrrc rd rs1 csr) = csr_access rd csr (not (rs1 == 0)) (λ old. clear_bits old (x rs1))
  effect (Csrrwi rd imm csr) = csr_access rd csr true (λ _. imm)
  effect (Csrrsi rd imm csr) = csr_access rd csr (not (imm == 0)) (λ old. bit_or old imm)
  effect (Csrrci rd imm csr) = csr_access rd csr (not (imm == 0)) (λ old. clear_bits old imm)
  -- 2.8, and privileged, 3.3: the value of ECALL is 0, that of EBREAK the pc; WFI may go on at
  -- once, and does
  effect Ecall = hart_only (raise h environment_call_from_m_mode 0)
  effect Ebreak = hart_only (raise h breakpoint h.pc)
  effect Mret = hart_and_csrs (with_csrs (hart_result Next (with_pc h c.mepc)) (return_from_trap c))
  effect Wfi = hart_only (advance h)
  -- A
  effect (Lr rd rs1 aq rl) = hart_only (load_reserved h rd (x rs1) (word_to_load b s (x rs1)))
  effect (Sc rd rs1 rs2 aq rl) =
      hart_and_bus (store_conditional b h s rd (x rs1) (x rs2) (word_to_modify b s (x rs1)))
  effect (AmoSwap rd rs1 rs2 aq rl) = amo rd (x rs1) (λ old. x rs2)
  effect (AmoAdd rd rs1 rs2 aq rl) = amo rd (x rs1) (λ old. add old (x rs2))
  effect (AmoXor rd rs1 rs2 aq rl) = amo rd (x rs1) (λ old. bit_xor old (x rs2))
  effect (AmoAnd rd rs1 rs2 aq rl) = amo rd (x rs1) (λ old. bit_and old (x rs2))
  effect (AmoOr rd rs1 rs2 aq rl) = amo rd (x rs1) (λ old. bit_or old (x rs2))
  effect (AmoMin rd rs1 rs2 aq rl) = amo rd (x rs1) (λ old. min old (x rs2))
  effect (AmoMax rd rs1 rs2 aq rl) = amo rd (x rs1) (λ old. max old (x rs2))
  effect (AmoMinu rd rs1 rs2 aq rl) = amo rd (x rs1) (λ old. minu old (x rs2))
  effect (AmoMaxu rd rs1 rs2 aq rl) = amo rd (x rs1) (λ old. maxu old (x rs2))

-- where the outcome is a trap, each register, each CSR and the bus are as they were
abbrev pub KeepsOnTrap : {S : Type 0} → Outcome → Regs → Regs → CsrState → CsrState → S → S → Type 0
KeepsOnTrap Next h h' c c' s s' = Unit {0}
KeepsOnTrap (Trap cause value) h h' c c' s s' = (h' ≡ h) × (c' ≡ c) × (s' ≡ s)
