-- The effect of an instruction over two buses that answer alike: the outcomes, the registers and the CSRs are equal,
-- and the buses answer alike again. Over one bus: it is as before or as one store left it, and the lines of the CSRs
-- stay.
use Rattle.std.proofs.Common.{◌≡◌, ℕ, ◌⊎◌, inl, inr, Bool, true, false, cond, Option, Some, None, Result, Ok, Err, refl, sym, ap, subst}
use Rattle.std.specs.Prelude.{◌%◌, ◌==◌, ◌&&◌, ok_or, if◌then◌else◌}
use Rattle.rv_isa.specs.declared.instr.Instr.{Instr}
use Rattle.rv_isa.specs.declared.instr.Instr.TheVariants.{Lui, Auipc, Jal, Jalr, Beq, Bne, Blt, Bge, Bltu, Bgeu, Lb, Lh, Lw, Lbu, Lhu, Sb, Sh, Sw, Addi, Slti, Sltiu, Xori, Ori, Andi, Slli, Srli, Srai, Add, Sll, Slt, Sltu, Xor, Srl, Or, And, Sub, Sra, Mul, Mulh, Mulhsu, Mulhu, Div, Divu, Rem, Remu, Fence, FenceI, Csrrw, Csrrs, Csrrc, Csrrwi, Csrrsi, Csrrci, Ecall, Ebreak, Mret, Wfi, Lr, Sc, AmoSwap, AmoAdd, AmoXor, AmoAnd, AmoOr, AmoMin, AmoMax, AmoMinu, AmoMaxu}
use Rattle.rv_traps.specs.Cause.{load_address_misaligned, load_access_fault, store_address_misaligned, store_access_fault}
use Rattle.rv_traps.specs.CsrState.{CsrState, KeepsLines}
use Rattle.rv_traps.specs.CsrTable.{read_csr, write_csr, is_writable}
use Rattle.rv_traps.proofs.CsrLemmas.{keeps_lines_same, keeps_lines_written, keeps_lines_returned}
use Rattle.rv_core.specs.Acts.{Acts}
use Rattle.rv_core.specs.Registers.{Regs, x_of, unreserve}
use Rattle.rv_core.specs.Reach.{HartResult, CsrResult, BusResult, ExecutionResult, access_csr, advance, write_rd, raise, raise_illegal, with_csrs, with_bus, write_loaded, load_reserved, load_at, word_at, word_to_load, word_to_modify, store_at, store_conditional, modify}
use Rattle.rv_core.specs.Effect.{effect}
use Rattle.rv_core.specs.Stores.{OneStore, IsOneStore}
use Rattle.rv_core.specs.declared.registers.Outcome.{Outcome}
use Rattle.rv_core.specs.declared.registers.Outcome.TheVariants.{Trap}

-- two buses whose related states answer alike, and stay related by a store
pub record Alike {S T : Type 0} (a : Acts S) (b : Acts T) (R : S → T → Type 0) : Type 0 where
  pub fetched : (s : S) (t : T) → R s t → (addr : ℕ) → a.fetched s addr ≡ b.fetched t addr
  pub loaded : (s : S) (t : T) → R s t → (addr width : ℕ) → a.loaded s addr width ≡ b.loaded t addr width
  pub stores : (s : S) (t : T) → R s t → (addr width v : ℕ) → a.stores s addr width v ≡ b.stores t addr width v
  pub stored : (s : S) (t : T) → R s t → (addr width v : ℕ) → R (a.stored s addr width v) (b.stored t addr width v)

-- two results that differ in the bus alone, and there by related states
pub record IsRelated {S T : Type 0} (R : S → T → Type 0) (y : ExecutionResult S)
    (z : ExecutionResult T) : Type 0 where
  pub outcome : y.outcome ≡ z.outcome
  pub hart : y.hart ≡ z.hart
  pub csrs : y.csrs ≡ z.csrs
  pub bus : R y.bus z.bus

-- the same with what holds of the first alone
pub record Follows {S T : Type 0} (a : Acts S) (R : S → T →
    Type 0) (c : CsrState) (s : S) (y : ExecutionResult S) (z : ExecutionResult T) : Type 0 where
  pub related : IsRelated R y z
  pub one_store : IsOneStore a s y.bus
  pub lines : KeepsLines c y.csrs

module _ {S T : Type 0} (a : Acts S) (b : Acts T) (R : S → T →
    Type 0) (alike : Alike a b R) (h : Regs) (c : CsrState) (s : S) (t : T) (r : R s t) (w : ℕ) where
  abbrev Same : ExecutionResult S → ExecutionResult T → Type 0
  Same y z = Follows a R c s y z

  abbrev only_a : HartResult → ExecutionResult S
  only_a d = record { outcome = d.outcome; hart = d.hart; csrs = c; bus = s }

  abbrev only_b : HartResult → ExecutionResult T
  only_b d = record { outcome = d.outcome; hart = d.hart; csrs = c; bus = t }

  -- it reaches the registers alone
  hart_only_same : (d : HartResult) → Same (only_a d) (only_b d)
  hart_only_same d = record {
    related = record { outcome = refl; hart = refl; csrs = refl; bus = r };
    one_store = inl refl;
    lines = keeps_lines_same c;
  }

  -- the CSRs too
  csr_same : (d : CsrResult) → KeepsLines c d.csrs
      → Same (record { outcome = d.outcome; hart = d.hart; csrs = d.csrs; bus = s })
      (record { outcome = d.outcome; hart = d.hart; csrs = d.csrs; bus = t })
  csr_same d k = record {
    related = record { outcome = refl; hart = refl; csrs = refl; bus = r };
    one_store = inl refl;
    lines = k;
  }

  written_keeps : (rd csr : ℕ) (change : ℕ → ℕ) (old : ℕ) (p : Bool)
      → KeepsLines c (if p then with_csrs (write_rd h rd old) (write_csr c csr
      (change old)) else raise_illegal h c w).csrs
  written_keeps rd csr change old true = keeps_lines_written c csr (change old)
  written_keeps rd csr change old false = keeps_lines_same c

  access_keeps : (rd csr : ℕ) (is_write : Bool) (change : ℕ → ℕ) (old : Option ℕ)
      → KeepsLines c (access_csr h c w rd csr is_write change old).csrs
  access_keeps rd csr is_write change None = keeps_lines_same c
  access_keeps rd csr false change (Some old) = keeps_lines_same c
  access_keeps rd csr true change (Some old) = written_keeps rd csr change old (is_writable csr)

  abbrev over_a : BusResult S → ExecutionResult S
  over_a d = record { outcome = d.outcome; hart = d.hart; csrs = c; bus = d.bus }

  abbrev over_b : BusResult T → ExecutionResult T
  over_b d = record { outcome = d.outcome; hart = d.hart; csrs = c; bus = d.bus }

  bus_kept : (o : Outcome) (k : Regs)
      → Same (record { outcome = o; hart = k; csrs = c; bus = s })
      (record { outcome = o; hart = k; csrs = c; bus = t })
  bus_kept o k = hart_only_same (record { outcome = o; hart = k })

  bus_stored : (o : Outcome) (k : Regs) (addr width v : ℕ) → (width ≡ 1) ⊎ ((width ≡ 2) ⊎ (width ≡ 4))
      → Same (record { outcome = o; hart = k; csrs = c; bus = a.stored s addr width v })
      (record { outcome = o; hart = k; csrs = c; bus = b.stored t addr width v })
  bus_stored o k addr width v is = record {
    related = record { outcome = refl; hart = refl; csrs = refl; bus = alike.stored s t r addr width v };
    one_store = inr (record { address = addr; width = width; value = v; is_width = is; after = refl });
    lines = keeps_lines_same c;
  }

  -- loads
  load_by : (rd : ℕ) (extend : ℕ → ℕ) (l m : Result ℕ Outcome) → l ≡ m
      → Same (only_a (write_loaded h rd extend l)) (only_b (write_loaded h rd extend m))
  load_by rd extend l m e =
      subst (λ z. Same (only_a (write_loaded h rd extend l)) (only_b (write_loaded h rd extend z))) e
      (hart_only_same (write_loaded h rd extend l))

  load_same : (rd addr width : ℕ) (extend : ℕ → ℕ)
      → Same (only_a (write_loaded h rd extend (load_at a s addr width)))
      (only_b (write_loaded h rd extend (load_at b t addr width)))
  load_same rd addr width extend =
      let e : load_at a s addr width ≡ load_at b t addr width =
      ap (λ o. if addr % width == 0 then ok_or o (Trap load_access_fault addr) else Err
      (Trap load_address_misaligned addr))
      (alike.loaded s t r addr width) in
      load_by rd extend _ _ e

  -- LR
  word_same : (misaligned fault addr : ℕ) → word_at a s misaligned fault addr ≡ word_at b t misaligned fault addr
  word_same misaligned fault addr =
      ap (λ o. if addr % 4 == 0 then ok_or o (Trap fault addr) else Err (Trap misaligned addr))
      (alike.fetched s t r addr)

  load_reserved_by : (rd addr : ℕ) (l m : Result ℕ Outcome) → l ≡ m
      → Same (only_a (load_reserved h rd addr l)) (only_b (load_reserved h rd addr m))
  load_reserved_by rd addr l m e =
      subst (λ z. Same (only_a (load_reserved h rd addr l)) (only_b (load_reserved h rd addr z))) e
      (hart_only_same (load_reserved h rd addr l))

  load_reserved_same : (rd addr : ℕ)
      → Same (only_a (load_reserved h rd addr (word_to_load a s addr)))
      (only_b (load_reserved h rd addr (word_to_load b t addr)))
  load_reserved_same rd addr =
      load_reserved_by rd addr _ _ (word_same load_address_misaligned load_access_fault addr)

  -- stores
  store_a : ℕ → ℕ → ℕ → Bool → Bool → BusResult S
  store_a addr width v p q =
      if p
      then if q then with_bus (advance h) (a.stored s addr width v) else with_bus (raise h store_access_fault addr) s
      else with_bus (raise h store_address_misaligned addr) s

  store_b : ℕ → ℕ → ℕ → Bool → Bool → BusResult T
  store_b addr width v p q =
      if p
      then if q then with_bus (advance h) (b.stored t addr width v) else with_bus (raise h store_access_fault addr) t
      else with_bus (raise h store_address_misaligned addr) t

  store_by : (addr width v : ℕ) → (width ≡ 1) ⊎ ((width ≡ 2) ⊎ (width ≡ 4)) → (p q : Bool)
      → Same (over_a (store_a addr width v p q)) (over_b (store_b addr width v p q))
  unfolding store_a store_b
  store_by addr width v is false q = bus_kept _ _
  store_by addr width v is true false = bus_kept _ _
  store_by addr width v is true true = bus_stored _ _ addr width v is

  store_same : (addr width v : ℕ) → (width ≡ 1) ⊎ ((width ≡ 2) ⊎ (width ≡ 4))
      → Same (over_a (store_at a h s addr width v)) (over_b (store_at b h t addr width v))
  unfolding store_a store_b
  store_same addr width v is =
      subst (λ q. Same (over_a (store_a addr width v (addr % width == 0) (a.stores s addr width v)))
      (over_b (store_b addr width v (addr % width == 0) q))) (alike.stores s t r addr width v)
      (store_by addr width v is (addr % width == 0) (a.stores s addr width v))

  -- SC
  sc_a : ℕ → ℕ → ℕ → Bool → BusResult S
  sc_a rd addr v p =
      if p then with_bus (write_rd (unreserve h) rd 0) (a.stored s addr 4 v) else with_bus (write_rd
      (unreserve h) rd 1) s

  sc_b : ℕ → ℕ → ℕ → Bool → BusResult T
  sc_b rd addr v p =
      if p then with_bus (write_rd (unreserve h) rd 0) (b.stored t addr 4 v) else with_bus (write_rd
      (unreserve h) rd 1) t

  sc_taken : (rd addr v : ℕ) (p : Bool) → Same (over_a (sc_a rd addr v p)) (over_b (sc_b rd addr v p))
  unfolding sc_a sc_b
  sc_taken rd addr v false = bus_kept _ _
  sc_taken rd addr v true = bus_stored _ _ addr 4 v (inr (inr refl))

  sc_by : (rd addr v : ℕ) (l : Result ℕ Outcome)
      → Same (over_a (store_conditional a h s rd addr v l)) (over_b (store_conditional b h t rd addr v l))
  unfolding sc_a sc_b
  sc_by rd addr v (Ok old) = sc_taken rd addr v (h.reserved && h.address == addr)
  sc_by rd addr v (Err trap) = bus_kept _ _

  store_conditional_same : (rd addr v : ℕ)
      → Same (over_a (store_conditional a h s rd addr v (word_to_modify a s addr)))
      (over_b (store_conditional b h t rd addr v (word_to_modify b t addr)))
  store_conditional_same rd addr v =
      subst (λ z. Same (over_a (store_conditional a h s rd addr v (word_to_modify a s addr)))
      (over_b (store_conditional b h t rd addr v z))) (word_same store_address_misaligned store_access_fault addr)
      (sc_by rd addr v (word_to_modify a s addr))

  -- AMO
  amo_by : (rd addr : ℕ) (new : ℕ → ℕ) (l : Result ℕ Outcome)
      → Same (over_a (modify a h s rd addr new l)) (over_b (modify b h t rd addr new l))
  amo_by rd addr new (Ok old) = bus_stored _ _ addr 4 (new old) (inr (inr refl))
  amo_by rd addr new (Err trap) = bus_kept _ _

  amo_same : (rd addr : ℕ) (new : ℕ → ℕ)
      → Same (over_a (modify a h s rd addr new (word_to_modify a s addr)))
      (over_b (modify b h t rd addr new (word_to_modify b t addr)))
  amo_same rd addr new =
      subst (λ z. Same (over_a (modify a h s rd addr new (word_to_modify a s addr))) (over_b
      (modify b h t rd addr new z)))
      (word_same store_address_misaligned store_access_fault addr)
      (amo_by rd addr new (word_to_modify a s addr))

  -- each row
  related : (i : Instr) → Same (effect a h c s w i) (effect b h c t w i)
  unfolding effect
  related (Lui rd imm) = hart_only_same _
  related (Auipc rd imm) = hart_only_same _
  related (Jal rd imm) = hart_only_same _
  related (Jalr rd rs1 imm) = hart_only_same _
  related (Beq rs1 rs2 imm) = hart_only_same _
  related (Bne rs1 rs2 imm) = hart_only_same _
  related (Blt rs1 rs2 imm) = hart_only_same _
  related (Bge rs1 rs2 imm) = hart_only_same _
  related (Bltu rs1 rs2 imm) = hart_only_same _
  related (Bgeu rs1 rs2 imm) = hart_only_same _
  related (Lb rd rs1 imm) = load_same rd _ _ _
  related (Lh rd rs1 imm) = load_same rd _ _ _
  related (Lw rd rs1 imm) = load_same rd _ _ _
  related (Lbu rd rs1 imm) = load_same rd _ _ _
  related (Lhu rd rs1 imm) = load_same rd _ _ _
  related (Sb rs1 rs2 imm) = store_same _ 1 _ (inl refl)
  related (Sh rs1 rs2 imm) = store_same _ 2 _ (inr (inl refl))
  related (Sw rs1 rs2 imm) = store_same _ 4 _ (inr (inr refl))
  related (Addi rd rs1 imm) = hart_only_same _
  related (Slti rd rs1 imm) = hart_only_same _
  related (Sltiu rd rs1 imm) = hart_only_same _
  related (Xori rd rs1 imm) = hart_only_same _
  related (Ori rd rs1 imm) = hart_only_same _
  related (Andi rd rs1 imm) = hart_only_same _
  related (Slli rd rs1 shamt) = hart_only_same _
  related (Srli rd rs1 shamt) = hart_only_same _
  related (Srai rd rs1 shamt) = hart_only_same _
  related (Add rd rs1 rs2) = hart_only_same _
  related (Sll rd rs1 rs2) = hart_only_same _
  related (Slt rd rs1 rs2) = hart_only_same _
  related (Sltu rd rs1 rs2) = hart_only_same _
  related (Xor rd rs1 rs2) = hart_only_same _
  related (Srl rd rs1 rs2) = hart_only_same _
  related (Or rd rs1 rs2) = hart_only_same _
  related (And rd rs1 rs2) = hart_only_same _
  related (Sub rd rs1 rs2) = hart_only_same _
  related (Sra rd rs1 rs2) = hart_only_same _
  related (Mul rd rs1 rs2) = hart_only_same _
  related (Mulh rd rs1 rs2) = hart_only_same _
  related (Mulhsu rd rs1 rs2) = hart_only_same _
  related (Mulhu rd rs1 rs2) = hart_only_same _
  related (Div rd rs1 rs2) = hart_only_same _
  related (Divu rd rs1 rs2) = hart_only_same _
  related (Rem rd rs1 rs2) = hart_only_same _
  related (Remu rd rs1 rs2) = hart_only_same _
  related (Fence rest) = hart_only_same _
  related (FenceI rest) = hart_only_same _
  related (Csrrw rd rs1 csr) = csr_same _ (access_keeps rd csr true (λ old. x_of h rs1) (read_csr c csr))
  related (Csrrs rd rs1 csr) = csr_same _ (access_keeps rd csr _ _ (read_csr c csr))
  related (Csrrc rd rs1 csr) = csr_same _ (access_keeps rd csr _ _ (read_csr c csr))
  related (Csrrwi rd imm csr) = csr_same _ (access_keeps rd csr true (λ old. imm) (read_csr c csr))
  related (Csrrsi rd imm csr) = csr_same _ (access_keeps rd csr _ _ (read_csr c csr))
  related (Csrrci rd imm csr) = csr_same _ (access_keeps rd csr _ _ (read_csr c csr))
  related Ecall = hart_only_same _
  related Ebreak = hart_only_same _
  related Mret = csr_same _ (keeps_lines_returned c)
  related Wfi = hart_only_same _
  related (Lr rd rs1 aq rl) = load_reserved_same rd (x_of h rs1)
  related (Sc rd rs1 rs2 aq rl) = store_conditional_same rd _ _
  related (AmoSwap rd rs1 rs2 aq rl) = amo_same rd _ _
  related (AmoAdd rd rs1 rs2 aq rl) = amo_same rd _ _
  related (AmoXor rd rs1 rs2 aq rl) = amo_same rd _ _
  related (AmoAnd rd rs1 rs2 aq rl) = amo_same rd _ _
  related (AmoOr rd rs1 rs2 aq rl) = amo_same rd _ _
  related (AmoMin rd rs1 rs2 aq rl) = amo_same rd _ _
  related (AmoMax rd rs1 rs2 aq rl) = amo_same rd _ _
  related (AmoMinu rd rs1 rs2 aq rl) = amo_same rd _ _
  related (AmoMaxu rd rs1 rs2 aq rl) = amo_same rd _ _

-- related buses give equal effects and related buses
pub effects_related : {S T : Type 0} (a : Acts S) (b : Acts T) (R : S → T → Type 0) → Alike a b R →
    (h : Regs) (c : CsrState)
    (s : S) (t : T) → R s t → (w : ℕ) (i : Instr) → IsRelated R (effect a h c s w i) (effect b h c t w i)
effects_related a b R alike h c s t r w i = (related a b R alike h c s t r w i).related

-- a bus is alike itself
itself : {S : Type 0} (a : Acts S) → Alike a a (λ s t. s ≡ t)
itself a = record {
  fetched = λ s t e addr. ap (λ z. a.fetched z addr) e;
  loaded = λ s t e addr width. ap (λ z. a.loaded z addr width) e;
  stores = λ s t e addr width v. ap (λ z. a.stores z addr width v) e;
  stored = λ s t e addr width v. ap (λ z. a.stored z addr width v) e;
}

-- the bus after an instruction is the bus before, or as one store left it
pub effect_one_store : {S : Type 0} (a : Acts S) (h : Regs) (c : CsrState) (s : S) (w : ℕ) (i : Instr)
    → IsOneStore a s (effect a h c s w i).bus
effect_one_store a h c s w i = (related a a (λ s t. s ≡ t) (itself a) h c s s refl w i).one_store

-- no instruction changes the lines, the timer and the count of steps
pub effect_keeps_lines : {S : Type 0} (a : Acts S) (h : Regs) (c : CsrState) (s : S) (w : ℕ) (i : Instr)
    → KeepsLines c (effect a h c s w i).csrs
effect_keeps_lines a h c s w i = (related a a (λ s t. s ≡ t) (itself a) h c s s refl w i).lines
