-- The store that an instruction makes, where it makes one: what may run out of memory, and what the
-- bus is afterwards (RISC-V unprivileged, RV32I, 2.6 "Load and Store Instructions", and A).
use Rattle.std.specs.Prelude.{◌≡◌, ℕ, ◌⊎◌, true, Option, Some, None, bit_and, bit_or, bit_xor}
use Rattle.std.specs.Option.{option_map}
use Rattle.rv_isa.specs.declared.instr.Instr.{Instr}
use Rattle.rv_isa.specs.declared.instr.Instr.TheVariants.{Sb, Sh, Sw, Sc, AmoSwap, AmoAdd, AmoXor, AmoAnd, AmoOr, AmoMin, AmoMax, AmoMinu, AmoMaxu}
use Rattle.rv_core.specs.Acts.{Acts}
use Rattle.rv_core.specs.Registers.{Regs, x_of}
use Rattle.rv_core.specs.Arithmetic.{zero_extended, add, min, max, minu, maxu}
use Rattle.rv_core.specs.Effect.{add_signed}

-- a store: its address, its width in bytes and its value
pub record StoreRequest : Type 0 where
  pub address : ℕ
  pub width : ℕ
  pub value : ℕ

abbrev pub store_request : ℕ → ℕ → ℕ → StoreRequest
store_request address width value = record { address = address; width = width; value = value }

-- the store of an atomic memory operation, where its word can be fetched
abbrev pub amo_request : {S : Type 0} → Acts S → S → ℕ → (ℕ → ℕ) → Option StoreRequest
amo_request b s addr new = option_map (λ old. store_request addr 4 (new old)) (b.fetched s addr)

-- the store of each row, made by registers h over a bus in state s
abbrev pub request_of : {S : Type 0} → Acts S → Regs → S → Instr → Option StoreRequest
request_of b h s (Sb rs1 rs2 imm) =
    Some (store_request (add_signed (x_of h rs1) imm) 1 (zero_extended 8 (x_of h rs2)))
request_of b h s (Sh rs1 rs2 imm) =
    Some (store_request (add_signed (x_of h rs1) imm) 2 (zero_extended 16 (x_of h rs2)))
request_of b h s (Sw rs1 rs2 imm) =
    Some (store_request (add_signed (x_of h rs1) imm) 4 (x_of h rs2))
request_of b h s (Sc rd rs1 rs2 aq rl) = Some (store_request (x_of h rs1) 4 (x_of h rs2))
request_of b h s (AmoSwap rd rs1 rs2 aq rl) = amo_request b s (x_of h rs1) (λ old. x_of h rs2)
request_of b h s (AmoAdd rd rs1 rs2 aq rl) = amo_request b s (x_of h rs1)
    (λ old. add old (x_of h rs2))
request_of b h s (AmoXor rd rs1 rs2 aq rl) = amo_request b s (x_of h rs1)
    (λ old. bit_xor old (x_of h rs2))
request_of b h s (AmoAnd rd rs1 rs2 aq rl) = amo_request b s (x_of h rs1)
    (λ old. bit_and old (x_of h rs2))
request_of b h s (AmoOr rd rs1 rs2 aq rl) = amo_request b s (x_of h rs1)
    (λ old. bit_or old (x_of h rs2))
request_of b h s (AmoMin rd rs1 rs2 aq rl) = amo_request b s (x_of h rs1)
    (λ old. min old (x_of h rs2))
request_of b h s (AmoMax rd rs1 rs2 aq rl) = amo_request b s (x_of h rs1)
    (λ old. max old (x_of h rs2))
request_of b h s (AmoMinu rd rs1 rs2 aq rl) = amo_request b s (x_of h rs1)
    (λ old. minu old (x_of h rs2))
request_of b h s (AmoMaxu rd rs1 rs2 aq rl) = amo_request b s (x_of h rs1)
    (λ old. maxu old (x_of h rs2))
request_of b h s _ = None

-- the store may run out of memory; where there is none, nothing may
abbrev pub MayRunOut : {S : Type 0} → Acts S → S → Option StoreRequest → Type 0
MayRunOut b s None = ⊥
MayRunOut b s (Some store) = b.wants s store.address store.width store.value ≡ true

-- the bus is as before, or as one store of 1, 2 or 4 bytes left it
pub record OneStore {S : Type 0} (b : Acts S) (old new : S) : Type 0 where
  pub address : ℕ
  pub width : ℕ
  pub value : ℕ
  pub is_width : (width ≡ 1) ⊎ ((width ≡ 2) ⊎ (width ≡ 4))
  pub after : new ≡ b.stored old address width value

abbrev pub IsOneStore : {S : Type 0} → Acts S → S → S → Type 0
IsOneStore b old new = (new ≡ old) ⊎ OneStore b old new
