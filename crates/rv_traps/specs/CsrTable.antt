-- The CSRs by number: what each reads, and what a write leaves. RISC-V privileged, CSR listing
-- (2.2) and machine-level CSRs (3.1). This profile has the CSRs of the table and no other.
use Rattle.std.specs.Prelude.{ℕ, ◌+◌, Bool, if◌then◌else◌, ◌==◌, nat_le, List, [], ◌∷◌, Option, Some, None, is_some}
use Rattle.std.specs.List.{find}
use Rattle.std.specs.Option.{option_map, option_map_or}
use Rattle.std.specs.Prelude.{option_and_then}
use Rattle.shared_definitions.specs.Halves.{low_half, high_half}
use Rattle.rv_traps.specs.CsrState.{CsrState, mstatus_of, mie_of, mtvec_of, mepc_of}

-- a row: the number, what is read, and what a write of a value leaves, None where a write is
-- illegal
pub record Row : Type 0 where
  pub number : ℕ
  pub read : CsrState → ℕ
  pub write : Option (CsrState → ℕ → CsrState)

-- a write that is ignored
abbrev pub ignored : Option (CsrState → ℕ → CsrState)
ignored = Some (λ c v. c)

-- mip: bit 3 the software interrupt, bit 7 that mtime has come to mtimecmp, bit 11 the devices
abbrev pub mip_of : CsrState → ℕ
mip_of c =
    (if c.msip then 8 else 0)
    + (if nat_le c.mtimecmp c.mtime then 0x80 else 0)
    + (if c.external then 0x800 else 0)

-- mstatus, misa, mie, mtvec; mscratch, mepc, mcause, mtval, mip; mcycle, minstret, mcycleh,
-- minstreth (the halves of the count of steps before this one); mvendorid, marchid, mimpid, mhartid
unfoldable pub table : List Row
table =
    record {
      number = 0x300;
      read = λ c. c.mstatus;
      write = Some (λ c v. record c { mstatus = mstatus_of v });
    } ∷
    record { number = 0x301; read = λ c. 0x40001101; write = ignored } ∷
    record {
      number = 0x304;
      read = λ c. c.mie;
      write = Some (λ c v. record c { mie = mie_of v });
    } ∷
    record {
      number = 0x305;
      read = λ c. c.mtvec;
      write = Some (λ c v. record c { mtvec = mtvec_of v });
    } ∷
    record {
      number = 0x340;
      read = λ c. c.mscratch;
      write = Some (λ c v. record c { mscratch = v });
    } ∷
    record {
      number = 0x341;
      read = λ c. c.mepc;
      write = Some (λ c v. record c { mepc = mepc_of v });
    } ∷
    record {
      number = 0x342;
      read = λ c. c.mcause;
      write = Some (λ c v. record c { mcause = v });
    } ∷
    record {
      number = 0x343;
      read = λ c. c.mtval;
      write = Some (λ c v. record c { mtval = v });
    } ∷
    record { number = 0x344; read = mip_of; write = ignored } ∷
    record { number = 0xB00; read = λ c. low_half c.steps; write = ignored } ∷
    record { number = 0xB02; read = λ c. low_half c.steps; write = ignored } ∷
    record { number = 0xB80; read = λ c. high_half c.steps; write = ignored } ∷
    record { number = 0xB82; read = λ c. high_half c.steps; write = ignored } ∷
    record { number = 0xF11; read = λ c. 0; write = None } ∷
    record { number = 0xF12; read = λ c. 0; write = None } ∷
    record { number = 0xF13; read = λ c. 0; write = None } ∷
    record { number = 0xF14; read = λ c. 0; write = None } ∷ []

-- the row of a number, None where there is no such CSR
unfoldable pub row_at : ℕ → Option Row
row_at n = find (λ row. row.number == n) table

-- what the CSR reads, None where there is no such CSR
unfoldable pub read_csr : CsrState → ℕ → Option ℕ
read_csr c n = option_map (λ row. row.read c) (row_at n)

-- what a write of the CSR does, None where it is illegal
unfoldable pub write_at : ℕ → Option (CsrState → ℕ → CsrState)
write_at n = option_and_then (λ row. row.write) (row_at n)

-- the state after a write; it stays where the write is illegal
unfoldable pub write_csr : CsrState → ℕ → ℕ → CsrState
write_csr c n v = option_map_or (λ write. write c v) (write_at n) c

-- whether a write of the CSR is legal
unfoldable pub is_writable : ℕ → Bool
is_writable n = is_some (write_at n)
