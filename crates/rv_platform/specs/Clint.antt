-- The registers of the core-local interruptor: the software interrupt's line and the timer (RISC-V
-- privileged, 3.1.9 and 3.2.1; RISC-V ACLINT, MSWI and MTIMER, for one hart). Each is a word, and
-- the timer's numbers of 64 bits are two words, the low half first.
use Rattle.std.specs.Prelude.{ℕ, ◌%◌, ◌==◌, Bool, List, [], ◌∷◌, Option, None, is_some, if◌then◌else◌}
use Rattle.std.specs.List.{find}
use Rattle.std.specs.Option.{option_map, option_map_or}
use Rattle.shared_definitions.specs.Halves.{low_half, high_half, with_low_half, with_high_half}
use Rattle.rv_platform.specs.declared.clint.Clint.{Clint}

-- a register: its address, what it reads, and what a write leaves
pub record Register : Type 0 where
  pub addr : ℕ
  pub read : Clint → ℕ
  pub write : Clint → ℕ → Clint

-- msip, whose bit 0 is the line; mtimecmp; mtime, to which a write is ignored
unfoldable pub registers : List Register
registers =
    record {
      addr = 0x02000000;
      read = λ c. if c.msip then 1 else 0;
      write = λ c v. record c { msip = v % 2 == 1 };
    } ∷
    record {
      addr = 0x02004000;
      read = λ c. low_half c.mtimecmp;
      write = λ c v. record c { mtimecmp = with_low_half c.mtimecmp v };
    } ∷
    record {
      addr = 0x02004004;
      read = λ c. high_half c.mtimecmp;
      write = λ c v. record c { mtimecmp = with_high_half c.mtimecmp v };
    } ∷
    record { addr = 0x0200BFF8; read = λ c. low_half c.mtime; write = λ c v. c } ∷
    record { addr = 0x0200BFFC; read = λ c. high_half c.mtime; write = λ c v. c } ∷ []

-- the register that an access of so many bytes reaches: one of 4 bytes at its address
unfoldable pub register_at : ℕ → ℕ → Option Register
register_at addr width =
    if width == 4 then find (λ register. register.addr == addr) registers else None

-- what a load answers
unfoldable pub load_clint : Clint → ℕ → ℕ → Option ℕ
load_clint c addr width = option_map (λ register. register.read c) (register_at addr width)

-- whether a store is taken, and what it leaves
unfoldable pub stores_clint : ℕ → ℕ → Bool
stores_clint addr width = is_some (register_at addr width)

unfoldable pub store_clint : Clint → ℕ → ℕ → ℕ → Clint
store_clint c addr width value =
    option_map_or (λ register. register.write c value) (register_at addr width) c
