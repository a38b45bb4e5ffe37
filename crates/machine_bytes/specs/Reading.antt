-- What the bytes of a machine's state stand for: each value by its place, and which bytes are a
-- state's.
use Rattle.std.specs.Prelude.{ℕ, zero, suc, ◌%◌, ◌==◌, nat_le, Bool, not, ◌&&◌, List, [], ◌∷◌, length, take, drop}
use Rattle.byteorder.specs.Endian.{big_number}
use Rattle.rv_traps.specs.CsrState.{mstatus_of, mie_of, is_set}
use Rattle.rv_traps.specs.declared.fields.CsrFields.{CsrFields}
use Rattle.virt_queue.specs.Queue.{is_legal, no_queue}
use Rattle.virt_queue.specs.declared.fields.QueueFields.{QueueFields}
use Rattle.virtio_mmio.specs.declared.fields.DeviceFields.{DeviceFields}
use Rattle.virtio_mmio.specs.Fields.{queue_at}
use Rattle.machine_bytes.specs.Spelling.{state_len}
use Rattle.machine_bytes.specs.declared.fields.StateFields.{StateFields}

-- the number of n bytes at a place, big-endian
abbrev pub number_at : ℕ → List ℕ → ℕ → ℕ
number_at n b at = big_number n (drop at b)

-- the first n words of 4 bytes
unfoldable pub words_of : ℕ → List ℕ → List ℕ
words_of zero b = []
words_of (suc n) b = number_at 4 b 0 ∷ words_of n (drop 4 b)

-- what the first 56 bytes say of the CSRs and the timer
unfoldable pub csrs_of : List ℕ → CsrFields
csrs_of b = record {
  mstatus = number_at 4 b 0;
  mie = number_at 4 b 4;
  mtvec = number_at 4 b 8;
  mscratch = number_at 4 b 12;
  mepc = number_at 4 b 16;
  mcause = number_at 4 b 20;
  mtval = number_at 4 b 24;
  msip = number_at 4 b 28 == 1;
  mtime = number_at 8 b 32;
  mtimecmp = number_at 8 b 40;
  steps = number_at 8 b 48;
}

-- the queue of the first 36 bytes
unfoldable pub queue_of : List ℕ → QueueFields
queue_of b = record {
  num = number_at 4 b 0;
  ready = number_at 4 b 4 == 1;
  desc = number_at 8 b 8;
  driver = number_at 8 b 16;
  device = number_at 8 b 24;
  next = number_at 2 b 32;
  used = number_at 2 b 34;
}

-- the device whose registers are the first 28 bytes, with these queues
unfoldable pub device_of : List ℕ → QueueFields → QueueFields → DeviceFields
device_of b first second = record {
  status = number_at 4 b 0;
  device_features_sel = number_at 4 b 4;
  driver_features = number_at 8 b 8;
  driver_features_sel = number_at 4 b 16;
  queue_sel = number_at 4 b 20;
  interrupt_status = number_at 4 b 24;
  queues = first ∷ second ∷ [];
}

-- the values that the bytes of a whole state stand for
unfoldable pub fields_in : List ℕ → StateFields
fields_in b = record {
  hart = record {
    pc = number_at 4 b 0;
    x = words_of 31 (drop 4 b);
    reserved = number_at 1 b 184 == 1;
    address = number_at 4 b 185;
  };
  csrs = csrs_of (drop 128 b);
  net = device_of (drop 189 b) (queue_of (drop 217 b)) (queue_of (drop 253 b));
  neighbour = take 6 (drop 289 b);
  block = device_of (drop 295 b) (queue_of (drop 323 b)) no_queue;
}

-- ---- which bytes are a state's

abbrev pub is_flag : ℕ → Bool
is_flag n = nat_le n 1

-- msip, the reservation's byte and the three ready words are 0 or 1
unfoldable pub has_flags : List ℕ → Bool
has_flags b =
    is_flag (number_at 4 b 156) && is_flag (number_at 1 b 184) && is_flag (number_at 4 b 221)
    && is_flag (number_at 4 b 257) && is_flag (number_at 4 b 327)

-- mstatus is 0x1800 with bits 3 and 7 free, mie is within 0x888, bit 1 of mtvec is 0, and mepc is a
-- multiple of 4
unfoldable pub has_legal_csrs : CsrFields → Bool
has_legal_csrs c =
    (c.mstatus == mstatus_of c.mstatus) && (mie_of c.mie == c.mie) && not (is_set 1 c.mtvec)
    && (c.mepc % 4 == 0)

-- the program counter is a multiple of 4, the CSRs can hold their values, and each ready queue's
-- number is a power of two from 1 to 256
unfoldable pub has_legal_fields : StateFields → Bool
has_legal_fields v =
    (v.hart.pc % 4 == 0) && has_legal_csrs v.csrs && is_legal (queue_at v.net 0)
    && is_legal (queue_at v.net 1) && is_legal (queue_at v.block 0)

-- a machine accepts these bytes as a state
unfoldable pub accepts : List ℕ → Bool
accepts b = (length b == state_len) && has_flags b && has_legal_fields (fields_in b)
