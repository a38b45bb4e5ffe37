-- Where the parts of a split virtqueue stand in memory, and what stands there: the descriptor
-- table, the available ring and the used ring (VIRTIO 1.1, 2.6.5, 2.6.6 and 2.6.8). All numbers are
-- little-endian. A queue's fields name them desc, driver and device.
use Rattle.std.specs.Prelude.{ℕ, ◌+◌, ◌-◌, ◌*◌, ◌%◌, ◌^◌, ◌==◌, Bool, not, ◌&&◌, bit_and, List, ◌++◌}
use Rattle.shared_definitions.specs.Memory.{is_inside, little_endian, little_endian_bytes}
use Rattle.page_track.specs.Memory.{Memory, part_at, with_part}
use Rattle.virt_queue.specs.declared.fields.QueueFields.{QueueFields}
use Rattle.virt_queue.specs.declared.ring.Descriptor.{Descriptor}

-- the number of n bytes at an address
abbrev pub number : List ℕ → ℕ → ℕ → ℕ
number bytes address n = little_endian (part_at bytes address n)

-- whether the three parts of a ring are in memory of this size, without the fields of event indices
abbrev pub ring_inside : ℕ → QueueFields → Bool
ring_inside size q =
    is_inside size q.desc (16 * q.num)
    && (is_inside size q.driver (4 + 2 * q.num) && is_inside size q.device (4 + 8 * q.num))

-- descriptor k of the table: addr, len, flags, next
abbrev pub descriptor_at : List ℕ → QueueFields → ℕ → Descriptor
descriptor_at bytes q k = record {
  addr = number bytes (q.desc + 16 * k) 8;
  len = number bytes (q.desc + 16 * k + 8) 4;
  flags = number bytes (q.desc + 16 * k + 12) 2;
  next = number bytes (q.desc + 16 * k + 14) 2;
}

-- VIRTQ_DESC_F_NEXT, VIRTQ_DESC_F_WRITE and VIRTQ_DESC_F_INDIRECT
abbrev pub has_next : Descriptor → Bool
has_next d = not (bit_and d.flags 1 == 0)

abbrev pub is_writable : Descriptor → Bool
is_writable d = not (bit_and d.flags 2 == 0)

abbrev pub is_indirect : Descriptor → Bool
is_indirect d = not (bit_and d.flags 4 == 0)

-- how many entries of the available ring wait: its idx minus the next position, modulo 2^16
abbrev pub waiting : List ℕ → QueueFields → ℕ
waiting bytes q = (number bytes (q.driver + 2) 2 + 2 ^ 16 - q.next) % 2 ^ 16

-- the entry of the available ring at the next position: the index of a chain's head
abbrev pub head_of : List ℕ → QueueFields → ℕ
head_of bytes q = number bytes (q.driver + 4 + 2 * (q.next % q.num)) 2

-- whether the driver asks for interrupts: VIRTQ_AVAIL_F_NO_INTERRUPT isn't set (2.6.7)
abbrev pub asks_interrupt : List ℕ → QueueFields → Bool
asks_interrupt bytes q = bit_and (number bytes q.driver 2) 1 == 0

-- the position after one
abbrev pub after_position : ℕ → ℕ
after_position position = (position + 1) % 2 ^ 16

-- memory with an entry of the used ring at the used position, id and len, and then idx as the
-- position after it (2.6.8)
unfoldable pub with_used : Memory → QueueFields → ℕ → ℕ → Memory
with_used memory q head len =
    let place = q.device + 4 + 8 * (q.used % q.num) in
    let entry = little_endian_bytes 4 head ++ little_endian_bytes 4 len in
    let idx = little_endian_bytes 2 (after_position q.used) in
    with_part (with_part memory place entry) (q.device + 2) idx
