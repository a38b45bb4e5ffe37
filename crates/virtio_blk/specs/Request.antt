-- One request of a block device: its bytes, what it does to memory and the disk, and its status
-- (VIRTIO 1.1, 5.2.6 "Device Operation": type, reserved, sector, then data, then the status).
use Rattle.std.specs.Prelude.{ℕ, zero, suc, ◌+◌, ◌-◌, ◌*◌, ◌/◌, ◌%◌, ◌^◌, ◌==◌, nat_le, Bool, ◌&&◌, if◌then◌else◌, List, [], ◌∷◌, ◌++◌, length, take, drop, get_or}
use Rattle.shared_definitions.specs.Memory.{little_endian}
use Rattle.page_track.specs.Memory.{Memory}
use Rattle.virt_queue.specs.Parts.{DescriptorChain, readable, writable, total_len, join_parts, skip, write_joined}
use Rattle.virtio_blk.specs.Disk.{DiskState, with_sector}

-- ---- the header of 16 bytes

abbrev pub header_size : ℕ
header_size = 16

-- VIRTIO_BLK_T_IN, VIRTIO_BLK_T_OUT and VIRTIO_BLK_T_FLUSH
abbrev pub type_in : ℕ
type_in = 0

abbrev pub type_out : ℕ
type_out = 1

abbrev pub type_flush : ℕ
type_flush = 4

abbrev pub type_of : List ℕ → ℕ
type_of request = little_endian (take 4 request)

abbrev pub sector_of : List ℕ → ℕ
sector_of request = little_endian (take 8 (drop 8 request))

-- ---- the status: VIRTIO_BLK_S_OK, VIRTIO_BLK_S_IOERR and VIRTIO_BLK_S_UNSUPP

abbrev pub status_ok : ℕ
status_ok = 0

abbrev pub status_ioerr : ℕ
status_ioerr = 1

abbrev pub status_unsupported : ℕ
status_unsupported = 2

-- ---- sectors of 512 bytes

abbrev pub sector_size : ℕ
sector_size = 512

-- whether n bytes from a sector on are whole sectors of the disk
abbrev pub are_sectors : DiskState → ℕ → ℕ → Bool
are_sectors disk sector n =
    (n % sector_size == 0) && nat_le (sector_size * sector + n) (sector_size * length disk.mine)

-- the bytes of n sectors from one on
unfoldable pub read_sectors : DiskState → ℕ → ℕ → List ℕ
read_sectors disk sector zero = []
read_sectors disk sector (suc n) = read_sectors disk sector n ++ get_or disk.mine (sector + n) []

-- the disk with bytes as its n sectors from one on
unfoldable pub write_sectors : DiskState → ℕ → ℕ → List ℕ → DiskState
write_sectors disk sector zero bytes = disk
write_sectors disk sector (suc n) bytes =
    with_sector
    (write_sectors disk sector n bytes) (sector + n)
    (take sector_size (drop (sector_size * n) bytes))

-- ---- what a request does

-- memory and the disk after it, and how many bytes it wrote, as the used ring tells
pub record Done : Type 0 where
  pub memory : Memory
  pub disk : DiskState
  pub written : ℕ

-- the bytes of a chain that the device reads, how many they are, and how many it writes
abbrev pub request_bytes : Memory → DescriptorChain → List ℕ
request_bytes memory chain = join_parts memory.bytes (readable chain.parts)

abbrev pub request_len : DescriptorChain → ℕ
request_len chain = total_len (readable chain.parts)

abbrev pub answer_len : DescriptorChain → ℕ
answer_len chain = total_len (writable chain.parts)

-- memory with the status in the last byte that the device writes
abbrev pub with_status : Memory → DescriptorChain → ℕ → Memory
with_status memory chain status =
    write_joined memory (skip (answer_len chain - 1) (writable chain.parts)) (status ∷ [])

-- the status alone was written, which is counted only where it is the whole answer
abbrev pub status_count : DescriptorChain → ℕ
status_count chain = if answer_len chain == 1 then 1 else 0

abbrev pub with_status_alone : Memory → DiskState → DescriptorChain → ℕ → Done
with_status_alone memory disk chain status = record {
  memory = with_status memory chain status;
  disk = disk;
  written = status_count chain;
}

-- a number as the 32 bits of the used ring's field hold it
abbrev pub as_word : ℕ → ℕ
as_word n = n % 2 ^ 32

-- IN: sectors are read into all of the answer but the status
abbrev pub serve_in : Memory → DiskState → DescriptorChain → ℕ → Done
serve_in memory disk chain sector =
    if are_sectors disk sector (answer_len chain - 1)
    then record {
      memory = with_status
          (write_joined memory (writable chain.parts)
          (read_sectors disk sector ((answer_len chain - 1) / sector_size)))
          chain status_ok;
      disk = disk;
      written = as_word (answer_len chain);
    }
    else with_status_alone memory disk chain status_ioerr

-- OUT: sectors are written from all of the request but its header
abbrev pub serve_out : Memory → DiskState → DescriptorChain → ℕ → Done
serve_out memory disk chain sector =
    let bytes = drop header_size (request_bytes memory chain) in
    let count = (request_len chain - header_size) / sector_size in
    if are_sectors disk sector (request_len chain - header_size)
    then with_status_alone memory (write_sectors disk sector count bytes) chain status_ok
    else with_status_alone memory disk chain status_ioerr

-- the request of a chain, by its type
unfoldable pub serve_request : Memory → DiskState → DescriptorChain → Done
serve_request memory disk chain = let request = request_bytes memory chain in
    if type_of request == type_in then serve_in memory disk chain (sector_of request)
    else if type_of request == type_out then serve_out memory disk chain (sector_of request)
    else if type_of request == type_flush then with_status_alone memory disk chain status_ok
    else with_status_alone memory disk chain status_unsupported
