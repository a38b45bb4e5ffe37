-- The bus of the hart: memory from 0x80000000 on, the core-local interruptor, and the registers of
-- two virtio devices over MMIO (VIRTIO 1.1, 4.2.2), a network card at 0x10001000 and a block device
-- at 0x10002000. An access to anything else is refused. The addresses are this machine's own.
use Rattle.std.specs.Prelude.{ℕ, ◌+◌, ◌-◌, ◌%◌, ◌==◌, nat_le, nat_lt, Bool, true, false, not, ◌&&◌, ◌||◌, if◌then◌else◌, Option, Some, None, length}
use Rattle.shared_definitions.specs.Memory.{is_inside}
use Rattle.page_track.specs.Memory.{number_at, with_number}
use Rattle.rv_core.specs.Acts.{Acts}
use Rattle.virtio_mmio.specs.Device.{Device}
use Rattle.virtio_mmio.specs.Registers.{read_config, read_register, write_register, write_event}
use Rattle.virtio_mmio.specs.declared.kind.Event.{Event}
use Rattle.virtio_mmio.specs.declared.kind.Event.TheVariants.{Nothing, Notify, Reset, Ack}
use Rattle.virtio_net.specs.Port.{send_queue, write_card}
use Rattle.rv_platform.specs.Clint.{load_clint, stores_clint, store_clint}
use Rattle.rv_platform.specs.declared.board.Board.{Board}

-- ---- the devices' places

abbrev pub network_base : ℕ
network_base = 0x10001000

abbrev pub block_base : ℕ
block_base = 0x10002000

-- whether an address is one of the 4,096 of a device
abbrev pub is_at : ℕ → ℕ → Bool
is_at base addr = nat_le base addr && nat_lt addr (base + 0x1000)

-- ---- loads

-- the first answer, or else the second
abbrev pub or_else : Option ℕ → Option ℕ → Option ℕ
or_else (Some v) other = Some v
or_else None other = other

-- an aligned access of 4 bytes
abbrev pub is_word : ℕ → ℕ → Bool
is_word addr width = (width == 4) && (addr % 4 == 0)

-- a device answers aligned loads of 4 bytes, and in its configuration space those of 1 and 2 too
abbrev pub load_device : Device → ℕ → ℕ → Option ℕ
load_device d offset width = or_else (read_config d offset width)
    (if is_word offset width then Some (read_register d offset) else None)

unfoldable pub load_register : Board → ℕ → ℕ → Option ℕ
load_register b addr width =
    if is_at network_base addr then load_device b.net.device (addr - network_base) width
    else if is_at block_base addr then load_device b.blk (addr - block_base) width
    else load_clint b.clint addr width

-- ---- stores

-- whether an address is a device's
abbrev pub is_at_device : ℕ → Bool
is_at_device addr = is_at network_base addr || is_at block_base addr

-- a device takes aligned stores of 4 bytes
unfoldable pub stores_register : ℕ → ℕ → Bool
stores_register addr width =
    if is_at_device addr then is_word addr width else stores_clint addr width

-- a notify of the network card's send queue is kept until the instruction is over
abbrev pub notifies_send : Event → Bool
notifies_send Nothing = false
notifies_send (Notify queue) = queue == send_queue
notifies_send Reset = false
notifies_send Ack = false

abbrev pub write_network : Board → ℕ → ℕ → Board
write_network b offset value = record b {
  net = write_card b.net offset value;
  touched = true;
  notified = notifies_send (write_event offset value) || b.notified;
}

-- a notify of the block device does nothing at once: its requests are served by turns
abbrev pub write_block : Board → ℕ → ℕ → Board
write_block b offset value =
    record b { blk = write_register b.blk offset value; touched = true }

abbrev pub write_clint : Board → ℕ → ℕ → ℕ → Board
write_clint b addr width value =
    record b { clint = store_clint b.clint addr width value; touched = true }

unfoldable pub store_register : Board → ℕ → ℕ → ℕ → Board
store_register b addr width value =
    if not (stores_register addr width) then b
    else if is_at network_base addr then write_network b (addr - network_base) value
    else if is_at block_base addr then write_block b (addr - block_base) value
    else write_clint b addr width value

-- ---- the bus

-- a word can be fetched where all of it is in memory
unfoldable pub board_fetched : Board → ℕ → Option ℕ
board_fetched b addr = number_at b.ram.bytes addr 4

unfoldable pub board_loaded : Board → ℕ → ℕ → Option ℕ
board_loaded b addr width =
    or_else (number_at b.ram.bytes addr width) (load_register b addr width)

unfoldable pub board_stores : Board → ℕ → ℕ → ℕ → Bool
board_stores b addr width value =
    is_inside (length b.ram.bytes) addr width || stores_register addr width

unfoldable pub board_stored : Board → ℕ → ℕ → ℕ → Board
board_stored b addr width value =
    if is_inside (length b.ram.bytes) addr width
    then record b { ram = with_number b.ram addr width value }
    else store_register b addr width value

-- no store runs out of memory, since none sends at once
abbrev pub board_acts : Acts Board
board_acts = record {
  fetched = board_fetched;
  loaded = board_loaded;
  stores = board_stores;
  stored = board_stored;
  wants = λ b addr width value. false;
}
