-- The bytes of a machine's state, 359 of them. Every number is big-endian, as all that goes between
-- two nodes, and they stand in the order of these lists, each with as many bytes as it says.
use Rattle.std.specs.Prelude.{ℕ, Bool, List, ◌++◌, if◌then◌else◌}
use Rattle.std.specs.List.{flat_map}
use Rattle.byteorder.specs.Endian.{big_bytes}
use Rattle.rv_core.specs.declared.registers.HartFields.{HartFields}
use Rattle.rv_traps.specs.declared.fields.CsrFields.{CsrFields}
use Rattle.virt_queue.specs.declared.fields.QueueFields.{QueueFields}
use Rattle.virtio_mmio.specs.declared.fields.DeviceFields.{DeviceFields}
use Rattle.virtio_mmio.specs.Fields.{queue_at}
use Rattle.machine_bytes.specs.declared.fields.StateFields.{StateFields}

abbrev pub state_len : ℕ
state_len = 359

-- a flag as a number
abbrev pub flag_number : Bool → ℕ
flag_number on = if on then 1 else 0

-- x1 to x31: 124 bytes
unfoldable pub words_bytes : List ℕ → List ℕ
words_bytes words = flat_map (big_bytes 4) words

-- the CSRs, the software interrupt's line, the timer and the count of steps: 56 bytes
unfoldable pub csr_bytes : CsrFields → List ℕ
csr_bytes c =
    big_bytes 4 c.mstatus ++ big_bytes 4 c.mie ++ big_bytes 4 c.mtvec ++ big_bytes 4 c.mscratch
    ++ big_bytes 4 c.mepc ++ big_bytes 4 c.mcause ++ big_bytes 4 c.mtval
    ++ big_bytes 4 (flag_number c.msip) ++ big_bytes 8 c.mtime ++ big_bytes 8 c.mtimecmp
    ++ big_bytes 8 c.steps

-- whether an address is reserved, and the address that was reserved last: 5 bytes
unfoldable pub reservation_bytes : HartFields → List ℕ
reservation_bytes h = big_bytes 1 (flag_number h.reserved) ++ big_bytes 4 h.address

-- QueueNum and QueueReady, the addresses of the descriptor table and of both rings, and the next
-- position of each ring (VIRTIO 1.1, 4.2.2 and 2.6): 36 bytes
unfoldable pub queue_bytes : QueueFields → List ℕ
queue_bytes q =
    big_bytes 4 q.num ++ big_bytes 4 (flag_number q.ready) ++ big_bytes 8 q.desc
    ++ big_bytes 8 q.driver ++ big_bytes 8 q.device ++ big_bytes 2 q.next ++ big_bytes 2 q.used

-- the registers of a device beside its queues (VIRTIO 1.1, 4.2.2): 28 bytes
unfoldable pub register_bytes : DeviceFields → List ℕ
register_bytes d =
    big_bytes 4 d.status ++ big_bytes 4 d.device_features_sel ++ big_bytes 8 d.driver_features
    ++ big_bytes 4 d.driver_features_sel ++ big_bytes 4 d.queue_sel
    ++ big_bytes 4 d.interrupt_status

-- a network device with its two queues: 100 bytes
unfoldable pub network_bytes : DeviceFields → List ℕ
network_bytes d = register_bytes d ++ queue_bytes (queue_at d 0) ++ queue_bytes (queue_at d 1)

-- a block device with its one queue: 64 bytes
unfoldable pub block_bytes : DeviceFields → List ℕ
block_bytes d = register_bytes d ++ queue_bytes (queue_at d 0)

-- the whole state: the program counter, x1 to x31, the CSRs, the reservation, the network device,
-- its neighbour's six bytes, and the block device
unfoldable pub bytes_of : StateFields → List ℕ
bytes_of v =
    big_bytes 4 v.hart.pc ++ words_bytes v.hart.x ++ csr_bytes v.csrs ++ reservation_bytes v.hart
    ++ network_bytes v.net ++ v.neighbour ++ block_bytes v.block
