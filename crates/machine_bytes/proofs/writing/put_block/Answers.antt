use Rattle.machine_bytes.specs.Spelling.{block_bytes, register_bytes, queue_bytes}
use Rattle.machine_bytes.proofs.AppendLemmas.{append_2}
use Rattle.virtio_mmio.specs.Fields.{queue_at}
use Rattle.machine_bytes.proofs.writing.put_block.Goals as goal

pub returns-clause-items : goal.returns-clause-items
unfolding block_bytes
returns-clause-items c = cc (append_2 c.args.out.now.items (register_bytes c.args.device.now) (queue_bytes
    (queue_at c.args.device.now 0)))
