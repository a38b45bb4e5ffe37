use Rattle.byteorder.specs.Endian.{big_bytes}
use Rattle.machine_bytes.specs.Spelling.{queue_bytes, flag_number}
use Rattle.machine_bytes.proofs.AppendLemmas.{append_7}
use Rattle.machine_bytes.proofs.writing.put_queue.Goals as goal

pub returns-clause-items : goal.returns-clause-items
unfolding queue_bytes
returns-clause-items c = cc (append_7 c.args.out.now.items (big_bytes 4 c.args.queue.now.num) (big_bytes 4
    (flag_number c.args.queue.now.ready)) (big_bytes 8 c.args.queue.now.desc) (big_bytes 8 c.args.queue.now.driver)
    (big_bytes 8 c.args.queue.now.device) (big_bytes 2 c.args.queue.now.next) (big_bytes 2 c.args.queue.now.used))
