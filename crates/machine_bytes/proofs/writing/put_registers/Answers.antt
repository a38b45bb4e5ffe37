use Rattle.byteorder.specs.Endian.{big_bytes}
use Rattle.machine_bytes.specs.Spelling.{register_bytes}
use Rattle.machine_bytes.proofs.AppendLemmas.{append_6}
use Rattle.machine_bytes.proofs.writing.put_registers.Goals as goal

pub returns-clause-items : goal.returns-clause-items
unfolding register_bytes
returns-clause-items c = cc (append_6 c.args.out.now.items (big_bytes 4 c.args.device.now.status)
    (big_bytes 4 c.args.device.now.device_features_sel) (big_bytes 8 c.args.device.now.driver_features)
    (big_bytes 4 c.args.device.now.driver_features_sel) (big_bytes 4 c.args.device.now.queue_sel)
    (big_bytes 4 c.args.device.now.interrupt_status))

pub returns-clause-in_range : goal.returns-clause-in_range
returns-clause-in_range c = record {
  driver_features = c.put_double.ensures.in_range;
  status = c.put_word.ensures.in_range;
  device_features_sel = c.put_word-2.ensures.in_range;
  driver_features_sel = c.put_word-3.ensures.in_range;
  queue_sel = c.put_word-4.ensures.in_range;
  interrupt_status = c.put_word-5.ensures.in_range;
}
