use Rattle.byteorder.specs.Endian.{big_bytes}
use Rattle.machine_bytes.specs.Spelling.{csr_bytes, flag_number}
use Rattle.machine_bytes.proofs.AppendLemmas.{append_11}
use Rattle.machine_bytes.proofs.writing.put_csrs.Goals as goal

pub returns-clause-items : goal.returns-clause-items
unfolding csr_bytes
returns-clause-items c = cc (append_11 c.args.out.now.items (big_bytes 4 c.args.csrs.now.mstatus)
    (big_bytes 4 c.args.csrs.now.mie) (big_bytes 4 c.args.csrs.now.mtvec) (big_bytes 4 c.args.csrs.now.mscratch)
    (big_bytes 4 c.args.csrs.now.mepc) (big_bytes 4 c.args.csrs.now.mcause) (big_bytes 4 c.args.csrs.now.mtval)
    (big_bytes 4 (flag_number c.args.csrs.now.msip)) (big_bytes 8 c.args.csrs.now.mtime)
    (big_bytes 8 c.args.csrs.now.mtimecmp) (big_bytes 8 c.args.csrs.now.steps))

pub returns-clause-in_range : goal.returns-clause-in_range
returns-clause-in_range c = record {
  mstatus = c.put_word.ensures.in_range;
  mie = c.put_word-2.ensures.in_range;
  mtvec = c.put_word-3.ensures.in_range;
  mscratch = c.put_word-4.ensures.in_range;
  mepc = c.put_word-5.ensures.in_range;
  mcause = c.put_word-6.ensures.in_range;
  mtval = c.put_word-7.ensures.in_range;
  mtime = c.put_double.ensures.in_range;
  mtimecmp = c.put_double-2.ensures.in_range;
  steps = c.put_double-3.ensures.in_range;
}
