use Rattle.byteorder.specs.Endian.{big_bytes}
use Rattle.machine_bytes.specs.Spelling.{reservation_bytes, flag_number}
use Rattle.machine_bytes.proofs.AppendLemmas.{append_2}
use Rattle.machine_bytes.proofs.writing.put_reservation.Goals as goal

pub returns-clause-items : goal.returns-clause-items
unfolding reservation_bytes
returns-clause-items c = cc (append_2 c.args.out.now.items (big_bytes 1 (flag_number c.args.hart.now.reserved))
    (big_bytes 4 c.args.hart.now.address))
