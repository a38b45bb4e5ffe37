-- Past the table's end there is nothing.
use Rattle.std.proofs.Common.{◌≤◌, length, sym, arith}
use Rattle.std.proofs.lemmas.List.{append-nil}
use Rattle.std.proofs.lemmas.Option.{slice_get_past}
use Rattle.state_wire.proofs.script.send_from.Goals as goal

pub returns-else-ticks-table-clause-ok : goal.returns-else-ticks-table-clause-ok
returns-else-ticks-table-clause-ok c =
    let past : length c.args.table.now ≤ c.args.ticks = omega (arith, c.if-ticks-table.false) in
    rw (slice_get_past c.args.table.now c.args.ticks past) (sym (append-nil _))
