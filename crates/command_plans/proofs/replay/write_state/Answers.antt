-- Memory is written, and then the disk.
use Rattle.std.proofs.lemmas.Result.{err_from_is_err_and}
use Rattle.command_plans.specs.Replay.{page_steps, sector_steps}
use Rattle.file_steps.proofs.WriteLemmas.{err_then, ok_then, write_fails_front}
use Rattle.command_plans.proofs.replay.write_state.Goals as goal

pub returns-in_err-write_memory-clause-fails : goal.returns-in_err-write_memory-clause-fails
returns-in_err-write_memory-clause-fails g c =
    let p = err_from_is_err_and c.from_residual.result c.from_residual.ensures.1 in
    let s = (g.G.Guest.meaning c.args.guest.now).state in
    rw (p.1, p.2) (write_fails_front c.args.out.now (page_steps s.pages) (sector_steps s.sectors)
    (g.S.Shelf.state c.args.shelf.now) (g.S.Shelf.state c.write_memory.new.shelf) c.in_err-write_memory.field-0.0
    c.in_err-write_memory.ensures.fails)

pub returns-clause-done : goal.returns-clause-done
returns-clause-done g c =
    let s = (g.G.Guest.meaning c.args.guest.now).state in
    ok_then c.write_disk.result c.args.out.now (page_steps s.pages) (sector_steps s.sectors)
    (g.S.Shelf.state c.args.shelf.now) (g.S.Shelf.state c.write_memory.new.shelf)
    (g.S.Shelf.state c.write_disk.new.shelf) c.in_ok-write_memory.ensures.done c.write_disk.ensures.done

pub returns-clause-fails : goal.returns-clause-fails
returns-clause-fails g c =
    let s = (g.G.Guest.meaning c.args.guest.now).state in
    err_then c.write_disk.result c.args.out.now (page_steps s.pages) (sector_steps s.sectors)
    (g.S.Shelf.state c.args.shelf.now) (g.S.Shelf.state c.write_memory.new.shelf)
    (g.S.Shelf.state c.write_disk.new.shelf) c.in_ok-write_memory.ensures.done c.write_disk.ensures.fails
