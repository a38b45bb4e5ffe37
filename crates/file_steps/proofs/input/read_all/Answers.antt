-- The files are read one after the other.
use Rattle.std.proofs.Common.{arith, get_or, []}
use Rattle.std.proofs.lemmas.Result.{err_from_is_err_and}
use Rattle.file_steps.specs.ReadBytes.{texts_of}
use Rattle.file_steps.proofs.ReadLemmas.{read_fails, read_next}
use Rattle.file_steps.proofs.WriteLemmas.{at_place}
use Rattle.file_steps.proofs.input.read_all.Goals as goal

pub returns-in_err-read_one-clause-fails : goal.returns-in_err-read_one-clause-fails
returns-in_err-read_one-clause-fails g c =
    let p = err_from_is_err_and c.from_residual.result c.from_residual.ensures.1 in
    let name = get_or c.args.names.now c.loop-name.name-index (record { ref_ptr = (0, 0); now = [] }) in
    rw (p.1, p.2) (read_fails (λ name. name.now) c.args.names.now c.loop-name.name-index name
    (at_place c.args.names.now c.loop-name.name-index _ name (omega arith)) (omega arith)
    (g.S.Shelf.state c.args.shelf.now) (g.S.Shelf.state c.loop-name.shelf) (g.S.Shelf.state c.read_one.new.shelf)
    (texts_of c.loop-name.files.items) c.loop-name.invariant.0 c.loop-name.invariant.1 c.in_err-read_one.field-0.0
    c.in_err-read_one.ensures.fails)

pub loop-name-preserved : goal.loop-name-preserved
loop-name-preserved g c =
    let name = get_or c.args.names.now c.loop-name.name-index (record { ref_ptr = (0, 0); now = [] }) in
    read_next (λ name. name.now) c.args.names.now c.loop-name.name-index name
    (at_place c.args.names.now c.loop-name.name-index _ name (omega arith)) (omega arith)
    (g.S.Shelf.state c.args.shelf.now) (g.S.Shelf.state c.loop-name.shelf) (g.S.Shelf.state c.read_one.new.shelf)
    (texts_of c.loop-name.files.items) c.loop-name.invariant.0 c.loop-name.invariant.1
    (texts_of c.read_one.new.files.items) c.in_ok-read_one.ensures.read c.in_ok-read_one.ensures.untouched
