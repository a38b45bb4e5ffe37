-- What is appended is the sector.
use Rattle.std.proofs.Common.{List, ℕ, [], subst, sym, OnOk, IfErr}
use Rattle.std.specs.Prelude.{codes}
use Rattle.std.proofs.lemmas.Option.{get_or_from_slice_get}
use Rattle.file_steps.specs.Steps.{FailsToWrite, Writes, append_step}
use Rattle.command_plans.proofs.replay.write_sector.Goals as goal

pub returns-clause-done : goal.returns-clause-done
returns-clause-done g c =
    let is = get_or_from_slice_get (g.G.Guest.meaning c.args.guest.now).state.sectors c.args.k c.in-Some.sector.now []
    (sym c.in-Some.ensures.sector) in
    subst (λ (bytes : List ℕ). OnOk c.append.result (Writes c.args.out.now (append_step (codes ".disk") bytes)
    (g.S.Shelf.state c.args.shelf.now) (g.S.Shelf.state c.append.new.shelf))) (sym is) c.append.ensures.done

pub returns-clause-fails : goal.returns-clause-fails
returns-clause-fails g c =
    let is = get_or_from_slice_get (g.G.Guest.meaning c.args.guest.now).state.sectors c.args.k c.in-Some.sector.now []
    (sym c.in-Some.ensures.sector) in
    subst (λ (bytes : List ℕ). IfErr c.append.result (FailsToWrite c.args.out.now (append_step (codes ".disk") bytes)
    (g.S.Shelf.state c.args.shelf.now) (g.S.Shelf.state c.append.new.shelf))) (sym is) c.append.ensures.fails
