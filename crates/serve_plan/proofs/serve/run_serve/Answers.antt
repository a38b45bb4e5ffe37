-- Both texts are tested, and then the pair runs.
use Rattle.std.proofs.Common.{subst, sym, ◌∙◌}
use Rattle.std.proofs.lemmas.Result.{err_from_is_err_and}
use Rattle.file_steps.specs.ReadBytes.{texts_of}
use Rattle.file_steps.specs.Steps.{outside}
use Rattle.guest_machine.specs.Guest.{machine_meaning}
use Rattle.pair_core.specs.Pair.{new_pair}
use Rattle.serve_rounds.specs.Rounds.{serve}
use Rattle.serve_rounds.specs.Work.{IsStopped, Work}
use Rattle.serve_plan.specs.ServePlan.{serve_texts}
use Rattle.serve_plan.proofs.ServeLemmas.{of_two_is, refused_stops, same_line, same_machine, same_stops, whole_plan}
use Rattle.serve_plan.proofs.serve.run_serve.Goals as goal

pub returns-in_err-first-clause-stops : goal.returns-in_err-first-clause-stops
returns-in_err-first-clause-stops g c =
    let p = err_from_is_err_and c.from_residual.result c.from_residual.ensures.1 in
    let is = of_two_is c.args.options.now c.args.address.now c.args.files.now c.image-item.result c.disk-item.result
    c.requires.all c.image-item.is c.disk-item.is c.deref.result.now c.deref-2.result.now c.deref.ensures.value
    c.deref-2.ensures.value in
    let here = outside (g.S.Shelf.state c.args.shelf.now) (g.L.Link.state c.args.link.now)
    (g.K.Clock.state c.args.clock.now) in
    rw (p.1, p.2)
    (subst (λ (w : Work). IsStopped c.args.out.now w here here c.in_err-first.field-0.0) (sym is)
    (refused_stops c.args.options.now c.args.out.now c.args.address.now c.deref.result.now c.deref-2.result.now here
    c.in_err-first.field-0.0 c.in_err-first.ensures.refused))

pub returns-in_err-second-clause-stops : goal.returns-in_err-second-clause-stops
returns-in_err-second-clause-stops g c =
    let p = err_from_is_err_and c.from_residual-in_err-second.result c.from_residual-in_err-second.ensures.1 in
    let is = of_two_is c.args.options.now c.args.address.now c.args.files.now c.image-item.result c.disk-item.result
    c.requires.all c.image-item.is c.disk-item.is c.deref-3.result.now c.deref-4.result.now c.deref-3.ensures.value
    c.deref-4.ensures.value in
    let here = outside (g.S.Shelf.state c.args.shelf.now) (g.L.Link.state c.args.link.now)
    (g.K.Clock.state c.args.clock.now) in
    rw (p.1, p.2)
    (subst (λ (w : Work). IsStopped c.args.out.now w here here c.in_err-second.field-0.0) (sym is)
    (refused_stops c.args.options.now c.args.out.now c.args.address.now c.deref-3.result.now c.deref-4.result.now here
    c.in_err-second.field-0.0 c.in_err-second.ensures.refused))

pub run_both-requires-clause-same : goal.run_both-requires-clause-same
run_both-requires-clause-same g c =
    same_machine c.args.options.now.ram c.deref.result.now c.deref-2.result.now c.deref-3.result.now
    c.deref-4.result.now c.image-item.result.items c.disk-item.result.items (machine_meaning c.in_ok-first.first)
    (machine_meaning c.in_ok-second.second) c.deref.ensures.value c.deref-3.ensures.value c.deref-2.ensures.value
    c.deref-4.ensures.value c.in_ok-first.ensures.read c.in_ok-second.ensures.read

pub returns-clause-line : goal.returns-clause-line
returns-clause-line g c =
    let is = of_two_is c.args.options.now c.args.address.now c.args.files.now c.image-item.result c.disk-item.result
    c.requires.all c.image-item.is c.disk-item.is c.deref.result.now c.deref-2.result.now c.deref.ensures.value
    c.deref-2.ensures.value in
    let machine = machine_meaning c.in_ok-first.first in
    let whole = whole_plan c.args.options.now c.args.address.now c.deref.result.now c.deref-2.result.now machine
    c.in_ok-first.ensures.read in
    same_line c.args.out.now (serve_texts c.args.options.now c.args.address.now (texts_of c.args.files.now))
    (serve c.args.options.now (new_pair machine machine) c.args.address.now) (is ∙ whole)
    (outside (g.S.Shelf.state c.args.shelf.now) (g.L.Link.state c.args.link.now) (g.K.Clock.state c.args.clock.now))
    (outside (g.S.Shelf.state c.run_both.new.shelf) (g.L.Link.state c.run_both.new.link)
    (g.K.Clock.state c.run_both.new.clock)) c.run_both.result c.run_both.ensures.line

pub returns-clause-stops : goal.returns-clause-stops
returns-clause-stops g c =
    let is = of_two_is c.args.options.now c.args.address.now c.args.files.now c.image-item.result c.disk-item.result
    c.requires.all c.image-item.is c.disk-item.is c.deref.result.now c.deref-2.result.now c.deref.ensures.value
    c.deref-2.ensures.value in
    let machine = machine_meaning c.in_ok-first.first in
    let whole = whole_plan c.args.options.now c.args.address.now c.deref.result.now c.deref-2.result.now machine
    c.in_ok-first.ensures.read in
    same_stops c.args.out.now (serve_texts c.args.options.now c.args.address.now (texts_of c.args.files.now))
    (serve c.args.options.now (new_pair machine machine) c.args.address.now) (is ∙ whole)
    (outside (g.S.Shelf.state c.args.shelf.now) (g.L.Link.state c.args.link.now) (g.K.Clock.state c.args.clock.now))
    (outside (g.S.Shelf.state c.run_both.new.shelf) (g.L.Link.state c.run_both.new.link)
    (g.K.Clock.state c.run_both.new.clock)) c.run_both.result c.run_both.ensures.stops
