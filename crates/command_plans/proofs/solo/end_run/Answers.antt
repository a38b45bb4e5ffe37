-- The files are created, and what the run left is written.
use Rattle.std.proofs.Common.{◌++◌, List, ℕ, codes, subst}
use Rattle.std.proofs.lemmas.Result.{err_from_is_err_and}
use Rattle.command_plans.specs.Replay.{state_steps}
use Rattle.file_steps.specs.Steps.{FailsToWrite, Writes, append_step}
use Rattle.command_plans.proofs.RunEndLemmas.{create_fails, left_done, left_fails, stop_ends}
use Rattle.command_plans.proofs.solo.end_run.Goals as goal

pub returns-in_err-create_all-clause-fails : goal.returns-in_err-create_all-clause-fails
returns-in_err-create_all-clause-fails g c =
    let p = err_from_is_err_and c.from_residual.result c.from_residual.ensures.1 in
    rw (p.1, p.2) (create_fails (g.G.Guest.meaning c.args.guest.now).state c.args.out.now
    (g.S.Shelf.state c.args.shelf.now) (g.S.Shelf.state c.create_all.new.shelf) c.args.end
    c.in_err-create_all.field-0.0 c.in_err-create_all.ensures.fails)

pub returns-in_err-write_left-in-Made-clause-fails : goal.returns-in_err-write_left-in-Made-clause-fails
returns-in_err-write_left-in-Made-clause-fails g c =
    let r = c.from_residual-in_err-write_left-in-Made in
    let p = err_from_is_err_and r.result r.ensures.1 in
    let fault = c.in_err-write_left-in-Made.field-0.0 in
    let state = (g.G.Guest.meaning c.args.guest.now).state in
    let s0 = g.S.Shelf.state c.args.shelf.now in
    let s1 = g.S.Shelf.state c.create_all.new.shelf in
    let s2 = g.S.Shelf.state c.write_left.new.shelf in
    let F : List ℕ → Type 0 = λ sent.
    FailsToWrite c.args.out.now (append_step (codes ".sent") sent ++ state_steps state) s1 s2 fault in
    rw (p.1, p.2) (left_fails state c.args.out.now s0 s1 c.args.end c.in-Made.sent c.in-Made.line c.in-Made.is s2
    c.in_ok-create_all.ensures.done fault
    (subst F c.deref.ensures.value c.in_err-write_left-in-Made.ensures.fails))

pub returns-in_ok-write_left-in-Made-clause-done : goal.returns-in_ok-write_left-in-Made-clause-done
returns-in_ok-write_left-in-Made-clause-done g c =
    let state = (g.G.Guest.meaning c.args.guest.now).state in
    let s0 = g.S.Shelf.state c.args.shelf.now in
    let s1 = g.S.Shelf.state c.create_all.new.shelf in
    let s2 = g.S.Shelf.state c.write_left.new.shelf in
    let W : List ℕ → Type 0 = λ sent.
    Writes c.args.out.now (append_step (codes ".sent") sent ++ state_steps state) s1 s2 in
    left_done state c.args.out.now s0 s1 c.args.end c.in-Made.sent c.in-Made.line c.in-Made.is s2
    c.in_ok-create_all.ensures.done (subst W c.deref.ensures.value c.in_ok-write_left-in-Made.ensures.done)

pub returns-in-Stopped-clause-fails : goal.returns-in-Stopped-clause-fails
returns-in-Stopped-clause-fails g c =
    stop_ends (g.G.Guest.meaning c.args.guest.now).state c.args.out.now (g.S.Shelf.state c.args.shelf.now)
    (g.S.Shelf.state c.create_all.new.shelf) c.args.end c.in-Stopped.refusal c.in-Stopped.is c.requires
    c.in_ok-create_all.ensures.done
