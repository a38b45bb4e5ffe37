-- The files are created, the log written, and then memory and disk.
use Rattle.std.proofs.Common.{◌++◌, ◌∙◌, List, ap, flat_map, subst}
use Rattle.std.proofs.lemmas.Result.{err_from_is_err_and}
use Rattle.file_steps.specs.Steps.{FailsToWrite, Step, Writes, creates}
use Rattle.file_steps.specs.declared.fault.Fault.TheVariants.{NoMemory}
use Rattle.file_steps.proofs.WriteLemmas.{write_fails_front, write_fails_then, write_no_memory, writes_then}
use Rattle.state_wire.specs.Guest.{GuestState}
use Rattle.command_plans.specs.Replay.{replay_files, state_steps}
use Rattle.command_plans.proofs.ReplayLemmas.{survivor_same}
use Rattle.pair_theorem.specs.History.{pair_log}
use Rattle.pair_theorem.specs.Past.{Start}
use Rattle.replay_log.specs.declared.lines.Line.{Line}
use Rattle.replay_plan.specs.LogPlan.{log_steps, survivor_of, writes_of}
use Rattle.replay_plan.proofs.CountLemmas.{line_same}
use Rattle.replay_plan.proofs.log.run_log.Goals as goal

-- the parts of a log's files
abbrev made : List Step
made = creates replay_files

abbrev happened : Start → List Line → List Step
happened a lines = flat_map writes_of (pair_log a lines)

abbrev left : Start → List Line → List Step
left a lines = state_steps (survivor_of a (pair_log a lines))

pub returns-in_err-create_all-clause-fails : goal.returns-in_err-create_all-clause-fails
unfolding log_steps
returns-in_err-create_all-clause-fails g c =
    let lines = c.args.lines.now in
    let out = c.args.out.now in
    let s0 = g.S.Shelf.state c.args.shelf.now in
    let s1 = g.S.Shelf.state c.create_all.new.shelf in
    let p = err_from_is_err_and c.from_residual.result c.from_residual.ensures.1 in
    rw (p.1, p.2) (λ a start stands.
    write_fails_front out made (happened a lines ++ left a lines) s0 s1 c.in_err-create_all.field-0.0
    c.in_err-create_all.ensures.fails)

pub returns-in_err-counts-clause-fails : goal.returns-in_err-counts-clause-fails
unfolding log_steps
returns-in_err-counts-clause-fails g c =
    let lines = c.args.lines.now in
    let out = c.args.out.now in
    let s0 = g.S.Shelf.state c.args.shelf.now in
    let s1 = g.S.Shelf.state c.create_all.new.shelf in
    let s2 = g.S.Shelf.state c.run_lines.new.shelf in
    let p = err_from_is_err_and c.from_residual-in_err-counts.result c.from_residual-in_err-counts.ensures.1 in
    let fault = c.in_err-counts.field-0.0 in
    rw (p.1, p.2) (λ a start stands.
    write_fails_then out made (happened a lines ++ left a lines) s0 s1 s2 fault c.in_ok-create_all.ensures.done
    (write_fails_front out (happened a lines) (left a lines) s1 s2 fault
    (c.in_err-counts.ensures.fails a start stands)))

pub returns-in_err-line-clause-fails : goal.returns-in_err-line-clause-fails
unfolding log_steps
returns-in_err-line-clause-fails g c =
    let lines = c.args.lines.now in
    let out = c.args.out.now in
    let s0 = g.S.Shelf.state c.args.shelf.now in
    let s1 = g.S.Shelf.state c.create_all.new.shelf in
    let s2 = g.S.Shelf.state c.run_lines.new.shelf in
    let p = err_from_is_err_and c.from_residual-in_err-line.result c.from_residual-in_err-line.ensures.1 in
    rw (p.1, p.2) (λ a start stands.
    write_fails_then out made (happened a lines ++ left a lines) s0 s1 s2 NoMemory c.in_ok-create_all.ensures.done
    (write_fails_then out (happened a lines) (left a lines) s1 s2 s2 NoMemory
    (c.in_ok-counts.ensures.done a start stands) (write_no_memory out (left a lines) s2)))

pub returns-in_err-write_state-clause-fails : goal.returns-in_err-write_state-clause-fails
unfolding log_steps
returns-in_err-write_state-clause-fails g c =
    let lines = c.args.lines.now in
    let out = c.args.out.now in
    let s0 = g.S.Shelf.state c.args.shelf.now in
    let s1 = g.S.Shelf.state c.create_all.new.shelf in
    let s2 = g.S.Shelf.state c.run_lines.new.shelf in
    let s3 = g.S.Shelf.state c.write_state.new.shelf in
    let r = c.from_residual-in_err-write_state in
    let p = err_from_is_err_and r.result r.ensures.1 in
    let fault = c.in_err-write_state.field-0.0 in
    let guest = ap (λ m. m.state)
    (ap g.G.Guest.meaning c.survivor.ensures ∙ survivor_same g.G.Guest.meaning c.run_lines.new.pair) in
    rw (p.1, p.2) (λ a start stands.
    write_fails_then out made (happened a lines ++ left a lines) s0 s1 s3 fault c.in_ok-create_all.ensures.done
    (write_fails_then out (happened a lines) (left a lines) s1 s2 s3 fault
    (c.in_ok-counts.ensures.done a start stands)
    (subst (λ (s : GuestState). FailsToWrite out (state_steps s) s2 s3 fault)
    (guest ∙ (c.in_ok-counts.ensures.run a start stands).state) c.in_err-write_state.ensures.fails)))

pub returns-clause-line : goal.returns-clause-line
returns-clause-line g c a start stands =
    c.in_ok-line.ensures
    ∙ line_same (pair_log a c.args.lines.now) c.in_ok-counts.counts
    (c.in_ok-counts.ensures.run a start stands).counted

pub returns-clause-done : goal.returns-clause-done
unfolding log_steps
returns-clause-done g c a start stands =
    let lines = c.args.lines.now in
    let out = c.args.out.now in
    let s0 = g.S.Shelf.state c.args.shelf.now in
    let s1 = g.S.Shelf.state c.create_all.new.shelf in
    let s2 = g.S.Shelf.state c.run_lines.new.shelf in
    let s3 = g.S.Shelf.state c.write_state.new.shelf in
    let guest = ap (λ m. m.state)
    (ap g.G.Guest.meaning c.survivor.ensures ∙ survivor_same g.G.Guest.meaning c.run_lines.new.pair) in
    writes_then out made (happened a lines ++ left a lines) s0 s1 s3 c.in_ok-create_all.ensures.done
    (writes_then out (happened a lines) (left a lines) s1 s2 s3 (c.in_ok-counts.ensures.done a start stands)
    (subst (λ (s : GuestState). Writes out (state_steps s) s2 s3)
    (guest ∙ (c.in_ok-counts.ensures.run a start stands).state) c.in_ok-write_state.ensures.done))
