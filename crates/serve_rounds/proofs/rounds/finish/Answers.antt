-- Memory and disk are written, and the line is made.
use Rattle.std.proofs.Common.{ap, subst, sym, ◌∙◌}
use Rattle.std.proofs.lemmas.Result.{err_from_is_err_and}
use Rattle.state_wire.specs.Guest.{Meaning}
use Rattle.file_steps.specs.Plans.{done}
use Rattle.file_steps.specs.Steps.{Done, Fails, nothing, outside}
use Rattle.command_plans.specs.Replay.{state_steps, survivor}
use Rattle.command_plans.proofs.ReplayLemmas.{summary_same, survivor_same}
use Rattle.serve_rounds.specs.Rounds.{finishes}
use Rattle.serve_rounds.proofs.WorkLemmas.{stopped_of, stops_at_once}
use Rattle.serve_rounds.proofs.rounds.finish.Goals as goal

pub returns-in_err-line-clause-stops : goal.returns-in_err-line-clause-stops
returns-in_err-line-clause-stops g c = λ s l k is.
    let p = err_from_is_err_and c.from_residual.result c.from_residual.ensures.1 in
    rw (p.1, p.2) (stops_at_once c.args.output.out.now (finishes s) (outside (g.S.Shelf.state c.args.shelf.now) l k))

pub returns-in_err-write_state-clause-stops : goal.returns-in_err-write_state-clause-stops
returns-in_err-write_state-clause-stops g c = λ s l k is.
    let r = c.from_residual-in_err-write_state in
    let p = err_from_is_err_and r.result r.ensures.1 in
    let a = outside (g.S.Shelf.state c.args.shelf.now) l k in
    let b = outside (g.S.Shelf.state c.write_state.new.shelf) l k in
    let fault = c.in_err-write_state.field-0.0 in
    let guest = ap g.G.Guest.meaning c.survivor.ensures
    ∙ (survivor_same g.G.Guest.meaning c.args.pair.now ∙ ap survivor is) in
    rw (p.1, p.2) (stopped_of c.args.output.out.now (finishes s) a b fault (record {
      said = nothing;
      fails = subst (λ (m : Meaning). Fails c.args.output.out.now (state_steps m.state) nothing a b fault) guest
          (c.in_err-write_state.ensures.fails l k);
    }))

pub returns-clause-line : goal.returns-clause-line
returns-clause-line g c = λ s l k is counted.
    let a = outside (g.S.Shelf.state c.args.shelf.now) l k in
    let b = outside (g.S.Shelf.state c.write_state.new.shelf) l k in
    let guest = ap g.G.Guest.meaning c.survivor.ensures
    ∙ (survivor_same g.G.Guest.meaning c.args.pair.now ∙ ap survivor is) in
    let line = c.in_ok-line.ensures ∙ summary_same s.made c.args.counts counted in
    record {
      said = nothing;
      ends = ap done (sym line);
      done = subst (λ (m : Meaning). Done c.args.output.out.now (state_steps m.state) nothing a b) guest
          (c.in_ok-write_state.ensures.done l k);
    }
