-- One request after the other, until one finds nothing.
use Rattle.std.proofs.Common.{refl, ◌∙◌}
use Rattle.guest_machine.proofs.TurnLemmas.{no_requests, none_left, one_request, sizes_same, sizes_then}
use Rattle.guest_machine.proofs.machine.Machine.serve_requests.Goals as goal

pub loop-done-init : goal.loop-done-init
loop-done-init g c = record {
  state = no_requests c.args.self.now.state;
  turned = refl;
  spent = refl;
  size = sizes_same c.args.self.now.state;
}

pub returns-in-Idle-clause-state : goal.returns-in-Idle-clause-state
returns-in-Idle-clause-state g c =
    none_left c.args.requests c.loop-done._done c.args.self.now.state c.loop-done.self.state
    c.serve_request.new.self.state
    c.loop-done.invariant.state c.serve_request.ensures.state (c.serve_request.ensures.idle c.in-Idle.is)
    c.loop-done-test.true

pub returns-in-Idle-clause-turned : goal.returns-in-Idle-clause-turned
returns-in-Idle-clause-turned g c = c.serve_request.ensures.turned ∙ c.loop-done.invariant.turned

pub returns-in-Idle-clause-spent : goal.returns-in-Idle-clause-spent
returns-in-Idle-clause-spent g c = c.serve_request.ensures.spent ∙ c.loop-done.invariant.spent

pub returns-in-Idle-clause-size : goal.returns-in-Idle-clause-size
returns-in-Idle-clause-size g c = sizes_then c.args.self.now.state c.loop-done.self.state c.serve_request.new.self.state
    c.loop-done.invariant.size c.serve_request.ensures.size

pub loop-done-preserved : goal.loop-done-preserved
loop-done-preserved g c = record {
  state = one_request c.loop-done._done c.args.self.now.state c.loop-done.self.state c.serve_request.new.self.state
      c.loop-done.invariant.state c.serve_request.ensures.state;
  turned = c.serve_request.ensures.turned ∙ c.loop-done.invariant.turned;
  spent = c.serve_request.ensures.spent ∙ c.loop-done.invariant.spent;
  size = sizes_then c.args.self.now.state c.loop-done.self.state c.serve_request.new.self.state
      c.loop-done.invariant.size c.serve_request.ensures.size;
}
