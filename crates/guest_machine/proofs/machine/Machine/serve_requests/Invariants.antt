-- So many requests were served.
use Rattle.std.proofs.Common.{◌≡◌}
use Rattle.guest_machine.specs.Kinds.{KeepsSizes}
use Rattle.guest_machine.specs.Turn.{serve_requests}
use Rattle.guest_machine.proofs.machine.Machine.serve_requests.Given as goal

abbrev pub invariant-loop-done : goal.invariant-loop-done
invariant-loop-done g l = record {
  state : l.self.state ≡ serve_requests l._done l.fn.self.state;
  turned : l.self.turned ≡ l.fn.self.turned;
  spent : l.self.spent ≡ l.fn.self.spent;
  size : KeepsSizes l.fn.self.state l.self.state;
}
