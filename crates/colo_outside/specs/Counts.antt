-- What contracts see of a real link.
use Rattle.std.specs.Prelude.{ℕ, Bool, false, []}
use Rattle.colo_base.specs.Link.{LinkState}

-- whether it was opened, and how many calls of each kind failed or were quiet, one count for all
-- addresses
pub record LinkCounts : Type 0 where
  pub opened : Bool
  pub open_faults : ℕ
  pub receive_faults : ℕ
  pub send_faults : ℕ
  pub quiets : ℕ

-- neither what came nor what was sent can be observed
abbrev pub state_of : LinkCounts → LinkState
state_of counts = record {
  observable = false;
  opened = counts.opened;
  answers = [];
  sent = [];
  open_faults = λ address. counts.open_faults;
  receive_faults = counts.receive_faults;
  send_faults = counts.send_faults;
  quiets = counts.quiets;
}
