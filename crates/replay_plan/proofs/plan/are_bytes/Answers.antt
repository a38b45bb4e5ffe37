use Rattle.std.proofs.Common.{arith}
use Rattle.replay_plan.proofs.plan.are_bytes.Goals as goal

pub returns : goal.returns
returns c i = omega (arith, c.type_inv.bytes i)
