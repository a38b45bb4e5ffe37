use Rattle.std.proofs.Common.{length}
use Rattle.rv_asm.proofs.operands.+operands.Given as goal

abbrev pub decreases-operands : goal.decreases-operands
decreases-operands l = length l.kinds.now
