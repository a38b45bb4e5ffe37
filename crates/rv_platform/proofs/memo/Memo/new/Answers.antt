-- All entries are the same.
use Rattle.std.proofs.Common.{refl}
use Rattle.rv_platform.proofs.MemoLemmas.{all_decoded}
use Rattle.rv_platform.proofs.memo.Memo.new.Goals as goal

pub invariant_of-result : goal.invariant_of-result
invariant_of-result c = (refl, all_decoded 1024 c.nop.result c.nop.ensures)
