use Rattle.machine_bytes.proofs.LawLemmas.{legal_test}
use Rattle.machine_bytes.proofs.reading.has_legal_csrs.Goals as goal

pub returns : goal.returns
returns c = legal_test c.is_legal.result c.args.csrs.now c.is_legal.ensures
