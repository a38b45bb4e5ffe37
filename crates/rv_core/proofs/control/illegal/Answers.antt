-- An instruction within its fields' ranges is one that some word says.
use Rattle.rv_isa.proofs.EncodeLemmas.{encodable_in_range}
use Rattle.rv_core.proofs.control.illegal.Goals as goal

pub encode-requires : goal.encode-requires
encode-requires c = encodable_in_range c.args.instr.now c.requires
