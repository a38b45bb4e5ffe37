use Rattle.std.proofs.Common.{subst, sym}
use Rattle.rv_isa.specs.Table.{IsEncodable}
use Rattle.rv_asm.proofs.LoadLemmas.{upper_encodable, lower_encodable}
use Rattle.rv_asm.proofs.loads.load_words.Goals as goal

pub encode-requires : goal.encode-requires
encode-requires c = subst IsEncodable (sym c.lui-upper.ensures) (upper_encodable c.args.rd c.args.value c.requires)

pub encode-requires-2 : goal.encode-requires-2
encode-requires-2 c = subst IsEncodable (sym c.addi-lower.ensures) (lower_encodable c.args.rd c.args.value c.requires)
