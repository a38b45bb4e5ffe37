use Rattle.rv_isa.specs.declared.instr.Instr.TheVariants.{Lui, Addi}
use Rattle.rv_isa.proofs.EncodeLemmas.{decodes}
use Rattle.rv_asm.specs.Statements.{upper_part, lower_part}
use Rattle.rv_asm.proofs.LoadLemmas.{lower_signed, parts_sum}
use Rattle.std.proofs.Common.{arith}
use Rattle.rv_asm.proofs.grammar.li_loads_its_number.Goals as goal

pub returns-clause-upper : goal.returns-clause-upper
returns-clause-upper c = λ rd n below. (decodes (Lui rd (upper_part n)) (below, omega arith)).1

pub returns-clause-lower : goal.returns-clause-lower
returns-clause-lower c = λ rd n below. (decodes (Addi rd rd (lower_part n)) (below, below, lower_signed n)).1

pub returns-clause-sum : goal.returns-clause-sum
returns-clause-sum c = parts_sum
