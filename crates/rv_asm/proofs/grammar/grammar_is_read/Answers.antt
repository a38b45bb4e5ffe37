use Rattle.rv_asm.proofs.OperandLemmas.{found}
use Rattle.rv_asm.proofs.StatementLemmas.{statement_only, statement_reads}
use Rattle.rv_asm.proofs.grammar.grammar_is_read.Goals as goal

pub returns-clause-found : goal.returns-clause-found
returns-clause-found c = λ places here text. found (statement_reads places here text)

pub returns-clause-only : goal.returns-clause-only
returns-clause-only c = statement_only
