use Rattle.rv_asm.proofs.OperandLemmas.{tells}
use Rattle.rv_asm.proofs.StatementLemmas.{refused_without_words, statement_reads}
use Rattle.rv_asm.proofs.grammar.refusals_are_at_their_place.Goals as goal

pub returns-clause-without_words : goal.returns-clause-without_words
returns-clause-without_words c = refused_without_words

pub returns-clause-first : goal.returns-clause-first
returns-clause-first c = λ places here text. tells (statement_reads places here text)
