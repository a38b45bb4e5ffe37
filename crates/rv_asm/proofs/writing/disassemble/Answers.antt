use Rattle.rv_asm.proofs.LawLemmas.{text_assembles, text_is_one_line}
use Rattle.rv_asm.proofs.writing.disassemble.Goals as goal

pub returns-clause-assembles : goal.returns-clause-assembles
returns-clause-assembles c = text_assembles c.args.word c.ranges.word.fits

pub returns-clause-line : goal.returns-clause-line
returns-clause-line c = text_is_one_line c.args.word c.ranges.word.fits
