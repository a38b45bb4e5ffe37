-- The word of an instruction says it, and no other word does.
use Rattle.std.proofs.Common.{◌∙◌, sym}
use Rattle.rv_isa.proofs.OneWordLemmas.{word_back}
use Rattle.rv_isa.proofs.EncodeLemmas.{decodes, range_of_encodable}
use Rattle.rv_isa.proofs.encoder.encode.Goals as goal

pub word_of-requires : goal.word_of-requires
word_of-requires c = range_of_encodable c.args.instr.now c.requires

pub returns-clause-decodes : goal.returns-clause-decodes
returns-clause-decodes c =
    rw c.word_of.ensures (decodes c.args.instr.now (range_of_encodable c.args.instr.now c.requires)).1

pub returns-clause-only : goal.returns-clause-only
returns-clause-only c w l e = sym (word_back w c.args.instr.now l e) ∙ sym c.word_of.ensures
