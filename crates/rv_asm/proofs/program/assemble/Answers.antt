use Rattle.std.proofs.Common.{ℕ, List, map, ap, subst, ◌∙◌}
use Rattle.std.proofs.lemmas.Result.{IfOk-weaker, IfErr-weaker}
use Rattle.rv_asm.specs.Program.{HaveBytes, HaveFault, lines_of}
use Rattle.rv_asm.proofs.ProgramLemmas.{same_words}
use Rattle.rv_asm.proofs.program.assemble.Goals as goal

pub returns-clause-words : goal.returns-clause-words
returns-clause-words c =
    let same = ap (map (λ line. line.now)) c.as_slice.ensures.value ∙ c.in_ok-lines.ensures in
    IfOk-weaker c.assemble_lines.result _ _ (λ bytes h. subst (λ (lines : List
    (List ℕ)). HaveBytes lines bytes.items) same h) c.assemble_lines.ensures.words

pub returns-clause-only : goal.returns-clause-only
returns-clause-only c =
    let same = ap (map (λ line. line.now)) c.as_slice.ensures.value ∙ c.in_ok-lines.ensures in
    IfOk-weaker c.assemble_lines.result _ _
    (λ bytes h. λ words g. same_words (lines_of c.args.text.now) words bytes.items (subst (λ (lines : List
    (List ℕ)). HaveBytes lines bytes.items) same h) g)
    c.assemble_lines.ensures.words

pub returns-clause-fault : goal.returns-clause-fault
returns-clause-fault c =
    let same = ap (map (λ line. line.now)) c.as_slice.ensures.value ∙ c.in_ok-lines.ensures in
    IfErr-weaker c.assemble_lines.result _ _ (λ fault h. subst (λ (lines : List
    (List ℕ)). HaveFault lines fault) same h) c.assemble_lines.ensures.fault
