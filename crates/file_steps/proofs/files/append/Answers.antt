-- There is a byte to write.
use Rattle.std.proofs.Common.{List, subst, sym, ◌∙◌, OnOk, IfErr}
use Rattle.file_steps.specs.Steps.{FailsToWrite, Step, Writes}
use Rattle.file_steps.proofs.WriteLemmas.{append_some}
use Rattle.file_steps.proofs.files.append.Goals as goal

pub returns-clause-done : goal.returns-clause-done
returns-clause-done g c =
    let P : List Step → Type 0 = λ steps. OnOk c.append_some.result (Writes c.args.out.now steps
    (g.S.Shelf.state c.args.shelf.now) (g.S.Shelf.state c.append_some.new.shelf)) in
    subst P (append_some c.args.end.now c.args.bytes.now (sym c.is_empty.ensures ∙ c.if-is_empty.false))
    c.append_some.ensures.done

pub returns-clause-fails : goal.returns-clause-fails
returns-clause-fails g c =
    let P : List Step → Type 0 = λ steps. IfErr c.append_some.result (FailsToWrite c.args.out.now steps
    (g.S.Shelf.state c.args.shelf.now) (g.S.Shelf.state c.append_some.new.shelf)) in
    subst P (append_some c.args.end.now c.args.bytes.now (sym c.is_empty.ensures ∙ c.if-is_empty.false))
    c.append_some.ensures.fails
