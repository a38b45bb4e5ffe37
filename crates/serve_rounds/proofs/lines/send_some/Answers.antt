-- There is a byte to send.
use Rattle.std.proofs.Common.{List, subst, sym, ◌∙◌, OnOk, IfErr}
use Rattle.file_steps.specs.Steps.{Done, Fails, Step, nothing, outside}
use Rattle.serve_rounds.proofs.LineLemmas.{send_more}
use Rattle.serve_rounds.proofs.lines.send_some.Goals as goal

pub returns-clause-done : goal.returns-clause-done
returns-clause-done g c = λ out s k.
    let P : List Step → Type 0 = λ steps. OnOk c.send.result (Done out steps nothing
    (outside s (g.L.Link.state c.args.link.now) k) (outside s (g.L.Link.state c.send.new.link) k)) in
    subst P (send_more c.args.bytes.now (sym c.is_empty.ensures ∙ c.if-is_empty.false)) (c.send.ensures.done out s k)

pub returns-clause-fails : goal.returns-clause-fails
returns-clause-fails g c = λ out s k.
    let P : List Step → Type 0 = λ steps. IfErr c.send.result (Fails out steps nothing
    (outside s (g.L.Link.state c.args.link.now) k) (outside s (g.L.Link.state c.send.new.link) k)) in
    subst P (send_more c.args.bytes.now (sym c.is_empty.ensures ∙ c.if-is_empty.false)) (c.send.ensures.fails out s k)
