-- The log was read, its plan made, and the file written.
use Rattle.std.proofs.Common.{[], ◌∷◌, List, ℕ, ap, string_bytes, subst, sym, ◌∙◌}
use Rattle.std.proofs.lemmas.Result.{err_from_is_err_and}
use Rattle.command_plans.specs.OneFile.{one_file}
use Rattle.file_steps.specs.Steps.{FailsToWrite, Writes}
use Rattle.command_plans.specs.Planning.{IsRefusal}
use Rattle.command_plans.specs.Splice.{splice_plan, splice_texts}
use Rattle.command_plans.proofs.TextLemmas.{read_fails, refusal_fails, then_done, then_fails}
use Rattle.command_plans.proofs.splice.write_splice.Goals as goal

pub returns-in_err-text-clause-fails : goal.returns-in_err-text-clause-fails
returns-in_err-text-clause-fails g c =
    let p = err_from_is_err_and c.from_residual.result c.from_residual.ensures.1 in
    rw (p.1, p.2)
    (read_fails (c.args.log.now ∷ []) c.args.out.now splice_texts (g.S.Shelf.state c.args.shelf.now)
    (g.S.Shelf.state c.read_text.new.shelf) c.in_err-text.field-0.0 c.in_err-text.ensures.fails)

pub returns-in_err-plan-clause-fails : goal.returns-in_err-plan-clause-fails
returns-in_err-plan-clause-fails g c =
    let p = err_from_is_err_and c.from_residual-in_err-plan.result c.from_residual-in_err-plan.ensures.1 in
    let R : List ℕ → Type 0 = λ text. IsRefusal (splice_plan text) c.in_err-plan.field-0.0 in
    rw (p.1, p.2)
    (refusal_fails (c.args.log.now ∷ []) c.args.out.now splice_texts (g.S.Shelf.state c.args.shelf.now)
    (g.S.Shelf.state c.read_text.new.shelf) (c.in_ok-text.text.items ∷ []) c.in_ok-text.ensures.read
    c.in_ok-text.ensures.untouched c.in_err-plan.field-0.0
    (subst R c.deref.ensures.value c.in_err-plan.ensures.refused))

pub returns-in_err-write_file-clause-fails : goal.returns-in_err-write_file-clause-fails
returns-in_err-write_file-clause-fails g c =
    let p = err_from_is_err_and c.from_residual-in_err-write_file.result c.from_residual-in_err-write_file.ensures.1 in
    let line = string_bytes c.in_ok-plan.plan.line in
    let bytes = c.in_ok-plan.plan.bytes.items in
    let fault = c.in_err-write_file.field-0.0 in
    let old = g.S.Shelf.state c.args.shelf.now in
    let mid = g.S.Shelf.state c.read_text.new.shelf in
    let new = g.S.Shelf.state c.write_file.new.shelf in
    let F : List ℕ → Type 0 = λ bs. FailsToWrite c.args.out.now (one_file bs) mid new fault in
    rw (p.1, p.2)
    (then_fails (c.args.log.now ∷ []) c.args.out.now splice_texts (c.in_ok-text.text.items ∷ []) old mid new
    c.in_ok-text.ensures.read c.in_ok-text.ensures.untouched (one_file bytes) line
    (ap splice_plan (sym c.deref.ensures.value) ∙ c.in_ok-plan.ensures.plan) fault
    (subst F c.deref-2.ensures.value c.in_err-write_file.ensures.fails))

pub returns-clause-done : goal.returns-clause-done
returns-clause-done g c =
    let line = string_bytes c.in_ok-plan.plan.line in
    let bytes = c.in_ok-plan.plan.bytes.items in
    let old = g.S.Shelf.state c.args.shelf.now in
    let mid = g.S.Shelf.state c.read_text.new.shelf in
    let new = g.S.Shelf.state c.write_file.new.shelf in
    let W : List ℕ → Type 0 = λ bs. Writes c.args.out.now (one_file bs) mid new in
    then_done (c.args.log.now ∷ []) c.args.out.now splice_texts (c.in_ok-text.text.items ∷ []) old mid new
    c.in_ok-text.ensures.read c.in_ok-text.ensures.untouched (one_file bytes) line
    (ap splice_plan (sym c.deref.ensures.value) ∙ c.in_ok-plan.ensures.plan)
    (subst W c.deref-2.ensures.value c.in_ok-write_file.ensures.done)
