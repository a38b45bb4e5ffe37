use Rattle.std.proofs.Common.{◌∙◌, true, false, ap}
use Rattle.std.proofs.lemmas.Result.{err_from_is_err_and}
use Rattle.elf_load.specs.Boot.{can_start}
use Rattle.elf_load.proofs.CaseLemmas.{case_of_file, case_of_segments, case_of_entry}
use Rattle.elf_load.proofs.boot.check.Goals as goal

pub returns-in_err-check_file-clause-first_case : goal.returns-in_err-check_file-clause-first_case
returns-in_err-check_file-clause-first_case c =
    let p = err_from_is_err_and c.from_residual.result c.from_residual.ensures.1 in
    rw (p.1, p.2) (case_of_file c.args.size c.args.bytes.now _ c.in_err-check_file.ensures.cases)

pub returns-in_err-check_segments-clause-first_case :
    goal.returns-in_err-check_segments-clause-first_case
returns-in_err-check_segments-clause-first_case c =
    let call = c.from_residual-in_err-check_segments in
    let p = err_from_is_err_and call.result call.ensures.1 in
    rw (p.1, p.2)
    (case_of_segments c.args.size c.args.bytes.now _ c.in_ok-check_file.ensures.cases
    c.in_err-check_segments.ensures.err)

pub returns-then-not-can_start-clause-first_case :
    goal.returns-then-not-can_start-clause-first_case
returns-then-not-can_start-clause-first_case c =
    case_of_entry c.args.size c.args.bytes.now false c.in_ok-check_file.ensures.cases
    c.in_ok-check_segments.ensures.no_overrun c.in_ok-check_segments.ensures.inside c.in_ok-check_segments.ensures.some
    (c.if-not-can_start.ensures ∙ ap (can_start c.args.size) c.entry-entry.ensures)

pub returns-clause-no_case : goal.returns-clause-no_case
returns-clause-no_case c =
    case_of_entry c.args.size c.args.bytes.now true c.in_ok-check_file.ensures.cases
    c.in_ok-check_segments.ensures.no_overrun c.in_ok-check_segments.ensures.inside c.in_ok-check_segments.ensures.some
    (c.if-not-can_start.ensures ∙ ap (can_start c.args.size) c.entry-entry.ensures)
