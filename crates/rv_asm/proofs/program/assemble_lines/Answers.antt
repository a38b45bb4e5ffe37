use Rattle.std.proofs.Common.{◌≡◌, ℕ, suc, List, ◌∷◌, map, drop, ap, sym, ◌∙◌, arith}
use Rattle.std.proofs.lemmas.Result.{err_from_is_err_and}
use mathlib.Core.Path.{fun_ext}
use Rattle.rv_asm.specs.Labels.{place_in}
use Rattle.rv_asm.specs.Lines.{line_of, word_count, place_of}
use Rattle.rv_asm.proofs.ProgramLemmas.{line_at, line_end, read_more, read_fault, read_all}
use Rattle.rv_asm.proofs.program.assemble_lines.Goals as goal

pub loop-index-preserved : goal.loop-index-preserved
loop-index-preserved c =
    let lines = map (λ line. line.now) c.args.lines.now in
    let i = c.loop-index.index in
    let text = c.as_bytes-text.result.now in
    let cons : drop i lines ≡ text ∷ drop (suc i) lines = line_at c.args.lines.now i _ c.loop-index-test.true
    ∙ ap (λ (t : List ℕ). t ∷ drop (suc i) lines) (sym c.as_bytes-text.ensures.value) in
    let count : c.word_count-here.result ≡ word_count (line_of text).statement = c.word_count-here.ensures.count
    ∙ ap word_count c.line_of.ensures.statement in
    record {
      small = omega (arith, c.word_count-here.ensures.small);
      read = rw count (read_more (place_in c.in_ok-labels.labels) lines i c.loop-index.here text
          c.loop-index.bytes.items _ cons c.in_ok-push_line.ensures.written c.loop-index.invariant.read);
    }

pub returns-in_err-push_line-clause-fault : goal.returns-in_err-push_line-clause-fault
returns-in_err-push_line-clause-fault c =
    let lines = map (λ line. line.now) c.args.lines.now in
    let i = c.loop-index.index in
    let text = c.as_bytes-text.result.now in
    let cons : drop i lines ≡ text ∷ drop (suc i) lines = line_at c.args.lines.now i _ c.loop-index-test.true
    ∙ ap (λ (t : List ℕ). t ∷ drop (suc i) lines) (sym c.as_bytes-text.ensures.value) in
    let same : place_of lines ≡ place_in c.in_ok-labels.labels = fun_ext (λ name. sym
    (c.in_ok-labels.ensures.places name)) in
    let p = err_from_is_err_and c.from_residual-in_err-push_line.result c.from_residual-in_err-push_line.ensures.1 in
    rw (p.1, p.2) (read_fault (place_in c.in_ok-labels.labels) lines i c.loop-index.here text
    c.loop-index.bytes.items c.in_err-push_line.field-0.0 cons same c.in_err-push_line.ensures.fault
    c.loop-index.invariant.read)

pub returns-clause-words : goal.returns-clause-words
returns-clause-words c =
    let lines = map (λ line. line.now) c.args.lines.now in
    let same : place_of lines ≡ place_in c.in_ok-labels.labels = fun_ext (λ name. sym
    (c.in_ok-labels.ensures.places name)) in
    read_all (place_in c.in_ok-labels.labels) lines c.loop-index.index c.loop-index.here c.loop-index.bytes.items
    (line_end c.args.lines.now c.loop-index.index c.loop-index-test.false) same c.loop-index.invariant.read
