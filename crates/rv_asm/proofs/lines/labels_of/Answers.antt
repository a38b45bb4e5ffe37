use Rattle.std.proofs.Common.{◌≡◌, ℕ, suc, ◌+◌, List, Option, map, drop, add-one, ap, sym, ◌∙◌, arith}
use Rattle.std.specs.Option.{option_copied, option_or}
use Rattle.rv_asm.specs.declared.places.Place.{Place}
use Rattle.rv_asm.specs.Labels.{place_in, with_label}
use Rattle.rv_asm.specs.Lines.{line_of, word_count, place_from}
use Rattle.rv_asm.proofs.LabelLemmas.{from_here, label_step, from_line, from_end, or_none}
use Rattle.rv_asm.proofs.lines.labels_of.Goals as goal

pub loop-index-preserved : goal.loop-index-preserved
loop-index-preserved c =
    let lines = map (λ line. line.now) c.args.lines.now in
    let i = c.loop-index.index in
    let here = c.loop-index.words in
    let known = place_in c.loop-index.labels in
    let text = c.as_bytes.result.now in
    let is_text = c.as_bytes.ensures.value in
    let place : Place = record { line = i; words = here } in
    let label : option_copied c.line_of-line.result.label ≡ (line_of text).label = c.line_of-line.ensures.label in
    let count : c.word_count-words.result ≡ word_count
    (line_of text).statement = c.word_count-words.ensures.count
    ∙ ap word_count c.line_of-line.ensures.statement in
    record {
      small = omega (arith, c.word_count-words.ensures.small);
      known = λ name.
          let later : ℕ → Option Place = λ n. place_from (drop (i + 1) lines) (i + 1) (here + n) name in
          let later_lines : ℕ → Option Place = λ n. place_from (drop n lines) (i + 1) (here + word_count
          (line_of text).statement) name in
          let from : place_from (drop i lines) i here name ≡ from_here (line_of text).label i here name
          (later_lines (suc i)) = from_line c.args.lines.now i here name _ c.loop-index-test.true
          ∙ ap (λ (t : List ℕ). from_here (line_of t).label i here name (place_from (drop (suc i) lines)
          (i + 1) (here + word_count (line_of t).statement) name)) (sym is_text) in
          ap (λ (p : Option Place). option_or p (later c.word_count-words.result)) (c.in_ok-add_label.ensures name)
          ∙ (ap (λ (n : ℕ). option_or (with_label (option_copied c.line_of-line.result.label) place known name)
          (later n)) count
          ∙ (ap (λ (l : Option (List ℕ)). option_or (with_label l place known name) (later_lines (i + 1))) label
          ∙ (label_step (line_of text).label place known (later_lines (i + 1)) name
          ∙ (ap (λ (n : ℕ). option_or (known name) (from_here (line_of text).label i here name (later_lines n)))
          (add-one i)
          ∙ (ap (λ (p : Option Place). option_or (known name) p) (sym from)
          ∙ c.loop-index.invariant.known name)))));
    }

pub returns : goal.returns
returns c = record {
  places = λ name.
      sym (or_none (place_in c.loop-index.labels name))
      ∙ (ap (λ (p : Option Place). option_or (place_in c.loop-index.labels name) p) (sym
      (from_end c.args.lines.now c.loop-index.index c.loop-index.words name c.loop-index-test.false))
      ∙ c.loop-index.invariant.known name);
}
