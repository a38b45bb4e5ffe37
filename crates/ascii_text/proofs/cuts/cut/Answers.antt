use Rattle.std.proofs.Common.{◌≡◌, ◌+◌, ◌-◌, length, take, drop, add-one, arith}
use Rattle.std.proofs.lemmas.List.{take_all, length-drop}
use Rattle.ascii_text.proofs.CutLemmas.{cut_at, cut_none}
use Rattle.ascii_text.proofs.cuts.cut.Goals as goal

pub returns-then-byte-at-clause-before : goal.returns-then-byte-at-clause-before
returns-then-byte-at-clause-before c = rw
    (cut_at c.args.at c.args.text.now c.loop-index.index c.loop-index.invariant c.loop-index-test.true
    c.if-byte-at.true)

pub returns-then-byte-at-clause-after : goal.returns-then-byte-at-clause-after
returns-then-byte-at-clause-after c =
    let text = c.args.text.now in
    let k = c.loop-index.index in
    let whole : take (length text - (k + 1)) (drop (k + 1) text) ≡ drop (k + 1) text = take_all _ _ (omega (
      arith,
      length-drop (k + 1) text,
    )) in
    rw (whole, cut_at c.args.at text k c.loop-index.invariant c.loop-index-test.true c.if-byte-at.true, add-one)

pub returns-clause-before : goal.returns-clause-before
returns-clause-before c = rw (cut_none c.args.at c.args.text.now (λ k lt. c.loop-index.invariant k (omega arith)))

pub returns-clause-after : goal.returns-clause-after
returns-clause-after c = rw (cut_none c.args.at c.args.text.now (λ k lt. c.loop-index.invariant k (omega arith)))
