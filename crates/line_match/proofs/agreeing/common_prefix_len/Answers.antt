-- One list has no byte left.
use Rattle.std.proofs.Common.{◌≡◌, nat_eq, drop, arith, length-drop}
use Rattle.std.proofs.lemmas.List.Sums.{common_prefix_len-le}
use Rattle.line_match.proofs.agreeing.common_prefix_len.Goals as goal

pub returns-clause-value : goal.returns-clause-value
returns-clause-value c =
    let k = c.loop-k.k in
    let xs = c.args.xs.now in
    let ys = c.args.ys.now in
    let bound = common_prefix_len-le nat_eq (drop k xs) (drop k ys) in
    omega (
      arith,
      c.loop-k.invariant,
      bound.0,
      bound.1,
      length-drop k xs,
      length-drop k ys,
      c.loop-k-test.false,
      c.loop-k.auto.k-end,
      c.min-count.ensures,
    )
