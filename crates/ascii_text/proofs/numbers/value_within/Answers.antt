use Rattle.std.proofs.Common.{◌≡◌, ◌+◌, ◌*◌, ◌<◌, get_or, arith, sym}
use Rattle.std.specs.Char.{digit_value}
use Rattle.ascii_text.proofs.ValueLemmas.{still_large, with_more}
use Rattle.ascii_text.proofs.numbers.value_within.Goals as goal

pub returns-in_default : goal.returns-in_default
returns-in_default c =
    let digit : c.digit_value.result ≡ digit_value
    (get_or c.args.digits.now c.loop-byte.byte-index 0) = c.digit_value.ensures in
    let large : c.args.most < c.loop-byte.value * c.args.base + c.digit_value.result = omega (
      arith,
      c.in_default.ensures,
    ) in
    sym (still_large c.args.base c.args.most c.args.digits.now c.loop-byte.byte-index c.loop-byte.value c.requires
    c.loop-byte-test.true c.loop-byte.invariant.value (rw digit at large))

pub loop-byte-preserved : goal.loop-byte-preserved
loop-byte-preserved c = record {
  small = omega (arith, c.in-Some.ensures.0, c.in-Some.ensures.1);
  value = with_more c.args.base c.args.digits.now c.loop-byte.byte-index c.loop-byte.value c.digit_value.result
      c.in-Some.number c.loop-byte-test.true c.loop-byte.invariant.value c.digit_value.ensures c.in-Some.ensures.1;
}
