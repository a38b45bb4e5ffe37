use Rattle.std.proofs.Common.{◌≡◌, ◌≤◌, take}
use Rattle.std.specs.Str.Parse.{digits_value}
use Rattle.ascii_text.proofs.numbers.value_within.Given as goal

abbrev pub invariant-loop-byte : goal.invariant-loop-byte
invariant-loop-byte l = record {
  small : l.value ≤ l.most;
  value : l.value ≡ digits_value l.base (take l.byte-index l.digits);
}
