-- No symbol stands at 2^31 or after it.
use Rattle.std.proofs.Common.{◌≡◌, ℕ, ◌+◌, ◌^◌, ◌≤◌, Bool, true, false, ◌==◌, max, refl, sym, ap, ◌∙◌, arith}
use Rattle.std.proofs.lemmas.Bool.{eqb-true}
use Rattle.line_match.specs.Rest.{one_if}
use Rattle.line_match.proofs.agreeing.agreed_from.Goals as goal

first_fits : (n : ℕ) → n + one_if (n == 0) ≤ max n 1
first_fits n = by (n == 0) refl
  where
    by : (b : Bool) → (n == 0) ≡ b → n + one_if b ≤ max n 1
    by true p = omega (arith, eqb-true n 0 p)
    by false p = omega arith

end_fits : (n : ℕ) (b : Bool) → (b ≡ true → n ≤ 2 ^ 31) → n + one_if b ≤ max n (2 ^ 31 + 1)
end_fits n true h = let low = h refl in omega (arith, low)
end_fits n false h = omega arith

at_most_one : (b : Bool) → one_if b ≤ 1
at_most_one true = omega arith
at_most_one false = omega arith

pub returns-clause-fits : goal.returns-clause-fits
returns-clause-fits c =
    let n = c.args.offset in
    omega (
      arith,
      c.one_if-syn.ensures,
      first_fits n,
      c.agreed_bytes.ensures.within,
      c.bytes_from.ensures.within,
      at_most_one c.ends_from-ends.result,
      end_fits n c.ends_from-ends.result c.ends_from-ends.ensures.within,
    )
