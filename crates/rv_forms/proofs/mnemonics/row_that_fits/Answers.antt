use Rattle.std.proofs.Common.{◌∙◌, ap, sym, Some, arith}
use Rattle.std.proofs.lemmas.Bool.{eq-eqb}
use Rattle.rv_forms.specs.Mnemonics.{Mnemonic, fits}
use Rattle.rv_forms.proofs.TableLemmas.{find_first, find_none}
use Rattle.rv_forms.proofs.mnemonics.row_that_fits.Goals as goal

pub returns-then-word-mask_of : goal.returns-then-word-mask_of
returns-then-word-mask_of c =
    ap (λ (m : Mnemonic). Some m) c.mnemonic_of_row.ensures
    ∙ sym (find_first (λ m. fits m c.args.word) c.args.rows.now c.loop-name.name-index _ c.loop-name.invariant
    c.loop-name-test.true (eq-eqb _ _ (rw c.mask_of.ensures at c.if-word-mask_of.true)))

pub returns : goal.returns
returns c = sym (find_none (λ m. fits m c.args.word) c.args.rows.now (λ k e below. c.loop-name.invariant k e
    (omega arith)))
