use Rattle.std.proofs.Common.{◌≡◌, ℕ, ◌<◌, false, get_or}
use Rattle.rv_forms.specs.Mnemonics.{fits}
use Rattle.rv_forms.proofs.TableLemmas.{Row, view}
use Rattle.rv_forms.proofs.mnemonics.row_that_fits.Given as goal

abbrev pub invariant-loop-name : goal.invariant-loop-name
invariant-loop-name l = (k : ℕ) (d : Row) → k < l.name-index → fits (view (get_or l.rows k d)) l.word ≡ false
