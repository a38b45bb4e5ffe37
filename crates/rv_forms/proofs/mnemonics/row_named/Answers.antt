use Rattle.std.proofs.Common.{Ok, Err, ◌∙◌, ap, sym, Some, rules}
use Rattle.std.proofs.lemmas.Fn.{always_returns_same}
use Rattle.std.specs.Cmp.Lexicographic.{slice_cmp}
use Rattle.std.specs.Ordering.{nat_cmp}
use Rattle.rv_forms.specs.Mnemonics.{Mnemonic}
use Rattle.rv_forms.proofs.TableLemmas.{Row, searched, row_fixed, table_rises}
use Rattle.rv_forms.proofs.mnemonics.row_named.Goals as goal

pub mnemonic_of_row-requires : goal.mnemonic_of_row-requires
mnemonic_of_row-requires c = row_fixed c.args.rows.now c.in-Ok.index _ c.requires c.in-Ok.ensures.bound

pub returns-in-Ok : goal.returns-in-Ok
returns-in-Ok c =
    let by_name = c.in-Ok.ensures.position (λ (y : Row). slice_cmp nat_cmp y.0.now c.args.name.now)
    (always_returns_same _ _ _ (λ a r g called. search rules)) in
    ap (λ (m : Mnemonic). Some m) c.mnemonic_of_row.ensures
    ∙ sym (searched c.args.rows.now c.args.name.now (Ok c.in-Ok.index)
    (table_rises c.args.rows.now c.requires) c.in-Ok.ensures.bound by_name _)

pub returns-in-Err : goal.returns-in-Err
returns-in-Err c =
    let by_name = c.in-Err.ensures.position (λ (y : Row). slice_cmp nat_cmp y.0.now c.args.name.now)
    (always_returns_same _ _ _ (λ a r g called. search rules)) in
    sym (searched c.args.rows.now c.args.name.now (Err c.in-Err.field-0)
    (table_rises c.args.rows.now c.requires) c.in-Err.ensures.bound by_name)
