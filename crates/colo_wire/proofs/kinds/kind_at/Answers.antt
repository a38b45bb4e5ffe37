use Rattle.std.proofs.Common.{◌≡◌, ◌-◌, false, eqb, Some, None, refl, sym, ◌∙◌}
use Rattle.std.specs.Prelude.{slice_get}
use Rattle.std.proofs.lemmas.Bool.{cond-false, ne_eqb}
use Rattle.std.proofs.lemmas.Option.{slice_get_read}
use Rattle.colo_wire.specs.Kinds.{kinds}
use Rattle.colo_wire.proofs.kinds.kind_at.Goals as goal

pub returns : goal.returns
returns c =
    let n = c.args.number in
    let look = c.in_ok-kind.ensures.lookup in
    let some : eqb n 0 ≡ false = ne_eqb n 0 c.if-number-eq0.false in
    let read : slice_get kinds (n - 1) ≡ Some c.in_ok-kind.kind.now =
    slice_get_read kinds 14 (n - 1) c.in_ok-kind.kind.now refl look.3.0 look.1 in
    sym (cond-false (eqb n 0) None (slice_get kinds (n - 1)) some ∙ read)
