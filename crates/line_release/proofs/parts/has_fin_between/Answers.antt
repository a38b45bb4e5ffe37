-- FIN stands after the bytes.
use Rattle.std.proofs.Common.{◌≡◌, ℕ, ◌&&◌, nat_le, nat_lt, Bool, sym, ap, subst, ◌∙◌}
use Rattle.tcp_track.specs.LineFields.{LineFields, IsWithin, bytes_end}
use Rattle.line_release.proofs.PartLemmas.{fin_between-is}
use Rattle.line_release.proofs.parts.has_fin_between.Goals as goal

pub returns : goal.returns
returns c =
    let l : LineFields = c.args.line.now in
    let within : IsWithin l = subst IsWithin c.line.view_is c.line.invariant in
    c.is_fin_between.ensures
    ∙ (ap (λ (n : ℕ). c.line.inside.fin && (nat_le c.args.from n && nat_lt n c.args.to)) c.bytes_end-end.ensures.value
    ∙ (ap (λ (k : LineFields). k.fin && (nat_le c.args.from (bytes_end l) && nat_lt
    (bytes_end l) c.args.to)) c.line.view_is
    ∙ fin_between-is l c.args.from c.args.to within c.requires))
