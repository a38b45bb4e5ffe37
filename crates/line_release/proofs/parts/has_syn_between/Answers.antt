-- SYN stands at offset 0 of a line with an opening.
use Rattle.std.proofs.Common.{◌≡◌, ◌&&◌, ◌==◌, not, is_some, Bool, sym, ap, subst, ◌∙◌}
use Rattle.tcp_track.specs.LineFields.{LineFields, IsWithin}
use Rattle.line_release.proofs.PartLemmas.{syn_between-is}
use Rattle.line_release.proofs.parts.has_syn_between.Goals as goal

pub returns : goal.returns
returns c =
    let l : LineFields = c.args.line.now in
    let within : IsWithin l = subst IsWithin c.line.view_is c.line.invariant in
    let opened : c.is_some.result ≡ is_some l.opening = c.is_some.ensures
    ∙ ap (λ (k : LineFields). is_some k.opening) c.line.view_is in
    c.is_syn_between.ensures ∙ (ap (λ (b : Bool). b && (c.args.from == 0 && not (c.args.to == 0))) opened
    ∙ syn_between-is l c.args.from c.args.to within c.requires)
