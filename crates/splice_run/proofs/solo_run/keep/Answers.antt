-- What is kept of a frame of bytes is clean.
use Rattle.std.proofs.Common.{◌≡◌, arith, rules}
use Rattle.frame_mirror.specs.Accepted.{entry_of}
use Rattle.frame_mirror.specs.declared.ingress.Entry.TheVariants.{Frame}
use Rattle.frame_mirror.proofs.AcceptLemmas.{accepted_is_kept}
use Rattle.splice_run.proofs.solo_run.keep.Goals as goal

pub returns-in-Frame-clause-clean : goal.returns-in-Frame-clause-clean
returns-in-Frame-clause-clean c =
    let accepted : entry_of c.args.frame.now ≡ Frame c.in-Frame.kept = search rules in
    accepted_is_kept c.args.frame.now c.in-Frame.kept (λ k. omega (arith, c.type_inv.frame k)) accepted
