-- One frame more has been appended.
use Rattle.std.proofs.Common.{◌++◌, ◌∷◌, [], take, ap, sym, ◌∙◌}
use Rattle.std.proofs.lemmas.List.{append_assoc}
use Rattle.state_wire.proofs.BeginLemmas.{take_one}
use Rattle.state_wire.proofs.script.append_all.Goals as goal

pub loop-k-preserved : goal.loop-k-preserved
loop-k-preserved c =
    let frame = c.in-Some.frame.now in
    let more = take_one c.args.frames.now c.loop-k.k frame (sym c.in-Some.ensures) in
    c.in_ok-push.ensures.ok
    ∙ (ap (λ out. out ++ frame ∷ []) c.loop-k.invariant
    ∙ (append_assoc c.args.out.now (take c.loop-k.k c.args.frames.now) (frame ∷ [])
    ∙ ap (λ list. c.args.out.now ++ list) (sym more)))
