-- The files before this one were created.
use Rattle.std.proofs.Common.{take, flat_map, ◌∷◌, []}
use Rattle.file_steps.specs.Steps as step
use Rattle.file_steps.specs.Steps.{Writes}
use Rattle.file_steps.proofs.files.create_all.Given as goal

abbrev pub invariant-loop-end : goal.invariant-loop-end
invariant-loop-end g l =
    Writes l.out (flat_map (λ end. step.create end.now ∷ []) (take l.end-index l.ends))
    (g.S.Shelf.state l.initial.shelf) (g.S.Shelf.state l.shelf)
