-- The files before this one were read.
use Rattle.std.proofs.Common.{take, map}
use Rattle.file_steps.specs.Reading.{AreRead, IsUntouched}
use Rattle.file_steps.specs.ReadBytes.{texts_of}
use Rattle.file_steps.proofs.input.read_all.Given as goal

abbrev pub invariant-loop-name : goal.invariant-loop-name
invariant-loop-name g l =
    AreRead (g.S.Shelf.state l.initial.shelf) (map (λ name. name.now) (take l.name-index l.names))
    (texts_of l.files.items)
    × IsUntouched (g.S.Shelf.state l.initial.shelf) (g.S.Shelf.state l.shelf)
