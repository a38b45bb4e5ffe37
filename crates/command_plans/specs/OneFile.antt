-- A command that writes one file, which has the name that the words give.
use Rattle.std.specs.Prelude.{ℕ, List, [], ◌∷◌}
use Rattle.file_steps.specs.Steps.{Step, append_step, create}

abbrev pub one_file : List ℕ → List Step
one_file bytes = create [] ∷ append_step [] bytes
