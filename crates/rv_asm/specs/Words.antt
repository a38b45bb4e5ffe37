-- The words of a statement as the code keeps them.
use Rattle.std.specs.Prelude.{ℕ, List, [], ◌∷◌}
use Rattle.rv_asm.specs.declared.statements.Words.{Words}
use Rattle.rv_asm.specs.declared.statements.Words.TheVariants.{One, Two}

abbrev pub words_of : Words → List ℕ
words_of (One word) = word ∷ []
words_of (Two first second) = first ∷ second ∷ []
