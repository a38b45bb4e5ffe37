-- The four files of a run.
use Rattle.std.proofs.Common.{◌≡◌, ℕ, List, [], ◌∷◌, Vec, length, refl, sym, ◌∙◌}
use Rattle.std.specs.declared.alloc.Global.{Global}
use Rattle.std.proofs.lemmas.List.{length-map}
use Rattle.colo_base.specs.Shelf.{ShelfState}
use Rattle.file_steps.specs.ReadBytes.{texts_of}
use Rattle.file_steps.specs.Reading.{AreRead}

four_read : (s : ShelfState) (a b c d : List ℕ) (texts : List (List ℕ)) → AreRead s (a ∷ (b ∷ (c ∷ (d ∷ [])))) texts
    → length texts ≡ 4
four_read s a b c d [] are = absurd are
four_read s a b c d (w ∷ []) are = absurd are.1
four_read s a b c d (w ∷ (x ∷ [])) are = absurd are.1.1
four_read s a b c d (w ∷ (x ∷ (y ∷ []))) are = absurd are.1.1.1
four_read s a b c d (w ∷ (x ∷ (y ∷ (z ∷ [])))) are = refl
four_read s a b c d (w ∷ (x ∷ (y ∷ (z ∷ (v ∷ rest))))) are = absurd are.1.1.1.1

pub four_files : (s : ShelfState) (a b c d : List ℕ) (files : List (Vec ℕ Global))
    → AreRead s (a ∷ (b ∷ (c ∷ (d ∷ [])))) (texts_of files) → length files ≡ 4
four_files s a b c d files are =
    sym (length-map files (λ (f : Vec ℕ Global). f.items)) ∙ four_read s a b c d (texts_of files) are
