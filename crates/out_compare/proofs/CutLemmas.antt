-- A list cut to its old length is the old list again.
use Rattle.std.proofs.Common.{◌≡◌, ℕ, List, length, take, ap, ◌∙◌}
use Rattle.std.proofs.Math.Seq.{take-append_seam}
use Rattle.shared_definitions.specs.Begins.{Begins}

pub cut_again : (old new : List (List ℕ)) → Begins old new → take (length old) new ≡ old
cut_again old new begins = ap (take (length old)) begins.1 ∙ take-append_seam old begins.0
