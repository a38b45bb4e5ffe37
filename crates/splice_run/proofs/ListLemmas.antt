-- Lists of frames that begin with another.
use Rattle.std.proofs.Common.{◌≡◌, ℕ, List, ◌++◌, length, drop, sym, ap, ◌∙◌}
use Rattle.std.proofs.lemmas.List.{append_assoc, take-append-drop}
use Rattle.std.proofs.Math.Seq.{take-length}
use Rattle.state_wire.proofs.BeginLemmas.{begins_with}
use Rattle.state_wire.specs.Guest.{BeginsWith}

pub begins_itself : (frames : List (List ℕ)) → BeginsWith frames frames
begins_itself frames = take-length frames

-- what begins with a list that begins with another begins with that
pub begins_through : (a b c : List (List ℕ)) → BeginsWith b a → BeginsWith c b → BeginsWith c a
begins_through a b c p q =
    let d = drop (length a) b in
    let rest = drop (length b) c in
    let first : a ++ d ≡ b =
    ap (λ (xs : List (List ℕ)). xs ++ d) (sym p) ∙ take-append-drop (length a) b in
    let second : b ++ rest ≡ c =
    ap (λ (xs : List (List ℕ)). xs ++ rest) (sym q) ∙ take-append-drop (length b) c in
    begins_with c a (d ++ rest)
    (sym second ∙ (ap (λ (xs : List (List ℕ)). xs ++ rest) (sym first) ∙ append_assoc a d rest))
