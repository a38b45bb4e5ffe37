-- What is followed and told, frame by frame.
use Rattle.std.proofs.Common.{◌≡◌, ℕ, ◌+◌, List, [], ◌∷◌, ◌++◌, Some, take, slice_get, sym, ap, ◌∙◌}
use Rattle.std.specs.Prelude.{fold}
use Rattle.std.proofs.lemmas.List.{append-nil, append_assoc}
use Rattle.std.proofs.lemmas.List.Sums.{fold_push}
use Rattle.state_wire.proofs.BeginLemmas.{take_one}
use Rattle.colo_wire.specs.declared.messages.Message.{Message}
use Rattle.out_compare.specs.Comparing.{Comparing, take_own}
use Rattle.node_release.specs.Following.{new_numbers, told_of_frame}

pub own_more : (x : Comparing) (frames : List (List ℕ)) (k : ℕ) (frame : List ℕ) → slice_get frames k ≡ Some frame →
    fold take_own x (take (k + 1) frames) ≡ take_own (fold take_own x (take k frames)) frame
own_more x frames k frame e =
    ap (fold take_own x) (take_one frames k frame e) ∙ fold_push take_own x (take k frames) frame

told_push : (x : Comparing) (frames : List (List ℕ)) (frame : List ℕ) →
    new_numbers x (frames ++ frame ∷ []) ≡ new_numbers x frames ++ told_of_frame (fold take_own x frames) frame
told_push x [] frame = append-nil (told_of_frame x frame)
told_push x (f ∷ frames) frame =
    ap (λ (ms : List Message). told_of_frame x f ++ ms) (told_push (take_own x f) frames frame)
    ∙ sym (append_assoc (told_of_frame x f) (new_numbers (take_own x f) frames)
    (told_of_frame (fold take_own (take_own x f) frames) frame))

pub told_more : (x : Comparing) (waits : List Message) (frames : List (List ℕ)) (k : ℕ) (frame : List ℕ) →
    slice_get frames k ≡ Some frame →
    waits ++ new_numbers x (take (k + 1) frames)
    ≡ (waits ++ new_numbers x (take k frames)) ++ told_of_frame (fold take_own x (take k frames)) frame
told_more x waits frames k frame e =
    ap (λ (xs : List (List ℕ)). waits ++ new_numbers x xs) (take_one frames k frame e)
    ∙ (ap (λ (ms : List Message). waits ++ ms) (told_push x (take k frames) frame)
    ∙ sym (append_assoc waits (new_numbers x (take k frames))
    (told_of_frame (fold take_own x (take k frames)) frame)))
