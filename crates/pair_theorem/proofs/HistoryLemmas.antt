-- One line more: a log of more lines begins with the log of the first ones, and so does the past after them.
use Rattle.std.proofs.Common.{◌≡◌, ℕ, List, [], ◌∷◌, ◌++◌, refl, ap}
use Rattle.state_wire.specs.Guest.{Kind}
use Rattle.pair_theorem.specs.Events.{outcome_of}
use Rattle.pair_theorem.specs.History.{pair_log, past_from, steps_from}
use Rattle.replay_log.specs.declared.lines.Line.{Line}
use Rattle.pair_theorem.specs.Past.{Past, Start, Step, first_past}

pub past_from-append : (kind : Kind) (stream : List (List ℕ)) (past : Past) (xs ys : List Line)
    → past_from kind stream past (xs ++ ys) ≡ past_from kind stream (past_from kind stream past xs) ys
unfolding past_from
past_from-append kind stream past [] ys = refl
past_from-append kind stream past (x ∷ xs) ys = past_from-append kind stream (outcome_of kind stream past x).after xs ys

pub steps_from-append : (kind : Kind) (stream : List (List ℕ)) (past : Past) (xs ys : List Line)
    → steps_from kind stream past (xs ++ ys)
    ≡ steps_from kind stream past xs ++ steps_from kind stream (past_from kind stream past xs) ys
unfolding steps_from past_from
steps_from-append kind stream past [] ys = refl
steps_from-append kind stream past (x ∷ xs) ys =
    ap (λ (steps : List Step). (outcome_of kind stream past x).step ∷ steps)
    (steps_from-append kind stream (outcome_of kind stream past x).after xs ys)

-- a log's front is the log of a front of the schedule
pub pair_log-append : (a : Start) (xs ys : List Line)
    → pair_log a (xs ++ ys)
    ≡ pair_log a xs ++ steps_from a.kind a.stream (past_from a.kind a.stream (first_past a) xs) ys
unfolding pair_log
pair_log-append a xs ys = steps_from-append a.kind a.stream (first_past a) xs ys
