-- Steps are counted one after the other.
use Rattle.std.proofs.Common.{◌≡◌, ℕ, ◌+◌, List, [], ◌∷◌, ◌++◌, length, refl, sym, ap, ◌∙◌, arith}
use Rattle.std.specs.Prelude.{sum_by}
use Rattle.std.proofs.lemmas.List.{length-append, length-map}
use Rattle.std.proofs.lemmas.List.Sums.{sum_by-append, sum_by-cons}
use Rattle.settle_rules.specs.Release.{released_frame}
use Rattle.replay_log.specs.declared.records.Record.{Record}
use Rattle.command_plans.specs.Replay.{captures_by, count}
use Rattle.command_plans.specs.Steps.{counts_line}
use Rattle.command_plans.specs.declared.replay.Counts.{Counts}
use Rattle.pair_core.specs.declared.pair.Step.{Step as HeldStep}
use Rattle.pair_theorem.specs.Past.{Step}
use Rattle.pair_world.specs.Running.{TellsAs}
use Rattle.replay_plan.specs.LogPlan.{captured_by, log_line, released_by}
use Rattle.replay_plan.specs.Running.{IsCounted}

count_more : (a b : ℕ) → count (count a + b) ≡ count (a + b)
count_more a b = omega arith

count_both : (a b : ℕ) → count (count a + count b) ≡ count (a + b)
count_both a b = omega arith

sum_more : (f : Step → ℕ) (steps : List Step) (s : Step) → sum_by f (steps ++ s ∷ []) ≡ sum_by f steps + f s
sum_more f steps s =
    sum_by-append f steps (s ∷ []) ∙ ap (λ n. sum_by f steps + n) (sum_by-cons f s [] ∙ omega arith)

pub counted_none : (counts : Counts) → counts.lines ≡ 0 → counts.released ≡ 0 → counts.captured ≡ 0
    → IsCounted [] counts
counted_none counts lines released captured =
    record { lines = lines; released = released; captured = captured }

-- a step more: its frames are those that it tells, and so are its marks
pub counted_more : (steps : List Step) (s : Step) (made : HeldStep) (old new : Counts) → IsCounted steps old
    → TellsAs s made → new.lines ≡ old.lines + 1 → new.released ≡ count (old.released + length made.released)
    → new.captured ≡ count (old.captured + count (sum_by captures_by made.entry.marks))
    → IsCounted (steps ++ s ∷ []) new
counted_more steps s made old new h tells lines released captured =
    let frames : length made.released ≡ released_by s =
    ap (λ (fs : List (List ℕ)). length fs) tells.released ∙ length-map s.released released_frame in
    let marks : sum_by captures_by made.entry.marks ≡ captured_by s =
    ap (λ (r : Record). sum_by captures_by r.marks) tells.entry in
    record {
      lines = lines ∙ omega (arith, h.lines, length-append steps (s ∷ []));
      released = released
          ∙ (ap (λ n. count (old.released + n)) frames
          ∙ (ap (λ n. count (n + released_by s)) h.released
          ∙ (count_more (sum_by released_by steps) (released_by s)
          ∙ ap count (sym (sum_more released_by steps s)))));
      captured = captured
          ∙ (ap (λ n. count (old.captured + count n)) marks
          ∙ (ap (λ n. count (n + count (captured_by s))) h.captured
          ∙ (count_both (sum_by captured_by steps) (captured_by s)
          ∙ ap count (sym (sum_more captured_by steps s)))));
    }

pub line_same : (steps : List Step) (counts : Counts) → IsCounted steps counts → counts_line counts ≡ log_line steps
unfolding log_line
line_same steps counts h = rw (h.lines, h.released, h.captured) refl
