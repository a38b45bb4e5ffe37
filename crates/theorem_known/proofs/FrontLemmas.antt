-- What holds of each history holds of each front of a log.
use Rattle.std.proofs.Common.{◌≡◌, ℕ, Bool, true, false, not, ◌&&◌, ◌||◌, List, [], ◌∷◌, ◌++◌, refl, sym, ap, subst}
use Rattle.std.proofs.lemmas.Bool.{and_parts}
use Rattle.state_wire.specs.Guest.{Kind}
use Rattle.replay_log.specs.declared.lines.Line.{Line}
use Rattle.pair_theorem.specs.Events.{outcome_of}
use Rattle.pair_theorem.specs.History.{pair_log, past_at, steps_from}
use Rattle.pair_theorem.specs.Log.{HasOneStop, is_report, is_stop, stops_fit}
use Rattle.pair_theorem.specs.Past.{Past, Start, Step, first_past}
use Rattle.theorem_runs.proofs.ListFacts.{heads_same, tails_same}

-- the lines of a front of a schedule's steps
record AreOfFront (kind : Kind) (stream : List (List ℕ)) (past : Past) (lines : List Line)
    (front : List Step) : Type 0 where
  first : List Line
  rest : List Line
  together : lines ≡ first ++ rest
  front_is : front ≡ steps_from kind stream past first

lines_of_front : (kind : Kind) (stream : List (List ℕ)) (past : Past) (lines : List Line) (front later : List Step)
    → steps_from kind stream past lines ≡ front ++ later → AreOfFront kind stream past lines front
unfolding steps_from
lines_of_front kind stream past lines [] later e =
    record { first = []; rest = lines; together = refl; front_is = refl }
lines_of_front kind stream past [] (s ∷ front) later e = absurd (cc e)
lines_of_front kind stream past (x ∷ lines) (s ∷ front) later e =
    let o = outcome_of kind stream past x in
    let steps = steps_from kind stream o.after lines in
    let more = lines_of_front kind stream o.after lines front later (tails_same o.step s steps (front ++ later) e) in
    let same = heads_same o.step s steps (front ++ later) e in
    record {
      first = x ∷ more.first;
      rest = more.rest;
      together = ap (λ (xs : List Line). x ∷ xs) more.together;
      front_is = λ i. sym same i ∷ more.front_is i;
    }

fits_front : (stopped reported : Bool) (xs ys : List Line) → stops_fit stopped reported (xs ++ ys) ≡ true
    → stops_fit stopped reported xs ≡ true
fits_front stopped reported [] ys h = refl
fits_front stopped reported (x ∷ xs) ys h =
    let stops = not (is_stop x && stopped) in
    let reports = not (is_report x && (reported || not stopped)) in
    let parts = and_parts stops (reports && stops_fit (stopped || is_stop x) (reported || is_report x) (xs ++ ys)) h in
    let inner = and_parts reports (stops_fit (stopped || is_stop x) (reported || is_report x) (xs ++ ys)) parts.1 in
    let more = fits_front (stopped || is_stop x) (reported || is_report x) xs ys inner.1 in
    λ i. parts.0 i && (inner.0 i && more i)

-- what holds of each log with at most one stop holds of each front of one
pub each_front : (a : Start) (I : List Step → Past → Type 0)
    → ((lines : List Line) → HasOneStop lines → I (pair_log a lines) (past_at a (pair_log a lines)))
    → (lines : List Line) → HasOneStop lines → (front later : List Step) → pair_log a lines ≡ front ++ later
    → I front (past_at a front)
unfolding pair_log
each_front a I each lines one front later e =
    let of = lines_of_front a.kind a.stream (first_past a) lines front later e in
    subst (λ (steps : List Step). I steps (past_at a steps)) (sym of.front_is)
    (each of.first (fits_front false false of.first of.rest
    (subst (λ (xs : List Line). HasOneStop xs) of.together one)))
