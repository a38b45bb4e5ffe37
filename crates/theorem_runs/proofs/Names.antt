-- Names of every log: the frames that the run takes rise and are accepted ones, and none is missing but where the part
-- says it.
use Rattle.std.proofs.Common.{◌≡◌, ◌⊎◌, inl, inr, ℕ, ◌||◌, ◌&&◌, Bool, true, false, List, [], ◌∷◌, ◌++◌, Option, None, Some, refl, sym, ap, subst, ◌∙◌}
use Rattle.std.specs.Prelude.{All, IfSome, IsTrue, if◌then◌else◌}
use Rattle.std.specs.List.{AllByRecursion, cons_option, filter_map, list_any}
use Rattle.std.specs.List.Sorted.{IsStrictlyIncreasing}
use Rattle.std.proofs.lemmas.Bool.{or_cases, or_left, or_right}
use Rattle.std.proofs.lemmas.List.Elements.{All-cons, All-nil}
use Rattle.splice_run.specs.Log.{has_primary_stop}
use Rattle.splice_run.specs.Runs.{is_accepted}
use Rattle.splice_run.specs.Single.{primary_turns, secondary_turns, taken_turns}
use Rattle.splice_run.specs.Tokens.{Taken}
use Rattle.pair_theorem.specs.History.{entries, pair_log, past_at}
use Rattle.pair_theorem.specs.LogParts.{accepted_indices, contains_index, frames_on, inbox_indices, is_accounted_for, is_full_for, loses, run_indices, waits_for}
use Rattle.pair_theorem.specs.Past.{Past, Start, Step, is_primary_stop}
use Rattle.pair_theorem.specs.Places.{events}
use Rattle.pair_theorem.proofs.EachHistory.{Fits, Reached, each_log}
use Rattle.theorem_runs.specs.Laws.{NamesOfEachLog}
use Rattle.theorem_runs.specs.Runs.{AccountsFor, AreCut, AreRuns, AreTurnsAccepted, OrdersRise, primary_order, secondary_all, took_indices}
use Rattle.theorem_runs.proofs.Accounting.{among_either}
use Rattle.theorem_runs.proofs.Accounts.{each_accounted, primary_not_secondary}
use Rattle.theorem_runs.proofs.Cuts.{are_cut}
use Rattle.theorem_runs.proofs.ListFacts.{all_weaken}
use Rattle.theorem_runs.proofs.Orders.{front_below, increasing, orders_rise}
use Rattle.theorem_runs.proofs.Parts.{starts_plain}
use Rattle.theorem_runs.proofs.Running.{StartsPlain, are_runs}
use Rattle.theorem_runs.proofs.Stops.{stop_named}

to_all : {X : Type 0} (P : X → Type 0) (xs : List X) → AllByRecursion P xs → All P xs
to_all P [] h = All-nil P
to_all P (x ∷ xs) h = All-cons P x xs h.0 (to_all P xs h.1)

-- what the names part reads of a history
record Named (a : Start) (steps : List Step) (past : Past) : Type 0 where
  cut : AreCut steps past
  runs : AreRuns a steps past
  orders : OrdersRise past
  accounts : AccountsFor a steps past
  stop : has_primary_stop (entries steps) ≡ is_primary_stop past.stop

each_named : (a : Start) → StartsPlain a → (steps : List Step) (past : Past) → Reached Fits a steps past
    → Named a steps past
each_named a plain steps past r = record {
  cut = are_cut Fits a steps past r;
  runs = are_runs Fits a plain steps past r;
  orders = orders_rise a plain.inbox steps past r;
  accounts = each_accounted a steps past r;
  stop = stop_named a steps past r;
}

-- the indices of some turns
abbrev indices_of : List Taken → List ℕ
indices_of turns = filter_map (λ (t : Taken). t.index) turns

accepted_of : (a : Start) (turns : List Taken) → AreTurnsAccepted a turns
    → AllByRecursion (λ i. IsTrue (is_accepted a.stream i)) (indices_of turns)
accepted_of a [] h = tt
accepted_of a (t ∷ turns) h = by t.index h.0 (accepted_of a turns h.1)
  where
    by : (o : Option ℕ) → IfSome o (λ i. IsTrue (is_accepted a.stream i))
        → AllByRecursion (λ i. IsTrue (is_accepted a.stream i)) (indices_of turns)
        → AllByRecursion (λ i. IsTrue (is_accepted a.stream i)) (cons_option o (indices_of turns))
    by None g rest = rest
    by (Some i) g rest = (g, rest)

-- the run takes the secondary's turns, or the primary's
run_of_both : (a : Start) (steps : List Step) (past : Past) → Named a steps past
    → (P : List ℕ → Type 0) → P (took_indices past.secondary) → P (took_indices past.primary)
    → P (run_indices (entries steps))
unfolding run_indices taken_turns primary_turns secondary_turns
run_of_both a steps past n P s p = by (has_primary_stop (entries steps))
  where
    by : (b : Bool) → P (filter_map (λ (t : Taken). t.index)
        (if b then secondary_turns (entries steps) else primary_turns (entries steps)))
    by true = subst (λ (ts : List Taken). P (filter_map (λ (t : Taken). t.index) ts)) (sym n.cut.secondary) s
    by false = subst (λ (ts : List Taken). P (filter_map (λ (t : Taken). t.index) ts)) (sym n.cut.primary) p

rising_of : (a : Start) (steps : List Step) (past : Past) → Named a steps past
    → IsStrictlyIncreasing (run_indices (entries steps))
rising_of a steps past n =
    run_of_both a steps past n IsStrictlyIncreasing
    (increasing past.next (took_indices past.secondary)
    (front_below past.next (took_indices past.secondary) _ n.orders.secondary))
    (increasing past.next (took_indices past.primary)
    (front_below past.next (took_indices past.primary) (inbox_indices past.primary_inbox) n.orders.primary))

-- WHERE each accepted frame is
run_is_secondary : (a : Start) (steps : List Step) (past : Past) → Named a steps past
    → is_primary_stop past.stop ≡ true → run_indices (entries steps) ≡ took_indices past.secondary
unfolding run_indices taken_turns primary_turns secondary_turns
run_is_secondary a steps past n e =
    ap (λ (b : Bool). filter_map (λ (t : Taken). t.index)
    (if b then secondary_turns (entries steps) else primary_turns (entries steps))) (n.stop ∙ e)
    ∙ ap (λ (ts : List Taken). filter_map (λ (t : Taken). t.index) ts) n.cut.secondary

run_is_primary : (a : Start) (steps : List Step) (past : Past) → Named a steps past
    → is_primary_stop past.stop ≡ false → run_indices (entries steps) ≡ took_indices past.primary
unfolding run_indices taken_turns primary_turns secondary_turns
run_is_primary a steps past n e =
    ap (λ (b : Bool). filter_map (λ (t : Taken). t.index)
    (if b then secondary_turns (entries steps) else primary_turns (entries steps))) (n.stop ∙ e)
    ∙ ap (λ (ts : List Taken). filter_map (λ (t : Taken). t.index) ts) n.cut.primary

-- what a frame is accounted for by, over a past
abbrev is_found : Start → List Step → Past → ℕ → Bool
is_found a steps past i =
    contains_index i (run_indices (entries steps))
    || (is_full_for i steps || (list_any (loses i) (events a steps) || waits_for i past))

found_taken : (a : Start) (steps : List Step) (past : Past) (i : ℕ) (xs : List ℕ)
    → run_indices (entries steps) ≡ xs → IsTrue (contains_index i xs) → IsTrue (is_found a steps past i)
found_taken a steps past i xs e h =
    or_left (contains_index i (run_indices (entries steps)))
    (is_full_for i steps || (list_any (loses i) (events a steps) || waits_for i past))
    (ap (λ (ys : List ℕ). contains_index i ys) e ∙ h)

found_waiting : (a : Start) (steps : List Step) (past : Past) (i : ℕ) → IsTrue (waits_for i past)
    → IsTrue (is_found a steps past i)
found_waiting a steps past i h =
    let lost = list_any (loses i) (events a steps) in
    or_right (contains_index i (run_indices (entries steps))) (is_full_for i steps || (lost || waits_for i past))
    (or_right (is_full_for i steps) (lost || waits_for i past) (or_right lost (waits_for i past) h))

found_gone : (a : Start) (steps : List Step) (past : Past) (i : ℕ)
    → IsTrue (is_full_for i steps || list_any (loses i) (events a steps)) → IsTrue (is_found a steps past i)
found_gone a steps past i h = by (or_cases (is_full_for i steps) (list_any (loses i) (events a steps)) h)
  where
    lost : Bool
    lost = list_any (loses i) (events a steps)

    by : (is_full_for i steps ≡ true) ⊎ (lost ≡ true) → IsTrue (is_found a steps past i)
    by (inl e) =
        or_right (contains_index i (run_indices (entries steps))) (is_full_for i steps || (lost || waits_for i past))
        (or_left (is_full_for i steps) (lost || waits_for i past) e)
    by (inr e) =
        or_right (contains_index i (run_indices (entries steps))) (is_full_for i steps || (lost || waits_for i past))
        (or_right (is_full_for i steps) (lost || waits_for i past) (or_left lost (waits_for i past) e))

-- the secondary's run
found_second : (a : Start) (steps : List Step) (past : Past) → Named a steps past → is_primary_stop past.stop ≡ true
    → (i : ℕ) → IsTrue (contains_index i (secondary_all past)
    || (is_full_for i steps || list_any (loses i) (events a steps))) → IsTrue (is_found a steps past i)
found_second a steps past n e i h =
    by (or_cases (contains_index i (secondary_all past)) (is_full_for i steps || list_any (loses i) (events a steps)) h)
  where
    rest : List ℕ
    rest = inbox_indices past.secondary_inbox ++ frames_on past.to_secondary

    waits : IsTrue (contains_index i rest) → IsTrue (waits_for i past)
    waits g =
        ap (λ (b : Bool). if b then contains_index i rest
        else contains_index i (inbox_indices past.primary_inbox)) e ∙ g

    among : IsTrue (contains_index i (took_indices past.secondary)) ⊎ IsTrue (contains_index i rest)
        → IsTrue (is_found a steps past i)
    among (inl g) = found_taken a steps past i (took_indices past.secondary) (run_is_secondary a steps past n e) g
    among (inr g) = found_waiting a steps past i (waits g)

    by : IsTrue (contains_index i (secondary_all past))
        ⊎ IsTrue (is_full_for i steps || list_any (loses i) (events a steps)) → IsTrue (is_found a steps past i)
    by (inl g) = among (among_either i (took_indices past.secondary) rest g)
    by (inr g) = found_gone a steps past i g

-- the primary's
found_first : (a : Start) (steps : List Step) (past : Past) → Named a steps past → is_primary_stop past.stop ≡ false
    → (i : ℕ) → IsTrue (contains_index i (primary_order past)) → IsTrue (is_found a steps past i)
found_first a steps past n e i h =
    by (among_either i (took_indices past.primary) (inbox_indices past.primary_inbox) h)
  where
    waits : IsTrue (contains_index i (inbox_indices past.primary_inbox)) → IsTrue (waits_for i past)
    waits g =
        ap (λ (b : Bool). if b
        then contains_index i (inbox_indices past.secondary_inbox ++ frames_on past.to_secondary)
        else contains_index i (inbox_indices past.primary_inbox)) e ∙ g

    by : IsTrue (contains_index i (took_indices past.primary))
        ⊎ IsTrue (contains_index i (inbox_indices past.primary_inbox)) → IsTrue (is_found a steps past i)
    by (inl g) = found_taken a steps past i (took_indices past.primary) (run_is_primary a steps past n e) g
    by (inr g) = found_waiting a steps past i (waits g)

each_found : (a : Start) (steps : List Step) (past : Past) → Named a steps past
    → AllByRecursion (λ i. IsTrue (is_found a steps past i)) (accepted_indices steps)
each_found a steps past n = by (is_primary_stop past.stop) refl
  where
    by : (b : Bool) → is_primary_stop past.stop ≡ b
        → AllByRecursion (λ i. IsTrue (is_found a steps past i)) (accepted_indices steps)
    by true e =
        all_weaken (λ i. IsTrue (contains_index i (secondary_all past)
        || (is_full_for i steps || list_any (loses i) (events a steps)))) (λ i. IsTrue (is_found a steps past i))
        (accepted_indices steps) (found_second a steps past n e)
        (n.accounts.secondary (primary_not_secondary past.stop e))
    by false e =
        all_weaken (λ i. IsTrue (contains_index i (primary_order past))) (λ i. IsTrue (is_found a steps past i))
        (accepted_indices steps) (found_first a steps past n e)
        (n.accounts.primary (ap (λ (b : Bool). b && past.is_reported) e))

pub names_hold : NamesOfEachLog
unfolding is_accounted_for
names_hold a lines start one =
    let plain = starts_plain a start in
    let steps = pair_log a lines in
    let past = past_at a steps in
    let n = each_log a (Named a) (each_named a plain) lines one in
    record {
      rising = rising_of a steps past n;
      accepted = to_all (λ i. IsTrue (is_accepted a.stream i)) (run_indices (entries steps))
          (run_of_both a steps past n (AllByRecursion (λ i. IsTrue (is_accepted a.stream i)))
          (accepted_of a past.secondary.turns n.runs.secondary.accepted)
          (accepted_of a past.primary.turns n.runs.primary.accepted));
      missing = to_all (λ i. IsTrue (is_accounted_for a steps i)) (inbox_indices a.inbox ++ accepted_indices steps)
          (subst (λ (is : List ℕ). AllByRecursion (λ i. IsTrue (is_accounted_for a steps i))
          (is ++ accepted_indices steps)) (sym (ap inbox_indices plain.inbox)) (each_found a steps past n));
    }
