-- The whole theorem of the pair on a log that ends with a commit; and logs that break what it says of both guests.
use Rattle.std.proofs.Common.{◌≡◌, ℕ, ◌+◌, ◌==◌, ◌&&◌, Bool, true, sym, ap, ◌∙◌, List, [], ◌∷◌, ◌++◌, fold, sum, refl, eqb-true, arith}
use Rattle.std.proofs.lemmas.Bool.{and_parts}
use Rattle.kept_checkpoint.specs.Spelled.{spell}
use Rattle.pair_theorem.specs.History.{entries, pair_log}
use Rattle.replay_log.specs.declared.lines.Line.{Line}
use Rattle.replay_log.specs.declared.lines.Line.TheVariants.{ToSecondary}
use Rattle.pair_theorem.specs.LogParts.{count_on, GuestsPart, Nodes, SecondaryPart, ToldPart, files_of, nodes_at, told_secondary, turns_of_primary, turns_of_secondary}
use Rattle.pair_theorem.specs.Past.{Start, Step}
use Rattle.splice_run.specs.Single.{secondary_turns}
use Rattle.pair_theorem.specs.TheRun.{run_of}
use Rattle.pair_theorem.specs.Theorem.{PairTheorem}
use Rattle.pair_theorem.proofs.Breaking.{one_run_from, passes_all}
use Rattle.pair_theorem.proofs.PartTests.{same_state, states_same}
use Rattle.pair_theorem.proofs.WorkedFrames.{worked_start}
use Rattle.pair_theorem.proofs.WorkedSchedules.{captured_lines}

-- TESTS
unfoldable pub guests_test : Start → List Step → Nodes → Bool
guests_test a steps nodes =
    nodes.primary_turned == count_on a.primary_turned (turns_of_primary (entries steps))
    && nodes.secondary_turned == count_on a.secondary_turned (turns_of_secondary (entries steps))

pub guests_from : (a : Start) (steps : List Step) (nodes : Nodes) → guests_test a steps nodes ≡ true
    → GuestsPart a steps nodes
unfolding guests_test
guests_from a steps nodes e =
    let parts = and_parts (nodes.primary_turned == count_on a.primary_turned (turns_of_primary (entries steps))) _ e in
    record {
      primary = eqb-true nodes.primary_turned (count_on a.primary_turned (turns_of_primary (entries steps))) parts.0;
      secondary =
          eqb-true nodes.secondary_turned (count_on a.secondary_turned (turns_of_secondary (entries steps))) parts.1;
    }

unfoldable pub secondary_test : Start → List Step → Nodes → Bool
unfolding run_of secondary_turns
secondary_test a steps nodes =
    same_state nodes.secondary (run_of a (entries steps) (secondary_turns (entries steps))).state

pub secondary_from : (a : Start) (steps : List Step) (nodes : Nodes) → secondary_test a steps nodes ≡ true
    → SecondaryPart a steps nodes
unfolding secondary_test
secondary_from a steps nodes e =
    states_same nodes.secondary (run_of a (entries steps) (secondary_turns (entries steps))).state e

unfoldable pub told_test : Start → List Step → Nodes → Bool
told_test a steps nodes = same_state nodes.secondary (fold spell a.run.state (told_secondary steps))

pub told_from : (a : Start) (steps : List Step) (nodes : Nodes) → told_test a steps nodes ≡ true
    → ToldPart a steps nodes
unfolding told_test
told_from a steps nodes h before s e at delivered =
    states_same nodes.secondary (fold spell a.run.state (told_secondary steps)) h

-- A COMMIT
abbrev pub commit_lines : List Line
commit_lines = captured_lines ++ ToSecondary ∷ []

unfoldable pub commit_steps : List Step
unfolding pair_log worked_start
commit_steps = pair_log worked_start commit_lines

commit_log : commit_steps ≡ pair_log worked_start commit_lines
unfolding commit_steps
commit_log = refl

commit_passes : passes_all worked_start commit_steps ≡ true
unfolding commit_steps passes_all
commit_passes = refl

commit_guests : guests_test worked_start commit_steps (nodes_at worked_start commit_steps) ≡ true
unfolding commit_steps nodes_at guests_test
commit_guests = refl

commit_secondary : secondary_test worked_start commit_steps (nodes_at worked_start commit_steps) ≡ true
unfolding commit_steps nodes_at secondary_test
commit_secondary = refl

commit_told : told_test worked_start commit_steps (nodes_at worked_start commit_steps) ≡ true
unfolding commit_steps nodes_at told_test
commit_told = refl

pub commit_theorem : PairTheorem worked_start commit_lines commit_steps (nodes_at worked_start commit_steps)
    (files_of commit_steps (nodes_at worked_start commit_steps))
commit_theorem = record {
  determined = commit_log;
  one_run = λ one. one_run_from worked_start commit_lines commit_steps commit_log commit_passes;
  guests = guests_from worked_start commit_steps (nodes_at worked_start commit_steps) commit_guests;
  secondary = secondary_from worked_start commit_steps (nodes_at worked_start commit_steps) commit_secondary;
  told = told_from worked_start commit_steps (nodes_at worked_start commit_steps) commit_told;
}

-- ANOTHER GUEST'S TURNS: a secondary that is recomputed from its messages has made no turn of its own, or too many
abbrev pub recomputed : Nodes → Nodes
recomputed nodes = record nodes { secondary_turned = nodes.secondary_turned + 1 }

recomputed_count : (nodes_at worked_start commit_steps).secondary_turned ≡ 2
unfolding commit_steps nodes_at
recomputed_count = refl

own_count : count_on worked_start.secondary_turned (turns_of_secondary (entries commit_steps)) ≡ 2
unfolding commit_steps worked_start
own_count = refl

pub a_recomputed_secondary : GuestsPart worked_start commit_steps (recomputed (nodes_at worked_start commit_steps)) → ⊥
a_recomputed_secondary h =
    let stated = h.secondary in
    let three = ap (λ (n : ℕ). n + 1) recomputed_count in
    let same = sym three ∙ (stated ∙ own_count) in
    absurd (omega (arith, same))

-- A COMMIT THAT IS MARKED AND NEVER LOADED, while nothing stops: the secondary's guest is as it was before the commit
unfoldable pub unloaded : Nodes
unfolding nodes_at pair_log worked_start
unloaded =
    record (nodes_at worked_start commit_steps) {
      secondary =
          (nodes_at worked_start (pair_log worked_start captured_lines)).secondary;
    }

unloaded_bytes : sum unloaded.secondary.bytes ≡ 2231
unfolding unloaded nodes_at
unloaded_bytes = refl

captured_bytes : sum (run_of worked_start (entries commit_steps) (secondary_turns (entries commit_steps))).state.bytes
    ≡ 2199
unfolding commit_steps worked_start run_of secondary_turns
captured_bytes = refl

pub a_commit_without_a_load : SecondaryPart worked_start commit_steps unloaded → ⊥
a_commit_without_a_load h =
    let same = sym unloaded_bytes ∙ (ap (λ s. sum s.bytes) h ∙ captured_bytes) in absurd (omega (arith, same))
