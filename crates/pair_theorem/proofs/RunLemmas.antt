-- From a boot the run that a log names is that of its single run.
use Rattle.std.proofs.Common.{◌≡◌, ℕ, List, [], map, ap}
use Rattle.replay_log.specs.declared.records.Record.{Record}
use Rattle.splice_run.specs.Frames.{seen_in, turn_with}
use Rattle.splice_run.specs.Runs.{run_turns}
use Rattle.splice_run.specs.Single.{single_run}
use Rattle.splice_run.specs.Tokens.{Taken}
use Rattle.splice_run.proofs.MarkLemmas.{taken_turns_are}
use Rattle.state_wire.specs.Guest.{GuestState, Kind}
use Rattle.pair_theorem.specs.Past.{boot}
use Rattle.pair_theorem.specs.TheRun.{run_of, seen_of_index, the_run}

pub run_from_boot : (kind : Kind) (stream : List (List ℕ)) (state : GuestState) (m n : ℕ) (log : List Record)
    → the_run (boot kind stream state m n) log
    ≡ run_turns kind stream (record { state = state; sent = [] }) (single_run log)
unfolding the_run run_of seen_of_index single_run
run_from_boot kind stream state m n log =
    ap (λ (ts : List Taken). run_turns kind stream (record { state = state; sent = [] })
    (map (turn_with (seen_in log)) ts)) (taken_turns_are log)
