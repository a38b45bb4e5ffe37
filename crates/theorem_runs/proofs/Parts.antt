-- Files and Secondary of every log: both guests are in the states of their runs.
use Rattle.std.proofs.Common.{◌≡◌, ℕ, Bool, true, false, List, [], map, find, refl, sym, ap, ◌∙◌, ◌==◌}
use Rattle.std.specs.Prelude.{if◌then◌else◌}
use Rattle.state_wire.specs.Run.{Run}
use Rattle.frame_mirror.specs.declared.ring.Waiting.{Waiting}
use Rattle.replay_log.specs.declared.lines.Line.{Line}
use Rattle.replay_log.specs.declared.records.Record.{Record}
use Rattle.splice_run.specs.Frames.{seen_in, turn_with}
use Rattle.splice_run.specs.Log.{has_primary_stop}
use Rattle.splice_run.specs.Runs.{run_turns}
use Rattle.splice_run.specs.Single.{primary_turns, secondary_turns, taken_turns}
use Rattle.splice_run.specs.Tokens.{Taken}
use Rattle.pair_theorem.specs.History.{entries, pair_log, past_at}
use Rattle.pair_theorem.specs.LogParts.{files_of, nodes_at, survivor_state}
use Rattle.pair_theorem.specs.Past.{NodeRun, Past, Start, Step}
use Rattle.pair_theorem.specs.Starts.{IsStart, boots}
use Rattle.pair_theorem.specs.TheRun.{run_of, seen_of_index, seen_with, the_run}
use Rattle.pair_theorem.proofs.EachHistory.{Any, each_any_log}
use Rattle.pair_theorem.proofs.EachLog.{messages_are}
use Rattle.theorem_runs.specs.Laws.{FilesOfEachLog, SecondaryOfEachLog}
use Rattle.theorem_runs.specs.Runs.{AreCut, AreRuns, IsRunBy}
use Rattle.theorem_runs.proofs.Cuts.{are_cut}
use Rattle.theorem_runs.proofs.Running.{StartsPlain, are_runs}

pub starts_plain : (a : Start) → IsStart a → StartsPlain a
starts_plain a (boots kind stream state m n regular fits bytes frames) =
    record { inbox = refl; said = refl; bytes = frames }

-- without an inbox from before, what a client had seen is what the log says
seen_is : (a : Start) (log : List Record) → a.inbox ≡ [] → (i : ℕ) → seen_of_index a log i ≡ seen_in log i
unfolding seen_of_index
seen_is a log none i =
    ap (λ (inbox : List Waiting). seen_with (find (λ (w : Waiting). w.index == i) inbox) (seen_in log i)) none

pub run_is : (a : Start) (log : List Record) (n : NodeRun) (turns : List Taken) → a.inbox ≡ [] → turns ≡ n.turns
    → IsRunBy a log n → n.run ≡ run_of a log turns
unfolding run_of
run_is a log n turns none same h =
    let seen : seen_in log ≡ seen_of_index a log = λ k i. sym (seen_is a log none i) k in
    h.run ∙ (λ k. run_turns a.kind a.stream a.run (map (turn_with (seen k)) (sym same k)))

-- what holds of the log and the past after it
record RunsAreCut (a : Start) (steps : List Step) (past : Past) : Type 0 where
  cut : AreCut steps past
  runs : AreRuns a steps past

each_runs : (a : Start) → StartsPlain a → (lines : List Line)
    → RunsAreCut a (pair_log a lines) (past_at a (pair_log a lines))
each_runs a plain =
    each_any_log a (RunsAreCut a) (λ steps past r. (record {
      cut = are_cut Any a steps past r;
      runs = are_runs Any a plain steps past r;
    }))

secondary_run : (a : Start) → StartsPlain a → (lines : List Line) → (past_at a (pair_log a lines)).secondary.run
    ≡ run_of a (entries (pair_log a lines)) (secondary_turns (entries (pair_log a lines)))
unfolding secondary_turns
secondary_run a plain lines =
    let h = each_runs a plain lines in
    run_is a (entries (pair_log a lines)) (past_at a (pair_log a lines)).secondary
    (secondary_turns (entries (pair_log a lines))) plain.inbox h.cut.secondary h.runs.secondary

primary_run : (a : Start) → StartsPlain a → (lines : List Line) → (past_at a (pair_log a lines)).primary.run
    ≡ run_of a (entries (pair_log a lines)) (primary_turns (entries (pair_log a lines)))
unfolding primary_turns
primary_run a plain lines =
    let h = each_runs a plain lines in
    run_is a (entries (pair_log a lines)) (past_at a (pair_log a lines)).primary
    (primary_turns (entries (pair_log a lines))) plain.inbox h.cut.primary h.runs.primary

pub secondary_holds : SecondaryOfEachLog
unfolding nodes_at
secondary_holds a lines start = ap (λ (r : Run). r.state) (secondary_run a (starts_plain a start) lines)

survivor_holds : (a : Start) → StartsPlain a → (lines : List Line)
    → survivor_state (entries (pair_log a lines)) (nodes_at a (pair_log a lines))
    ≡ (the_run a (entries (pair_log a lines))).state
unfolding nodes_at the_run taken_turns
survivor_holds a plain lines = by (has_primary_stop log)
  where
    log : List Record
    log = entries (pair_log a lines)

    past : Past
    past = past_at a (pair_log a lines)

    by : (b : Bool) → (if b then past.secondary.run.state else past.primary.run.state)
        ≡ (run_of a log (if b then secondary_turns log else primary_turns log)).state
    by true = ap (λ (r : Run). r.state) (secondary_run a plain lines)
    by false = ap (λ (r : Run). r.state) (primary_run a plain lines)

pub files_hold : FilesOfEachLog
unfolding files_of
files_hold a lines start = record {
  state = survivor_holds a (starts_plain a start) lines;
  ram = refl;
  disk = refl;
  log = refl;
  released = refl;
  wire = refl;
  messages = messages_are a lines;
}
