-- A pair that no boot begins: the survivor of a failover with a newcomer, which holds the SYN and three bytes released
-- before. `IsStart` does not have it; the parts hold of these logs.
use Rattle.std.proofs.Common.{◌≡◌, ℕ, if◌then◌else◌, true, List, [], ◌∷◌, ◌++◌, None, refl}
use Rattle.tcp_track.specs.Lines.{commit}
use Rattle.settle_rules.specs.Numbers.{learn_all, thin}
use Rattle.settle_rules.specs.Progress.{clear_ages}
use Rattle.frame_mirror.specs.declared.ring.Waiting.{Waiting}
use Rattle.pair_theorem.specs.History.{entries, pair_log, past_at}
use Rattle.pair_theorem.specs.LogParts.{run_indices}
use Rattle.replay_log.specs.declared.lines.Line.{Line}
use Rattle.replay_log.specs.declared.lines.Line.TheVariants.{Primary, Report, Secondary, StopPrimary, ToPrimary, ToSecondary}
use Rattle.replay_log.specs.declared.records.Answer.TheVariants.{Made, HeardBack}
use Rattle.pair_theorem.specs.Past.{NodeRun, Past, Start, Step, secondary_releases}
use Rattle.pair_theorem.proofs.Breaking.{OneRun, one_run_from, passes_all}
use Rattle.pair_theorem.proofs.TrimRows.{ack_start}
use Rattle.pair_theorem.proofs.Told.{Told, told, plain, releases, data_out}
use Rattle.pair_theorem.proofs.WorkedFrames.{worked_start, last_digits}
use Rattle.pair_theorem.proofs.WorkedSchedules.{ack_lines, primary, secondary, failover_lines}

-- WHAT AN EARLIER GENERATION LEAVES, once a newcomer has committed it
abbrev pub survivor_run : Past → NodeRun
survivor_run past = if secondary_releases past then past.secondary else past.primary

abbrev pub survivor_inbox : Past → List Waiting
survivor_inbox past = if secondary_releases past then past.secondary_inbox else past.primary_inbox

abbrev pub survivor_turned : Past → ℕ
survivor_turned past =
    if secondary_releases past then past.secondary_turned else past.primary_turned

-- The survivor is the primary from then on. The commit is the restart record; the numbers are
-- thinned and all known; edges, what is due and what was last released stay. The newcomer's guest
-- has made so many turns of its own.
unfoldable pub start_after : Start → ℕ → Past → Start
unfolding thin
start_after a newcomer past = record a {
  next = past.next;
  run = (survivor_run past).run;
  items = (survivor_run past).items ++ commit ∷ [];
  numbers = learn_all (thin (survivor_run past).items past.numbers);
  progress = clear_ages past.progress;
  inbox = survivor_inbox past;
  primary_turned = survivor_turned past;
  secondary_turned = newcomer;
}

unfoldable pub next_start : Start
unfolding start_after past_at pair_log worked_start
next_start = start_after worked_start 0 (past_at worked_start (pair_log worked_start failover_lines))

abbrev pub next_lines : List Line
next_lines = primary 5 ∷ secondary 5 ∷ ToPrimary ∷ []

abbrev pub next_told : List Told
next_told =
    plain (primary 5) (Made None 0)
    ∷ plain (secondary 5) (Made None 0)
    ∷ releases ToPrimary (HeardBack 13 1 1) [] (data_out 5004 last_digits ∷ [])
    ∷ []

pub next : told (pair_log next_start next_lines) ≡ next_told
unfolding pair_log next_start
next = refl

-- the SYN that these bytes count from was released before the start
unfoldable pub next_steps : List Step
unfolding pair_log next_start
next_steps = pair_log next_start next_lines

next_log : next_steps ≡ pair_log next_start next_lines
unfolding next_steps
next_log = refl

next_passes : passes_all next_start next_steps ≡ true
unfolding next_start next_steps passes_all
next_passes = refl

pub next_is_one_run : OneRun next_start next_lines next_steps
next_is_one_run = one_run_from next_start next_lines next_steps next_log next_passes

-- A frame that waits from before the start is given by what the client had seen then.
unfoldable pub waiting_start : Start
unfolding start_after past_at pair_log ack_start
waiting_start =
    start_after (ack_start 5004) 0
    (past_at (ack_start 5004) (pair_log (ack_start 5004) (ack_lines ++ ToSecondary ∷ StopPrimary ∷ Report ∷ [])))

abbrev pub waiting_lines : List Line
waiting_lines = Primary 5 true 0 0 ∷ Secondary 5 true 0 0 ∷ ToPrimary ∷ []

unfoldable pub waiting_steps : List Step
unfolding pair_log waiting_start
waiting_steps = pair_log waiting_start waiting_lines

waiting_indices : run_indices (entries waiting_steps) ≡ 1 ∷ []
unfolding waiting_steps run_indices
waiting_indices = refl

waiting_log : waiting_steps ≡ pair_log waiting_start waiting_lines
unfolding waiting_steps
waiting_log = refl

waiting_passes : passes_all waiting_start waiting_steps ≡ true
unfolding waiting_start waiting_steps passes_all
waiting_passes = refl

pub waiting_is_one_run : OneRun waiting_start waiting_lines waiting_steps
waiting_is_one_run = one_run_from waiting_start waiting_lines waiting_steps waiting_log waiting_passes
