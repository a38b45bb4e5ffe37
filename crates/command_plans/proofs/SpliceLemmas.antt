-- From what was read of a log to the plan of `splice`.
use Rattle.std.proofs.Common.{◌≡◌, ℕ, List, Ok, Err, Result, refl}
use Rattle.command_inputs.specs.Reading.{IsRefused}
use Rattle.command_inputs.specs.Texts.{read_log}
use Rattle.file_steps.specs.declared.fault.Fault.{Fault}
use Rattle.file_steps.specs.declared.fault.Fault.TheVariants.{Usage, Refused, Read, Write, NoMemory}
use Rattle.file_steps.specs.Plans.{Plan, Refusal, done}
use Rattle.file_steps.specs.Status.{refusal_of}
use Rattle.replay_log.specs.declared.records.Record.{Record}
use Rattle.replay_log.specs.declared.turns.Turn.{Turn}
use Rattle.splice_run.specs.Single.{single_run}
use Rattle.command_plans.specs.OneFile.{one_file}
use Rattle.command_plans.specs.Planning.{IsRefusal, refusal_plan}
use Rattle.command_plans.specs.Splice.{single_text, splice_plan, turns_line}

-- what a reading is refused by, the plan is
pub plan_refused : {A : Type 0} (reading : Result A Refusal) (plan : Plan)
    → ((r : Refusal) → reading ≡ Err r → plan ≡ refusal_plan r) → (fault : Fault) → IsRefused reading fault
    → IsRefusal plan fault
plan_refused reading plan same Usage h = h
plan_refused reading plan same (Refused held) h = (same (refusal_of held) h.0, h.1)
plan_refused reading plan same Read h = h
plan_refused reading plan same Write h = h
plan_refused reading plan same NoMemory h = h

pub log_refused : (text : List ℕ) (refusal : Refusal) → read_log text ≡ Err refusal
    → splice_plan text ≡ refusal_plan refusal
unfolding splice_plan
log_refused text refusal e = rw e refl

pub log_planned : (text : List ℕ) (log : List Record) (turns : List Turn) (bytes line : List ℕ) → read_log text ≡ Ok log
    → turns ≡ single_run log → bytes ≡ single_text turns → line ≡ turns_line turns
    → splice_plan text ≡ record { steps = one_file bytes; end = done line }
unfolding splice_plan
log_planned text log turns bytes line read turns_are bytes_are line_is = rw (read, bytes_are, line_is, turns_are) refl
