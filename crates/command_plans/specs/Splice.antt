-- `splice`: the single run that a log names is written.
use Rattle.std.specs.Prelude.{ℕ, List, [], ◌∷◌, ◌++◌, codes, decimal, flat_map, length}
use Rattle.command_inputs.specs.Texts.{read_log}
use Rattle.file_steps.specs.Plans.{Plan, Task, done, offline, waits}
use Rattle.replay_log.specs.Texts.{turn_text}
use Rattle.replay_log.specs.declared.turns.Turn.{Turn}
use Rattle.splice_run.specs.Single.{single_run}
use Rattle.command_plans.specs.OneFile.{one_file}
use Rattle.command_plans.specs.Planning.{plan_or}

-- the text of a single run
abbrev pub single_text : List Turn → List ℕ
single_text turns = flat_map turn_text turns

-- the line of so many turns
abbrev pub turns_line : List Turn → List ℕ
turns_line turns = codes "turns " ++ (decimal (length turns) ++ codes "\n")

-- the text of a run is written
abbrev pub single_plan : List Turn → Plan
single_plan turns =
    record { steps = one_file (single_text turns); end = done (turns_line turns) }

-- the log is refused by its first bad line; else its single run is written
unfoldable pub splice_plan : List ℕ → Plan
splice_plan text = plan_or (read_log text) (λ log. single_plan (single_run log))

-- of one text
abbrev pub splice_texts : List (List ℕ) → Plan
splice_texts (text ∷ []) = splice_plan text
splice_texts texts = record { steps = []; end = waits }

-- the file of the log, to another
abbrev pub splice_task : List ℕ → List ℕ → Task
splice_task log out = record { reads = log ∷ []; out = out; making = offline splice_texts }
