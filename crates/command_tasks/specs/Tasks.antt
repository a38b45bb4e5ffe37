-- The task of each command: the files that it reads, what its files are named after, and the plan
-- that it makes of what it read.
use Rattle.std.specs.Prelude.{ℕ, List, [], ◌∷◌, Option, option_map}
use Rattle.command_plans.specs.Image.{image_task}
use Rattle.command_plans.specs.Solo.{solo_texts}
use Rattle.command_plans.specs.Splice.{splice_task}
use Rattle.file_steps.specs.Plans.{Plan, Task, offline}
use Rattle.replay_plan.specs.ReplayPlan.{replay_texts}
use Rattle.command_tasks.specs.Words.{Command, RunWords, image_command, read_words, replay_command, solo_command, splice_command}

-- the four files that a run reads, in the order in which they are fetched
abbrev pub run_reads : RunWords → List (List ℕ)
run_reads c = c.image ∷ (c.disk ∷ (c.client ∷ (c.lines ∷ [])))

-- a run whose plan is made of these four texts
abbrev pub run_task : RunWords → (List (List ℕ) → Plan) → Task
run_task c plan = record { reads = run_reads c; out = c.out; making = offline plan }

abbrev pub replay_task : RunWords → Task
replay_task c = run_task c (replay_texts c.mib)

abbrev pub solo_task : RunWords → Task
solo_task c = run_task c (solo_texts c.mib)

abbrev pub task_of : Command → Task
task_of (replay_command c) = replay_task c
task_of (solo_command c) = solo_task c
task_of (splice_command c) = splice_task c.log c.out
task_of (image_command c) = image_task c.name c.out

-- the task that the words name; None where they name none
abbrev pub read_task : List (List ℕ) → Option Task
read_task words = option_map task_of (read_words words)
