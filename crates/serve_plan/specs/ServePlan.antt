-- `serve` as a plan: two machines from an image's boot state on, run as a pair on a live link.
use Rattle.std.specs.Prelude.{ℕ, List, [], ◌∷◌, Result, Ok, Err}
use Rattle.colo_words.specs.declared.options.Options.{Options}
use Rattle.command_inputs.specs.Machine.{read_machine}
use Rattle.command_plans.specs.Planning.{refusal_plan}
use Rattle.file_steps.specs.Plans.{Refusal, waits}
use Rattle.pair_core.specs.Pair.{new_pair}
use Rattle.serve_rounds.specs.Rounds.{serve}
use Rattle.serve_rounds.specs.Work.{Work}
use Rattle.state_wire.specs.Guest.{Meaning}

-- the rounds of a pair of two machines in this state, or the refusal of what was read
abbrev pub serve_or : Options → List ℕ → Result Meaning Refusal → Work
serve_or o address (Ok machine) = serve o (new_pair machine machine) address
serve_or o address (Err refusal) = λ said. refusal_plan refusal

-- the image is tested first, and then the disk; they are refused before any file is created
unfoldable pub serve_plan : Options → List ℕ → List ℕ → List ℕ → Work
serve_plan o address image disk = serve_or o address (read_machine o.ram image disk)

-- the same of the texts that were read
abbrev pub serve_texts : Options → List ℕ → List (List ℕ) → Work
serve_texts o address (image ∷ (disk ∷ [])) = serve_plan o address image disk
serve_texts o address texts = λ said. record { steps = []; end = waits }
