-- The unit of writing: what one event leaves.
use Rattle.std.specs.Prelude.{ℕ, List, ◌++◌, codes}
use Rattle.file_steps.specs.Steps.{Step, append_step}

-- an event leaves lines of the log, released frames and delivered messages; they are written in
-- this order, and all of an event before anything of the next
abbrev pub event_steps : List ℕ → List ℕ → List ℕ → List Step
event_steps log released wire =
    append_step (codes ".log") log
    ++ (append_step (codes ".released") released ++ append_step (codes ".wire") wire)
