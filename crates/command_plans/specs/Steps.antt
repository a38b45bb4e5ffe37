-- What the code of a replay holds of a step, and counts.
use Rattle.std.specs.Prelude.{◌≡◌, ℕ, List, ◌++◌, codes, decimal, length, sum_by}
use Rattle.replay_log.specs.Texts.{record_text}
use Rattle.sock_link.specs.Stream.{stream_of}
use Rattle.file_steps.specs.Events.{event_steps}
use Rattle.file_steps.specs.Steps.{Step}
use Rattle.pair_core.specs.declared.pair.Step.{Step as HeldStep}
use Rattle.command_plans.specs.Replay.{Event, captured_by, count, released_by}
use Rattle.command_plans.specs.declared.replay.Counts.{Counts}

-- what a step leaves
abbrev pub writes_by : HeldStep → List Step
writes_by step =
    event_steps (record_text step.entry) (stream_of step.released) step.wire.items

-- so many events, frames and checkpoints
pub record IsCounted (es : List Event) (counts : Counts) : Type 0 where
  pub lines : counts.lines ≡ length es
  pub released : counts.released ≡ count (sum_by released_by es)
  pub captured : counts.captured ≡ count (sum_by captured_by es)

abbrev pub counts_line : Counts → List ℕ
counts_line counts =
    codes "lines " ++ (decimal counts.lines
    ++ (codes " released " ++ (decimal counts.released
    ++ (codes " captured " ++ (decimal counts.captured ++ codes "\n")))))
