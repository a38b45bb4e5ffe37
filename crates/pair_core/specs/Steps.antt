-- What a line of a schedule makes of a pair, and which lines are refused.
use Rattle.std.specs.Prelude.{◌≡◌, ◌≤◌, Bool, true, false, Option, None, Some, ⊤}
use Rattle.replay_log.specs.declared.lines.Line.{Line}
use Rattle.replay_log.specs.declared.lines.Line.TheVariants.{Primary, Secondary, Client, ToSecondary, ToPrimary, StopPrimary, StopSecondary, Report, Ask}
use Rattle.pair_core.specs.Events.{event_of}
use Rattle.pair_core.specs.Pair.{Pair}
use Rattle.pair_core.specs.declared.node.Node.{Node}
use Rattle.pair_core.specs.declared.pair.Step.{Step}
use Rattle.pair_core.specs.declared.pair.StepFault.{StepFault}
use Rattle.pair_core.specs.declared.pair.StepFault.TheVariants.{SecondStop, FalseReport}

-- a turn serves at most 256 block requests, and has at most 100,000 steps
abbrev pub HasLimits : Line → Type 0
HasLimits (Primary d i b n) = (b ≤ 256) × (n ≤ 100000)
HasLimits (Secondary d i b n) = (b ≤ 256) × (n ≤ 100000)
HasLimits _ = ⊤

-- a second stop, and a report with no stop before it or after another report
abbrev pub stop_refusal : Option Node → Option StepFault
stop_refusal None = None
stop_refusal (Some node) = Some SecondStop

abbrev pub report_refusal : Option Node → Bool → Option StepFault
report_refusal None is_reported = Some FalseReport
report_refusal (Some node) true = Some FalseReport
report_refusal (Some node) false = None

abbrev pub refusal : Pair → Line → Option StepFault
refusal w StopPrimary = stop_refusal w.stopped
refusal w StopSecondary = stop_refusal w.stopped
refusal w Report = report_refusal w.stopped w.is_reported
refusal w (Primary d i b n) = None
refusal w (Secondary d i b n) = None
refusal w Client = None
refusal w ToSecondary = None
refusal w ToPrimary = None
refusal w Ask = None

-- what a step tells of an event
pub record IsStep (w : Pair) (asked : Line) (step : Step) : Type 0 where
  pub line : step.entry.line ≡ asked
  pub answer : step.entry.answer ≡ (event_of w asked).answer
  pub marks : step.entry.marks ≡ (event_of w asked).marks
  pub released : step.released ≡ (event_of w asked).released
  pub wire : step.wire.items ≡ (event_of w asked).wire
