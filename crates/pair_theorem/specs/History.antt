-- The history of a schedule: the steps that its lines make, one after the other, and the past after
-- them.
use Rattle.std.specs.Prelude.{ℕ, List, [], ◌∷◌, map}
use Rattle.pair_theorem.specs.Events.{outcome_of}
use Rattle.state_wire.specs.Guest.{Kind}
use Rattle.replay_log.specs.declared.lines.Line.{Line}
use Rattle.replay_log.specs.declared.records.Record.{Record}
use Rattle.splice_run.specs.Log.{schedule}
use Rattle.pair_theorem.specs.Past.{Past, Start, Step, first_past}

-- the steps of some lines, from a past on
unfoldable pub steps_from : Kind → List (List ℕ) → Past → List Line → List Step
unfolding outcome_of
steps_from kind stream past [] = []
steps_from kind stream past (x ∷ xs) =
    let o = outcome_of kind stream past x in o.step ∷ steps_from kind stream o.after xs

-- the past after them
unfoldable pub past_from : Kind → List (List ℕ) → Past → List Line → Past
unfolding outcome_of
past_from kind stream past [] = past
past_from kind stream past (x ∷ xs) = past_from kind stream (outcome_of kind stream past x).after xs

-- the log, with its messages and released frames: determined by the start and the schedule
unfoldable pub pair_log : Start → List Line → List Step
unfolding steps_from
pair_log a lines = steps_from a.kind a.stream (first_past a) lines

abbrev pub entries : List Step → List Record
entries steps = map (λ (s : Step). s.entry) steps

abbrev pub lines_of : List Step → List Line
lines_of steps = schedule (entries steps)

-- the past after the lines of some steps
unfoldable pub past_at : Start → List Step → Past
unfolding past_from
past_at a steps = past_from a.kind a.stream (first_past a) (lines_of steps)
