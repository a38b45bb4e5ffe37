-- A run on a live link as a replay: its files are those of the lines of its log, over the frames of
-- all bytes that came.
use Rattle.std.specs.Prelude.{◌≡◌, ℕ, false, List, [], ◌∷◌, ◌++◌, None, flat_map, length, ◌⊎◌}
use Rattle.colo_base.specs.Link.{Arrival, bytes, ended, quiet}
use Rattle.colo_words.specs.declared.options.Options.{Options}
use Rattle.command_inputs.specs.Client.{frames_of}
use Rattle.command_inputs.specs.Reading.{client_refusal}
use Rattle.command_plans.specs.Replay.{AreEvents, after_lines, events, replay_files, state_steps, summary_line, survivor, writes_of}
use Rattle.file_steps.specs.Plans.{End, Plan, done, refused, waits}
use Rattle.file_steps.specs.Steps.{Said, Step, append, create, creates, room_of}
use Rattle.pair_core.specs.Pair.{Pair}
use Rattle.replay_log.specs.declared.lines.Line.{Line}
use Rattle.serve_rounds.specs.Rounds.{place_of, serve}

-- ---- what came

abbrev pub bytes_of : Arrival → List ℕ
bytes_of (bytes more) = more
bytes_of quiet = []
bytes_of ended = []

-- all bytes of these answers
abbrev pub heard_of : Said → List ℕ
heard_of said = flat_map bytes_of said.arrivals

-- as many answers came as the steps hear
abbrev pub IsAsked : Plan → Said → Type 0
IsAsked plan said = length said.arrivals ≡ length (flat_map room_of plan.steps)

-- the last answer is the end of the stream
abbrev pub EndsLast : List Arrival → Type 0
EndsLast arrivals = (before : List Arrival) × (arrivals ≡ before ++ ended ∷ [])

-- ---- the steps on files

abbrev pub on_file : Step → List Step
on_file (create end) = create end ∷ []
on_file (append end more) = append end more ∷ []
on_file _ = []

abbrev pub on_files : List Step → List Step
on_files steps = flat_map on_file steps

-- ---- a replay

-- a pair to which clients send these frames
abbrev pub with_frames : List (List ℕ) → Pair → Pair
with_frames frames w = record w { frames = frames }

-- after a run that ends with its line memory and disk are written, and after no other
abbrev pub last_steps : End → Pair → List Step
last_steps (done line) w = state_steps (survivor w).state
last_steps (refused refusal) w = []
last_steps waits w = []

-- how a run of a pair by these lines ends, with so many rounds at most, after what was said: with
-- its line after the last round or at the end of the stream, or refused by the place where a record
-- begins
abbrev pub EndsSo : Pair → List Line → ℕ → Said → End → Type 0
EndsSo w lines most said (done line) =
    (line ≡ summary_line (events w lines))
    × ((length said.arrivals ≡ most) ⊎ EndsLast said.arrivals)
EndsSo w lines most said (refused refusal) = refusal ≡ client_refusal (place_of (heard_of said))
EndsSo w lines most said waits = Unit {0}

-- the plan's files are those of a replay of some lines, none of which is refused
pub record IsReplay (w : Pair) (most : ℕ) (said : Said) (plan : Plan) : Type 0 where
  pub lines : List Line
  pub good : AreEvents w lines
  pub files : on_files plan.steps
      ≡ creates replay_files
      ++ (flat_map writes_of (events w lines) ++ last_steps plan.end (after_lines w lines))
  pub ends : EndsSo w lines most said plan.end

-- a pair to which no client has sent anything, and of which no node stopped
pub record IsFresh (w : Pair) : Type 0 where
  pub frames : w.frames ≡ []
  pub next : w.next ≡ 0
  pub stopped : w.stopped ≡ None
  pub is_reported : w.is_reported ≡ false

-- a run of it, whatever the link and the clock say
abbrev pub ServeIsReplay : Type 0
ServeIsReplay = (o : Options) (w : Pair) (address : List ℕ) (said : Said) → IsFresh w
    → IsAsked (serve o w address said) said
    → IsReplay (with_frames (frames_of (heard_of said)) w) o.rounds said (serve o w address said)
