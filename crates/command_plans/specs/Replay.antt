-- The events of a pair by the lines of a schedule, and what they leave.
use Rattle.std.specs.Prelude.{◌≡◌, ℕ, ◌-◌, ◌^◌, min, List, [], ◌∷◌, ◌++◌, codes, decimal, flat_map, length, sum_by, if◌then◌else◌, None, ⊤}
use Rattle.replay_log.specs.Texts.{record_text}
use Rattle.replay_log.specs.declared.lines.Line.{Line}
use Rattle.replay_log.specs.declared.records.Mark.{Mark}
use Rattle.replay_log.specs.declared.records.Mark.TheVariants.{Captured, Committed, Acknowledged}
use Rattle.replay_log.specs.declared.records.Record.{Record}
use Rattle.sock_link.specs.Stream.{stream_of}
use Rattle.state_wire.specs.Guest.{GuestState, Meaning}
use Rattle.node_secondary.specs.Survivor.{guest_of}
use Rattle.pair_core.specs.Events.{Outcome, event_of}
use Rattle.pair_core.specs.Pair.{Pair, is_primary}
use Rattle.pair_core.specs.Steps.{refusal}
use Rattle.file_steps.specs.Events.{event_steps}
use Rattle.file_steps.specs.Steps.{Step, append_step, creates}

-- an event of a pair, with the line that asked for it
pub record Event : Type 0 where
  pub line : Line
  pub outcome : Outcome

abbrev pub event_at : Pair → Line → Event
event_at w line = record { line = line; outcome = event_of w line }

-- the events of a schedule, one after the other, and the pair after them
abbrev pub events : Pair → List Line → List Event
events w [] = []
events w (line ∷ lines) = event_at w line ∷ events (event_of w line).after lines

abbrev pub after_lines : Pair → List Line → Pair
after_lines w [] = w
after_lines w (line ∷ lines) = after_lines (event_of w line).after lines

-- no line of a schedule is refused
abbrev pub AreEvents : Pair → List Line → Type 0
AreEvents w [] = ⊤
AreEvents w (line ∷ lines) =
    (refusal w line ≡ None) × AreEvents (event_of w line).after lines

-- ---- what they leave

-- an event's record in the log
abbrev pub record_of : Event → Record
record_of e = record { line = e.line; answer = e.outcome.answer; marks = e.outcome.marks }

-- its lines of the log, then the frames released, each after its length, and then the message
-- delivered, after its direction
abbrev pub writes_of : Event → List Step
writes_of e =
    event_steps (record_text (record_of e)) (stream_of e.outcome.released) e.outcome.wire

-- memory page by page, and then the disk sector by sector
abbrev pub page_steps : List (List ℕ) → List Step
page_steps pages = flat_map (append_step (codes ".ram")) pages

abbrev pub sector_steps : List (List ℕ) → List Step
sector_steps sectors = flat_map (append_step (codes ".disk")) sectors

abbrev pub state_steps : GuestState → List Step
state_steps s = page_steps s.pages ++ sector_steps s.sectors

-- the guest of the node that survives
abbrev pub survivor : Pair → Meaning
survivor w = if is_primary w.stopped then guest_of w.second else w.first.guest

-- the files of a pair, in the order in which they are created
abbrev pub replay_files : List (List ℕ)
replay_files =
    codes ".log" ∷ (codes ".released" ∷ (codes ".wire" ∷ (codes ".ram" ∷ (codes ".disk" ∷ []))))

-- ---- the line that a replay ends with

-- how many checkpoints a mark begins
abbrev pub captures_by : Mark → ℕ
captures_by (Captured e why) = 1
captures_by (Committed e) = 0
captures_by (Acknowledged e) = 0

-- a count stands at 2^64 - 1 at most
abbrev pub count : ℕ → ℕ
count n = min n (2 ^ 64 - 1)

abbrev pub released_by : Event → ℕ
released_by e = length e.outcome.released

abbrev pub captured_by : Event → ℕ
captured_by e = sum_by captures_by e.outcome.marks

-- the events, the frames released and the checkpoints begun
unfoldable pub summary_line : List Event → List ℕ
summary_line es =
    codes "lines " ++ (decimal (length es)
    ++ (codes " released " ++ (decimal (count (sum_by released_by es))
    ++ (codes " captured " ++ (decimal (count (sum_by captured_by es)) ++ codes "\n")))))
