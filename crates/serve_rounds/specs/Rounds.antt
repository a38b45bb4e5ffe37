-- `serve`: the rounds of a pair on a live link.
use Rattle.std.specs.Prelude.{ℕ, zero, suc, ◌+◌, ◌-◌, ◌^◌, ◌%◌, ◌==◌, min, Bool, true, ◌&&◌, nat_lt, if◌then◌else◌, List, [], ◌∷◌, ◌++◌, drop, length, replicate, flat_map}
use Rattle.colo_base.specs.Link.{Arrival, bytes, quiet, ended}
use Rattle.colo_words.specs.declared.options.Options.{Options}
use Rattle.replay_log.specs.declared.lines.Line.{Line}
use Rattle.replay_log.specs.declared.lines.Line.TheVariants.{Primary, Secondary, Client, ToSecondary, ToPrimary, StopPrimary, Report, Ask}
use Rattle.sock_link.specs.Stream.{is_too_long, stream_of}
use Rattle.file_steps.specs.Plans.{done, refused}
use Rattle.file_steps.specs.Steps.{Step, connect, creates, send}
use Rattle.command_inputs.specs.Client.{frames_of}
use Rattle.command_inputs.specs.Reading.{client_refusal}
use Rattle.pair_core.specs.Pair.{Pair}
use Rattle.command_plans.specs.Replay.{Event, after_lines, events, replay_files, state_steps, summary_line, survivor, writes_of}
use Rattle.serve_rounds.specs.Work.{Work, does, hears, reads}

-- ---- what an event leaves

-- of nothing no send is made
abbrev pub send_step : List ℕ → List Step
send_step [] = []
send_step (byte ∷ more) = send (byte ∷ more) ∷ []

-- what it leaves in the files, and then the frames released go out as they stand in the file
abbrev pub serves_of : Event → List Step
serves_of e = writes_of e ++ send_step (stream_of e.outcome.released)

abbrev pub serves : Pair → List Line → List Step
serves w lines = flat_map serves_of (events w lines)

-- ---- a run between its events

pub record Serving : Type 0 where
  pub pair : Pair
  -- the events so far
  pub made : List Event
  -- the number of the round, from 1
  pub round : ℕ
  -- the bytes that came over the link so far
  pub heard : List ℕ
  -- the clock at each node's line before
  pub first_tick : ℕ
  pub second_tick : ℕ

-- lines in a row, and what follows
abbrev pub after_events : Serving → List Line → Serving
after_events s lines = record s {
  pair = after_lines s.pair lines;
  made = s.made ++ events s.pair lines;
}

abbrev pub makes : List Line → (Serving → Work) → Serving → Work
makes lines next s = does (serves s.pair lines) (next (after_events s lines))

-- at the end memory and disk of the survivor are written
abbrev pub finishes : Serving → Work
finishes s said = record {
  steps = state_steps (survivor s.pair).state;
  end = done (summary_line s.made);
}

-- ---- what comes over the link

-- where the record begins of which not all bytes came, and what came of it
abbrev pub place_of : List ℕ → ℕ
place_of heard = length (stream_of (frames_of heard))

abbrev pub rest_of : List ℕ → List ℕ
rest_of heard = drop (place_of heard) heard

-- a run that can't go on is refused by that place
abbrev pub refuses : Serving → Work
refuses s said = record { steps = []; end = refused (client_refusal (place_of s.heard)) }

-- the frames that more bytes complete
abbrev pub new_frames : List ℕ → List ℕ → List (List ℕ)
new_frames heard more = drop (length (frames_of heard)) (frames_of (heard ++ more))

abbrev pub hear_more : Serving → List ℕ → Serving
hear_more s more = record s {
  pair = record s.pair { frames = s.pair.frames ++ new_frames s.heard more };
  heard = s.heard ++ more;
}

-- a line `c` for each of them; a length above the limit refuses the run after those lines
abbrev pub goes_on : (Serving → Work) → Serving → Work
goes_on next s = if is_too_long (rest_of s.heard) then refuses s else next s

abbrev pub tells : List ℕ → (Serving → Work) → Serving → Work
tells more next s =
    makes (replicate (length (new_frames s.heard more)) Client) (goes_on next) (hear_more s more)

-- ---- a round

-- the clock since a node's line before
abbrev pub elapsed : ℕ → ℕ → ℕ
elapsed before now = min (now - before) (2 ^ 32 - 1)

-- at most so many messages of a link are delivered in a round
abbrev pub most_delivered : ℕ
most_delivered = 1000000

-- what waits on both links at this moment
abbrev pub delivery_lines : Pair → List Line
delivery_lines w =
    replicate (min (length w.down) most_delivered) ToSecondary
    ++ replicate (min (length w.up) most_delivered) ToPrimary

abbrev pub deliveries : (Serving → Work) → Serving → Work
deliveries next s = makes (delivery_lines s.pair) next s

abbrev pub next_round : Serving → Serving
next_round s = record s { round = s.round + 1 }

-- whether a checkpoint is due in a round: never, where `every` is 0
abbrev pub is_due : ℕ → ℕ → Bool
is_due every round = nat_lt 0 every && (round % every == 0)

module _ (o : Options) where
  -- the stop of the primary and its report, where they are due
  abbrev pub stop_lines : ℕ → List Line
  stop_lines round = if round == o.stop then StopPrimary ∷ (Report ∷ []) else []

  abbrev pub stops : (Serving → Work) → Serving → Work
  stops next s = makes (stop_lines s.round) next s

  -- a checkpoint, where one is due
  abbrev pub ask_lines : ℕ → List Line
  ask_lines round = if is_due o.every round then Ask ∷ [] else []

  abbrev pub asks : (Serving → Work) → Serving → Work
  asks next s = makes (ask_lines s.round) next s

  -- a turn of each node, after a reading of the clock
  abbrev pub first_turn : (Serving → Work) → Serving → Work
  first_turn next s = reads (λ t. makes (Primary (elapsed s.first_tick t) true 8 o.steps ∷ []) next
      (record s { first_tick = t }))

  abbrev pub second_turn : (Serving → Work) → Serving → Work
  second_turn next s =
      reads (λ t. makes (Secondary (elapsed s.second_tick t) true 8 o.steps ∷ []) next
      (record s { second_tick = t }))

  -- what follows what was heard: the checkpoint, both turns, and what was on the links then
  abbrev pub turns : (Serving → Work) → Serving → Work
  turns next = asks (first_turn (second_turn (deliveries (λ s. next (next_round s)))))

  -- by what came; at the end of the stream the run is over
  abbrev pub by_arrival : Arrival → (Serving → Work) → Serving → Work
  by_arrival (bytes more) next s = tells more (turns next) s
  by_arrival quiet next s = turns next s
  by_arrival ended next s = if length (rest_of s.heard) == 0 then finishes s else refuses s

  -- the stop, one receive, and what follows it
  unfoldable pub round : (Serving → Work) → Serving → Work
  round next = stops (λ s. hears 65536 (λ a. by_arrival a next s))

  -- so many rounds
  unfoldable pub rounds : ℕ → Serving → Work
  rounds zero s = finishes s
  rounds (suc left) s = round (rounds left) s

  -- the clock when the link was opened is that of both nodes' lines before
  abbrev pub start : Pair → ℕ → Serving
  start w t = record {
    pair = w;
    made = [];
    round = 1;
    heard = [];
    first_tick = t;
    second_tick = t;
  }

  -- the files are created, then the link is opened, the clock is read, and the rounds begin
  unfoldable pub serve : Pair → List ℕ → Work
  serve w address =
      does (creates replay_files ++ connect address ∷ []) (reads (λ t. rounds o.rounds (start w t)))
