-- A large valid input from a number: the lines of a schedule by the numbers drawn, and the frames
-- of a client.
use Rattle.std.specs.Prelude.{ℕ, ◌/◌, ◌%◌, ◌^◌, ◌==◌, Bool, true, false, if◌then◌else◌, List, [], ◌∷◌, ◌++◌, flat_map, map, replicate}
use Rattle.std.specs.List.{count_by, range_with_len}
use Rattle.replay_log.specs.Texts.{line_text}
use Rattle.replay_log.specs.declared.lines.Line.{Line}
use Rattle.replay_log.specs.declared.lines.Line.TheVariants.{Primary, Secondary, Client, ToSecondary, ToPrimary, StopPrimary, StopSecondary, Report, Ask}
use Rattle.input_maker.specs.Client.{client_frame}
use Rattle.input_maker.specs.Draws.{draws}

-- ---- the lines of a turn, by the number drawn for it

-- a client's frame comes at one number of four
abbrev pub client_lines : ℕ → List Line
client_lines x = if x % 4 == 0 then Client ∷ [] else []

-- a checkpoint is asked for at one of 64
abbrev pub ask_lines : ℕ → List Line
ask_lines x = if x % 64 == 1 then Ask ∷ [] else []

abbrev pub first_line : ℕ → Line
first_line x = Primary (x / 2 ^ 8 % 1024) true 8 2000

abbrev pub second_line : ℕ → Line
second_line x = Secondary (x / 2 ^ 18 % 1024) true 8 2000

-- sixteen messages each way
abbrev pub delivery_lines : List Line
delivery_lines = replicate 16 ToSecondary ++ replicate 16 ToPrimary

abbrev pub turn_lines : ℕ → List Line
turn_lines x =
    client_lines x ++ (first_line x ∷ (second_line x ∷ (delivery_lines ++ ask_lines x)))

-- ---- the client's frames

abbrev pub is_client : Line → Bool
is_client (Primary d i b n) = false
is_client (Secondary d i b n) = false
is_client Client = true
is_client ToSecondary = false
is_client ToPrimary = false
is_client StopPrimary = false
is_client StopSecondary = false
is_client Report = false
is_client Ask = false

-- one for each line `c`, by their indices from 0 on
abbrev pub frames_for : List Line → List (List ℕ)
frames_for lines = map client_frame (range_with_len 0 (count_by is_client lines))

-- ---- the input of so many turns that a number makes

unfoldable pub made_lines : ℕ → ℕ → List Line
made_lines number turns = flat_map turn_lines (draws turns number)

unfoldable pub made_frames : ℕ → ℕ → List (List ℕ)
made_frames number turns = frames_for (made_lines number turns)

-- the text of a schedule
abbrev pub schedule_text : List Line → List ℕ
schedule_text lines = flat_map line_text lines
