-- The three texts of lines, each as a function of its bytes.
use Rattle.std.specs.Prelude.{ℕ, List, [], ◌∷◌, Option, option_map, find, Result, Ok}
use Rattle.std.specs.List.{filter_map}
use Rattle.file_steps.specs.Plans.{Refusal}
use Rattle.replay_log.specs.Cases.{first_bad, form_reads}
use Rattle.replay_log.specs.Forms.{log_forms, schedule_forms, single_forms}
use Rattle.replay_log.specs.Gathering.{line_in, turn_in}
use Rattle.replay_log.specs.Making.{item_of}
use Rattle.replay_log.specs.Rows.{Row, rows_of, words_of}
use Rattle.replay_log.specs.declared.forms.Form.{Form}
use Rattle.replay_log.specs.declared.items.Item.{Item}
use Rattle.replay_log.specs.declared.items.Item.TheVariants as item
use Rattle.replay_log.specs.declared.lines.Line.{Line}
use Rattle.replay_log.specs.declared.records.Mark.{Mark}
use Rattle.replay_log.specs.declared.records.Record.{Record}
use Rattle.replay_log.specs.declared.turns.Turn.{Turn}
use Rattle.command_inputs.specs.Reading.{line_refusal, unless}

-- what a line says, by the first form that reads it
abbrev pub row_item : List Form → Row → Option Item
row_item forms row =
    let words = words_of row.content in
    option_map (λ form. item_of form words) (find (form_reads words) forms)

-- what the lines of a text say
unfoldable pub items_of : List Form → List ℕ → List Item
items_of forms text = filter_map (row_item forms) (rows_of text)

-- a text is refused by its first bad line
abbrev pub read_items : {A : Type 0} → List Form → (List Item → A) → List ℕ
    → Result A Refusal
read_items forms value text =
    unless (option_map (λ bad. line_refusal bad.line) (first_bad forms text))
    (Ok (value (items_of forms text)))

-- a schedule
unfoldable pub read_schedule : List ℕ → Result (List Line) Refusal
read_schedule text = read_items schedule_forms (filter_map line_in) text

-- a single run
unfoldable pub read_single : List ℕ → Result (List Turn) Refusal
read_single text = read_items single_forms (filter_map turn_in) text

-- the marks that stand first
abbrev pub first_marks : List Item → List Mark
first_marks [] = []
first_marks (item.Line l ∷ items) = []
first_marks (item.Event l a ∷ items) = []
first_marks (item.Mark m ∷ items) = m ∷ first_marks items
first_marks (item.Turn t ∷ items) = []

-- the events, each with the marks that follow it
abbrev pub records_of : List Item → List Record
records_of [] = []
records_of (item.Line l ∷ items) = records_of items
records_of (item.Event l a ∷ items) =
    record { line = l; answer = a; marks = first_marks items } ∷ records_of items
records_of (item.Mark m ∷ items) = records_of items
records_of (item.Turn t ∷ items) = records_of items

-- a log
unfoldable pub read_log : List ℕ → Result (List Record) Refusal
read_log text = read_items log_forms records_of text
