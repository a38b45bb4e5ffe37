-- The three texts.
use Rattle.std.specs.Prelude.{◌≡◌, ℕ, true, List, [], ◌∷◌, map, All, Contains}
use Rattle.std.specs.List.{flat_map}
use Rattle.replay_log.specs.Cases.{are_in_order}
use Rattle.replay_log.specs.Forms.{schedule_forms, log_forms, single_forms}
use Rattle.replay_log.specs.Items.{item_form, item_words, item_text, is_item_in_range}
use Rattle.replay_log.specs.declared.forms.Form.{Form}
use Rattle.replay_log.specs.declared.items.Item.{Item}
use Rattle.replay_log.specs.declared.items.Item.TheVariants as item
use Rattle.replay_log.specs.declared.lines.Line.{Line}
use Rattle.replay_log.specs.declared.records.Record.{Record}
use Rattle.replay_log.specs.declared.turns.Turn.{Turn}

-- a line has a spelling: its form is one of the text's, and its numbers are in range
pub record HasSpelling (forms : List Form) (x : Item) : Type 0 where
  pub form : Contains forms (item_form x)
  pub numbers : is_item_in_range x ≡ true

-- The text is the join of the lines' spellings, and its marks, stops and reports stand in order: no
-- mark before the first event, at most one stop, and at most one report, after the stop.
pub record IsText (forms : List Form) (items : List Item) (text : List ℕ) : Type 0 where
  pub spelled : text ≡ flat_map item_text items
  pub good : All (HasSpelling forms) items
  pub order : are_in_order [] (map item_words items) ≡ true

-- ---- a schedule

abbrev pub IsSchedule : List Line → List ℕ → Type 0
IsSchedule lines text = IsText schedule_forms (map item.Line lines) text

abbrev pub line_text : Line → List ℕ
line_text l = item_text (item.Line l)

-- ---- a log

-- an event's line with its answer, and a line for each mark
abbrev pub record_items : Record → List Item
record_items r = item.Event r.line r.answer ∷ map item.Mark r.marks

unfoldable pub log_items : List Record → List Item
log_items records = flat_map record_items records

abbrev pub IsLog : List Record → List ℕ → Type 0
IsLog records text = IsText log_forms (log_items records) text

abbrev pub record_text : Record → List ℕ
record_text r = flat_map item_text (record_items r)

-- ---- a single run

abbrev pub IsSingle : List Turn → List ℕ → Type 0
IsSingle turns text = IsText single_forms (map item.Turn turns) text

abbrev pub turn_text : Turn → List ℕ
turn_text t = item_text (item.Turn t)
