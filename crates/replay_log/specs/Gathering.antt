-- What a text's lines are a list of.
use Rattle.std.specs.Prelude.{Bool, true, false, List, [], ◌∷◌, Option, Some, None}
use Rattle.replay_log.specs.declared.items.Item.{Item}
use Rattle.replay_log.specs.declared.items.Item.TheVariants as item
use Rattle.replay_log.specs.declared.lines.Line.{Line}
use Rattle.replay_log.specs.declared.turns.Turn.{Turn}

abbrev pub line_in : Item → Option Line
line_in (item.Line l) = Some l
line_in (item.Event l a) = None
line_in (item.Mark m) = None
line_in (item.Turn t) = None

abbrev pub turn_in : Item → Option Turn
turn_in (item.Line l) = None
turn_in (item.Event l a) = None
turn_in (item.Mark m) = None
turn_in (item.Turn t) = Some t

abbrev pub is_mark : Item → Bool
is_mark (item.Line l) = false
is_mark (item.Event l a) = false
is_mark (item.Mark m) = true
is_mark (item.Turn t) = false

-- an event or a mark
abbrev pub is_of_log : Item → Bool
is_of_log (item.Line l) = false
is_of_log (item.Event l a) = true
is_of_log (item.Mark m) = true
is_of_log (item.Turn t) = false

abbrev pub begins_with_mark : List Item → Bool
begins_with_mark [] = false
begins_with_mark (x ∷ xs) = is_mark x
