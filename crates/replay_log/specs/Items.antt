-- The spelling of each line: its form, and the numbers that stand in it.
use Rattle.std.specs.Prelude.{ℕ, Bool, true, false, ◌&&◌, if◌then◌else◌, List, [], ◌∷◌, ◌++◌, Some, None}
use Rattle.std.specs.List.{join_with_byte}
use Rattle.colo_base.specs.declared.fault.Cause.TheVariants as cause
use Rattle.shared_definitions.specs.Ascii.{newline, space}
use Rattle.replay_log.specs.Forms.{line_places, answer_places, mark_places, turn_places}
use Rattle.replay_log.specs.Places.{places_words, are_in_range}
use Rattle.replay_log.specs.declared.forms.LineForm.{LineForm}
use Rattle.replay_log.specs.declared.forms.LineForm.TheVariants as line
use Rattle.replay_log.specs.declared.forms.AnswerForm.{AnswerForm}
use Rattle.replay_log.specs.declared.forms.AnswerForm.TheVariants as answer
use Rattle.replay_log.specs.declared.forms.MarkForm.{MarkForm}
use Rattle.replay_log.specs.declared.forms.MarkForm.TheVariants as mark
use Rattle.replay_log.specs.declared.forms.TurnForm.{TurnForm}
use Rattle.replay_log.specs.declared.forms.TurnForm.TheVariants as turn
use Rattle.replay_log.specs.declared.forms.Form.{Form}
use Rattle.replay_log.specs.declared.forms.Form.TheVariants as form
use Rattle.replay_log.specs.declared.items.Item.{Item}
use Rattle.replay_log.specs.declared.items.Item.TheVariants as item
use Rattle.replay_log.specs.declared.lines.Line.{Line}
use Rattle.replay_log.specs.declared.lines.Line.TheVariants.{Primary, Secondary, Client, ToSecondary, ToPrimary, StopPrimary, StopSecondary, Report, Ask}
use Rattle.replay_log.specs.declared.records.Answer.{Answer}
use Rattle.replay_log.specs.declared.records.Answer.TheVariants.{Nothing, Made, Accepted, Arp, Dropped, Full, Lost, Heard, HeardBack, Zero, Reported}
use Rattle.replay_log.specs.declared.records.Mark.{Mark}
use Rattle.replay_log.specs.declared.records.Mark.TheVariants.{Captured, Committed, Acknowledged}
use Rattle.replay_log.specs.declared.turns.Turn.{Turn}
use Rattle.replay_log.specs.declared.turns.TurnFrame.{TurnFrame}
use Rattle.replay_log.specs.declared.turns.TurnFrame.TheVariants.{Absent, Plain, Seen}

-- 0 or 1
abbrev pub flag_number : Bool → ℕ
flag_number b = if b then 1 else 0

-- ---- a line of a schedule

abbrev pub line_form : Line → LineForm
line_form (Primary d i b n) = line.Primary
line_form (Secondary d i b n) = line.Secondary
line_form Client = line.Client
line_form ToSecondary = line.ToSecondary
line_form ToPrimary = line.ToPrimary
line_form StopPrimary = line.StopPrimary
line_form StopSecondary = line.StopSecondary
line_form Report = line.Report
line_form Ask = line.Ask

abbrev pub line_numbers : Line → List ℕ
line_numbers (Primary d i b n) = d ∷ flag_number i ∷ b ∷ n ∷ []
line_numbers (Secondary d i b n) = d ∷ flag_number i ∷ b ∷ n ∷ []
line_numbers Client = []
line_numbers ToSecondary = []
line_numbers ToPrimary = []
line_numbers StopPrimary = []
line_numbers StopSecondary = []
line_numbers Report = []
line_numbers Ask = []

-- ---- an answer

abbrev pub answer_form : Answer → AnswerForm
answer_form Nothing = answer.Nothing
answer_form (Made None released) = answer.MadeWithout
answer_form (Made (Some frame) released) = answer.MadeWith
answer_form (Accepted index None trim released) = answer.AcceptedUnseen
answer_form (Accepted index (Some seen) trim released) = answer.AcceptedSeen
answer_form (Arp index) = answer.Arp
answer_form (Dropped index why) = answer.Dropped
answer_form (Full index) = answer.Full
answer_form (Lost index) = answer.Lost
answer_form (Heard kind true) = answer.HeardFull
answer_form (Heard kind false) = answer.Heard
answer_form (HeardBack kind sent released) = answer.HeardBack
answer_form Zero = answer.Zero
answer_form (Reported released) = answer.Reported

abbrev pub answer_numbers : Answer → List ℕ
answer_numbers Nothing = []
answer_numbers (Made None released) = released ∷ []
answer_numbers (Made (Some frame) released) = frame ∷ released ∷ []
answer_numbers (Accepted index None trim released) = index ∷ trim ∷ released ∷ []
answer_numbers (Accepted index (Some seen) trim released) = index ∷ seen.client ∷ seen.own
    ∷ trim ∷ released ∷ []
answer_numbers (Arp index) = index ∷ 1 ∷ []
answer_numbers (Dropped index why) = index ∷ why ∷ []
answer_numbers (Full index) = index ∷ []
answer_numbers (Lost index) = index ∷ []
answer_numbers (Heard kind full) = kind ∷ []
answer_numbers (HeardBack kind sent released) = kind ∷ sent ∷ released ∷ []
answer_numbers Zero = 0 ∷ []
answer_numbers (Reported released) = released ∷ []

-- ---- a mark

abbrev pub mark_form : Mark → MarkForm
mark_form (Captured e cause.Differ) = mark.Differ
mark_form (Captured e cause.Restart) = mark.Restart
mark_form (Captured e cause.Wait) = mark.Wait
mark_form (Captured e cause.Asked) = mark.Asked
mark_form (Committed e) = mark.Committed
mark_form (Acknowledged e) = mark.Acknowledged

abbrev pub mark_numbers : Mark → List ℕ
mark_numbers (Captured e why) = e ∷ []
mark_numbers (Committed e) = e ∷ []
mark_numbers (Acknowledged e) = e ∷ []

-- ---- a turn of a single run

abbrev pub frame_form : TurnFrame → TurnForm
frame_form Absent = turn.Absent
frame_form (Plain index) = turn.Plain
frame_form (Seen index opening) = turn.Seen

abbrev pub frame_numbers : TurnFrame → List ℕ
frame_numbers Absent = []
frame_numbers (Plain index) = index ∷ []
frame_numbers (Seen index opening) = index ∷ opening.client ∷ opening.own ∷ []

abbrev pub turn_numbers : Turn → List ℕ
turn_numbers t = t.d ∷ (frame_numbers t.frame ++ t.b ∷ t.n ∷ [])

-- ---- any line

abbrev pub item_form : Item → Form
item_form (item.Line l) = form.Line (line_form l)
item_form (item.Event l a) = form.Event (line_form l) (answer_form a)
item_form (item.Mark m) = form.Mark (mark_form m)
item_form (item.Turn t) = form.Turn (frame_form t.frame)

abbrev pub line_words : Line → List (List ℕ)
line_words l = places_words (line_places (line_form l)) 0 (line_numbers l)

abbrev pub answer_words : Answer → List (List ℕ)
answer_words a = places_words (answer_places (answer_form a)) 0 (answer_numbers a)

abbrev pub mark_words : Mark → List (List ℕ)
mark_words m = places_words (mark_places (mark_form m)) 0 (mark_numbers m)

abbrev pub turn_words : Turn → List (List ℕ)
turn_words t = places_words (turn_places (frame_form t.frame)) 0 (turn_numbers t)

abbrev pub item_words : Item → List (List ℕ)
item_words (item.Line l) = line_words l
item_words (item.Event l a) = line_words l ++ answer_words a
item_words (item.Mark m) = mark_words m
item_words (item.Turn t) = turn_words t

abbrev pub is_item_in_range : Item → Bool
is_item_in_range (item.Line l) = are_in_range (line_places (line_form l)) 0 (line_numbers l)
is_item_in_range (item.Event l a) =
    are_in_range (line_places (line_form l)) 0 (line_numbers l)
    && are_in_range (answer_places (answer_form a)) 0 (answer_numbers a)
is_item_in_range (item.Mark m) = are_in_range (mark_places (mark_form m)) 0 (mark_numbers m)
is_item_in_range (item.Turn t) = are_in_range (turn_places (frame_form t.frame)) 0 (turn_numbers t)

-- the line as it is written
unfoldable pub item_text : Item → List ℕ
item_text x = join_with_byte space (item_words x) ++ newline ∷ []
