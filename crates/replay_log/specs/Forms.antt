-- The forms of each text's lines, as tables: what stands at each place of a line.
use Rattle.std.specs.Prelude.{List, [], ◌∷◌, ◌++◌}
use Rattle.replay_log.specs.declared.keywords.Keyword.TheVariants as keyword
use Rattle.replay_log.specs.declared.places.Place.{Place}
use Rattle.replay_log.specs.declared.places.Place.TheVariants.{Word, Number, Opening, SeenFrame}
use Rattle.replay_log.specs.declared.forms.LineForm.{LineForm}
use Rattle.replay_log.specs.declared.forms.LineForm.TheVariants as line
use Rattle.replay_log.specs.declared.forms.AnswerForm.{AnswerForm}
use Rattle.replay_log.specs.declared.forms.AnswerForm.TheVariants as answer
use Rattle.replay_log.specs.declared.forms.MarkForm.{MarkForm}
use Rattle.replay_log.specs.declared.forms.MarkForm.TheVariants as mark
use Rattle.replay_log.specs.declared.forms.TurnForm.{TurnForm}
use Rattle.replay_log.specs.declared.forms.TurnForm.TheVariants as turn
use Rattle.replay_log.specs.declared.forms.Form.{Form}
use Rattle.replay_log.specs.declared.forms.Form.TheVariants as form

-- ---- the ranges

-- a number below 2^32, and one below 2^64
abbrev pub word32 : Place
word32 = Number 0 4294967295

abbrev pub word64 : Place
word64 = Number 0 18446744073709551615

-- whether a turn takes a frame, its most block requests, and its steps
abbrev pub flag : Place
flag = Number 0 1

abbrev pub requests : Place
requests = Number 0 256

abbrev pub steps : Place
steps = Number 0 100000

-- a message's kind, or the number of a reason to drop a frame
abbrev pub kind : Place
kind = Number 1 14

-- a number that is fixed
abbrev pub zero_alone : Place
zero_alone = Number 0 0

abbrev pub one_alone : Place
one_alone = Number 1 1

-- ---- the forms

abbrev pub line_places : LineForm → List Place
line_places line.Primary = Word keyword.Primary ∷ word32 ∷ flag ∷ requests ∷ steps ∷ []
line_places line.Secondary = Word keyword.Secondary ∷ word32 ∷ flag ∷ requests ∷ steps ∷ []
line_places line.Client = Word keyword.Client ∷ []
line_places line.ToSecondary = Word keyword.ToSecondary ∷ []
line_places line.ToPrimary = Word keyword.ToPrimary ∷ []
line_places line.StopPrimary = Word keyword.Stop ∷ Word keyword.OfPrimary ∷ []
line_places line.StopSecondary = Word keyword.Stop ∷ Word keyword.OfSecondary ∷ []
line_places line.Report = Word keyword.Report ∷ []
line_places line.Ask = Word keyword.Ask ∷ []

-- an answer, with the colon before it
abbrev pub answer_places : AnswerForm → List Place
answer_places answer.Nothing = Word keyword.Answered ∷ Word keyword.Absent ∷ []
answer_places answer.MadeWithout = Word keyword.Answered ∷ Word keyword.Absent ∷ word64 ∷ []
answer_places answer.MadeWith = Word keyword.Answered ∷ word64 ∷ word64 ∷ []
answer_places answer.AcceptedUnseen = Word keyword.Answered ∷ word64 ∷ Word keyword.Absent
    ∷ word32 ∷ word64 ∷ []
answer_places answer.AcceptedSeen = Word keyword.Answered ∷ word64 ∷ Opening ∷ word32 ∷ word64 ∷ []
answer_places answer.Arp = Word keyword.Answered ∷ word64 ∷ Word keyword.Arp ∷ one_alone ∷ []
answer_places answer.Dropped = Word keyword.Answered ∷ word64 ∷ Word keyword.Drop ∷ kind ∷ []
answer_places answer.Full = Word keyword.Answered ∷ word64 ∷ Word keyword.Full ∷ []
answer_places answer.Lost = Word keyword.Answered ∷ word64 ∷ Word keyword.Lost ∷ []
answer_places answer.Heard = Word keyword.Answered ∷ kind ∷ []
answer_places answer.HeardFull = Word keyword.Answered ∷ one_alone ∷ Word keyword.Full ∷ []
answer_places answer.HeardBack = Word keyword.Answered ∷ kind ∷ word64 ∷ word64 ∷ []
answer_places answer.Zero = Word keyword.Answered ∷ zero_alone ∷ []
answer_places answer.Reported = Word keyword.Answered ∷ word64 ∷ []

abbrev pub mark_places : MarkForm → List Place
mark_places mark.Differ = Word keyword.Mark ∷ Word keyword.Captured ∷ word32
    ∷ Word keyword.Differ ∷ []
mark_places mark.Restart = Word keyword.Mark ∷ Word keyword.Captured ∷ word32
    ∷ Word keyword.Restart ∷ []
mark_places mark.Wait = Word keyword.Mark ∷ Word keyword.Captured ∷ word32 ∷ Word keyword.Wait ∷ []
mark_places mark.Asked = Word keyword.Mark ∷ Word keyword.Captured ∷ word32 ∷ Word keyword.Asked
    ∷ []
mark_places mark.Committed = Word keyword.Mark ∷ Word keyword.Committed ∷ word32 ∷ []
mark_places mark.Acknowledged = Word keyword.Mark ∷ Word keyword.Acknowledged ∷ word32 ∷ []

abbrev pub turn_places : TurnForm → List Place
turn_places turn.Absent = Word keyword.Turn ∷ word32 ∷ Word keyword.Absent ∷ requests ∷ steps ∷ []
turn_places turn.Plain = Word keyword.Turn ∷ word32 ∷ word64 ∷ requests ∷ steps ∷ []
turn_places turn.Seen = Word keyword.Turn ∷ word32 ∷ SeenFrame ∷ requests ∷ steps ∷ []

-- an event's line and its answer
abbrev pub front_places : Form → List Place
front_places (form.Line l) = line_places l
front_places (form.Event l a) = line_places l
front_places (form.Mark m) = mark_places m
front_places (form.Turn t) = turn_places t

abbrev pub back_places : Form → List Place
back_places (form.Line l) = []
back_places (form.Event l a) = answer_places a
back_places (form.Mark m) = []
back_places (form.Turn t) = []

abbrev pub places_of : Form → List Place
places_of f = front_places f ++ back_places f

-- ---- the tables

abbrev pub schedule_forms : List Form
schedule_forms =
    form.Line line.Primary
    ∷ form.Line line.Secondary
    ∷ form.Line line.Client
    ∷ form.Line line.ToSecondary
    ∷ form.Line line.ToPrimary
    ∷ form.Line line.StopPrimary
    ∷ form.Line line.StopSecondary
    ∷ form.Line line.Report
    ∷ form.Line line.Ask
    ∷ []

abbrev pub log_forms : List Form
log_forms =
    form.Event line.Primary answer.Nothing
    ∷ form.Event line.Primary answer.MadeWithout
    ∷ form.Event line.Primary answer.MadeWith
    ∷ form.Event line.Secondary answer.Nothing
    ∷ form.Event line.Secondary answer.MadeWithout
    ∷ form.Event line.Secondary answer.MadeWith
    ∷ form.Event line.Client answer.Nothing
    ∷ form.Event line.Client answer.AcceptedUnseen
    ∷ form.Event line.Client answer.AcceptedSeen
    ∷ form.Event line.Client answer.Arp
    ∷ form.Event line.Client answer.Dropped
    ∷ form.Event line.Client answer.Full
    ∷ form.Event line.Client answer.Lost
    ∷ form.Event line.ToSecondary answer.Nothing
    ∷ form.Event line.ToSecondary answer.Heard
    ∷ form.Event line.ToSecondary answer.HeardFull
    ∷ form.Event line.ToPrimary answer.Nothing
    ∷ form.Event line.ToPrimary answer.HeardBack
    ∷ form.Event line.StopPrimary answer.Zero
    ∷ form.Event line.StopSecondary answer.Zero
    ∷ form.Event line.Report answer.Reported
    ∷ form.Event line.Ask answer.Nothing
    ∷ form.Event line.Ask answer.Zero
    ∷ form.Mark mark.Differ
    ∷ form.Mark mark.Restart
    ∷ form.Mark mark.Wait
    ∷ form.Mark mark.Asked
    ∷ form.Mark mark.Committed
    ∷ form.Mark mark.Acknowledged
    ∷ []

abbrev pub single_forms : List Form
single_forms = form.Turn turn.Absent ∷ form.Turn turn.Plain ∷ form.Turn turn.Seen ∷ []
