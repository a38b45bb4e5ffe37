-- What the frames of the releasing node's own guest are in one event: what each shows, restarts,
-- numbers, what becomes due.
use Rattle.std.specs.Prelude.{Bool, true, false, if◌then◌else◌, List, [], ◌∷◌, ◌++◌, fold}
use Rattle.inet_frame.specs.Fields.{TcpFields}
use Rattle.inet_frame.specs.declared.tuple.Tuple.{Tuple}
use Rattle.tcp_track.specs.Laws.{took_after}
use Rattle.tcp_track.specs.Lines.{Item, sent}
use Rattle.tcp_track.specs.declared.answers.Took.{Took}
use Rattle.tcp_track.specs.declared.answers.What.{What}
use Rattle.tcp_track.specs.declared.answers.What.TheVariants.{Ignored, Opened, Restarted, Symbols, Reset, Refused}
use Rattle.settle_rules.specs.Numbers.{KeptNumber, new_number}
use Rattle.settle_rules.specs.Progress.{Progress, ProgressTable, progress_of, put_progress}

-- a segment that is ignored isn't noted among those of the event
abbrev pub is_ignored : What → Bool
is_ignored Ignored = true
is_ignored (Opened _) = false
is_ignored (Restarted _) = false
is_ignored (Symbols _ _) = false
is_ignored Reset = false
is_ignored (Refused _) = false

abbrev pub note_took : List Took → Took → List Took
note_took tooks took = if is_ignored took.what then tooks else tooks ++ took ∷ []

abbrev pub restarts_of : Tuple → What → List Tuple
restarts_of t Ignored = []
restarts_of t (Opened _) = []
restarts_of t (Restarted _) = t ∷ []
restarts_of t (Symbols _ _) = []
restarts_of t Reset = []
restarts_of t (Refused _) = []

-- a new opening sets the edge to 0 and ends a due reset; a reset and a refusal become due
abbrev pub progress_with : What → Progress → Progress
progress_with Ignored p = p
progress_with (Opened _) p = record p { edge = 0; reset_due = false }
progress_with (Restarted _) p = record p { edge = 0; reset_due = false }
progress_with (Symbols _ _) p = p
progress_with Reset p = record p { reset_due = true }
progress_with (Refused _) p = record p { refusal_due = true }

-- The items with the event's segments, what each of them is that isn't ignored, the tuples that
-- were restarted, the numbers kept, those of them that are new, and the progress of each tuple.
pub record OwnFrames : Type 0 where
  pub items : List Item
  pub tooks : List Took
  pub restarts : List Tuple
  pub numbers : List KeptNumber
  pub new_numbers : List KeptNumber
  pub progress : ProgressTable

abbrev pub own_with : OwnFrames → TcpFields → Took → OwnFrames
own_with own s took = record {
  items = own.items ++ sent s ∷ [];
  tooks = note_took own.tooks took;
  restarts = own.restarts ++ restarts_of took.tuple took.what;
  numbers = own.numbers ++ new_number own.numbers s;
  new_numbers = own.new_numbers ++ new_number own.numbers s;
  progress = put_progress took.tuple
      (progress_with took.what (progress_of took.tuple own.progress)) own.progress;
}

abbrev pub own_after : OwnFrames → TcpFields → OwnFrames
own_after own s = own_with own s (took_after own.items s)

abbrev pub no_own_frames : List Item → List KeptNumber → ProgressTable → OwnFrames
no_own_frames items numbers progress = record {
  items = items;
  tooks = [];
  restarts = [];
  numbers = numbers;
  new_numbers = [];
  progress = progress;
}

-- the segments of an event, taken one after the other
unfoldable pub own_frames : List Item → List KeptNumber → ProgressTable → List TcpFields → OwnFrames
unfolding took_after new_number
own_frames items numbers progress segments =
    fold own_after (no_own_frames items numbers progress) segments
