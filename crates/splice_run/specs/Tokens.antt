-- What a log says of turns and checkpoints, in order.
use Rattle.std.specs.Prelude.{ℕ, Option, Some, None, List, [], ◌∷◌, ◌++◌, map}
use Rattle.replay_log.specs.declared.lines.Line.{Line}
use Rattle.replay_log.specs.declared.lines.Line.TheVariants as line
use Rattle.replay_log.specs.declared.records.Answer.{Answer}
use Rattle.replay_log.specs.declared.records.Answer.TheVariants as answer
use Rattle.replay_log.specs.declared.records.Mark.{Mark}
use Rattle.replay_log.specs.declared.records.Mark.TheVariants.{Captured, Committed, Acknowledged}
use Rattle.replay_log.specs.declared.records.Record.{Record}

-- a turn that a log names: the client frame taken goes by its index
pub record Taken : Type 0 where
  pub clock : ℕ
  pub index : Option ℕ
  pub blocks : ℕ
  pub steps : ℕ

-- the index of the frame taken, of a turn that was made
abbrev pub made_frame : Answer → Option (Option ℕ)
made_frame answer.Nothing = None
made_frame (answer.Made taken released) = Some taken
made_frame (answer.Accepted index seen trim released) = None
made_frame (answer.Arp index) = None
made_frame (answer.Dropped index why) = None
made_frame (answer.Full index) = None
made_frame (answer.Lost index) = None
made_frame (answer.Heard kind full) = None
made_frame (answer.HeardBack kind sent released) = None
made_frame answer.Zero = None
made_frame (answer.Reported released) = None

-- the turn of a line with these numbers, where it was made
abbrev pub taken_with : ℕ → ℕ → ℕ → Option (Option ℕ) → List Taken
taken_with d b n None = []
taken_with d b n (Some index) = record { clock = d; index = index; blocks = b; steps = n } ∷ []

-- the turn that the primary makes at a line, and the secondary
abbrev pub taken_by_primary : Line → Option (Option ℕ) → List Taken
taken_by_primary (line.Primary d i b n) made = taken_with d b n made
taken_by_primary _ made = []

abbrev pub taken_by_secondary : Line → Option (Option ℕ) → List Taken
taken_by_secondary (line.Secondary d i b n) made = taken_with d b n made
taken_by_secondary _ made = []

-- the turn that a record says the primary made, and the secondary
abbrev pub made_by_primary : Line → Answer → List Taken
made_by_primary l a = taken_by_primary l (made_frame a)

abbrev pub made_by_secondary : Line → Answer → List Taken
made_by_secondary l a = taken_by_secondary l (made_frame a)

-- a turn of the primary, one of the secondary, a capture and a commit of a checkpoint
pub data Token : Type 0 where
  by_primary : Taken → Token
  by_secondary : Taken → Token
  captures : ℕ → Token
  commits : ℕ → Token

abbrev pub turn_tokens : Line → Option (Option ℕ) → List Token
turn_tokens l made =
    map by_primary (taken_by_primary l made) ++ map by_secondary (taken_by_secondary l made)

abbrev pub mark_tokens : List Mark → List Token
mark_tokens [] = []
mark_tokens (Captured e why ∷ marks) = captures e ∷ mark_tokens marks
mark_tokens (Committed e ∷ marks) = commits e ∷ mark_tokens marks
mark_tokens (Acknowledged e ∷ marks) = mark_tokens marks

-- an event's turn comes before its marks
abbrev pub record_tokens : Record → List Token
record_tokens r = turn_tokens r.line (made_frame r.answer) ++ mark_tokens r.marks

abbrev pub tokens : List Record → List Token
tokens [] = []
tokens (r ∷ log) = record_tokens r ++ tokens log
