-- A log that is read from its end: which turns count, token by token.
use Rattle.std.specs.Prelude.{ℕ, Bool, true, false, ◌==◌, if◌then◌else◌, Option, List, [], ◌∷◌, ◌++◌, map}
use Rattle.replay_log.specs.declared.records.Mark.{Mark}
use Rattle.replay_log.specs.declared.records.Mark.TheVariants.{Captured, Committed, Acknowledged}
use Rattle.replay_log.specs.declared.turns.Turn.{Turn}
use Rattle.tcp_track.specs.declared.openings.Opening.{Opening}
use Rattle.replay_log.specs.declared.records.Record.{Record}
use Rattle.splice_run.specs.Frames.{turn_with}
use Rattle.splice_run.specs.Tokens.{Taken, Token, by_primary, by_secondary, captures, commits, made_frame, turn_tokens}
use Rattle.splice_run.specs.declared.parts.Part.{Part}
use Rattle.splice_run.specs.declared.parts.Part.TheVariants.{AfterCommit, Between, BeforeCapture}

-- what stands before a capture, or before a commit
abbrev pub part_at_capture : ℕ → Part → Part
part_at_capture e AfterCommit = AfterCommit
part_at_capture e (Between n) = if e == n then BeforeCapture else Between n
part_at_capture e BeforeCapture = BeforeCapture

abbrev pub part_at_commit : ℕ → Part → Part
part_at_commit e AfterCommit = Between e
part_at_commit e (Between n) = Between n
part_at_commit e BeforeCapture = BeforeCapture

abbrev pub part_before : Part → Mark → Part
part_before part (Captured e why) = part_at_capture e part
part_before part (Committed e) = part_at_commit e part
part_before part (Acknowledged e) = part

-- the last mark first
abbrev pub part_before_all : Part → List Mark → Part
part_before_all part [] = part
part_before_all part (mark ∷ marks) = part_before (part_before_all part marks) mark

-- whether a turn of the primary counts, and one of the secondary
abbrev pub takes_primary : Part → Bool
takes_primary AfterCommit = false
takes_primary (Between e) = false
takes_primary BeforeCapture = true

abbrev pub takes_secondary : Part → Bool
takes_secondary AfterCommit = true
takes_secondary (Between e) = false
takes_secondary BeforeCapture = false

abbrev pub taken_of : Part → Token → List Taken
taken_of part (by_primary t) = if takes_primary part then t ∷ [] else []
taken_of part (by_secondary t) = if takes_secondary part then t ∷ [] else []
taken_of part (captures e) = []
taken_of part (commits e) = []

abbrev pub all_counted : Part → List Token → List Taken
all_counted part [] = []
all_counted part (t ∷ tokens) = taken_of part t ++ all_counted part tokens

-- the turns of a log that is read from its end, in the order of the log
abbrev pub counted_back : (ℕ → Option (Option Opening)) → Part → List Record → List Turn
counted_back seen part [] = []
counted_back seen part (r ∷ back) =
    let here = part_before_all part r.marks in
    counted_back seen here back
    ++ map (turn_with seen) (all_counted here (turn_tokens r.line (made_frame r.answer)))
