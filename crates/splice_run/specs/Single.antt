-- The single run that a log names, read from its lines, answers and marks alone: by the positions
-- of its marks, and as a fold. The two are one.
use Rattle.std.specs.Prelude.{ℕ, ◌==◌, if◌then◌else◌, Option, Some, None, List, [], ◌∷◌, ◌++◌, map, find, fold, reverse}
use Rattle.replay_log.specs.declared.records.Record.{Record}
use Rattle.replay_log.specs.declared.turns.Turn.{Turn}
use Rattle.splice_run.specs.Frames.{seen_in, turn_with}
use Rattle.splice_run.specs.Log.{has_primary_stop}
use Rattle.splice_run.specs.Tokens.{Taken, Token, by_primary, by_secondary, captures, commits, tokens}

-- ---- by positions

-- the primary's turns
abbrev pub turns_by_primary : List Token → List Taken
turns_by_primary [] = []
turns_by_primary (by_primary t ∷ tokens) = t ∷ turns_by_primary tokens
turns_by_primary (by_secondary t ∷ tokens) = turns_by_primary tokens
turns_by_primary (captures e ∷ tokens) = turns_by_primary tokens
turns_by_primary (commits e ∷ tokens) = turns_by_primary tokens

-- Of a log that is read from its end: what stands before the last capture of e; nothing where there
-- is none.
abbrev pub before_capture : ℕ → List Token → List Token
before_capture e [] = []
before_capture e (by_primary t ∷ back) = before_capture e back
before_capture e (by_secondary t ∷ back) = before_capture e back
before_capture e (captures n ∷ back) = if n == e then back else before_capture e back
before_capture e (commits n ∷ back) = before_capture e back

-- Of a log that is read from its end: the secondary's turns after the last commit, and before them
-- the primary's turns before the capture of that checkpoint. Where none was committed it is all of
-- the secondary's turns.
abbrev pub spliced_turns : List Token → List Taken
spliced_turns [] = []
spliced_turns (by_primary t ∷ back) = spliced_turns back
spliced_turns (by_secondary t ∷ back) = spliced_turns back ++ t ∷ []
spliced_turns (captures e ∷ back) = spliced_turns back
spliced_turns (commits e ∷ back) = turns_by_primary (reverse (before_capture e back))

-- the primary's turns that were made, where it doesn't stop
unfoldable pub turns_by_marks : List Record → List Taken
turns_by_marks log =
    if has_primary_stop log then spliced_turns (reverse (tokens log))
    else turns_by_primary (tokens log)

-- the single run: each turn with the frame that it took and what the frame's client event saw
unfoldable pub single_run : List Record → List Turn
unfolding turns_by_marks seen_in
single_run log = map (turn_with (seen_in log)) (turns_by_marks log)

-- ---- as a fold

-- the turns of the primary, those before the captures so far (the newest first), and the turns of
-- the secondary's guest
pub record Cut : Type 0 where
  pub primary : List Taken
  pub copies : List (ℕ × List Taken)
  pub secondary : List Taken

abbrev pub no_cut : Cut
no_cut = record { primary = []; copies = []; secondary = [] }

abbrev pub turns_of : Option (ℕ × List Taken) → List Taken
turns_of None = []
turns_of (Some copy) = copy.1

-- the primary's turns before the last capture of e
abbrev pub turns_at : ℕ → List (ℕ × List Taken) → List Taken
turns_at e copies = turns_of (find (λ copy. copy.0 == e) copies)

-- at a commit the secondary's guest becomes the captured one
abbrev pub cut_after : Cut → Token → Cut
cut_after c (by_primary t) = record c { primary = c.primary ++ t ∷ [] }
cut_after c (by_secondary t) = record c { secondary = c.secondary ++ t ∷ [] }
cut_after c (captures e) = record c { copies = (e, c.primary) ∷ c.copies }
cut_after c (commits e) = record c { secondary = turns_at e c.copies }

abbrev pub cut_of : List Token → Cut
cut_of ts = fold cut_after no_cut ts

-- all turns of the primary
unfoldable pub primary_turns : List Record → List Taken
primary_turns log = (cut_of (tokens log)).primary

-- the primary's turns before the capture of the last committed checkpoint, and then the secondary's
-- after its commit
unfoldable pub secondary_turns : List Record → List Taken
secondary_turns log = (cut_of (tokens log)).secondary

unfoldable pub taken_turns : List Record → List Taken
unfolding primary_turns secondary_turns
taken_turns log = if has_primary_stop log then secondary_turns log else primary_turns log
