-- What contracts see of an unframer, and what each call does to it.
use Rattle.std.specs.Prelude.{Option, None, Some, ◌≡◌, ℕ, ◌+◌, true, List, [], ◌∷◌, ◌++◌, length}
use Rattle.sock_link.specs.Stream.{is_too_long, stream_of, kept_part, IsSplit}
use Rattle.sock_link.specs.declared.fault.LinkFault.{LinkFault}
use Rattle.sock_link.specs.declared.fault.LinkFault.TheVariants as fault

-- the whole frames that wait, what has come of the unfinished record, where that one begins, and
-- how many bytes came
pub record Unframed : Type 0 where
  pub frames : List (List ℕ)
  pub part : List ℕ
  pub place : ℕ
  pub fed : ℕ

-- before any byte
abbrev pub nothing_fed : Unframed
nothing_fed = record { frames = []; part = []; place = 0; fed = 0 }

-- a piece came: its frames wait after those that did, and of the rest is kept what is needed
pub record Feeds (old new : Unframed) (piece : List ℕ) : Type 0 where
  pub frames : List (List ℕ)
  pub rest : List ℕ
  pub split : IsSplit (old.part ++ piece) frames rest
  pub waiting : new.frames ≡ old.frames ++ frames
  pub part : new.part ≡ kept_part rest
  pub place : new.place ≡ old.place + length (stream_of frames)
  pub fed : new.fed ≡ old.fed + length piece

-- what a feed leaves that isn't Ok: all as it was where memory ran out; else the piece has come,
-- and a length above the limit begins the record at that place
abbrev pub FeedEnds : Unframed → Unframed → List ℕ → LinkFault → Type 0
FeedEnds old new piece fault.NoMemory = new ≡ old
FeedEnds old new piece (fault.TooLong at) =
    Feeds old new piece × (is_too_long new.part ≡ true) × (at ≡ new.place)

-- the unframer stands after this stream, of which these frames were given: they and those that wait
-- are its frames
pub record Stands (now : Unframed) (stream : List ℕ) (given : List (List ℕ)) : Type 0 where
  pub rest : List ℕ
  pub split : IsSplit stream (given ++ now.frames) rest
  pub part : now.part ≡ kept_part rest
  pub place : now.place ≡ length (stream_of (given ++ now.frames))
  pub fed : now.fed ≡ length stream

-- the oldest frame that waits is given, and nothing else changes; none is given where none waits
abbrev pub Gives : Unframed → Unframed → Option (List ℕ) → Type 0
Gives old new None = (old.frames ≡ []) × (new ≡ old)
Gives old new (Some frame) =
    (old.frames ≡ frame ∷ new.frames) × (new ≡ record old { frames = new.frames })
