-- What holds of an unframer over a whole stream.
use Rattle.std.specs.Prelude.{◌≡◌, ℕ, ◌+◌, ◌≤◌, ◌↔◌, true, List, [], ◌∷◌, ◌++◌, All, length}
use Rattle.std.specs.List.{concat}
use Rattle.sock_link.specs.Stream.{limit, record_of, stream_of, is_too_long, IsSplit}
use Rattle.sock_link.specs.Unframed.{Unframed, nothing_fed, Feeds, Stands}

-- the pieces were fed one after another
pub data FeedsAll : Unframed → List (List ℕ) → Unframed → Type 0 where
  none : (now : Unframed) → FeedsAll now [] now
  one_more : (old mid new : Unframed) (piece : List ℕ) (pieces : List (List ℕ)) →
      Feeds old mid piece → FeedsAll mid pieces new → FeedsAll old (piece ∷ pieces) new

-- however a stream is cut into pieces, after them the unframer stands after the whole of it, the
-- frames that were given before being still the first
abbrev pub KeepsStream : Type 0
KeepsStream =
    (pieces : List (List ℕ)) (old new : Unframed) (stream : List ℕ) (given : List (List ℕ)) →
    Stands old stream given → FeedsAll old pieces new → Stands new (stream ++ concat pieces) given

-- before any byte it stands after an empty stream
abbrev pub BeginsStream : Type 0
BeginsStream = Stands nothing_fed [] []

-- a frame that is given is the next of the stream
abbrev pub GivesNext : Type 0
GivesNext =
    (old : Unframed) (stream : List ℕ) (given frames : List (List ℕ)) (frame : List ℕ) →
    Stands old stream given → old.frames ≡ frame ∷ frames →
    Stands (record old { frames = frames }) stream (given ++ frame ∷ [])

-- its unfinished record is too long exactly where the stream's rest is
abbrev pub TellsTooLong : Type 0
TellsTooLong =
    (now : Unframed) (stream rest : List ℕ) (given frames : List (List ℕ)) →
    Stands now stream given → IsSplit stream frames rest →
    is_too_long now.part ≡ is_too_long rest

-- it is at a boundary exactly where the stream has no rest, and its place is where the rest begins
abbrev pub TellsBoundary : Type 0
TellsBoundary =
    (now : Unframed) (stream rest : List ℕ) (given frames : List (List ℕ)) →
    Stands now stream given → IsSplit stream frames rest →
    ((now.part ≡ []) ↔ (rest ≡ [])) × (now.place + length rest ≡ length stream)

-- once its unfinished record is too long it stays so, at the same place, and no frame comes to wait
abbrev pub StaysStuck : Type 0
StaysStuck =
    (old new : Unframed) (piece : List ℕ) → is_too_long old.part ≡ true → Feeds old new piece →
    (is_too_long new.part ≡ true) × (new.place ≡ old.place) × (new.frames ≡ old.frames)

-- so does the stream: whatever follows a rest that is too long, its frames stay the same
abbrev pub StreamStaysStuck : Type 0
StreamStaysStuck =
    (stream more rest : List ℕ) (frames : List (List ℕ)) → IsSplit stream frames rest →
    is_too_long rest ≡ true →
    IsSplit (stream ++ more) frames (rest ++ more) × (is_too_long (rest ++ more) ≡ true)

-- a stream has no other frames and no other rest
abbrev pub IsReadOnce : Type 0
IsReadOnce =
    (bytes rest others_rest : List ℕ) (frames others : List (List ℕ)) →
    IsSplit bytes frames rest → IsSplit bytes others others_rest →
    (frames ≡ others) × (rest ≡ others_rest)

-- frames of an allowed length are read back from their records, and nothing is left
abbrev pub ReadsBack : Type 0
ReadsBack =
    (frames : List (List ℕ)) → All (λ frame. length frame ≤ limit) frames →
    IsSplit (stream_of frames) frames []

-- one record more after a stream of records is one frame more
abbrev pub AddsRecord : Type 0
AddsRecord =
    (frames : List (List ℕ)) (frame : List ℕ) →
    stream_of (frames ++ frame ∷ []) ≡ stream_of frames ++ record_of frame
