-- Inboxes: the accepted frames that wait for a guest, the oldest first, at most 4,096.
use Rattle.std.specs.Prelude.{◌≡◌, Bool, true, nat_lt, length, List, [], ◌∷◌, Option, None, Some}
use Rattle.std.specs.List.{AllByRecursion}
use Rattle.frame_mirror.specs.Accepted.{is_accepted}
use Rattle.frame_mirror.specs.declared.ring.TheConstants.{INBOX_ROOM}
use Rattle.frame_mirror.specs.declared.ring.Waiting.{Waiting}

-- the oldest frame that waits is taken, and nothing else changes; none is taken where none waits
abbrev pub TakesOldest : List Waiting → List Waiting → Option Waiting → Type 0
TakesOldest old new None = (old ≡ []) × (new ≡ [])
TakesOldest old new (Some oldest) = old ≡ oldest ∷ new

-- there is room for one more
abbrev pub has_room : List Waiting → Bool
has_room inbox = nat_lt (length inbox) INBOX_ROOM

-- each frame that waits is accepted as it is
abbrev pub AreAccepted : List Waiting → Type 0
AreAccepted inbox = AllByRecursion (λ w. is_accepted w.frame ≡ true) inbox
