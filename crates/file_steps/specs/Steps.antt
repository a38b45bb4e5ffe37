-- The work of a call on the outside as a list of steps, what steps leave, and what a part of them
-- leaves.
use Rattle.std.specs.Prelude.{◌≡◌, ℕ, ◌+◌, ◌-◌, ◌^◌, ◌≤◌, Bool, true, false, IsTrue, List, [], ◌∷◌, ◌++◌, Option, Some, unwrap_or, flat_map, sum_by, fold, length, take, ◌⊎◌, if◌then◌else◌}
use Rattle.std.specs.Io.{StartsWith}
use Rattle.std.specs.List.{list_any}
use Rattle.std.specs.Str.{bytes_eq}
use Rattle.colo_base.specs.Clock.{ClockState}
use Rattle.colo_base.specs.Count.{Increased}
use Rattle.colo_base.specs.Link.{LinkState, LinkGoesOn, Arrival, Answer, answer, Sends, NoOpenFailed, NoReceiveFailed, NoSendFailed}
use Rattle.colo_base.specs.Link as arrival
use Rattle.colo_base.specs.declared.traits.Heard.{Heard}
use Rattle.colo_base.specs.declared.traits.Heard.TheVariants as heard
use Rattle.colo_base.specs.Shelf.{ShelfState, ChangesOnly, NoFetchFailed, NoWriteFailed}
use Rattle.file_steps.specs.declared.fault.Fault.{Fault}
use Rattle.file_steps.specs.declared.fault.Fault.TheVariants.{Usage, Refused, Read, Write, NoMemory}

-- one thing that is done to the outside; a file is named by what its name ends with
pub data Step : Type 0 where
  -- the file is made empty
  create : List ℕ → Step
  -- the bytes come after those of the file
  append : List ℕ → List ℕ → Step
  -- the link is opened to this address
  connect : List ℕ → Step
  -- one receive, with room for so many bytes
  hear : ℕ → Step
  -- one reading of the clock
  read_clock : Step
  -- the bytes are sent over the link
  send : List ℕ → Step

-- the files without bytes, in this order
abbrev pub creates : List (List ℕ) → List Step
creates ends = flat_map (λ end. create end ∷ []) ends

-- an append of nothing is no step
abbrev pub append_step : List ℕ → List ℕ → List Step
append_step end [] = []
append_step end (byte ∷ bytes) = append end (byte ∷ bytes) ∷ []

-- what the outside said in a call: what came at each receive, and the numbers of the clock
pub record Said : Type 0 where
  pub arrivals : List Arrival
  pub ticks : List ℕ

abbrev pub nothing : Said
nothing = record { arrivals = []; ticks = [] }

abbrev pub came : Arrival → Said
came a = record { arrivals = a ∷ []; ticks = [] }

abbrev pub ticked : ℕ → Said
ticked t = record { arrivals = []; ticks = t ∷ [] }

-- what was said, and then more
abbrev pub said_then : Said → Said → Said
said_then a b = record { arrivals = a.arrivals ++ b.arrivals; ticks = a.ticks ++ b.ticks }

-- what came at a receive, by its answer and the buffer afterwards
abbrev pub arrival_of : List ℕ → Heard → Arrival
arrival_of into (heard.Took n) = arrival.bytes (take n into)
arrival_of into heard.Quiet = arrival.quiet
arrival_of into heard.Ended = arrival.ended

-- the outside at one moment
pub record Outside : Type 0 where
  pub shelf : ShelfState
  pub link : LinkState
  pub clock : ClockState

abbrev pub outside : ShelfState → LinkState → ClockState → Outside
outside shelf link clock = record { shelf = shelf; link = link; clock = clock }

-- ---- what steps leave

-- the bytes of each file whose name begins with OUT, by what follows; None where there is no file
abbrev pub Files : Type 0
Files = List ℕ → Option (List ℕ)

abbrev pub file_name : List ℕ → List ℕ → List ℕ
file_name out end = out ++ end

abbrev pub files_of : ShelfState → List ℕ → Files
files_of shelf out = λ end. shelf.contents (out ++ end)

abbrev pub after_step : Files → Step → Files
after_step files (create end) = λ e. if bytes_eq e end then Some [] else files e
after_step files (append end bytes) =
    λ e. if bytes_eq e end then Some (unwrap_or (files e) [] ++ bytes) else files e
after_step files _ = files

abbrev pub after_steps : Files → List Step → Files
after_steps files steps = fold after_step files steps

abbrev pub sent_by : Step → List ℕ
sent_by (send bytes) = bytes
sent_by _ = []

-- for how many bytes it has room, where it hears
abbrev pub room_of : Step → List ℕ
room_of (hear room) = room ∷ []
room_of _ = []

abbrev pub readings_of : Step → ℕ
readings_of read_clock = 1
readings_of _ = 0

abbrev pub connects : Step → Bool
connects (connect address) = true
connects _ = false

abbrev pub answers_of : List ℕ → List Arrival → List Answer
answers_of [] arrivals = []
answers_of (room ∷ rooms) [] = []
answers_of (room ∷ rooms) (a ∷ arrivals) = answer room a ∷ answers_of rooms arrivals

-- the clock gave these numbers; of a list that is full nothing is said
pub record GivesAll (old new : ClockState) (ticks : List ℕ) : Type 0 where
  pub observable : new.observable ≡ old.observable
  pub given : IsTrue old.observable → length old.given + length ticks ≤ 2 ^ 64 - 1
      → new.given ≡ old.given ++ ticks

-- the name begins with OUT
abbrev pub IsNamed : List ℕ → List ℕ → Type 0
IsNamed out name = (end : List ℕ) × (name ≡ out ++ end)

-- the steps were carried out, in order, the outside said this, and nothing else changed
pub record Carried (out : List ℕ) (steps : List Step) (said : Said) (old new : Outside)
    : Type 0 where
  pub change : ChangesOnly (IsNamed out) old.shelf new.shelf
  pub fetches : NoFetchFailed old.shelf new.shelf
  pub files : IsTrue old.shelf.observable → (end : List ℕ) → new.shelf.contents (out ++ end)
      ≡ after_steps (files_of old.shelf out) steps end
  pub link : LinkGoesOn old.link new.link
  pub opened : new.link.opened ≡ (if list_any connects steps then true else old.link.opened)
  pub sent : Sends old.link new.link (flat_map sent_by steps)
  pub heard : IsTrue old.link.observable
      → new.link.answers ≡ old.link.answers ++ answers_of (flat_map room_of steps) said.arrivals
  pub asked : length said.arrivals ≡ length (flat_map room_of steps)
  pub given : GivesAll old.clock new.clock said.ticks
  pub readings : length said.ticks ≡ sum_by readings_of steps

-- ---- a part of them

-- nothing of the next step, or a part of it
abbrev pub IsPartOf : List Step → List Step → Type 0
IsPartOf (create end ∷ rest) part = (part ≡ []) ⊎ (part ≡ create end ∷ [])
IsPartOf (append end bytes ∷ rest) part =
    (part ≡ []) ⊎ ((front : List ℕ) × StartsWith bytes front × (part ≡ append end front ∷ []))
IsPartOf (send bytes ∷ rest) part =
    (part ≡ []) ⊎ ((front : List ℕ) × StartsWith bytes front × (part ≡ send front ∷ []))
IsPartOf _ part = part ≡ []

-- these were made: the first of the steps, and perhaps a part of the next one; the rest is left
pub record IsFront (steps made rest : List Step) : Type 0 where
  pub done : List Step
  pub part : List Step
  pub place : steps ≡ done ++ rest
  pub next : IsPartOf rest part
  pub made_is : made ≡ done ++ part

-- the work was cut off before these steps, the first of which may have been made in part
pub record CutOff (out : List ℕ) (steps rest : List Step) (said : Said) (old new : Outside)
    : Type 0 where
  pub made : List Step
  pub front : IsFront steps made rest
  pub carried : Carried out made said old new

-- ---- a step that failed

-- a create, an append or a send failed, by its count
abbrev pub WriteFailed : List ℕ → Outside → Outside → Step → Type 0
WriteFailed out old new (create end) =
    Increased (old.shelf.write_faults (out ++ end)) (new.shelf.write_faults (out ++ end))
WriteFailed out old new (append end bytes) =
    Increased (old.shelf.write_faults (out ++ end)) (new.shelf.write_faults (out ++ end))
WriteFailed out old new (send bytes) = Increased old.link.send_faults new.link.send_faults
WriteFailed out old new _ = ⊥

-- a connect or a receive failed, by its count
abbrev pub HearFailed : Outside → Outside → Step → Type 0
HearFailed old new (connect address) =
    Increased (old.link.open_faults address) (new.link.open_faults address)
HearFailed old new (hear room) = Increased old.link.receive_faults new.link.receive_faults
HearFailed old new _ = ⊥

-- P holds of the first of the steps
abbrev pub OfFirst : (Step → Type 0) → List Step → Type 0
OfFirst P [] = ⊥
OfFirst P (s ∷ steps) = P s

-- P holds of one of them
abbrev pub OfOne : (Step → Type 0) → List Step → Type 0
OfOne P [] = ⊥
OfOne P (s ∷ steps) = P s ⊎ OfOne P steps

-- the work was cut off at a step of which P holds
pub record FailsAt (out : List ℕ) (steps : List Step) (said : Said) (old new : Outside)
    (P : Step → Type 0) : Type 0 where
  pub rest : List Step
  pub cut : CutOff out steps rest said old new
  pub failed : OfFirst P rest

-- the work was cut off somewhere
pub record IsCutOff (out : List ℕ) (steps : List Step) (said : Said) (old new : Outside)
    : Type 0 where
  pub rest : List Step
  pub cut : CutOff out steps rest said old new

-- how steps fail: at one that failed, or out of memory
abbrev pub Fails : List ℕ → List Step → Said → Outside → Outside → Fault → Type 0
Fails out steps said old new Usage = ⊥
Fails out steps said old new (Refused refusal) = ⊥
Fails out steps said old new Read = FailsAt out steps said old new (HearFailed old new)
Fails out steps said old new Write = FailsAt out steps said old new (WriteFailed out old new)
Fails out steps said old new NoMemory = IsCutOff out steps said old new

-- no call failed
pub record NoneFailed (old new : Outside) : Type 0 where
  pub writes : NoWriteFailed old.shelf new.shelf
  pub opens : NoOpenFailed old.link new.link
  pub receives : NoReceiveFailed old.link new.link
  pub sends : NoSendFailed old.link new.link

-- all of them were carried out, and no call failed
pub record Done (out : List ℕ) (steps : List Step) (said : Said) (old new : Outside)
    : Type 0 where
  pub carried : Carried out steps said old new
  pub none : NoneFailed old new

-- ---- steps on files alone, whatever the link and the clock are

abbrev pub Writes : List ℕ → List Step → ShelfState → ShelfState → Type 0
Writes out steps old new = (l : LinkState) (k : ClockState)
    → Done out steps nothing (outside old l k) (outside new l k)

abbrev pub FailsToWrite : List ℕ → List Step → ShelfState → ShelfState → Fault → Type 0
FailsToWrite out steps old new fault = (l : LinkState) (k : ClockState)
    → Fails out steps nothing (outside old l k) (outside new l k) fault
