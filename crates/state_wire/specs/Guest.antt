-- What a guest means: a kind, a state, and how many turns this value has made. A kind is a record
-- of functions on states, so that the theory of a pair of guests is about plain values and never
-- about a type of guest.
use Rattle.std.specs.Prelude.{◌≡◌, ℕ, ◌+◌, ◌%◌, ◌^◌, ◌≤◌, Bool, Option, IsTrue, IsSome, List, length, take, slice_set}

-- a state: what `state` gives, the pages of memory with 4,096 bytes each, and the sectors of the
-- disk with 512 bytes each
pub record GuestState : Type 0 where
  pub bytes : List ℕ
  pub pages : List (List ℕ)
  pub sectors : List (List ℕ)

-- a turn: by how much the clock goes on, the frame that is received, the most block requests that
-- are served, and the steps
pub record GuestTurn : Type 0 where
  pub ticks : ℕ
  pub frame : Option (List ℕ)
  pub requests : ℕ
  pub steps : ℕ

abbrev pub turn_of : ℕ → Option (List ℕ) → ℕ → ℕ → GuestTurn
turn_of ticks frame requests steps =
    record { ticks = ticks; frame = frame; requests = requests; steps = steps }

-- a kind: how many pages and sectors a state has, when a frame can be received, which bytes are a
-- state's, and what a turn leaves and sends
pub record Kind : Type 0 where
  pub page_count : ℕ
  pub sector_count : ℕ
  pub can_receive : GuestState → Bool
  pub accepts : List ℕ → Bool
  pub next : GuestState → GuestTurn → GuestState
  pub sent : GuestState → GuestTurn → List (List ℕ)

pub record Meaning : Type 0 where
  pub kind : Kind
  pub state : GuestState
  pub turned : ℕ

-- a frame is received only where the guest can
abbrev pub CanReceive : Meaning → Option (List ℕ) → Type 0
CanReceive g frame = IsSome frame → IsTrue (g.kind.can_receive g.state)

-- a frame has 14 to 1,514 bytes
pub record IsFrame (frame : List ℕ) : Type 0 where
  pub from : 14 ≤ length frame
  pub to : length frame ≤ 1514

-- what a turn sends
abbrev pub sent_in : Meaning → GuestTurn → List (List ℕ)
sent_in g turn = g.kind.sent g.state turn

-- the guest after a turn: its successor state, and one turn more, counted modulo 2^64
abbrev pub after_turn : Meaning → GuestTurn → Meaning
after_turn g turn = record {
  kind = g.kind;
  state = g.kind.next g.state turn;
  turned = (g.turned + 1) % 2 ^ 64;
}

-- the guest with other state bytes, and with another page or sector; without one of that number it
-- is as it was
abbrev pub with_bytes : Meaning → List ℕ → Meaning
with_bytes g bytes = record g { state = record g.state { bytes = bytes } }

abbrev pub with_page : Meaning → ℕ → List ℕ → Meaning
with_page g k page =
    record g { state = record g.state { pages = slice_set g.state.pages k page } }

abbrev pub with_sector : Meaning → ℕ → List ℕ → Meaning
with_sector g k sector =
    record g { state = record g.state { sectors = slice_set g.state.sectors k sector } }

-- a list of frames that others were added to, at most, begins with what it was
abbrev pub BeginsWith : List (List ℕ) → List (List ℕ) → Type 0
BeginsWith new old = take (length old) new ≡ old

-- a call that failed leaves the kind and the count of turns
pub record KeepsKind (old new : Meaning) : Type 0 where
  pub kind : new.kind ≡ old.kind
  pub turned : new.turned ≡ old.turned
