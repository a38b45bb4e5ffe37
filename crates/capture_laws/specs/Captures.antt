-- A capture, and what a secondary keeps of its messages.
use Rattle.std.specs.Prelude.{◌≡◌, ℕ, ◌≤◌, false, true, is_some, List, [], ◌∷◌, drop, length, None, Some, ⊤}
use Rattle.std.specs.List.{AllByRecursion}
use Rattle.std.specs.Map.{keys_of}
use Rattle.inet_frame.specs.declared.tuple.Tuple.{Tuple}
use Rattle.tcp_track.specs.LineFields.{IsWithin, LineFields, no_fields}
use Rattle.tcp_track.specs.Segments.{same_tuple}
use Rattle.tcp_track.specs.Stands.{is_of_client}
use Rattle.tcp_track.specs.Tracking.{Tracking, current_at}
use Rattle.tcp_track.specs.declared.openings.Opening.{Opening}
use Rattle.tcp_track.specs.declared.table.Entry.{Entry}
use Rattle.seq_rewriter.specs.Kept.{KeptNumbers, number_of}
use Rattle.frame_mirror.specs.declared.ring.Waiting.{Waiting}
use Rattle.frame_mirror.specs.Inboxes.{AreAccepted}
use Rattle.frame_mirror.specs.declared.ring.TheConstants.{INBOX_ROOM}
use Rattle.state_wire.specs.Guest.{GuestState, Kind}
use Rattle.checkpoint_capture.specs.Sizes.{HaveSize}
use Rattle.colo_wire.specs.declared.messages.Message.{Message}
use Rattle.checkpoint_form.specs.Captured.{captured_messages}
use Rattle.kept_checkpoint.specs.Kept.{Kept, begin_kept, keep_all}

-- what a node captures: its guest's state, its inbox, its lines, and the numbers of their clients
pub record Capture : Type 0 where
  pub state : GuestState
  pub inbox : List Waiting
  pub lines : Tracking
  pub numbers : KeptNumbers

-- its messages but its End
abbrev pub messages_of : Capture → ℕ → List Message
messages_of x e = captured_messages x.state x.inbox x.lines x.numbers e

-- those after its Begin and its State
abbrev pub parts_of : Capture → ℕ → List Message
parts_of x e = drop 2 (messages_of x e)

-- what is kept of them before the End, by a guest with as many pages and sectors
abbrev pub kept_of : Capture → ℕ → Kept
kept_of x e =
    keep_all (begin_kept x.state.bytes (length x.state.pages) (length x.state.sectors))
    (parts_of x e)

-- ---- what is asked of lines

-- each tuple comes once
abbrev pub AreDistinct : List Tuple → Type 0
AreDistinct [] = ⊤
AreDistinct (t ∷ ts) = AllByRecursion (λ (u : Tuple). same_tuple u t ≡ false) ts × AreDistinct ts

-- without an opening a line has a refusal and a MAC alone
abbrev pub IsPlain : LineFields → Type 0
IsPlain l = l.opening ≡ None → l ≡ record no_fields { refused = l.refused; mac = l.mac }

abbrev pub ArePlain : List (Tuple × Entry) → Type 0
ArePlain entries = AllByRecursion (λ (x : Tuple × Entry). IsPlain x.1.line) entries

-- each is below the bound of offsets
abbrev pub AreWithin : List (Tuple × Entry) → Type 0
AreWithin entries = AllByRecursion (λ (x : Tuple × Entry). IsWithin x.1.line) entries

pub record AreRegular (lines : Tracking) : Type 0 where
  pub distinct : AreDistinct (keys_of lines.entries)
  pub plain : ArePlain lines.entries

-- and all of it
pub record AreCapturable (lines : Tracking) : Type 0 where
  pub regular : AreRegular lines
  pub within : AreWithin lines.entries

-- ---- what is asked of numbers

-- a number is kept for the clients of current openings, and for no others
pub record AreOfOpenings (numbers : KeptNumbers) (lines : Tracking) : Type 0 where
  pub current : (t : Tuple) (client : ℕ) → is_some (number_of numbers t client) ≡ true
      → is_of_client (current_at lines t) client ≡ true
  pub numbered : (t : Tuple) (o : Opening) → current_at lines t ≡ Some o
      → is_some (number_of numbers t o.client) ≡ true

-- ---- what a secondary asks to hear a whole capture

-- whole sectors, accepted frames for which an inbox has room, and lines within bounds
pub record CanBeHeard (x : Capture) : Type 0 where
  pub sizes : HaveSize 512 x.state.sectors
  pub accepted : AreAccepted x.inbox
  pub room : length x.inbox ≤ INBOX_ROOM
  pub lines : AreCapturable x.lines

-- the state is one of a guest of this kind
pub record IsOfKind (kind : Kind) (x : Capture) : Type 0 where
  pub accepts : kind.accepts x.state.bytes ≡ true
  pub pages : length x.state.pages ≡ kind.page_count
  pub sectors : length x.state.sectors ≡ kind.sector_count
