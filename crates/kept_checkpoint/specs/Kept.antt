-- A checkpoint that is heard message by message, and kept apart until it is whole: what each
-- message adds, which messages add nothing that could be loaded, and what the whole gives.
use Rattle.std.specs.Prelude.{◌≡◌, ℕ, ◌+◌, ◌/◌, Bool, false, ◌&&◌, nat_le, nat_lt, if◌then◌else◌, List, [], ◌∷◌, ◌++◌, fold, length, Option, None, Some, ⊤}
use Rattle.std.specs.Option.{option_map}
use Rattle.inet_frame.specs.declared.tuple.Tuple.{Tuple}
use Rattle.tcp_track.specs.Tracking.{Tracking, commit_tracking, nothing_tracked, with_line}
use Rattle.seq_rewriter.specs.Kept.{KeptNumbers, keep_number}
use Rattle.frame_mirror.specs.Accepted.{is_accepted}
use Rattle.frame_mirror.specs.Inboxes.{AreAccepted}
use Rattle.frame_mirror.specs.declared.ring.TheConstants.{INBOX_ROOM}
use Rattle.frame_mirror.specs.declared.ring.Waiting.{Waiting}
use Rattle.state_wire.specs.Guest.{Meaning}
use Rattle.colo_wire.specs.Forms.{opened}
use Rattle.colo_wire.specs.Places.{has_flag}
use Rattle.colo_wire.specs.declared.messages.Message.{Message}
use Rattle.colo_wire.specs.declared.messages.Message.TheVariants.{Page, Disk, Held, Line, Bytes}
use Rattle.kept_checkpoint.specs.Lines.{bytes_fit, line_fits, line_in, with_bytes}
use Rattle.kept_checkpoint.specs.Slots.{AreOfSize, Slots, no_parts, over, page_size, put_part, put_sectors, sector_size}
use Rattle.kept_checkpoint.specs.declared.lines.LastLine.{LastLine}

-- what was heard: the state's bytes, pages, sectors, the inbox, the lines that are whole, numbers,
-- and the line that was heard last, where bytes of it may follow
pub record Kept : Type 0 where
  pub state : List ℕ
  pub pages : Slots
  pub sectors : Slots
  pub inbox : List Waiting
  pub lines : Tracking
  pub numbers : KeptNumbers
  pub last : Option LastLine

-- pages and sectors are whole, and what waits was accepted
pub record IsKept (kept : Kept) : Type 0 where
  pub pages : AreOfSize page_size kept.pages
  pub sectors : AreOfSize sector_size kept.sectors
  pub accepted : AreAccepted kept.inbox

-- the state's bytes alone were heard, for a guest with so many pages and sectors
abbrev pub begin_kept : List ℕ → ℕ → ℕ → Kept
begin_kept state pages sectors = record {
  state = state;
  pages = no_parts pages;
  sectors = no_parts sectors;
  inbox = [];
  lines = nothing_tracked;
  numbers = [];
  last = None;
}

-- ---- which messages add something

-- a page or sectors that the guest has; an accepted frame for which there is room; a line that
-- stays below the bound, and bytes directly after it or after other bytes of it
abbrev pub fits : Kept → Message → Bool
fits kept (Page k bytes) = nat_lt k (length kept.pages)
fits kept (Disk first bytes) = nat_le (first + length bytes / sector_size) (length kept.sectors)
fits kept (Held index seen trim frame) =
    is_accepted frame && nat_lt (length kept.inbox) INBOX_ROOM
fits kept (Line tuple mac flags client own number refusal acked window mss base) =
    line_fits (Line tuple mac flags client own number refusal acked window mss base)
fits kept (Bytes bytes) = bytes_fit kept.last bytes
fits kept _ = false

-- a page is one
abbrev pub HasPageSize : Message → Type 0
HasPageSize (Page k bytes) = length bytes ≡ page_size
HasPageSize _ = ⊤

-- ---- what they add

abbrev pub close_lines : Tracking → Option LastLine → Tracking
close_lines lines None = lines
close_lines lines (Some last) = with_line lines last.tuple last.line

-- no more bytes of the last line can follow
abbrev pub close_line : Kept → Kept
close_line kept = record kept { lines = close_lines kept.lines kept.last; last = None }

-- an opened line's number is kept as that of any opening
abbrev pub number_in : KeptNumbers → Tuple → ℕ → ℕ → ℕ → KeptNumbers
number_in numbers tuple flags client number =
    if has_flag opened flags then keep_number numbers tuple client number else numbers

-- what is kept once a message is heard; of each part and each line the last that was heard stays
abbrev pub keep : Kept → Message → Kept
keep kept (Page k bytes) = record (close_line kept) { pages = put_part kept.pages k bytes }
keep kept (Disk first bytes) =
    record (close_line kept) {
      sectors =
          put_sectors first bytes (length bytes / sector_size) kept.sectors;
    }
keep kept (Held index seen trim frame) =
    record (close_line kept) {
      inbox = kept.inbox
          ++ record { index = index; seen = seen; trim = trim; frame = frame } ∷ [];
    }
keep kept (Line tuple mac flags client own number refusal acked window mss base) =
    record (close_line kept) {
      numbers = number_in kept.numbers tuple flags client number;
      last = Some (record {
        tuple = tuple;
        line = line_in (Line tuple mac flags client own number refusal acked window mss base);
      });
    }
keep kept (Bytes bytes) =
    record kept { last = option_map (λ last. with_bytes last bytes) kept.last }
keep kept _ = kept

-- what is kept once all of these are heard
unfoldable pub keep_all : Kept → List Message → Kept
keep_all kept messages = fold keep kept messages

-- ---- what the whole gives

-- the guest's state, over the one that stood
unfoldable pub load_kept : Meaning → Kept → Meaning
load_kept g kept = record g {
  state = record {
    bytes = kept.state;
    pages = over g.state.pages kept.pages;
    sectors = over g.state.sectors kept.sectors;
  };
}

-- the lines, of which the current openings are those of the commit
abbrev pub kept_lines : Kept → Tracking
kept_lines kept = commit_tracking (close_lines kept.lines kept.last)
