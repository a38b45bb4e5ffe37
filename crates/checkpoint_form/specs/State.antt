-- The messages of a guest's state: its bytes, all pages, and all sectors.
use Rattle.std.specs.Prelude.{ℕ, ◌*◌, List, ◌∷◌, ◌++◌, map}
use Rattle.std.specs.List.{concat, enumerate_from}
use Rattle.settle_rules.specs.Pieces.{pieces_of}
use Rattle.state_wire.specs.Guest.{GuestState}
use Rattle.colo_wire.specs.declared.messages.Message.{Message}
use Rattle.colo_wire.specs.declared.messages.Message.TheVariants.{State, Page, Disk}

-- all pages, rising
abbrev pub page_messages : List (List ℕ) → List Message
page_messages pages = map (λ (x : ℕ × List ℕ). Page x.0 x.1) (enumerate_from 0 pages)

-- at most so many sectors go into one message
abbrev pub sectors_together : ℕ
sectors_together = 128

-- all sectors, rising
abbrev pub disk_message : ℕ × List (List ℕ) → Message
disk_message x = Disk (sectors_together * x.0) (concat x.1)

abbrev pub disk_messages : List (List ℕ) → List Message
disk_messages sectors = map disk_message (enumerate_from 0 (pieces_of sectors_together sectors))

-- a whole state
abbrev pub state_messages : GuestState → List Message
state_messages s = State s.bytes ∷ page_messages s.pages ++ disk_messages s.sectors
