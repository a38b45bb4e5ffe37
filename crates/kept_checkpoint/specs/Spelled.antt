-- What the messages of a checkpoint spell of a guest's state: each its part, over what stood there,
-- so that the last for each place stays.
use Rattle.std.specs.Prelude.{◌≡◌, ℕ, zero, suc, ◌+◌, ◌/◌, List, fold, length, slice_set}
use Rattle.state_wire.specs.Guest.{GuestState, Meaning}
use Rattle.colo_wire.specs.declared.messages.Message.{Message}
use Rattle.colo_wire.specs.declared.messages.Message.TheVariants.{State, Page, Disk}
use Rattle.kept_checkpoint.specs.Kept.{begin_kept, keep_all, load_kept}
use Rattle.kept_checkpoint.specs.Slots.{sector_at, sector_size}

-- the first n sectors of some bytes, at the places from the first on
unfoldable pub set_sectors : ℕ → List ℕ → ℕ → List (List ℕ) → List (List ℕ)
set_sectors first bytes zero sectors = sectors
set_sectors first bytes (suc n) sectors =
    slice_set (set_sectors first bytes n sectors) (first + n) (sector_at bytes n)

-- a page, or whole sectors
abbrev pub spell_part : GuestState → Message → GuestState
spell_part state (Page k bytes) = record state { pages = slice_set state.pages k bytes }
spell_part state (Disk first bytes) =
    record state {
      sectors = set_sectors first bytes (length bytes / sector_size) state.sectors;
    }
spell_part state _ = state

-- and the state's bytes
abbrev pub spell : GuestState → Message → GuestState
spell state (State bytes) = record state { bytes = bytes }
spell state m = spell_part state m

-- What is kept apart and then loaded is what the messages spell one by one over the guest's state,
-- whatever they are and in whatever order they come.
abbrev pub LoadsWhatIsSpelled : Type 0
LoadsWhatIsSpelled =
    (g : Meaning) (state : List ℕ) (messages : List Message) →
    load_kept g (keep_all (begin_kept state (length g.state.pages) (length g.state.sectors))
    messages)
    ≡ record g { state = fold spell_part (record g.state { bytes = state }) messages }
