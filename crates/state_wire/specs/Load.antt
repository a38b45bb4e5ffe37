-- Loading a whole state, part by part.
use Rattle.std.specs.Prelude.{◌≡◌, ℕ, List, length, fold}
use Rattle.std.specs.List.{enumerate_from}
use Rattle.state_wire.specs.Guest.{GuestState, Meaning, with_bytes, with_page, with_sector}

-- all pages, in order from the first on, and likewise all sectors
unfoldable pub load_pages : Meaning → List (List ℕ) → Meaning
load_pages g pages =
    fold (λ guest item. with_page guest item.0 item.1) g (enumerate_from 0 pages)

unfoldable pub load_sectors : Meaning → List (List ℕ) → Meaning
load_sectors g sectors =
    fold (λ guest item. with_sector guest item.0 item.1) g (enumerate_from 0 sectors)

-- the bytes, the pages and the sectors of a state
unfoldable pub load_whole : Meaning → GuestState → Meaning
load_whole g s = load_sectors (load_pages (with_bytes g s.bytes) s.pages) s.sectors

abbrev pub LoadsWhole : Type 0
LoadsWhole = (g : Meaning) (s : GuestState) → length g.state.pages ≡ length s.pages →
    length g.state.sectors ≡ length s.sectors → load_whole g s ≡ record g { state = s }
