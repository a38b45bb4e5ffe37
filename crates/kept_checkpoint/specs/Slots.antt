-- Parts of a state by their places: each as it was heard last, where it was heard.
use Rattle.std.specs.Prelude.{◌≡◌, ℕ, zero, suc, ◌+◌, ◌*◌, IfSome, List, [], ◌∷◌, length, replicate, slice_get, slice_set, take, drop, unwrap_or, Option, None, Some}
use Rattle.std.specs.List.{AllByRecursion}
use Rattle.state_wire.specs.Guest.{Meaning}

abbrev pub page_size : ℕ
page_size = 4096

abbrev pub sector_size : ℕ
sector_size = 512

-- a place for each part
abbrev pub Slots : Type 0
Slots = List (Option (List ℕ))

-- no part was heard yet
abbrev pub no_parts : ℕ → Slots
no_parts count = replicate count None

-- what was heard of a place
abbrev pub part_at : Slots → ℕ → Option (List ℕ)
part_at slots k = unwrap_or (slice_get slots k) None

-- a part is heard
abbrev pub put_part : Slots → ℕ → List ℕ → Slots
put_part slots k part = slice_set slots k (Some part)

abbrev pub sector_at : List ℕ → ℕ → List ℕ
sector_at bytes n = take sector_size (drop (sector_size * n) bytes)

-- sectors are heard, n of them in one string of bytes, at the places from the first on
unfoldable pub put_sectors : ℕ → List ℕ → ℕ → Slots → Slots
put_sectors first bytes zero slots = slots
put_sectors first bytes (suc n) slots =
    put_part (put_sectors first bytes n slots) (first + n) (sector_at bytes n)

-- each part that was heard has this size
abbrev pub AreOfSize : ℕ → Slots → Type 0
AreOfSize size slots = AllByRecursion (λ slot. IfSome slot (λ part. length part ≡ size)) slots

-- what was heard, over the parts that stood
abbrev pub over : List (List ℕ) → Slots → List (List ℕ)
over olds [] = olds
over [] (slot ∷ slots) = []
over (old ∷ olds) (slot ∷ slots) = unwrap_or slot old ∷ over olds slots

-- what was heard of one place, if anything
abbrev pub set_heard : List (List ℕ) → ℕ → Option (List ℕ) → List (List ℕ)
set_heard olds k None = olds
set_heard olds k (Some part) = slice_set olds k part

abbrev pub with_page_heard : Meaning → ℕ → Option (List ℕ) → Meaning
with_page_heard g k part =
    record g { state = record g.state { pages = set_heard g.state.pages k part } }

abbrev pub with_sector_heard : Meaning → ℕ → Option (List ℕ) → Meaning
with_sector_heard g k part =
    record g { state = record g.state { sectors = set_heard g.state.sectors k part } }

-- a guest with what was heard of its pages, or of its sectors
abbrev pub with_pages : Meaning → Slots → Meaning
with_pages g slots = record g { state = record g.state { pages = over g.state.pages slots } }

abbrev pub with_sectors : Meaning → Slots → Meaning
with_sectors g slots = record g { state = record g.state { sectors = over g.state.sectors slots } }
