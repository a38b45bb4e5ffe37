-- Parts by their places: their sizes, one sector more, and loading place by place.
use Rattle.std.proofs.Common.{◌≡◌, ℕ, zero, suc, ◌+◌, ◌*◌, ◌≤◌, List, [], ◌∷◌, length, take, drop, refl, sym, ap, ◌∙◌, arith, add-one, Option, Some, None, length-take, length-drop}
use Rattle.std.specs.Prelude.{IfSome, slice_set, unwrap_or}
use Rattle.std.specs.List.{AllByRecursion}
use Rattle.kept_checkpoint.specs.Slots.{AreOfSize, Slots, no_parts, over, part_at, put_part, put_sectors, sector_at, sector_size, set_heard, with_page_heard, with_pages, with_sector_heard, with_sectors}
use Rattle.state_wire.specs.Guest.{Meaning}

-- ---- sizes

all_set : (P : Option (List ℕ) → Type 0) (xs : Slots) (k : ℕ) (x : Option (List ℕ)) → P x → AllByRecursion P xs →
    AllByRecursion P (slice_set xs k x)
all_set P [] k x p h = tt
all_set P (y ∷ ys) zero x p h = (p, h.1)
all_set P (y ∷ ys) (suc k) x p h = (h.0, all_set P ys k x p h.1)

pub put_sized : (size : ℕ) (slots : Slots) (k : ℕ) (part : List ℕ) → AreOfSize size slots → length part ≡ size →
    AreOfSize size (put_part slots k part)
put_sized size slots k part h same =
    all_set (λ slot. IfSome slot (λ p. length p ≡ size)) slots k (Some part) same h

pub none_sized : (size count : ℕ) → AreOfSize size (no_parts count)
none_sized size zero = tt
none_sized size (suc n) = (tt, none_sized size n)

pub sector_length : (bytes : List ℕ) (n : ℕ) → sector_size * n + sector_size ≤ length bytes →
    length (sector_at bytes n) ≡ sector_size
sector_length bytes n fits =
    omega (arith, length-take 512 (drop (512 * n) bytes), length-drop (512 * n) bytes, fits)

-- ---- one sector more

pub no_sectors : (first : ℕ) (bytes : List ℕ) (slots : Slots) → slots ≡ put_sectors first bytes 0 slots
unfolding put_sectors
no_sectors first bytes slots = refl

pub more_sectors : (first n : ℕ) (bytes : List ℕ) (slots : Slots) → put_sectors first bytes (n + 1) slots
    ≡ put_part (put_sectors first bytes n slots) (first + n) (sector_at bytes n)
unfolding put_sectors
more_sectors first n bytes slots = rw add-one refl

-- ---- loading place by place

over_none : (slots : Slots) → over [] slots ≡ []
over_none [] = refl
over_none (s ∷ ss) = refl

set_none : (k : ℕ) (o : Option (List ℕ)) → set_heard [] k o ≡ []
set_none k None = refl
set_none k (Some x) = refl

set_first : (old : List ℕ) (olds : List (List ℕ)) (o : Option (List ℕ)) →
    unwrap_or o old ∷ olds ≡ set_heard (old ∷ olds) 0 o
set_first old olds None = refl
set_first old olds (Some x) = refl

set_later : (x : List ℕ) (xs : List (List ℕ)) (k : ℕ) (o : Option (List ℕ)) →
    x ∷ set_heard xs k o ≡ set_heard (x ∷ xs) (suc k) o
set_later x xs k None = refl
set_later x xs k (Some y) = refl

over_next : (olds : List (List ℕ)) (slots : Slots) (k : ℕ) →
    over olds (take (suc k) slots) ≡ set_heard (over olds (take k slots)) k (part_at slots k)
over_next olds [] zero = refl
over_next olds [] (suc k) = refl
over_next [] (s ∷ ss) k = sym (ap (λ xs. set_heard xs k (part_at (s ∷ ss) k)) (over_none (take k (s ∷ ss)))
    ∙ set_none k (part_at (s ∷ ss) k))
over_next (old ∷ olds) (s ∷ ss) zero = set_first old olds s
over_next (old ∷ olds) (s ∷ ss) (suc k) =
    ap (λ xs. unwrap_or s old ∷ xs) (over_next olds ss k)
    ∙ set_later (unwrap_or s old) (over olds (take k ss)) k (part_at ss k)

pub over_more : (olds : List (List ℕ)) (slots : Slots) (k : ℕ) →
    over olds (take (k + 1) slots) ≡ set_heard (over olds (take k slots)) k (part_at slots k)
over_more olds slots k = rw add-one (over_next olds slots k)

pub over_all : (olds : List (List ℕ)) (slots : Slots) → over olds (take (length olds) slots) ≡ over olds slots
over_all [] slots = sym (over_none slots)
over_all (old ∷ olds) [] = refl
over_all (old ∷ olds) (s ∷ ss) = ap (λ xs. unwrap_or s old ∷ xs) (over_all olds ss)

pub heard_sized : (size : ℕ) (slots : Slots) (k : ℕ) → AreOfSize size slots →
    IfSome (part_at slots k) (λ part. length part ≡ size)
heard_sized size [] k h = tt
heard_sized size (s ∷ ss) zero h = h.0
heard_sized size (s ∷ ss) (suc k) h = heard_sized size ss k h.1

pub pages_more : (g start : Meaning) (slots : Slots) (k : ℕ) → g ≡ with_pages start (take k slots) →
    with_page_heard g k (part_at slots k) ≡ with_pages start (take (k + 1) slots)
pages_more g start slots k e =
    ap (λ (m : Meaning). with_page_heard m k (part_at slots k)) e
    ∙ ap (λ (xs : List (List ℕ)). record start { state = record start.state { pages = xs } })
    (sym (over_more start.state.pages slots k))

pub pages_done : (g start : Meaning) (slots : Slots) (k : ℕ) → g ≡ with_pages start (take k slots) →
    k ≡ length start.state.pages → g ≡ with_pages start slots
pages_done g start slots k e whole =
    e ∙ ap (λ (xs : List (List ℕ)). record start { state = record start.state { pages = xs } })
    (ap (λ (n : ℕ). over start.state.pages (take n slots)) whole ∙ over_all start.state.pages slots)

pub sectors_more : (g start : Meaning) (slots : Slots) (k : ℕ) → g ≡ with_sectors start (take k slots) →
    with_sector_heard g k (part_at slots k) ≡ with_sectors start (take (k + 1) slots)
sectors_more g start slots k e =
    ap (λ (m : Meaning). with_sector_heard m k (part_at slots k)) e
    ∙ ap (λ (xs : List (List ℕ)). record start { state = record start.state { sectors = xs } })
    (sym (over_more start.state.sectors slots k))

pub sectors_done : (g start : Meaning) (slots : Slots) (k : ℕ) → g ≡ with_sectors start (take k slots) →
    k ≡ length start.state.sectors → g ≡ with_sectors start slots
sectors_done g start slots k e whole =
    e ∙ ap (λ (xs : List (List ℕ)). record start { state = record start.state { sectors = xs } })
    (ap (λ (n : ℕ). over start.state.sectors (take n slots)) whole ∙ over_all start.state.sectors slots)
