-- What fits is loaded as it is spelled, however many places were kept.
use Rattle.std.proofs.Common.{◌≡◌, ℕ, zero, suc, ◌+◌, ◌/◌, ◌<◌, ◌≤◌, List, [], ◌∷◌, length, refl, ap, ◌∙◌, arith, true}
use Rattle.std.specs.Prelude.{nat_le, nat_lt, slice_set, unwrap_or}
use Rattle.std.proofs.lemmas.Bool.{false≢true, leb-true, ltb-true}
use Rattle.state_wire.specs.Guest.{Meaning, with_bytes}
use Rattle.colo_wire.specs.declared.messages.Message.{Message}
use Rattle.colo_wire.specs.declared.messages.Message.TheVariants.{Frame, Number, Begin, State, Page, Disk, Write, Held, Line, Bytes, End, Known, Sent, Ack}
use Rattle.kept_checkpoint.specs.Kept.{Kept, begin_kept, fits, keep, load_kept}
use Rattle.kept_checkpoint.specs.Slots.{Slots, no_parts, over, put_part, put_sectors, sector_at, sector_size}
use Rattle.kept_checkpoint.specs.Spelled.{set_sectors, spell}
use Rattle.kept_checkpoint.proofs.SpelledLemmas.{sectors_length}

over_within : (olds : List (List ℕ)) (slots : Slots) (k : ℕ) (x : List ℕ) → k < length slots →
    over olds (put_part slots k x) ≡ slice_set (over olds slots) k x
over_within [] [] k x lt = absurd (omega (arith, lt))
over_within (old ∷ olds) [] k x lt = absurd (omega (arith, lt))
over_within [] (s ∷ ss) zero x lt = refl
over_within [] (s ∷ ss) (suc k) x lt = refl
over_within (old ∷ olds) (s ∷ ss) zero x lt = refl
over_within (old ∷ olds) (s ∷ ss) (suc k) x lt =
    ap (λ (xs : List (List ℕ)). unwrap_or s old ∷ xs) (over_within olds ss k x (omega (arith, lt)))

sectors_within : (first n : ℕ) (bytes : List ℕ) (olds : List (List ℕ)) (slots : Slots) → first + n ≤ length slots →
    over olds (put_sectors first bytes n slots) ≡ set_sectors first bytes n (over olds slots)
unfolding put_sectors set_sectors
sectors_within first zero bytes olds slots le = refl
sectors_within first (suc n) bytes olds slots le =
    over_within olds (put_sectors first bytes n slots) (first + n) (sector_at bytes n)
    (omega (arith, le, sectors_length first n bytes slots))
    ∙ ap (λ (xs : List (List ℕ)). slice_set xs (first + n) (sector_at bytes n))
    (sectors_within first n bytes olds slots (omega (arith, le)))

page_within : (k n : ℕ) → nat_lt k n ≡ true → k < n
page_within k n e = ltb-true k n e

sectors_fit : (k n : ℕ) → nat_le k n ≡ true → k ≤ n
sectors_fit k n e = leb-true k n e

-- one message
pub spells_fitting : (g : Meaning) (kept : Kept) (m : Message) → fits kept m ≡ true →
    load_kept g (keep kept m) ≡ record g { state = spell (load_kept g kept).state m }
unfolding load_kept
spells_fitting g kept (Page k bytes) h =
    ap (λ (xs : List (List ℕ)). record g {
      state = record {
        bytes = kept.state;
        pages = xs;
        sectors = over g.state.sectors kept.sectors;
      };
    })
    (over_within g.state.pages kept.pages k bytes (page_within k (length kept.pages) h))
spells_fitting g kept (Disk first bytes) h =
    ap (λ (xs : List (List ℕ)). record g {
      state = record {
        bytes = kept.state;
        pages = over g.state.pages kept.pages;
        sectors = xs;
      };
    })
    (sectors_within first (length bytes / sector_size) bytes g.state.sectors kept.sectors
    (sectors_fit (first + length bytes / sector_size) (length kept.sectors) h))
spells_fitting g kept (Held index seen trim frame) h = refl
spells_fitting g kept (Line tuple mac flags client own number refused acked window mss base) h = refl
spells_fitting g kept (Bytes bytes) h = refl
spells_fitting g kept (Frame index seen trim frame) h = refl
spells_fitting g kept (Number tuple client number) h = refl
spells_fitting g kept (Begin e) h = refl
spells_fitting g kept (State bytes) h = absurd (false≢true h)
spells_fitting g kept (Write k bytes) h = refl
spells_fitting g kept (End e) h = refl
spells_fitting g kept (Known tuple client number) h = refl
spells_fitting g kept (Sent frame) h = refl
spells_fitting g kept (Ack e) h = refl

over_begun : (olds : List (List ℕ)) (count : ℕ) → over olds (no_parts count) ≡ olds
over_begun [] zero = refl
over_begun [] (suc n) = refl
over_begun (old ∷ olds) zero = refl
over_begun (old ∷ olds) (suc n) = ap (λ (xs : List (List ℕ)). old ∷ xs) (over_begun olds n)

-- the state alone
pub spells_begun : (g : Meaning) (state : List ℕ) (pages sectors : ℕ) →
    load_kept g (begin_kept state pages sectors) ≡ with_bytes g state
unfolding load_kept
spells_begun g state pages sectors =
    ap (λ (xs : List (List ℕ)). record g {
      state = record {
        bytes = state;
        pages = xs;
        sectors = over g.state.sectors (no_parts sectors);
      };
    })
    (over_begun g.state.pages pages)
    ∙ ap (λ (xs : List (List ℕ)). record g {
      state = record {
        bytes = state;
        pages = g.state.pages;
        sectors = xs;
      };
    })
    (over_begun g.state.sectors sectors)
