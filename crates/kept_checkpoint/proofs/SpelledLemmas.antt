-- Loading what was kept is spelling it message by message.
use Rattle.std.proofs.Common.{◌≡◌, ℕ, zero, suc, ◌+◌, ◌/◌, List, [], ◌∷◌, length, refl, ap, ◌∙◌, arith, Some, length-set}
use Rattle.std.specs.Prelude.{fold, slice_set, unwrap_or}
use Rattle.state_wire.specs.Guest.{Meaning, with_bytes}
use Rattle.colo_wire.specs.declared.messages.Message.{Message}
use Rattle.colo_wire.specs.declared.messages.Message.TheVariants.{Frame, Number, Begin, State, Page, Disk, Write, Held, Line, Bytes, End, Known, Sent, Ack}
use Rattle.kept_checkpoint.specs.Kept.{Kept, begin_kept, keep, keep_all, load_kept}
use Rattle.kept_checkpoint.specs.Slots.{Slots, no_parts, over, put_part, put_sectors, sector_at, sector_size}
use Rattle.kept_checkpoint.specs.Spelled.{LoadsWhatIsSpelled, set_sectors, spell_part}

over_put : (olds : List (List ℕ)) (slots : Slots) (k : ℕ) (x : List ℕ) → length slots ≡ length olds →
    over olds (put_part slots k x) ≡ slice_set (over olds slots) k x
over_put [] [] k x e = refl
over_put (old ∷ olds) [] k x e = absurd (omega (arith, e))
over_put [] (s ∷ ss) k x e = absurd (omega (arith, e))
over_put (old ∷ olds) (s ∷ ss) zero x e = refl
over_put (old ∷ olds) (s ∷ ss) (suc k) x e =
    ap (λ (xs : List (List ℕ)). unwrap_or s old ∷ xs) (over_put olds ss k x (omega (arith, e)))

pub sectors_length : (first n : ℕ) (bytes : List ℕ) (slots : Slots) →
    length (put_sectors first bytes n slots) ≡ length slots
unfolding put_sectors
sectors_length first zero bytes slots = refl
sectors_length first (suc n) bytes slots =
    length-set (put_sectors first bytes n slots) (first + n) (Some (sector_at bytes n))
    ∙ sectors_length first n bytes slots

over_sectors : (first n : ℕ) (bytes : List ℕ) (olds : List (List ℕ)) (slots : Slots) → length slots ≡ length olds →
    over olds (put_sectors first bytes n slots) ≡ set_sectors first bytes n (over olds slots)
unfolding put_sectors set_sectors
over_sectors first zero bytes olds slots e = refl
over_sectors first (suc n) bytes olds slots e =
    over_put olds (put_sectors first bytes n slots) (first + n) (sector_at bytes n)
    (sectors_length first n bytes slots ∙ e)
    ∙ ap (λ (xs : List (List ℕ)). slice_set xs (first + n) (sector_at bytes n))
    (over_sectors first n bytes olds slots e)

-- what is kept has a place for each page and sector of the guest
record IsFor (g : Meaning) (kept : Kept) : Type 0 where
  pages : length kept.pages ≡ length g.state.pages
  sectors : length kept.sectors ≡ length g.state.sectors

keeps_for : (g : Meaning) (kept : Kept) (m : Message) → IsFor g kept → IsFor g (keep kept m)
keeps_for g kept (Page k bytes) h =
    record { pages = length-set kept.pages k (Some bytes) ∙ h.pages; sectors = h.sectors }
keeps_for g kept (Disk first bytes) h = record {
  pages = h.pages;
  sectors = sectors_length first (length bytes / sector_size) bytes kept.sectors ∙ h.sectors;
}
keeps_for g kept (Held index seen trim frame) h = record { pages = h.pages; sectors = h.sectors }
keeps_for g kept (Line tuple mac flags client own number refused acked window mss base) h =
    record { pages = h.pages; sectors = h.sectors }
keeps_for g kept (Bytes bytes) h = record { pages = h.pages; sectors = h.sectors }
keeps_for g kept (Frame index seen trim frame) h = h
keeps_for g kept (Number tuple client number) h = h
keeps_for g kept (Begin e) h = h
keeps_for g kept (State bytes) h = h
keeps_for g kept (Write k bytes) h = h
keeps_for g kept (End e) h = h
keeps_for g kept (Known tuple client number) h = h
keeps_for g kept (Sent frame) h = h
keeps_for g kept (Ack e) h = h

spells_one : (g : Meaning) (kept : Kept) (m : Message) → IsFor g kept →
    load_kept g (keep kept m) ≡ record g { state = spell_part (load_kept g kept).state m }
unfolding load_kept
spells_one g kept (Page k bytes) h =
    ap (λ (xs : List (List ℕ)). record g {
      state = record {
        bytes = kept.state;
        pages = xs;
        sectors = over g.state.sectors kept.sectors;
      };
    })
    (over_put g.state.pages kept.pages k bytes h.pages)
spells_one g kept (Disk first bytes) h =
    ap (λ (xs : List (List ℕ)). record g {
      state = record {
        bytes = kept.state;
        pages = over g.state.pages kept.pages;
        sectors = xs;
      };
    })
    (over_sectors first (length bytes / sector_size) bytes g.state.sectors kept.sectors h.sectors)
spells_one g kept (Held index seen trim frame) h = refl
spells_one g kept (Line tuple mac flags client own number refused acked window mss base) h = refl
spells_one g kept (Bytes bytes) h = refl
spells_one g kept (Frame index seen trim frame) h = refl
spells_one g kept (Number tuple client number) h = refl
spells_one g kept (Begin e) h = refl
spells_one g kept (State bytes) h = refl
spells_one g kept (Write k bytes) h = refl
spells_one g kept (End e) h = refl
spells_one g kept (Known tuple client number) h = refl
spells_one g kept (Sent frame) h = refl
spells_one g kept (Ack e) h = refl

spells_all : (g : Meaning) (kept : Kept) (messages : List Message) → IsFor g kept →
    load_kept g (keep_all kept messages)
    ≡ record g { state = fold spell_part (load_kept g kept).state messages }
unfolding keep_all load_kept
spells_all g kept [] h = refl
spells_all g kept (m ∷ messages) h =
    spells_all g (keep kept m) messages (keeps_for g kept m h)
    ∙ ap (λ (x : Meaning). record g { state = fold spell_part x.state messages }) (spells_one g kept m h)

none_length : (n : ℕ) → length (no_parts n) ≡ n
none_length zero = refl
none_length (suc n) = ap suc (none_length n)

over_no_parts : (olds : List (List ℕ)) → over olds (no_parts (length olds)) ≡ olds
over_no_parts [] = refl
over_no_parts (old ∷ olds) = ap (λ (xs : List (List ℕ)). old ∷ xs) (over_no_parts olds)

begins : (g : Meaning) (state : List ℕ) →
    load_kept g (begin_kept state (length g.state.pages) (length g.state.sectors)) ≡ with_bytes g state
unfolding load_kept
begins g state =
    ap (λ (xs : List (List ℕ)). record g {
      state = record {
        bytes = state;
        pages = xs;
        sectors = over g.state.sectors (no_parts (length g.state.sectors));
      };
    })
    (over_no_parts g.state.pages)
    ∙ ap (λ (xs : List (List ℕ)). record g {
      state = record {
        bytes = state;
        pages = g.state.pages;
        sectors = xs;
      };
    })
    (over_no_parts g.state.sectors)

pub loads_spelled : LoadsWhatIsSpelled
loads_spelled g state messages =
    spells_all g (begin_kept state (length g.state.pages) (length g.state.sectors)) messages
    (record { pages = none_length (length g.state.pages); sectors = none_length (length g.state.sectors) })
    ∙ ap (λ (x : Meaning). record g { state = fold spell_part x.state messages }) (begins g state)
