-- Loading every page or sector in order sets the whole list.
use Rattle.std.proofs.Common.{◌≡◌, ℕ, ◌+◌, List, [], ◌∷◌, ◌++◌, length, ap, sym, ◌∙◌, arith, refl, length-append}
use Rattle.std.specs.Prelude.{fold, slice_set}
use Rattle.std.specs.List.{enumerate_from}
use Rattle.std.proofs.lemmas.List.{set_at, append_assoc}
use Rattle.state_wire.specs.Guest.{Meaning, with_bytes, with_page, with_sector}
use Rattle.state_wire.specs.Load.{LoadsWhole, load_pages, load_sectors, load_whole}

-- the list after each item was put at its place
abbrev set_items : List (List ℕ) → List (ℕ × List ℕ) → List (List ℕ)
set_items xs items = fold (λ list item. slice_set list item.0 item.1) xs items

-- with a front that is right already, putting the rest in order makes all of it right
set_rest : (front old new : List (List ℕ)) (n : ℕ) → length front ≡ n → length old ≡ length new →
    set_items (front ++ old) (enumerate_from n new) ≡ front ++ new
set_rest front [] [] n at same = refl
set_rest front [] (y ∷ ys) n at same = absurd (omega (arith, same))
set_rest front (x ∷ xs) [] n at same = absurd (omega (arith, same))
set_rest front (x ∷ xs) (y ∷ ys) n at same =
    let next : length (front ++ y ∷ []) ≡ n + 1 = omega (arith, length-append front (y ∷ []), at) in
    let rest : length xs ≡ length ys = omega (arith, same) in
    ap (λ list. set_items list (enumerate_from (n + 1) ys))
    (set_at front x xs y n at ∙ sym (append_assoc front (y ∷ []) xs))
    ∙ (set_rest (front ++ y ∷ []) xs ys (n + 1) next rest ∙ append_assoc front (y ∷ []) ys)

pages_by_items : (g : Meaning) (pages : List (List ℕ)) (items : List (ℕ × List ℕ)) →
    fold (λ guest item. with_page guest item.0 item.1) (record g { state = record g.state { pages = pages } }) items
    ≡ record g { state = record g.state { pages = set_items pages items } }
pages_by_items g pages [] = refl
pages_by_items g pages (item ∷ items) = pages_by_items g (slice_set pages item.0 item.1) items

sectors_by_items : (g : Meaning) (sectors : List (List ℕ)) (items : List (ℕ × List ℕ)) →
    fold (λ guest item. with_sector guest item.0 item.1)
    (record g { state = record g.state { sectors = sectors } }) items
    ≡ record g { state = record g.state { sectors = set_items sectors items } }
sectors_by_items g sectors [] = refl
sectors_by_items g sectors (item ∷ items) = sectors_by_items g (slice_set sectors item.0 item.1) items

pub loads_whole_lem : LoadsWhole
unfolding load_whole load_pages load_sectors
loads_whole_lem g s pages sectors =
    let with = with_bytes g s.bytes in
    let paged = record with { state = record with.state { pages = s.pages } } in
    ap (λ guest. load_sectors guest s.sectors)
    (pages_by_items with g.state.pages (enumerate_from 0 s.pages)
    ∙ ap (λ list. record with { state = record with.state { pages = list } })
    (set_rest [] g.state.pages s.pages 0 refl pages))
    ∙ (sectors_by_items paged g.state.sectors (enumerate_from 0 s.sectors)
    ∙ ap (λ list. record paged { state = record paged.state { sectors = list } })
    (set_rest [] g.state.sectors s.sectors 0 refl sectors))
