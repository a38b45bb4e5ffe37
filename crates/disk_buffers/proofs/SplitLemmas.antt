-- Bytes that are cut into sectors one by one.
use Rattle.std.proofs.Common.{◌≡◌, ◌<◌, ℕ, ◌+◌, ◌*◌, ◌%◌, List, [], ◌∷◌, ◌++◌, length, take, drop, All, ap, sym, ◌∙◌, arith, rules, length-append}
use Rattle.std.specs.List.{flat_map}
use Rattle.std.proofs.lemmas.List.{append_assoc, append-nil, nil_from_length, length-take, take-append-drop}
use Rattle.std.proofs.lemmas.List.Elements.{All-append}
use Rattle.std.proofs.lemmas.Grind.{flat_map-append}
use Rattle.disk_buffers.specs.Sectors.{AreSectors}

-- the sectors that were cut, and the rest
pub record IsSplit (bytes : List ℕ) (sectors : List (List ℕ)) (rest : List ℕ) : Type 0 where
  pub join : flat_map (λ sector. sector) sectors ++ rest ≡ bytes
  pub sizes : All (λ sector. length sector ≡ 512) sectors
  pub count : 512 * length sectors + length rest ≡ length bytes

join_one : (sectors : List (List ℕ)) (sector : List ℕ) →
    flat_map (λ x. x) (sectors ++ sector ∷ []) ≡ flat_map (λ x. x) sectors ++ sector
join_one sectors sector =
    flat_map-append (λ x. x) sectors (sector ∷ []) ∙ ap (λ end. flat_map (λ x. x) sectors ++ end) (append-nil sector)

one : (sector : List ℕ) → length sector ≡ 512 → All (λ x. length x ≡ 512) (sector ∷ [])
one sector size = search (rules, size)

pub split_one : (bytes : List ℕ) (sectors : List (List ℕ)) (rest sector after : List ℕ) → IsSplit bytes sectors rest →
    sector ≡ take 512 rest → after ≡ drop 512 rest → length after + 512 ≡ length rest →
    IsSplit bytes (sectors ++ sector ∷ []) after
split_one bytes sectors rest sector after split front back whole =
    let size : length sector ≡ 512 = omega (arith, ap length front, length-take 512 rest, whole) in
    let cut : sector ++ after ≡ rest =
    ap (λ list. list ++ after) front ∙ (ap (λ list. take 512 rest ++ list) back ∙ take-append-drop 512 rest) in
    record {
      join = ap (λ list. list ++ after) (join_one sectors sector)
          ∙ (append_assoc (flat_map (λ x. x) sectors) sector after
          ∙ (ap (λ end. flat_map (λ x. x) sectors ++ end) cut ∙ split.join));
      sizes = All-append (λ x. length x ≡ 512) sectors (sector ∷ []) split.sizes (one sector size);
      count = omega (arith, split.count, size, whole, length-append sectors (sector ∷ []));
    }

pub split_all : (bytes : List ℕ) (sectors : List (List ℕ)) (rest : List ℕ) → IsSplit bytes sectors rest →
    length bytes % 512 ≡ 0 → length rest < 512 → AreSectors bytes sectors × (512 * length sectors ≡ length bytes)
split_all bytes sectors rest split whole short =
    let empty : length rest ≡ 0 = omega (arith, split.count) in
    let none = nil_from_length rest empty in (
      record {
        join = sym (append-nil (flat_map (λ x. x) sectors))
            ∙ (ap (λ end. flat_map (λ x. x) sectors ++ end) (sym none) ∙ split.join);
        sizes = split.sizes;
      },
      omega (arith, split.count, empty),
    )
