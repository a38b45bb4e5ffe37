-- The messages of pages and of sectors, one more at a time.
use Rattle.std.proofs.Common.{◌≡◌, ℕ, ◌+◌, ◌*◌, ◌<◌, List, [], ◌∷◌, ◌++◌, length, take, drop, get_or, ◌-◌, min, map, ap, sym, subst, ◌∙◌, arith}
use Rattle.std.proofs.lemmas.List.{append-nil, get_or-drop, length-drop, length-take, length-take-le, take_all, take_min, take_more}
use Rattle.std.proofs.lemmas.List.FromFn.{length-map-range_with_len, map-range_with_len_more}
use Rattle.std.proofs.Math.Seq.{take-add}
use Rattle.std.specs.Int.{div_ceil}
use Rattle.settle_rules.specs.Pieces.{piece_at, piece_count}
use Rattle.std.proofs.lemmas.List.Folds.{concat-append}
use Rattle.std.specs.List.{concat, enumerate_from, range_with_len}
use Rattle.checkpoint_capture.specs.Sizes.{HaveSize, IsDiskLength}
use Rattle.colo_wire.specs.declared.messages.Message.{Message}
use Rattle.colo_wire.specs.declared.messages.Message.TheVariants.{Page}
use Rattle.checkpoint_form.specs.State.{disk_message, disk_messages, page_messages}
use Rattle.checkpoint_capture.proofs.ListLemmas.{all_append, length_sectors, map_enumerate_one, size_more}

pub pages_more : (pages : List (List ℕ)) (k : ℕ) → k < length pages →
    page_messages (take (k + 1) pages) ≡ page_messages (take k pages) ++ Page k (get_or pages k []) ∷ []
pages_more pages k within =
    ap page_messages (take_more pages k [] within) ∙
    map_enumerate_one (λ (x : ℕ × List ℕ). Page x.0 x.1) (take k pages) (get_or pages k []) k
    (length-take-le k pages (omega (arith, within)))

-- a place among the sectors from a number on
within_rest : {X : Type 0} (xs : List X) (first i : ℕ) → first + i < length xs → i < length (drop first xs)
within_rest xs first i within = omega (arith, length-drop first xs, within)

-- the bytes of one sector more, from a number on
pub sectors_more : (sectors : List (List ℕ)) (first i : ℕ) → first + i < length sectors →
    concat (take (i + 1) (drop first sectors)) ≡ concat (take i (drop first sectors)) ++ get_or sectors (first + i) []
sectors_more sectors first i within =
    ap concat (take_more (drop first sectors) i [] (within_rest sectors first i within)) ∙
    (concat-append (take i (drop first sectors)) (get_or (drop first sectors) i [] ∷ []) ∙
    ap (λ (x : List ℕ). concat (take i (drop first sectors)) ++ x)
    (append-nil (get_or (drop first sectors) i []) ∙ get_or-drop first sectors i []))

pub sizes_more : (sectors : List (List ℕ)) (first i : ℕ) → first + i < length sectors →
    HaveSize 512 (take i (drop first sectors)) → length (get_or sectors (first + i) []) ≡ 512 →
    HaveSize 512 (take (i + 1) (drop first sectors))
sizes_more sectors first i within sizes size =
    size_more 512 (drop first sectors) i (within_rest sectors first i within) sizes
    (ap length (get_or-drop first sectors i []) ∙ size)

-- the messages of the first pieces of a disk
abbrev pub disk_front : List (List ℕ) → ℕ → List Message
disk_front sectors k = map disk_message (enumerate_from 0 (map (piece_at 128 sectors) (range_with_len 0 k)))

pub disk_more : (sectors : List (List ℕ)) (k : ℕ) →
    disk_front sectors (k + 1) ≡ disk_front sectors k ++ disk_message (k, piece_at 128 sectors k) ∷ []
disk_more sectors k =
    let at : 0 + k ≡ k = omega arith in
    ap (λ (pieces : List (List (List ℕ))). map disk_message (enumerate_from 0 pieces))
    (map-range_with_len_more (piece_at 128 sectors) 0 k k at) ∙
    map_enumerate_one disk_message (map (piece_at 128 sectors) (range_with_len 0 k)) (piece_at 128 sectors k) k
    (length-map-range_with_len (piece_at 128 sectors) 0 k)

-- the sectors of one piece more
pub piece_more : (sectors : List (List ℕ)) (k : ℕ) → HaveSize 512 (take (128 * k) sectors) →
    HaveSize 512 (piece_at 128 sectors k) → HaveSize 512 (take (128 * (k + 1)) sectors)
piece_more sectors k sizes more =
    let e : 128 * k + 128 ≡ 128 * (k + 1) = omega arith in
    subst (λ (n : ℕ). HaveSize 512 (take n sectors)) e
    (subst (HaveSize 512) (sym (take-add (128 * k) 128 sectors))
    (all_append (λ (part : List ℕ). length part ≡ 512) (take (128 * k) sectors) (piece_at 128 sectors k) sizes more))

-- the pieces of a whole disk
pub disk_whole : (sectors : List (List ℕ)) (n : ℕ) → n ≡ div_ceil (length sectors) 128 →
    disk_front sectors n ≡ disk_messages sectors
disk_whole sectors n e =
    let same : n ≡ piece_count 128 (length sectors) = omega (arith, e) in
    ap (disk_front sectors) same

pub sizes_whole : (sectors : List (List ℕ)) (n : ℕ) → n ≡ div_ceil (length sectors) 128 →
    HaveSize 512 (take (128 * n) sectors) → HaveSize 512 sectors
sizes_whole sectors n e sizes =
    subst (HaveSize 512) (take_all (128 * n) sectors (omega (arith, e))) sizes

-- ---- one piece

pub piece_is : (sectors : List (List ℕ)) (k count : ℕ) → count ≡ min 128 (length sectors - 128 * k) →
    take count (drop (128 * k) sectors) ≡ piece_at 128 sectors k
piece_is sectors k count e =
    let same : count ≡ min 128 (length (drop (128 * k) sectors)) =
    e ∙ ap (min 128) (sym (length-drop (128 * k) sectors)) in
    ap (λ (n : ℕ). take n (drop (128 * k) sectors)) same ∙ take_min 128 (drop (128 * k) sectors)

pub piece_length : (sectors : List (List ℕ)) (k : ℕ) → 128 * k < length sectors →
    HaveSize 512 (piece_at 128 sectors k) → IsDiskLength (length (concat (piece_at 128 sectors k)))
piece_length sectors k within sizes =
    let count : length (piece_at 128 sectors k) ≡ min 128 (length sectors - 128 * k) =
    length-take 128 (drop (128 * k) sectors) ∙ ap (min 128) (length-drop (128 * k) sectors) in
    let bytes : length (concat (piece_at 128 sectors k)) ≡ 512 * length (piece_at 128 sectors k) =
    length_sectors (piece_at 128 sectors k) sizes in
    record {
      from = omega (arith, count, bytes, within);
      to = omega (arith, count, bytes, within);
      whole = omega (arith, bytes);
    }

-- what was gathered into bytes that were none before
pub piece_gathered : (sectors : List (List ℕ)) (k count : ℕ) (before bytes : List ℕ) →
    count ≡ min 128 (length sectors - 128 * k) → before ≡ [] →
    bytes ≡ before ++ concat (take count (drop (128 * k) sectors)) → bytes ≡ concat (piece_at 128 sectors k)
piece_gathered sectors k count before bytes e none gathered =
    gathered ∙ (ap (λ (x : List ℕ). x ++ concat (take count (drop (128 * k) sectors))) none ∙
    ap concat (piece_is sectors k count e))
