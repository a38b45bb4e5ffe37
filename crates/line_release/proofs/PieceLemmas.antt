-- Segments of the pieces of some bytes, one after the other.
use Rattle.std.proofs.Common.{◌≡◌, ℕ, ◌+◌, ◌-◌, ◌*◌, ◌/◌, ◌<◌, zero, suc, Bool, List, [], ◌∷◌, ◌++◌, length, map, append_assoc, refl, sym, ap, ◌∙◌, arith, add-one}
use Rattle.std.specs.List.{range_with_len, enumerate_from}
use Rattle.std.proofs.lemmas.List.{map-append}
use Rattle.settle_rules.specs.Matching.{BothLines}
use Rattle.settle_rules.specs.Pieces.{piece_at, piece_count, pieces_of}
use Rattle.settle_rules.specs.Release.{Released, released_frame, data_segment, data_segments, largest_payload}
use Rattle.line_release.specs.PieceSegment.{piece_segment}

-- the frames of the first pieces
abbrev pub first_frames : BothLines → ℕ → List ℕ → Bool → ℕ → List (List ℕ)
first_frames b offset bytes ends n = map released_frame (map (piece_segment b offset bytes ends) (range_with_len 0 n))

range_with_len-suc : (a n : ℕ) → range_with_len a (suc n) ≡ range_with_len a n ++ (a + n) ∷ []
range_with_len-suc a zero = ap (λ k. k ∷ []) (let e : a ≡ a + 0 = omega arith in e)
range_with_len-suc a (suc n) = ap (λ ks. a ∷ ks) (range_with_len-suc (a + 1) n
    ∙ ap (λ k. range_with_len (a + 1) n ++ k ∷ []) (let e : a + 1 + n ≡ a + suc n = omega arith in e))

pub first_frames-suc : (b : BothLines) (offset : ℕ) (bytes : List ℕ) (ends : Bool) (n : ℕ) →
    first_frames b offset bytes ends (suc n) ≡ first_frames b offset bytes ends n
    ++ released_frame (piece_segment b offset bytes ends n) ∷ []
first_frames-suc b offset bytes ends n =
    ap (λ ks. map released_frame (map (piece_segment b offset bytes ends) ks)) (range_with_len-suc 0 n
    ∙ ap (λ k. range_with_len 0 n ++ k ∷ []) (let e : 0 + n ≡ n = omega arith in e))
    ∙ (ap (map released_frame) (map-append (piece_segment b offset bytes ends) (range_with_len 0 n) (n ∷ []))
    ∙ map-append released_frame (map (piece_segment b offset bytes ends) (range_with_len 0 n))
    (piece_segment b offset bytes ends n ∷ []))

numbered : {X : Type 0} (f : ℕ → X) (a n : ℕ) → enumerate_from a (map f (range_with_len a n)) ≡ map (λ k. (
  k,
  f k,
)) (range_with_len a n)
numbered f a zero = refl
numbered f a (suc n) = ap (λ xs. (a, f a) ∷ xs) (numbered f (a + 1) n)

map-map : {X Y Z : Type 0} (f : X → Y) (g : Y → Z) (xs : List X) → map g (map f xs) ≡ map (λ x. g (f x)) xs
map-map f g [] = refl
map-map f g (x ∷ xs) = ap (λ ys. g (f x) ∷ ys) (map-map f g xs)

-- all pieces are the segments of the bytes
pub first_frames-all : (b : BothLines) (offset : ℕ) (x : ℕ) (xs : List ℕ) (ends : Bool) →
    first_frames b offset (x ∷ xs) ends (piece_count largest_payload (length (x ∷ xs)))
    ≡ map released_frame (data_segments b offset (x ∷ xs) ends)
first_frames-all b offset x xs ends =
    let bytes = x ∷ xs in
    let count = piece_count largest_payload (length (x ∷ xs)) in
    ap (map released_frame) (sym (ap (map (data_segment b offset bytes ends)) (numbered
    (piece_at largest_payload bytes) 0 count) ∙ map-map (λ (k : ℕ). (
      k,
      piece_at largest_payload bytes k,
    )) (data_segment b offset bytes ends) (range_with_len 0 count)))

pub all_frames : (b : BothLines) (offset : ℕ) (bytes : List ℕ) (ends : Bool) (n : ℕ) → 0 < length bytes →
    n ≡ (length bytes + 535) / 536 → first_frames b offset bytes ends n
    ≡ map released_frame (data_segments b offset bytes ends)
all_frames b offset [] ends n some is = absurd (omega (arith, some))
all_frames b offset (x ∷ xs) ends n some is = ap (λ (k : ℕ). first_frames b offset (x ∷ xs) ends k) is
    ∙ first_frames-all b offset x xs ends
