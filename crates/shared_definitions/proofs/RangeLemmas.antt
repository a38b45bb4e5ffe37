-- Parts of a list from one place to another.
use Rattle.std.proofs.Common.{◌≡◌, ℕ, ◌+◌, ◌-◌, ◌<◌, ◌≤◌, List, ◌++◌, length, get_or, take, drop, ap, sym, ◌∙◌, arith, length-drop}
use Rattle.std.proofs.Math.Seq.{take-add}
use Rattle.std.proofs.lemmas.List.{length-take, get_or-take, get_or-drop, drop-drop, ext_get_or}
use Rattle.std.specs.List.{slice_range}

-- a range is read byte by byte
pub get_or-range : (x : List ℕ) (i j k : ℕ) → k < j - i → get_or (slice_range x i j) k 0 ≡ get_or x (i + k) 0
get_or-range x i j k lt = get_or-take (j - i) (drop i x) k 0 lt ∙ get_or-drop i x k 0

pub length-range : (x : List ℕ) (i j : ℕ) → i ≤ j → j ≤ length x → length (slice_range x i j) ≡ j - i
length-range x i j le h = omega (arith, length-take (j - i) (drop i x), length-drop i x)

pub range_same : (x y : List ℕ) (i j : ℕ) → length x ≡ length y → ((k : ℕ) → i ≤ k → k < j →
    get_or x k 0 ≡ get_or y k 0) → slice_range x i j ≡ slice_range y i j
range_same x y i j len same =
    let lx = length-take (j - i) (drop i x) in
    let ly = length-take (j - i) (drop i y) in
    let dx = length-drop i x in
    let dy = length-drop i y in
    ext_get_or 0 (slice_range x i j) (slice_range y i j) (omega arith)
    (λ k h.
    let within : k < j - i = omega arith in
    get_or-range x i j k within ∙ (same (i + k) (omega arith) (omega arith) ∙ sym (get_or-range y i j k within)))

pub range_is : (x : List ℕ) (i j : ℕ) (part : List ℕ) → j ≡ i + length part → j ≤ length x → ((k : ℕ) →
    k < length part → get_or x (i + k) 0 ≡ get_or part k 0) → slice_range x i j ≡ part
range_is x i j part e h is =
    let len = length-range x i j (omega arith) h in
    ext_get_or 0 (slice_range x i j) part (omega arith)
    (λ k lt. get_or-range x i j k (omega arith) ∙ is k (omega arith))

pub range_split : (x : List ℕ) (i k j : ℕ) → i ≤ k → k ≤ j → slice_range x i j ≡ slice_range x i k ++ slice_range x k j
range_split x i k j ik kj =
    let whole : j - i ≡ (k - i) + (j - k) = omega arith in
    let place : i + (k - i) ≡ k = omega arith in
    ap (λ (n : ℕ). take n (drop i x)) whole
    ∙ (take-add (k - i) (j - k) (drop i x)
    ∙ ap (λ (rest : List ℕ). take (k - i) (drop i x) ++ take (j - k) rest) (drop-drop (k - i) i x
    ∙ ap (λ (n : ℕ). drop n x) place))
