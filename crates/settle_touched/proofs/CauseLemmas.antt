-- The first entry in table order that passes a test stands at the first of the places that do.
use Rattle.std.proofs.Common.{◌≡◌, ℕ, ◌+◌, ◌<◌, ◌≤◌, suc, Bool, true, false, ◌||◌, ◌==◌, nat_eq, cond, if◌then◌else◌, List, [], ◌∷◌, length, slice_get, find, Option, None, Some, refl, sym, ap, ◌∙◌, true≢false, arith}
use Rattle.std.proofs.lemmas.Bool.{eqb-true, eq-eqb}
use Rattle.std.proofs.lemmas.Bool.Decides.{nat_tests}
use Rattle.std.specs.Map.{keys_of}
use Rattle.std.specs.Option.{option_map, option_map_or}
use Rattle.inet_frame.specs.declared.tuple.Tuple.{Tuple}
use Rattle.tcp_track.specs.declared.table.Entry.{Entry}
use Rattle.settle_rules.specs.Progress.{ProgressTable}
use Rattle.settle_table.specs.Kept.{KeptScene, is_restarted}
use Rattle.settle_table.specs.Needs.{differ_or, difference_in, first_differ, first_need, has_waited, line_differs, matched_at, need_of, restart_among, wait_of}
use Rattle.settle_table.specs.declared.causes.Need.TheVariants.{Nothing}
use Rattle.settle_touched.specs.Firsts.{ArePlacesOf, difference_at, entry_differs, first_entry, holds_at}
use Rattle.settle_touched.specs.Laws.{NeedsFirstPlaces}
use Rattle.settle_touched.specs.Places.{AreAscending, is_among}
use Rattle.settle_touched.proofs.PlaceLemmas.{HaveLines, below_all, lines_from, not_below, place_in}

-- the places from one on are those that pass
abbrev AreFrom : (Tuple × Entry → Bool) → KeptScene → ℕ → ℕ → List ℕ → Type 0
AreFrom test scene k bound places =
    (m : ℕ) → k ≤ m → m < bound → is_among m places ≡ holds_at test scene.mine m

passes : (test : Tuple × Entry → Bool) (scene : KeptScene) (k : ℕ) (x : Tuple × Entry) (b : Bool) →
    slice_get scene.mine.entries k ≡ Some x → b ≡ holds_at test scene.mine k → test x ≡ b
passes test scene k x b at e = sym (e ∙ ap (λ (o : Option (Tuple × Entry)). option_map_or test o false) at)

same_place : (k j : ℕ) → j ≡ k → nat_eq k j ≡ true
same_place k j e = grind (arith, nat_tests)

first_from : (test : Tuple × Entry → Bool) (scene : KeptScene) (k bound : ℕ) (rest : List (Tuple × Entry))
    (places : List ℕ) → HaveLines scene k rest → bound ≡ k + length rest → AreAscending k bound places →
    AreFrom test scene k bound places → find test rest ≡ first_entry scene.mine places
first_from test scene k bound [] [] lines end up all = refl
first_from test scene k bound [] (j ∷ places) lines end up all = absurd (omega (arith, end, up.0, up.1))
first_from test scene k bound (x ∷ rest) [] lines end up all =
    ap (λ (b : Bool). cond b (Some x) (find test rest))
    (passes test scene k x false lines.0 (all k (omega arith) (omega (arith, end))))
    ∙ first_from test scene (suc k) bound rest [] lines.2 (omega (arith, end)) tt
    (λ m low high. all m (omega (arith, low)) high)
first_from test scene k bound (x ∷ rest) (j ∷ places) lines end up all =
    by (j == k) refl (λ low. first_from test scene (suc k) bound rest (j ∷ places) lines.2 (omega (arith, end))
    (omega (arith, low), up.1, up.2) (λ m below high. all m (omega (arith, below)) high))
  where
    by : (c : Bool) → (j == k) ≡ c → (k < j → find test rest ≡ slice_get scene.mine.entries j) →
        cond (test x) (Some x) (find test rest) ≡ slice_get scene.mine.entries j
    by true e later =
        let same : j ≡ k = eqb-true j k e in
        let there : is_among k (j ∷ places) ≡ true = ap (λ (b : Bool). b || is_among k places) (same_place k j same) in
        ap (λ (b : Bool). cond b (Some x) (find test rest))
        (passes test scene k x true lines.0 (sym there ∙ all k (omega arith) (omega (arith, end))))
        ∙ (sym lines.0 ∙ ap (λ (n : ℕ). slice_get scene.mine.entries n) (sym same))
    by false e later =
        let apart : (j ≡ k) → ⊥ = λ same. true≢false (sym (eq-eqb j k same) ∙ e) in
        let low : k < j = omega (arith, apart, up.0) in
        let none : is_among k (j ∷ places) ≡ false =
        ((λ i. not_below j k low i || is_among k places)
        ∙ below_all k (j + 1) bound places (omega (arith, low)) up.2) in
        ap (λ (b : Bool). cond b (Some x) (find test rest))
        (passes test scene k x false lines.0 (sym none ∙ all k (omega arith) (omega (arith, end))))
        ∙ later low

-- among the keys alone
find_keys : (test : Tuple → Bool) (es : List (Tuple × Entry)) →
    find test (keys_of es) ≡ option_map (λ (x : Tuple × Entry). x.0) (find (λ (x : Tuple × Entry). test x.0) es)
find_keys test [] = refl
find_keys test (x ∷ xs) = by (test x.0) (find_keys test xs)
  where
    by : (c : Bool) → find test (keys_of xs)
        ≡ option_map (λ (y : Tuple × Entry). y.0) (find (λ (y : Tuple × Entry). test y.0) xs) →
        cond c (Some x.0) (find test (keys_of xs))
        ≡ option_map (λ (y : Tuple × Entry). y.0) (cond c (Some x) (find (λ (y : Tuple × Entry). test y.0) xs))
    by true more = refl
    by false more = more

-- the first difference is that of the first entry whose lines differ
differ_found : (scene : KeptScene) (progress : ProgressTable) (k : ℕ) (rest : List (Tuple × Entry)) →
    HaveLines scene k rest →
    first_differ scene progress (keys_of rest)
    ≡ difference_at scene progress (find (entry_differs scene progress) rest)
differ_found scene progress k [] lines = refl
differ_found scene progress k (x ∷ rest) lines =
    (λ i. differ_or x.0 (difference_in scene progress x.0 (lines.1 i))
    (differ_found scene progress (suc k) rest lines.2 i))
    ∙ by (line_differs scene progress x.0 x.1.line)
  where
    by : (c : Bool) → differ_or x.0 (if c then Some (matched_at scene progress x.0 x.1.line) else None)
        (difference_at scene progress (find (entry_differs scene progress) rest))
        ≡ difference_at scene progress (cond c (Some x) (find (entry_differs scene progress) rest))
    by true = refl
    by false = refl

pub needs_first_places : NeedsFirstPlaces
unfolding need_of
needs_first_places scene progress differing restarted waiting distinct differ restart wait =
    let entries = scene.mine.entries in
    let lines = lines_from scene 0 entries distinct (place_in entries) in
    let first = λ (test : Tuple × Entry → Bool) (places : List ℕ)
    (h : ArePlacesOf test scene.mine (length entries) places).
    first_from test scene 0 (length entries) entries places lines (omega arith) h.ascending
    (λ m low high. h.exactly m high) in
    λ i. if scene.is_alone then Nothing else first_need
    ((differ_found scene progress 0 entries lines
    ∙ ap (difference_at scene progress) (first (entry_differs scene progress) differing differ)) i)
    (restart_among scene.restarts ((find_keys (is_restarted scene) entries
    ∙ ap (option_map (λ (x : Tuple × Entry). x.0)) (first (λ x. is_restarted scene x.0) restarted restart)) i))
    (wait_of ((find_keys (has_waited progress) entries
    ∙ ap (option_map (λ (x : Tuple × Entry). x.0)) (first (λ x. has_waited progress x.0) waiting wait)) i))
