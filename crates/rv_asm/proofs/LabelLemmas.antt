-- Labels and their places, line by line.
use Rattle.std.proofs.Common.{◌≡◌, ℕ, suc, ◌+◌, ◌<◌, ◌≤◌, Bool, true, false, cond, List, length, get_or, map, drop, Option, Some, None, Bor, is_some, refl, sym, ap, ◌∙◌}
use Rattle.std.specs.BTreeMap.{BTreeMap, UpdatesBy}
use Rattle.std.specs.Cmp.Lexicographic.{slice_cmp}
use Rattle.std.specs.Option.{option_or}
use Rattle.std.specs.Ordering.{nat_cmp}
use Rattle.std.specs.Str.{bytes_eq}
use Rattle.std.proofs.lemmas.Map.Text.{btree_map_updates_str}
use Rattle.std.proofs.lemmas.Slice.Eq.{bytes_eq-Decides}
use Rattle.rv_asm.specs.declared.places.Place.{Place}
use Rattle.rv_asm.specs.Labels.{place_in, with_label}
use Rattle.rv_asm.specs.Lines.{line_of, word_count, is_named, place_from}
use Rattle.rv_asm.proofs.ProgramLemmas.{line_at, line_end}

-- a label that had no place has this one
pub label_added : (labels new : BTreeMap (Bor (List ℕ)) Place) (label : List ℕ) (place : Place) →
    UpdatesBy (λ x y. slice_cmp nat_cmp x.now y.now) (λ key. slice_cmp nat_cmp label key.now) labels new
    (Some place) → is_some (place_in labels label) ≡ false
    → (name : List ℕ) → place_in new name ≡ with_label (Some label) place (place_in labels) name
label_added labels new label place updates absent name =
    btree_map_updates_str label labels new (Some place) updates name ∙ by (bytes_eq label name) refl
  where
    none_of : (o : Option Place) → is_some o ≡ false → o ≡ None
    none_of None e = refl
    none_of (Some x) e = absurd cc

    by : (b : Bool) → bytes_eq label name ≡ b → cond b (Some place) (place_in labels name)
        ≡ cond b (option_or (place_in labels name) (Some place)) (place_in labels name)
    by false e = refl
    by true e =
        let same : label ≡ name = (bytes_eq-Decides label name).0 e in
        let none : place_in labels name ≡ None = none_of (place_in labels name) (ap (λ (n : List ℕ). is_some
        (place_in labels n)) (sym same) ∙ absent) in
        rw none refl

-- what is known of a label so far, and what the later lines say
pub label_step : (label : Option (List ℕ)) (place : Place) (known : List ℕ →
    Option Place) (later : Option Place) (name : List ℕ)
    → option_or (with_label label place known name) later ≡ option_or (known name) (cond (is_named label name)
    (Some place) later)
label_step None place known later name = refl
label_step (Some label) place known later name = by (bytes_eq label name) (known name)
  where
    by : (b : Bool) (o : Option Place) → option_or (cond b (option_or o (Some place)) o) later
        ≡ option_or o (cond b (Some place) later)
    by true None = refl
    by true (Some x) = refl
    by false o = refl

-- the first of the lines from an index on
abbrev pub from_here : Option (List ℕ) → ℕ → ℕ → List ℕ → Option Place → Option Place
from_here label line words name later = cond (is_named label name) (Some
    (record { line = line; words = words })) later

pub from_line : (lines : List (Bor (List ℕ))) (i words : ℕ) (name : List ℕ) (d : Bor (List ℕ)) → i < length lines
    → place_from (drop i (map (λ line. line.now) lines)) i words name
    ≡ from_here (line_of (get_or lines i d).now).label i words name (place_from (drop (suc i) (map
    (λ line. line.now) lines)) (i + 1) (words + word_count (line_of (get_or lines i d).now).statement) name)
unfolding place_from
from_line lines i words name d inside = rw (line_at lines i d inside) refl

pub from_end : (lines : List (Bor (List ℕ))) (i words : ℕ) (name : List ℕ) → length lines ≤ i →
    place_from (drop i (map (λ line. line.now) lines)) i words name ≡ None
unfolding place_from
from_end lines i words name past = rw (line_end lines i past) refl

pub or_none : (o : Option Place) → option_or o None ≡ o
or_none None = refl
or_none (Some x) = refl
