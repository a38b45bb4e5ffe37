-- What is known of a text's labels, by name.
use Rattle.std.specs.Prelude.{ℕ, List, Option, Some, None, if◌then◌else◌}
use Rattle.std.specs.Option.{option_or}
use Rattle.std.specs.BTreeMap.{BTreeMap, get_by}
use Rattle.std.specs.Cmp.Lexicographic.{slice_cmp}
use Rattle.std.specs.Ordering.{nat_cmp}
use Rattle.std.specs.Str.{bytes_eq}
use denote.Ref.{Bor}
use Rattle.rv_asm.specs.declared.places.Place.{Place}
use Rattle.rv_asm.specs.Lines.{words_at}

-- the place of the label with this name
abbrev pub place_in : BTreeMap (Bor (List ℕ)) Place → List ℕ → Option Place
place_in labels name = get_by (λ key. slice_cmp nat_cmp name key.now) labels

-- how many words stand before it
abbrev pub words_in : BTreeMap (Bor (List ℕ)) Place → List ℕ → Option ℕ
words_in labels = words_at (place_in labels)

-- the places with that of a label added, unless it has one
abbrev pub with_label : Option (List ℕ) → Place → (List ℕ → Option Place) → List ℕ → Option Place
with_label None place places name = places name
with_label (Some label) place places name = if bytes_eq label name
    then option_or (places name) (Some place) else places name
