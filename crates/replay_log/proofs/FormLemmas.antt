-- Words at the places of a form, in two parts.
use Rattle.std.proofs.Common.{◌≡◌, ℕ, ◌+◌, ◌&&◌, true, List, [], ◌∷◌, ◌++◌, length, drop, map, refl, ap, sym, ◌∙◌, length-append}
use Rattle.std.proofs.lemmas.List.{drop-map}
use Rattle.std.proofs.Math.Bool.{and_assoc}
use Rattle.replay_log.specs.Forms.{front_places, back_places, places_of}
use Rattle.replay_log.specs.Places.{fits, is_read, fit_all, are_read}
use Rattle.replay_log.specs.declared.places.Place.{Place}
use Rattle.replay_log.specs.declared.forms.Form.{Form}

fit_all_none : (ps : List Place) → fit_all ps [] ≡ true
fit_all_none [] = refl
fit_all_none (p ∷ ps) = refl

pub fit_all_append : (ps qs : List Place) (ws : List (List ℕ)) →
    fit_all (ps ++ qs) ws ≡ (fit_all ps ws && fit_all qs (drop (length ps) ws))
fit_all_append [] qs ws = refl
fit_all_append (p ∷ ps) qs [] = sym (fit_all_none qs)
fit_all_append (p ∷ ps) qs (w ∷ ws) =
    ap (λ b. fits p w && b) (fit_all_append ps qs ws) ∙
    sym (and_assoc (fits p w) (fit_all ps ws) (fit_all qs (drop (length ps) ws)))

are_read_none : (ps : List Place) → are_read ps [] ≡ true
are_read_none [] = refl
are_read_none (p ∷ ps) = refl

pub are_read_append : (ps qs : List Place) (ws : List (List ℕ)) →
    are_read (ps ++ qs) ws ≡ (are_read ps ws && are_read qs (drop (length ps) ws))
are_read_append [] qs ws = refl
are_read_append (p ∷ ps) qs [] = sym (are_read_none qs)
are_read_append (p ∷ ps) qs (w ∷ ws) =
    ap (λ b. is_read p w && b) (are_read_append ps qs ws) ∙
    sym (and_assoc (is_read p w) (are_read ps ws) (are_read qs (drop (length ps) ws)))

pub drop_words : {X : Type 0} (f : X → List ℕ) (n : ℕ) (ws : List X) → drop n (map f ws) ≡ map f (drop n ws)
drop_words f n ws = drop-map f n ws

pub length_places : (f : Form) → length (places_of f) ≡ length (front_places f) + length (back_places f)
length_places f = length-append (front_places f) (back_places f)
