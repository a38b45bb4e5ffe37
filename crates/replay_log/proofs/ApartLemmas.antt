-- No words have two forms of one table.
use Rattle.std.proofs.Common.{◌≡◌, ℕ, zero, suc, ◌<◌, ◌^◌, Bool, true, false, not, ◌&&◌, ◌||◌, ◌==◌, List, [], ◌∷◌, length, get_or, decimal, nat_le, refl, sym, ap, ◌∙◌, inl, inr, arith}
use Rattle.std.specs.List.{Contains, list_all}
use Rattle.std.proofs.lemmas.Bool.{and_parts, or_cases, true≢false, eqb-true, leb-true}
use Rattle.std.proofs.lemmas.Slice.Eq.{bytes_eq-Decides}
use Rattle.ascii_text.proofs.CutLemmas.{cut_none}
use Rattle.shared_definitions.specs.Ascii.{slash}
use Rattle.replay_log.specs.Cases.{form_fits, form_counts, form_reads}
use Rattle.replay_log.specs.Forms.{places_of, schedule_forms, log_forms, single_forms}
use Rattle.replay_log.specs.Keywords.{keyword_text}
use Rattle.replay_log.specs.Places.{most64, before_slash, after_slash, is_number, is_opening, number_of, is_read, are_read}
use Rattle.replay_log.specs.declared.forms.Form.{Form}
use Rattle.replay_log.specs.declared.places.Place.{Place}
use Rattle.replay_log.specs.declared.places.Place.TheVariants.{Word, Number, Opening, SeenFrame}
use Rattle.replay_log.proofs.GatheringLemmas.{passes_each}
use Rattle.replay_log.proofs.PlaceLemmas.{number_read}
use Rattle.replay_log.proofs.SpellingLemmas.{free_decimal, apart_free}

-- the fixed word isn't read at the other place
abbrev is_word_apart : Place → Place → Bool
is_word_apart (Word keyword) q = not (is_read q (keyword_text keyword))
is_word_apart (Number low high) q = false
is_word_apart Opening q = false
is_word_apart SeenFrame q = false

abbrev is_small : ℕ → Bool
is_small high = nat_le high most64

-- a number, and one with an opening
abbrev is_frame_apart : Place → Place → Bool
is_frame_apart (Word keyword) q = false
is_frame_apart (Number low high) (Word keyword) = false
is_frame_apart (Number low high) (Number l h) = false
is_frame_apart (Number low high) Opening = false
is_frame_apart (Number low high) SeenFrame = is_small high
is_frame_apart Opening q = false
is_frame_apart SeenFrame q = false

abbrev is_apart : Place → Place → Bool
is_apart p q = (is_word_apart p q || is_word_apart q p) || (is_frame_apart p q || is_frame_apart q p)

word_apart : (p q : Place) (w : List ℕ) → is_word_apart p q ≡ true → is_read p w ≡ true → is_read q w ≡ true → ⊥
word_apart (Word keyword) q w h r s =
    let same : w ≡ keyword_text keyword = (bytes_eq-Decides w (keyword_text keyword)).0 r in
    true≢false (sym h ∙ ap (λ t. not (is_read q t)) (sym same) ∙ ap not s)
word_apart (Number low high) q w h r s = true≢false (sym h)
word_apart Opening q w h r s = true≢false (sym h)
word_apart SeenFrame q w h r s = true≢false (sym h)

no_slash : (n : ℕ) → n < 2 ^ 64 → after_slash (decimal n) ≡ []
no_slash n small =
    let apart = apart_free slash (decimal n) (free_decimal slash n (omega arith) small) in
    rw (cut_none slash (decimal n) (λ k lt e. apart k 0 lt e)) refl

frame_apart : (p q : Place) (w : List ℕ) → is_frame_apart p q ≡ true → is_read p w ≡ true → is_read q w ≡ true → ⊥
frame_apart (Word keyword) q w h r s = true≢false (sym h)
frame_apart (Number low high) (Word keyword) w h r s = true≢false (sym h)
frame_apart (Number low high) (Number l m) w h r s = true≢false (sym h)
frame_apart (Number low high) Opening w h r s = true≢false (sym h)
frame_apart (Number low high) SeenFrame w h r s =
    let bound = leb-true high most64 h in
    let n = number_read low high w (omega arith) r in
    let opening = and_parts (is_number 0 most64 (before_slash w)) (is_opening (after_slash w)) s in
    let none : after_slash w ≡ [] = ap after_slash (sym n.written) ∙
    no_slash (number_of high w) (omega (arith, n.to)) in
    true≢false (sym opening.1 ∙ ap is_opening none)
frame_apart Opening q w h r s = true≢false (sym h)
frame_apart SeenFrame q w h r s = true≢false (sym h)

place_apart : (p q : Place) (w : List ℕ) → is_apart p q ≡ true → is_read p w ≡ true → is_read q w ≡ true → ⊥
place_apart p q w h r s =
    elim (or_cases (is_word_apart p q || is_word_apart q p) (is_frame_apart p q || is_frame_apart q p) h) [
      | inl words ↦ elim (or_cases (is_word_apart p q)
          (is_word_apart q p) words) [ inl a ↦ word_apart p q w a r s | inr a ↦ word_apart q p w a s r ]
      | inr frames ↦ elim (or_cases (is_frame_apart p q)
          (is_frame_apart q p) frames) [ inl a ↦ frame_apart p q w a r s | inr a ↦ frame_apart q p w a s r ]
    ]

-- the places have other counts, or are apart somewhere
abbrev are_apart : List Place → List Place → Bool
are_apart [] [] = false
are_apart [] (q ∷ qs) = true
are_apart (p ∷ ps) [] = true
are_apart (p ∷ ps) (q ∷ qs) = is_apart p q || are_apart ps qs

places_apart : (ps qs : List Place) (ws : List (List ℕ)) → are_apart ps qs ≡ true → length ps ≡ length ws →
    length qs ≡ length ws → are_read ps ws ≡ true → are_read qs ws ≡ true → ⊥
places_apart [] [] ws h e f r s = true≢false (sym h)
places_apart [] (q ∷ qs) ws h e f r s = absurd (omega (arith, e, f))
places_apart (p ∷ ps) [] ws h e f r s = absurd (omega (arith, e, f))
places_apart (p ∷ ps) (q ∷ qs) [] h e f r s = absurd (omega (arith, e))
places_apart (p ∷ ps) (q ∷ qs) (w ∷ ws) h e f r s =
    let pr = and_parts (is_read p w) (are_read ps ws) r in
    let qr = and_parts (is_read q w) (are_read qs ws) s in
    elim (or_cases (is_apart p q) (are_apart ps qs) h) [
      | inl here ↦ place_apart p q w here pr.0 qr.0
      | inr later ↦ places_apart ps qs ws later (omega (arith, e)) (omega (arith, f)) pr.1 qr.1
    ]

forms_apart : (ws : List (List ℕ)) (f g : Form) → are_apart (places_of f) (places_of g) ≡ true →
    form_reads ws f ≡ true → form_reads ws g ≡ true → ⊥
forms_apart ws f g h r s =
    let fr = and_parts (form_counts ws f) (are_read (places_of f) ws) r in
    let gr = and_parts (form_counts ws g) (are_read (places_of g) ws) s in
    let fl = and_parts (form_fits ws f) (length (places_of f) == length ws) fr.0 in
    let gl = and_parts (form_fits ws g) (length (places_of g) == length ws) gr.0 in
    places_apart (places_of f) (places_of g) ws h (eqb-true _ _ fl.1) (eqb-true _ _ gl.1) fr.1 gr.1

-- each two forms of a table are apart
abbrev pub all_apart : List Form → Bool
all_apart [] = true
all_apart (f ∷ fs) = list_all (λ g. are_apart (places_of f) (places_of g)) fs && all_apart fs

pub same_form : (forms : List Form) (ws : List (List ℕ)) (f g : Form) → all_apart forms ≡ true → Contains forms f →
    Contains forms g → form_reads ws f ≡ true →
    form_reads ws g ≡ true → f ≡ g
same_form forms ws f g a (i, il, ie) (j, jl, je) r s = at forms a i j il jl ie je
  where
    at : (fs : List Form) → all_apart fs ≡ true → (i j : ℕ) → i < length fs → j < length fs → get_or fs i f ≡ f →
        get_or fs j g ≡ g → f ≡ g
    at [] a i j il jl ie je = absurd (omega (arith, il))
    at (h ∷ hs) a zero zero il jl ie je = sym ie ∙ je
    at (h ∷ hs) a zero (suc j) il jl ie je =
        let both = and_parts (list_all (λ q. are_apart (places_of h) (places_of q)) hs) (all_apart hs) a in
        let apart = passes_each (λ q. are_apart (places_of h) (places_of q)) hs g both.0 (j, omega (arith, jl), je) in
        absurd (forms_apart ws f g (ap (λ (x : Form). are_apart (places_of x) (places_of g)) (sym ie) ∙ apart) r s)
    at (h ∷ hs) a (suc i) zero il jl ie je =
        let both = and_parts (list_all (λ q. are_apart (places_of h) (places_of q)) hs) (all_apart hs) a in
        let apart = passes_each (λ q. are_apart (places_of h) (places_of q)) hs f both.0 (i, omega (arith, il), ie) in
        absurd (forms_apart ws g f (ap (λ (x : Form). are_apart (places_of x) (places_of f)) (sym je) ∙ apart) s r)
    at (h ∷ hs) a (suc i) (suc j) il jl ie je =
        at hs (and_parts (list_all (λ q. are_apart (places_of h) (places_of q)) hs) (all_apart hs) a).1 i j (omega
        (arith, il)) (omega (arith, jl)) ie je

pub schedule_apart : all_apart schedule_forms ≡ true
schedule_apart = refl

pub log_apart : all_apart log_forms ≡ true
log_apart = refl

pub single_apart : all_apart single_forms ≡ true
single_apart = refl
