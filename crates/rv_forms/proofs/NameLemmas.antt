-- A name is read as the mnemonic that it is.
use Rattle.std.proofs.Common.{◌≡◌, ℕ, suc, ◌<◌, Bool, true, false, ◌&&◌, ◌||◌, cond, List, [], ◌∷◌, ◌++◌, length, get_or, Option, Some, None, bit_and, ◌==◌, ltb, MatchOption, refl, sym, ap, subst, ◌∙◌, eqb-true, eq-eqb, arith}
use Rattle.std.specs.Prelude.{codes, Contains, is_none, option_and_then}
use Rattle.std.specs.Bool.{OnFalse}
use Rattle.std.specs.Char.{is_ascii_alphanumeric}
use Rattle.std.specs.List.{find, list_all}
use Rattle.std.specs.Str.{bytes_eq}
use Rattle.std.proofs.lemmas.Bool.{and_parts, ne_eqb, ltb-true}
use Rattle.std.proofs.lemmas.List.{length-append}
use Rattle.std.proofs.lemmas.List.Folds.{list_all-append}
use Rattle.std.proofs.lemmas.Slice.Eq.{bytes_eq-Decides}
use Rattle.shared_definitions.specs.Ascii.{full_stop}
use Rattle.ascii_text.specs.Cuts.{Halves, cut}
use Rattle.ascii_text.proofs.CutLemmas.{cut_parts}
use Rattle.rv_forms.specs.Forms.{mask_of, is_ordered}
use Rattle.rv_forms.specs.Mnemonics.{Mnemonic, mnemonics, are_rising, fits, mnemonic_of}
use Rattle.rv_forms.specs.Names.{Name, order_text, name_text, order_of, order_after, named, with_order, base_of, name_by, name_of}
use Rattle.rv_forms.proofs.TableLemmas.{all_at, found_at}
use Rattle.rv_forms.proofs.WordLemmas.{is_fixed}

-- ---- a row of the table

find_by : {X : Type 0} (b : Bool) (p : X → Bool) (x y : X) (xs : List X) → p x ≡ b → (find p xs ≡ Some y →
    Contains xs y × (p y ≡ true)) → cond b (Some x) (find p xs) ≡ Some y → Contains (x ∷ xs) y × (p y ≡ true)
find_by true p x y xs t later e = let same : x ≡ y = cc in ((0, omega arith, same), ap p (sym same) ∙ t)
find_by false p x y xs t later e = let h = later e in ((suc h.0.0, omega (arith, h.0.1), h.0.2), h.1)

-- what is found stands there and passes the test
pub find_found : {X : Type 0} (p : X → Bool) (xs : List X) (y : X) → find p xs ≡ Some y → Contains xs y × (p y ≡ true)
find_found p [] y e = absurd cc
find_found p (x ∷ xs) y e = find_by (p x) p x y xs refl (find_found p xs y) e

row_passes : (p : Mnemonic → Bool) (ms : List Mnemonic) (m : Mnemonic) → list_all p ms ≡ true → Contains ms m →
    p m ≡ true
row_passes p ms m all c = ap p (sym c.2) ∙ all_at p ms c.0 m all c.1

abbrev pub is_name_byte : ℕ → Bool
is_name_byte c = is_ascii_alphanumeric c || c == full_stop

-- a name with order bits has no full stop of its own, and any other is not read as one with order bits
abbrev is_plain : Bool → List ℕ → Bool
is_plain true name = list_all is_ascii_alphanumeric name
is_plain false name = is_none (order_after (cut full_stop name).after)

rows_fixed : list_all (λ m. is_fixed m.syntax m.value) mnemonics ≡ true
unfolding mnemonics
rows_fixed = refl

rows_plain : list_all (λ m. is_plain (is_ordered m.syntax) m.name) mnemonics ≡ true
unfolding mnemonics
rows_plain = refl

rows_named : list_all (λ m. list_all is_name_byte m.name && ltb 0 (length m.name)) mnemonics ≡ true
unfolding mnemonics
rows_named = refl

rows_rising : are_rising mnemonics ≡ true
unfolding mnemonics
rows_rising = refl

pub row_is_fixed : (m : Mnemonic) → Contains mnemonics m → is_fixed m.syntax m.value ≡ true
row_is_fixed m c = row_passes (λ x. is_fixed x.syntax x.value) mnemonics m rows_fixed c

pub named_row : (m : Mnemonic) → Contains mnemonics m → named m.name ≡ Some m
unfolding named
named_row m c =
    let same : bytes_eq (get_or mnemonics c.0 m).name m.name
    ≡ true = (bytes_eq-Decides (get_or mnemonics c.0 m).name m.name).1 (ap (λ (x : Mnemonic). x.name) c.2) in
    found_at mnemonics m.name c.0 m rows_rising c.1 same ∙ ap (λ (x : Mnemonic). Some x) c.2

pub named_found : (name : List ℕ) (m : Mnemonic) → named name ≡ Some m → Contains mnemonics m × (m.name ≡ name)
unfolding named
named_found name m e = let h = find_found (λ x. bytes_eq x.name name) mnemonics m e in (
  h.0,
  (bytes_eq-Decides m.name name).0 h.1,
)

pub fitting_found : (w : ℕ) (m : Mnemonic) → mnemonic_of w ≡ Some m →
    Contains mnemonics m × (bit_and w (mask_of m.syntax) ≡ m.value)
unfolding mnemonic_of
fitting_found w m e = let h = find_found (λ x. fits x w) mnemonics m e in (
  h.0,
  eqb-true (bit_and w (mask_of m.syntax)) m.value h.1,
)

-- ---- order bits

order_again : (aq rl : Bool) → order_of (order_text aq rl) ≡ Some (aq, rl)
order_again false false = refl
order_again true false = refl
order_again false true = refl
order_again true true = refl

abbrev bits : Bool → Bool → Option (Bool × Bool)
bits aq rl = Some (aq, rl)

order_by : (a b c d : Bool) (o : Bool × Bool) (In : Bool × Bool → Type 0) → (a ≡ true → In (false, false)) → (b ≡ true →
    In (true, false)) → (c ≡ true → In (false, true)) → (d ≡ true → In (true, true)) → cond a (bits false false) (cond b
    (bits true false) (cond c (bits false true) (cond d (bits true true) None))) ≡ Some o → In o
order_by true b c d o In x y z w e = let same : (false, false) ≡ o = cc in subst In same (x refl)
order_by false true c d o In x y z w e = let same : (true, false) ≡ o = cc in subst In same (y refl)
order_by false false true d o In x y z w e = let same : (false, true) ≡ o = cc in subst In same (z refl)
order_by false false false true o In x y z w e = let same : (true, true) ≡ o = cc in subst In same (w refl)
order_by false false false false o In x y z w e = absurd cc

order_found : (text : List ℕ) (o : Bool × Bool) → order_of text ≡ Some o → text ≡ order_text o.0 o.1
order_found text o e =
    let is = λ (word : List ℕ). (bytes_eq-Decides text word).0 in
    order_by (bytes_eq text (codes "w")) (bytes_eq text (codes "w.aq")) (bytes_eq text (codes "w.rl"))
    (bytes_eq text (codes "w.aqrl")) o (λ p. text ≡ order_text p.0 p.1) (is (codes "w")) (is (codes "w.aq"))
    (is (codes "w.rl")) (is (codes "w.aqrl")) e

-- ---- names

pub other_byte : (P : ℕ → Bool) (x c : ℕ) → P x ≡ true → P c ≡ false → x ≡ c → ⊥
other_byte P x c is_in is_out e = let h : P c ≡ true = ap P (sym e) ∙ is_in in cc

-- a byte that isn't among those of a text cuts nothing off
pub cut_whole : (P : ℕ → Bool) (c : ℕ) (xs : List ℕ) → list_all P xs ≡ true → P c ≡ false →
    cut c xs ≡ record { before = xs; after = None }
cut_whole P c [] all is_out = refl
cut_whole P c (x ∷ xs) all is_out =
    let b = and_parts (P x) (list_all P xs) all in
    rw (ne_eqb x c (other_byte P x c b.0 is_out), cut_whole P c xs b.1 is_out) refl

-- and where it stands after them, it cuts there
pub cut_before : (P : ℕ → Bool) (c : ℕ) (xs rest : List ℕ) → list_all P xs ≡ true → P c ≡ false →
    cut c (xs ++ c ∷ rest) ≡ record { before = xs; after = Some rest }
cut_before P c [] rest all is_out = rw (eq-eqb c c refl) refl
cut_before P c (x ∷ xs) rest all is_out =
    let b = and_parts (P x) (list_all P xs) all in
    rw (ne_eqb x c (other_byte P x c b.0 is_out), cut_before P c xs rest b.1 is_out) refl

none_is : (o : Option (Bool × Bool)) → is_none o ≡ true → o ≡ None
none_is None e = refl
none_is (Some x) e = absurd cc

abbrev named_as : Mnemonic → Bool → Bool → Option Name
named_as m aq rl = Some (record { mnemonic = m; aq = aq; rl = rl })

again_by : (b : Bool) (m : Mnemonic) (aq rl : Bool) → is_ordered m.syntax ≡ b → is_plain b m.name ≡ true →
    named m.name ≡ Some m → OnFalse b ((aq ≡ false) × (rl ≡ false))
    → name_of (cond b (m.name ++ full_stop ∷ order_text aq rl) m.name) ≡ named_as m aq rl
unfolding name_of
again_by true m aq rl is plain row order =
    let text : List ℕ = m.name ++ full_stop ∷ order_text aq rl in
    let f : Option (Bool × Bool) → Option Name = λ o. option_and_then (with_order o) (named
    (base_of o text m.name)) in
    ap (λ (h : Halves). name_by text h) (cut_before is_ascii_alphanumeric full_stop m.name (order_text aq rl)
    plain refl) ∙ (ap f (order_again aq rl)
    ∙ rw (row, is) refl)
again_by false m aq rl is plain row order =
    let f : Option (Bool × Bool) → Option Name = λ o. option_and_then (with_order o) (named (base_of o m.name
    (cut full_stop m.name).before)) in
    ap f (none_is (order_after (cut full_stop m.name).after) plain) ∙ rw (row, is, order.0, order.1) refl

pub name_again : (m : Mnemonic) (aq rl : Bool) → Contains mnemonics m →
    OnFalse (is_ordered m.syntax) ((aq ≡ false) × (rl ≡ false)) → name_of (name_text m aq rl) ≡ named_as m aq rl
name_again m aq rl c order = again_by (is_ordered m.syntax) m aq rl refl (row_passes (λ x. is_plain
    (is_ordered x.syntax) x.name) mnemonics m rows_plain c) (named_row m c) order

-- the text is the name
pub record IsName (text : List ℕ) (n : Name) : Type 0 where
  pub row : Contains mnemonics n.mnemonic
  pub written : text ≡ name_text n.mnemonic n.aq n.rl
  pub order : OnFalse (is_ordered n.mnemonic.syntax) ((n.aq ≡ false) × (n.rl ≡ false))

unordered_name : (b : Bool) (text : List ℕ) (m : Mnemonic) (n : Name) → is_ordered m.syntax ≡ b →
    Contains mnemonics m → m.name ≡ text → cond b None (named_as m false false) ≡ Some n → IsName text n
unordered_name true text m n is c e h = absurd cc
unordered_name false text m n is c e h =
    let same : record { mnemonic = m; aq = false; rl = false } ≡ n = cc in
    subst (λ (x : Name). IsName text x) same (record { row = c; written = rw is (sym e); order = rw is (refl, refl) })

ordered_name : (b : Bool) (text rest : List ℕ) (m : Mnemonic) (aq rl : Bool) (n : Name) → is_ordered m.syntax ≡ b →
    Contains mnemonics m → text ≡ m.name ++ full_stop ∷ order_text aq rl → cond b (named_as m aq rl) None ≡ Some n →
    IsName text n
ordered_name false text rest m aq rl n is c e h = absurd cc
ordered_name true text rest m aq rl n is c e h =
    let same : record { mnemonic = m; aq = aq; rl = rl } ≡ n = cc in
    subst (λ (x : Name). IsName text x) same (record { row = c; written = rw is e; order = rw is tt })

some_row : {Y : Type 0} (o : Option Mnemonic) (f : Mnemonic → Option Y) (y : Y) → option_and_then f o ≡ Some y →
    (m : Mnemonic) × (o ≡ Some m) × (f m ≡ Some y)
some_row None f y e = absurd cc
some_row (Some m) f y e = (m, refl, e)

cut_joins : (text after : List ℕ) → (cut full_stop text).after ≡ Some after →
    text ≡ (cut full_stop text).before ++ full_stop ∷ after
cut_joins text after e = let P : Option (List ℕ) → Type 0 = λ o. MatchOption o ((cut full_stop text).before
    ≡ text) (λ rest. (cut full_stop text).before ++ (full_stop ∷ rest)
    ≡ text) in sym (subst P e (cut_parts full_stop text))

found_by : (after : Option (List ℕ)) (order : Option (Bool × Bool)) (text : List ℕ) (n : Name) →
    (cut full_stop text).after ≡ after → order_after after ≡ order →
    option_and_then (with_order order) (named (base_of order text (cut full_stop text).before)) ≡ Some n →
    IsName text n
found_by after None text n cuts is e =
    let r = some_row (named text) (with_order None) n e in
    let f = named_found text r.0 r.1 in
    unordered_name (is_ordered r.0.syntax) text r.0 n refl f.0 f.1 r.2
found_by None (Some order) text n cuts is e = absurd cc
found_by (Some after) (Some order) text n cuts is e =
    let r = some_row (named (cut full_stop text).before) (with_order (Some order)) n e in
    let f = named_found (cut full_stop text).before r.0 r.1 in
    let rest : after ≡ order_text order.0 order.1 = order_found after order is in
    let joined : text ≡ r.0.name ++ full_stop ∷ order_text order.0 order.1 = cut_joins text after cuts
    ∙ rw (f.1, rest) refl in
    ordered_name (is_ordered r.0.syntax) text after r.0 order.0 order.1 n refl f.0 joined r.2

pub name_found : (text : List ℕ) (n : Name) → name_of text ≡ Some n → IsName text n
unfolding name_of
name_found text n e = found_by (cut full_stop text).after (order_after (cut full_stop text).after) text n refl refl e

-- ---- the bytes of a name

order_bytes : (aq rl : Bool) → list_all is_name_byte (full_stop ∷ order_text aq rl) ≡ true
order_bytes false false = refl
order_bytes true false = refl
order_bytes false true = refl
order_bytes true true = refl

-- letters, digits and full stops, and one of them at least
pub name_facts : (m : Mnemonic) (aq rl : Bool) → Contains mnemonics m →
    (list_all is_name_byte (name_text m aq rl) ≡ true) × (0 < length (name_text m aq rl))
name_facts m aq rl c =
    let h = and_parts (list_all is_name_byte m.name) (ltb 0 (length m.name)) (row_passes (λ x. list_all
    is_name_byte x.name && ltb 0 (length x.name)) mnemonics m rows_named c) in
    by (is_ordered m.syntax) h.0 (ltb-true 0 (length m.name) h.1)
  where
    by : (b : Bool) → list_all is_name_byte m.name ≡ true → 0 < length m.name → (list_all is_name_byte (cond b (m.name
        ++ full_stop ∷ order_text aq rl) m.name) ≡ true) × (0 < length (cond b (m.name
        ++ full_stop ∷ order_text aq rl) m.name))
    by true all some = (
      list_all-append is_name_byte m.name (full_stop ∷ order_text aq rl) ∙ rw (all, order_bytes aq rl) refl,
      omega (arith, length-append m.name (full_stop ∷ order_text aq rl)),
    )
    by false all some = (all, some)
