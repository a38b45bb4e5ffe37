-- A word has at most one row, and what a word's bits tell of the rows that fit it.
use Rattle.std.proofs.Common.{◌≡◌, ◌≢◌, ℕ, suc, zero, ◌<◌, ◌&&◌, ◌||◌, Bool, true, false, not, eqb, bit_and, Some, None, List, [], ◌∷◌, length, get_or, refl, sym, ◌∙◌, ap, arith, eq-eqb, eqb-true, inl, inr}
use Rattle.std.proofs.lemmas.Bool.{and_parts, or_cases, not-true, false_from_ne_true, false≢true}
use Rattle.std.proofs.lemmas.Nat.{and_assoc, and_comm}
use Rattle.std.specs.Prelude.{All, IsTrue, Contains}
use Rattle.std.specs.List.{list_all}
use Rattle.rv_isa.specs.Table.{Row, table, fits, read_by, decode, HasAtMostOneRow}

-- a fact of one row, and those of the rows after it
infixr 5 ◌&◌
pub ◌&◌ : {A B : Type 0} → A → B → A × B
a & b = (a, b)

-- some bit that both rows fix differs
abbrev pub apart : Row → Row → Bool
apart r s = not (eqb (bit_and r.value s.mask) (bit_and s.value r.mask))

-- each row is apart from each later one
abbrev pub all_apart : List Row → Bool
all_apart [] = true
all_apart (row ∷ rows) = list_all (apart row) rows && all_apart rows

-- the order of the two masks is free
swapped : (w m n : ℕ) → bit_and (bit_and w m) n ≡ bit_and (bit_and w n) m
swapped w m n = and_assoc n w m ∙ (ap (bit_and w) (and_comm m n) ∙ sym (and_assoc m w n))

-- two values of one word agree where both masks stand
meets : (w m n u v : ℕ) → bit_and w m ≡ u → bit_and w n ≡ v → bit_and u n ≡ bit_and v m
meets w m n u v e f = ap (λ x. bit_and x n) (sym e) ∙ (swapped w m n ∙ ap (λ x. bit_and x m) f)

not_both : (w : ℕ) (r s : Row) → apart r s ≡ true → fits r w ≡ true → fits s w ≡ true → ⊥
not_both w r s a e f =
    let same : eqb (bit_and r.value s.mask) (bit_and s.value r.mask) ≡ true =
    eq-eqb _ _ (meets w r.mask s.mask r.value s.value (eqb-true _ _ e) (eqb-true _ _ f)) in
    false≢true (sym (not-true _ a) ∙ same)

-- a test of every element holds at an index
at_index : (p : Row → Bool) (rows : List Row) (k : ℕ) (d : Row) → list_all p rows ≡ true → k < length rows
    → p (get_or rows k d) ≡ true
at_index p [] k d a h = absurd (omega arith)
at_index p (row ∷ rows) zero d a h = (and_parts _ _ a).0
at_index p (row ∷ rows) (suc k) d a h = at_index p rows k d (and_parts _ _ a).1 (omega arith)

apart_at : (rows : List Row) (i j : ℕ) (d : Row) → all_apart rows ≡ true → i < j → j < length rows
    → apart (get_or rows i d) (get_or rows j d) ≡ true
apart_at [] i j d a h l = absurd (omega arith)
apart_at (row ∷ rows) i zero d a h l = absurd (omega arith)
apart_at (row ∷ rows) zero (suc j) d a h l = at_index (apart row) rows j d (and_parts _ _ a).0 (omega arith)
apart_at (row ∷ rows) (suc i) (suc j) d a h l = apart_at rows i j d (and_parts _ _ a).1 (omega arith) (omega arith)

table_apart : all_apart table ≡ true
unfolding table
table_apart = refl

pub one_row : (w : ℕ) → HasAtMostOneRow w
one_row w i j d h l (e, f) = not_both w (get_or table i d) (get_or table j d) (apart_at table i j d table_apart h l) e f

-- a row that fits is the one that is read
reads_at : (rows : List Row) (k : ℕ) (d : Row) (w : ℕ) → all_apart rows ≡ true → k < length rows
    → fits (get_or rows k d) w ≡ true → read_by rows w ≡ Some ((get_or rows k d).read w)
unfolding read_by
reads_at [] k d w a h f = absurd (omega arith)
reads_at (row ∷ rows) zero d w a h f = rw f
reads_at (row ∷ rows) (suc k) d w a h f =
    let l : k < length rows = omega arith in
    let other : fits row w ≡ false =
    false_from_ne_true _
    (λ e. not_both w row (get_or rows k d) (at_index (apart row) rows k d (and_parts _ _ a).0 l) e f) in
    rw other (reads_at rows k d w (and_parts _ _ a).1 l f)

pub read_at : (w k : ℕ) (d : Row) → k < length table → fits (get_or table k d) w ≡ true
    → decode w ≡ Some ((get_or table k d).read w)
unfolding decode
read_at w k d l f = reads_at table k d w table_apart l f

pub row_at : (w : ℕ) (row : Row) → Contains table row → IsTrue (fits row w) → decode w ≡ Some (row.read w)
unfolding decode
row_at w row (k, l, e) f =
    let there : fits (get_or table k row) w ≡ true = rw e f in
    reads_at table k row w table_apart l there ∙ ap (λ r. Some (r.read w)) e

-- x is none of these numbers
abbrev pub IsNoneOf : ℕ → List ℕ → Type 0
IsNoneOf x [] = Unit {0}
IsNoneOf x (k ∷ ks) = (x ≢ k) × IsNoneOf x ks

-- x is one of these numbers
abbrev pub is_one_of : ℕ → List ℕ → Bool
is_one_of x [] = false
is_one_of x (k ∷ ks) = eqb x k || is_one_of x ks

not_one : (x : ℕ) (ks : List ℕ) → IsNoneOf x ks → is_one_of x ks ≡ true → ⊥
not_one x [] h e = false≢true e
not_one x (k ∷ ks) h e = elim (or_cases _ _ e) [ inl f ↦ h.0 (eqb-true _ _ f) | inr f ↦ not_one x ks h.1 f ]

-- A word that has j under n, and under m none of ks, does not fit the row.
abbrev pub is_ruled_out : ℕ → ℕ → ℕ → List ℕ → Row → Bool
is_ruled_out n j m ks row =
    not (eqb (bit_and row.value n) (bit_and j row.mask)) ||
    (eqb (bit_and row.mask m) m && is_one_of (bit_and row.value m) ks)

does_not_fit : (w n j m : ℕ) (ks : List ℕ) (row : Row) → bit_and w n ≡ j → IsNoneOf (bit_and w m) ks
    → is_ruled_out n j m ks row ≡ true → fits row w ≡ true → ⊥
does_not_fit w n j m ks row e h r f =
    let is : bit_and w row.mask ≡ row.value = eqb-true _ _ f in
    elim (or_cases _ _ r) [
      | inl a ↦ false≢true (sym (not-true _ a) ∙ eq-eqb _ _ (meets w row.mask n row.value j is e))
      | inr a ↦
          let covers : bit_and row.mask m ≡ m = eqb-true _ _ (and_parts _ _ a).0 in
          let same : bit_and row.value m ≡ bit_and w m =
          ap (λ x. bit_and x m) (sym is) ∙ (and_assoc m w row.mask ∙ ap (bit_and w) covers) in
          not_one (bit_and w m) ks h (ap (λ x. is_one_of x ks) (sym same) ∙ (and_parts _ _ a).1)
    ]

reads_none : (w n j m : ℕ) (ks : List ℕ) (rows : List Row) → bit_and w n ≡ j → IsNoneOf (bit_and w m) ks
    → list_all (is_ruled_out n j m ks) rows ≡ true → read_by rows w ≡ None
unfolding read_by
reads_none w n j m ks [] e h a = refl
reads_none w n j m ks (row ∷ rows) e h a =
    let other : fits row w ≡ false = false_from_ne_true _ (does_not_fit w n j m ks row e h (and_parts _ _ a).0) in
    rw other (reads_none w n j m ks rows e h (and_parts _ _ a).1)

pub no_row : (w n j m : ℕ) (ks : List ℕ) → bit_and w n ≡ j → IsNoneOf (bit_and w m) ks
    → list_all (is_ruled_out n j m ks) table ≡ true → decode w ≡ None
unfolding decode
no_row w n j m ks e h a = reads_none w n j m ks table e h a

-- where no row is read, none fits
first_not : (row : Row) (rows : List Row) (w : ℕ) → read_by (row ∷ rows) w ≡ None → fits row w ≡ false
unfolding read_by
first_not row rows w e = false_from_ne_true _ (λ f. let g : Some (row.read w) ≡ None = rw f at e in cc)

none_at : (rows : List Row) (k : ℕ) (d : Row) (w : ℕ) → read_by rows w ≡ None → k < length rows
    → fits (get_or rows k d) w ≡ false
unfolding read_by
none_at [] k d w e l = absurd (omega arith)
none_at (row ∷ rows) zero d w e l = first_not row rows w e
none_at (row ∷ rows) (suc k) d w e l =
    let other : fits row w ≡ false = first_not row rows w e in
    none_at rows k d w (rw other at e) (omega arith)

pub all_unfit : (w : ℕ) → decode w ≡ None → All (λ row. fits row w ≡ false) table
unfolding decode
all_unfit w e k d l = none_at table k d w e l
