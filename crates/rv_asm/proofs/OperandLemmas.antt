-- How an operand's text is read: what the grammar has is found, and all else is refused for its first fault.
use Rattle.std.proofs.Common.{◌≡◌, ℕ, zero, suc, ◌*◌, ◌-◌, ◌%◌, ◌^◌, ◌<◌, ◌≤◌, Bool, true, false, cond, ℤ, pos, List, [], ◌∷◌, ◌++◌, length, Option, Some, None, Result, Ok, Err, MatchResult, eqb, leb, refl, sym, ap, subst, ◌∙◌, eqb-true, eq-eqb, inl, inr, arith}
use Rattle.std.specs.Prelude.{◌≢◌, ◌⊎◌, neg_ℤ, ◌≤ℤ◌, ◌<ℤ◌, unsigned_abs}
use Rattle.std.specs.List.{list_all}
use Rattle.std.proofs.lemmas.Bool.{ne_eqb, lt-leb, leb-false, leb-true}
use Rattle.std.proofs.lemmas.Int.{ints}
use Rattle.shared_definitions.specs.Ascii.{left_parenthesis, right_parenthesis}
use Rattle.ascii_text.specs.declared.numbers.NumberFault.{NumberFault}
use Rattle.ascii_text.specs.declared.numbers.NumberFault.TheVariants.{NoNumber, TooLarge}
use Rattle.ascii_text.specs.Cuts.{cut}
use Rattle.ascii_text.proofs.CutLemmas.{cut_parts}
use Rattle.rv_isa.specs.Ranges.{IsSigned, IsOffset}
use Rattle.rv_forms.specs.declared.kinds.Operands.{Operands}
use Rattle.rv_forms.specs.declared.kinds.Kind.{Kind}
use Rattle.rv_forms.specs.declared.kinds.Kind.TheVariants as kinds
use Rattle.rv_forms.specs.Ranges.{IsInRange, IsSame}
use Rattle.rv_forms.proofs.NameLemmas.{cut_before}
use Rattle.rv_asm.specs.declared.fault.Why.{Why}
use Rattle.rv_asm.specs.declared.fault.Why.TheVariants.{Word, Register, Range, Label}
use Rattle.rv_asm.specs.declared.reading.Number.{Number}
use Rattle.rv_asm.specs.Faults.{◌>>=◌}
use Rattle.rv_asm.specs.Grammar.{IsLabelOf, IsSignedText, IsUnsignedText, IsTargetText, IsWordText, IsValueText, IsBracketText, IsAddressText, IsOperandText}
use Rattle.rv_asm.specs.Operands.{register_or, register, value, word, even, near, place_or, named_place, distance, address, in_memory, number_or, label_target, target, label_value, signed_number, unsigned_number, bracketed, closed, base_register, address_parts, word_number, word_value, operand}
use Rattle.rv_asm.specs.Reading.{number_within, register_of, is_label}
use Rattle.rv_asm.specs.Refusals.{IsBadRegister, IsBadNumber, IsBadPlain, IsBadLabel, IsBadTarget, IsBadValue, IsBadBracket, IsBadAddress, IsBadBase, IsBadOperand}
use Rattle.rv_asm.proofs.ByteLemmas.{is_operand_byte, as_operand, number_is_operand, label_bytes, joined_all, register_facts, number_facts}

-- ---- what a reader gives

-- what a reader gives stands so, and nothing else does
pub record Reads {A : Type 0} (r : Result A Why) (In : A → Type 0) (Bad : Why → Type 0) : Type 0 where
  pub given : MatchResult r In Bad
  pub takes : (x : A) → In x → r ≡ Ok x
  pub refuses : (why : Why) → Bad why → r ≡ Err why

-- what was read failed exactly for what the relation says
abbrev pub Tells : {A : Type 0} → Result A Why → (Why → Type 0) → Type 0
Tells r P = (why : Why) → (r ≡ Err why → P why) × (P why → r ≡ Err why)

module _ {A : Type 0} {r : Result A Why} {In : A → Type 0} {Bad : Why → Type 0} (h : Reads r In Bad) where
  pub found : (x : A) → r ≡ Ok x → In x
  found x e = subst (λ (s : Result A Why). MatchResult s In Bad) e h.given

  pub tells : Tells r Bad
  tells why = (λ e. subst (λ (s : Result A Why). MatchResult s In Bad) e h.given, h.refuses why)

carried : {A : Type 0} {In Out : A → Type 0} {Bad Worse : Why → Type 0} (r : Result A Why) → ((x : A) → In x →
    Out x) → ((why : Why) → Bad why → Worse why) → MatchResult r In Bad → MatchResult r Out Worse
carried (Ok x) f g h = f x h
carried (Err why) f g h = g why h

-- the same in other words
pub recast : {A : Type 0} {r : Result A Why} {In Out : A → Type 0} {Bad Worse : Why → Type 0} → Reads r In Bad →
    ((x : A) → In x → Out x) → ((x : A) → Out x → In x) → ((why : Why) → Bad why → Worse why) → ((why : Why) →
    Worse why → Bad why) → Reads r Out Worse
recast {r = r} h to from to_worse from_worse = record {
  given = carried r to to_worse h.given;
  takes = λ x o. h.takes x (from x o);
  refuses = λ why w. h.refuses why (from_worse why w);
}

pub weakened : {A : Type 0} {r : Result A Why} {In Out : A → Type 0} {Bad : Why → Type 0} → Reads r In Bad →
    ((x : A) → In x → Out x) → MatchResult r Out Bad × ((why : Why) → Bad why → r ≡ Err why)
weakened {r = r} h f = (carried r f (λ why b. b) h.given, h.refuses)

-- the second reader follows where the first went well
pub chained : {A B : Type 0} {r : Result A Why} (f : A → Result B Why) {In : A → Type 0} {Bad : Why →
    Type 0} {Out : A → B → Type 0} {Worse : A → Why → Type 0} → Reads r In Bad → ((x : A) → In x →
    Reads (f x) (Out x) (Worse x))
    → Reads (r >>= f) (λ y. (x : A) × In x × Out x y) (λ why. Bad why ⊎ ((x : A) × In x × Worse x why))
chained {A = A} {r = r} f {In = In} {Bad = Bad} {Out = Out} {Worse = Worse} h g = record {
  given = by r h.given;
  takes = λ y o. rw (h.takes o.0 o.1) ((g o.0 o.1).takes y o.2);
  refuses = λ why o. elim o [
    | inl b ↦ rw (h.refuses why b) refl
    | inr l ↦ rw (h.takes l.0 l.1) ((g l.0 l.1).refuses why l.2)
  ];
}
  where
    by : (s : Result A Why) → MatchResult s In Bad → MatchResult (s >>= f) (λ y. (x : A) × In x × Out x y) (λ why.
        Bad why ⊎ ((x : A) × In x × Worse x why))
    by (Ok x) i = carried (f x) (λ y o. (x, i, o)) (λ why w. inr (x, i, w)) (g x i).given
    by (Err why) b = inl b

pub mapped : {A B : Type 0} {r : Result A Why} (put : A → B) {In : A → Type 0} {Bad : Why → Type 0} → Reads r In Bad →
    Reads (r >>= λ x. Ok (put x)) (λ y. (x : A) × In x × (put x ≡ y)) Bad
mapped {A = A} {r = r} put {In = In} {Bad = Bad} h = record {
  given = by r h.given;
  takes = λ y o. rw (h.takes o.0 o.1) (ap Ok o.2);
  refuses = λ why b. rw (h.refuses why b) refl;
}
  where
    by : (s : Result A Why) → MatchResult s In Bad → MatchResult (s >>= λ x. Ok (put x)) (λ y. (x : A) × In x
        × (put x ≡ y)) Bad
    by (Ok x) i = (x, i, refl)
    by (Err why) b = b

abbrev pub wrong_word : {A : Type 0} → Result A Why
wrong_word = Err Word

pub wrong : {A : Type 0} → Reads {A = A} wrong_word (λ x. ⊥) (λ why. why ≡ Word)
wrong = record { given = refl; takes = λ x never. absurd never; refuses = λ why e. rw e refl }

fine : {A : Type 0} (x : A) → Reads (Ok x) (λ y. x ≡ y) (λ why. (why ≡ Range) × ⊥)
fine x = record { given = refl; takes = λ y e. ap Ok e; refuses = λ why never. absurd never.1 }

guarded : {A : Type 0} (b : Bool) (x : A) {In : A → Type 0} {Out : Type 0} → (b ≡ true → In x) → ((y : A) → In y →
    (b ≡ true) × (x ≡ y)) → (b ≡ false → Out) → (Out → b ≡ false) →
    Reads (cond b (Ok x) (Err Range)) In (λ why. (why ≡ Range) × Out)
guarded true x fits back fails out = record {
  given = fits refl;
  takes = λ y i. ap Ok (back y i).1;
  refuses = λ why h. let e = out h.1 in absurd cc;
}
guarded false x fits back fails out = record {
  given = (refl, fails refl);
  takes = λ y i. let e = (back y i).0 in absurd cc;
  refuses = λ why h. rw h.0 refl;
}

abbrev within_bound : {A : Type 0} → ℕ → ℕ → A → Result A Why
within_bound m bound x = cond (leb m bound) (Ok x) (Err Range)

guard_ok : {A : Type 0} (b : Bool) (x y : A) → cond b (Ok x) (Err Range) ≡ Ok y → (b ≡ true) × (x ≡ y)
guard_ok true x y e = (refl, cc)
guard_ok false x y e = absurd cc

bound_reads : {A : Type 0} (m bound : ℕ) (x : A) → Reads (within_bound m bound x) (λ y. within_bound m bound x
    ≡ Ok y) (λ why. (why ≡ Range) × (bound < m))
bound_reads m bound x = guarded (leb m bound) x (λ e. rw e refl) (guard_ok (leb m bound) x) (leb-false m bound)
    (lt-leb m bound)

-- ---- registers and numbers

register_reads : (text : List ℕ) → Reads (register text) (λ r. register_of text ≡ Some r) (IsBadRegister text)
unfolding register
register_reads text = by (register_of text)
  where
    by : (o : Option ℕ) → Reads (register_or o text) (λ r. o ≡ Some r) (λ why. (o ≡ None) × (why ≡ cond
        (is_label text) Register Word))
    by (Some r) = record { given = refl; takes = λ s e. cc; refuses = λ why h. let no = h.0 in absurd cc }
    by None = record { given = (refl, refl); takes = λ s e. absurd cc; refuses = λ why h. rw h.1 refl }

-- what a number gives, or else what other text gives
abbrev IsNumberOr : {A : Type 0} → Result Number NumberFault → (Number → A → Type 0) → (A → Type 0) → A → Type 0
IsNumberOr read In Else x = ((n : Number) × (read ≡ Ok n) × In n x) ⊎ ((read ≡ Err NoNumber) × Else x)

module _ (low high : ℕ) (text : List ℕ) where
  number_reads : {A : Type 0} (f : Number → Result A Why) (other : Result A Why) {In : Number → A → Type 0} {Else : A →
      Type 0} {IsRefused : Number → Type 0} {IsElse : Why → Type 0} → ((n : Number) →
      Reads (f n) (In n) (λ why. (why ≡ Range) × IsRefused n)) → Reads other Else IsElse
      → Reads (number_or (number_within low high text) f other) (IsNumberOr (number_within low high text) In Else)
      (IsBadNumber low high IsRefused IsElse text)
  number_reads f other {In = In} {Else = Else} {IsRefused = IsRefused} {IsElse = IsElse} t u = record {
    given = by (number_within low high text) refl;
    takes = λ x h. elim h [ inl n ↦ rw n.1 ((t n.0).takes x n.2) | inr e ↦ rw e.0 (u.takes x e.1) ];
    refuses = λ why h. elim h [
      | inl r ↦ elim r.1 [ inl large ↦ rw (large, r.0) refl | inr n ↦ rw n.1 ((t n.0).refuses why (r.0, n.2)) ]
      | inr none ↦ rw none.0 (u.refuses why none.1)
    ];
  }
    where
      by : (read : Result Number NumberFault) → number_within low high text ≡ read → MatchResult
          (number_or read f other) (IsNumberOr (number_within low high text) In Else)
          (IsBadNumber low high IsRefused IsElse text)
      by (Ok n) is = carried (f n) (λ x i. inl (n, is, i)) (λ why r. inl (r.0, inr (n, is, r.1))) (t n).given
      by (Err TooLarge) is = inl (refl, inl is)
      by (Err NoNumber) is = carried other (λ x e. inr (is, e)) (λ why e. inr (is, e)) u.given

  plain_reads : {A : Type 0} (f : Number → A) →
      Reads (number_or (number_within low high text) (λ n. Ok (f n)) wrong_word)
      (λ x. (n : Number) × (number_within low high text ≡ Ok n) × (f n ≡ x)) (IsBadPlain low high text)
  plain_reads f = recast (number_reads (λ n. Ok (f n)) wrong_word (λ n. fine (f n)) wrong) (λ x h. elim h [
    | inl n ↦ n
    | inr none ↦ absurd none.1
  ]) (λ x n. inl n) (λ why h. h) (λ why h. h)

  module _ (places : List ℕ → Option ℕ) where
    label_reads : {A : Type 0} (far : ℕ → Result A Why) {IsFar : ℕ → Type 0} → ((p : ℕ) → Reads (far p) (λ x. far p
        ≡ Ok x) (λ why. (why ≡ Range) × IsFar p)) → Reads (named_place places text >>= far)
        (λ x. (p : ℕ) × IsLabelOf places text p × (far p ≡ Ok x)) (IsBadLabel places IsFar text)
    label_reads {A = A} far {IsFar = IsFar} t = record {
      given = by (is_label text) refl (places text) refl;
      takes = λ x h. rw (h.1.0, h.1.1) h.2;
      refuses = refused;
    }
      where
        by : (b : Bool) → is_label text ≡ b → (o : Option ℕ) → places text ≡ o → MatchResult (cond b (place_or o)
            (Err Word) >>= far) (λ x. (p : ℕ) × IsLabelOf places text p × (far p ≡ Ok x))
            (IsBadLabel places IsFar text)
        by false form o is = form
        by true form None is = (form, is)
        by true form (Some p) is = carried (far p) (λ x e. (p, (form, is), e)) (λ why r. subst
            (IsBadLabel places IsFar text) (sym r.0) (p, (form, is), r.1)) (t p).given

        refused : (why : Why) → IsBadLabel places IsFar text why → (named_place places text >>= far) ≡ Err why
        refused Word h = rw h refl
        refused Label h = rw (h.0, h.1) refl
        refused Range h = rw (h.1.0, h.1.1) ((t h.0).refuses Range (refl, h.2))
        refused Register h = absurd h

-- a number, or a label for what is made of its place
target_reads : (places : List ℕ → Option ℕ) (here low high : ℕ) (text : List ℕ) →
    Reads (target places here low high text) (IsTargetText places here low high text)
    (IsBadTarget places here low high text)
unfolding target label_target
target_reads places here low high text =
    recast (number_reads low high text even (label_target places here low high text)
    {In = λ n z. (n.magnitude % 2 ≡ 0) × (value n ≡ z)}
    (λ n. guarded (eqb (n.magnitude % 2) 0) (value n) (λ e. (eqb-true _ _ e, refl)) (λ z h. (eq-eqb _ _ h.0, h.1))
    (λ off z. let even_too = eq-eqb (n.magnitude % 2) 0 z in cc) (ne_eqb (n.magnitude % 2) 0))
    (label_reads low high text places (λ p. near low high (distance here p))
    (λ p. let n : Number = distance here p in bound_reads n.magnitude (cond n.negative low high) (value n))))
    (λ z h. elim h [ inl n ↦ inl (n.0, n.1, n.2.0, n.2.1) | inr p ↦ inr (p.1.0, p.0, p.1.1, p.1.2) ])
    (λ z h. elim h [ inl n ↦ inl (n.0, n.1, (n.2, n.3)) | inr p ↦ inr (p.1, (p.0, p.2, p.3)) ])
    (λ why h. h) (λ why h. h)

value_reads : (places : List ℕ → Option ℕ) (text : List ℕ) →
    Reads (word_value places text) (IsValueText places text) (IsBadValue places text)
unfolding word_value label_value
value_reads places text =
    recast (number_reads (2 ^ 31) (2 ^ 32 - 1) text (λ n. Ok (word n)) (label_value places text) (λ n. fine (word n))
    (label_reads (2 ^ 31) (2 ^ 32 - 1) text places (λ p. in_memory (address p)) (λ p. bound_reads (address p)
    (2 ^ 32 - 1) (address p))))
    (λ m h. elim h [ inl n ↦ inl n | inr p ↦ inr (p.1.0, p.0, p.1.1, p.1.2) ])
    (λ m h. elim h [ inl n ↦ inl n | inr p ↦ inr (p.1, (p.0, p.2, p.3)) ])
    (λ why h. h) (λ why h. h)

-- ---- registers in parentheses

-- a text that was cut
pub cut_in : (c : ℕ) (text after : List ℕ) → (cut c text).after ≡ Some after → text ≡ (cut c text).before ++ c ∷ after
cut_in c text after e = sym (rw e at (cut_parts c text))

closed_reads : (rest : Option (List ℕ)) (r : ℕ) → Reads (closed rest r) (λ s. (rest ≡ Some []) × (r ≡ s)) (λ why. (rest
    ≢ Some []) × (why ≡ Word))
closed_reads None r = recast wrong (λ s never. absurd never) (λ s h. let e = h.0 in absurd cc) (λ why e. (λ h. cc, e))
    (λ why h. h.1)
closed_reads (Some []) r = record {
  given = (refl, refl);
  takes = λ s h. ap Ok h.1;
  refuses = λ why h. absurd (h.0 refl);
}
closed_reads (Some (c ∷ cs)) r = recast wrong (λ s never. absurd never) (λ s h. let e = h.0 in absurd cc) (λ why e. (
  λ h. cc,
  e,
)) (λ why h. h.1)

abbrev IsBracketed : Option (List ℕ) → ℕ → Type 0
IsBracketed text r = (name : List ℕ) × (text ≡ Some (name ++ right_parenthesis ∷ [])) × (register_of name ≡ Some r)

bracket_reads : (text : Option (List ℕ)) → Reads (bracketed text) (IsBracketed text) (IsBadBracket text)
bracket_reads None = recast wrong (λ r never. absurd never) (λ r h. let e = h.1 in absurd cc) (λ why e. e) (λ why e. e)
bracket_reads (Some text) =
    let front = (cut right_parenthesis text).before in
    let after = (cut right_parenthesis text).after in
    recast (chained (closed after) (register_reads front) (λ r i. closed_reads after r))
    (λ r h. (front, ap Some (cut_in right_parenthesis text [] h.2.0), h.1 ∙ ap Some h.2.1))
    (λ r h. let same : text ≡ h.0 ++ right_parenthesis ∷ [] = (let e = h.1 in cc) in
    rw (same, cut_before _ right_parenthesis h.0 [] (register_facts h.0 r h.2).1 refl) (r, h.2, (refl, refl)))
    (λ why h. h) (λ why h. h)

base_reads : (text : List ℕ) → Reads (base_register text) (IsBracketText text) (IsBadBase text)
unfolding base_register
base_reads text =
    recast (by (cut left_parenthesis text).before (cut left_parenthesis text).after)
    (λ r h. (h.1.0, rw h.0 at (cut_in left_parenthesis text (h.1.0 ++ right_parenthesis ∷ []) h.1.1), h.1.2))
    (λ r h. rw h.1 (refl, (h.0, refl, h.2))) (λ why h. h) (λ why h. h)
  where
    by : (front : List ℕ) (after : Option (List ℕ)) → Reads (cond (eqb (length front) 0) (bracketed after)
        (Err Word)) (λ r. (front ≡ []) × IsBracketed after r) (λ why. ((front ≢ []) × (why ≡ Word)) ⊎ ((front
        ≡ []) × IsBadBracket after why))
    by [] after = recast (bracket_reads after) (λ r h. (refl, h)) (λ r h. h.1) (λ why h. inr (refl, h)) (λ why h. elim
        h [ inl some ↦ absurd (some.0 refl) | inr none ↦ none.1 ])
    by (c ∷ cs) after = rw (ne_eqb (length (c ∷ cs)) 0 (λ e. omega (arith, e))) (recast wrong (λ r never. absurd never)
        (λ r h. let e = h.0 in absurd cc) (λ why e. inl (λ h. cc, e)) (λ why h. elim h [
          | inl some ↦ some.1
          | inr none ↦ let e = none.0 in absurd cc
        ]))

address_reads : (text : List ℕ) → Reads (address_parts text) (λ p. IsAddressText text p.0 p.1) (IsBadAddress text)
unfolding address_parts signed_number
address_reads text =
    let front = (cut left_parenthesis text).before in
    let after = (cut left_parenthesis text).after in
    recast (chained (λ z. bracketed after >>= λ r. Ok (z, r)) (plain_reads 2048 2047 front value)
    (λ z i. mapped (λ r. (z, r)) (bracket_reads after)))
    (λ p h. subst (λ (q : ℤ × ℕ). IsAddressText text q.0 q.1) h.2.2 (
      front,
      left_parenthesis ∷ (h.2.1.0 ++ right_parenthesis ∷ []),
      cut_in left_parenthesis text _ h.2.1.1,
      h.1,
      (h.2.1.0, refl, h.2.1.2),
    ))
    (λ p h. rw (
      h.2,
      h.4.1,
      cut_before _ left_parenthesis h.0 _ (number_facts 2048 2047 h.0 h.3.0 h.3.1).1 refl,
    ) (p.0, h.3, (p.1, (h.4.0, refl, h.4.2), refl)))
    (λ why h. h) (λ why h. h)

-- ---- the ranges of operands

abbrev distance_by : Bool → ℕ → ℕ → Number
distance_by b x y = cond b (record { negative = false; magnitude = 4 * (y - x) })
    (record { negative = true; magnitude = 4 * (x - y) })

value_range : (negative : Bool) (m low high half : ℕ) → low ≤ half → high < half → m ≤ cond negative low high →
    (neg_ℤ (pos half) ≤ℤ cond negative (neg_ℤ (pos m)) (pos m)) × (cond negative (neg_ℤ (pos m)) (pos m) <ℤ pos half)
value_range true m low high half l h t = (omega (arith, ints), omega (arith, ints))
value_range false m low high half l h t = (omega (arith, ints), omega (arith, ints))

abs_value : (negative : Bool) (m : ℕ) → unsigned_abs (cond negative (neg_ℤ (pos m)) (pos m)) ≡ m
abs_value true zero = refl
abs_value true (suc m) = refl
abs_value false m = refl

signed_range : (text : List ℕ) (z : ℤ) → IsSignedText text z → IsSigned 12 z
signed_range text z h = subst (IsSigned 12) h.2 (value_range h.0.negative h.0.magnitude 2048 2047 (2 ^ 11)
    (omega arith) (omega arith) (number_facts 2048 2047 text h.0 h.1).0)

target_range : (places : List ℕ → Option ℕ) (here low high k : ℕ) (text : List ℕ) (z : ℤ) → low ≤ 2 ^ (k - 1) →
    high < 2 ^ (k - 1) → IsTargetText places here low high text z → IsOffset k z
target_range places here low high k text z l h t =
    elim t [
      | inl n ↦ by n.0 (number_facts low high text n.0 n.1).0 n.2 n.3
      | inr p ↦
          let n : Number = distance here p.0 in
          let g = guard_ok (leb n.magnitude (cond n.negative low high)) (value n) z p.3 in
          by n (leb-true n.magnitude (cond n.negative low high) g.0) (distance_even (leb here p.0) here p.0) g.1
    ]
  where
    by : (n : Number) → n.magnitude ≤ cond n.negative low high → n.magnitude % 2 ≡ 0 → value n ≡ z → IsOffset k z
    by n inside even is = subst (IsOffset k) is (
      value_range n.negative n.magnitude low high (2 ^ (k - 1)) l h inside,
      rw (abs_value n.negative n.magnitude) even,
    )

    distance_even : (b : Bool) (x y : ℕ) → (distance_by b x y).magnitude % 2 ≡ 0
    distance_even true x y = omega arith
    distance_even false x y = omega arith

unsigned_range : (high : ℕ) (text : List ℕ) (m : ℕ) → IsUnsignedText high text m → m ≤ high
unsigned_range high text m h = omega (arith, h.2, by h.0.negative (number_facts 0 high text h.0 h.1).0)
  where
    by : (negative : Bool) → h.0.magnitude ≤ cond negative 0 high → h.0.magnitude ≤ high
    by true t = omega arith
    by false t = t

word_range : (text : List ℕ) (m : ℕ) → IsWordText text m → m < 2 ^ 32
word_range text m h = omega (
  arith,
  h.2,
  by h.0.negative h.0.magnitude (number_facts (2 ^ 31) (2 ^ 32 - 1) text h.0
      h.1).0,
)
  where
    by : (negative : Bool) (n : ℕ) → n ≤ cond negative (2 ^ 31) (2 ^ 32 - 1) → cond negative
        ((2 ^ 32 - n) % 2 ^ 32) n < 2 ^ 32
    by true n t = omega arith
    by false n t = omega arith

value_text_range : (places : List ℕ → Option ℕ) (text : List ℕ) (m : ℕ) → IsValueText places text m → m < 2 ^ 32
value_text_range places text m t =
    elim t [
      | inl h ↦ word_range text m h
      | inr p ↦ let g = guard_ok (leb (address p.0) (2 ^ 32 - 1)) (address p.0) m p.3 in omega (
        arith,
        g.1,
        leb-true (address p.0) (2 ^ 32 - 1) g.0,
      )
    ]

-- ---- operands

-- the values with that of an operand taken over
abbrev pub taken : Kind → Operands → Operands → Operands
taken kinds.Rd f g = record g { rd = f.rd }
taken kinds.Rs1 f g = record g { rs1 = f.rs1 }
taken kinds.Rs2 f g = record g { rs2 = f.rs2 }
taken kinds.Immediate f g = record g { imm = f.imm }
taken kinds.Shift f g = record g { rs2 = f.rs2 }
taken kinds.Small f g = record g { rs1 = f.rs1 }
taken kinds.Csr f g = record g { wide = f.wide }
taken kinds.Upper f g = record g { wide = f.wide }
taken kinds.Branch f g = record g { imm = f.imm }
taken kinds.Jump f g = record g { imm = f.imm }
taken kinds.Address f g = record g { imm = f.imm; rs1 = f.rs1 }
taken kinds.Base f g = record g { rs1 = f.rs1 }
taken kinds.Word f g = record g { wide = f.wide }
taken kinds.Value f g = record g { wide = f.wide }

-- an operand that is read, and the field that has its value
pub record IsField (text : List ℕ) (read : Operands → Result Operands Why) (In : Operands → Type 0) (Bad : Why →
    Type 0) (take : Operands → Operands → Operands) (Same : Operands → Operands → Type 0) (Range : Operands →
    Type 0) : Type 0 where
  pub reads : (f : Operands) → Reads (read f) (λ g. In g × (take g f ≡ g)) Bad
  pub takes : (f g : Operands) → In g → read f ≡ Ok (take g f)
  pub same : (f g : Operands) → Same f g → In f → In g
  pub moved : (f g h : Operands) → Same f g → take f h ≡ take g h
  pub range : (f : Operands) → In f → Range f
  pub bytes : (f : Operands) → In f → list_all is_operand_byte text ≡ true

is_field : {A : Type 0} (text : List ℕ) (get : Operands → A) (put : A → Operands → Operands) {read : Result A
    Why} {In : A → Type 0} {Bad : Why → Type 0} {Same : Operands → Operands → Type 0} {Range : Operands → Type 0} →
    Reads read In Bad → ((x : A) (f : Operands) → get (put x f) ≡ x) → ((f g : Operands) → Same f g → get f ≡ get g) →
    ((f : Operands) → In (get f) → Range f) → ((x : A) → In x → list_all is_operand_byte text ≡ true)
    → IsField text (λ f. read >>= λ x. Ok (put x f)) (λ f. In (get f)) Bad (λ g f. put (get g) f) Same Range
is_field {A = A} text get put {In = In} h back agrees range bytes = record {
  reads = λ f. recast (mapped (λ x. put x f) h) (λ g o. subst (λ (g : Operands). In (get g) × (put (get g) f ≡ g)) o.2
      (rw (back o.0 f) (o.1, refl))) (λ g o. (get g, o.0, o.1)) (λ why b. b) (λ why b. b);
  takes = λ f g i. rw (h.takes (get g) i) refl;
  same = λ f g e i. subst In (agrees f g e) i;
  moved = λ f g other e. ap (λ (x : A). put x other) (agrees f g e);
  range = range;
  bytes = λ f i. bytes (get f) i;
}

number_bytes : (low high : ℕ) (text : List ℕ) (n : Number) → number_within low high text ≡ Ok n →
    list_all is_operand_byte text ≡ true
number_bytes low high text n e = number_is_operand text (number_facts low high text n e).1

bracket_bytes : (text : List ℕ) (r : ℕ) → IsBracketText text r → list_all is_operand_byte text ≡ true
bracket_bytes text r h = rw h.1 (joined_all is_operand_byte h.0 (right_parenthesis ∷ []) (as_operand h.0
    (register_facts h.0 r h.2).1) refl)

pub kind_is : (places : List ℕ → Option ℕ) (here : ℕ) (kind : Kind) (text : List ℕ) → IsField text (λ f. operand
    places here kind text f) (λ f. IsOperandText places here kind text f) (IsBadOperand places here kind text)
    (λ g f. taken kind g f) (λ f g. IsSame kind f g) (λ f. IsInRange kind f)
unfolding operand signed_number unsigned_number word_number
kind_is places here kinds.Rd text = is_field text (λ f. f.rd) (λ r f. record f { rd = r }) (register_reads text)
    (λ r f. refl) (λ f g e. e) (λ f i. (register_facts text f.rd i).0)
    (λ r i. as_operand text (register_facts text r i).1)
kind_is places here kinds.Rs1 text = is_field text (λ f. f.rs1) (λ r f. record f { rs1 = r }) (register_reads text)
    (λ r f. refl) (λ f g e. e) (λ f i. (register_facts text f.rs1 i).0)
    (λ r i. as_operand text (register_facts text r i).1)
kind_is places here kinds.Rs2 text = is_field text (λ f. f.rs2) (λ r f. record f { rs2 = r }) (register_reads text)
    (λ r f. refl) (λ f g e. e) (λ f i. (register_facts text f.rs2 i).0)
    (λ r i. as_operand text (register_facts text r i).1)
kind_is places here kinds.Immediate text = is_field text (λ f. f.imm) (λ z f. record f { imm = z })
    (plain_reads 2048 2047 text value) (λ z f. refl) (λ f g e. e) (λ f i. signed_range text f.imm i)
    (λ z i. number_bytes 2048 2047 text i.0 i.1)
kind_is places here kinds.Shift text = is_field text (λ f. f.rs2) (λ n f. record f { rs2 = n })
    (plain_reads 0 31 text (λ n. n.magnitude)) (λ n f. refl) (λ f g e. e)
    (λ f i. omega (arith, unsigned_range 31 text f.rs2 i)) (λ n i. number_bytes 0 31 text i.0 i.1)
kind_is places here kinds.Small text = is_field text (λ f. f.rs1) (λ n f. record f { rs1 = n })
    (plain_reads 0 31 text (λ n. n.magnitude)) (λ n f. refl) (λ f g e. e)
    (λ f i. omega (arith, unsigned_range 31 text f.rs1 i)) (λ n i. number_bytes 0 31 text i.0 i.1)
kind_is places here kinds.Csr text = is_field text (λ f. f.wide) (λ n f. record f { wide = n })
    (plain_reads 0 4095 text (λ n. n.magnitude)) (λ n f. refl) (λ f g e. e)
    (λ f i. omega (arith, unsigned_range 4095 text f.wide i)) (λ n i. number_bytes 0 4095 text i.0 i.1)
kind_is places here kinds.Upper text = is_field text (λ f. f.wide) (λ n f. record f { wide = n })
    (plain_reads 0 0xFFFFF text (λ n. n.magnitude)) (λ n f. refl) (λ f g e. e)
    (λ f i. omega (arith, unsigned_range 0xFFFFF text f.wide i)) (λ n i. number_bytes 0 0xFFFFF text i.0 i.1)
kind_is places here kinds.Branch text = is_field text (λ f. f.imm) (λ z f. record f { imm = z })
    (target_reads places here 4096 4094 text) (λ z f. refl) (λ f g e. e)
    (λ f i. target_range places here 4096 4094 13 text f.imm (omega arith) (omega arith) i)
    (λ z i. elim i [ inl n ↦ number_bytes 4096 4094 text n.0 n.1 | inr p ↦ label_bytes text p.2.0 ])
kind_is places here kinds.Jump text = is_field text (λ f. f.imm) (λ z f. record f { imm = z })
    (target_reads places here 1048576 1048574 text) (λ z f. refl) (λ f g e. e)
    (λ f i. target_range places here 1048576 1048574 21 text f.imm (omega arith) (omega arith) i)
    (λ z i. elim i [ inl n ↦ number_bytes 1048576 1048574 text n.0 n.1 | inr p ↦ label_bytes text p.2.0 ])
kind_is places here kinds.Address text = is_field text (λ f. (f.imm, f.rs1)) (λ p f. record f { imm = p.0; rs1 = p.1 })
    (address_reads text) (λ p f. refl) (λ f g e. rw (e.0, e.1) refl)
    (λ f i. (signed_range i.0 f.imm i.3, (register_facts i.4.0 f.rs1 i.4.2).0))
    (λ p i. rw i.2 (joined_all is_operand_byte i.0 i.1 (number_bytes 2048 2047 i.0 i.3.0 i.3.1) (bracket_bytes i.1 p.1
    i.4)))
kind_is places here kinds.Base text = is_field text (λ f. f.rs1) (λ r f. record f { rs1 = r }) (base_reads text)
    (λ r f. refl) (λ f g e. e) (λ f i. (register_facts i.0 f.rs1 i.2).0) (λ r i. bracket_bytes text r i)
kind_is places here kinds.Word text = is_field text (λ f. f.wide) (λ n f. record f { wide = n })
    (plain_reads (2 ^ 31) (2 ^ 32 - 1) text word) (λ n f. refl) (λ f g e. e) (λ f i. word_range text f.wide i)
    (λ n i. number_bytes _ _ text i.0 i.1)
kind_is places here kinds.Value text = is_field text (λ f. f.wide) (λ n f. record f { wide = n })
    (value_reads places text) (λ n f. refl) (λ f g e. e) (λ f i. value_text_range places text f.wide i)
    (λ n i. elim i [ inl n ↦ number_bytes _ _ text n.0 n.1 | inr p ↦ label_bytes text p.2.0 ])
