-- How a statement is read: what the grammar has is found, and all else is refused for its first fault.
use Rattle.std.proofs.Common.{◌≡◌, ℕ, ◌<◌, ◌^◌, Bool, true, false, cond, List, [], ◌∷◌, Option, Some, None, Result, Ok, Err, MatchOption, MatchResult, bit_and, eqb, refl, sym, ap, subst, ◌∙◌, eqb-true, eq-eqb, inl, inr}
use Rattle.std.specs.Prelude.{◌↔◌, codes, Contains, option_map}
use Rattle.std.specs.Bool.{OnTrue, OnFalse}
use Rattle.std.specs.List.{list_all}
use Rattle.std.specs.Str.{bytes_eq}
use Rattle.std.proofs.lemmas.Slice.Eq.{bytes_eq-Decides}
use Rattle.shared_definitions.specs.Ascii.{comma, space}
use Rattle.ascii_text.specs.Cuts.{cut}
use Rattle.ascii_text.proofs.CutLemmas.{cut_parts}
use Rattle.rv_isa.specs.Fields.{aq, rl}
use Rattle.rv_isa.proofs.RowLemmas.{◌&◌}
use Rattle.rv_forms.specs.declared.kinds.Operands.{Operands}
use Rattle.rv_forms.specs.declared.kinds.Kind.{Kind}
use Rattle.rv_forms.specs.declared.kinds.Kind.TheVariants as kinds
use Rattle.rv_forms.specs.declared.kinds.Syntax.{Syntax}
use Rattle.rv_forms.specs.declared.kinds.Syntax.TheVariants.{UType, JType, IType, ShiftType, LoadType, SType, BType, RType, CsrType, CsrNumberType, Exact, LrType, AmoType}
use Rattle.rv_forms.specs.Forms.{kinds_of, mask_of, is_ordered, operands_of, word_of}
use Rattle.rv_forms.specs.Mnemonics.{Mnemonic, mnemonics}
use Rattle.rv_forms.specs.Names.{Name, name_text, named, name_of}
use Rattle.rv_forms.specs.Ranges.{AreInRange, IsSame, AreSame}
use Rattle.rv_forms.proofs.NameLemmas.{cut_whole, cut_before, is_name_byte, name_again, name_facts, name_found, row_is_fixed}
use Rattle.rv_forms.proofs.WordLemmas.{word_back, word_keeps}
use Rattle.rv_asm.specs.declared.fault.Why.{Why}
use Rattle.rv_asm.specs.declared.fault.Why.TheVariants.{Word}
use Rattle.rv_asm.specs.Faults.{◌>>=◌}
use Rattle.rv_asm.specs.Grammar.{IsOperandText, AreOperandTexts, IsStatementText, IsInstruction, IsStatement}
use Rattle.rv_asm.specs.Operands.{operand, after_comma, next_operand, operands}
use Rattle.rv_asm.specs.Refusals.{GoesOn, OperandsStop, Stops}
use Rattle.rv_asm.specs.Statements.{no_operands, load_words, data_words, li_words, instruction_words, statement}
use Rattle.rv_asm.proofs.ByteLemmas.{is_operand_byte}
use Rattle.rv_asm.proofs.OperandLemmas.{Reads, found, weakened, recast, chained, mapped, wrong, cut_in, taken, kind_is}

-- ---- operands one after the other

abbrev all_taken : List Kind → Operands → Operands → Operands
all_taken [] f g = g
all_taken (kind ∷ more) f g = all_taken more f (taken kind f g)

-- no later operand takes the place of an earlier one
abbrev pub AreApart : List Kind → Type 0
AreApart [] = Unit {0}
AreApart (kind ∷ more) = ((f g : Operands) → IsSame kind f (all_taken more g f)) × AreApart more

comma_read : (after later : Option (List ℕ)) → GoesOn after later → after_comma after ≡ Ok later
comma_read after None goes = rw goes refl
comma_read after (Some later) goes = rw goes refl

abbrev IsBadComma : Option (List ℕ) → Why → Type 0
IsBadComma after why = ((later : Option (List ℕ)) → GoesOn after later → ⊥) × (why ≡ Word)

comma_reads : (after : Option (List ℕ)) → Reads (after_comma after) (GoesOn after) (IsBadComma after)
comma_reads after = record {
  given = given after;
  takes = comma_read after;
  refuses = λ why h. refused why h (after_comma after) (given after);
}
  where
    given : (after : Option (List ℕ)) → MatchResult (after_comma after) (GoesOn after) (IsBadComma after)
    given None = refl
    given (Some []) = (λ later goes. let e = comma_read (Some []) later goes in cc, refl)
    given (Some (c ∷ cs)) = by (eqb c space) refl
      where
        by : (b : Bool) → eqb c space ≡ b → MatchResult (cond b (Ok (Some cs)) (Err Word)) (GoesOn (Some (c ∷ cs)))
            (IsBadComma (Some (c ∷ cs)))
        by true is = rw (eqb-true c space is) refl
        by false is = (λ later goes. let e = rw is at (comma_read (Some (c ∷ cs)) later goes) in cc, refl)

    refused : (why : Why) → IsBadComma after why → (r : Result (Option (List ℕ)) Why) → MatchResult r (GoesOn after)
        (IsBadComma after) → r ≡ Err why
    refused why h (Ok later) goes = absurd (h.0 later goes)
    refused why h (Err other) bad = rw (bad.1, h.1) refl

abbrev paired : {A B : Type 0} → A → B → Result (A × B) Why
paired x y = Ok (x, y)

bind_twice : {A B C : Type 0} (r : Result A Why) (s : Result B Why) (f : A → B → Result C Why) →
    ((r >>= λ x. s >>= λ y. paired x y) >>= λ n. f n.0 n.1) ≡ (r >>= λ x. s >>= λ y. f x y)
bind_twice (Err why) s f = refl
bind_twice (Ok x) (Err why) f = refl
bind_twice (Ok x) (Ok y) f = refl

module _ (places : List ℕ → Option ℕ) (here : ℕ) where
  -- the operands where their text is cut
  abbrev pub CutTexts : List Kind → Option (List ℕ) → Operands → Type 0
  CutTexts [] rest f = rest ≡ None
  CutTexts (kind ∷ more) None f = ⊥
  CutTexts (kind ∷ more) (Some text) f =
      IsOperandText places here kind (cut comma text).before f × ((later : Option (List ℕ))
      × GoesOn (cut comma text).after later × CutTexts more later f)

  texts_cut : (kind : Kind) (more : List Kind) (text : List ℕ) (f : Operands) →
      AreOperandTexts places here kind more text f → CutTexts (kind ∷ more) (Some text) f
  texts_cut kind [] text f h = rw (cut_whole is_operand_byte comma text ((kind_is places here kind text).bytes f h)
      refl) (h, (None, refl, refl))
  texts_cut kind (next ∷ more) text f h =
      rw (h.2, cut_before is_operand_byte comma h.0 (space ∷ h.1) ((kind_is places here kind h.0).bytes f h.3) refl)
      (h.3, (Some h.1, refl, texts_cut next more h.1 f h.4))

  cut_texts : (kind : Kind) (more : List Kind) (text : List ℕ) (f : Operands) → CutTexts (kind ∷ more) (Some text) f →
      AreOperandTexts places here kind more text f
  cut_texts kind [] text f h =
      let whole : (cut comma text).before ≡ text = rw (rw h.1.2 at h.1.1) at (cut_parts comma text) in
      subst (λ (t : List ℕ). IsOperandText places here kind t f) whole h.0
  cut_texts kind (next ∷ more) text f h = by h.1.0 h.1.1 h.1.2 (λ rest cuts. cut_texts next more rest f cuts)
    where
      by : (later : Option (List ℕ)) → GoesOn (cut comma text).after later → CutTexts (next ∷ more) later f →
          ((rest : List ℕ) → CutTexts (next ∷ more) (Some rest) f → AreOperandTexts places here next more rest f) →
          AreOperandTexts places here kind (next ∷ more) text f
      by None goes never again = absurd never
      by (Some rest) goes cuts again =
          ((cut comma text).before, rest, cut_in comma text (space ∷ rest) goes, h.0, again rest cuts)

  cuts_in_range : (list : List Kind) (rest : Option (List ℕ)) (f : Operands) → CutTexts list rest f → AreInRange list f
  cuts_in_range [] rest f h = tt
  cuts_in_range (kind ∷ more) None f never = absurd never
  cuts_in_range (kind ∷ more) (Some text) f h =
      ((kind_is places here kind (cut comma text).before).range f h.0, cuts_in_range more h.1.0 f h.1.2)

  same_cuts : (list : List Kind) (rest : Option (List ℕ)) (f g : Operands) → AreSame list f g →
      CutTexts list rest f → CutTexts list rest g
  same_cuts [] rest f g e h = h
  same_cuts (kind ∷ more) None f g e never = never
  same_cuts (kind ∷ more) (Some text) f g e h = (
    (kind_is places here kind (cut comma text).before).same f g e.0 h.0,
    (
      h.1.0,
      h.1.1,
      same_cuts more h.1.0 f g e.1
          h.1.2,
    ),
  )

  operands_taken : (list : List Kind) (rest : Option (List ℕ)) (f g : Operands) → CutTexts list rest g →
      operands places here list rest f ≡ Ok (all_taken list g f)
  unfolding operands next_operand
  operands_taken [] rest f g h = rw h refl
  operands_taken (kind ∷ more) None f g never = absurd never
  operands_taken (kind ∷ more) (Some text) f g h =
      rw ((kind_is places here kind (cut comma text).before).takes f g h.0, comma_read _ h.1.0 h.1.1)
      (operands_taken more h.1.0 (taken kind g f) g h.1.2)

  operands_reads : (list : List Kind) → AreApart list → (rest : Option (List ℕ)) (f : Operands) →
      Reads (operands places here list rest f) (λ g. CutTexts list rest g × (all_taken list g f ≡ g))
      (OperandsStop places here list rest)
  unfolding operands next_operand
  operands_reads [] apart None f = record {
    given = (refl, refl);
    takes = λ g h. ap Ok h.1;
    refuses = λ why never. absurd never;
  }
  operands_reads [] apart (Some text) f = recast wrong (λ g never. absurd never) (λ g h. let e = h.0 in absurd cc)
      (λ why e. e) (λ why e. e)
  operands_reads (kind ∷ more) apart None f = recast wrong (λ g never. absurd never) (λ g h. absurd h.0) (λ why e. e)
      (λ why e. e)
  operands_reads (kind ∷ more) apart (Some text) f =
      let after = (cut comma text).after in
      let k = kind_is places here kind (cut comma text).before in
      let step = chained (λ a. after_comma after >>= λ later. operands places here more later a) (k.reads f) (λ a i.
      chained (λ later. operands places here more later a) (comma_reads after) (λ later goes. operands_reads more
      apart.1 later a)) in
      recast (rw (← bind_twice (operand places here kind (cut comma text).before f) (after_comma after)
      (λ a later. operands places here more later a)) at step)
      (λ g s.
      let same : IsSame kind s.0 g = subst (IsSame kind s.0) s.2.2.1 (apart.0 s.0 g) in (
        (k.same s.0 g same s.1.0, (s.2.0, s.2.1, s.2.2.0)),
        ap (all_taken more g) (sym (k.moved s.0 g f same) ∙ s.1.1) ∙ s.2.2.1,
      ))
      (λ g h. (
        taken kind g f,
        found (k.reads f) (taken kind g f) (k.takes f g h.0.0),
        (
          h.0.1.0,
          h.0.1.1,
          (
            h.0.1.2,
            h.1,
          ),
        ),
      ))
      (λ why h. elim h [
        | inl b ↦ inl b
        | inr s ↦ inr ((s.0, s.1.0), elim s.2 [ inl stop ↦ inr stop | inr later ↦ inl later ])
      ])
      (λ why h. elim h [
        | inl b ↦ inl b
        | inr s ↦ inr (
          taken kind s.0.0 f,
          found (k.reads f) (taken kind s.0.0 f) (k.takes f s.0.0 s.0.1),
          elim s.1 [
            | inl later ↦ inr later
            | inr stop ↦ inl stop
          ],
        )
      ])

  pub read_in_range : (list : List Kind) → AreApart list → (rest : Option (List ℕ)) (f g : Operands) →
      operands places here list rest f ≡ Ok g → AreInRange list g
  read_in_range list apart rest f g e = cuts_in_range list rest g (found (operands_reads list apart rest f) g e).0

  -- ---- statements

  -- a name, and the operands after it
  pub name_cut : (name : List ℕ) (list : List Kind) (text : List ℕ) (f : Operands) → list_all is_name_byte name ≡ true →
      IsStatementText places here name list text f
      → ((cut space text).before ≡ name) × CutTexts list (cut space text).after f
  name_cut name [] text f plain h = rw (ap (cut space) h ∙ cut_whole is_name_byte space name plain refl) (refl, refl)
  name_cut name (kind ∷ more) text f plain h =
      rw (ap (cut space) h.1 ∙ cut_before is_name_byte space name h.0 plain refl) (refl, texts_cut kind more h.0 f h.2)

  name_joined : (name : List ℕ) (list : List Kind) (text : List ℕ) (f : Operands) → (cut space text).before ≡ name →
      CutTexts list (cut space text).after f → IsStatementText places here name list text f
  name_joined name [] text f is h = sym (rw h at (cut_parts space text)) ∙ is
  name_joined name (kind ∷ more) text f is h = by (cut space text).after refl h
    where
      by : (after : Option (List ℕ)) → (cut space text).after ≡ after → CutTexts (kind ∷ more) after f →
          IsStatementText places here name (kind ∷ more) text f
      by None e never = absurd never
      by (Some rest) e cuts = (rest, rw is at (cut_in space text rest e), cut_texts kind more rest f cuts)

-- the operands of a row are apart and leave the order bits, and its word doesn't depend on other values
abbrev IsRow : Syntax → Type 0
IsRow syntax =
    AreApart (kinds_of syntax) × ((f g : Operands) → ((all_taken (kinds_of syntax) f g).aq ≡ g.aq)
    × ((all_taken (kinds_of syntax) f g).rl ≡ g.rl)) × ((value : ℕ) (f g : Operands) → OnTrue (is_ordered syntax) ((g.aq
    ≡ f.aq) × (g.rl ≡ f.rl)) → word_of syntax value (all_taken (kinds_of syntax) f g) ≡ word_of syntax value f)

pub row_is : (syntax : Syntax) → IsRow syntax
unfolding word_of
row_is UType = ((λ f g. refl) & (λ f g. refl) & tt, λ f g. (refl, refl), λ v f g h. refl)
row_is JType = ((λ f g. refl) & (λ f g. refl) & tt, λ f g. (refl, refl), λ v f g h. refl)
row_is IType = ((λ f g. refl) & (λ f g. refl) & (λ f g. refl) & tt, λ f g. (refl, refl), λ v f g h. refl)
row_is ShiftType = ((λ f g. refl) & (λ f g. refl) & (λ f g. refl) & tt, λ f g. (refl, refl), λ v f g h. refl)
row_is LoadType = ((λ f g. refl) & (λ f g. (refl, refl)) & tt, λ f g. (refl, refl), λ v f g h. refl)
row_is SType = ((λ f g. refl) & (λ f g. (refl, refl)) & tt, λ f g. (refl, refl), λ v f g h. refl)
row_is BType = ((λ f g. refl) & (λ f g. refl) & (λ f g. refl) & tt, λ f g. (refl, refl), λ v f g h. refl)
row_is RType = ((λ f g. refl) & (λ f g. refl) & (λ f g. refl) & tt, λ f g. (refl, refl), λ v f g h. refl)
row_is CsrType = ((λ f g. refl) & (λ f g. refl) & (λ f g. refl) & tt, λ f g. (refl, refl), λ v f g h. refl)
row_is CsrNumberType = ((λ f g. refl) & (λ f g. refl) & (λ f g. refl) & tt, λ f g. (refl, refl), λ v f g h. refl)
row_is Exact = (tt, λ f g. (refl, refl), λ v f g h. refl)
row_is LrType = ((λ f g. refl) & (λ f g. refl) & tt, λ f g. (refl, refl), λ v f g h. rw (h.0, h.1) refl)
row_is AmoType = (
  (λ f g. refl) & (λ f g. refl) & (λ f g. refl) & tt,
  λ f g. (refl, refl),
  λ v f g h. rw (h.0, h.1) refl,
)

pub load_apart : AreApart (kinds.Rd ∷ kinds.Value ∷ [])
load_apart = (λ f g. refl) & (λ f g. refl) & tt

module _ (places : List ℕ → Option ℕ) (here : ℕ) (text : List ℕ) where
  -- no instruction has the name of a directive
  other_name : (name directive : List ℕ) → name_of directive ≡ None → (n : Name) → name_of name ≡ Some n →
      bytes_eq name directive ≡ false
  other_name name directive none n is = by (bytes_eq name directive) refl
    where
      by : (b : Bool) → bytes_eq name directive ≡ b → b ≡ false
      by false e = refl
      by true e = let h = (bytes_eq-Decides name directive).0 e in absurd (let again = rw h at is in cc)

  no_data_name : name_of (codes ".word") ≡ None
  unfolding name_of named mnemonics
  no_data_name = refl

  no_load_name : name_of (codes "li") ≡ None
  unfolding name_of named mnemonics
  no_load_name = refl

  abbrev same_bits : Bool → Bool → Bool → Bool → Type 0
  same_bits p q r s = (p ≡ r) × (q ≡ s)

  -- a name with the order bits of its word
  same_name : (b : Bool) (m : Mnemonic) (p q r s : Bool) → is_ordered m.syntax ≡ b →
      OnTrue b (same_bits p q r s) → name_text m p q ≡ name_text m r s
  same_name true m p q r s is e = rw (e.0, e.1) refl
  same_name false m p q r s is e = rw is refl

  -- a statement with the name that stands for the mnemonic and these order bits
  with_name : (m : Mnemonic) (w : ℕ) (p q : Bool) → Contains mnemonics m → w < 2 ^ 32 →
      bit_and w (mask_of m.syntax) ≡ m.value → OnFalse (is_ordered m.syntax) (same_bits p q false false) → OnTrue
      (is_ordered m.syntax) (same_bits p q (aq w) (rl w)) → IsStatementText places here (name_text m p q)
      (kinds_of m.syntax) text (operands_of m.syntax w) → statement places here text ≡ Ok (w ∷ [])
  unfolding statement operands_of
  with_name m w p q row below fits plain order written =
      let f : Operands = operands_of m.syntax w in
      let name = name_text m p q in
      let known = name_again m p q row plain in
      let cuts = name_cut places here name (kinds_of m.syntax) text f (name_facts m p q row).0 written in
      rw (
        cuts.0,
        other_name name (codes ".word") no_data_name _ known,
        other_name name (codes "li") no_load_name _ known,
        known,
        operands_taken places here (kinds_of m.syntax) (cut space text).after (no_operands p q) f cuts.1,
        (row_is m.syntax).2 m.value f (no_operands p q) order,
        word_back m.syntax m.value w below fits,
      ) refl

  instruction_only : (words : List ℕ) → IsInstruction places here text words → statement places here text ≡ Ok words
  instruction_only words h = rw h.only (by (is_ordered h.mnemonic.syntax) refl)
    where
      by : (b : Bool) → is_ordered h.mnemonic.syntax ≡ b → statement places here text ≡ Ok (h.word ∷ [])
      by true e = with_name h.mnemonic h.word (aq h.word) (rl h.word) h.row h.below (eqb-true _ _ h.fits) (rw e tt)
          (rw e (refl, refl)) h.written
      by false e = with_name h.mnemonic h.word false false h.row h.below (eqb-true _ _ h.fits) (rw e (refl, refl))
          (rw e tt) (rw (same_name false h.mnemonic false false (aq h.word) (rl h.word) e tt) h.written)

  pub statement_only : (words : List ℕ) → IsStatement places here text words → statement places here text ≡ Ok words
  unfolding statement
  statement_only words s =
      elim s [
        | inl instruction ↦ instruction_only words instruction
        | inr other ↦ elim other [
          | inl h ↦
              let f : Operands = record (no_operands false false) { wide = h.word } in
              let cuts = name_cut places here (codes ".word") (kinds.Word ∷ []) text f refl h.written in
              rw (
                cuts.0,
                operands_taken places here (kinds.Word ∷ []) (cut space text).after (no_operands false false) f
                    cuts.1,
                h.only,
              ) refl
          | inr h ↦
              let f : Operands = record (no_operands false false) { rd = h.rd; wide = h.number } in
              let cuts = name_cut places here (codes "li") (kinds.Rd ∷ kinds.Value ∷ []) text f refl h.written in
              rw (
                cuts.0,
                operands_taken places here (kinds.Rd ∷ kinds.Value ∷ []) (cut space text).after
                    (no_operands false false) f cuts.1,
                h.both,
              ) refl
        ]
      ]

  abbrev StatementTold : Result (List ℕ) Why → (Why → Type 0) → Type 0
  StatementTold r Bad = MatchResult r (IsStatement places here text) Bad × ((why : Why) → Bad why → r ≡ Err why)

  -- what statements with operands of these kinds give
  with_kinds : (list : List Kind) → AreApart list → (f : Operands) (put : Operands → List ℕ) → ((g : Operands) →
      CutTexts places here list (cut space text).after g → all_taken list g f ≡ g → IsStatement places here text
      (put g)) → StatementTold (operands places here list (cut space text).after f >>= λ g. Ok (put g))
      (OperandsStop places here list (cut space text).after)
  with_kinds list apart f put is =
      weakened (mapped put (operands_reads places here list apart (cut space text).after f))
      (λ words g. subst (IsStatement places here text) g.2 (is g.0 g.1.0 g.1.1))

  instruction_found : (m : Mnemonic) (f : Operands) → Contains mnemonics m →
      (cut space text).before ≡ name_text m f.aq f.rl →
      CutTexts places here (kinds_of m.syntax) (cut space text).after f →
      IsInstruction places here text (word_of m.syntax m.value f ∷ [])
  instruction_found m f row name cuts =
      let w : ℕ = word_of m.syntax m.value f in
      let keeps = word_keeps m.syntax m.value f (row_is_fixed m row) (cuts_in_range places here
      (kinds_of m.syntax) (cut space text).after f cuts) in
      record {
        mnemonic = m;
        word = w;
        row = row;
        below = keeps.below;
        fits = eq-eqb _ _ keeps.fixed;
        only = refl;
        written = name_joined places here (name_text m (aq w) (rl w)) (kinds_of m.syntax) text
            (operands_of m.syntax w) (name ∙ same_name (is_ordered m.syntax) m f.aq f.rl (aq w) (rl w) refl
            keeps.order) (same_cuts places here (kinds_of m.syntax) (cut space text).after f
            (operands_of m.syntax w) keeps.operands cuts);
      }

  statement_told : (b c : Bool) (o : Option Name) → bytes_eq (cut space text).before (codes ".word") ≡ b → bytes_eq
      (cut space text).before (codes "li") ≡ c → name_of (cut space text).before ≡ o → StatementTold (cond b
      (data_words places here (cut space text).after) (cond c (li_words places here (cut space text).after)
      (instruction_words places here o (cut space text).after))) (λ why. MatchOption (cond b (Some (kinds.Word ∷ []))
      (cond c (Some (kinds.Rd ∷ kinds.Value ∷ [])) (option_map (λ n. kinds_of n.mnemonic.syntax) o))) (why ≡ Word)
      (λ list. OperandsStop places here list (cut space text).after why))
  statement_told true c o is_data is_load is =
      with_kinds (kinds.Word ∷ []) ((λ f g. refl) & tt) (no_operands false false)
      (λ g. g.wide ∷ []) (λ g cuts all. inr (inl (record {
        word = g.wide;
        only = refl;
        written = subst (λ (f : Operands). IsStatementText places here (codes ".word") (kinds.Word ∷ []) text f)
            (sym all) (name_joined places here (codes ".word") (kinds.Word ∷ []) text g ((bytes_eq-Decides _ _).0
            is_data) cuts);
      })))
  statement_told false true o is_data is_load is = with_kinds (kinds.Rd ∷ kinds.Value ∷ []) load_apart
      (no_operands false false) (λ g. load_words g.rd g.wide) (λ g cuts all. inr (inr (record {
        rd = g.rd;
        number = g.wide;
        both = refl;
        written = subst (λ (f : Operands). IsStatementText places here (codes "li") (kinds.Rd ∷ kinds.Value ∷ []) text
            f) (sym all) (name_joined places here (codes "li") (kinds.Rd ∷ kinds.Value ∷ []) text g
            ((bytes_eq-Decides _ _).0 is_load) cuts);
      })))
  statement_told false false None is_data is_load is = (refl, λ why e. rw e refl)
  statement_told false false (Some n) is_data is_load is =
      let row = row_is n.mnemonic.syntax in
      with_kinds (kinds_of n.mnemonic.syntax) row.0 (no_operands n.aq n.rl)
      (λ g. word_of n.mnemonic.syntax n.mnemonic.value g ∷ []) (λ g cuts all.
      let order = row.1 g (no_operands n.aq n.rl) in
      let known = name_found (cut space text).before n is in
      inl (instruction_found n.mnemonic g known.row (rw (
        ap (λ (f : Operands). f.aq) (sym all) ∙ order.0,
        ap
            (λ (f : Operands). f.rl) (sym all) ∙ order.1,
      ) known.written) cuts))

  pub statement_reads : Reads (statement places here text) (IsStatement places here text) (Stops places here text)
  unfolding statement
  statement_reads =
      let told = statement_told _ _ _ refl refl refl in
      record { given = told.0; takes = statement_only; refuses = told.1 }

  -- a statement is refused exactly where the grammar gives it no words
  pub refused_without_words : ((why : Why) × (statement places here text ≡ Err why)) ↔ ((words : List ℕ) →
      IsStatement places here text words → ⊥)
  refused_without_words = (λ h words is. let read = statement_only words is in cc, by (statement places here text) refl)
    where
      by : (r : Result (List ℕ) Why) → statement places here text ≡ r → ((words : List ℕ) →
          IsStatement places here text words → ⊥) → (why : Why) × (statement places here text ≡ Err why)
      by (Ok words) is none = absurd (none words (found statement_reads words is))
      by (Err why) is none = (why, is)
