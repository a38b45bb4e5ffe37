-- The text of a word assembles to the word, on one line.
use Rattle.std.proofs.Common.{◌≡◌, ℕ, ◌<◌, ◌^◌, Bool, true, false, not, ◌||◌, List, [], ◌∷◌, length, Option, Some, None, Ok, eqb, refl, ap, inl, inr, arith}
use Rattle.std.specs.Prelude.{codes, IsTrue}
use Rattle.std.specs.List.{list_all, slice_split}
use Rattle.std.proofs.lemmas.Bool.{and_parts, ne_eqb, eq-eqb, or_right}
use Rattle.std.proofs.lemmas.List.{length-append}
use Rattle.shared_definitions.specs.Ascii.{comma, space, colon, newline}
use Rattle.ascii_text.specs.Cuts.{cut}
use Rattle.rv_isa.specs.Fields.{aq, rl}
use Rattle.rv_forms.specs.declared.kinds.Operands.{Operands}
use Rattle.rv_forms.specs.declared.kinds.Kind.{Kind}
use Rattle.rv_forms.specs.declared.kinds.Kind.TheVariants as kinds
use Rattle.rv_forms.specs.Forms.{kinds_of, operands_of}
use Rattle.rv_forms.specs.Mnemonics.{Mnemonic, mnemonic_of}
use Rattle.rv_forms.specs.Names.{name_text}
use Rattle.rv_forms.proofs.NameLemmas.{other_byte, cut_whole, is_name_byte, fitting_found, name_facts}
use Rattle.rv_forms.proofs.WordLemmas.{operands_in_range}
use Rattle.rv_asm.specs.Grammar.{AreOperandTexts, IsStatementText, IsStatement}
use Rattle.rv_asm.specs.Lines.{label_of, line_of, place_of, words_at}
use Rattle.rv_asm.specs.Program.{line_words, program_from, program, Assembles}
use Rattle.rv_asm.specs.Statements.{no_operands, statement}
use Rattle.rv_asm.specs.Texts.{data_text, text_by, text_of, is_one_line}
use Rattle.rv_asm.proofs.ByteLemmas.{weaken, joined_all, is_operand_byte}
use Rattle.rv_asm.proofs.OperandLemmas.{kind_is}
use Rattle.rv_asm.proofs.StatementLemmas.{name_cut, statement_only}
use Rattle.rv_asm.proofs.TextLemmas.{statement_written}

-- ---- a line with a statement alone

-- the bytes of a line
is_line_byte : ℕ → Bool
is_line_byte c = is_name_byte c || (is_operand_byte c || (eqb c comma || eqb c space))

from_name : (c : ℕ) → is_name_byte c ≡ true → is_line_byte c ≡ true
unfolding is_line_byte
from_name c e = rw e refl

from_operand : (c : ℕ) → is_operand_byte c ≡ true → is_line_byte c ≡ true
unfolding is_line_byte
from_operand c e = or_right (is_name_byte c) (is_operand_byte c || (eqb c comma || eqb c space)) (rw e refl)

operands_bytes : (places : List ℕ → Option ℕ) (here : ℕ) (kind : Kind) (more : List Kind) (text : List ℕ)
    (f : Operands) → AreOperandTexts places here kind more text f → list_all is_line_byte text ≡ true
unfolding is_line_byte
operands_bytes places here kind [] text f h = weaken is_operand_byte is_line_byte text from_operand ((kind_is places
    here kind text).bytes f h)
operands_bytes places here kind (next ∷ more) text f h =
    rw h.2 (joined_all is_line_byte h.0 (comma ∷ space ∷ h.1) (weaken is_operand_byte is_line_byte h.0 from_operand
    ((kind_is places here kind h.0).bytes f h.3)) (operands_bytes places here next more h.1 f h.4))

not_newline : is_line_byte newline ≡ false
unfolding is_line_byte
not_newline = refl

-- what a statement's text says of its line
record IsLine (text : List ℕ) : Type 0 where
  bytes : list_all is_line_byte text ≡ true
  alone : line_of text ≡ record { label = None; statement = Some text }

abbrev places_of : List ℕ → List ℕ → Option ℕ
places_of text = words_at (place_of (text ∷ []))

no_label : (name : List ℕ) → list_all is_name_byte name ≡ true → label_of name ≡ None
unfolding label_of
no_label name plain = rw (cut_whole is_name_byte colon name plain refl) refl

line_by : (name text : List ℕ) → list_all is_name_byte name ≡ true → (cut space text).before ≡ name →
    0 < length text → line_of text ≡ record { label = None; statement = Some text }
unfolding line_of
line_by name text plain is some = rw (
  is,
  no_label name plain,
  ne_eqb (length text) 0 (λ e. omega (
    arith,
    e,
    some,
  )),
) refl

module _ (places : List ℕ → Option ℕ) (here : ℕ) (name : List ℕ) where
  -- the bytes of the text, and that there are any
  text_facts : (kinds : List Kind) (text : List ℕ) (f : Operands) → list_all is_name_byte name ≡ true →
      0 < length name → IsStatementText places here name kinds text f →
      (list_all is_line_byte text ≡ true) × (0 < length text)
  unfolding is_line_byte
  text_facts [] text f plain some h = rw h (weaken is_name_byte is_line_byte name from_name plain, some)
  text_facts (kind ∷ more) text f plain some h = (
    rw h.1 (joined_all is_line_byte name (space ∷ h.0) (weaken is_name_byte is_line_byte name from_name plain)
        (operands_bytes places here kind more h.0 f h.2)),
    omega (arith, ap length h.1, length-append name (space ∷ h.0)),
  )

  is_line : (kinds : List Kind) (text : List ℕ) (f : Operands) → (list_all is_name_byte name ≡ true) × (0 < length name)
      → IsStatementText places here name kinds text f → IsLine text
  is_line kinds text f plain h =
      let facts = text_facts kinds text f plain.0 plain.1 h in
      record {
        bytes = facts.0;
        alone = line_by name text plain.0 (name_cut places here name kinds text f plain.0 h).0
            facts.1;
      }

-- ---- a text of one line

split_none : (xs : List ℕ) → list_all is_line_byte xs ≡ true → slice_split (λ b. eqb b newline) xs ≡ xs ∷ []
split_none [] all = refl
split_none (x ∷ xs) all =
    let b = and_parts (is_line_byte x) (list_all is_line_byte xs) all in
    rw (ne_eqb x newline (other_byte is_line_byte x newline b.0 not_newline), split_none xs b.1) refl

one_line : (xs : List ℕ) → list_all is_line_byte xs ≡ true → is_one_line xs ≡ true
one_line xs all = weaken is_line_byte (λ c. not (eqb c newline)) xs (λ c e. rw
    (ne_eqb c newline (other_byte is_line_byte c newline e not_newline)) refl) all

program_by : (text : List ℕ) (word : ℕ) → IsLine text → statement (places_of text) 0 text ≡ Ok (word ∷ []) →
    Assembles text (word ∷ [])
unfolding program program_from line_words
program_by text word line read = rw (split_none text line.bytes, line.alone, read) refl

-- ---- the text of a word

record IsText (text : List ℕ) (word : ℕ) : Type 0 where
  line : IsLine text
  means : (places : List ℕ → Option ℕ) (here : ℕ) → IsStatement places here text (word ∷ [])

abbrev nowhere : List ℕ → Option ℕ
nowhere name = None

is_text : (o : Option Mnemonic) (word : ℕ) → word < 2 ^ 32 → mnemonic_of word ≡ o → IsText (text_by o word) word
is_text None word below e =
    let f : Operands = record (no_operands false false) { wide = word } in
    record {
      line = is_line nowhere 0 (codes ".word") (kinds.Word ∷ []) (data_text word) f (refl, omega arith)
          (statement_written nowhere 0 (codes ".word") (kinds.Word ∷ []) f (below, tt));
      means = λ places here. inr (inl (record {
        word = word;
        only = refl;
        written = statement_written places here
            (codes ".word") (kinds.Word ∷ []) f (below, tt);
      }));
    }
is_text (Some m) word below e =
    let found = fitting_found word m e in
    let name = name_text m (aq word) (rl word) in
    let f : Operands = operands_of m.syntax word in
    let ranges = operands_in_range m.syntax word below in
    record {
      line = is_line nowhere 0 name (kinds_of m.syntax) (text_by (Some m) word) f (name_facts m (aq word) (rl word)
          found.0) (statement_written nowhere 0 name (kinds_of m.syntax) f ranges);
      means = λ places here. inl (record {
        mnemonic = m;
        word = word;
        row = found.0;
        below = below;
        fits = eq-eqb _ _ found.1;
        only = refl;
        written = statement_written places here name (kinds_of m.syntax) f ranges;
      });
    }

text_is : (word : ℕ) → word < 2 ^ 32 → IsText (text_of word) word
unfolding text_of
text_is word below = is_text (mnemonic_of word) word below refl

pub text_assembles : (word : ℕ) → word < 2 ^ 32 → Assembles (text_of word) (word ∷ [])
text_assembles word below =
    let t = text_is word below in
    program_by (text_of word) word t.line (statement_only (places_of (text_of word)) 0 (text_of word) (word ∷ [])
    (t.means (places_of (text_of word)) 0))

pub text_is_one_line : (word : ℕ) → word < 2 ^ 32 → IsTrue (is_one_line (text_of word))
text_is_one_line word below = one_line (text_of word) (text_is word below).line.bytes
