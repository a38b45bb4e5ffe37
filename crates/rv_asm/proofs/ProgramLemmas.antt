-- Lines that were read, one after the other.
use Rattle.std.proofs.Common.{◌≡◌, ℕ, zero, suc, ◌+◌, ◌<◌, ◌≤◌, List, [], ◌∷◌, ◌++◌, length, get_or, map, drop, Option, Result, Ok, Err, Bor, add-one, append_assoc, refl, sym, ap, ◌∙◌, arith}
use Rattle.std.specs.Int.{w32, to_le_bytes}
use Rattle.std.proofs.lemmas.List.{append-nil}
use Rattle.std.proofs.lemmas.Grind.{flat_map-append}
use Rattle.rv_asm.specs.declared.fault.Why.{Why}
use Rattle.rv_asm.specs.declared.fault.AsmFault.{AsmFault}
use Rattle.rv_asm.specs.declared.fault.AsmFault.TheVariants as faults
use Rattle.rv_asm.specs.declared.places.Place.{Place}
use Rattle.rv_asm.specs.Lines.{line_of, word_count, place_of}
use Rattle.rv_asm.specs.Program.{Bad, with_before, and_later, line_words, program_from, program, HaveBytes, HaveFault, WritesWords, IsFaultOf, bytes_of}

-- the lines below an index were read, where labels have these places
abbrev pub HasRead : (List ℕ → Option Place) → List (List ℕ) → ℕ → ℕ → List ℕ → Type 0
HasRead places lines index here bytes =
    (words : List ℕ) × (with_before words (program_from places (drop index lines) index here)
    ≡ program_from places lines 0 0) × (bytes ≡ bytes_of words)

twice : (before words : List ℕ) (later : Result (List ℕ) Bad) →
    with_before before (with_before words later) ≡ with_before (before ++ words) later
twice before words (Ok more) = ap (λ (ws : List ℕ). Ok ws) (sym (append_assoc before words more))
twice before words (Err bad) = refl

-- one line more
at_line : (places : List ℕ → Option Place) (lines : List (List ℕ)) (i here : ℕ) (text : List ℕ) →
    drop i lines ≡ text ∷ drop (suc i) lines
    → program_from places (drop i lines) i here ≡ and_later (line_words places i here text) (i + 1)
    (program_from places (drop (suc i) lines) (i + 1) (here + word_count (line_of text).statement))
unfolding program_from
at_line places lines i here text cons = rw cons refl

pub line_at : (lines : List (Bor (List ℕ))) (i : ℕ) (d : Bor (List ℕ)) → i < length lines →
    drop i (map (λ line. line.now) lines) ≡ (get_or lines i d).now ∷ drop (suc i) (map (λ line. line.now) lines)
line_at [] i d inside = absurd (omega arith)
line_at (line ∷ lines) zero d inside = refl
line_at (line ∷ lines) (suc i) d inside = line_at lines i d (omega arith)

pub line_end : (lines : List (Bor (List ℕ))) (i : ℕ) → length lines ≤ i → drop i (map (λ line. line.now) lines) ≡ []
line_end [] zero past = refl
line_end [] (suc i) past = refl
line_end (line ∷ lines) zero past = absurd (omega arith)
line_end (line ∷ lines) (suc i) past = line_end lines i (omega arith)

pub read_more : (places : List ℕ → Option Place) (lines : List (List ℕ)) (i here : ℕ) (text old new : List ℕ) →
    drop i lines ≡ text ∷ drop (suc i) lines → WritesWords (line_words places i here text) old new →
    HasRead places lines i here old
    → HasRead places lines (i + 1) (here + word_count (line_of text).statement) new
read_more places lines i here text old new cons line read =
    let later = program_from places (drop (suc i) lines) (i + 1) (here + word_count (line_of text).statement) in
    let all = program_from places lines 0 0 in
    let here_read : with_before read.0 (with_before line.0 later)
    ≡ all = ap (λ (r : Result (List ℕ) Why). with_before read.0 (and_later r (i + 1) later)) (sym line.1)
    ∙ (ap (λ (r : Result (List ℕ) Bad). with_before read.0 r) (sym (at_line places lines i here text cons))
    ∙ read.1) in (
      read.0 ++ line.0,
      ap (λ (n : ℕ). with_before (read.0 ++ line.0) (program_from places (drop n lines) (i + 1) (here + word_count
          (line_of text).statement))) (add-one i) ∙ (sym (twice read.0 line.0 later) ∙ here_read),
      line.2 ∙ (ap (λ (x : List ℕ). x ++ bytes_of line.0) read.2
          ∙ sym (flat_map-append (to_le_bytes w32) read.0 line.0)),
    )

-- a bad line is the first
pub read_fault : (places : List ℕ → Option Place) (lines : List (List ℕ)) (i here : ℕ) (text old : List ℕ)
    (fault : AsmFault) → drop i lines ≡ text ∷ drop (suc i) lines → place_of lines ≡ places →
    IsFaultOf (line_words places i here text) i fault → HasRead places lines i here old → HaveFault lines fault
unfolding program
read_fault places lines i here text old faults.NoMemory cons same bad read = tt
read_fault places lines i here text old (faults.Line line why) cons same bad read =
    let later = program_from places (drop (suc i) lines) (i + 1) (here + word_count (line_of text).statement) in
    ap (λ (p : List ℕ → Option Place). program_from p lines 0 0) same
    ∙ (sym read.1 ∙ (ap (λ (r : Result (List ℕ) Bad). with_before read.0 r)
    (at_line places lines i here text cons) ∙ (ap (λ (r : Result (List ℕ) Why). with_before read.0 (and_later r
    (i + 1) later)) bad.0 ∙ ap (λ (n : ℕ). with_before [] (Err (record { line = n; why = why }))) (sym bad.1))))

-- all lines were read
pub read_all : (places : List ℕ → Option Place) (lines : List (List ℕ)) (i here : ℕ) (bytes : List ℕ) →
    drop i lines ≡ [] → place_of lines ≡ places → HasRead places lines i here bytes → HaveBytes lines bytes
unfolding program program_from
read_all places lines i here bytes none same read = (
  read.0,
  ap (λ (p : List ℕ → Option Place). program_from p lines 0 0) same ∙ (sym read.1
      ∙ rw none (ap (λ (ws : List ℕ). Ok ws) (append-nil read.0))),
  read.2,
)

abbrev all_words : List ℕ → Result (List ℕ) Bad
all_words words = Ok words

-- the lines have these bytes alone
pub same_words : (lines : List (List ℕ)) (words bytes : List ℕ) → HaveBytes lines bytes → program lines ≡ Ok words →
    bytes ≡ bytes_of words
same_words lines words bytes h g =
    let e : all_words h.0 ≡ all_words words = sym h.1 ∙ g in
    let same : h.0 ≡ words = cc in
    h.2 ∙ ap bytes_of same
