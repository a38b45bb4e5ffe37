-- How many symbols a line with an opening has.
use Rattle.std.proofs.Common.{◌≡◌, ℕ, ◌+◌, Bool, true, false, ◌&&◌, ◌==◌, max, is_some, if◌then◌else◌, List, [], ◌∷◌, ◌++◌, length, map, refl, sym, ap, ◌∙◌, arith, length-append}
use Rattle.std.specs.List.{range_with_len}
use Rattle.std.proofs.lemmas.Bool.{eqb-true, eqb-false}
use Rattle.std.proofs.lemmas.List.{length-map}
use Rattle.std.proofs.lemmas.List.FromFn.{length-map-range_with_len}
use Rattle.tcp_track.specs.Segments.{Symbol, syn, byte, fin_if}
use Rattle.tcp_track.specs.LineFields.{LineFields, syn_kept, end_of}
use Rattle.line_release.specs.Whole.{whole_of, forgotten}

length-forgotten : (l : LineFields) → is_some l.opening ≡ true → length (forgotten l) ≡ l.base
length-forgotten l o = (λ i. length (if o i then map (λ (k : ℕ). byte 0) (range_with_len 0 l.base) else []))
    ∙ length-map-range_with_len (λ (k : ℕ). byte 0) 0 l.base

length-fin : (ends : Bool) → length (fin_if ends) ≡ (if ends then 1 else 0)
length-fin true = refl
length-fin false = refl

length-syn : (l : LineFields) → is_some l.opening ≡ true → l.base + length (syn_kept l) ≡ max l.base 1
length-syn l o = by (l.base == 0) refl
  where
    by : (b : Bool) → (l.base == 0) ≡ b → l.base + length (syn_kept l) ≡ max l.base 1
    by true p =
        let one : length (syn_kept l) ≡ 1 = (λ i. length (if o i && p i then syn ∷ [] else [])) in
        omega (arith, one, eqb-true l.base 0 p)
    by false p =
        let none : length (syn_kept l) ≡ 0 = (λ i. length (if o i && p i then syn ∷ [] else [])) in
        omega (arith, none, eqb-false l.base 0 p)

pub length_of_line : (l : LineFields) → is_some l.opening ≡ true → end_of l ≡ length (whole_of l).symbols
length_of_line l o =
    let bytes = map byte l.bytes in
    omega (
      arith,
      length-append (forgotten l) (syn_kept l ++ bytes ++ fin_if l.fin),
      length-append (syn_kept l ++ bytes) (fin_if l.fin),
      length-append (syn_kept l) bytes,
      length-map l.bytes byte,
      length-forgotten l o,
      length-fin l.fin,
      length-syn l o,
    )
