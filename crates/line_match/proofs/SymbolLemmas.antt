-- The symbol of a kept line at an offset.
use Rattle.std.proofs.Common.{◌≡◌, ℕ, ◌+◌, ◌-◌, ◌<◌, ◌≤◌, zero, suc, Bool, true, false, ◌&&◌, ◌==◌, max, is_some, if◌then◌else◌, List, [], ◌∷◌, ◌++◌, length, map, drop, slice_get, get_or, Option, None, Some, refl, sym, ap, ap₂, ◌∙◌, arith}
use Rattle.std.specs.List.{range_with_len}
use Rattle.tcp_track.specs.Segments.{Symbol, syn, byte, fin, fin_if, syn_if}
use Rattle.tcp_track.specs.LineFields.{LineFields, IsWithin, syn_kept}
use Rattle.tcp_track.proofs.ElementLemmas.{get_drop}
use Rattle.line_release.specs.Whole.{whole_of, forgotten}
use Rattle.line_release.proofs.PartLemmas.{from-kept}
use Rattle.line_match.specs.Rest.{bytes_from, ends_from}
use Rattle.line_match.proofs.RestLemmas.{rest_is, data_of, place_later}

-- at an offset after the SYN
pub symbol_later_is : (l : LineFields) (from : ℕ) → is_some l.opening ≡ true → l.base ≤ from → 0 < from →
    slice_get (data_of l) (from - max l.base 1) ≡ slice_get (whole_of l).symbols from
symbol_later_is l from o low later =
    let place = from - max l.base 1 in
    sym (get_drop place (data_of l) 0 place (omega arith))
    ∙ (ap (λ (xs : List Symbol). slice_get xs 0) (sym (from-kept l from o low ∙ place_later l from o low later))
    ∙ get_drop from (whole_of l).symbols 0 from (omega arith))
