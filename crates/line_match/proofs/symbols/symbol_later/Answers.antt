-- The symbol stands at its place among bytes and FIN.
use Rattle.std.proofs.Common.{◌≡◌, ℕ, ◌-◌, ◌++◌, List, Bool, map, max, slice_get, ap, ◌∙◌, subst}
use Rattle.tcp_track.specs.Segments.{byte, fin_if}
use Rattle.tcp_track.specs.LineFields.{LineFields}
use Rattle.line_match.proofs.SymbolLemmas.{symbol_later_is}
use Rattle.line_match.proofs.symbols.symbol_later.Goals as goal

pub returns : goal.returns
returns c =
    let l : LineFields = c.args.line.now in
    c.data_symbol.ensures
    ∙ (ap (λ (xs : List ℕ). slice_get (map byte xs ++ fin_if c.line.inside.fin) (c.args.offset - c.max.result))
    c.as_slice.ensures
    ∙ (ap (λ (n : ℕ). slice_get (map byte c.line.inside.bytes ++ fin_if c.line.inside.fin) (c.args.offset - n))
    c.max.ensures
    ∙ (ap (λ (k : LineFields). slice_get (map byte k.bytes ++ fin_if k.fin) (c.args.offset - max k.base 1))
    c.line.view_is
    ∙ symbol_later_is l c.args.offset c.requires.opened c.requires.untrimmed c.requires.later)))
