-- The symbols of the code as those of a line.
use Rattle.tcp_track.specs.Segments.{Symbol, syn, byte, fin}
use Rattle.line_match.specs.declared.symbols.LineSymbol.{LineSymbol}
use Rattle.line_match.specs.declared.symbols.LineSymbol.TheVariants.{Syn, Byte, Fin}

abbrev pub symbol_of : LineSymbol → Symbol
symbol_of Syn = syn
symbol_of (Byte b) = byte b
symbol_of Fin = fin
