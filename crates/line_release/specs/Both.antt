-- Both known lines of one connection, as the rules of settling read them.
use Rattle.std.specs.Prelude.{Option, None, Some}
use Rattle.std.specs.Borrow.{Bor}
use Rattle.tcp_track.specs.Lines.{Line, no_line}
use Rattle.tcp_track.specs.LineFields.{LineFields}
use Rattle.settle_rules.specs.Matching.{BothLines}
use Rattle.line_release.specs.Whole.{whole_of}
use Rattle.line_release.specs.declared.both.Both.{Both}

-- the line of a tuple without an entry is none
abbrev pub line_or_none : Option (Bor LineFields) → Line
line_or_none None = no_line
line_or_none (Some l) = whole_of l.now

abbrev pub both_of : Both → BothLines
both_of b = record {
  tuple = b.tuple;
  mine = whole_of b.mine.now;
  theirs = line_or_none b.theirs;
  number = b.number;
  number_known = b.number_known;
}
