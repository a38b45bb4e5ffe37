-- The fields of the struct `Line` as a record.
use Rattle.tcp_track.specs.LineFields.{LineFields, IsWithin}
use Rattle.tcp_track.specs.declared.lines.Line.TheInside.{Inside}

abbrev pub fields_of_line : Inside → LineFields
fields_of_line l = record {
  opening = l.opening;
  base = l.base;
  bytes = l.bytes;
  fin = l.fin;
  reset = l.reset;
  refused = l.refused;
  acked = l.acked;
  window = l.window;
  mss = l.mss;
  mac = l.mac;
}

abbrev pub IsLine : Inside → Type 0
IsLine l = IsWithin (fields_of_line l)
