-- Lines of a checkpoint: each comes as one message, and its bytes in messages that follow it.
use Rattle.std.specs.Prelude.{ℕ, ◌+◌, Bool, false, ◌&&◌, nat_lt, is_some, if◌then◌else◌, List, [], ◌++◌, length, Option, None, Some}
use Rattle.tcp_track.specs.LineFields.{LineFields, end_of, no_fields}
use Rattle.tcp_track.specs.declared.offsets.TheConstants.{OFFSET_BOUND}
use Rattle.colo_wire.specs.Forms.{opened, reset, refused, fin}
use Rattle.colo_wire.specs.Places.{has_flag}
use Rattle.colo_wire.specs.declared.messages.Message.{Message}
use Rattle.colo_wire.specs.declared.messages.Message.TheVariants.{Line}
use Rattle.kept_checkpoint.specs.declared.lines.LastLine.{LastLine}

-- the client's number of the refusal, where there is one
abbrev pub refused_by : ℕ → ℕ → Option ℕ
refused_by flags client = if has_flag refused flags then Some client else None

-- the line that a message gives, without its bytes; without an opening it has little more than a
-- MAC
abbrev pub line_in : Message → LineFields
line_in (Line tuple mac flags client own number refusal acked window mss base) =
    if has_flag opened flags then record {
      opening = Some (record { client = client; own = own });
      base = base;
      bytes = [];
      fin = has_flag fin flags;
      reset = has_flag reset flags;
      refused = refused_by flags refusal;
      acked = acked;
      window = window;
      mss = mss;
      mac = mac;
    }
    else record no_fields { refused = refused_by flags refusal; mac = mac }
line_in _ = no_fields

-- the line stays below the bound of offsets
abbrev pub line_fits : Message → Bool
line_fits m = nat_lt (end_of (line_in m)) OFFSET_BOUND && nat_lt (line_in m).acked OFFSET_BOUND

-- and still does with more bytes, which only an opened line has
abbrev pub bytes_fit : Option LastLine → List ℕ → Bool
bytes_fit None bytes = false
bytes_fit (Some last) bytes =
    is_some last.line.opening && nat_lt (end_of last.line + length bytes) OFFSET_BOUND

-- the bytes of a line go on
abbrev pub with_bytes : LastLine → List ℕ → LastLine
with_bytes last bytes =
    record last { line = record last.line { bytes = last.line.bytes ++ bytes } }
