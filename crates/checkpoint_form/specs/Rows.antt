-- The messages of a line: one without its bytes, and then the bytes from offset 1 or the base on.
-- They are given twice: of a whole line, and of one as a tracker keeps it.
use Rattle.std.specs.Prelude.{ℕ, ◌+◌, Bool, is_some, if◌then◌else◌, List, ◌∷◌, drop, map, unwrap_or, Option, None, Some}
use Rattle.std.specs.Option.{option_map_or}
use Rattle.inet_frame.specs.declared.tuple.Tuple.{Tuple}
use Rattle.tcp_track.specs.LineFields.{LineFields}
use Rattle.tcp_track.specs.Lines as lines
use Rattle.tcp_track.specs.declared.openings.Opening.{Opening}
use Rattle.settle_rules.specs.Matching.{client_or_zero}
use Rattle.settle_rules.specs.Pieces.{pieces_of}
use Rattle.settle_rules.specs.Release.{bytes_in}
use Rattle.seq_rewriter.specs.Kept.{KeptNumbers, number_of}
use Rattle.colo_wire.specs.Forms as flag
use Rattle.colo_wire.specs.declared.messages.Message.{Message}
use Rattle.colo_wire.specs.declared.messages.Message.TheVariants.{Line, Bytes}

-- at most so many bytes of a line go into one message
abbrev pub bytes_together : ℕ
bytes_together = 65536

abbrev pub bytes_messages : List ℕ → List Message
bytes_messages bytes = map Bytes (pieces_of bytes_together bytes)

-- a flag where it is to be set
abbrev pub flag_if : ℕ → Bool → ℕ
flag_if flag set = if set then flag else 0

abbrev pub row_flags : lines.Line → ℕ
row_flags l =
    flag_if flag.opened (is_some l.opening) + flag_if flag.reset l.reset
    + flag_if flag.refused (is_some l.refused) + flag_if flag.fin (lines.has_ended l.symbols)

-- of a whole line, under the number that its client knows; what does not apply is 0
abbrev pub row_message : Tuple → lines.Line → ℕ → Message
row_message t l number =
    Line t l.mac (row_flags l) (client_or_zero l.opening)
    (option_map_or (λ (o : Opening). o.own) l.opening 0) number (unwrap_or l.refused 0) l.acked
    l.window l.mss l.base

-- the bytes from offset 1 or the base on, without FIN
abbrev pub row_bytes : lines.Line → List ℕ
row_bytes l = bytes_in (drop l.base l.symbols)

-- of a line as a tracker keeps it: without an opening all but MAC and refusal is 0
abbrev pub line_with : Tuple → LineFields → Option Opening → ℕ → Message
line_with t l None number =
    Line t l.mac (flag_if flag.refused (is_some l.refused)) 0 0 0 (unwrap_or l.refused 0) 0 0 0 0
line_with t l (Some o) number =
    Line t l.mac
    (flag.opened + flag_if flag.reset l.reset + flag_if flag.refused (is_some l.refused)
    + flag_if flag.fin l.fin) o.client o.own number (unwrap_or l.refused 0) l.acked l.window l.mss
    l.base

abbrev pub line_message : Tuple → LineFields → ℕ → Message
line_message t l number = line_with t l l.opening number

-- the number that is kept for the line's client; 0 where none is
abbrev pub number_for : KeptNumbers → Tuple → Option Opening → ℕ
number_for numbers t opening = unwrap_or (number_of numbers t (client_or_zero opening)) 0

abbrev pub line_messages : KeptNumbers → Tuple × LineFields → List Message
line_messages numbers x =
    line_message x.0 x.1 (number_for numbers x.0 x.1.opening) ∷ bytes_messages x.1.bytes
