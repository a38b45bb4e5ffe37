-- Which bytes may stand at the places of a body. Each test looks at the bytes from the front on,
-- so that it also judges the first bytes of a place of which more are to come.
use Rattle.std.specs.Prelude.{ℕ, ◌+◌, Bool, true, not, ◌&&◌, ◌||◌, ◌==◌, if◌then◌else◌, nat_lt, bit_and, List, [], ◌∷◌, drop, slice_index, take}
use Rattle.std.specs.List.{list_all}
use Rattle.colo_wire.specs.Forms.{opened, reset, fin}
use Rattle.colo_wire.specs.declared.forms.Place.{Place}
use Rattle.colo_wire.specs.declared.forms.Place.TheVariants.{Any, Seen, Flags, Marked, Offset}

-- how many bytes a place has
abbrev pub width : Place → ℕ
width (Any n) = n
width Seen = 1
width Flags = 1
width (Marked flag n) = n
width (Offset flag) = 4

-- one of these flags is set
abbrev pub has_flag : ℕ → ℕ → Bool
has_flag flag flags = not (bit_and flags flag == 0)

-- a reset (2) and a FIN (8) come only where the line is opened (1)
abbrev pub are_line_flags : ℕ → Bool
are_line_flags flags =
    nat_lt flags 16 && (has_flag opened flags || not (has_flag (reset + fin) flags))

abbrev pub is_zero : List ℕ → Bool
is_zero part = list_all (λ byte. byte == 0) part

-- whether these bytes, all of the place's or its first ones, may stand there, where the byte of
-- flags before them is this; an offset is below 2^31, so its first byte is below 128
abbrev pub may_stand : Place → ℕ → List ℕ → Bool
may_stand (Any n) flags part = true
may_stand Seen flags part = nat_lt (slice_index part 0) 2
may_stand Flags flags part = are_line_flags (slice_index part 0)
may_stand (Marked flag n) flags part = has_flag flag flags || is_zero part
may_stand (Offset flag) flags part =
    if has_flag flag flags then nat_lt (slice_index part 0) 128 else is_zero part

-- the byte of flags that holds after the place
abbrev pub flags_after : Place → ℕ → List ℕ → ℕ
flags_after (Any n) flags part = flags
flags_after Seen flags part = slice_index part 0
flags_after Flags flags part = slice_index part 0
flags_after (Marked flag n) flags part = flags
flags_after (Offset flag) flags part = flags

-- whether the bytes, all of a body's or its first ones, may stand at the places
abbrev pub follows : List Place → ℕ → List ℕ → Bool
follows [] flags bytes = true
follows (place ∷ places) flags bytes =
    may_stand place flags (take (width place) bytes)
    && follows places (flags_after place flags (take (width place) bytes))
    (drop (width place) bytes)
