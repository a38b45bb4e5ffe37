-- What a kept line has from an offset on, from which nothing of it is forgotten.
use Rattle.std.specs.Prelude.{ℕ, ◌+◌, ◌-◌, Bool, ◌&&◌, ◌==◌, nat_eq, nat_le, max, if◌then◌else◌, List, length, drop}
use Rattle.std.specs.List.{common_prefix_len}
use Rattle.tcp_track.specs.LineFields.{LineFields}

-- the bytes from an offset on
abbrev pub bytes_from : LineFields → ℕ → List ℕ
bytes_from l offset = drop (offset - max l.base 1) l.bytes

-- FIN stands at the offset or after it
abbrev pub ends_from : LineFields → ℕ → Bool
ends_from l offset = l.fin && nat_le (offset - max l.base 1) (length l.bytes)

abbrev pub one_if : Bool → ℕ
one_if b = if b then 1 else 0

-- how many bytes of two lists agree from the front on, and FIN after them where both end there
abbrev pub agreed_bytes : List ℕ → Bool → List ℕ → Bool → ℕ
agreed_bytes xs ends ys others_end =
    let n = common_prefix_len nat_eq xs ys in
    n + one_if (ends && (others_end && (n == length xs && n == length ys)))

-- how many symbols of two lines agree from an offset on
abbrev pub agreed_from : LineFields → LineFields → ℕ → ℕ
agreed_from mine theirs offset =
    one_if (offset == 0)
    + agreed_bytes (bytes_from mine offset) (ends_from mine offset) (bytes_from theirs offset)
    (ends_from theirs offset)
