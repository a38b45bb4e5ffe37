-- The options of a TCP header (RFC 9293, 3.2).
use Rattle.std.specs.Prelude.{ℕ, ◌+◌, Bool, ◌&&◌, ◌||◌, ◌==◌, nat_lt, if◌then◌else◌, Option, None, Some, List, [], ◌∷◌, length, take, drop, slice_index, zero, suc}
use Rattle.std.specs.List.{find}
use Rattle.inet_frame.specs.Place.{be16_at}

-- the length that the byte after the kind states, in the room that there is; 0 where it is missing,
-- below 2 or past the end
abbrev pub stated_len : ℕ → List ℕ → ℕ
stated_len room [] = 0
stated_len room (len ∷ _) = if nat_lt len 2 || nat_lt room len then 0 else len

-- how many bytes the first option takes: one at kind 1, else what its length byte states; 0 where
-- no option is met, at the end of the bytes or at kind 0
abbrev pub option_len : List ℕ → ℕ
option_len [] = 0
option_len (kind ∷ bytes) =
    if kind == 0 then 0 else (if kind == 1 then 1 else stated_len (1 + length bytes) bytes)

-- the first options, at most so many, up to where none is met
abbrev pub options_within : ℕ → List ℕ → List (List ℕ)
options_within zero bytes = []
options_within (suc n) bytes =
    if option_len bytes == 0 then []
    else take (option_len bytes) bytes ∷ options_within n (drop (option_len bytes) bytes)

-- the options up to where none is met, each with its kind and length; each takes a byte at least,
-- so there are no more of them than bytes
unfoldable pub options_of : List ℕ → List (List ℕ)
options_of bytes = options_within (length bytes) bytes

-- a maximum segment size: kind 2, length 4 (RFC 9293, 3.7.1)
abbrev pub is_mss : List ℕ → Bool
is_mss option = slice_index option 0 == 2 && length option == 4

-- the size that counts where no option gives one (RFC 9293, 3.7.1)
abbrev pub default_mss : ℕ
default_mss = 536

abbrev pub mss_value : Option (List ℕ) → ℕ
mss_value None = default_mss
mss_value (Some option) = be16_at option 2

-- the maximum segment size of some options: that of the first such option
abbrev pub mss_of : List ℕ → ℕ
mss_of bytes = mss_value (find is_mss (options_of bytes))
