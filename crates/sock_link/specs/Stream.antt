-- QEMU's stream socket form (`-netdev stream`, `-netdev socket`): before each frame stands its
-- length in four bytes, big-endian.
use Rattle.std.specs.Prelude.{◌≡◌, ℕ, zero, suc, ◌+◌, ◌<◌, ◌≤◌, Bool, List, [], ◌∷◌, ◌++◌, length, take, drop, All, nat_le, nat_lt, ◌&&◌, if◌then◌else◌}
use Rattle.std.specs.Int.{from_be_bytes, to_be_bytes, w32}

-- the greatest length of a frame that is taken
abbrev pub limit : ℕ
limit = 69632

-- a frame with its length before it
unfoldable pub record_of : List ℕ → List ℕ
record_of frame = to_be_bytes w32 (length frame) ++ frame

-- the records of frames, joined
abbrev pub stream_of : List (List ℕ) → List ℕ
stream_of [] = []
stream_of (frame ∷ frames) = record_of frame ++ stream_of frames

-- the length that a record's first four bytes state
unfoldable pub length_of : List ℕ → ℕ
length_of bytes = from_be_bytes w32 (take 4 bytes)

-- whether a whole length above the limit begins these bytes
abbrev pub is_too_long : List ℕ → Bool
is_too_long bytes = nat_le 4 (length bytes) && nat_lt limit (length_of bytes)

-- the length that these bytes state, where there are four
abbrev pub StatesLength : List ℕ → ℕ → Type 0
StatesLength bytes n = (4 ≤ length bytes) × (n ≡ length_of bytes)

-- a whole record with an allowed length begins these bytes, and takes so many of them
pub record BeginsRecord (bytes : List ℕ) (size : ℕ) : Type 0 where
  pub size_is : size ≡ 4 + length_of bytes
  pub four : 4 ≤ length bytes
  pub allowed : length_of bytes ≤ limit
  pub within : size ≤ length bytes

-- no whole record with an allowed length begins these bytes
abbrev pub IsUnfinished : List ℕ → Type 0
IsUnfinished bytes = 4 ≤ length bytes → length_of bytes ≤ limit → length bytes < 4 + length_of bytes

-- the bytes are the stream of these frames, all of an allowed length, and then the rest, where no
-- further one begins
pub record IsSplit (bytes : List ℕ) (frames : List (List ℕ)) (rest : List ℕ) : Type 0 where
  pub join : bytes ≡ stream_of frames ++ rest
  pub allowed : All (λ frame. length frame ≤ limit) frames
  pub unfinished : IsUnfinished rest

-- the first frames of bytes that begin with so many whole records
abbrev pub frames_in : ℕ → List ℕ → List (List ℕ)
frames_in zero bytes = []
frames_in (suc n) bytes =
    take (length_of bytes) (drop 4 bytes) ∷ frames_in n (drop (4 + length_of bytes) bytes)

-- what is kept of an unfinished record: of one that is too long its length alone
abbrev pub kept_part : List ℕ → List ℕ
kept_part rest = if is_too_long rest then take 4 rest else rest
