-- Big-endian numbers: what is written is read again, and the other way round.
use Rattle.std.proofs.Common.{◌≡◌, ℕ, ◌+◌, ◌<◌, ◌≤◌, ◌^◌, Bool, true, false, List, [], ◌∷◌, length, take, drop, get_or, refl, ap, sym, ◌∙◌, arith, slice_index, slice_set, length-drop, add-zero}
use Rattle.std.specs.Prelude.{◌==◌}
use Rattle.std.proofs.lemmas.Nat.{be_bytes_2, be_bytes_4, be_bytes_8}
use Rattle.std.proofs.lemmas.List.{get_or-drop, length-take-le}
use Rattle.std.proofs.lemmas.Grind.{common_steps}
use Rattle.byteorder.specs.Endian.{big_bytes, big_number}
use Rattle.byteorder.specs.Numbers.{big_number-reads_back, big_from-take}
use Rattle.shared_definitions.specs.Bytes.{AreBytes}
use Rattle.shared_definitions.proofs.ByteLemmas.{AreBytes-part}
use Rattle.machine_bytes.specs.Reading.{number_at, is_flag}
use Rattle.machine_bytes.specs.Spelling.{flag_number}

pub read_2 : (x : ℕ) → x < 2 ^ 16 → big_number 2 (big_bytes 2 x) ≡ x
read_2 x h = big_number-reads_back 2 x [] h

pub read_4 : (x : ℕ) → x < 2 ^ 32 → big_number 4 (big_bytes 4 x) ≡ x
read_4 x h = big_number-reads_back 4 x [] h

pub read_8 : (x : ℕ) → x < 2 ^ 64 → big_number 8 (big_bytes 8 x) ≡ x
read_8 x h = big_number-reads_back 8 x [] h

pub read_flag : (on : Bool) → (big_number 4 (big_bytes 4 (flag_number on)) == 1) ≡ on
read_flag true = refl
read_flag false = refl

pub read_small_flag : (on : Bool) → (big_number 1 (big_bytes 1 (flag_number on)) == 1) ≡ on
read_small_flag true = refl
read_small_flag false = refl

-- n bytes are those of the number that they spell
abbrev pub IsSpelled : ℕ → Type 0
IsSpelled n = (bs : List ℕ) → length bs ≡ n → AreBytes bs → big_bytes n (big_number n bs) ≡ bs

pub spelled_1 : IsSpelled 1
spelled_1 (byte ∷ []) l h = ap (λ (n : ℕ). n ∷ []) (omega (arith, h 0))
spelled_1 [] l h = absurd (let no : ⊥ = omega arith in no)
spelled_1 (byte ∷ other ∷ more) l h = absurd (let no : ⊥ = omega arith in no)

pub spelled_2 : IsSpelled 2
spelled_2 bs l h = be_bytes_2 bs (big_number 2 bs) l h (omega arith)

pub spelled_4 : IsSpelled 4
spelled_4 bs l h = be_bytes_4 bs (big_number 4 bs) l h (omega arith)

pub spelled_8 : IsSpelled 8
spelled_8 bs l h = be_bytes_8 bs (big_number 8 bs) l h (omega arith)

-- the n bytes at a place are those of the number there
abbrev pub Writes : ℕ → Type 0
Writes n = (b : List ℕ) (at : ℕ) → AreBytes b → at + n ≤ length b → big_bytes n (number_at n b at) ≡ take n (drop at b)

part_written : (n : ℕ) → IsSpelled n → Writes n
part_written n spelled b at h l =
    let part : List ℕ = take n (drop at b) in
    let same : big_number n part ≡ number_at n b at = big_from-take 0 n n (drop at b) (omega arith) in
    rw (sym same) (spelled part (length-take-le n (drop at b) (simp length-drop (omega arith)))
    (AreBytes-part b n at h))

pub written_1 : Writes 1
written_1 = part_written 1 spelled_1

pub written_2 : Writes 2
written_2 = part_written 2 spelled_2

pub written_4 : Writes 4
written_4 = part_written 4 spelled_4

pub written_8 : Writes 8
written_8 = part_written 8 spelled_8

flag_back : (n : ℕ) → is_flag n ≡ true → flag_number (n == 1) ≡ n
flag_back n h = grind arith

pub written_flag : (b : List ℕ) (at : ℕ) → AreBytes b → at + 4 ≤ length b → is_flag (number_at 4 b at) ≡ true →
    big_bytes 4 (flag_number (number_at 4 b at == 1)) ≡ take 4 (drop at b)
written_flag b at h l flag = rw (flag_back (number_at 4 b at) flag) (written_4 b at h l)

pub written_small_flag : (b : List ℕ) (at : ℕ) → AreBytes b → at + 1 ≤ length b → is_flag (number_at 1 b at) ≡ true →
    big_bytes 1 (flag_number (number_at 1 b at == 1)) ≡ take 1 (drop at b)
written_small_flag b at h l flag = rw (flag_back (number_at 1 b at) flag) (written_1 b at h l)

pub number_of_byte : (b : List ℕ) (at : ℕ) → number_at 1 b at ≡ slice_index b at
number_of_byte b at =
    let there : slice_index (drop at b) 0 ≡ slice_index b at =
    get_or-drop at b 0 0 ∙ ap (λ (k : ℕ). slice_index b k) (add-zero at) in
    omega (arith, there)

-- a table to which the next entry is written
pub table_more : (x : List ℕ) (k v : ℕ) (f : ℕ → ℕ) → k < length x → v ≡ f k → ((j : ℕ) → j < k → get_or x j 0 ≡ f j) →
    (j : ℕ) → j < k + 1 → get_or (slice_set x k v) j 0 ≡ f j
table_more x k v f inside e h j below = grind (arith, common_steps, h j)
