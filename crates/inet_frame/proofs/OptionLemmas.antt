-- The walk over TCP options, one option at a time.
use Rattle.std.proofs.Common.{
  ◌≡◌,
  ℕ,
  ◌+◌,
  ◌*◌,
  ◌<◌,
  ◌≤◌,
  ◌≢◌,
  zero,
  suc,
  Bool,
  true,
  false,
  cond,
  ◌&&◌,
  Some,
  List,
  [],
  ◌∷◌,
  length,
  get_or,
  take,
  drop,
  refl,
  ap,
  sym,
  ◌∙◌,
  arith,
  length-drop,
  eqb,
  ⊎_elim,
}
use Rattle.std.proofs.lemmas.Bool.{ne_eqb, cases_eq, and_right}
use Rattle.std.proofs.lemmas.List.{get_or-take, length-take}
use Rattle.std.proofs.lemmas.Bool.Decides.{nat_tests}
use Rattle.std.specs.List.{find}
use Rattle.inet_frame.specs.Options.{option_len, options_within, options_of, is_mss, mss_value, mss_of}

pub option_len_le : (bytes : List ℕ) → option_len bytes ≤ length bytes
option_len_le [] = omega arith
option_len_le (kind ∷ []) = grind (arith, nat_tests)
option_len_le (kind ∷ len ∷ bytes) = grind (arith, nat_tests)

-- more steps than bytes make no difference
within_same : (n m : ℕ) (bytes : List ℕ) → length bytes ≤ n → length bytes ≤ m →
    options_within n bytes ≡ options_within m bytes
within_same zero zero bytes hn hm = refl
within_same zero (suc m) [] hn hm = refl
within_same zero (suc m) (x ∷ bytes) hn hm = absurd (omega arith)
within_same (suc n) zero [] hn hm = refl
within_same (suc n) zero (x ∷ bytes) hn hm = absurd (omega arith)
within_same (suc n) (suc m) bytes hn hm =
    ⊎_elim
    (λ e. rw e refl)
    (λ ne.
    let more : eqb (option_len bytes) 0 ≡ false = ne_eqb _ _ ne in
    let left : length (drop (option_len bytes) bytes) ≤ n = omega (arith, length-drop (option_len bytes) bytes) in
    let right : length (drop (option_len bytes) bytes) ≤ m = omega (arith, length-drop (option_len bytes) bytes) in
    rw more (ap (λ (rest : List (List ℕ)). take (option_len bytes) bytes ∷ rest) (within_same n m (drop
    (option_len bytes) bytes) left right)))
    (cases_eq (option_len bytes) 0)

pub options_of_none : (bytes : List ℕ) → option_len bytes ≡ 0 → options_of bytes ≡ []
unfolding options_of
options_of_none bytes e = within_same (length bytes) (suc (length bytes)) bytes (omega arith) (omega arith) ∙ rw e refl

pub options_of_more : (bytes : List ℕ) → 0 < option_len bytes →
    options_of bytes ≡ take (option_len bytes) bytes ∷ options_of (drop (option_len bytes) bytes)
unfolding options_of
options_of_more bytes some =
    let more : eqb (option_len bytes) 0 ≡ false = ne_eqb _ _ (omega arith) in
    within_same (length bytes) (suc (length bytes)) bytes (omega arith) (omega arith)
    ∙ rw more (ap (λ (rest : List (List ℕ)). take (option_len bytes) bytes ∷ rest) (within_same (length bytes)
    (length (drop (option_len bytes) bytes)) (drop (option_len bytes) bytes) (omega (
      arith,
      length-drop (option_len bytes) bytes,
    )) (omega arith)))

pub mss_none : (bytes : List ℕ) → option_len bytes ≡ 0 → mss_of bytes ≡ 536
mss_none bytes e = ap (λ (os : List (List ℕ)). mss_value (find is_mss os)) (options_of_none bytes e)

mss_more : (bytes : List ℕ) → 0 < option_len bytes →
    mss_of bytes ≡ mss_value (find is_mss (take (option_len bytes) bytes ∷ options_of (drop (option_len bytes) bytes)))
mss_more bytes some = ap (λ (os : List (List ℕ)). mss_value (find is_mss os)) (options_of_more bytes some)

-- the first option gives the size
here_by : (kind a b c : ℕ) (bytes : List ℕ) → option_len (kind ∷ a ∷ b ∷ c ∷ bytes) ≡ 4 → kind ≡ 2 →
    mss_of (kind ∷ a ∷ b ∷ c ∷ bytes) ≡ b * 256 + c
here_by kind a b c bytes len is =
    mss_more (kind ∷ a ∷ b ∷ c ∷ bytes) (omega arith)
    ∙ (ap (λ (n : ℕ). mss_value (find is_mss (take n (kind ∷ a ∷ b ∷ c ∷ bytes) ∷ options_of (drop n
    (kind ∷ a ∷ b ∷ c ∷ bytes))))) len
    ∙ ap (λ (k : ℕ). mss_value (cond (eqb k 2 && true) (Some (kind ∷ a ∷ b ∷ c ∷ [])) (find is_mss
    (options_of bytes)))) is)

pub mss_here : (bytes : List ℕ) → option_len bytes ≡ 4 → get_or bytes 0 0 ≡ 2 →
    mss_of bytes ≡ get_or bytes 2 0 * 256 + get_or bytes 3 0
mss_here [] len is = absurd (omega (arith, option_len_le []))
mss_here (kind ∷ []) len is = absurd (omega (arith, option_len_le (kind ∷ [])))
mss_here (kind ∷ a ∷ []) len is = absurd (omega (arith, option_len_le (kind ∷ a ∷ [])))
mss_here (kind ∷ a ∷ b ∷ []) len is = absurd (omega (arith, option_len_le (kind ∷ a ∷ b ∷ [])))
mss_here (kind ∷ a ∷ b ∷ c ∷ bytes) len is = here_by kind a b c bytes len is

mss_later_by : (bytes : List ℕ) → 0 < option_len bytes → is_mss (take (option_len bytes) bytes) ≡ false →
    mss_of bytes ≡ mss_of (drop (option_len bytes) bytes)
mss_later_by bytes some other =
    mss_more bytes some
    ∙ ap (λ (b : Bool). mss_value (cond b (Some (take (option_len bytes) bytes)) (find is_mss (options_of (drop
    (option_len bytes) bytes))))) other

-- the first option gives none, since it has another length or another kind
pub mss_later_len : (bytes : List ℕ) → 0 < option_len bytes → option_len bytes ≢ 4 →
    mss_of bytes ≡ mss_of (drop (option_len bytes) bytes)
mss_later_len bytes some other =
    mss_later_by bytes some (and_right (eqb (get_or (take (option_len bytes) bytes) 0 0) 2) (eqb (length (take
    (option_len bytes) bytes)) 4)
    (ne_eqb _ _ (omega (arith, length-take (option_len bytes) bytes, option_len_le bytes))))

pub mss_later_kind : (bytes : List ℕ) → 0 < option_len bytes → get_or bytes 0 0 ≢ 2 →
    mss_of bytes ≡ mss_of (drop (option_len bytes) bytes)
mss_later_kind bytes some other =
    let first : get_or (take (option_len bytes) bytes) 0 0 ≡ get_or bytes 0 0 = get_or-take
    (option_len bytes) bytes 0 0 some in
    let off : eqb (get_or (take (option_len bytes) bytes) 0 0) 2 ≡ false = ne_eqb _ _ (λ e. other (sym first ∙ e)) in
    mss_later_by bytes some (ap (λ (b : Bool). b && eqb (length (take (option_len bytes) bytes)) 4) off)
