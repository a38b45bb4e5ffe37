-- Cleaned options, one option at a time.
use Rattle.std.proofs.Common.{◌≡◌, ℕ, ◌+◌, ◌-◌, ◌^◌, ◌<◌, ◌≤◌, zero, suc, Bool, true, false, cond, ◌||◌, eqb, ltb, List, [], ◌∷◌, ◌++◌, length, take, drop, refl, ap, sym, ◌∙◌, arith, subst, length-append, length-drop, ⊎_elim}
use Rattle.std.proofs.lemmas.Bool.{cases_lt}
use Rattle.std.proofs.lemmas.Bool.Decides.{nat_tests}
use Rattle.std.proofs.lemmas.List.{length-take, length-replicate, take-append-drop, take_at, drop_at, drop-drop, append_assoc, take_rest}
use Rattle.std.proofs.lemmas.Slice.{take-put_mid, drop-put_mid}
use borrow.Rule.Slice.PartMut.{put_mid}
use Rattle.std.specs.List.{concat, flat_map, list_any}
use Rattle.std.specs.Prelude.{replicate}
use Rattle.shared_definitions.specs.Bytes.{AreBytes}
use Rattle.inet_frame.specs.Options.{option_len, options_of}
use Rattle.inet_frame.proofs.OptionLemmas.{option_len_le, options_of_none, options_of_more}
use Rattle.shared_definitions.proofs.ByteLemmas.{AreBytes-cons, AreBytes-append, AreBytes-take, AreBytes-drop}
use Rattle.inet_build.specs.Options.{is_unwanted, clean_option, has_unwanted, clean_options}

pub unwanted_none : (xs : List ℕ) → option_len xs ≡ 0 → has_unwanted xs ≡ false
unwanted_none xs e = ap (λ (os : List (List ℕ)). list_any is_unwanted os) (options_of_none xs e)

pub unwanted_more : (xs : List ℕ) → 0 < option_len xs → has_unwanted xs
    ≡ (is_unwanted (take (option_len xs) xs) || has_unwanted (drop (option_len xs) xs))
unwanted_more xs some = ap (λ (os : List (List ℕ)). list_any is_unwanted os) (options_of_more xs some)

pub clean_none : (xs : List ℕ) → option_len xs ≡ 0 → clean_options xs ≡ xs
unfolding clean_options
clean_none xs e = ap (λ (os : List (List ℕ)). flat_map clean_option os
    ++ drop (length (concat os)) xs) (options_of_none xs e)

behind_more : (l : ℕ) (xs : List ℕ) (rest : List ℕ) → l ≤ length xs →
    drop (length (take l xs ++ rest)) xs ≡ drop (length rest) (drop l xs)
behind_more l xs rest h =
    let len : length (take l xs ++ rest) ≡ l + length rest = omega (
      arith,
      length-append (take l xs) rest,
      length-take l xs,
    ) in
    ap (λ (n : ℕ). drop n xs) len ∙ sym (drop-drop (length rest) l xs)

pub clean_more : (xs : List ℕ) → 0 < option_len xs → clean_options xs
    ≡ clean_option (take (option_len xs) xs) ++ clean_options (drop (option_len xs) xs)
unfolding clean_options
clean_more xs some =
    let l = option_len xs in
    let os = options_of (drop (option_len xs) xs) in
    ap (λ (os : List (List ℕ)). flat_map clean_option os ++ drop (length (concat os)) xs) (options_of_more xs some)
    ∙ (ap (λ (rest : List ℕ). clean_option (take l xs) ++ flat_map clean_option os
    ++ rest) (behind_more l xs (concat os) (option_len_le xs))
    ∙ append_assoc (clean_option (take l xs)) (flat_map clean_option os) (drop (length (concat os)) (drop l xs)))

length-clean_option_by : (b : Bool) (o : List ℕ) → length (cond b (replicate (length o) 1) o) ≡ length o
length-clean_option_by true o = length-replicate (length o) 1
length-clean_option_by false o = refl

pub length-clean_option : (o : List ℕ) → length (clean_option o) ≡ length o
length-clean_option o = length-clean_option_by (is_unwanted o) o

len_within : (n : ℕ) (xs : List ℕ) → length xs ≤ n → length (clean_options xs) ≡ length xs
len_within zero xs h =
    let none : option_len xs ≡ 0 = omega (arith, option_len_le xs) in
    ap length (clean_none xs none)
len_within (suc n) xs h =
    ⊎_elim
    (λ (some : 0 < option_len xs).
    let l = option_len xs in
    let le = option_len_le xs in
    let left = length-drop (option_len xs) xs in
    let rest : length (clean_options (drop (option_len xs) xs))
    ≡ length (drop (option_len xs) xs) = len_within n (drop (option_len xs) xs) (omega arith) in
    let first = length-clean_option (take (option_len xs) xs) in
    let taken = length-take (option_len xs) xs in
    ap length (clean_more xs some)
    ∙ (length-append (clean_option (take (option_len xs) xs)) (clean_options (drop (option_len xs) xs)) ∙ omega arith))
    (λ (none : option_len xs ≤ 0). ap length (clean_none xs (omega arith)))
    (cases_lt 0 (option_len xs))

pub length-clean_options : (xs : List ℕ) → length (clean_options xs) ≡ length xs
length-clean_options xs = len_within (length xs) xs (omega arith)

-- options without an unwanted one stay
or_parts : (x y : Bool) → (x || y) ≡ false → (x ≡ false) × (y ≡ false)
or_parts true y h = absurd (cc)
or_parts false y h = (refl, h)

same_within : (n : ℕ) (xs : List ℕ) → length xs ≤ n → has_unwanted xs ≡ false → clean_options xs ≡ xs
same_within zero xs h clean = clean_none xs (omega (arith, option_len_le xs))
same_within (suc n) xs h clean =
    ⊎_elim
    (λ (some : 0 < option_len xs).
    let le = option_len_le xs in
    let left = length-drop (option_len xs) xs in
    let parts = or_parts (is_unwanted (take (option_len xs) xs)) (has_unwanted (drop (option_len xs) xs)) (sym
    (unwanted_more xs some) ∙ clean) in
    clean_more xs some
    ∙ (ap (λ (b : Bool). cond b (replicate (length (take (option_len xs) xs)) 1) (take (option_len xs) xs)
    ++ clean_options (drop (option_len xs) xs)) parts.0
    ∙ (ap (λ (rest : List ℕ). take (option_len xs) xs ++ rest) (same_within n (drop (option_len xs) xs)
    (omega arith) parts.1)
    ∙ take-append-drop (option_len xs) xs)))
    (λ (none : option_len xs ≤ 0). clean_none xs (omega arith))
    (cases_lt 0 (option_len xs))

pub clean_same : (xs : List ℕ) → has_unwanted xs ≡ false → clean_options xs ≡ xs
clean_same xs clean = same_within (length xs) xs (omega arith) clean

-- the length of an option depends on its first two bytes and on how many bytes there are
option_len_by : (kind len : ℕ) (xs ys : List ℕ) → length xs ≡ length ys →
    option_len (kind ∷ len ∷ xs) ≡ option_len (kind ∷ len ∷ ys)
option_len_by kind len xs ys e = ap (λ (n : ℕ). cond (eqb kind 0) 0 (cond (eqb kind 1) 1 (cond (ltb len 2 || ltb
    (1 + suc n) len) 0 len))) e

same_len : (xs rest : List ℕ) (l : ℕ) → l ≡ option_len xs → 0 < l → length rest ≡ length (drop l xs) →
    option_len (take l xs ++ rest) ≡ l
same_len [] rest l e some h = absurd (omega arith)
same_len (kind ∷ []) rest l e some h =
    let one : l ≡ 1 = grind (arith, nat_tests) in
    let is : eqb kind 1 ≡ true = grind (arith, nat_tests) in
    rw one (grind (arith, nat_tests))
same_len (kind ∷ len ∷ xs) rest zero e some h = absurd (omega arith)
same_len (kind ∷ len ∷ xs) rest (suc zero) e some h = grind (arith, nat_tests)
same_len (kind ∷ len ∷ xs) rest (suc (suc l)) e some h =
    let le = option_len_le (kind ∷ len ∷ xs) in
    option_len_by kind len (take l xs ++ rest) xs (omega (
      arith,
      length-append (take l xs) rest,
      length-take l xs,
      length-drop l xs,
    )) ∙ sym e

ones_clean : (n : ℕ) (rest : List ℕ) → has_unwanted rest ≡ false → has_unwanted (replicate n 1 ++ rest) ≡ false
ones_clean zero rest h = h
ones_clean (suc n) rest h = unwanted_more (1 ∷ replicate n 1 ++ rest) (omega arith) ∙ ones_clean n rest h

first_clean_by : (b : Bool) (o rest : List ℕ) → is_unwanted o ≡ b → option_len (o ++ rest) ≡ length o → 0 < length o →
    has_unwanted rest ≡ false → has_unwanted (cond b (replicate (length o) 1) o ++ rest) ≡ false
first_clean_by true o rest is len some h = ones_clean (length o) rest h
first_clean_by false o rest is len some h =
    unwanted_more (o ++ rest) (omega arith)
    ∙ (ap (λ (n : ℕ). is_unwanted (take n (o ++ rest)) || has_unwanted (drop n (o ++ rest))) len
    ∙ (ap (λ (p : List ℕ). is_unwanted p || has_unwanted (drop (length o) (o ++ rest))) (take_at o rest (length o) refl)
    ∙ (ap (λ (b : Bool). b || has_unwanted (drop (length o) (o ++ rest))) is
    ∙ (ap has_unwanted (drop_at o rest (length o) refl) ∙ h))))

clean_within : (n : ℕ) (xs : List ℕ) → length xs ≤ n → has_unwanted (clean_options xs) ≡ false
clean_within zero xs h =
    let none : option_len xs ≡ 0 = omega (arith, option_len_le xs) in
    ap has_unwanted (clean_none xs none) ∙ unwanted_none xs none
clean_within (suc n) xs h =
    ⊎_elim
    (λ (some : 0 < option_len xs).
    let le = option_len_le xs in
    let left = length-drop (option_len xs) xs in
    let taken = length-take (option_len xs) xs in
    let rest = clean_options (drop (option_len xs) xs) in
    let rest_len = length-clean_options (drop (option_len xs) xs) in
    let len : option_len (take (option_len xs) xs ++ clean_options (drop (option_len xs) xs))
    ≡ option_len xs = same_len xs (clean_options (drop (option_len xs) xs)) (option_len xs) refl some rest_len in
    ap has_unwanted (clean_more xs some)
    ∙ first_clean_by (is_unwanted (take (option_len xs) xs)) (take (option_len xs) xs) rest refl (omega arith)
    (omega arith) (clean_within n (drop (option_len xs) xs) (omega arith)))
    (λ (none : option_len xs ≤ 0).
    ap has_unwanted (clean_none xs (omega arith)) ∙ unwanted_none xs (omega arith))
    (cases_lt 0 (option_len xs))

-- cleaned options have no unwanted one
pub clean_is_clean : (xs : List ℕ) → has_unwanted (clean_options xs) ≡ false
clean_is_clean xs = clean_within (length xs) xs (omega arith)

ones_bytes : (n : ℕ) → AreBytes (replicate n 1)
ones_bytes zero = λ k. omega arith
ones_bytes (suc n) = AreBytes-cons 1 (replicate n 1) (omega arith) (ones_bytes n)

option_bytes_by : (b : Bool) (o : List ℕ) → AreBytes o → AreBytes (cond b (replicate (length o) 1) o)
option_bytes_by true o bytes = ones_bytes (length o)
option_bytes_by false o bytes = bytes

bytes_within : (n : ℕ) (xs : List ℕ) → length xs ≤ n → AreBytes xs → AreBytes (clean_options xs)
bytes_within zero xs h bytes =
    let P : List ℕ → Type 0 = λ ys. AreBytes ys in
    subst P (sym (clean_none xs (omega (arith, option_len_le xs)))) bytes
bytes_within (suc n) xs h bytes =
    let P : List ℕ → Type 0 = λ ys. AreBytes ys in
    ⊎_elim
    (λ (some : 0 < option_len xs).
    let le = option_len_le xs in
    let left = length-drop (option_len xs) xs in
    let first = take (option_len xs) xs in
    let rest = drop (option_len xs) xs in
    subst P (sym (clean_more xs some))
    (AreBytes-append (clean_option first) (clean_options rest)
    (option_bytes_by (is_unwanted first) first (AreBytes-take (option_len xs) xs bytes))
    (bytes_within n (drop (option_len xs) xs) (omega arith) (AreBytes-drop (option_len xs) xs bytes))))
    (λ (none : option_len xs ≤ 0). subst P (sym (clean_none xs (omega arith))) bytes)
    (cases_lt 0 (option_len xs))

pub AreBytes-clean_options : (xs : List ℕ) → AreBytes xs → AreBytes (clean_options xs)
AreBytes-clean_options xs bytes = bytes_within (length xs) xs (omega arith) bytes

length_put : (at n : ℕ) (now new : List ℕ) → at + n ≤ length now → length new ≡ n →
    length (put_mid at n now new) ≡ length now
length_put at n now new h e =
    omega (
      arith,
      length-append (take at now) (new ++ drop n (drop at now)),
      length-append new (drop n (drop at now)),
      length-take at now,
      length-drop n (drop at now),
      length-drop at now,
    )

-- a walk has come to a place, in front of an option of so many bytes
pub record Walked (all now : List ℕ) (at len : ℕ) (found : Bool) : Type 0 where
  pub same_len : length now ≡ length all
  pub small : length all < 2 ^ 64
  pub within : at + len ≤ length now
  pub len_is : len ≡ option_len (drop at now)
  pub front_is : clean_options all ≡ take at now ++ clean_options (drop at now)
  pub found_is : has_unwanted all ≡ (found || has_unwanted (drop at now))

or_false : (b : Bool) → (b || false) ≡ b
or_false true = refl
or_false false = refl

pub walked_cleaned : (all now : List ℕ) (at len : ℕ) (found : Bool) → Walked all now at len found → len ≡ 0 →
    now ≡ clean_options all
walked_cleaned all now at len found w e =
    let none : option_len (drop at now) ≡ 0 = sym w.len_is ∙ e in
    sym (w.front_is ∙ (ap (λ (rest : List ℕ). take at now ++ rest) (clean_none (drop at now) none)
    ∙ take-append-drop at now))

pub walked_found : (all now : List ℕ) (at len : ℕ) (found : Bool) → Walked all now at len found → len ≡ 0 →
    found ≡ has_unwanted all
walked_found all now at len found w e =
    let none : option_len (drop at now) ≡ 0 = sym w.len_is ∙ e in
    sym (w.found_is ∙ (ap (λ (b : Bool). found || b) (unwanted_none (drop at now) none) ∙ or_false found))

or_assoc : (a b c : Bool) → (a || (b || c)) ≡ ((a || b) || c)
or_assoc true b c = refl
or_assoc false b c = refl

pub found_then : (found found' result unwanted : Bool) → result ≡ unwanted → result ≡ true → found' ≡ true →
    found' ≡ (found || unwanted)
found_then true found' result unwanted e is now = now
found_then false found' result unwanted e is now = now ∙ (sym is ∙ e)

pub found_else : (found found' result unwanted : Bool) → result ≡ unwanted → result ≡ false → found' ≡ found →
    found' ≡ (found || unwanted)
found_else true found' result unwanted e is now = now
found_else false found' result unwanted e is now = now ∙ (sym is ∙ e)

walked_more : (all now next : List ℕ) (at len : ℕ) (found found' : Bool) → Walked all now at len found → 0 < len →
    take (at + len) next ≡ take at now ++ clean_option (take len (drop at now)) →
    drop (at + len) next ≡ drop (at + len) now → length next ≡ length now →
    found' ≡ (found || is_unwanted (take len (drop at now))) →
    Walked all next (at + len) (option_len (drop (at + len) next)) found'
walked_more all now next at len found found' w some front rest same found_is =
    let some_option : 0 < option_len (drop at now) = omega (arith, w.len_is) in
    let behind : drop (at + len) next ≡ drop (option_len (drop at now)) (drop at now) =
    rest ∙ (ap (λ (n : ℕ). drop (at + n) now) w.len_is ∙ sym (drop-drop (option_len (drop at now)) at now)) in
    let cut = ap (λ (n : ℕ). take n (drop at now)) w.len_is in
    let left = length-drop (at + len) next in
    let within = w.within in
    record {
      same_len = same ∙ w.same_len;
      small = w.small;
      within = omega (arith, option_len_le (drop (at + len) next));
      len_is = refl;
      front_is =
          w.front_is
          ∙ (ap (λ (xs : List ℕ). take at now ++ xs) (clean_more (drop at now) some_option)
          ∙ (sym (append_assoc (take at now) (clean_option (take (option_len (drop at now)) (drop at now)))
          (clean_options (drop (option_len (drop at now)) (drop at now))))
          ∙ (ap (λ (xs : List ℕ). take at now ++ clean_option xs
          ++ clean_options (drop (option_len (drop at now)) (drop at now))) (sym cut)
          ∙ (ap (λ (xs : List ℕ). xs ++ clean_options (drop (option_len (drop at now)) (drop at now))) (sym front)
          ∙ ap (λ (xs : List ℕ). take (at + len) next ++ clean_options xs) (sym behind)))));
      found_is =
          w.found_is
          ∙ (ap (λ (b : Bool). found || b) (unwanted_more (drop at now) some_option)
          ∙ (or_assoc found (is_unwanted (take (option_len (drop at now)) (drop at now))) (has_unwanted (drop
          (option_len (drop at now)) (drop at now)))
          ∙ (ap (λ (xs : List ℕ). (found || is_unwanted xs) || has_unwanted (drop (option_len (drop at now))
          (drop at now))) (sym cut)
          ∙ (ap (λ (b : Bool). b || has_unwanted (drop (option_len (drop at now)) (drop at now))) (sym found_is)
          ∙ ap (λ (xs : List ℕ). found' || has_unwanted xs) (sym behind)))));
    }

-- one turn of the walk: the option of n bytes at a place was cleaned
pub walked_put : (all now new : List ℕ) (at len n l : ℕ) (found found' : Bool) → Walked all now at len found →
    0 < len → n ≡ len → new ≡ clean_option (take n (drop at now)) →
    l ≡ option_len (take (length (put_mid at n now new) - (at + len)) (drop (at + len) (put_mid at n now new))) →
    found' ≡ (found || is_unwanted (take n (drop at now))) → Walked all (put_mid at n now new) (at + len) l found'
walked_put all now new at len n l found found' w some n_is new_is l_is found_is =
    let within = w.within in
    let next = put_mid at n now new in
    let taken = length-take n (drop at now) in
    let dropped = length-drop at now in
    let new_len : length new ≡ n = ap length new_is ∙ (length-clean_option (take n (drop at now)) ∙ omega arith) in
    let cut = ap (λ (m : ℕ). take m (drop at now)) n_is in
    let front : take (at + len) (put_mid at n now new) ≡ take at now ++ clean_option (take len (drop at now)) =
    take-put_mid at n now new (at + len) (omega arith) (omega arith)
    ∙ ap (λ (xs : List ℕ). take at now ++ xs) (new_is ∙ ap clean_option cut) in
    let rest : drop (at + len) (put_mid at n now new) ≡ drop (at + len) now = drop-put_mid at n now new (at + len)
    (omega arith) (omega arith) new_len in
    let same : length (put_mid at n now new) ≡ length now = length_put at n now new (omega arith) new_len in
    let last : l ≡ option_len (drop (at + len) (put_mid at n now new)) = l_is
    ∙ ap option_len (take_rest (put_mid at n now new) (at + len)) in
    let P : ℕ → Type 0 = λ k. Walked all (put_mid at n now new) (at + len) k found' in
    subst P (sym last) (walked_more all now (put_mid at n now new) at len found found' w some front rest same
    (found_is ∙ ap (λ (xs : List ℕ). found || is_unwanted xs) cut))
