-- Loops over the parts of a chain, from the first to the last.
use Rattle.std.proofs.Common.{◌≡◌, ℕ, ◌+◌, ◌-◌, ◌*◌, ◌^◌, ◌<◌, ◌≤◌, min, zero, suc, Bool, true, false, not, Option, Some, None, List, [], ◌∷◌, ◌++◌, length, take, drop, refl, ap, sym, ◌∙◌, subst, arith, ⊎_elim, append_assoc, append-nil, take-append-drop, length-append, length-drop}
use Rattle.std.specs.Prelude.{slice_get, nat_eq}
use Rattle.std.proofs.lemmas.Bool.{cases_lt, le-leb, lt-leb, not-true, not-false, and_parts, and_from, or_right}
use Rattle.std.proofs.lemmas.List.{length-take, take-append-le, drop-append-le, drop_more, drop_all, drop-drop, take-take, drop-take, take_at, drop_at, take_min, drop_min, take_all}
use Rattle.std.specs.Option.{option_copied}
use Rattle.std.specs.Prelude.{IsSome}
use Rattle.std.specs.Borrow.{Bor}
use Rattle.std.proofs.lemmas.List.Sums.{sum_by-cons}
use Rattle.std.proofs.lemmas.Option.{slice_get_within, get_or_from_slice_get}
use Rattle.std.proofs.Math.Bool.{beq}
use Rattle.std.proofs.Math.Seq.{take-append-add, drop-append-add}
use Rattle.shared_definitions.specs.Memory.{ram_base, place_of, is_inside}
use Rattle.shared_definitions.proofs.RangeLemmas.{length-range}
use Rattle.page_track.specs.Memory.{Memory, part_at, find_part, with_part}
use Rattle.page_track.proofs.LendingLemmas.{inside, write_none}
use Rattle.virt_queue.specs.declared.fields.Part.{Part}
use Rattle.virt_queue.specs.Parts.{parts_inside, is_of_kind, of_kind, readable, writable, total_len, join_parts, skip, write_joined, DescriptorChain, find_writable}

-- the parts from the k-th on
pub rest_at : (parts : List Part) (k : ℕ) (p : Part) → slice_get parts k ≡ Some p →
    drop k parts ≡ p ∷ drop (k + 1) parts
rest_at parts k p h =
    drop_more parts k p (slice_get_within parts k p h)
    ∙ ap (λ (x : Part). x ∷ drop (k + 1) parts) (get_or_from_slice_get parts k p p h)

-- the test of a part's kind
kind_is : (w b : Bool) (p : Part) → p.writable ≡ b → beq b w ≡ is_of_kind w p
kind_is true true p h = sym h
kind_is true false p h = sym h
kind_is false true p h = rw h refl
kind_is false false p h = rw h refl

pub kind_same : (w : Bool) (p : Part) → not (beq p.writable w) ≡ false → is_of_kind w p ≡ true
kind_same w p h = sym (kind_is w p.writable p refl) ∙ not-false (beq p.writable w) h

pub kind_other : (w : Bool) (p : Part) → not (beq p.writable w) ≡ true → is_of_kind w p ≡ false
kind_other w p h = sym (kind_is w p.writable p refl) ∙ not-true (beq p.writable w) h

-- those of a kind, where the k-th is one or isn't
pub of_kind_with : (w : Bool) (parts : List Part) (k : ℕ) (p : Part) → slice_get parts k ≡ Some p →
    is_of_kind w p ≡ true →
    of_kind w (drop k parts) ≡ p ∷ of_kind w (drop (k + 1) parts)
of_kind_with w parts k p h is = ap (of_kind w) (rest_at parts k p h) ∙ (rw is refl)

pub of_kind_without : (w : Bool) (parts : List Part) (k : ℕ) (p : Part) → slice_get parts k ≡ Some p →
    is_of_kind w p ≡ false →
    of_kind w (drop k parts) ≡ of_kind w (drop (k + 1) parts)
of_kind_without w parts k p h is = ap (of_kind w) (rest_at parts k p h) ∙ (rw is refl)

pub of_kind_end : (w : Bool) (parts : List Part) (k : ℕ) → length parts ≤ k → of_kind w (drop k parts) ≡ []
of_kind_end w parts k h = ap (of_kind w) (drop_all k parts h)

-- a part of a chain that is in memory is in memory
pub part_inside : (size : ℕ) (parts : List Part) (k : ℕ) (p : Part) → parts_inside size parts ≡ true →
    slice_get parts k ≡ Some p →
    is_inside size p.addr p.len ≡ true
part_inside size [] k p all h = cc
part_inside size (x ∷ parts) zero p all h =
    let here = and_parts (is_inside size x.addr x.len) (parts_inside size parts) all in
    let same : x ≡ p = cc in subst (λ (y : Part). is_inside size y.addr y.len ≡ true) same here.0
part_inside size (x ∷ parts) (suc k) p all h =
    part_inside size parts k p (and_parts (is_inside size x.addr x.len) (parts_inside size parts) all).1 h

-- a part that has a byte begins and ends in memory
pub ends_inside : (size address n s : ℕ) → is_inside size address n ≡ true → s < n →
    (ram_base ≤ address) × (address + n ≤ ram_base + size)
ends_inside size address n s h lt =
    ⊎_elim (λ (none : n ≡ 0). absurd (omega arith))
    (λ (some : (ram_base ≤ address) × (address + n ≤ ram_base + size)). some)
    (inside size address n h)

pub inside_within : (size address n s count : ℕ) → is_inside size address n ≡ true → s < n → s + count ≤ n →
    is_inside size (address + s) count ≡ true
inside_within size address n s count h lt le =
    let ends = ends_inside size address n s h lt in
    or_right (nat_eq count 0) _
    (and_from _ _ (le-leb ram_base (address + s) (omega (arith, ends.0)))
    (le-leb (address + s + count) (ram_base + size) (omega (arith, ends.1))))

pub length-part_at : (bytes : List ℕ) (address n : ℕ) → is_inside (length bytes) address n ≡ true →
    length (part_at bytes address n) ≡ n
length-part_at bytes address n h =
    let at = place_of address in
    ⊎_elim
    (λ (none : n ≡ 0). let empty : at + n - at ≡ 0 = omega arith in
    omega (arith, length-take (at + n - at) (drop at bytes)))
    (λ (some : (ram_base ≤ address) × (address + n ≤ ram_base + length bytes)).
    let len = length-range bytes at (at + n) (omega arith) (omega (arith, some.0, some.1)) in omega arith)
    (inside (length bytes) address n h)

-- the bytes together

pub record Summing (w : Bool) (parts : List Part) (k total : ℕ) : Type 0 where
  pub sum : total + total_len (of_kind w (drop k parts)) ≡ total_len (of_kind w parts)
  pub small : total ≤ k * 2 ^ 32

pub sum_with : (w : Bool) (parts : List Part) (k total : ℕ) (p : Part) → Summing w parts k total →
    slice_get parts k ≡ Some p →
    is_of_kind w p ≡ true → p.len < 2 ^ 32 → Summing w parts (k + 1) (total + p.len)
sum_with w parts k total p i h is fits =
    let here : total_len (of_kind w (drop k parts)) ≡ p.len + total_len (of_kind w (drop (k + 1) parts)) =
    ap total_len (of_kind_with w parts k p h is)
    ∙ sum_by-cons (λ (x : Part). x.len) p (of_kind w (drop (k + 1) parts)) in
    record { sum = omega (arith, i.sum); small = omega (arith, i.small) }

pub sum_without : (w : Bool) (parts : List Part) (k total : ℕ) (p : Part) → Summing w parts k total →
    slice_get parts k ≡ Some p →
    is_of_kind w p ≡ false → Summing w parts (k + 1) total
sum_without w parts k total p i h is = record {
  sum = omega (arith, i.sum, ap total_len (of_kind_without w parts k p h is));
  small = omega (arith, i.small);
}

pub sum_end : (w : Bool) (parts : List Part) (k total : ℕ) → Summing w parts k total → length parts ≤ k →
    total ≡ total_len (of_kind w parts)
sum_end w parts k total i h = omega (arith, i.sum, ap total_len (of_kind_end w parts k h))

-- a write over them

pub skip_past : (s : ℕ) (p : Part) (parts : List Part) → p.len ≤ s → skip s (p ∷ parts) ≡ skip (s - p.len) parts
unfolding skip
skip_past s p parts h = rw (le-leb p.len s h) refl

pub skip_into : (s : ℕ) (p : Part) (parts : List Part) → s < p.len →
    skip s (p ∷ parts) ≡ (let rest : Part = record { addr = p.addr + s; len = p.len - s; writable = p.writable } in
    rest ∷ parts)
unfolding skip
skip_into s p parts h = rw (lt-leb p.len s h) refl

write_cons : (m : Memory) (p : Part) (parts : List Part) (bytes : List ℕ) →
    write_joined m (p ∷ parts) bytes ≡ write_joined (with_part m p.addr (take p.len bytes)) parts (drop p.len bytes)
unfolding write_joined
write_cons m p parts bytes = refl

pub write_end : (m : Memory) (bytes : List ℕ) → write_joined m [] bytes ≡ m
unfolding write_joined
write_end m bytes = refl

with_none : (m : Memory) (address : ℕ) → with_part m address [] ≡ m
with_none m address = λ i. record { bytes = write_none m.bytes (place_of address) i }

-- nothing skipped
pub skip_none : (m : Memory) (parts : List Part) (bytes : List ℕ) →
    write_joined m (skip 0 parts) bytes ≡ write_joined m parts bytes
unfolding skip
skip_none m [] bytes = refl
skip_none m (p ∷ parts) bytes =
    ⊎_elim
    (λ (some : 0 < p.len). let addr : p.addr + 0 ≡ p.addr = omega arith in let len : p.len - 0 ≡ p.len = omega arith in
    ap (λ (ps : List Part). write_joined m ps bytes)
    (skip_into 0 p parts some ∙ (λ i. record { addr = addr i; len = len i; writable = p.writable } ∷ parts)))
    (λ (none : p.len ≤ 0). let empty : p.len ≡ 0 = omega arith in
    ap (λ (ps : List Part). write_joined m ps bytes) (skip_past 0 p parts none)
    ∙ (ap (λ (n : ℕ). write_joined m (skip n parts) bytes) (let no : 0 - p.len ≡ 0 = omega arith in no)
    ∙ (skip_none m parts bytes
    ∙ sym (write_cons m p parts bytes
    ∙ (ap (λ (n : ℕ). write_joined (with_part m p.addr (take n bytes)) parts (drop n bytes)) empty
    ∙ ap (λ (x : Memory). write_joined x parts bytes) (with_none m p.addr))))))
    (cases_lt 0 p.len)

pub write_into : (m : Memory) (s : ℕ) (p : Part) (parts : List Part) (bytes : List ℕ) (count : ℕ) → s < p.len →
    count ≡ min (p.len - s) (length bytes) →
    write_joined m (skip s (p ∷ parts)) bytes
    ≡ write_joined (with_part m (p.addr + s) (take count bytes)) (skip 0 parts) (drop count bytes)
write_into m s p parts bytes count lt e =
    let front : take (p.len - s) bytes ≡ take count bytes = sym (take_min (p.len - s) bytes)
    ∙ ap (λ (n : ℕ). take n bytes) (sym e) in
    let rest : drop (p.len - s) bytes ≡ drop count bytes = sym (drop_min (p.len - s) bytes)
    ∙ ap (λ (n : ℕ). drop n bytes) (sym e) in
    ap (λ (ps : List Part). write_joined m ps bytes) (skip_into s p parts lt)
    ∙ (write_cons m _ parts bytes
    ∙ (ap (λ (x : List ℕ). write_joined (with_part m (p.addr + s) x) parts (drop (p.len - s) bytes)) front
    ∙ (ap (λ (x : List ℕ). write_joined (with_part m (p.addr + s) (take count bytes)) parts x) rest
    ∙ sym (skip_none (with_part m (p.addr + s) (take count bytes)) parts (drop count bytes)))))

pub record Writing (start : Memory) (parts : List Part) (from : ℕ) (bytes : List ℕ) (k : ℕ) (m : Memory) (s : ℕ) (rest
    : List ℕ) : Type 0 where
  pub after : write_joined m (skip s (writable (drop k parts))) rest ≡ write_joined start (skip from (writable parts))
      bytes
  pub size : length m.bytes ≡ length start.bytes

pub write_other : (start : Memory) (parts : List Part) (from : ℕ) (bytes : List ℕ) (k : ℕ) (m : Memory) (s : ℕ) (rest :
    List ℕ) (p : Part) →
    Writing start parts from bytes k m s rest → slice_get parts k ≡ Some p → p.writable ≡ false →
    Writing start parts from bytes (k + 1) m s rest
write_other start parts from bytes k m s rest p i h w = record {
  after = sym (ap (λ (ps : List Part). write_joined m (skip s ps) rest) (of_kind_without true parts k p h w)) ∙ i.after;
  size = i.size;
}

pub write_past : (start : Memory) (parts : List Part) (from : ℕ) (bytes : List ℕ) (k : ℕ) (m : Memory) (s : ℕ) (rest :
    List ℕ) (p : Part) →
    Writing start parts from bytes k m s rest → slice_get parts k ≡ Some p → p.writable ≡ true → p.len ≤ s →
    Writing start parts from bytes (k + 1) m (s - p.len) rest
write_past start parts from bytes k m s rest p i h w le = record {
  after = sym (ap (λ (ps : List Part). write_joined m (skip s ps) rest) (of_kind_with true parts k p h w)
      ∙ ap (λ (ps : List Part). write_joined m ps rest) (skip_past s p (writable (drop (k + 1) parts)) le)) ∙ i.after;
  size = i.size;
}

pub write_here : (start : Memory) (parts : List Part) (from : ℕ) (bytes : List ℕ) (k : ℕ) (m : Memory) (s : ℕ) (rest :
    List ℕ) (p : Part)
    (count : ℕ) (next : Memory) → Writing start parts from bytes k m s rest → slice_get parts k ≡ Some p →
    p.writable ≡ true → s < p.len →
    count ≡ min (p.len - s) (length rest) → next ≡ with_part m (p.addr + s) (take count rest) →
    length next.bytes ≡ length m.bytes → Writing start parts from bytes (k + 1) next 0 (drop count rest)
write_here start parts from bytes k m s rest p count next i h w lt e is size = record {
  after = ap (λ (x : Memory). write_joined x (skip 0 (writable (drop (k + 1) parts))) (drop count rest)) is
      ∙ sym (ap (λ (ps : List Part). write_joined m (skip s ps) rest) (of_kind_with true parts k p h w)
      ∙ write_into m s p (writable (drop (k + 1) parts)) rest count lt e) ∙ i.after;
  size = size ∙ i.size;
}

pub write_all : (start : Memory) (parts : List Part) (from : ℕ) (bytes : List ℕ) (k : ℕ) (m : Memory) (s : ℕ) (rest :
    List ℕ) →
    Writing start parts from bytes k m s rest → length parts ≤ k →
    m ≡ write_joined start (skip from (writable parts)) bytes
unfolding skip
write_all start parts from bytes k m s rest i h =
    sym (ap (λ (ps : List Part). write_joined m (skip s ps) rest) (of_kind_end true parts k h) ∙ write_end m rest)
    ∙ i.after

-- a read of them

joined_cons : (bytes : List ℕ) (p : Part) (parts : List Part) →
    join_parts bytes (p ∷ parts) ≡ part_at bytes p.addr p.len ++ join_parts bytes parts
unfolding join_parts
joined_cons bytes p parts = refl

-- the first n bytes after s bytes of a list and another
take_both : (a b : List ℕ) (n count : ℕ) → count ≡ min (length a) n →
    take n (a ++ b) ≡ take count a ++ take (n - count) b
take_both a b n count e =
    ⊎_elim
    (λ (short : length a < n). let all : count ≡ length a = omega arith in
    let more : n ≡ length a + (n - count) = omega arith in
    ap (λ (j : ℕ). take j (a ++ b)) more
    ∙ (take-append-add a b (n - count)
    ∙ ap (λ (x : List ℕ). x ++ take (n - count) b) (sym (take_all count a (omega arith)))))
    (λ (long : n ≤ length a). let all : count ≡ n = omega arith in let none : n - count ≡ 0 = omega arith in
    take-append-le n a b long
    ∙ (ap (λ (j : ℕ). take j a) (sym all)
    ∙ (sym (append-nil (take count a)) ∙ ap (λ (j : ℕ). take count a ++ take j b) (sym none))))
    (cases_lt (length a) n)

-- a part of a part
part_within : (bytes : List ℕ) (address n s count : ℕ) → is_inside (length bytes) address n ≡ true → s < n →
    s + count ≤ n →
    take count (drop s (part_at bytes address n)) ≡ part_at bytes (address + s) count
part_within bytes address n s count h lt le =
    let ends = ends_inside (length bytes) address n s h lt in
    let at = place_of address in
    let whole : at + n - at ≡ s + (n - s) = omega arith in
    let place : place_of (address + s) ≡ at + s = omega (arith, ends.0) in
    let width : place_of (address + s) + count - place_of (address + s) ≡ count = omega arith in
    ap (λ (j : ℕ). take count (drop s (take j (drop at bytes)))) whole
    ∙ (ap (take count) (drop-take s (n - s) (drop at bytes))
    ∙ (take-take count (n - s) (drop s (drop at bytes)) (omega arith)
    ∙ (ap (take count) (drop-drop s at bytes)
    ∙ sym (ap (λ (j : ℕ). take j (drop (place_of (address + s)) bytes)) width
    ∙ ap (λ (j : ℕ). take count (drop j bytes)) place))))

pub record Reading (bytes : List ℕ) (parts : List Part) (from : ℕ) (before : List ℕ) (k s filled : ℕ) (into : List ℕ) :
    Type 0 where
  pub got : take filled into ++ take (length before - filled) (drop s (join_parts bytes (readable (drop k parts))))
      ≡ take (length before) (drop from (join_parts bytes (readable parts)))
  pub rest : drop filled into ≡ drop filled before
  pub len : length into ≡ length before
  pub within : filled ≤ length before

pub read_begins : (bytes : List ℕ) (parts : List Part) (from : ℕ) (before : List ℕ) →
    Reading bytes parts from before 0 from 0 before
read_begins bytes parts from before = let whole : length before - 0 ≡ length before = omega arith in record {
  got = ap (λ (n : ℕ). take n (drop from (join_parts bytes (readable parts)))) whole;
  rest = refl;
  len = refl;
  within = omega arith;
}

pub read_other : (bytes : List ℕ) (parts : List Part) (from : ℕ) (before : List ℕ) (k s filled : ℕ) (into : List ℕ) (p
    : Part) →
    Reading bytes parts from before k s filled into → slice_get parts k ≡ Some p → p.writable ≡ true →
    Reading bytes parts from before (k + 1) s filled into
read_other bytes parts from before k s filled into p i h w = record {
  got = sym (ap (λ (ps : List Part). take filled into ++ take (length before - filled) (drop s (join_parts bytes ps)))
      (of_kind_without false parts k p h (rw w refl))) ∙ i.got;
  rest = i.rest;
  len = i.len;
  within = i.within;
}

pub read_past : (bytes : List ℕ) (parts : List Part) (from : ℕ) (before : List ℕ) (k s filled : ℕ) (into : List ℕ) (p :
    Part) →
    parts_inside (length bytes) parts ≡ true → Reading bytes parts from before k s filled into →
    slice_get parts k ≡ Some p →
    p.writable ≡ false → p.len ≤ s → Reading bytes parts from before (k + 1) (s - p.len) filled into
read_past bytes parts from before k s filled into p all i h w le =
    let later = readable (drop (k + 1) parts) in
    let here = part_at bytes p.addr p.len in
    let len = length-part_at bytes p.addr p.len (part_inside (length bytes) parts k p all h) in
    let place : s ≡ length here + (s - p.len) = omega arith in
    let past : drop s (join_parts bytes (readable (drop k parts))) ≡ drop (s - p.len) (join_parts bytes later) =
    ap (λ (ps : List Part). drop s (join_parts bytes ps)) (of_kind_with false parts k p h (rw w refl))
    ∙ (ap (drop s) (joined_cons bytes p later)
    ∙ (ap (λ (j : ℕ). drop j (here ++ join_parts bytes later)) place
    ∙ drop-append-add here (join_parts bytes later) (s - p.len))) in
    record {
      got = sym (ap (λ (x : List ℕ). take filled into ++ take (length before - filled) x) past) ∙ i.got;
      rest = i.rest;
      len = i.len;
      within = i.within;
    }

-- bytes copied after those that were
length_filled : (into part : List ℕ) (filled count : ℕ) → filled + count ≤ length into → length part ≡ count →
    length (take filled into ++ part) ≡ filled + count
length_filled into part filled count h e =
    omega (arith, length-append (take filled into) part, length-take filled into)

copied : (into part : List ℕ) (filled count : ℕ) → filled + count ≤ length into → length part ≡ count →
    take (filled + count) (take filled into ++ (part ++ drop count (drop filled into))) ≡ take filled into ++ part
copied into part filled count h e =
    ap (take (filled + count)) (sym (append_assoc (take filled into) part (drop count (drop filled into))))
    ∙ take_at (take filled into ++ part) (drop count (drop filled into)) (filled + count)
    (length_filled into part filled count h e)

copied_rest : (into part : List ℕ) (filled count : ℕ) → filled + count ≤ length into → length part ≡ count →
    drop (filled + count) (take filled into ++ (part ++ drop count (drop filled into))) ≡ drop (filled + count) into
copied_rest into part filled count h e =
    ap (drop (filled + count)) (sym (append_assoc (take filled into) part (drop count (drop filled into))))
    ∙ (drop_at (take filled into ++ part) (drop count (drop filled into)) (filled + count)
    (length_filled into part filled count h e)
    ∙ drop-drop count filled into)

pub read_here : (bytes : List ℕ) (parts : List Part) (from : ℕ) (before : List ℕ) (k s filled : ℕ) (into : List ℕ) (p :
    Part)
    (count : ℕ) (part next : List ℕ) → parts_inside (length bytes) parts ≡ true →
    Reading bytes parts from before k s filled into →
    slice_get parts k ≡ Some p → p.writable ≡ false → s < p.len → count ≡ min (p.len - s) (length into - filled) →
    part ≡ part_at bytes (p.addr + s) count → next ≡ take filled into ++ (part ++ drop count (drop filled into)) →
    Reading bytes parts from before (k + 1) 0 (filled + count) next
read_here bytes parts from before k s filled into p count part next all i h w lt e is after =
    let inside_p = part_inside (length bytes) parts k p all h in
    let later = readable (drop (k + 1) parts) in
    let here = part_at bytes p.addr p.len in
    let long = length-part_at bytes p.addr p.len inside_p in
    let short : length part ≡ count = ap length is ∙ length-part_at bytes (p.addr + s) count
    (inside_within (length bytes) p.addr p.len s count inside_p lt (omega (arith, e))) in
    let room : filled + count ≤ length into = omega (arith, i.len, i.within, e) in
    let left = length before - filled in
    let a = drop s here in
    let a_len : length a ≡ p.len - s = omega (arith, length-drop s here) in
    let more : take left (drop s (join_parts bytes (readable (drop k parts))))
    ≡ part ++ take (left - count) (join_parts bytes later) =
    ap (λ (ps : List Part). take left (drop s (join_parts bytes ps))) (of_kind_with false parts k p h (rw w refl))
    ∙ (ap (λ (x : List ℕ). take left (drop s x)) (joined_cons bytes p later)
    ∙ (ap (take left) (drop-append-le s here (join_parts bytes later) (omega arith))
    ∙ (take_both a (join_parts bytes later) left count (omega (arith, e, i.len))
    ∙ ap (λ (x : List ℕ). x ++ take (left - count) (join_parts bytes later))
    (part_within bytes p.addr p.len s count inside_p lt (omega (arith, e)) ∙ sym is)))) in
    let rest_len : length before - (filled + count) ≡ left - count = omega arith in
    record {
      got = ap (λ (x : List ℕ). take (filled + count) x ++ take (length before - (filled + count)) (join_parts bytes
          later)) after
          ∙ (ap (λ (x : List ℕ). x ++ take (length before - (filled + count)) (join_parts bytes later))
          (copied into part filled count room short)
          ∙ (ap (λ (j : ℕ). (take filled into ++ part) ++ take j (join_parts bytes later)) rest_len
          ∙ (append_assoc (take filled into) part (take (left - count) (join_parts bytes later))
          ∙ (ap (λ (x : List ℕ). take filled into ++ x) (sym more) ∙ i.got))));
      rest = ap (drop (filled + count)) after ∙ (copied_rest into part filled count room short
          ∙ (sym (drop-drop count filled into) ∙ (ap (drop count) i.rest ∙ drop-drop count filled before)));
      len = ap length after ∙ omega (
        arith,
        length-append (take filled into) (part ++ drop count (drop filled into)),
        length-append part (drop count (drop filled into)),
        length-take filled into,
        length-drop count (drop filled
            into),
        length-drop filled into,
        i.len,
      );
      within = omega (arith, i.len);
    }

pub read_all : (bytes : List ℕ) (parts : List Part) (from : ℕ) (before : List ℕ) (k s filled : ℕ) (into : List ℕ) →
    Reading bytes parts from before k s filled into → length parts ≤ k →
    take filled into ≡ take (length before) (drop from (join_parts bytes (readable parts)))
unfolding join_parts
read_all bytes parts from before k s filled into i h =
    let none : take (length before - filled) (drop s (join_parts bytes (readable (drop k parts)))) ≡ [] =
    ap (λ (ps : List Part). take (length before - filled) (drop s (join_parts bytes ps))) (of_kind_end false parts k h)
    ∙ (ap (take (length before - filled)) (drop_all s [] (omega arith))
    ∙ take_all (length before - filled) [] (omega arith)) in
    sym (append-nil (take filled into)) ∙ (ap (λ (x : List ℕ). take filled into ++ x) (sym none) ∙ i.got)

pub read_count : (bytes : List ℕ) (parts : List Part) (from : ℕ) (before : List ℕ) (k s filled : ℕ) (into : List ℕ) →
    Reading bytes parts from before k s filled into → length parts ≤ k →
    filled ≡ length (take (length before) (drop from (join_parts bytes (readable parts))))
read_count bytes parts from before k s filled into i h =
    let all = ap length (read_all bytes parts from before k s filled into i h) in
    omega (arith, length-take filled into, i.len, i.within)

pub read_whole : (bytes : List ℕ) (parts : List Part) (from : ℕ) (before : List ℕ) (k s filled : ℕ) (into : List ℕ) →
    Reading bytes parts from before k s filled into → length parts ≤ k →
    into ≡ take (length before) (drop from (join_parts bytes (readable parts))) ++ drop filled before
read_whole bytes parts from before k s filled into i h =
    sym (take-append-drop filled into)
    ∙ (ap (λ (x : List ℕ). x ++ drop filled into) (read_all bytes parts from before k s filled into i h)
    ∙ ap (λ (x : List ℕ). take (length before) (drop from (join_parts bytes (readable parts))) ++ x) i.rest)

-- the part of memory that a read takes
pub found : (bytes : List ℕ) (address n : ℕ) (o : Option (List ℕ)) → o ≡ find_part bytes address n →
    is_inside (length bytes) address n ≡ true →
    o ≡ Some (part_at bytes address n)
found bytes address n o e h = e ∙ (rw h refl)

-- the bytes of the k-th part from its byte s on
pub found_from : (bytes : List ℕ) (parts : List Part) (k : ℕ) (p : Part) (s n : ℕ) (o : Option (List ℕ)) →
    parts_inside (length bytes) parts ≡ true → slice_get parts k ≡ Some p → s < p.len → s + n ≤ p.len →
    o ≡ find_part bytes (p.addr + s) n → o ≡ Some (part_at bytes (p.addr + s) n)
found_from bytes parts k p s n o all here lt le e =
    found bytes (p.addr + s) n o e
    (inside_within (length bytes) p.addr p.len s n (part_inside (length bytes) parts k p all here) lt le)

pub some_copied : (o : Option (Bor (List ℕ))) (bytes : List ℕ) → option_copied o ≡ Some bytes → IsSome o
some_copied None bytes e = cc
some_copied (Some part) bytes e = refl

pub copied_is : (o : Option (Bor (List ℕ))) (part : Bor (List ℕ)) (bytes : List ℕ) → option_copied o ≡ Some bytes →
    o ≡ Some part →
    part.now ≡ bytes
copied_is o part bytes e is = let same = sym (ap option_copied is) ∙ e in cc

-- a part of a writable part, which may be empty
pub lent_inside : (size : ℕ) (p : Part) (from n : ℕ) → is_inside size p.addr p.len ≡ true → from + n ≤ p.len →
    is_inside size (p.addr + from) n ≡ true
lent_inside size p from n h le =
    ⊎_elim (λ (lt : from < p.len). inside_within size p.addr p.len from n h lt le)
    (λ (end : p.len ≤ from). let none : n ≡ 0 = omega arith in rw none refl)
    (cases_lt from p.len)

pub lent_fits : (size : ℕ) (p : Part) (from : ℕ) → is_inside size p.addr p.len ≡ true → size ≤ 2 ^ 26 →
    from ≤ p.len → p.addr < 2 ^ 64 →
    p.addr + from < 2 ^ 64
lent_fits size p from h small le fits =
    ⊎_elim (λ (lt : from < p.len). let ends = ends_inside size p.addr p.len from h lt in omega (arith, ends.0, ends.1))
    (λ (end : p.len ≤ from). ⊎_elim (λ (none : from < 1). omega arith)
    (λ (some : 1 ≤ from). let ends = ends_inside size p.addr p.len 0 h (omega arith) in omega (arith, ends.0, ends.1))
    (cases_lt from 1))
    (cases_lt from p.len)

pub writable_part : (bytes : List ℕ) (chain : DescriptorChain) (k from n : ℕ) (p : Part) →
    slice_get chain.parts k ≡ Some p →
    p.writable ≡ true → from + n ≤ p.len → is_inside (length bytes) p.addr p.len ≡ true →
    find_part bytes (p.addr + from) n ≡ find_writable bytes chain k from n
writable_part bytes chain k from n p h w le all =
    let here = lent_inside (length bytes) p from n all le in
    let fits = le-leb (from + n) p.len le in
    rw (here, h, w, fits, all) refl
