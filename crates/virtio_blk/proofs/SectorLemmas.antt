-- Writes over the joined parts of a chain one after the other, and sectors read and written so.
use Rattle.std.proofs.Common.{◌≡◌, ℕ, suc, ◌+◌, ◌-◌, ◌*◌, ◌<◌, ◌≤◌, Bool, true, false, cond, List, [], ◌∷◌, ◌++◌, length, take, drop, refl, ap, sym, ◌∙◌, subst, arith, ⊎_elim, append_assoc, append-nil, length-append, length-drop}
use Rattle.std.specs.Prelude.{Some, slice_get}
use Rattle.std.proofs.lemmas.Bool.{cases_lt, and_parts, and_from}
use Rattle.std.proofs.lemmas.Option.{get_or_from_slice_get}
use Rattle.std.proofs.Math.Numerals.{add-one}
use Rattle.std.proofs.lemmas.List.{length-take, length-take-le, take-append-le, drop-append-le, take_all, drop_all, drop-drop, length-set}
use Rattle.std.proofs.lemmas.List.Sums.{sum_by-cons}
use Rattle.std.proofs.Math.Seq.{take-nil, drop-nil, take-append-add, drop-append-add, take-append_seam}
use Rattle.shared_definitions.specs.Memory.{place_of, is_inside}
use Rattle.shared_definitions.specs.Overwrite.{overwrite}
use Rattle.page_track.specs.Memory.{Memory, part_at, with_part}
use Rattle.page_track.proofs.MemoryLemmas.{length-with_part}
use Rattle.page_track.proofs.LendingLemmas.{write_none}
use Rattle.virt_queue.specs.declared.fields.Part.{Part}
use Rattle.virt_queue.specs.Parts.{parts_inside, is_of_kind, of_kind, writable, readable, total_len, join_parts, skip, write_joined}
use Rattle.virtio_blk.specs.Disk.{DiskState, with_sector}
use Rattle.virtio_blk.specs.Request.{read_sectors, write_sectors}
use Rattle.virt_queue.proofs.PartLemmas.{ends_inside, inside_within, length-part_at, skip_past, skip_into}

write_cons : (m : Memory) (p : Part) (parts : List Part) (bytes : List ℕ)
    → write_joined m (p ∷ parts) bytes ≡ write_joined (with_part m p.addr (take p.len bytes)) parts (drop p.len bytes)
unfolding write_joined
write_cons m p parts bytes = refl

with_nothing : (m : Memory) (address : ℕ) → with_part m address [] ≡ m
with_nothing m address = λ i. record { bytes = write_none m.bytes (place_of address) i }

-- no bytes change nothing
write_nothing : (m : Memory) (parts : List Part) → write_joined m parts [] ≡ m
unfolding write_joined
write_nothing m [] = refl
write_nothing m (p ∷ parts) =
    ap (λ (x : List ℕ). write_joined (with_part m p.addr x) parts (drop p.len [])) (take-nil p.len)
    ∙ (ap (λ (x : List ℕ). write_joined (with_part m p.addr []) parts x) (drop-nil p.len)
    ∙ (write_nothing (with_part m p.addr []) parts ∙ with_nothing m p.addr))

-- two writes over neighbours are one
overwrite_append : (b : List ℕ) (at : ℕ) (xs ys : List ℕ) → at + length xs ≤ length b
    → overwrite (overwrite b at xs) (at + length xs) ys ≡ overwrite b at (xs ++ ys)
unfolding overwrite
overwrite_append b at xs ys h =
    let front : length (take at b ++ xs) ≡ at + length xs =
    omega (arith, length-append (take at b) xs, length-take-le at b (omega arith)) in
    let tail : length (xs ++ ys) ≡ length xs + length ys = length-append xs ys in
    let sum : at + length xs + length ys ≡ at + length (xs ++ ys) = omega arith in
    let rest : List ℕ = drop (at + length xs) b in
    let one : take (at + length xs) (take at b ++ xs ++ rest) ≡ take at b ++ xs =
    ap (λ (n : ℕ). take n (take at b ++ xs ++ rest)) (sym front) ∙ take-append_seam (take at b ++ xs) rest in
    let two : drop (at + length xs + length ys) (take at b ++ xs ++ rest) ≡ drop (length ys) rest =
    ap (λ (n : ℕ). drop (n + length ys) (take at b ++ xs ++ rest)) (sym front)
    ∙ drop-append-add (take at b ++ xs) rest (length ys) in
    let three : drop (length ys) rest ≡ drop (at + length (xs ++ ys)) b =
    drop-drop (length ys) (at + length xs) b ∙ ap (λ (n : ℕ). drop n b) sum in
    ap (λ (x : List ℕ). x ++ ys ++ drop (at + length xs + length ys) (take at b ++ xs ++ rest)) one
    ∙ (ap (λ (x : List ℕ). take at b ++ xs ++ ys ++ x) (two ∙ three)
    ∙ ap (λ (x : List ℕ). x ++ drop (at + length (xs ++ ys)) b) (append_assoc (take at b) xs ys))

with_append : (m : Memory) (address n : ℕ) (xs ys : List ℕ) → is_inside (length m.bytes) address n ≡ true
    → length xs < n
    → with_part (with_part m address xs) (address + length xs) ys ≡ with_part m address (xs ++ ys)
with_append m address n xs ys inside lt =
    let ends = ends_inside (length m.bytes) address n (length xs) inside lt in
    let place : place_of (address + length xs) ≡ place_of address + length xs = omega (arith, ends.0) in
    let fits : place_of address + length xs ≤ length m.bytes = omega (arith, ends.0, ends.1) in
    λ i. record {
      bytes = (ap (λ (at : ℕ). overwrite (overwrite m.bytes (place_of address) xs) at ys) place
          ∙ overwrite_append m.bytes (place_of address) xs ys fits) i;
    }

-- the size of memory after a write of a part's bytes at most
pub size_kept : (m : Memory) (p : Part) (xs : List ℕ) → is_inside (length m.bytes) p.addr p.len ≡ true
    → length (with_part m p.addr (take p.len xs)).bytes ≡ length m.bytes
size_kept m p [] inside =
    ap (λ (x : List ℕ). length (with_part m p.addr x).bytes) (take-nil p.len)
    ∙ ap (λ (x : Memory). length x.bytes) (with_nothing m p.addr)
size_kept m p (x ∷ xs) inside =
    ⊎_elim
    (λ (some : 0 < p.len).
    let few : length (take p.len (x ∷ xs)) ≤ p.len = omega (arith, length-take p.len (x ∷ xs)) in
    let address : p.addr + 0 ≡ p.addr = omega arith in
    length-with_part m p.addr (take p.len (x ∷ xs))
    (subst (λ (a : ℕ). is_inside (length m.bytes) a (length (take p.len (x ∷ xs))) ≡ true) address
    (inside_within (length m.bytes) p.addr p.len 0 (length (take p.len (x ∷ xs))) inside some (omega arith))))
    (λ (none : p.len ≤ 0).
    let empty : take p.len (x ∷ xs) ≡ [] = ap (λ (n : ℕ). take n (x ∷ xs)) (let e : p.len ≡ 0 = omega arith in e) in
    ap (λ (y : List ℕ). length (with_part m p.addr y).bytes) empty
    ∙ ap (λ (y : Memory). length y.bytes) (with_nothing m p.addr))
    (cases_lt 0 p.len)

-- over no parts nothing is written
nothing_left : (m : Memory) (xs ys : List ℕ)
    → write_joined (write_joined m [] xs) (skip (length xs) []) ys ≡ write_joined m [] (xs ++ ys)
unfolding write_joined skip
nothing_left m xs ys = refl

-- the first write ends within the first part
write_short : (m : Memory) (p : Part) (parts : List Part) (xs ys : List ℕ)
    → is_inside (length m.bytes) p.addr p.len ≡ true
    → length xs < p.len
    → write_joined (write_joined m (p ∷ parts) xs) (skip (length xs) (p ∷ parts)) ys
    ≡ write_joined m (p ∷ parts) (xs ++ ys)
write_short m p parts xs ys inside short =
    let first : write_joined m (p ∷ parts) xs ≡ with_part m p.addr xs =
    write_cons m p parts xs
    ∙ (ap (λ (x : List ℕ). write_joined (with_part m p.addr x) parts (drop p.len xs)) (take_all p.len xs
    (omega arith))
    ∙ (ap (λ (x : List ℕ). write_joined (with_part m p.addr xs) parts x) (drop_all p.len xs (omega arith))
    ∙ write_nothing (with_part m p.addr xs) parts)) in
    let split : length xs + (p.len - length xs) ≡ p.len = omega arith in
    let front : take p.len (xs ++ ys) ≡ xs ++ take (p.len - length xs) ys =
    ap (λ (n : ℕ). take n (xs ++ ys)) (sym split) ∙ take-append-add xs ys (p.len - length xs) in
    let back : drop p.len (xs ++ ys) ≡ drop (p.len - length xs) ys =
    ap (λ (n : ℕ). drop n (xs ++ ys)) (sym split) ∙ drop-append-add xs ys (p.len - length xs) in
    let rest : Part = record { addr = p.addr + length xs; len = p.len - length xs; writable = p.writable } in
    ap (λ (x : Memory). write_joined x (skip (length xs) (p ∷ parts)) ys) first
    ∙ (ap (λ (ps : List Part). write_joined (with_part m p.addr xs) ps ys) (skip_into (length xs) p parts short)
    ∙ (write_cons (with_part m p.addr xs) rest parts ys
    ∙ (ap (λ (x : Memory). write_joined x parts (drop (p.len - length xs) ys))
    (with_append m p.addr p.len xs (take (p.len - length xs) ys) inside short)
    ∙ sym (write_cons m p parts (xs ++ ys)
    ∙ (ap (λ (x : List ℕ). write_joined (with_part m p.addr x) parts (drop p.len (xs ++ ys))) front
    ∙ ap (λ (x : List ℕ). write_joined (with_part m p.addr (xs ++ take (p.len - length xs) ys)) parts x) back)))))

-- a write and then another at its end are one write of both
pub write_append : (m : Memory) (parts : List Part) (xs ys : List ℕ) → parts_inside (length m.bytes) parts ≡ true
    → length xs ≤ total_len parts
    → write_joined (write_joined m parts xs) (skip (length xs) parts) ys ≡ write_joined m parts (xs ++ ys)
write_append m [] xs ys inside few = nothing_left m xs ys
write_append m (p ∷ parts) xs ys inside few =
    let all = and_parts (is_inside (length m.bytes) p.addr p.len) (parts_inside (length m.bytes) parts) inside in
    let sum : total_len (p ∷ parts) ≡ p.len + total_len parts = sum_by-cons (λ (q : Part). q.len) p parts in
    ⊎_elim
    (λ (short : length xs < p.len). write_short m p parts xs ys all.0 short)
    (λ (long : p.len ≤ length xs).
    let rest : length xs - p.len ≡ length (drop p.len xs) = sym (length-drop p.len xs) in
    let same : length (with_part m p.addr (take p.len xs)).bytes ≡ length m.bytes = size_kept m p xs all.0 in
    ap (λ (x : Memory). write_joined x (skip (length xs) (p ∷ parts)) ys) (write_cons m p parts xs)
    ∙ (ap (λ (ps : List Part). write_joined (write_joined (with_part m p.addr (take p.len xs)) parts
    (drop p.len xs)) ps ys)
    (skip_past (length xs) p parts long ∙ ap (λ (n : ℕ). skip n parts) rest)
    ∙ (write_append (with_part m p.addr (take p.len xs)) parts (drop p.len xs) ys
    (subst (λ (n : ℕ). parts_inside n parts ≡ true) (sym same) all.1) (omega (arith, length-drop p.len xs))
    ∙ sym (write_cons m p parts (xs ++ ys)
    ∙ (ap (λ (x : List ℕ). write_joined (with_part m p.addr x) parts (drop p.len (xs
    ++ ys))) (take-append-le p.len xs ys long)
    ∙ ap (λ (x : List ℕ). write_joined (with_part m p.addr (take p.len xs)) parts x)
    (drop-append-le p.len xs ys long))))))
    (cases_lt (length xs) p.len)

-- the parts of one kind are in memory with all
pub inside_of_kind : (size : ℕ) (w : Bool) (parts : List Part) → parts_inside size parts ≡ true
    → parts_inside size (of_kind w parts) ≡ true
inside_of_kind size w [] all = refl
inside_of_kind size w (p ∷ parts) all =
    let both = and_parts (is_inside size p.addr p.len) (parts_inside size parts) all in
    elim (is_of_kind w p) as (λ b. parts_inside size (cond b (p ∷ of_kind w parts) (of_kind w parts)) ≡ true) [
      | true ↦ and_from _ _ both.0 (inside_of_kind size w parts both.1)
      | false ↦ inside_of_kind size w parts both.1
    ]

-- ---- sectors read into the answer

pub record IsReadSoFar (start now : Memory) (disk : DiskState) (parts : List Part) (sector k : ℕ) : Type 0 where
  pub memory : now ≡ write_joined start (writable parts) (read_sectors disk sector k)
  pub count : length (read_sectors disk sector k) ≡ 512 * k
  pub size : length now.bytes ≡ length start.bytes

pub read_none : (start : Memory) (disk : DiskState) (parts : List Part) (sector : ℕ)
    → IsReadSoFar start start disk parts sector 0
unfolding read_sectors
read_none start disk parts sector =
    record { memory = sym (write_nothing start (writable parts)); count = refl; size = refl }

read_next : (disk : DiskState) (sector k : ℕ) (bytes : List ℕ) → slice_get disk.mine (sector + k) ≡ Some bytes
    → read_sectors disk sector (suc k) ≡ read_sectors disk sector k ++ bytes
unfolding read_sectors
read_next disk sector k bytes there =
    ap (λ (x : List ℕ). read_sectors disk sector k ++ x) (get_or_from_slice_get disk.mine (sector + k) bytes [] there)

pub read_more : (start now later : Memory) (disk : DiskState) (parts : List Part) (sector k : ℕ) (bytes : List ℕ)
    → IsReadSoFar start now disk parts sector k → parts_inside (length start.bytes) parts ≡ true
    → 512 * (k + 1) ≤ total_len (writable parts) → slice_get disk.mine (sector + k) ≡ Some bytes → length bytes ≡ 512
    → later ≡ write_joined now (skip (k * 512) (writable parts)) bytes → length later.bytes ≡ length now.bytes
    → IsReadSoFar start later disk parts sector (k + 1)
read_more start now later disk parts sector k bytes so inside room there long after size = rw add-one (
    let seen : List ℕ = read_sectors disk sector k in
    let next : read_sectors disk sector (suc k) ≡ seen ++ bytes = read_next disk sector k bytes there in
    let place : k * 512 ≡ length seen = omega (arith, so.count) in
    record {
      memory = after
          ∙ (ap (λ (n : ℕ). write_joined now (skip n (writable parts)) bytes) place
          ∙ (ap (λ (m : Memory). write_joined m (skip (length seen) (writable parts)) bytes) so.memory
          ∙ (write_append start (writable parts) seen bytes (inside_of_kind (length start.bytes) true parts inside)
          (omega (arith, so.count))
          ∙ ap (write_joined start (writable parts)) (sym next))));
      count = ap length next ∙ omega (arith, length-append seen bytes, so.count);
      size = size ∙ so.size;
    })

-- ---- sectors written from the request

length-joined : (bytes : List ℕ) (parts : List Part) → parts_inside (length bytes) parts ≡ true
    → length (join_parts bytes parts) ≡ total_len parts
unfolding join_parts
length-joined bytes [] all = refl
length-joined bytes (p ∷ parts) all =
    let both = and_parts (is_inside (length bytes) p.addr p.len) (parts_inside (length bytes) parts) all in
    omega (
      arith,
      length-append (part_at bytes p.addr p.len) (join_parts bytes parts),
      length-part_at bytes p.addr p.len both.0,
      length-joined bytes parts both.1,
      sum_by-cons (λ (q : Part). q.len) p parts,
    )

-- the readable bytes are as many as the readable parts have
pub length-request : (bytes : List ℕ) (parts : List Part) → parts_inside (length bytes) parts ≡ true
    → length (join_parts bytes (readable parts)) ≡ total_len (readable parts)
length-request bytes parts inside =
    length-joined bytes (readable parts) (inside_of_kind (length bytes) false parts inside)

pub record IsWrittenSoFar (start now : DiskState) (bytes : List ℕ) (sector k : ℕ) : Type 0 where
  pub disk : now ≡ write_sectors start sector k bytes
  pub count : length now.mine ≡ length start.mine

pub written_none : (start : DiskState) (bytes : List ℕ) (sector : ℕ) → IsWrittenSoFar start start bytes sector 0
unfolding write_sectors
written_none start bytes sector = record { disk = refl; count = refl }

written_next : (start : DiskState) (bytes : List ℕ) (sector k : ℕ)
    → write_sectors start sector (suc k) bytes
    ≡ with_sector (write_sectors start sector k bytes) (sector + k) (take 512 (drop (512 * k) bytes))
unfolding write_sectors
written_next start bytes sector k = refl

-- what is copied of the request for sector k
copied : (request old : List ℕ) (k result : ℕ) → length old ≡ 512 → 16 + 512 * (k + 1) ≤ length request
    → result ≡ length (take (length old) (drop (16 + k * 512) request))
    → take (length old) (drop (16 + k * 512) request) ++ drop result old ≡ take 512 (drop (512 * k) (drop 16 request))
copied request old k result whole room is =
    let there : length (drop (16 + k * 512) request) ≡ length request - (16 + k * 512) =
    length-drop (16 + k * 512) request in
    let full : length (take (length old) (drop (16 + k * 512) request)) ≡ length old =
    length-take-le (length old) (drop (16 + k * 512) request) (omega arith) in
    let none : drop result old ≡ [] = drop_all result old (omega arith) in
    let place : 16 + k * 512 ≡ 16 + 512 * k = omega arith in
    ap (λ (x : List ℕ). take (length old) (drop (16 + k * 512) request) ++ x) none
    ∙ (append-nil (take (length old) (drop (16 + k * 512) request))
    ∙ (ap (λ (n : ℕ). take n (drop (16 + k * 512) request)) whole
    ∙ ap (take 512) (ap (λ (n : ℕ). drop n request) place ∙ sym (drop-drop (512 * k) 16 request))))

pub written_more : (start now later : DiskState) (request old into : List ℕ) (sector k result : ℕ)
    → IsWrittenSoFar start now (drop 16 request) sector k → length old ≡ 512 → 16 + 512 * (k + 1) ≤ length request
    → result ≡ length (take (length old) (drop (16 + k * 512) request))
    → into ≡ take (length old) (drop (16 + k * 512) request) ++ drop result old
    → later ≡ with_sector now (sector + k) into → IsWrittenSoFar start later (drop 16 request) sector (k + 1)
written_more start now later request old into sector k result so whole room is filled after = rw add-one (
    let bytes : into ≡ take 512 (drop (512 * k) (drop 16 request)) =
    filled ∙ copied request old k result whole room is in
    record {
      disk = after
          ∙ (ap (with_sector now (sector + k)) bytes
          ∙ (ap (λ (d : DiskState). with_sector d (sector + k) (take 512 (drop (512 * k) (drop 16 request)))) so.disk
          ∙ sym (written_next start (drop 16 request) sector k)));
      count = ap (λ (d : DiskState). length d.mine) after ∙ (length-set now.mine (sector + k) into ∙ so.count);
    })
