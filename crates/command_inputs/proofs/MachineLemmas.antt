-- An image and a disk are read as the machine that they boot.
use Rattle.std.proofs.Common.{◌≡◌, ◌↔◌, ℕ, ◌+◌, ◌*◌, ◌/◌, ◌%◌, zero, suc, Bool, true, false, not, List, [], ◌∷◌, ◌++◌, All, Option, Some, None, Result, Ok, Err, IsErrOf, IsTrue, length, take, drop, refl, sym, ap, ◌∙◌, arith, length-append}
use Rattle.std.specs.List.{flat_map}
use Rattle.std.proofs.lemmas.Bool.{false≢true}
use Rattle.std.proofs.lemmas.Bool.Decides.{nat_tests}
use Rattle.std.proofs.lemmas.Grind.{common_steps}
use Rattle.std.proofs.lemmas.List.{length-drop, length-take-le, take-append-drop}
use Rattle.std.proofs.lemmas.List.Elements.{All-nil, All-cons, All-head, All-tail}
use Rattle.disk_buffers.specs.Sectors.{AreSectors, is_length}
use Rattle.disk_buffers.specs.declared.whole.DiskFault.{DiskFault}
use Rattle.disk_buffers.specs.declared.whole.DiskFault.TheVariants.{Length}
use Rattle.elf_load.specs.Boot.{elf_case}
use Rattle.file_steps.specs.Plans.{Refusal}
use Rattle.guest_machine.specs.Boot.{at_boot, boot_state, ram_size}
use Rattle.guest_machine.specs.Guest.{MachineParts, machine_meaning}
use Rattle.guest_machine.specs.Turn.{State}
use Rattle.state_wire.specs.Guest.{Meaning}
use Rattle.virtio_blk.specs.Disk.{DiskState}
use Rattle.command_inputs.specs.Laws.{ReadsMachines}
use Rattle.command_inputs.specs.Machine.{IsBooted, at_rest, machine_at, read_disk, read_machine, sectors_of, sectors_within}
use Rattle.command_inputs.specs.Reading.{disk_refusal, image_refusal}
use Rattle.command_inputs.proofs.TextLemmas.{ok_err, ok_same}

-- ---- sectors

abbrev joined : List (List ℕ) → List ℕ
joined sectors = flat_map (λ sector. sector) sectors

abbrev IsSector : List ℕ → Type 0
IsSector sector = length sector ≡ 512

length-joined : (sectors : List (List ℕ)) → All IsSector sectors → length (joined sectors) ≡ 512 * length sectors
length-joined [] sizes = refl
length-joined (s ∷ sectors) sizes =
    let first = All-head IsSector s sectors sizes in
    let later = length-joined sectors (All-tail IsSector s sectors sizes) in
    omega (arith, first, later, length-append s (joined sectors))

cut_first : (s rest : List ℕ) → length s ≡ 512 → (take 512 (s ++ rest) ≡ s) × (drop 512 (s ++ rest) ≡ rest)
cut_first s rest size =
    let front : take (length s) (s ++ rest) ≡ s = grind (arith, common_steps) in
    let back : drop (length s) (s ++ rest) ≡ rest = grind (arith, common_steps) in
    (ap (λ n. take n (s ++ rest)) (sym size) ∙ front, ap (λ n. drop n (s ++ rest)) (sym size) ∙ back)

within_joined : (sectors : List (List ℕ)) → All IsSector sectors
    → sectors_within (length sectors) (joined sectors) ≡ sectors
within_joined [] sizes = refl
within_joined (s ∷ sectors) sizes =
    let cut = cut_first s (joined sectors) (All-head IsSector s sectors sizes) in
    rw (cut.0, cut.1) (ap (λ ss. s ∷ ss) (within_joined sectors (All-tail IsSector s sectors sizes)))

sectors_from : (disk : List ℕ) (sectors : List (List ℕ)) → AreSectors disk sectors → sectors_of disk ≡ sectors
unfolding sectors_of
sectors_from disk sectors s =
    let size : length disk ≡ 512 * length sectors = ap length (sym s.join) ∙ length-joined sectors s.sizes in
    let count : length disk / 512 ≡ length sectors = omega (arith, size) in
    ap (λ n. sectors_within n disk) count
    ∙ (ap (λ bytes. sectors_within (length sectors) bytes) (sym s.join) ∙ within_joined sectors s.sizes)

within_are : (n : ℕ) (disk : List ℕ) → length disk ≡ 512 * n → AreSectors disk (sectors_within n disk)
within_are zero [] size = record { join = refl; sizes = All-nil IsSector }
within_are zero (x ∷ xs) size = absurd (omega (arith, size))
within_are (suc n) disk size =
    let more : 512 * suc n ≡ 512 * n + 512 = omega arith in
    let rest = within_are n (drop 512 disk) (omega (arith, length-drop 512 disk, size, more)) in
    let first : length (take 512 disk) ≡ 512 = length-take-le 512 disk (omega (arith, size, more)) in
    record {
      join = ap (λ xs. take 512 disk ++ xs) rest.join ∙ take-append-drop 512 disk;
      sizes = All-cons IsSector (take 512 disk) (sectors_within n (drop 512 disk)) first rest.sizes;
    }

whole_sectors : (n : ℕ) → is_length n ≡ true → n ≡ 512 * (n / 512)
whole_sectors n h =
    let none : n % 512 ≡ 0 = grind (arith, nat_tests) in
    omega (arith, none)

are_sectors : (disk : List ℕ) → is_length (length disk) ≡ true → AreSectors disk (sectors_of disk)
unfolding sectors_of
are_sectors disk h = within_are (length disk / 512) disk (whole_sectors (length disk) h)

-- ---- disks

-- a disk was made of bytes of such a length
sized : {T : Type 0} (r : Result T DiskFault) (whole : T) (b : Bool) → r ≡ Ok whole
    → (IsErrOf r Length ↔ IsTrue (not b)) → b ≡ true
sized r whole true e h = refl
sized r whole false e h = let f : r ≡ Err Length = h.1 refl in cc

pub disk_read : (r : Result DiskState DiskFault) (whole : DiskState) (disk : List ℕ) → r ≡ Ok whole
    → (IsErrOf r Length ↔ IsTrue (not (is_length (length disk)))) → AreSectors disk whole.mine
    → read_disk disk ≡ Ok whole.mine
disk_read r whole disk e h s =
    rw (sized r whole (is_length (length disk)) e h, sectors_from disk whole.mine s) refl

unsized : (b : Bool) → IsTrue (not b) → b ≡ false
unsized true h = absurd (false≢true h)
unsized false h = refl

pub disk_bad : (disk : List ℕ) → IsTrue (not (is_length (length disk)))
    → read_disk disk ≡ Err (disk_refusal (length disk))
disk_bad disk h = rw (unsized (is_length (length disk)) h) refl

-- ---- machines

state_there : (mib : ℕ) (image : List ℕ) (disk : DiskState) (s : State) → boot_state mib image disk ≡ Some s
    → (elf_case (ram_size mib) image ≡ None) × (at_boot mib image disk ≡ s)
unfolding boot_state
state_there mib image disk s e = go (elf_case (ram_size mib) image) refl
  where
    one : (t : State) → Some t ≡ Some s → t ≡ s
    one t h = cc

    go : (o : Option ℕ) → elf_case (ram_size mib) image ≡ o
        → (elf_case (ram_size mib) image ≡ None) × (at_boot mib image disk ≡ s)
    go None p = (p, one (at_boot mib image disk) (rw p at e))
    go (Some n) p = let f : None ≡ Some s = rw p at e in cc

state_at : (mib : ℕ) (image : List ℕ) (disk : DiskState) → elf_case (ram_size mib) image ≡ None
    → boot_state mib image disk ≡ Some (at_boot mib image disk)
unfolding boot_state
state_at mib image disk none = rw none refl

machine_there : (mib : ℕ) (image disk : List ℕ) (whole : DiskState) (s : State) → read_disk disk ≡ Ok whole.mine
    → boot_state mib image whole ≡ Some s → read_machine mib image disk ≡ Ok (at_rest s)
unfolding read_machine
machine_there mib image disk whole s d e =
    let p = state_there mib image whole s e in
    rw (p.0, d) (ap (λ t. Ok (at_rest t)) p.1)

at_first : (m : MachineParts) → m.turned ≡ 0 → machine_meaning m ≡ at_rest m.state
at_first m e = ap (λ n. machine_meaning (record m { turned = n })) e

pub machine_from : (mib : ℕ) (image disk : List ℕ) (whole : DiskState) (m : MachineParts)
    → read_disk disk ≡ Ok whole.mine → boot_state mib image whole ≡ Some m.state → m.turned ≡ 0
    → read_machine mib image disk ≡ Ok (machine_meaning m)
machine_from mib image disk whole m d e first =
    machine_there mib image disk whole m.state d e ∙ ap (λ (x : Meaning). Ok x) (sym (at_first m first))

pub image_bad : (mib : ℕ) (image disk : List ℕ) (number : ℕ) → elf_case (ram_size mib) image ≡ Some number
    → read_machine mib image disk ≡ Err (image_refusal number)
unfolding read_machine
image_bad mib image disk number e = rw e refl

pub machine_bad : (mib : ℕ) (image disk : List ℕ) (refusal : Refusal) → elf_case (ram_size mib) image ≡ None
    → read_disk disk ≡ Err refusal → read_machine mib image disk ≡ Err refusal
unfolding read_machine
machine_bad mib image disk refusal none e = rw (none, e) refl

machine_read : (mib : ℕ) (image disk : List ℕ) (machine : Meaning) → IsBooted mib image disk machine
    → read_machine mib image disk ≡ Ok machine
machine_read mib image disk machine b =
    let there : read_disk disk ≡ Ok b.sectors = rw (b.sized, sectors_from disk b.sectors b.sectors_are) refl in
    machine_there mib image disk (record { mine = b.sectors }) b.state there b.booted
    ∙ ap (λ (x : Meaning). Ok x) (sym b.machine_is)

machine_back : (mib : ℕ) (image disk : List ℕ) (machine : Meaning) → read_machine mib image disk ≡ Ok machine
    → IsBooted mib image disk machine
unfolding read_machine
machine_back mib image disk machine e = go (elf_case (ram_size mib) image) refl
  where
    on : elf_case (ram_size mib) image ≡ None → (b : Bool) → is_length (length disk) ≡ b
        → IsBooted mib image disk machine
    on none true h =
        let same : machine_at mib image (sectors_of disk) ≡ machine = ok_same _ machine (rw (none, h) at e) in
        record {
          sized = h;
          sectors = sectors_of disk;
          sectors_are = are_sectors disk h;
          state = at_boot mib image (record { mine = sectors_of disk });
          booted = state_at mib image (record { mine = sectors_of disk }) none;
          machine_is = sym same;
        }
    on none false h = absurd (ok_err machine (disk_refusal (length disk)) (rw (none, h) at e))

    go : (o : Option ℕ) → elf_case (ram_size mib) image ≡ o → IsBooted mib image disk machine
    go None none = on none (is_length (length disk)) refl
    go (Some number) h = absurd (ok_err machine (image_refusal number) (rw h at e))

pub machines_lem : ReadsMachines
machines_lem mib image disk machine = (machine_back mib image disk machine, machine_read mib image disk machine)
