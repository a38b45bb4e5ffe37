-- A machine that boots is of bytes, and its kind is regular; the same of the test guest.
use Rattle.std.proofs.Common.{◌≡◌, ℕ, Bool, true, false, refl, subst, Some, None, List, length, All, if◌then◌else◌}
use Rattle.std.specs.Prelude.{is_none}
use Rattle.std.specs.Int.{w64, to_be_bytes}
use Rattle.std.proofs.lemmas.List.Elements.{All-nil}
use Rattle.shared_definitions.specs.Bytes.{AreBytes}
use Rattle.shared_definitions.proofs.ByteLemmas.{AreBytes-append, AreBytes-high_first}
use Rattle.elf_load.specs.Boot.{elf_case}
use Rattle.virtio_blk.specs.Disk.{DiskState}
use Rattle.guest_machine.specs.Boot.{at_boot, boot_state, ram_size}
use Rattle.guest_machine.specs.Guest.{machine_meaning}
use Rattle.guest_machine.specs.Turn.{State}
use Rattle.machine_laws.specs.Laws.{BootsAreBytes, MachinesAreRegular, StateBytes, StatesAreOfTheirKind}
use Rattle.state_wire.specs.Regular.{FitsKind, GuestBytes}
use Rattle.state_wire.specs.Script.{ScriptsAreRegular, script_meaning}
use Rattle.pair_theorem.specs.Starts.{boots}
use Rattle.guest_starts.specs.Laws.{MachinesStart, ScriptsStart}

picked : (test : Bool) (x y : State) → (if test then Some x else None) ≡ Some y → x ≡ y
picked true x y h = cc
picked false x y h = absurd (cc)

-- where a machine boots, it is in the state of the image and the disk
booted : (mib : ℕ) (image : List ℕ) (disk : DiskState) (s : State) → boot_state mib image disk ≡ Some s
    → at_boot mib image disk ≡ s
unfolding boot_state
booted mib image disk s h =
    picked (is_none (elf_case (ram_size mib) image)) (at_boot mib image disk) s h

pub machines_are_starts : BootsAreBytes → MachinesAreRegular → StatesAreOfTheirKind → MachinesStart
machines_are_starts boots_are regular of_kind mib image disk machine stream m n h stream_bytes =
    let at = booted mib image disk machine.state h.state in
    let bytes : StateBytes machine.state = subst StateBytes at (boots_are mib image disk h.image_bytes h.disk_bytes) in
    let sectors : All (λ (sector : List ℕ). length sector ≡ 512) machine.state.disk.mine
    = subst (λ (s : State). All (λ (sector : List ℕ). length sector ≡ 512) s.disk.mine) at h.sectors in
    let fits = of_kind machine bytes sectors in
    boots (machine_meaning machine).kind stream (machine_meaning machine).state m n
    (regular machine) fits.0 fits.1 stream_bytes

pub scripts_are_starts : ScriptsAreRegular → ScriptsStart
scripts_are_starts regular g stream m n table frame stream_bytes =
    let fits : FitsKind (script_meaning g).kind (script_meaning g).state = record {
      page_count = refl;
      sector_count = refl;
      pages = All-nil (λ (page : List ℕ). length page ≡ 4096);
      sectors = All-nil (λ (sector : List ℕ). length sector ≡ 512);
    } in
    let bytes : GuestBytes (script_meaning g).state = record {
      bytes = AreBytes-append (to_be_bytes w64 g.number) g.frame (AreBytes-high_first 8 g.number) frame;
      pages = All-nil AreBytes;
      sectors = All-nil AreBytes;
    } in
    boots (script_meaning g).kind stream (script_meaning g).state m n
    (regular g.table table) fits bytes stream_bytes
