-- The machine when it starts (RISC-V privileged, 3.4 "Reset"; the rest is this machine's own).
use Rattle.std.specs.Prelude.{◌≡◌, ℕ, ◌*◌, ◌^◌, ◌≤◌, List, Option, Some, None, length, is_none, if◌then◌else◌}
use Rattle.elf_load.specs.Boot.{elf_case, boot_memory}
use Rattle.elf_load.specs.Elf.{entry_of}
use Rattle.virtio_blk.specs.Disk.{DiskState}
use Rattle.rv_platform.specs.Devices.{start_platform}
use Rattle.guest_machine.specs.Turn.{State}
use Rattle.guest_machine.specs.declared.fault.BootFault.{BootFault}
use Rattle.guest_machine.specs.declared.fault.BootFault.TheVariants.{Elf, NoMemory}

-- the bytes of so many MiB
abbrev pub ram_size : ℕ → ℕ
ram_size mib = mib * 2 ^ 20

-- it starts at the image's entry, memory holds the image's segments, and the disk is as given
abbrev pub at_boot : ℕ → List ℕ → DiskState → State
at_boot mib image disk = record {
  platform = start_platform (entry_of image)
      (record { bytes = boot_memory (ram_size mib) image }) (length disk.mine);
  disk = disk;
}

-- the state at boot, which exists where no case of the loader holds
unfoldable pub boot_state : ℕ → List ℕ → DiskState → Option State
boot_state mib image disk =
    if is_none (elf_case (ram_size mib) image) then Some (at_boot mib image disk) else None

-- a fault of the loader is the first case that holds of the image
abbrev pub IsCaseOf : ℕ → List ℕ → BootFault → Type 0
IsCaseOf mib image (Elf fault) = elf_case (ram_size mib) image ≡ Some fault.number
IsCaseOf mib image NoMemory = Unit {0}

-- the cases of the loader are 1 to 12
abbrev pub HasNumber : BootFault → Type 0
HasNumber (Elf fault) = (1 ≤ fault.number) × (fault.number ≤ 12)
HasNumber NoMemory = Unit {0}
