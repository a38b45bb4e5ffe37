-- Memory at boot is bytes of the image, and zeros.
use Rattle.std.proofs.Common.{ℕ, ◌+◌, ◌-◌, List, [], ◌∷◌, replicate, fold}
use Rattle.std.specs.List.{slice_range}
use Rattle.elf_load.specs.Boot.{boot_memory, content, place_segment}
use Rattle.elf_load.specs.Elf.{segments}
use Rattle.elf_load.specs.declared.header.ProgramHeader.{ProgramHeader}
use Rattle.shared_definitions.specs.Bytes.{AreBytes}
use Rattle.shared_definitions.proofs.ByteLemmas.{AreBytes-append, AreBytes-range}
use Rattle.shared_definitions.proofs.ByteLemmas.{AreBytes-overwrite, AreBytes-zeros}
use Rattle.shared_definitions.specs.Memory.{place_of}
use Rattle.guest_machine.specs.Boot.{ram_size}
use Rattle.machine_laws.specs.Laws.{BootsAreBytes}

placed : (image memory : List ℕ) (segment : ProgramHeader) → AreBytes image → AreBytes memory
    → AreBytes (place_segment image memory segment)
unfolding place_segment
placed image memory segment h g =
    AreBytes-overwrite memory (place_of segment.p_paddr) (content image segment) g
    (AreBytes-append (slice_range image segment.p_offset (segment.p_offset + segment.p_filesz))
    (replicate (segment.p_memsz - segment.p_filesz) 0)
    (AreBytes-range image segment.p_offset (segment.p_offset + segment.p_filesz) h)
    (AreBytes-zeros (segment.p_memsz - segment.p_filesz)))

all_placed : (image memory : List ℕ) (segments : List ProgramHeader) → AreBytes image → AreBytes memory
    → AreBytes (fold (place_segment image) memory segments)
all_placed image memory [] h g = g
all_placed image memory (segment ∷ rest) h g =
    all_placed image (place_segment image memory segment) rest h (placed image memory segment h g)

pub boots_are : BootsAreBytes
unfolding boot_memory
boots_are mib image disk h g = record {
  platform = record {
    memory = all_placed image (replicate (ram_size mib) 0) (segments image) h (AreBytes-zeros (ram_size mib));
    neighbour = AreBytes-zeros 6;
  };
  disk = g;
}
