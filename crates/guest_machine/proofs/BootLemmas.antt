-- The machine that starts is the state at boot.
use Rattle.std.proofs.Common.{◌≡◌, ℕ, Option, Some, None, List, length, sym, ap, ◌∙◌}
use Rattle.elf_load.specs.Boot.{boot_memory, elf_case}
use Rattle.elf_load.specs.Elf.{entry_of}
use Rattle.page_track.specs.Memory.{Memory, zeros}
use Rattle.page_track.proofs.MemoryLemmas.{length-zeros}
use Rattle.rv_platform.specs.Devices.{start_platform}
use Rattle.rv_platform.specs.Step.{PlatformState}
use Rattle.virtio_blk.specs.Disk.{DiskState}
use Rattle.guest_machine.specs.Boot.{boot_state, ram_size}
use Rattle.guest_machine.specs.Turn.{State}

-- memory of zeros has the size
pub zeros_size : (mib : ℕ) (memory : Memory) → memory.bytes ≡ zeros mib → length memory.bytes ≡ ram_size mib
zeros_size mib memory e = ap length e ∙ length-zeros mib

pub booted : (mib : ℕ) (image : List ℕ) (disk : DiskState) (size entry sectors : ℕ) (memory : Memory)
    (p : PlatformState) → size ≡ ram_size mib → elf_case size image ≡ None → entry ≡ entry_of image
    → memory.bytes ≡ boot_memory size image → sectors ≡ length disk.mine
    → p ≡ start_platform entry memory sectors
    → boot_state mib image disk ≡ Some (let s : State = record { platform = p; disk = disk } in s)
unfolding boot_state
booted mib image disk size entry sectors memory p sized none starts filled count is =
    let none_at : elf_case (ram_size mib) image ≡ None = ap (λ (n : ℕ). elf_case n image) (sym sized) ∙ none in
    let whole : ℕ → List ℕ → ℕ → PlatformState =
    λ (e : ℕ) (b : List ℕ) (n : ℕ). start_platform e (record { bytes = b }) n in
    let all : p ≡ whole (entry_of image) (boot_memory (ram_size mib) image) (length disk.mine) =
    is ∙ (ap (λ (e : ℕ). whole e memory.bytes sectors) starts
    ∙ (ap (λ (b : List ℕ). whole (entry_of image) b sectors) (filled ∙ ap (λ (n : ℕ). boot_memory n image) sized)
    ∙ ap (whole (entry_of image) (boot_memory (ram_size mib) image)) count)) in
    let of : PlatformState → Option State = λ q. Some (record { platform = q; disk = disk }) in
    rw none_at (ap of (sym all))
