-- The page that is written is the page that is set.
use Rattle.std.proofs.Common.{◌≡◌, ℕ, ◌+◌, ◌*◌, ◌/◌, ◌≤◌, length, refl, ap, subst, ◌∙◌, arith}
use Rattle.page_track.specs.Memory.{Memory, page_size, with_part}
use Rattle.rv_platform.specs.Step.{PlatformState}
use Rattle.shared_definitions.specs.Memory.{ram_base}
use Rattle.state_wire.specs.Guest.{with_page}
use Rattle.guest_machine.specs.Guest.{MachineParts, machine_meaning}
use Rattle.guest_machine.proofs.StateLemmas.{page_absent, page_loaded}
use Rattle.guest_machine.proofs.machine.MachineGuest.load_page.Goals as goal

pub returns-then-k-pages : goal.returns-then-k-pages
returns-then-k-pages g c =
    let p = c.self.inside.platform in
    let d = g.D.Disk.state c.self.inside.disk in
    let k = c.args.k in
    let page = c.args.bytes.now in
    let new = c.write_memory.new.self in
    let of : PlatformState → MachineParts = λ x. record {
      state = record { platform = x; disk = d };
      turned = c.self.inside.turned;
      spent = c.self.inside.spent;
    } in
    let size = ap (λ (m : Memory). length m.bytes) c.ram.ensures in
    let fits : (k + 1) * page_size ≤ length p.memory.bytes = omega (arith, size, c.pages.ensures, c.if-k-pages.true) in
    let at : ℕ → PlatformState = λ j. record p { memory = with_part p.memory (ram_base + j * page_size) page } in
    subst (λ (m : MachineParts). machine_meaning (of new) ≡ with_page (machine_meaning m) k page) c.self.view_is
    (page_loaded (of p) (of new) k page c.requires fits (c.write_memory.ensures.after ∙ ap at c.from.ensures) refl refl)

pub returns-else-k-pages : goal.returns-else-k-pages
returns-else-k-pages g c =
    let m = c.args.self.now in
    let memory = c.ram.ensures ∙ ap (λ (x : MachineParts). x.state.platform.memory) c.self.view_is in
    let size = ap (λ (x : Memory). length x.bytes) memory in
    let past : length m.state.platform.memory.bytes / page_size ≤ c.args.k =
    omega (arith, size, c.pages.ensures, c.if-k-pages.false) in
    page_absent m m c.args.k c.args.bytes.now past refl
