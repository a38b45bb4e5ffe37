use Rattle.std.proofs.Common.{List, ℕ, length, ap, ◌∙◌}
use Rattle.page_track.specs.Memory.{Memory}
use Rattle.page_track.specs.Lending.{with_lent}
use Rattle.page_track.proofs.LendingLemmas.{write_whole}
use Rattle.page_track.proofs.MemoryLemmas.{length-with_part}
use Rattle.page_track.proofs.ram.Ram.write.Goals as goal

pub returns : goal.returns
returns c =
    let old = c.args.self.now in
    let part = c.args.bytes.now in
    let after = ap (with_lent old c.args.addr) c.copy_from_slice.ensures.after
    ∙ ap (λ (bytes : List ℕ). let memory : Memory = record { bytes = bytes } in memory)
    (write_whole old.bytes c.args.addr part c.requires) in
    record {
      after = after;
      size = ap (λ (m : Memory). length m.bytes) after ∙ length-with_part old c.args.addr part c.requires;
    }
