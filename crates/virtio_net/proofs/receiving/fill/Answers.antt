use Rattle.std.proofs.Common.{◌≡◌, ◌≤◌, ◌++◌, true, length, ap, ◌∙◌, arith}
use Rattle.std.proofs.lemmas.Bool.{le-leb}
use Rattle.virt_queue.specs.Parts.{writable, total_len, write_joined}
use Rattle.virt_queue.proofs.PartLemmas.{skip_none}
use Rattle.virtio_net.specs.Receive.{header, has_space}
use Rattle.virtio_net.proofs.receiving.fill.Goals as goal

pub returns-clause-memory : goal.returns-clause-memory
returns-clause-memory c =
    let all = header ++ c.args.frame.now in
    let parts = writable c.args.chain.now.parts in
    let fits : length all ≤ total_len parts = omega arith in
    let space : has_space c.args.chain.now c.args.frame.now ≡ true = le-leb (length all) (total_len parts) fits in
    let after = c.write.ensures.after ∙ (skip_none c.args.ram.now parts _
    ∙ ap (write_joined c.args.ram.now parts) c.with_header-bytes.ensures) in rw space after
