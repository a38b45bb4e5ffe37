-- One sector more of the request.
use Rattle.std.proofs.Common.{◌≡◌, ℕ, ◌+◌, ◌*◌, List, ◌++◌, take, drop, ap, ◌∙◌, arith, length}
use Rattle.virt_queue.specs.Parts.{readable, total_len}
use Rattle.virtio_blk.specs.Request.{request_bytes}
use Rattle.virtio_blk.proofs.SectorLemmas.{length-request, written_none, written_more}
use Rattle.virtio_blk.proofs.request.write_sectors.Goals as goal

pub loop-k-init : goal.loop-k-init
loop-k-init g c = written_none (g.D.Disk.state c.args.disk.now) _ c.args.sector

pub loop-k-preserved : goal.loop-k-preserved
loop-k-preserved g c =
    let request : List ℕ = request_bytes c.args.ram.now c.args.chain.now in
    let size : length request ≡ total_len (readable c.args.chain.now.parts) =
    length-request c.args.ram.now.bytes c.args.chain.now.parts c.requires.inside in
    written_more _ _ _ request c.loop-k.bytes c.read.new.into _ c.loop-k.k c.read.result c.loop-k.invariant
    c.from.array_long (omega (arith, size, c.requires.room))
    (c.read.ensures.count
    ∙ ap (λ n. length (take (length c.loop-k.bytes) (drop (16 + n * 512) request))) c.from.ensures)
    (c.read.ensures.bytes
    ∙ ap (λ n. take (length c.loop-k.bytes) (drop (16 + n * 512) request) ++ drop c.read.result c.loop-k.bytes)
    c.from.ensures)
    c.write_sector.ensures
