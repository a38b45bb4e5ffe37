-- One sector more.
use Rattle.std.proofs.Common.{◌+◌, ◌<◌, [], length, take, drop, get_or, arith}
use Rattle.std.specs.List.{concat}
use Rattle.shared_definitions.proofs.FactLemmas.{◌&◌}
use Rattle.checkpoint_capture.proofs.PutLemmas.{put_more}
use Rattle.checkpoint_capture.proofs.StateLemmas.{sectors_more, sizes_more}
use Rattle.checkpoint_capture.proofs.guest_parts.gather.Goals as goal

pub loop-i-preserved : goal.loop-i-preserved
loop-i-preserved g c =
    let sectors = (g.G.Guest.meaning c.args.guest.now).state.sectors in
    let within : c.args.first + c.loop-i.i < length sectors =
    omega (arith, c.loop-i-test.true, c.requires.within) in
    put_more c.args.bytes.now.items c.loop-i.bytes.items c.append_sector.new.bytes.items
    (concat (take c.loop-i.i (drop c.args.first sectors))) (get_or sectors (c.args.first + c.loop-i.i) [])
    (concat (take (c.loop-i.i + 1) (drop c.args.first sectors)))
    c.loop-i.invariant.0 c.in_ok-append_sector.ensures.bytes (sectors_more sectors c.args.first c.loop-i.i within)
    & sizes_more sectors c.args.first c.loop-i.i within c.loop-i.invariant.1 c.in_ok-append_sector.ensures.size
