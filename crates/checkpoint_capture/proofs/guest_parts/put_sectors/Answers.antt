-- One piece more, and in the end all.
use Rattle.std.proofs.Common.{[], ◌∷◌, ◌+◌}
use Rattle.settle_rules.specs.Pieces.{piece_at}
use Rattle.checkpoint_form.specs.State.{disk_message}
use Rattle.checkpoint_capture.proofs.PutLemmas.{put_more}
use Rattle.checkpoint_capture.proofs.StateLemmas.{disk_front, disk_more, piece_more}
use Rattle.checkpoint_capture.proofs.guest_parts.put_sectors.Goals as goal

pub loop-k-preserved : goal.loop-k-preserved
loop-k-preserved g c =
    let sectors = (g.G.Guest.meaning c.args.guest.now).state.sectors in (
      put_more c.args.waits.now c.loop-k.waits c.put_sectors_of.new.waits (disk_front sectors c.loop-k.k)
          (disk_message (c.loop-k.k, piece_at 128 sectors c.loop-k.k) ∷ []) (disk_front sectors (c.loop-k.k + 1))
          c.loop-k.invariant.0 c.in_ok-put_sectors_of.ensures.put (disk_more sectors c.loop-k.k),
      piece_more sectors c.loop-k.k c.loop-k.invariant.1 c.in_ok-put_sectors_of.ensures.sizes,
    )
