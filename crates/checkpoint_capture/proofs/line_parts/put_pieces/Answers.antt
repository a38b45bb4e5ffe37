-- One piece more.
use Rattle.std.proofs.Common.{[], ◌∷◌, ◌+◌}
use Rattle.settle_rules.specs.Pieces.{piece_at}
use Rattle.colo_wire.specs.declared.messages.Message.TheVariants as message
use Rattle.checkpoint_capture.proofs.PieceLemmas.{bytes_front, bytes_more}
use Rattle.checkpoint_capture.proofs.PutLemmas.{put_more}
use Rattle.checkpoint_capture.proofs.line_parts.put_pieces.Goals as goal

pub loop-k-preserved : goal.loop-k-preserved
loop-k-preserved c =
    put_more c.args.waits.now c.loop-k.waits c.put_piece.new.waits (bytes_front c.args.bytes.now c.loop-k.k)
    (message.Bytes (piece_at 65536 c.args.bytes.now c.loop-k.k) ∷ []) (bytes_front c.args.bytes.now (c.loop-k.k + 1))
    c.loop-k.invariant c.in_ok-put_piece.ensures (bytes_more c.args.bytes.now c.loop-k.k)
