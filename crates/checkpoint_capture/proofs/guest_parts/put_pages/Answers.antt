-- One page more.
use Rattle.std.proofs.Common.{[], ◌∷◌, ◌+◌, ◌<◌, length, take, get_or, arith}
use Rattle.colo_wire.specs.declared.messages.Message.TheVariants as message
use Rattle.checkpoint_form.specs.State.{page_messages}
use Rattle.checkpoint_capture.proofs.ListLemmas.{size_more}
use Rattle.checkpoint_capture.proofs.PutLemmas.{put_more}
use Rattle.checkpoint_capture.proofs.StateLemmas.{pages_more}
use Rattle.checkpoint_capture.proofs.guest_parts.put_pages.Goals as goal

pub loop-k-preserved : goal.loop-k-preserved
loop-k-preserved g c =
    let pages = (g.G.Guest.meaning c.args.guest.now).state.pages in
    let within : c.loop-k.k < length pages = omega (arith, c.loop-k-test.true, c.loop-k.invariant.2) in (
      put_more c.args.waits.now c.loop-k.waits c.put_page_of.new.waits (page_messages (take c.loop-k.k pages))
          (message.Page c.loop-k.k (get_or pages c.loop-k.k []) ∷ []) (page_messages (take (c.loop-k.k + 1) pages))
          c.loop-k.invariant.0 c.in_ok-put_page_of.ensures.put (pages_more pages c.loop-k.k within),
      size_more 4096 pages c.loop-k.k within c.loop-k.invariant.1 c.in_ok-put_page_of.ensures.size,
      c.loop-k.invariant.2,
    )
