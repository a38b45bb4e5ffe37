use Rattle.std.proofs.Common.{◌∙◌, arith}
use Rattle.kept_checkpoint.proofs.SlotLemmas.{pages_done, pages_more}
use Rattle.kept_checkpoint.proofs.loading.load_pages.Goals as goal

pub loop-k-preserved : goal.loop-k-preserved
loop-k-preserved g c =
    c.load_page.ensures
    ∙ pages_more (g.G.Guest.meaning c.loop-k.guest) (g.G.Guest.meaning c.args.guest.now) c.args.pages.now c.loop-k.k
    c.loop-k.invariant

pub returns : goal.returns
returns g c =
    pages_done (g.G.Guest.meaning c.loop-k.guest) (g.G.Guest.meaning c.args.guest.now) c.args.pages.now c.loop-k.k
    c.loop-k.invariant (omega (arith, c.loop-k-test.false, c.loop-k.auto.k-end, c.pages-k-end.ensures.state))
