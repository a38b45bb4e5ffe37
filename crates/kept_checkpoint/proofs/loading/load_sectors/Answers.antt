use Rattle.std.proofs.Common.{◌∙◌, arith}
use Rattle.kept_checkpoint.proofs.SlotLemmas.{sectors_done, sectors_more}
use Rattle.kept_checkpoint.proofs.loading.load_sectors.Goals as goal

pub loop-k-preserved : goal.loop-k-preserved
loop-k-preserved g c =
    c.load_sector.ensures
    ∙ sectors_more (g.G.Guest.meaning c.loop-k.guest) (g.G.Guest.meaning c.args.guest.now) c.args.sectors.now c.loop-k.k
    c.loop-k.invariant

pub returns : goal.returns
returns g c =
    sectors_done (g.G.Guest.meaning c.loop-k.guest) (g.G.Guest.meaning c.args.guest.now) c.args.sectors.now c.loop-k.k
    c.loop-k.invariant (omega (arith, c.loop-k-test.false, c.loop-k.auto.k-end, c.sectors-k-end.ensures.state))
