use Rattle.std.proofs.Common.{◌+◌, ap, sym, ◌∙◌, refl, subst, arith, length, length-set, Some}
use Rattle.kept_checkpoint.specs.Slots.{AreOfSize, Slots, put_part, sector_at, sector_size}
use Rattle.kept_checkpoint.proofs.SlotLemmas.{no_sectors, more_sectors, put_sized, sector_length}
use Rattle.kept_checkpoint.proofs.slots.Slots.put_sectors.Goals as goal

pub loop-n-init : goal.loop-n-init
loop-n-init c = record {
  places = refl;
  value = no_sectors c.args.first c.args.bytes.now c.args.self.now;
  sizes = λ h. h;
}

pub loop-n-preserved : goal.loop-n-preserved
loop-n-preserved c =
    let at = c.args.first + c.loop-n.n in
    let sector = sector_at c.args.bytes.now c.loop-n.n in
    let put = c.in_ok-put.ensures.ok ∙ ap (λ s. put_part c.loop-n.self at s) c.sector_at.ensures in
    record {
      places = ap length put ∙ (length-set c.loop-n.self at (Some sector) ∙ c.loop-n.invariant.places);
      value = put ∙ (ap (λ (s : Slots). put_part s at sector) c.loop-n.invariant.value
          ∙ sym (more_sectors c.args.first c.loop-n.n c.args.bytes.now c.args.self.now));
      sizes = λ h. subst (AreOfSize sector_size) (sym put)
          (put_sized sector_size c.loop-n.self at sector (c.loop-n.invariant.sizes h)
          (sector_length c.args.bytes.now c.loop-n.n (omega (arith, c.requires.whole, c.loop-n-test.true))));
    }
