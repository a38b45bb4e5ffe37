use Rattle.std.proofs.Common.{◌≡◌, ℕ, ◌+◌, ◌-◌, ◌*◌, ap, arith, drop, take}
use Rattle.kept_checkpoint.proofs.slots.sector_at.Goals as goal

pub returns : goal.returns
returns c =
    let same : 512 * c.args.n + 512 - 512 * c.args.n ≡ 512 = omega arith in
    ap (λ (k : ℕ). take k (drop (512 * c.args.n) c.args.bytes.now)) same
