use Rattle.std.proofs.Common.{◌≡◌, ◌+◌, ◌-◌, ◌<◌, ◌≤◌, ℕ, min, length, refl, ap, ◌∙◌, arith}
use Rattle.std.proofs.lemmas.Bool.{not-true, not-false}
use Rattle.page_track.specs.Memory.{with_part}
use Rattle.virt_queue.proofs.PartLemmas.{part_inside, ends_inside, inside_within, write_other, write_past, write_here, write_all}
use Rattle.virt_queue.proofs.chain.Chain.write.Goals as goal

pub loop-k-init : goal.loop-k-init
loop-k-init c = record { after = refl; size = refl }

pub loop-k-preserved-then-not-part : goal.loop-k-preserved-then-not-part
loop-k-preserved-then-not-part c =
    write_other _ c.args.self.now.parts c.args.from c.args.bytes.now c.loop-k.k c.loop-k.ram c.loop-k.skip
    c.loop-k.rest.now
    c.at-part.result c.loop-k.invariant c.at-part.ensures (not-true _ c.if-not-part.true)

pub loop-k-preserved-then-len-skip : goal.loop-k-preserved-then-len-skip
loop-k-preserved-then-len-skip c =
    let past : c.at-part.result.len ≤ c.loop-k.skip = omega arith in
    let next = write_past _ c.args.self.now.parts c.args.from c.args.bytes.now c.loop-k.k c.loop-k.ram c.loop-k.skip
    c.loop-k.rest.now
    c.at-part.result c.loop-k.invariant c.at-part.ensures (not-false _ c.if-not-part.false) past in
    rw c.from-len.ensures next

pub overflow_add-part : goal.overflow_add-part
overflow_add-part c =
    let p = c.at-part.result in
    let in_memory = part_inside (length c.args.ram.now.bytes) c.args.self.now.parts c.loop-k.k p c.requires
    c.at-part.ensures in
    let lt : c.loop-k.skip < p.len = omega arith in
    let ends = ends_inside (length c.args.ram.now.bytes) p.addr p.len c.loop-k.skip in_memory lt in
    omega (arith, ends.0, ends.1, c.size-size.ensures.small, c.size-size.ensures.value)

pub write-requires : goal.write-requires
write-requires c =
    let p = c.at-part.result in
    let size = length c.args.ram.now.bytes in
    let same = c.loop-k.invariant.size in
    let in_memory = part_inside size c.args.self.now.parts c.loop-k.k p c.requires c.at-part.ensures in
    let lt : c.loop-k.skip < p.len = omega arith in
    let n : length c.split_at.result.0.now ≡ c.min-count.result = c.split_at.ensures.front_len in
    let le : c.loop-k.skip + length c.split_at.result.0.now ≤ p.len = omega (
      arith,
      n,
      c.min-count.ensures,
      c.from-len.ensures,
    ) in
    rw same (inside_within size p.addr p.len c.loop-k.skip (length c.split_at.result.0.now) in_memory lt le)

pub loop-k-preserved : goal.loop-k-preserved
loop-k-preserved c =
    let p = c.at-part.result in
    let lt : c.loop-k.skip < p.len = omega arith in
    let count = c.min-count.ensures
    ∙ ap (λ (n : ℕ). min (n - c.loop-k.skip) (length c.loop-k.rest.now)) c.from-len.ensures in
    let is = c.write.ensures.after ∙ ap (with_part c.loop-k.ram (p.addr + c.loop-k.skip)) c.split_at.ensures.front in
    let next = write_here _ c.args.self.now.parts c.args.from c.args.bytes.now c.loop-k.k c.loop-k.ram c.loop-k.skip
    c.loop-k.rest.now
    p c.min-count.result c.write.new.self c.loop-k.invariant c.at-part.ensures (not-false _ c.if-not-part.false) lt
    count is c.write.ensures.size in
    rw c.split_at.ensures.back next

pub returns-clause-after : goal.returns-clause-after
returns-clause-after c =
    let end : length c.args.self.now.parts ≤ c.loop-k.k = omega arith in
    write_all _ c.args.self.now.parts c.args.from c.args.bytes.now c.loop-k.k c.loop-k.ram c.loop-k.skip
    c.loop-k.rest.now c.loop-k.invariant end

pub returns-clause-size : goal.returns-clause-size
returns-clause-size c = c.loop-k.invariant.size
