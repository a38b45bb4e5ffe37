use Rattle.std.proofs.Common.{◌<◌, ◌^◌, ◌≤◌, length, rules, arith}
use Rattle.virt_queue.proofs.PartLemmas.{kind_same, kind_other, sum_with, sum_without, sum_end}
use Rattle.virt_queue.proofs.chain.Chain.total_len.Goals as goal

pub loop-k-init : goal.loop-k-init
loop-k-init c = record { sum = omega arith; small = omega arith }

pub loop-k-preserved-then-part-writable : goal.loop-k-preserved-then-part-writable
loop-k-preserved-then-part-writable c =
    let p = c.at-part.result in
    sum_without c.args.writable c.args.self.now.parts c.loop-k.k c.loop-k.total p c.loop-k.invariant c.at-part.ensures
    (kind_other c.args.writable p c.if-part-writable.true)

pub overflow_add-total : goal.overflow_add-total
overflow_add-total c =
    let small = c.loop-k.invariant.small in
    let most = c.len-k-end.ensures.most in
    let here = c.loop-k-test.true in
    let len : c.from-total.result < 2 ^ 32 = search rules in omega (arith, small, most, here)

pub loop-k-preserved : goal.loop-k-preserved
loop-k-preserved c =
    let p = c.at-part.result in
    let small : p.len < 2 ^ 32 = search rules in
    let next = sum_with c.args.writable c.args.self.now.parts c.loop-k.k c.loop-k.total p c.loop-k.invariant
    c.at-part.ensures
    (kind_same c.args.writable p c.if-part-writable.false) small in
    rw c.from-total.ensures next

pub returns : goal.returns
returns c =
    let end : length c.args.self.now.parts ≤ c.loop-k.k = omega arith in
    sum_end c.args.writable c.args.self.now.parts c.loop-k.k c.loop-k.total c.loop-k.invariant end
