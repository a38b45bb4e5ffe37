use Rattle.std.proofs.Common.{◌≡◌, ◌≤◌, ◌<◌, ◌+◌, true, false, refl, sym, ◌∙◌, arith}
use Rattle.std.proofs.lemmas.Result.{err_from_is_err_and}
use Rattle.virt_queue.specs.Ring.{has_next}
use Rattle.virt_queue.proofs.ChainLemmas.{walk_begins, walk_goes_on, walk_ends, walk_fails, walk_is_bounded, few_parts, push_part}
use Rattle.virt_queue.proofs.RingLemmas.{read_inside}
use Rattle.virt_queue.proofs.QueueLemmas.{queue_size-le}
use Rattle.virt_queue.proofs.walk.walk.Goals as goal

pub loop-k-init : goal.loop-k-init
loop-k-init c =
    walk_begins _ _ _ _ c.head_of-head.ensures (c.begin.ensures.head ∙ c.head_of-head.ensures) c.begin.ensures.parts

pub returns-in_err-d-clause-read : goal.returns-in_err-d-clause-read
returns-in_err-d-clause-read c =
    let failed = walk_fails c.args.ram.now.bytes c.args.q.now c.loop-k.k c.loop-k.index c.loop-k.after c.loop-k.chain
    c.in_err-d.field-0.0 (omega arith) c.loop-k.invariant c.in_err-d.ensures.answer in
    let p = err_from_is_err_and c.from_residual.result c.from_residual.ensures.1 in rw (p.1, p.2) (rw failed refl)

pub push-requires : goal.push-requires
push-requires c =
    let place : c.loop-k.k < c.args.q.now.num = c.in_ok-d.ensures.place in
    let most : c.args.q.now.num ≤ 256 = queue_size-le c.args.q.now.num c.requires.size in
    let count = few_parts c.args.ram.now.bytes c.args.q.now c.loop-k.k c.loop-k.chain.parts c.loop-k.invariant.parts in
    omega arith

pub returns-then-not-has_next : goal.returns-then-not-has_next
returns-then-not-has_next c =
    let bytes = c.args.ram.now.bytes in
    let q = c.args.q.now in
    let d = c.in_ok-d.d in
    let end : has_next d ≡ false = sym c.has_next.ensures ∙ c.if-not-has_next.true in
    let parts = c.push.ensures.parts ∙ push_part c.loop-k.chain.parts d c.is_writable.result c.is_writable.ensures in
    let read = walk_ends bytes q c.loop-k.k c.loop-k.index c.loop-k.after c.loop-k.chain c.push.new.self d (omega
    arith) c.loop-k.invariant c.in_ok-d.ensures.answer.0 c.in_ok-d.ensures.answer.1 end c.push.ensures.head parts in
    record { read = rw read (refl, refl); inside = read_inside bytes q c.push.new.self read }

pub loop-k-preserved : goal.loop-k-preserved
loop-k-preserved c =
    let d = c.in_ok-d.d in
    let more : has_next d ≡ true = sym c.has_next.ensures ∙ c.if-not-has_next.false in
    let parts = c.push.ensures.parts ∙ push_part c.loop-k.chain.parts d c.is_writable.result c.is_writable.ensures in
    let next = walk_goes_on c.args.ram.now.bytes c.args.q.now c.loop-k.k c.loop-k.index c.loop-k.after c.loop-k.chain
    c.push.new.self d c.loop-k.invariant c.in_ok-d.ensures.answer.0 c.in_ok-d.ensures.answer.1 more
    c.push.ensures.head parts in
    record {
      index_is = c.from-index.ensures ∙ next.index_is;
      after_is = c.is_writable-after.ensures ∙ next.after_is;
      passed = next.passed;
      head = next.head;
      parts = next.parts;
    }

pub returns-clause-read : goal.returns-clause-read
returns-clause-read c =
    let past : c.loop-k.k ≡ c.args.q.now.num + 1 = omega arith in
    absurd (walk_is_bounded c.args.ram.now.bytes c.args.q.now c.loop-k.index c.loop-k.after c.loop-k.chain
    (rw past at c.loop-k.invariant))
