use Rattle.std.proofs.Common.{◌≡◌, ◌+◌, ◌-◌, ◌<◌, ◌≤◌, ℕ, min, length, take, drop, ◌++◌, ap, ◌∙◌, arith, rules}
use Rattle.virt_queue.proofs.PartLemmas.{part_inside, ends_inside, found_from, some_copied, copied_is, read_begins, read_other, read_past, read_here, read_count, read_whole}
use Rattle.virt_queue.proofs.chain.Chain.read.Goals as goal

pub loop-k-init : goal.loop-k-init
loop-k-init c = read_begins c.args.ram.now.bytes c.args.self.now.parts c.args.from c.args.into.now

pub loop-k-preserved-then-part : goal.loop-k-preserved-then-part
loop-k-preserved-then-part c =
    read_other c.args.ram.now.bytes c.args.self.now.parts c.args.from c.args.into.now c.loop-k.k c.loop-k.skip
    c.loop-k.filled
    c.loop-k.into c.at-part.result c.loop-k.invariant c.at-part.ensures c.if-part.true

pub loop-k-preserved-then-len-skip : goal.loop-k-preserved-then-len-skip
loop-k-preserved-then-len-skip c =
    let past : c.at-part.result.len ≤ c.loop-k.skip = omega arith in
    let next = read_past c.args.ram.now.bytes c.args.self.now.parts c.args.from c.args.into.now c.loop-k.k
    c.loop-k.skip c.loop-k.filled
    c.loop-k.into c.at-part.result c.requires c.loop-k.invariant c.at-part.ensures c.if-part.false past in
    rw c.from-len.ensures next

pub overflow_sub-into : goal.overflow_sub-into
overflow_sub-into c = omega (arith, c.loop-k.invariant.len, c.loop-k.invariant.within)

pub overflow_add-part : goal.overflow_add-part
overflow_add-part c =
    let p = c.at-part.result in
    let size = length c.args.ram.now.bytes in
    let in_memory = part_inside size c.args.self.now.parts c.loop-k.k p c.requires c.at-part.ensures in
    let lt : c.loop-k.skip < p.len = omega arith in
    let ends = ends_inside size p.addr p.len c.loop-k.skip in_memory lt in
    omega (arith, ends.0, ends.1, c.size-size.ensures.small, c.size-size.ensures.value)

pub unwrap-bytes-requires : goal.unwrap-bytes-requires
unwrap-bytes-requires c =
    let p = c.at-part.result in
    let lt : c.loop-k.skip < p.len = omega arith in
    let le : c.loop-k.skip + c.min-count.result ≤ p.len = omega (arith, c.min-count.ensures, c.from-len.ensures) in
    some_copied c.part.result _ (found_from c.args.ram.now.bytes c.args.self.now.parts c.loop-k.k p c.loop-k.skip
    c.min-count.result _ c.requires c.at-part.ensures lt le c.part.ensures)

pub slice_bounds-copy_from_slice-end : goal.slice_bounds-copy_from_slice-end
slice_bounds-copy_from_slice-end c =
    let room : c.loop-k.filled + c.min-count.result ≤ length c.loop-k.into =
    omega (arith, c.min-count.ensures, c.loop-k.invariant.len, c.loop-k.invariant.within) in
    search rules

pub loop-k-preserved : goal.loop-k-preserved
loop-k-preserved c =
    let p = c.at-part.result in
    let bytes = c.args.ram.now.bytes in
    let lt : c.loop-k.skip < p.len = omega arith in
    let le : c.loop-k.skip + c.min-count.result ≤ p.len = omega (arith, c.min-count.ensures, c.from-len.ensures) in
    let some = found_from bytes c.args.self.now.parts c.loop-k.k p c.loop-k.skip c.min-count.result _ c.requires
    c.at-part.ensures lt le c.part.ensures in
    let count = c.min-count.ensures
    ∙ ap (λ (n : ℕ). min (n - c.loop-k.skip) (length c.loop-k.into - c.loop-k.filled)) c.from-len.ensures in
    let part = copied_is c.part.result c.unwrap-bytes.result _ some c.unwrap-bytes.ensures in
    let width : c.loop-k.filled + c.min-count.result - c.loop-k.filled ≡ c.min-count.result = omega arith in
    let after = ap (λ (n : ℕ). take c.loop-k.filled c.loop-k.into
    ++ (c.copy_from_slice.new.self ++ drop n (drop c.loop-k.filled c.loop-k.into))) width in
    read_here bytes c.args.self.now.parts c.args.from c.args.into.now c.loop-k.k c.loop-k.skip c.loop-k.filled
    c.loop-k.into p
    c.min-count.result c.copy_from_slice.new.self _ c.requires c.loop-k.invariant c.at-part.ensures c.if-part.false lt
    count
    (c.copy_from_slice.ensures.after ∙ part) after

pub returns-clause-count : goal.returns-clause-count
returns-clause-count c =
    let end : length c.args.self.now.parts ≤ c.loop-k.k = omega arith in
    read_count c.args.ram.now.bytes c.args.self.now.parts c.args.from c.args.into.now c.loop-k.k c.loop-k.skip
    c.loop-k.filled c.loop-k.into
    c.loop-k.invariant end

pub returns-clause-bytes : goal.returns-clause-bytes
returns-clause-bytes c =
    let end : length c.args.self.now.parts ≤ c.loop-k.k = omega arith in
    read_whole c.args.ram.now.bytes c.args.self.now.parts c.args.from c.args.into.now c.loop-k.k c.loop-k.skip
    c.loop-k.filled c.loop-k.into
    c.loop-k.invariant end
