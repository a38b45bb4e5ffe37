use Rattle.std.proofs.Common.{true, false, sym, ◌∙◌, arith}
use Rattle.sock_link.proofs.HoldingLemmas.{Takes, after_piece, added_all, added_long, few_held}
use Rattle.sock_link.proofs.unframer.Unframer.take_in.Goals as goal
use Rattle.sock_link.proofs.unframer.Unframer.take_in.Goals.{Then-not-is_too_long, After-keep}

pub overflow_add-self-2 : goal.overflow_add-self-2
overflow_add-self-2 c =
    omega (
      arith,
      few_held c.self.inside c.self.invariant,
      c.whole_records-records.ensures.few,
      c.whole_records-records.ensures.within,
      c.after-rest.ensures.bound,
    )

-- no length above the limit has come
short : (c : Then-not-is_too_long) → let s = c.whole_records-records.result in
    Takes c.self.inside (after_piece c.self.inside c.args.piece.now c.add.new.self s.count s.size)
    c.args.piece.now false
short c =
    let s = c.whole_records-records in
    added_all c.self.inside c.add.new.self c.after-rest.result.now c.after-left.result.now
    c.args.piece.now s.result.count s.result.size c.self.invariant c.in_ok-add.ensures.ok c.after-rest.ensures.value
    c.after-left.ensures.value (record { split = s.ensures.split; size_is = s.ensures.size })
    (sym c.is_too_long.ensures ∙ c.if-not-is_too_long.true)

pub invariant_of-self-then-not-is_too_long : goal.invariant_of-self-then-not-is_too_long
invariant_of-self-then-not-is_too_long c =
    (short (goal.at.invariant_of-self-then-not-is_too_long c).Then-not-is_too_long).held

pub returns-then-not-is_too_long-clause-feeds : goal.returns-then-not-is_too_long-clause-feeds
returns-then-not-is_too_long-clause-feeds c =
    rw (← c.self.view_is) (short (goal.at.returns-then-not-is_too_long-clause-feeds c).Then-not-is_too_long).feeds

-- one has come
long : (c : After-keep) → let s = c.whole_records-records.result in
    Takes c.self.inside (after_piece c.self.inside c.args.piece.now c.keep.new.self s.count s.size)
    c.args.piece.now true
long c =
    let s = c.whole_records-records in
    added_long c.self.inside c.add.new.self c.keep.new.self c.after-rest.result.now c.after-left.result.now
    c.args.piece.now s.result.count s.result.size c.self.invariant c.in_ok-add.ensures.ok c.after-rest.ensures.value
    c.after-left.ensures.value c.keep.ensures (record { split = s.ensures.split; size_is = s.ensures.size })
    (sym c.is_too_long.ensures ∙ c.if-not-is_too_long.false)

pub invariant_of-self-2 : goal.invariant_of-self-2
invariant_of-self-2 c = (long (goal.at.invariant_of-self-2 c).After-keep).held

pub returns-clause-feeds : goal.returns-clause-feeds
returns-clause-feeds c = rw (← c.self.view_is) (long (goal.at.returns-clause-feeds c).After-keep).feeds

pub returns-clause-stuck : goal.returns-clause-stuck
returns-clause-stuck c = sym (long (goal.at.returns-clause-stuck c).After-keep).stuck
