use Rattle.std.proofs.Common.{ℕ, List, sym, ◌∙◌, ap, subst, refl}
use Rattle.sock_link.specs.Stream.{IsUnfinished}
use Rattle.sock_link.proofs.RecordLemmas.{whole_at}
use Rattle.sock_link.proofs.HoldingLemmas.{none_waits, one_waits, copied, gives_frame}
use Rattle.sock_link.proofs.unframer.Unframer.next_frame.Goals as goal

pub returns-in_default-clause-ok : goal.returns-in_default-clause-ok
returns-in_default-clause-ok c =
    let P : List ℕ → Type 0 = IsUnfinished in
    let unfinished = subst P c.as_slice-bytes.ensures c.in_default.ensures.none in
    (ap (λ u. u.frames) (sym c.self.view_is) ∙ none_waits c.self.inside c.self.invariant unfinished, refl)

pub overflow_sub-self : goal.overflow_sub-self
overflow_sub-self c =
    let u = c.self.inside in
    let bytes_is = c.as_slice-bytes.ensures in
    let w = whole_at c.as_slice-bytes.result.now u.backlog c.in-Some.size bytes_is c.in-Some.ensures.some in
    (one_waits u c.in-Some.size c.self.invariant w.0 w.1).within

pub invariant_of-self : goal.invariant_of-self
invariant_of-self c =
    let u = c.self.inside in
    let bytes_is = c.as_slice-bytes.ensures in
    let w = whole_at c.as_slice-bytes.result.now u.backlog c.in-Some.size bytes_is c.in-Some.ensures.some in
    rw c.skip.ensures (one_waits u c.in-Some.size c.self.invariant w.0 w.1).held

pub returns-clause-ok : goal.returns-clause-ok
returns-clause-ok c =
    let u = c.self.inside in
    let bytes_is = c.as_slice-bytes.ensures in
    let w = whole_at c.as_slice-bytes.result.now u.backlog c.in-Some.size bytes_is c.in-Some.ensures.some in
    let g = one_waits u c.in-Some.size c.self.invariant w.0 w.1 in
    let frame = c.in_ok-frame.frame.items in
    let frame_is =
    copied u.backlog c.as_slice-bytes.result.now frame c.in-Some.size bytes_is w.1 c.in_ok-frame.ensures.items in
    rw (← c.self.view_is)
    (gives_frame u c.skip.new.self frame c.in-Some.size g c.skip.ensures frame_is)
