-- What hearing a part leaves and answers.
use Rattle.std.proofs.Common.{◌≡◌, ℕ, ap, ◌∙◌, false, None}
use Rattle.node_secondary.specs.Hearing.{hear_due, keep_part, told}
use Rattle.node_secondary.specs.Node.{Node, node_of}
use Rattle.node_secondary.specs.declared.under_way.UnderWay.{UnderWay}
use Rattle.node_secondary.proofs.HearingLemmas.{kept_loadable, other_heard, other_told}
use Rattle.node_secondary.proofs.node.Secondary.hear_part.Goals as goal

pub invariant_of-self-2 : goal.invariant_of-self-2
invariant_of-self-2 g c =
    let m = c.args.message.now in
    let old = c.self.inside in
    let kept : c.in_ok-self-inside.field-0 ≡ keep_part old.under_way m =
    cc (c.in_ok-self-inside.ensures, c.replace-under_way.ensures.value) in
    let kind = (g.G.Guest.meaning old.guest).kind in
    let after = kept_loadable kind old.under_way c.in_ok-self-inside.field-0 m kept c.self.invariant.1 in
    (c.self.invariant.0, after, c.self.invariant.2, c.self.invariant.3)

pub returns-clause-after : goal.returns-clause-after
returns-clause-after g c =
    let meaning = g.G.Guest.meaning in
    let m = c.args.message.now in
    let old = c.self.inside in
    let n : Node = record {
      guest = meaning old.guest;
      inbox = old.inbox;
      lines = old.lines;
      numbers = old.numbers;
      waits = old.waits;
      committed = old.committed;
      under_way = old.under_way;
    } in
    let kept : c.in_ok-self-inside.field-0 ≡ keep_part old.under_way m =
    cc (c.in_ok-self-inside.ensures, c.replace-under_way.ensures.value) in
    let heard : record n { under_way = c.in_ok-self-inside.field-0 } ≡ hear_due n m =
    ap (λ (u : UnderWay). record n { under_way = u }) kept ∙ other_heard n m c.requires.other in
    cc (heard, ap (λ h. hear_due (node_of meaning h) m) c.self.view_is)

pub returns-clause-told : goal.returns-clause-told
returns-clause-told g c =
    c.told.ensures
    ∙ (ap (λ (k : ℕ). told k false None) c.kind_number.ensures
    ∙ other_told (node_of g.G.Guest.meaning c.args.self.now) c.args.message.now c.requires.other)
