-- The parts stand one after another.
use Rattle.input_maker.proofs.ClientLemmas.{ends_are, five_parts}
use Rattle.input_maker.proofs.client.exchange_ends.Goals as goal

pub returns : goal.returns
returns c =
    ends_are c.args.frame.now c.extend_from_slice-2.new.self.items
    (five_parts _ _ _ _ _ _ _ _ _ _ _ c.in_ok-other.ensures.items c.in_ok-push_swapped.ensures
    c.in_ok-extend_from_slice.ensures.items c.in_ok-push_swapped-2.ensures c.in_ok-push_swapped-3.ensures
    c.in_ok-extend_from_slice-2.ensures.items)
