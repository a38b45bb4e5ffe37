use Rattle.virtio_net.proofs.NotifyLemmas.{notify_sends}
use Rattle.virtio_net.proofs.sending.sends_chains_in_order.Goals as goal

pub returns : goal.returns
returns c = notify_sends
