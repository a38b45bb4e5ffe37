-- Each call keeps the order.
use Rattle.tcp_track.proofs.OrderLemmas.{keeps_the_order}
use Rattle.tcp_track.proofs.law.keeps_order.Goals as goal

pub returns : goal.returns
returns c = keeps_the_order
