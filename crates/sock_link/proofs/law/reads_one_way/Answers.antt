use Rattle.sock_link.proofs.HistoryLemmas.{is_read_once}
use Rattle.sock_link.proofs.law.reads_one_way.Goals as goal

pub returns : goal.returns
returns c = is_read_once
