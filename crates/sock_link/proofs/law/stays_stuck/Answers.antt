use Rattle.sock_link.proofs.HistoryLemmas.{stays_stuck, stream_stays_stuck}
use Rattle.sock_link.proofs.law.stays_stuck.Goals as goal

pub returns-clause-unframer : goal.returns-clause-unframer
returns-clause-unframer c = stays_stuck

pub returns-clause-stream : goal.returns-clause-stream
returns-clause-stream c = stream_stays_stuck
