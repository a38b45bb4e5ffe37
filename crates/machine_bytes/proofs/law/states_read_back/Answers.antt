use Rattle.machine_bytes.proofs.LawLemmas.{reads_back, are_accepted, are_legal_fields, writes_back}
use Rattle.machine_bytes.proofs.law.states_read_back.Goals as goal

pub returns-clause-reads : goal.returns-clause-reads
returns-clause-reads c = reads_back

pub returns-clause-accepted : goal.returns-clause-accepted
returns-clause-accepted c = are_accepted

pub returns-clause-legal : goal.returns-clause-legal
returns-clause-legal c = are_legal_fields

pub returns-clause-writes : goal.returns-clause-writes
returns-clause-writes c = writes_back
