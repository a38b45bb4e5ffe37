use Rattle.inet_build.proofs.LawLemmas.{clean_keeps, shift_keeps, reply_bytes_are}
use Rattle.inet_build.proofs.CleanLemmas.{AreBytes-clean_syn}
use Rattle.inet_build.proofs.EditLemmas.{AreBytes-shift_ack}
use Rattle.inet_build.proofs.law.edits_keep_the_rest.Goals as goal

pub returns-clause-clean : goal.returns-clause-clean
returns-clause-clean c = clean_keeps

pub returns-clause-clean_bytes : goal.returns-clause-clean_bytes
returns-clause-clean_bytes c = AreBytes-clean_syn

pub returns-clause-shift : goal.returns-clause-shift
returns-clause-shift c = shift_keeps

pub returns-clause-shift_bytes : goal.returns-clause-shift_bytes
returns-clause-shift_bytes c = AreBytes-shift_ack

pub returns-clause-reply_bytes : goal.returns-clause-reply_bytes
returns-clause-reply_bytes c = reply_bytes_are
