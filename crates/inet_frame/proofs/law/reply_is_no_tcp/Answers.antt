use Rattle.inet_frame.proofs.FieldLemmas.{reply_no_tcp}
use Rattle.inet_frame.proofs.law.reply_is_no_tcp.Goals as goal

pub returns : goal.returns
returns c = reply_no_tcp
