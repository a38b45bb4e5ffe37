use Rattle.serve_laws.proofs.FileLemmas.{sent_is_in_file}
use Rattle.serve_laws.proofs.sent_is_in_file.Goals as goal

pub returns : goal.returns
returns c = sent_is_in_file
