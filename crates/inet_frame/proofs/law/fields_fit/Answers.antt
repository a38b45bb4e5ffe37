use Rattle.inet_frame.proofs.FieldLemmas.{in_range, length_fits}
use Rattle.inet_frame.proofs.law.fields_fit.Goals as goal

pub returns-clause-fields : goal.returns-clause-fields
returns-clause-fields c = in_range

pub returns-clause-len : goal.returns-clause-len
returns-clause-len c = length_fits
