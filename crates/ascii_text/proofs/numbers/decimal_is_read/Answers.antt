use Rattle.std.proofs.Common.{refl}
use Rattle.ascii_text.proofs.DecimalLemmas.{decimal_each, decimal_written}
use Rattle.ascii_text.proofs.numbers.decimal_is_read.Goals as goal

pub returns-clause-read : goal.returns-clause-read
returns-clause-read c = λ most n low small. decimal_each most _ n small low refl

pub returns-clause-written : goal.returns-clause-written
returns-clause-written c = decimal_written
