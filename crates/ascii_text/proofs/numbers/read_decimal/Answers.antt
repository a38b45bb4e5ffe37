use Rattle.std.proofs.Common.{◌∙◌, arith}
use Rattle.ascii_text.proofs.DecimalLemmas.{written_result, decimal_each, decimal_large}
use Rattle.ascii_text.proofs.numbers.read_decimal.Goals as goal

pub returns-clause-written : goal.returns-clause-written
returns-clause-written c = written_result c.args.most c.args.text.now c.decimal_within.result
    (omega arith) c.decimal_within.ensures

pub returns-clause-each : goal.returns-clause-each
returns-clause-each c = λ n low e. c.decimal_within.ensures
    ∙ decimal_each c.args.most c.args.text.now n (omega arith) low e

pub returns-clause-large : goal.returns-clause-large
returns-clause-large c = λ n high small e. c.decimal_within.ensures
    ∙ decimal_large c.args.most c.args.text.now n small high e
