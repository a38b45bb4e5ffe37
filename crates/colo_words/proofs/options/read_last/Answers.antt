-- The option is given again, or this is its number.
use Rattle.colo_words.specs.Options.{row_of}
use Rattle.colo_words.specs.Words.{texts}
use Rattle.colo_words.proofs.OptionLemmas.{given, not_given}
use Rattle.colo_words.proofs.options.read_last.Goals as goal

pub returns-then-is_given-clause-value : goal.returns-then-is_given-clause-value
returns-then-is_given-clause-value c =
    given (row_of c.args.opt) c.args.number.now (texts c.args.rest.now) c.word.result.now c.is_given.result
    c.word.ensures c.is_given.ensures c.if-is_given.true

pub returns-clause-value : goal.returns-clause-value
returns-clause-value c =
    not_given (row_of c.args.opt) c.args.number.now (texts c.args.rest.now) c.word.result.now c.is_given.result
    c.word.ensures c.is_given.ensures c.if-is_given.false c.number.result c.number.ensures.value
