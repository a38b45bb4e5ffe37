use Rattle.ascii_text.proofs.HexadecimalLemmas.{hexadecimal_again, eight_digits_again}
use Rattle.ascii_text.proofs.numbers.hexadecimal_is_read.Goals as goal

pub returns-clause-short : goal.returns-clause-short
returns-clause-short c = hexadecimal_again

pub returns-clause-eight : goal.returns-clause-eight
returns-clause-eight c = eight_digits_again
