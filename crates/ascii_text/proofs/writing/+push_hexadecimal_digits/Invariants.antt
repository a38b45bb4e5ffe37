use Rattle.ascii_text.proofs.writing.+push_hexadecimal_digits.Given as goal

abbrev pub decreases-push_hexadecimal_digits : goal.decreases-push_hexadecimal_digits
decreases-push_hexadecimal_digits l = l.count
