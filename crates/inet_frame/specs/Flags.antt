-- The flags of a TCP header, by their bits (RFC 9293, 3.1).
use Rattle.std.specs.Prelude.{ℕ, Bool, not, ◌==◌, bit_and}

abbrev pub has_fin : ℕ → Bool
has_fin flags = not (bit_and flags 1 == 0)

abbrev pub has_syn : ℕ → Bool
has_syn flags = not (bit_and flags 2 == 0)

abbrev pub has_rst : ℕ → Bool
has_rst flags = not (bit_and flags 4 == 0)

abbrev pub has_psh : ℕ → Bool
has_psh flags = not (bit_and flags 8 == 0)

abbrev pub has_ack : ℕ → Bool
has_ack flags = not (bit_and flags 16 == 0)
