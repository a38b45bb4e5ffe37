-- The Internet checksum (RFC 1071).
use Rattle.std.specs.Prelude.{ℕ, ◌+◌, ◌-◌, ◌*◌, List, [], ◌∷◌, fold, nat_lt, if◌then◌else◌}

-- the one's complement sum of two 16-bit words: a carry out of the top bit comes back in at the
-- lowest (RFC 1071, 1 and 2)
abbrev pub ones_add : ℕ → ℕ → ℕ
ones_add a b = if nat_lt (a + b) 65536 then a + b else a + b - 65535

-- adjacent bytes are paired to 16-bit words, and an odd last byte is filled by a zero byte (RFC
-- 1071, 1)
abbrev pub words : List ℕ → List ℕ
words [] = []
words (high ∷ []) = (high * 256) ∷ []
words (high ∷ low ∷ bytes) = (high * 256 + low) ∷ words bytes

-- the one's complement sum of a start value and all words of some bytes
abbrev pub ones_sum : ℕ → List ℕ → ℕ
ones_sum start bytes = fold ones_add start (words bytes)

-- the sum of the words of the pseudo header that stands before a TCP segment or a UDP datagram: the
-- eight bytes of both addresses, a zero byte and the protocol, and the length (RFC 9293, 3.1; RFC
-- 768)
abbrev pub pseudo_sum : List ℕ → ℕ → ℕ → ℕ
pseudo_sum addresses protocol len = ones_add (ones_add (ones_sum 0 addresses) protocol) len
