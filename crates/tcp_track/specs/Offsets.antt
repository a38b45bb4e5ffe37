-- Sequence numbers, which are counted modulo 2^32 (RFC 9293, 3.4).
use Rattle.std.specs.Prelude.{ℕ, ◌+◌, ◌-◌, ◌%◌, ◌^◌}

-- how far a sequence number is after another
abbrev pub distance : ℕ → ℕ → ℕ
distance from to = (to + 2 ^ 32 - from) % 2 ^ 32
