use Rattle.std.proofs.Common.{◌≡◌, ℕ, ◌*◌, ◌<◌, length, get_or}
use Rattle.machine_bytes.specs.Reading.{number_at}
use Rattle.machine_bytes.proofs.reading.registers_of.Given as goal

-- the words below k are read
abbrev pub invariant-loop-k : goal.invariant-loop-k
invariant-loop-k l = (length l.x ≡ 31) × ((j : ℕ) → j < l.k → get_or l.x j 0 ≡ number_at 4 l.bytes (4 * j))
