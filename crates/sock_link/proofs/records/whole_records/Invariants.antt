use Rattle.std.proofs.Common.{◌-◌, ◌≤◌, length}
use Rattle.sock_link.specs.Stream.{frames_in}
use Rattle.sock_link.proofs.RecordLemmas.{IsRead}
use Rattle.sock_link.proofs.records.whole_records.Given as goal

abbrev pub invariant-loop-record : goal.invariant-loop-record
invariant-loop-record l =
    IsRead l.bytes (frames_in l.count l.bytes) l.size × (l.size ≤ length l.bytes) × (l.count ≤ l.size)

abbrev pub decreases-loop-record : goal.decreases-loop-record
decreases-loop-record l = length l.bytes - l.size
