-- Progress with the turn since which a connection waits, in the place of its age: one turn more
-- changes nothing of what is stored.
use Rattle.std.specs.Prelude.{◌≡◌, ℕ, ◌+◌, ◌-◌, ◌<◌, Bool, true, min, nat_lt, ◌&&◌, ◌==◌, if◌then◌else◌, List, map}
use Rattle.inet_frame.specs.declared.tuple.Tuple.{Tuple}
use Rattle.settle_rules.specs.Progress.{Progress, ProgressTable, longest_wait}
use Rattle.settle_touched.specs.declared.stored.Stored.{Stored}

abbrev pub StoredTable : Type 0
StoredTable = List (Tuple × Stored)

-- the age after so many turns: the stored one says only whether the connection waits
abbrev pub age_now : ℕ → Stored → ℕ
age_now turns s = if nat_lt 0 s.progress.age then min (turns - s.since) (longest_wait + 1) else 0

abbrev pub progress_now : ℕ → Stored → Progress
progress_now turns s = record s.progress { age = age_now turns s }

abbrev pub table_now : ℕ → StoredTable → ProgressTable
table_now turns table = map (λ (x : Tuple × Stored). (x.0, progress_now turns x.1)) table

abbrev pub turns_after : Bool → ℕ → ℕ
turns_after is_turn turns = if is_turn then turns + 1 else turns

-- what is stored of a connection whose settling left this progress: it waits since this turn where
-- its age begins anew
abbrev pub stored_after : Bool → ℕ → Stored → Progress → Stored
stored_after is_turn turns s p =
    record s { progress = p; since = if is_turn && p.age == 1 then turns else s.since }

-- one that waits does so since an earlier turn
abbrev pub IsSince : ℕ → Stored → Type 0
IsSince turns s = nat_lt 0 s.progress.age ≡ true → s.since < turns
