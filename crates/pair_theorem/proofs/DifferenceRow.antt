-- A difference, its checkpoint, and what goes out at the acknowledgement.
use Rattle.std.specs.Prelude.{◌≡◌, List, [], ◌∷◌, ◌++◌, false, None, refl}
use Rattle.colo_base.specs.declared.fault.Cause.TheVariants.{Differ}
use Rattle.pair_theorem.specs.History.{pair_log}
use Rattle.replay_log.specs.declared.lines.Line.TheVariants.{ToSecondary, ToPrimary}
use Rattle.replay_log.specs.declared.records.Answer.TheVariants.{Made, Nothing, Heard, HeardBack}
use Rattle.replay_log.specs.declared.records.Mark.TheVariants.{Captured, Committed, Acknowledged}
use Rattle.pair_theorem.proofs.OpeningRow.{opening_told}
use Rattle.pair_theorem.proofs.Told.{Told, told, plain, marked, releases, data_out}
use Rattle.pair_theorem.proofs.WorkedFrames.{worked_start}
use Rattle.pair_theorem.proofs.WorkedSchedules.{primary, secondary, difference_lines}

abbrev pub captured_told : List Told
captured_told =
    opening_told
    ++ plain (primary 6) (Made None 0)
    ∷ plain (secondary 7) (Made None 0)
    ∷ releases ToPrimary (HeardBack 13 2 1) (Captured 1 Differ ∷ []) (data_out 5001 (97 ∷ 98 ∷ []) ∷ [])
    ∷ plain (primary 1) Nothing
    ∷ plain ToSecondary (Heard 3 false)
    ∷ plain ToSecondary (Heard 4 false)
    ∷ plain ToSecondary (Heard 9 false)
    ∷ plain ToSecondary (Heard 10 false)
    ∷ []

abbrev pub difference_told : List Told
difference_told =
    captured_told
    ++ marked ToSecondary (Heard 11 false) (Committed 1 ∷ [])
    ∷ releases ToPrimary (HeardBack 14 0 1) (Acknowledged 1 ∷ []) (data_out 5003 (99 ∷ []) ∷ [])
    ∷ []

pub difference : told (pair_log worked_start difference_lines) ≡ difference_told
unfolding pair_log worked_start
difference = refl
