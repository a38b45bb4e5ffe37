-- A restart: a checkpoint without released frames, and the SYN again under the old number.
use Rattle.std.specs.Prelude.{◌≡◌, List, [], ◌∷◌, ◌++◌, false, None, refl}
use Rattle.colo_base.specs.declared.fault.Cause.TheVariants.{Restart}
use Rattle.pair_theorem.specs.History.{pair_log}
use Rattle.replay_log.specs.declared.lines.Line.TheVariants.{ToSecondary, ToPrimary}
use Rattle.replay_log.specs.declared.records.Answer.TheVariants.{Made, Heard, HeardBack}
use Rattle.replay_log.specs.declared.records.Mark.TheVariants.{Captured, Committed, Acknowledged}
use Rattle.pair_theorem.proofs.OpeningRow.{opening_told}
use Rattle.pair_theorem.proofs.Told.{Told, told, plain, marked, releases, syn_out}
use Rattle.pair_theorem.proofs.WorkedFrames.{worked_start}
use Rattle.pair_theorem.proofs.WorkedSchedules.{primary, restart_lines}

abbrev pub restart_told : List Told
restart_told =
    opening_told
    ++ marked (primary 2) (Made None 0) (Captured 1 Restart ∷ [])
    ∷ plain ToSecondary (Heard 3 false)
    ∷ plain ToSecondary (Heard 4 false)
    ∷ plain ToSecondary (Heard 9 false)
    ∷ marked ToSecondary (Heard 11 false) (Committed 1 ∷ [])
    ∷ releases ToPrimary (HeardBack 14 0 1) (Acknowledged 1 ∷ []) (syn_out ∷ [])
    ∷ []

pub restart : told (pair_log worked_start restart_lines) ≡ restart_told
unfolding pair_log worked_start
restart = refl
