-- Why a checkpoint starts, as it is told.
use Rattle.std.specs.Prelude.{Option, None, Some}
use Rattle.colo_base.specs.declared.fault.Cause.{Cause}
use Rattle.colo_base.specs.declared.fault.Cause.TheVariants as cause
use Rattle.settle_table.specs.declared.causes.Need.{Need}
use Rattle.settle_table.specs.declared.causes.Need.TheVariants.{Nothing, Differ, Restart, Wait}

abbrev pub cause_of : Need → Option Cause
cause_of Nothing = None
cause_of (Differ tuple offset) = Some cause.Differ
cause_of (Restart tuple) = Some cause.Restart
cause_of (Wait tuple) = Some cause.Wait
