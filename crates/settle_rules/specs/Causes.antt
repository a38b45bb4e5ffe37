-- When a checkpoint starts: the first of three causes that holds after the settling, and the first
-- tuple that has it.
use Rattle.std.specs.Prelude.{ℕ, Bool, not, ◌==◌, is_some, if◌then◌else◌, List, find, Option, None, Some}
use Rattle.colo_base.specs.declared.fault.Cause.{Cause}
use Rattle.colo_base.specs.declared.fault.Cause.TheVariants.{Differ, Restart, Wait}
use Rattle.inet_frame.specs.declared.tuple.Tuple.{Tuple}
use Rattle.settle_rules.specs.Matching.{differs_at, matched_end}
use Rattle.settle_rules.specs.Progress.{ProgressTable, progress_of, longest_wait}
use Rattle.settle_rules.specs.Settle.{Scene, both_lines, is_restarted, is_empty}

-- where the two lines of a tuple are matched up to, after the settling
unfoldable pub matched_end_of : Scene → ProgressTable → Tuple → ℕ
unfolding both_lines
matched_end_of scene progress t = matched_end (both_lines scene t) (progress_of t progress).edge

-- both lines have one client and two different symbols there; a tuple restarted in the event counts
-- too
unfoldable pub is_different : Scene → ProgressTable → Tuple → Bool
unfolding both_lines matched_end_of
is_different scene progress t =
    differs_at (both_lines scene t) (matched_end_of scene progress t)

abbrev pub has_waited : ProgressTable → Tuple → Bool
has_waited progress t = (progress_of t progress).age == longest_wait

-- the first tuple in table order that has the cause
unfoldable pub first_difference : Scene → List Tuple → ProgressTable → Option Tuple
unfolding is_different
first_difference scene tuples progress = find (is_different scene progress) tuples

abbrev pub first_restart : Scene → List Tuple → Option Tuple
first_restart scene tuples = find (is_restarted scene) tuples

abbrev pub first_wait : List Tuple → ProgressTable → Option Tuple
first_wait tuples progress = find (has_waited progress) tuples

-- a restart counts whether it was made or heard
unfoldable pub cause_of : Scene → List Tuple → ProgressTable → Option Cause
unfolding first_difference
cause_of scene tuples progress =
    if is_some (first_difference scene tuples progress) then Some Differ
    else (if not (is_empty scene.restarts) then Some Restart
    else (if is_some (first_wait tuples progress) then Some Wait
    else None))
