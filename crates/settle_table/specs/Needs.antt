-- When a checkpoint starts: the first of three causes that holds after the settling, with the first
-- tuple that has it.
use Rattle.std.specs.Prelude.{ℕ, Bool, false, ◌==◌, if◌then◌else◌, List, [], ◌∷◌, find, Option, None, Some}
use Rattle.inet_frame.specs.declared.tuple.Tuple.{Tuple}
use Rattle.tcp_track.specs.LineFields.{LineFields}
use Rattle.tcp_track.specs.Tracking.{line_at}
use Rattle.settle_rules.specs.Matching.{differs_at, matched_end}
use Rattle.settle_rules.specs.Progress.{ProgressTable, longest_wait}
use Rattle.settle_table.specs.Kept.{KeptScene, both_kept, is_restarted, tuples_of}
use Rattle.settle_table.specs.Table.{progress_at}
use Rattle.settle_table.specs.declared.causes.Need.{Need}
use Rattle.settle_table.specs.declared.causes.Need.TheVariants.{Nothing, Differ, Restart, Wait}

-- where a line and the other's are matched up to
unfoldable pub matched_at : KeptScene → ProgressTable → Tuple → LineFields → ℕ
unfolding both_kept
matched_at scene progress t l = matched_end (both_kept scene t l) (progress_at progress t).edge

unfoldable pub line_differs : KeptScene → ProgressTable → Tuple → LineFields → Bool
unfolding both_kept matched_at
line_differs scene progress t l = differs_at (both_kept scene t l) (matched_at scene progress t l)

-- the offset of a difference, where there is one
abbrev pub difference_in : KeptScene → ProgressTable → Tuple → Option LineFields → Option ℕ
difference_in scene progress t None = None
difference_in scene progress t (Some l) =
    if line_differs scene progress t l then Some (matched_at scene progress t l) else None

abbrev pub differ_or : Tuple → Option ℕ → Option Need → Option Need
differ_or t None others = others
differ_or t (Some offset) others = Some (Differ t offset)

-- the first tuple in table order of which the lines differ; one restarted in the event counts too
abbrev pub first_differ : KeptScene → ProgressTable → List Tuple → Option Need
first_differ scene progress [] = None
first_differ scene progress (t ∷ tuples) =
    differ_or t (difference_in scene progress t (line_at scene.mine t))
    (first_differ scene progress tuples)

-- the first restarted tuple in table order; where none of them is in the table, the first of all
abbrev pub restart_among : List Tuple → Option Tuple → Option Need
restart_among [] found = None
restart_among (t ∷ restarts) None = Some (Restart t)
restart_among (t ∷ restarts) (Some u) = Some (Restart u)

abbrev pub first_restart : KeptScene → Option Need
first_restart scene =
    restart_among scene.restarts (find (is_restarted scene) (tuples_of scene.mine))

-- the connection has been unmatched for as long as it may be
abbrev pub has_waited : ProgressTable → Tuple → Bool
has_waited progress t = (progress_at progress t).age == longest_wait

abbrev pub wait_of : Option Tuple → Need
wait_of None = Nothing
wait_of (Some t) = Wait t

abbrev pub first_wait : KeptScene → ProgressTable → Need
first_wait scene progress = wait_of (find (has_waited progress) (tuples_of scene.mine))

abbrev pub first_need : Option Need → Option Need → Need → Need
first_need (Some differ) restart wait = differ
first_need None (Some restart) wait = restart
first_need None None wait = wait

-- a node alone needs none
unfoldable pub need_of : KeptScene → ProgressTable → Need
unfolding line_differs matched_at
need_of scene progress =
    if scene.is_alone then Nothing
    else first_need (first_differ scene progress (tuples_of scene.mine)) (first_restart scene)
    (first_wait scene progress)
