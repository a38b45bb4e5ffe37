-- Each worked example names one run: all nine parts hold of its log.
use Rattle.std.specs.Prelude.{◌≡◌, true, List, refl}
use Rattle.pair_theorem.specs.History.{pair_log}
use Rattle.pair_theorem.specs.Past.{Step}
use Rattle.pair_theorem.proofs.Breaking.{OneRun, one_run_from, passes_all}
use Rattle.pair_theorem.proofs.TrimRows.{ack_start}
use Rattle.pair_theorem.proofs.WorkedFrames.{worked_start}
use Rattle.pair_theorem.proofs.WorkedSchedules.{two_cuts_lines, difference_lines, failover_lines, stop_before_end_lines, stop_after_end_lines, end_after_stop_lines, restart_lines, given_lines, trimmed_lines, unknown_lines, lone_primary_lines}

-- the opening and two cuts
unfoldable pub two_cuts_steps : List Step
unfolding pair_log worked_start
two_cuts_steps = pair_log worked_start two_cuts_lines

two_cuts_log : two_cuts_steps ≡ pair_log worked_start two_cuts_lines
unfolding two_cuts_steps
two_cuts_log = refl

two_cuts_passes : passes_all worked_start two_cuts_steps ≡ true
unfolding two_cuts_steps passes_all
two_cuts_passes = refl

pub two_cuts_is_one_run : OneRun worked_start two_cuts_lines two_cuts_steps
two_cuts_is_one_run = one_run_from worked_start two_cuts_lines two_cuts_steps two_cuts_log two_cuts_passes

-- a difference
unfoldable pub difference_steps : List Step
unfolding pair_log worked_start
difference_steps = pair_log worked_start difference_lines

difference_log : difference_steps ≡ pair_log worked_start difference_lines
unfolding difference_steps
difference_log = refl

difference_passes : passes_all worked_start difference_steps ≡ true
unfolding difference_steps passes_all
difference_passes = refl

pub difference_is_one_run : OneRun worked_start difference_lines difference_steps
difference_is_one_run =
    one_run_from worked_start difference_lines difference_steps difference_log difference_passes

-- failover before a checkpoint
unfoldable pub failover_steps : List Step
unfolding pair_log worked_start
failover_steps = pair_log worked_start failover_lines

failover_log : failover_steps ≡ pair_log worked_start failover_lines
unfolding failover_steps
failover_log = refl

failover_passes : passes_all worked_start failover_steps ≡ true
unfolding failover_steps passes_all
failover_passes = refl

pub failover_is_one_run : OneRun worked_start failover_lines failover_steps
failover_is_one_run = one_run_from worked_start failover_lines failover_steps failover_log failover_passes

-- failover before the End of a checkpoint
unfoldable pub before_end_steps : List Step
unfolding pair_log worked_start
before_end_steps = pair_log worked_start stop_before_end_lines

before_end_log : before_end_steps ≡ pair_log worked_start stop_before_end_lines
unfolding before_end_steps
before_end_log = refl

before_end_passes : passes_all worked_start before_end_steps ≡ true
unfolding before_end_steps passes_all
before_end_passes = refl

pub before_end_is_one_run : OneRun worked_start stop_before_end_lines before_end_steps
before_end_is_one_run =
    one_run_from worked_start stop_before_end_lines before_end_steps before_end_log before_end_passes

-- failover after it
unfoldable pub after_end_steps : List Step
unfolding pair_log worked_start
after_end_steps = pair_log worked_start stop_after_end_lines

after_end_log : after_end_steps ≡ pair_log worked_start stop_after_end_lines
unfolding after_end_steps
after_end_log = refl

after_end_passes : passes_all worked_start after_end_steps ≡ true
unfolding after_end_steps passes_all
after_end_passes = refl

pub after_end_is_one_run : OneRun worked_start stop_after_end_lines after_end_steps
after_end_is_one_run =
    one_run_from worked_start stop_after_end_lines after_end_steps after_end_log after_end_passes

-- the End heard between the stop and its report
unfoldable pub between_steps : List Step
unfolding pair_log worked_start
between_steps = pair_log worked_start end_after_stop_lines

between_log : between_steps ≡ pair_log worked_start end_after_stop_lines
unfolding between_steps
between_log = refl

between_passes : passes_all worked_start between_steps ≡ true
unfolding between_steps passes_all
between_passes = refl

pub between_is_one_run : OneRun worked_start end_after_stop_lines between_steps
between_is_one_run = one_run_from worked_start end_after_stop_lines between_steps between_log between_passes

-- a restart
unfoldable pub restart_steps : List Step
unfolding pair_log worked_start
restart_steps = pair_log worked_start restart_lines

restart_log : restart_steps ≡ pair_log worked_start restart_lines
unfolding restart_steps
restart_log = refl

restart_passes : passes_all worked_start restart_steps ≡ true
unfolding restart_steps passes_all
restart_passes = refl

pub restart_is_one_run : OneRun worked_start restart_lines restart_steps
restart_is_one_run = one_run_from worked_start restart_lines restart_steps restart_log restart_passes

-- trims, and a frame that is given
unfoldable pub given_steps : List Step
unfolding pair_log ack_start
given_steps = pair_log (ack_start 5004) given_lines

given_log : given_steps ≡ pair_log (ack_start 5004) given_lines
unfolding given_steps
given_log = refl

given_passes : passes_all (ack_start 5004) given_steps ≡ true
unfolding given_steps passes_all
given_passes = refl

pub given_is_one_run : OneRun (ack_start 5004) given_lines given_steps
given_is_one_run = one_run_from (ack_start 5004) given_lines given_steps given_log given_passes

-- trims, and what is repeated
unfoldable pub trimmed_steps : List Step
unfolding pair_log ack_start
trimmed_steps = pair_log (ack_start 5004) trimmed_lines

trimmed_log : trimmed_steps ≡ pair_log (ack_start 5004) trimmed_lines
unfolding trimmed_steps
trimmed_log = refl

trimmed_passes : passes_all (ack_start 5004) trimmed_steps ≡ true
unfolding trimmed_steps passes_all
trimmed_passes = refl

pub trimmed_is_one_run : OneRun (ack_start 5004) trimmed_lines trimmed_steps
trimmed_is_one_run = one_run_from (ack_start 5004) trimmed_lines trimmed_steps trimmed_log trimmed_passes

-- a SYN that waits for its number
unfoldable pub unknown_steps : List Step
unfolding pair_log worked_start
unknown_steps = pair_log worked_start unknown_lines

unknown_log : unknown_steps ≡ pair_log worked_start unknown_lines
unfolding unknown_steps
unknown_log = refl

unknown_passes : passes_all worked_start unknown_steps ≡ true
unfolding unknown_steps passes_all
unknown_passes = refl

pub unknown_is_one_run : OneRun worked_start unknown_lines unknown_steps
unknown_is_one_run = one_run_from worked_start unknown_lines unknown_steps unknown_log unknown_passes

-- the primary alone
unfoldable pub lone_steps : List Step
unfolding pair_log worked_start
lone_steps = pair_log worked_start lone_primary_lines

lone_log : lone_steps ≡ pair_log worked_start lone_primary_lines
unfolding lone_steps
lone_log = refl

lone_passes : passes_all worked_start lone_steps ≡ true
unfolding lone_steps passes_all
lone_passes = refl

pub lone_is_one_run : OneRun worked_start lone_primary_lines lone_steps
lone_is_one_run = one_run_from worked_start lone_primary_lines lone_steps lone_log lone_passes
