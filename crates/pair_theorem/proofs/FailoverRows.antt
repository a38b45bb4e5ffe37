-- Stops of the primary before a checkpoint and around one, the single runs that they name, and a stop of the secondary.
use Rattle.std.specs.Prelude.{◌≡◌, ℕ, List, [], ◌∷◌, ◌++◌, false, None, refl}
use Rattle.pair_theorem.specs.History.{pair_log, past_from, entries}
use Rattle.replay_log.specs.declared.lines.Line.TheVariants.{ToSecondary, StopPrimary, StopSecondary, Report}
use Rattle.replay_log.specs.declared.records.Answer.TheVariants.{Made, Heard, Zero, Reported}
use Rattle.replay_log.specs.declared.records.Mark.TheVariants.{Committed}
use Rattle.pair_theorem.specs.Past.{first_past}
use Rattle.replay_log.specs.declared.turns.Turn.{Turn}
use Rattle.replay_log.specs.declared.turns.TurnFrame.TheVariants.{Absent, Plain}
use Rattle.splice_run.specs.Single.{single_run}
use Rattle.pair_theorem.proofs.DifferenceRow.{captured_told}
use Rattle.pair_theorem.proofs.OpeningRow.{opening_told}
use Rattle.pair_theorem.proofs.Told.{Told, told, plain, marked, releases, syn_out, data_out}
use Rattle.pair_theorem.proofs.WorkedFrames.{worked_start, first_digits, digits, abc, abd}
use Rattle.pair_theorem.proofs.WorkedSchedules.{primary, secondary, failover_lines, stop_before_end_lines, stop_after_end_lines, end_after_stop_lines, lone_primary_lines}

-- a turn of a single run, and one that takes the client's SYN
abbrev pub single_turn : ℕ → Turn
single_turn d = record { d = d; frame = Absent; b = 0; n = 0 }

abbrev pub syn_turn : ℕ → Turn
syn_turn d = record { d = d; frame = Plain 0; b = 0; n = 0 }

-- BEFORE A CHECKPOINT
abbrev pub failover_told : List Told
failover_told =
    opening_told
    ++ plain StopPrimary Zero
    ∷ releases Report (Reported 1) [] (syn_out ∷ [])
    ∷ releases (secondary 4) (Made None 1) [] (data_out 5001 first_digits ∷ [])
    ∷ []

pub failover : told (pair_log worked_start failover_lines) ≡ failover_told
unfolding pair_log worked_start
failover = refl

pub failover_single : single_run (entries (pair_log worked_start failover_lines)) ≡ syn_turn 2 ∷ single_turn 4 ∷ []
unfolding pair_log worked_start single_run
failover_single = refl

-- the surviving guest has made two turns of its own
pub secondary_turned : (past_from worked_start.kind worked_start.stream (first_past worked_start)
    failover_lines).secondary_turned ≡ 2
unfolding past_from worked_start
secondary_turned = refl

-- BEFORE THE END IS HEARD
abbrev pub before_end_told : List Told
before_end_told =
    captured_told
    ++ plain StopPrimary Zero
    ∷ releases Report (Reported 2) [] (syn_out ∷ data_out 5001 abd ∷ [])
    ∷ []

pub before_end : told (pair_log worked_start stop_before_end_lines) ≡ before_end_told
unfolding pair_log worked_start
before_end = refl

pub before_end_single : single_run (entries (pair_log worked_start stop_before_end_lines))
    ≡ syn_turn 2 ∷ single_turn 7 ∷ []
unfolding pair_log worked_start single_run
before_end_single = refl

-- AFTER IT
abbrev pub after_end_told : List Told
after_end_told =
    captured_told
    ++ marked ToSecondary (Heard 11 false) (Committed 1 ∷ [])
    ∷ plain StopPrimary Zero
    ∷ releases Report (Reported 2) [] (syn_out ∷ data_out 5001 abc ∷ [])
    ∷ []

pub after_end : told (pair_log worked_start stop_after_end_lines) ≡ after_end_told
unfolding pair_log worked_start
after_end = refl

pub after_end_single : single_run (entries (pair_log worked_start stop_after_end_lines))
    ≡ syn_turn 1 ∷ single_turn 6 ∷ []
unfolding pair_log worked_start single_run
after_end_single = refl

-- BETWEEN THE STOP AND ITS REPORT
abbrev pub between_told : List Told
between_told =
    captured_told
    ++ plain StopPrimary Zero
    ∷ marked ToSecondary (Heard 11 false) (Committed 1 ∷ [])
    ∷ releases Report (Reported 2) [] (syn_out ∷ data_out 5001 abc ∷ [])
    ∷ []

pub between : told (pair_log worked_start end_after_stop_lines) ≡ between_told
unfolding pair_log worked_start
between = refl

pub between_single : single_run (entries (pair_log worked_start end_after_stop_lines)) ≡ syn_turn 1 ∷ single_turn 6 ∷ []
unfolding pair_log worked_start single_run
between_single = refl

-- THE SECONDARY STOPS: at the report the primary's own line goes out, and what it repeats goes out again
abbrev pub lone_told : List Told
lone_told =
    opening_told
    ++ plain (primary 3) (Made None 0)
    ∷ plain StopSecondary Zero
    ∷ releases Report (Reported 1) [] (data_out 5001 digits ∷ [])
    ∷ releases (primary 6) (Made None 1) [] (data_out 5001 first_digits ∷ [])
    ∷ []

pub lone : told (pair_log worked_start lone_primary_lines) ≡ lone_told
unfolding pair_log worked_start
lone = refl
