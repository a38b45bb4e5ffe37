-- The schedules of the worked examples.
use Rattle.std.specs.Prelude.{ℕ, true, false, List, [], ◌∷◌, ◌++◌, replicate}
use Rattle.replay_log.specs.declared.lines.Line.{Line}
use Rattle.replay_log.specs.declared.lines.Line.TheVariants.{Primary, Secondary, Client, ToSecondary, ToPrimary, StopPrimary, StopSecondary, Report}

-- a turn that takes no frame
abbrev pub primary : ℕ → Line
primary d = Primary d false 0 0

abbrev pub secondary : ℕ → Line
secondary d = Secondary d false 0 0

-- both guests take the client's SYN and answer it
abbrev pub opening_lines : List Line
opening_lines =
    Client ∷ Primary 1 true 0 0 ∷ ToSecondary ∷ ToSecondary ∷ Secondary 2 true 0 0 ∷ ToPrimary ∷ ToPrimary ∷ []

abbrev pub first_cut_lines : List Line
first_cut_lines = opening_lines ++ primary 3 ∷ secondary 4 ∷ ToPrimary ∷ []

abbrev pub two_cuts_lines : List Line
two_cuts_lines = first_cut_lines ++ secondary 5 ∷ ToPrimary ∷ []

abbrev pub differ_lines : List Line
differ_lines = opening_lines ++ primary 6 ∷ secondary 7 ∷ ToPrimary ∷ []

-- up to the last message before the End
abbrev pub captured_lines : List Line
captured_lines = differ_lines ++ primary 1 ∷ ToSecondary ∷ ToSecondary ∷ ToSecondary ∷ ToSecondary ∷ []

abbrev pub difference_lines : List Line
difference_lines = captured_lines ++ ToSecondary ∷ ToPrimary ∷ []

abbrev pub failover_lines : List Line
failover_lines = opening_lines ++ StopPrimary ∷ Report ∷ secondary 4 ∷ []

-- the stop before the End is heard, after it, and the End heard between the stop and its report
abbrev pub stop_before_end_lines : List Line
stop_before_end_lines = captured_lines ++ StopPrimary ∷ Report ∷ []

abbrev pub stop_after_end_lines : List Line
stop_after_end_lines = captured_lines ++ ToSecondary ∷ StopPrimary ∷ Report ∷ []

abbrev pub end_after_stop_lines : List Line
end_after_stop_lines = captured_lines ++ StopPrimary ∷ ToSecondary ∷ Report ∷ []

abbrev pub restart_lines : List Line
restart_lines =
    opening_lines ++ primary 2 ∷ ToSecondary ∷ ToSecondary ∷ ToSecondary ∷ ToSecondary ∷ ToPrimary ∷ []

-- a client's acknowledgement after the first cut; then the secondary's guest takes it, or the primary's repeats itself
abbrev pub ack_lines : List Line
ack_lines = first_cut_lines ++ Client ∷ []

abbrev pub given_lines : List Line
given_lines = ack_lines ++ ToSecondary ∷ Secondary 5 true 0 0 ∷ []

abbrev pub trimmed_lines : List Line
trimmed_lines = ack_lines ++ secondary 5 ∷ ToPrimary ∷ primary 3 ∷ []

-- a secondary that says nothing
abbrev pub silent_lines : List Line
silent_lines = primary 1 ∷ replicate 255 (primary 0)

-- the secondary's SYN is heard before the secondary is known to have the number
abbrev pub unknown_lines : List Line
unknown_lines =
    Client ∷ Primary 1 true 0 0 ∷ ToSecondary ∷ Secondary 2 true 0 0 ∷ ToPrimary ∷ ToSecondary ∷ ToPrimary ∷ []

-- the secondary stops, and the primary goes on alone
abbrev pub lone_primary_lines : List Line
lone_primary_lines = opening_lines ++ primary 3 ∷ StopSecondary ∷ Report ∷ primary 6 ∷ []
