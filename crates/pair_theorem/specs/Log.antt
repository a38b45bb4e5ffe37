-- The stops of a schedule, and their reports.
use Rattle.std.specs.Prelude.{Bool, true, false, not, ◌&&◌, ◌||◌, IsTrue, List, [], ◌∷◌}
use Rattle.replay_log.specs.declared.lines.Line.{Line}
use Rattle.replay_log.specs.declared.lines.Line.TheVariants.{Primary, Secondary, Client, ToSecondary, ToPrimary, StopPrimary, StopSecondary, Report, Ask}
use Rattle.splice_run.specs.Log.{stops_primary}

abbrev pub stops_secondary : Line → Bool
stops_secondary (Primary d i b n) = false
stops_secondary (Secondary d i b n) = false
stops_secondary Client = false
stops_secondary ToSecondary = false
stops_secondary ToPrimary = false
stops_secondary StopPrimary = false
stops_secondary StopSecondary = true
stops_secondary Report = false
stops_secondary Ask = false

abbrev pub is_report : Line → Bool
is_report (Primary d i b n) = false
is_report (Secondary d i b n) = false
is_report Client = false
is_report ToSecondary = false
is_report ToPrimary = false
is_report StopPrimary = false
is_report StopSecondary = false
is_report Report = true
is_report Ask = false

abbrev pub is_stop : Line → Bool
is_stop line = stops_primary line || stops_secondary line

abbrev pub stops_fit : Bool → Bool → List Line → Bool
stops_fit stopped reported [] = true
stops_fit stopped reported (line ∷ lines) =
    not (is_stop line && stopped) && (not (is_report line && (reported || not stopped))
    && stops_fit (stopped || is_stop line) (reported || is_report line) lines)

-- at most one stop, and at most one report, which comes after it
abbrev pub HasOneStop : List Line → Type 0
HasOneStop lines = IsTrue (stops_fit false false lines)
