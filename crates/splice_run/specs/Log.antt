-- What a log says of its schedule, of released frames, and of a stop of the primary.
use Rattle.std.specs.Prelude.{ℕ, Bool, true, false, List, map}
use Rattle.std.specs.List.{list_any}
use Rattle.replay_log.specs.declared.lines.Line.{Line}
use Rattle.replay_log.specs.declared.lines.Line.TheVariants.{Primary, Secondary, Client, ToSecondary, ToPrimary, StopPrimary, StopSecondary, Report, Ask}
use Rattle.replay_log.specs.declared.records.Answer.{Answer}
use Rattle.replay_log.specs.declared.records.Answer.TheVariants.{Nothing, Made, Accepted, Arp, Dropped, Full, Lost, Heard, HeardBack, Zero, Reported}
use Rattle.replay_log.specs.declared.records.Record.{Record}

-- the log without answers and marks
abbrev pub schedule : List Record → List Line
schedule log = map (λ (r : Record). r.line) log

-- how many frames an answer says were released in the event
abbrev pub released_count : Answer → ℕ
released_count Nothing = 0
released_count (Made frame released) = released
released_count (Accepted index seen trim released) = released
released_count (Arp index) = 1
released_count (Dropped index why) = 0
released_count (Full index) = 0
released_count (Lost index) = 0
released_count (Heard kind full) = 0
released_count (HeardBack kind sent released) = released
released_count Zero = 0
released_count (Reported released) = released

abbrev pub stops_primary : Line → Bool
stops_primary (Primary d i b n) = false
stops_primary (Secondary d i b n) = false
stops_primary Client = false
stops_primary ToSecondary = false
stops_primary ToPrimary = false
stops_primary StopPrimary = true
stops_primary StopSecondary = false
stops_primary Report = false
stops_primary Ask = false

abbrev pub has_primary_stop : List Record → Bool
has_primary_stop log = list_any (λ (r : Record). stops_primary r.line) log
