-- The pause: between a capture and its acknowledgement nothing of the guests goes out.
use Rattle.std.specs.Prelude.{◌≡◌, true, false, ⊤, List, [], All}
use Rattle.std.specs.List.{AllByRecursion}
use Rattle.settle_rules.specs.Release.{Released, reply}
use Rattle.replay_log.specs.declared.lines.Line.{Line}
use Rattle.pair_theorem.specs.History.{pair_log}
use Rattle.pair_theorem.specs.Log.{HasOneStop, is_report}
use Rattle.pair_theorem.specs.LogParts.{ack_marks}
use Rattle.pair_theorem.specs.Past.{Past, Start, Step}
use Rattle.pair_theorem.specs.Places.{Event, events}

-- an ARP reply, the one frame that no guest sent
abbrev pub IsOfNoGuest : Released → Type 0
IsOfNoGuest (reply bytes) = ⊤
IsOfNoGuest _ = ⊥

-- a step that begins while a checkpoint is awaited, reports no stop and delivers no acknowledgement
abbrev pub IsSilentAfter : Past → Step → Type 0
IsSilentAfter past step =
    past.awaits_ack ≡ true → is_report step.entry.line ≡ false
    → ack_marks step.entry.line step.delivered ≡ [] → AllByRecursion IsOfNoGuest step.released

abbrev pub IsSilentEvent : Event → Type 0
IsSilentEvent e = IsSilentAfter e.past e.step

-- on every schedule with at most one stop
abbrev pub PauseIsSilent : Type 0
PauseIsSilent =
    (a : Start) (lines : List Line) → HasOneStop lines
    → All IsSilentEvent (events a (pair_log a lines))
