-- Frames that wait can be sent as they are.
use Rattle.std.specs.Prelude.{◌≡◌, List, None}
use Rattle.std.specs.List.{AllByRecursion}
use Rattle.frame_mirror.specs.declared.ring.Waiting.{Waiting}

-- a frame whose sender has seen no opening trims nothing
abbrev pub TrimsWhatIsSeen : Waiting → Type 0
TrimsWhatIsSeen w = w.seen ≡ None → w.trim ≡ 0

abbrev pub TrimWhatIsSeen : List Waiting → Type 0
TrimWhatIsSeen inbox = AllByRecursion TrimsWhatIsSeen inbox
