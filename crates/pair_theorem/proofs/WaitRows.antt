-- A secondary that says nothing, a SYN that waits until its number is known, and a full inbox.
use Rattle.std.specs.Prelude.{◌≡◌, List, [], ◌∷◌, ◌++◌, true, false, replicate, None, Some, refl}
use Rattle.colo_base.specs.declared.fault.Cause.TheVariants.{Wait}
use Rattle.pair_theorem.specs.Events.{outcome_of}
use Rattle.frame_mirror.specs.declared.ring.Waiting.{Waiting}
use Rattle.pair_theorem.specs.History.{pair_log}
use Rattle.replay_log.specs.declared.lines.Line.TheVariants.{Primary, Secondary, Client, ToSecondary, ToPrimary}
use Rattle.replay_log.specs.declared.records.Answer.TheVariants.{Accepted, Full, Made, Heard, HeardBack}
use Rattle.replay_log.specs.declared.records.Mark.TheVariants.{Captured}
use Rattle.pair_theorem.specs.Past.{Past, first_past}
use Rattle.pair_theorem.proofs.Told.{Told, told, plain, marked, releases, syn_out}
use Rattle.pair_theorem.proofs.WorkedFrames.{worked_start, worked_kind, start_with, client_syn}
use Rattle.pair_theorem.proofs.WorkedSchedules.{primary, silent_lines, unknown_lines}

-- the 256th turn starts a checkpoint, and none before it
abbrev pub silent_told : List Told
silent_told =
    plain (primary 1) (Made None 0) ∷ replicate 254 (plain (primary 0) (Made None 0))
    ++ marked (primary 0) (Made None 0) (Captured 1 Wait ∷ []) ∷ []

pub silent : told (pair_log (start_with []) silent_lines) ≡ silent_told
unfolding pair_log start_with
silent = refl

-- both have the SYN, and it goes out only when the secondary is known to have its number
abbrev pub unknown_told : List Told
unknown_told =
    plain Client (Accepted 0 None 0 0)
    ∷ plain (Primary 1 true 0 0) (Made (Some 0) 0)
    ∷ plain ToSecondary (Heard 1 false)
    ∷ plain (Secondary 2 true 0 0) (Made (Some 0) 0)
    ∷ plain ToPrimary (HeardBack 13 1 0)
    ∷ plain ToSecondary (Heard 2 false)
    ∷ releases ToPrimary (HeardBack 12 1 1) [] (syn_out ∷ [])
    ∷ []

pub unknown : told (pair_log worked_start unknown_lines) ≡ unknown_told
unfolding pair_log worked_start
unknown = refl

-- the frame after 4,096, from a past that holds these
abbrev waiting : Waiting
waiting = record { index = 0; seen = None; trim = 0; frame = [] }

abbrev full_past : Past
full_past = record (first_past (start_with [])) { next = 4096; primary_inbox = replicate 4096 waiting }

pub refused : (outcome_of worked_kind (replicate 4097 client_syn) full_past Client).step.entry.answer ≡ Full 4096
unfolding outcome_of worked_kind client_syn start_with
refused = refl
