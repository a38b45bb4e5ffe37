-- Resets and refusals: what both guests say goes out, a reset at the edge and a refusal with sequence number 0.
use Rattle.std.specs.Prelude.{◌≡◌, true, List, [], ◌∷◌, ◌++◌, None, Some, refl}
use Rattle.settle_rules.specs.Release.{Released, tcp}
use Rattle.state_wire.specs.Guest.{Kind}
use Rattle.state_wire.specs.Script.{script_kind}
use Rattle.pair_theorem.specs.History.{pair_log}
use Rattle.replay_log.specs.declared.lines.Line.{Line}
use Rattle.replay_log.specs.declared.lines.Line.TheVariants.{ToPrimary}
use Rattle.replay_log.specs.declared.records.Answer.TheVariants.{Made, HeardBack}
use Rattle.pair_theorem.specs.Past.{Start, Step, boot}
use Rattle.pair_theorem.proofs.Breaking.{OneRun, one_run_from, passes_all}
use Rattle.pair_theorem.proofs.OpeningRow.{opening_told}
use Rattle.pair_theorem.proofs.Told.{Told, told, plain, releases}
use Rattle.pair_theorem.proofs.WorkedFrames.{client_syn, guest_frame, script_start, worked_segment}
use Rattle.pair_theorem.proofs.WorkedSchedules.{primary, secondary, opening_lines}

-- two SYNs, a reset after each, and a refusal of the client's number 1000
unfoldable reset_kind : Kind
unfolding guest_frame
reset_kind = script_kind (
    []
    ∷ (guest_frame 5000 0x12 (Some 1460) [] ∷ [])
    ∷ (guest_frame 9000 0x12 (Some 1460) [] ∷ [])
    ∷ (guest_frame 5001 0x14 None [] ∷ [])
    ∷ (guest_frame 9001 0x14 None [] ∷ [])
    ∷ (guest_frame 0 0x14 None [] ∷ [])
    ∷ [])

unfoldable pub reset_start : Start
unfolding reset_kind client_syn
reset_start = boot reset_kind (client_syn ∷ []) script_start 0 0

abbrev pub reset_lines : List Line
reset_lines = opening_lines ++ primary 3 ∷ secondary 4 ∷ ToPrimary ∷ []

-- the primary's reset carries no symbol, so a segment without symbols goes out first
abbrev pub bare_out : Released
bare_out = tcp (worked_segment 5001 0x10 None) []

abbrev pub reset_out : Released
reset_out = tcp (worked_segment 5001 0x14 None) []

abbrev pub reset_told : List Told
reset_told =
    opening_told
    ++ releases (primary 3) (Made None 1) [] (bare_out ∷ [])
    ∷ plain (secondary 4) (Made None 0)
    ∷ releases ToPrimary (HeardBack 13 2 1) [] (reset_out ∷ [])
    ∷ []

pub reset : told (pair_log reset_start reset_lines) ≡ reset_told
unfolding pair_log reset_start
reset = refl

abbrev pub refusal_lines : List Line
refusal_lines = primary 5 ∷ secondary 5 ∷ ToPrimary ∷ []

abbrev pub refusal_out : Released
refusal_out = tcp (record (worked_segment 0 0x14 None) { window = 0 }) []

abbrev pub refusal_told : List Told
refusal_told =
    plain (primary 5) (Made None 0)
    ∷ plain (secondary 5) (Made None 0)
    ∷ releases ToPrimary (HeardBack 13 1 1) [] (refusal_out ∷ [])
    ∷ []

pub refusal : told (pair_log reset_start refusal_lines) ≡ refusal_told
unfolding pair_log reset_start
refusal = refl

-- both logs name one run
unfoldable pub reset_steps : List Step
unfolding pair_log reset_start
reset_steps = pair_log reset_start reset_lines

reset_log : reset_steps ≡ pair_log reset_start reset_lines
unfolding reset_steps
reset_log = refl

reset_passes : passes_all reset_start reset_steps ≡ true
unfolding reset_start reset_steps passes_all
reset_passes = refl

pub reset_is_one_run : OneRun reset_start reset_lines reset_steps
reset_is_one_run = one_run_from reset_start reset_lines reset_steps reset_log reset_passes

unfoldable pub refusal_steps : List Step
unfolding pair_log reset_start
refusal_steps = pair_log reset_start refusal_lines

refusal_log : refusal_steps ≡ pair_log reset_start refusal_lines
unfolding refusal_steps
refusal_log = refl

refusal_passes : passes_all reset_start refusal_steps ≡ true
unfolding reset_start refusal_steps passes_all
refusal_passes = refl

pub refusal_is_one_run : OneRun reset_start refusal_lines refusal_steps
refusal_is_one_run = one_run_from reset_start refusal_lines refusal_steps refusal_log refusal_passes
