-- The opening and two cuts: what the definitions give for it, line by line.
use Rattle.std.specs.Prelude.{◌≡◌, true, false, List, [], ◌∷◌, ◌++◌, length, slice_range, None, Some, refl}
use Rattle.settle_rules.specs.Release.{released_frame}
use Rattle.pair_theorem.specs.History.{pair_log, past_from}
use Rattle.pair_theorem.specs.Past.{first_past}
use Rattle.replay_log.specs.declared.lines.Line.TheVariants.{Primary, Secondary, Client, ToSecondary, ToPrimary}
use Rattle.replay_log.specs.declared.records.Answer.TheVariants.{Accepted, Made, Heard, HeardBack}
use Rattle.pair_theorem.proofs.Told.{Told, told, plain, releases, syn_out, data_out}
use Rattle.pair_theorem.proofs.WorkedFrames.{worked_start, first_digits, last_digits}
use Rattle.pair_theorem.proofs.WorkedSchedules.{primary, secondary, two_cuts_lines}

abbrev pub opening_told : List Told
opening_told =
    plain Client (Accepted 0 None 0 0)
    ∷ plain (Primary 1 true 0 0) (Made (Some 0) 0)
    ∷ plain ToSecondary (Heard 1 false)
    ∷ plain ToSecondary (Heard 2 false)
    ∷ plain (Secondary 2 true 0 0) (Made (Some 0) 0)
    ∷ plain ToPrimary (HeardBack 12 0 0)
    ∷ releases ToPrimary (HeardBack 13 1 1) [] (syn_out ∷ [])
    ∷ []

abbrev pub first_cut_told : List Told
first_cut_told =
    opening_told
    ++ plain (primary 3) (Made None 0)
    ∷ plain (secondary 4) (Made None 0)
    ∷ releases ToPrimary (HeardBack 13 2 1) [] (data_out 5001 first_digits ∷ [])
    ∷ []

abbrev pub two_cuts_told : List Told
two_cuts_told =
    first_cut_told
    ++ plain (secondary 5) (Made None 0)
    ∷ releases ToPrimary (HeardBack 13 3 1) [] (data_out 5004 last_digits ∷ [])
    ∷ []

pub two_cuts : told (pair_log worked_start two_cuts_lines) ≡ two_cuts_told
unfolding pair_log worked_start
two_cuts = refl

-- the primary's guest has made two turns of its own
pub primary_turned : (past_from worked_start.kind worked_start.stream (first_past worked_start)
    two_cuts_lines).primary_turned ≡ 2
unfolding past_from worked_start
primary_turned = refl

-- the released SYN has 58 bytes, with these checksums
pub syn_length : length (released_frame syn_out) ≡ 58
unfolding released_frame
syn_length = refl

pub syn_ip_sum : slice_range (released_frame syn_out) 24 26 ≡ 0x22 ∷ 0xBC ∷ []
unfolding released_frame
syn_ip_sum = refl

pub syn_tcp_sum : slice_range (released_frame syn_out) 50 52 ≡ 0xBC ∷ 0x4D ∷ []
unfolding released_frame
syn_tcp_sum = refl
