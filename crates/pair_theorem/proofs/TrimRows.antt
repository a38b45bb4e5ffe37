-- Trims: what a client's acknowledgement cuts, what a guest is given, and what goes out again.
use Rattle.std.specs.Prelude.{◌≡◌, ℕ, List, [], ◌∷◌, ◌++◌, true, false, drop, None, Some, refl}
use Rattle.std.specs.Option.{option_map}
use Rattle.inet_frame.specs.Counted.{tcp_in}
use Rattle.inet_frame.specs.Fields.{TcpFields}
use Rattle.inet_frame.specs.Frame.{seen_of}
use Rattle.pair_theorem.specs.History.{pair_log, past_from}
use Rattle.replay_log.specs.declared.lines.Line.TheVariants.{Secondary, Client, ToSecondary, ToPrimary}
use Rattle.replay_log.specs.declared.records.Answer.TheVariants.{Accepted, Made, Heard, HeardBack}
use Rattle.pair_theorem.specs.Past.{Start, first_past}
use Rattle.pair_theorem.proofs.OpeningRow.{first_cut_told}
use Rattle.pair_theorem.proofs.Told.{Told, told, plain, releases, data_out}
use Rattle.pair_theorem.proofs.WorkedFrames.{start_with, client_syn, client_ack, last_digits}
use Rattle.pair_theorem.proofs.WorkedSchedules.{primary, secondary, ack_lines, given_lines, trimmed_lines}

-- the client acknowledges the first cut, or one byte more than was sent
unfoldable pub ack_start : ℕ → Start
unfolding start_with client_syn client_ack
ack_start ack = start_with (client_syn ∷ client_ack ack ∷ [])

abbrev pub ack_told : ℕ → List Told
ack_told trim =
    first_cut_told ++ plain Client (Accepted 1 (Some (record { client = 1000; own = 5000 })) trim 0) ∷ []

pub ack_within : told (pair_log (ack_start 5004) ack_lines) ≡ ack_told 4
unfolding pair_log ack_start
ack_within = refl

pub ack_past : told (pair_log (ack_start 5012) ack_lines) ≡ ack_told 0
unfolding pair_log ack_start
ack_past = refl

abbrev pub given_told : List Told
given_told =
    ack_told 4 ++ plain ToSecondary (Heard 1 false) ∷ plain (Secondary 5 true 0 0) (Made (Some 1) 0) ∷ []

pub given_taken : told (pair_log (ack_start 5004) given_lines) ≡ given_told
unfolding pair_log ack_start
given_taken = refl

-- the secondary's guest has got the acknowledgement in its own numbers: it is in the guest's state
pub given_ack : option_map (λ (t : TcpFields). t.ack)
    (tcp_in (drop 8 (past_from (ack_start 5004).kind (ack_start 5004).stream (first_past (ack_start 5004))
    given_lines).secondary.run.state.bytes)) ≡ Some 9004
unfolding past_from ack_start seen_of
given_ack = refl

-- what the primary's guest repeats goes out again without the trimmed bytes
abbrev pub trimmed_told : List Told
trimmed_told =
    ack_told 4
    ++ plain (secondary 5) (Made None 0)
    ∷ releases ToPrimary (HeardBack 13 3 1) [] (data_out 5004 last_digits ∷ [])
    ∷ releases (primary 3) (Made None 1) [] (data_out 5004 last_digits ∷ [])
    ∷ []

pub trimmed : told (pair_log (ack_start 5004) trimmed_lines) ≡ trimmed_told
unfolding pair_log ack_start
trimmed = refl
