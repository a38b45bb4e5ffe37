-- What the releasing node keeps of a connection beside its lines: how far it was released, what is
-- due, how long it is unmatched.
use Rattle.std.specs.Prelude.{ℕ, ◌+◌, min, Bool, false, not, List, ◌∷◌, find, filter, map, Option, None}
use Rattle.std.specs.Option.{option_map_or}
use Rattle.inet_frame.specs.declared.tuple.Tuple.{Tuple}
use Rattle.tcp_track.specs.Segments.{same_tuple}
use Rattle.tcp_track.specs.declared.openings.Opening.{Opening}

-- the acknowledgement and the window of a segment
pub record AckWindow : Type 0 where
  pub ack : ℕ
  pub window : ℕ

-- what has to stay the same for a connection to grow older: the client, the matched end, the
-- smaller acknowledgement
pub record AgeKey : Type 0 where
  pub client : ℕ
  pub matched : ℕ
  pub acked : ℕ

-- how many turns of the primary a connection may stay unmatched
abbrev pub longest_wait : ℕ
longest_wait = 256

-- one turn more, up to one past the longest wait: no older connection is a cause
abbrev pub grow_age : ℕ → ℕ
grow_age age = min (age + 1) (longest_wait + 1)

-- The edge is the number of symbols released. Last are the acknowledgement and window last released
-- in a segment that is no refusal; shown is the SYN last released; the age is in turns of the
-- primary.
pub record Progress : Type 0 where
  pub edge : ℕ
  pub last : Option AckWindow
  pub reset_due : Bool
  pub refusal_due : Bool
  pub shown : Option Opening
  pub age : ℕ
  pub age_key : AgeKey

abbrev pub no_progress : Progress
no_progress = record {
  edge = 0;
  last = None;
  reset_due = false;
  refusal_due = false;
  shown = None;
  age = 0;
  age_key = record { client = 0; matched = 0; acked = 0 };
}

abbrev pub ProgressTable : Type 0
ProgressTable = List (Tuple × Progress)

abbrev pub progress_of : Tuple → ProgressTable → Progress
progress_of t table =
    option_map_or (λ (x : Tuple × Progress). x.1) (find (λ x. same_tuple x.0 t) table) no_progress

abbrev pub put_progress : Tuple → Progress → ProgressTable → ProgressTable
put_progress t progress table = (t, progress) ∷ filter (λ x. not (same_tuple x.0 t)) table

-- ages are counted anew from an acknowledgement on
abbrev pub clear_ages : ProgressTable → ProgressTable
clear_ages table = map (λ (x : Tuple × Progress). (x.0, record x.1 { age = 0 })) table
