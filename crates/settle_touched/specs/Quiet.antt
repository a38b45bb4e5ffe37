-- A connection of which settling leaves all as it is, and one whose age is counted with what stands
-- now.
use Rattle.std.specs.Prelude.{◌≡◌, ℕ, Bool, true, false, ◌&&◌, nat_lt, if◌then◌else◌, List}
use Rattle.std.specs.List.{list_any}
use Rattle.inet_frame.specs.declared.tuple.Tuple.{Tuple}
use Rattle.tcp_track.specs.Segments.{same_tuple}
use Rattle.tcp_track.specs.declared.answers.Took.{Took}
use Rattle.settle_rules.specs.Matching.{BothLines, agreed_ack_window, is_unmatched, matched_end}
use Rattle.settle_rules.specs.Progress.{Progress, grow_age}
use Rattle.settle_rules.specs.Settle.{age_key_of, agrees_on_reset, new_edge, same_ack_window, same_number}

-- nothing goes out where the event has no segment of the connection: no symbol is newly agreed, the
-- agreed acknowledgement and window are said, and neither a reset nor a refusal is agreed and due
pub record IsQuiet (b : BothLines) (p : Progress) : Type 0 where
  pub edge : new_edge b p.edge ≡ p.edge
  pub said : nat_lt 0 p.edge ≡ true → same_ack_window p.last (agreed_ack_window b) ≡ true
  pub reset : (p.reset_due && agrees_on_reset b p.edge) ≡ false
  pub refusal : (p.refusal_due && same_number b.mine.refused b.theirs.refused) ≡ false

-- the age is counted with the client, the matched end and the acknowledgement that stand now, and
-- it is above 0 exactly where the connection is unmatched
pub record IsTimed (b : BothLines) (p : Progress) : Type 0 where
  pub key : p.age_key ≡ age_key_of b (matched_end b p.edge)
  pub waits : is_unmatched b p (matched_end b p.edge) ≡ nat_lt 0 p.age

-- a segment of the event is one of this connection
abbrev pub has_segment : Tuple → List Took → Bool
has_segment t tooks = list_any (λ (k : Took). same_tuple k.tuple t) tooks

-- the age after one turn more, which only one that waits has
abbrev pub age_in_turn : ℕ → ℕ
age_in_turn age = if nat_lt 0 age then grow_age age else 0
