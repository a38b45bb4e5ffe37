-- Both nodes' known lines of one connection, and how far they agree.
use Rattle.std.specs.Prelude.{ℕ, ◌+◌, ◌%◌, ◌^◌, Bool, false, not, ◌&&◌, ◌||◌, ◌==◌, nat_lt, nat_le, min, is_some, if◌then◌else◌, drop, slice_get, Option, None, Some}
use Rattle.std.specs.List.{common_prefix_len}
use Rattle.std.specs.Option.{option_map_or}
use Rattle.inet_frame.specs.declared.tuple.Tuple.{Tuple}
use Rattle.tcp_track.specs.Segments.{Symbol, same_symbol}
use Rattle.tcp_track.specs.Lines.{Line}
use Rattle.tcp_track.specs.declared.openings.Opening.{Opening}
use Rattle.settle_rules.specs.Progress.{AckWindow, Progress}

-- The releasing node's own line, and what it knows of the other node's: the line of all that it
-- heard, on top of a copy of its own at the last acknowledgement. A client's trim that it takes
-- trims both. A node alone has its own line in the place of both. The number is the kept one.
pub record BothLines : Type 0 where
  pub tuple : Tuple
  pub mine : Line
  pub theirs : Line
  pub number : ℕ
  pub number_known : Bool

abbrev pub client_or_zero : Option Opening → ℕ
client_or_zero opening = option_map_or (λ (o : Opening). o.client) opening 0

abbrev pub have_one_client : Option Opening → Option Opening → Bool
have_one_client None q = false
have_one_client (Some p) None = false
have_one_client (Some p) (Some q) = p.client == q.client

-- both lines have an opening, of the same client
abbrev pub has_one_client : BothLines → Bool
has_one_client b = have_one_client b.mine.opening b.theirs.opening

-- the acknowledgement of the other line, which counts as 0 where that has another client
abbrev pub their_acked : BothLines → ℕ
their_acked b = if has_one_client b then b.theirs.acked else 0

abbrev pub smaller_acked : BothLines → ℕ
smaller_acked b = min b.mine.acked (their_acked b)

-- the acknowledgement and the window that go out
abbrev pub agreed_ack : BothLines → ℕ
agreed_ack b = (client_or_zero b.mine.opening + smaller_acked b) % 2 ^ 32

abbrev pub agreed_window : BothLines → ℕ
agreed_window b = min b.mine.window b.theirs.window

abbrev pub agreed_ack_window : BothLines → AckWindow
agreed_ack_window b = record { ack = agreed_ack b; window = agreed_window b }

-- the symbol that the other line is known to have: a copy does not hold the symbols below its base
abbrev pub known_symbol : Line → ℕ → Option Symbol
known_symbol l o = if nat_lt o l.base then None else slice_get l.symbols o

-- The matched end: the least offset from the edge on at which one line has no symbol or the two
-- differ. Wherever it is asked, the base of the node's own line is at most the edge, since a trim
-- never passes the edge.
abbrev pub matched_end : BothLines → ℕ → ℕ
matched_end b edge =
    if has_one_client b && nat_le b.theirs.base edge
    then edge
    + common_prefix_len same_symbol (drop edge b.mine.symbols) (drop edge b.theirs.symbols)
    else edge

abbrev pub are_different : Option Symbol → Option Symbol → Bool
are_different (Some x) (Some y) = not (same_symbol x y)
are_different (Some x) None = false
are_different None y = false

-- lines of one client have two different symbols at an offset
abbrev pub differs_at : BothLines → ℕ → Bool
differs_at b o =
    has_one_client b && are_different (slice_get b.mine.symbols o) (known_symbol b.theirs o)

-- the node's own line has a symbol there that the other one lacks
abbrev pub lacks_at : BothLines → ℕ → Bool
lacks_at b o =
    is_some (slice_get b.mine.symbols o)
    && not (has_one_client b && is_some (known_symbol b.theirs o))

-- a symbol is missing at the matched end, an acknowledgement is behind, or a reset or refusal is
-- due
abbrev pub is_unmatched : BothLines → Progress → ℕ → Bool
is_unmatched b p m =
    lacks_at b m || (nat_lt (their_acked b) b.mine.acked || (p.reset_due || p.refusal_due))
