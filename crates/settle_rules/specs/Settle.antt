-- Settling: what one event releases, from both known lines of each connection, by four rules in
-- order.
use Rattle.std.specs.Prelude.{ℕ, ◌+◌, Bool, true, false, not, ◌&&◌, ◌||◌, ◌==◌, nat_lt, nat_le, max, min, is_some, if◌then◌else◌, List, [], ◌∷◌, ◌++◌, fold, Option, None, Some}
use Rattle.std.specs.List.{list_any, flat_map}
use Rattle.inet_frame.specs.declared.tuple.Tuple.{Tuple}
use Rattle.tcp_track.specs.Segments.{is_near, is_refusal, may_open, same_tuple, symbols_in}
use Rattle.tcp_track.specs.Lines.{Item, line}
use Rattle.tcp_track.specs.declared.answers.Took.{Took}
use Rattle.tcp_track.specs.declared.answers.What.{What}
use Rattle.tcp_track.specs.declared.answers.What.TheVariants.{Ignored, Opened, Restarted, Symbols, Reset, Refused}
use Rattle.tcp_track.specs.declared.openings.Opening.{Opening}
use Rattle.settle_rules.specs.Matching.{BothLines, client_or_zero, has_one_client, smaller_acked, agreed_ack_window, matched_end, is_unmatched}
use Rattle.settle_rules.specs.Numbers.{KeptNumber, kept_number, number_or_zero, is_known}
use Rattle.settle_rules.specs.Progress.{AckWindow, AgeKey, Progress, ProgressTable, grow_age, progress_of, put_progress}
use Rattle.settle_rules.specs.Release.{Released, tcp, reply, syn_ack, release_symbols, release_bare, release_reset, release_refusal}

-- RULE 1: the symbols below the edge that a segment of the event carries go out again, without the
-- trimmed ones
abbrev pub release_span : BothLines → ℕ → What → List Released
release_span b edge Ignored = []
release_span b edge (Opened _) = []
release_span b edge (Restarted _) = []
release_span b edge (Symbols from to) = release_symbols b (max from b.mine.base) (min to edge)
release_span b edge Reset = []
release_span b edge (Refused _) = []

unfoldable pub release_again : BothLines → ℕ → Took → List Released
unfolding release_symbols
release_again b edge took =
    if same_tuple took.tuple b.tuple then release_span b edge took.what else []

-- RULE 2: symbols go out where the edge is above 0 or the other node is known to have the number
abbrev pub goes_out : BothLines → ℕ → Bool
goes_out b edge = is_some b.mine.opening && (nat_lt 0 edge || b.number_known)

-- up to here the connection is released by this settling
abbrev pub new_edge : BothLines → ℕ → ℕ
new_edge b edge = if goes_out b edge then matched_end b edge else edge

-- RULE 3: a segment of the connection that carries no symbol at the edge or above it
abbrev pub is_below : ℕ → What → Bool
is_below edge Ignored = false
is_below edge (Opened _) = false
is_below edge (Restarted _) = false
is_below edge (Symbols from to) = nat_le to edge
is_below edge Reset = true
is_below edge (Refused _) = true

abbrev pub is_bare : BothLines → ℕ → Took → Bool
is_bare b edge took = same_tuple took.tuple b.tuple && is_below edge took.what

abbrev pub same_ack_window : Option AckWindow → AckWindow → Bool
same_ack_window None now = false
same_ack_window (Some last) now = last.ack == now.ack && last.window == now.window

abbrev pub is_empty : {X : Type 0} → List X → Bool
is_empty [] = true
is_empty (_ ∷ _) = false

-- the acknowledgement or the window is to be said anew
abbrev pub wants_bare : BothLines → ℕ → Option AckWindow → List Took → Bool
wants_bare b edge last tooks =
    list_any (is_bare b edge) tooks || not (same_ack_window last (agreed_ack_window b))

-- RULE 4: both lines have a reset of one client; both nodes refused one client
abbrev pub agrees_on_reset : BothLines → ℕ → Bool
agrees_on_reset b edge =
    b.mine.reset && (b.theirs.reset && (has_one_client b && nat_lt 0 edge))

abbrev pub same_number : Option ℕ → Option ℕ → Bool
same_number (Some m) (Some n) = m == n
same_number (Some m) None = false
same_number None n = false

-- the SYN last released, after these
abbrev pub shown_after : ℕ → Option Opening → List Released → Option Opening
shown_after client shown [] = shown
shown_after client shown (reply _ ∷ out) = shown_after client shown out
shown_after client shown (tcp s _ ∷ out) =
    shown_after client
    (if s.flags == syn_ack then Some (record { client = client; own = s.seq }) else shown) out

-- The age: the number of turns of the primary in a row at whose end the connection was unmatched
-- with one client, matched end and smaller acknowledgement.
abbrev pub age_key_of : BothLines → ℕ → AgeKey
age_key_of b m =
    record { client = client_or_zero b.mine.opening; matched = m; acked = smaller_acked b }

abbrev pub same_age_key : AgeKey → AgeKey → Bool
same_age_key k l = k.client == l.client && (k.matched == l.matched && k.acked == l.acked)

abbrev pub age_after : Progress → AgeKey → Bool → ℕ
age_after p key unmatched =
    if unmatched then (if same_age_key p.age_key key then grow_age p.age else 1) else 0

abbrev pub grow_older : BothLines → ℕ → Progress → Progress
grow_older b m p = record p {
  age = age_after p (age_key_of b m) (is_unmatched b p m);
  age_key = age_key_of b m;
}

-- what is released of one connection, and its progress then
pub record Settled : Type 0 where
  pub progress : Progress
  pub out : List Released

-- The four rules for one connection, from its progress with the event's own frames in it. The edge
-- of rules 1 and 3 is that with which the settling begins.
unfoldable pub settle_one : BothLines → Progress → Bool → List Took → Settled
unfolding release_symbols release_again
settle_one b p is_turn tooks =
    let edge = new_edge b p.edge in
    let symbols = flat_map (release_again b p.edge) tooks ++ release_symbols b p.edge edge in
    let bare = is_empty symbols && (nat_lt 0 edge && wants_bare b p.edge p.last tooks) in
    let resets = p.reset_due && agrees_on_reset b edge in
    let refuses = p.refusal_due && same_number b.mine.refused b.theirs.refused in
    let plain = symbols ++ release_bare b edge bare ++ release_reset b edge resets in
    let after = record p {
      edge = edge;
      last = if is_empty plain then p.last else Some (agreed_ack_window b);
      reset_due = p.reset_due && not resets;
      refusal_due = p.refusal_due && not refuses;
      shown = shown_after (client_or_zero b.mine.opening) p.shown plain;
    } in
    record {
      progress = if is_turn then grow_older b (matched_end b edge) after else after;
      out = plain ++ release_refusal b b.mine.refused refuses;
    }

-- a connection that was restarted in the event: nothing of it goes out, and its age is counted
abbrev pub rest_one : BothLines → Progress → Bool → Settled
rest_one b p is_turn = record {
  progress = if is_turn then grow_older b (matched_end b p.edge) p else p;
  out = [];
}

abbrev pub settle_or_rest : Bool → BothLines → Progress → Bool → List Took → Settled
settle_or_rest restarted b p is_turn tooks =
    if restarted then rest_one b p is_turn else settle_one b p is_turn tooks

-- An event that settles: the items of both nodes' lines, the kept numbers, whether the node is
-- alone, whether this is a turn of the primary or of a node alone, what the event's own segments
-- are, and the tuples restarted in it.
pub record Scene : Type 0 where
  pub mine : List Item
  pub theirs : List Item
  pub numbers : List KeptNumber
  pub is_alone : Bool
  pub is_turn : Bool
  pub tooks : List Took
  pub restarts : List Tuple

-- both lines of a tuple; for a node alone its own in the place of both, and every number known
unfoldable pub both_lines : Scene → Tuple → BothLines
unfolding line is_refusal may_open symbols_in is_near
both_lines scene t =
    let mine = line t scene.mine in
    let kept = kept_number t (client_or_zero mine.opening) scene.numbers in
    record {
      tuple = t;
      mine = mine;
      theirs = if scene.is_alone then mine else line t scene.theirs;
      number = number_or_zero kept;
      number_known = scene.is_alone || is_known kept;
    }

abbrev pub is_restarted : Scene → Tuple → Bool
is_restarted scene t = list_any (same_tuple t) scene.restarts

-- what an event releases, and the progress of each tuple then
pub record Settlement : Type 0 where
  pub progress : ProgressTable
  pub out : List Released

unfoldable pub settle_tuple : Scene → Settlement → Tuple → Settlement
unfolding both_lines settle_one
settle_tuple scene so_far t =
    let one = settle_or_rest (is_restarted scene t) (both_lines scene t)
    (progress_of t so_far.progress) scene.is_turn scene.tooks in
    record {
      progress = put_progress t one.progress so_far.progress;
      out = so_far.out ++ one.out;
    }

-- Each tuple in table order. Nothing goes out of those restarted in the event.
unfoldable pub settle : Scene → List Tuple → ProgressTable → Settlement
unfolding settle_tuple
settle scene tuples progress =
    fold (settle_tuple scene) (record { progress = progress; out = [] }) tuples
