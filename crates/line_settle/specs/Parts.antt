-- The four rules of settling one connection, part by part.
use Rattle.std.specs.Prelude.{Bool, not, ◌&&◌, nat_lt, if◌then◌else◌, List, ◌++◌, Option, None, Some}
use Rattle.std.specs.List.{flat_map}
use Rattle.tcp_track.specs.declared.answers.Took.{Took}
use Rattle.settle_rules.specs.Matching.{BothLines, agreed_ack_window, client_or_zero, matched_end}
use Rattle.settle_rules.specs.Progress.{AckWindow, Progress}
use Rattle.settle_rules.specs.Release.{Released, release_symbols, release_bare, release_reset, release_refusal}
use Rattle.settle_rules.specs.Settle.{agrees_on_reset, grow_older, is_empty, new_edge, release_again, same_number, shown_after, wants_bare}

-- the symbols that go out, again and for the first time
unfoldable pub symbols_out : BothLines → Progress → List Took → List Released
symbols_out b p tooks =
    flat_map (release_again b p.edge) tooks ++ release_symbols b p.edge (new_edge b p.edge)

-- a segment without symbols goes out
unfoldable pub bare_goes : BothLines → Progress → List Took → Bool
bare_goes b p tooks =
    is_empty (symbols_out b p tooks)
    && (nat_lt 0 (new_edge b p.edge) && wants_bare b p.edge p.last tooks)

abbrev pub reset_goes : BothLines → Progress → Bool
reset_goes b p = p.reset_due && agrees_on_reset b (new_edge b p.edge)

abbrev pub refusal_goes : BothLines → Progress → Bool
refusal_goes b p = p.refusal_due && same_number b.mine.refused b.theirs.refused

-- all but a refusal
unfoldable pub plain_out : BothLines → Progress → List Took → List Released
plain_out b p tooks =
    symbols_out b p tooks
    ++ release_bare b (new_edge b p.edge) (bare_goes b p tooks)
    ++ release_reset b (new_edge b p.edge) (reset_goes b p)

-- all that goes out
unfoldable pub all_out : BothLines → Progress → List Took → List Released
all_out b p tooks =
    plain_out b p tooks ++ release_refusal b b.mine.refused (refusal_goes b p)

abbrev pub last_after : BothLines → Option AckWindow → Bool → Option AckWindow
last_after b last nothing = if nothing then last else Some (agreed_ack_window b)

-- the progress, without its age
abbrev pub settled_progress : BothLines → Progress → List Released → Progress
settled_progress b p plain = record p {
  edge = new_edge b p.edge;
  last = last_after b p.last (is_empty plain);
  reset_due = p.reset_due && not (reset_goes b p);
  refusal_due = p.refusal_due && not (refusal_goes b p);
  shown = shown_after (client_or_zero b.mine.opening) p.shown plain;
}

abbrev pub grow_if_turn : BothLines → Bool → Progress → Progress
grow_if_turn b is_turn p = if is_turn then grow_older b (matched_end b p.edge) p else p
