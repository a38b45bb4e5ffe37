-- The symbols that an event is to release: what both nodes agree on from the old edge to the
-- matched end.
use Rattle.std.specs.Prelude.{ℕ, ◌-◌, max, if◌then◌else◌, not, ◌&&◌, List, [], ◌∷◌, take, drop, Option, None, Some}
use Rattle.std.specs.List.{flat_map}
use Rattle.inet_frame.specs.declared.tuple.Tuple.{Tuple}
use Rattle.tcp_track.specs.Lines.{Item, Line, line}
use Rattle.tcp_track.specs.declared.openings.Opening.{Opening}
use Rattle.settle_rules.specs.Matching.{BothLines}
use Rattle.settle_rules.specs.Numbers.{KeptNumber, kept_number, number_or_zero}
use Rattle.settle_rules.specs.Progress.{ProgressTable, progress_of}
use Rattle.settle_rules.specs.Settle.{Scene, both_lines, goes_out, is_restarted, new_edge}
use Rattle.pair_theorem.specs.Past.{Agreed}

abbrev pub agreed_between : BothLines → ℕ → Agreed
agreed_between b edge = record {
  tuple = b.tuple;
  number = b.number;
  from = edge;
  symbols = take (new_edge b edge - edge) (drop edge b.mine.symbols);
}

-- of a tuple that was not restarted in the event, where the edge is above 0 or the number is known
unfoldable pub agreed_of : Scene → ProgressTable → Tuple → List Agreed
unfolding both_lines
agreed_of scene progress t =
    let b = both_lines scene t in
    let edge = (progress_of t progress).edge in
    if not (is_restarted scene t) && goes_out b edge then agreed_between b edge ∷ [] else []

unfoldable pub agreed_in : Scene → List Tuple → ProgressTable → List Agreed
unfolding agreed_of
agreed_in scene tuples progress = flat_map (agreed_of scene progress) tuples

-- at the report of the primary's stop: of each tuple with an opening SYN, and the untrimmed symbols
abbrev pub lone_agreed : Tuple → ℕ → Line → Option Opening → List Agreed
lone_agreed t number l None = []
lone_agreed t number l (Some o) =
    record { tuple = t; number = number; from = 0; symbols = take 1 l.symbols }
    ∷ record {
      tuple = t;
      number = number;
      from = max 1 l.base;
      symbols = drop (max 1 l.base) l.symbols;
    } ∷ []

abbrev pub lone_number : Tuple → Option Opening → List KeptNumber → ℕ
lone_number t None numbers = 0
lone_number t (Some o) numbers = number_or_zero (kept_number t o.client numbers)

unfoldable pub lone_agreed_of : List Item → List KeptNumber → Tuple → List Agreed
unfolding line
lone_agreed_of items numbers t =
    let l = line t items in lone_agreed t (lone_number t l.opening numbers) l l.opening

unfoldable pub survivor_agreed : List Item → List KeptNumber → List Tuple → List Agreed
unfolding lone_agreed_of
survivor_agreed items numbers tuples = flat_map (lone_agreed_of items numbers) tuples
