-- The lines of a good schedule have numbers that a guest takes.
use Rattle.std.proofs.Common.{◌≡◌, ℕ, ◌≤◌, Bool, true, false, ◌&&◌, List, [], ◌∷◌, map, All, nat_le, refl, arith}
use Rattle.std.proofs.lemmas.Bool.Decides.{nat_tests}
use Rattle.std.proofs.lemmas.List.Elements.{All-nil, All-cons, All-head, All-tail}
use Rattle.replay_log.specs.Forms.{schedule_forms}
use Rattle.replay_log.specs.Items.{flag_number, is_item_in_range}
use Rattle.replay_log.specs.Texts.{HasSpelling, IsSchedule}
use Rattle.replay_log.specs.declared.items.Item.TheVariants as item
use Rattle.replay_log.specs.declared.lines.Line.{Line}
use Rattle.replay_log.specs.declared.lines.Line.TheVariants.{Primary, Secondary, Client, ToSecondary, ToPrimary, StopPrimary, StopSecondary, Report, Ask}
use Rattle.pair_core.specs.Steps.{HasLimits}

both : (a b : Bool) → (a && b) ≡ true → (a ≡ true) × (b ≡ true)
both true b h = (refl, h)
both false b h = let f : false ≡ true = h in cc

at_most : (a b : ℕ) → nat_le a b ≡ true → a ≤ b
at_most a b h = grind (arith, nat_tests)

numbers_fit : (clock flag requests steps : Bool) → (clock && (flag && (requests && (steps && true)))) ≡ true
    → (requests ≡ true) × (steps ≡ true)
numbers_fit true true requests steps h =
    let p = both requests (steps && true) h in (p.0, (both steps true p.1).0)
numbers_fit true false requests steps h = let f : false ≡ true = h in cc
numbers_fit false flag requests steps h = let f : false ≡ true = h in cc

turn_in_limits : (d : ℕ) (i : Bool) (b n : ℕ) → is_item_in_range (item.Line (Primary d i b n)) ≡ true
    → (b ≤ 256) × (n ≤ 100000)
turn_in_limits d i b n h =
    let p = numbers_fit (nat_le 0 d && nat_le d 4294967295)
    (nat_le 0 (flag_number i) && nat_le (flag_number i) 1)
    (nat_le 0 b && nat_le b 256) (nat_le 0 n && nat_le n 100000) h in (
      at_most b 256 (both (nat_le 0 b) (nat_le b 256) p.0).1,
      at_most n 100000 (both (nat_le 0 n) (nat_le n 100000) p.1).1,
    )

line_in_limits : (line : Line) → is_item_in_range (item.Line line) ≡ true → HasLimits line
line_in_limits (Primary d i b n) h = turn_in_limits d i b n h
line_in_limits (Secondary d i b n) h = turn_in_limits d i b n h
line_in_limits Client h = tt
line_in_limits ToSecondary h = tt
line_in_limits ToPrimary h = tt
line_in_limits StopPrimary h = tt
line_in_limits StopSecondary h = tt
line_in_limits Report h = tt
line_in_limits Ask h = tt

all_in_limits : (lines : List Line) → All (HasSpelling schedule_forms) (map item.Line lines) → All HasLimits lines
all_in_limits [] h = All-nil HasLimits
all_in_limits (line ∷ lines) h =
    let rest = map item.Line lines in
    All-cons HasLimits line lines
    (line_in_limits line (All-head (HasSpelling schedule_forms) (item.Line line) rest h).numbers)
    (all_in_limits lines (All-tail (HasSpelling schedule_forms) (item.Line line) rest h))

pub lines_in_limits : (lines : List Line) (text : List ℕ) → IsSchedule lines text → All HasLimits lines
lines_in_limits lines text good = all_in_limits lines good.good
