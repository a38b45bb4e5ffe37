-- A schedule of turns of the primary is read as the turns that it spells, which a guest takes.
use Rattle.std.proofs.Common.{◌≡◌, ℕ, ◌≤◌, Bool, true, false, ◌&&◌, List, [], ◌∷◌, All, Result, Ok, Err, map, nat_le, refl, sym, ap, subst, ◌∙◌, arith}
use Rattle.std.specs.List.{filter_map, list_all}
use Rattle.std.proofs.lemmas.Bool.Decides.{nat_tests}
use Rattle.std.proofs.lemmas.List.Elements.{All-nil, All-cons, All-head, All-tail}
use Rattle.file_steps.specs.Plans.{Refusal}
use Rattle.replay_log.specs.Forms.{schedule_forms}
use Rattle.replay_log.specs.Items.{flag_number, is_item_in_range}
use Rattle.replay_log.specs.Texts.{HasSpelling, IsSchedule}
use Rattle.replay_log.specs.declared.items.Item.TheVariants as item
use Rattle.replay_log.specs.declared.lines.Line.{Line}
use Rattle.replay_log.specs.declared.lines.Line.TheVariants.{Primary, Secondary, Client, ToSecondary, ToPrimary, StopPrimary, StopSecondary, Report, Ask}
use Rattle.command_inputs.specs.declared.schedule.PrimaryTurn.{PrimaryTurn}
use Rattle.command_inputs.specs.Laws.{ReadsTurns}
use Rattle.command_inputs.specs.Reading.{not_built}
use Rattle.command_inputs.specs.Texts.{read_schedule}
use Rattle.command_inputs.specs.Turns.{IsInLimits, IsTurnSchedule, is_turn, line_of, read_turns, turn_of_line, turns_of}
use Rattle.command_inputs.proofs.TextLemmas.{ok_err, ok_same, schedule_back, schedule_read}

-- ---- lines and turns

all_turns : (turns : List PrimaryTurn) → list_all is_turn (map line_of turns) ≡ true
all_turns [] = refl
all_turns (t ∷ turns) = all_turns turns

turns_again : (turns : List PrimaryTurn) → filter_map turn_of_line (map line_of turns) ≡ turns
turns_again [] = refl
turns_again (t ∷ turns) = ap (λ ts. t ∷ ts) (turns_again turns)

lines_again : (lines : List Line) → list_all is_turn lines ≡ true → map line_of (filter_map turn_of_line lines) ≡ lines
lines_again [] e = refl
lines_again (Primary d i b n ∷ lines) e = ap (λ ls. Primary d i b n ∷ ls) (lines_again lines e)
lines_again (Secondary d i b n ∷ lines) e = let f : false ≡ true = e in cc
lines_again (Client ∷ lines) e = let f : false ≡ true = e in cc
lines_again (ToSecondary ∷ lines) e = let f : false ≡ true = e in cc
lines_again (ToPrimary ∷ lines) e = let f : false ≡ true = e in cc
lines_again (StopPrimary ∷ lines) e = let f : false ≡ true = e in cc
lines_again (StopSecondary ∷ lines) e = let f : false ≡ true = e in cc
lines_again (Report ∷ lines) e = let f : false ≡ true = e in cc
lines_again (Ask ∷ lines) e = let f : false ≡ true = e in cc

pub turns_read : (turns : List PrimaryTurn) → turns_of (map line_of turns) ≡ Ok turns
turns_read turns = rw (all_turns turns, turns_again turns) refl

turns_back : (lines : List Line) (turns : List PrimaryTurn) → turns_of lines ≡ Ok turns → map line_of turns ≡ lines
turns_back lines turns e = go (list_all is_turn lines) refl
  where
    go : (b : Bool) → list_all is_turn lines ≡ b → map line_of turns ≡ lines
    go true h =
        let same : filter_map turn_of_line lines ≡ turns = ok_same _ turns (rw h at e) in
        ap (map line_of) (sym same) ∙ lines_again lines h
    go false h = absurd (ok_err turns not_built (rw h at e))

-- the turns of lines that are all turns
pub turns_all : (lines : List Line) (turns : List PrimaryTurn) → list_all is_turn lines ≡ true
    → turns ≡ filter_map turn_of_line lines → turns_of lines ≡ Ok turns
turns_all lines turns all e = rw (all, e) refl

-- ---- texts

pub turn_schedule_read : (text : List ℕ) (turns : List PrimaryTurn) → IsTurnSchedule turns text
    → read_turns text ≡ Ok turns
unfolding read_turns
turn_schedule_read text turns t = rw (schedule_read text (map line_of turns) t) (turns_read turns)

pub turn_schedule_back : (text : List ℕ) (turns : List PrimaryTurn) → read_turns text ≡ Ok turns
    → IsTurnSchedule turns text
unfolding read_turns
turn_schedule_back text turns e = go (read_schedule text) refl
  where
    go : (r : Result (List Line) Refusal) → read_schedule text ≡ r → IsTurnSchedule turns text
    go (Ok lines) h =
        let P : List Line → Type 0 = λ ls. IsSchedule ls text in
        subst P (sym (turns_back lines turns (rw h at e))) (schedule_back text lines h)
    go (Err refusal) h = absurd (ok_err turns refusal (rw h at e))

pub turns_lem : ReadsTurns
turns_lem text turns = (turn_schedule_back text turns, turn_schedule_read text turns)

-- from the lines to the turns
pub turns_from : (text : List ℕ) (lines : List Line) (r : Result (List PrimaryTurn) Refusal)
    → read_schedule text ≡ Ok lines → turns_of lines ≡ r → read_turns text ≡ r
unfolding read_turns
turns_from text lines r h e = rw h e

pub turns_refused : (text : List ℕ) (refusal : Refusal) → read_schedule text ≡ Err refusal
    → read_turns text ≡ Err refusal
unfolding read_turns
turns_refused text refusal h = rw h refl

-- ---- the numbers that a guest takes

both : (a b : Bool) → (a && b) ≡ true → (a ≡ true) × (b ≡ true)
both true b h = (refl, h)
both false b h = let f : false ≡ true = h in cc

at_most : (a b : ℕ) → nat_le a b ≡ true → a ≤ b
at_most a b h = grind (arith, nat_tests)

numbers_fit : (clock flag requests steps : Bool) → (clock && (flag && (requests && (steps && true)))) ≡ true
    → (requests ≡ true) × (steps ≡ true)
numbers_fit true true requests steps h =
    let p = both requests (steps && true) h in (p.0, (both steps true p.1).0)
numbers_fit true false requests steps h = let f : false ≡ true = h in cc
numbers_fit false flag requests steps h = let f : false ≡ true = h in cc

turn_in_limits : (turn : PrimaryTurn) → is_item_in_range (item.Line (line_of turn)) ≡ true → IsInLimits turn
turn_in_limits turn h =
    let p = numbers_fit (nat_le 0 turn.ticks && nat_le turn.ticks 4294967295)
    (nat_le 0 (flag_number turn.receives) && nat_le (flag_number turn.receives) 1)
    (nat_le 0 turn.requests && nat_le turn.requests 256) (nat_le 0 turn.steps && nat_le turn.steps 100000) h in
    record {
      requests = at_most turn.requests 256 (both (nat_le 0 turn.requests) (nat_le turn.requests 256) p.0).1;
      steps = at_most turn.steps 100000 (both (nat_le 0 turn.steps) (nat_le turn.steps 100000) p.1).1;
    }

all_in_limits : (turns : List PrimaryTurn) → All (HasSpelling schedule_forms) (map item.Line (map line_of turns))
    → All IsInLimits turns
all_in_limits [] h = All-nil IsInLimits
all_in_limits (t ∷ ts) h =
    let rest = map item.Line (map line_of ts) in
    All-cons IsInLimits t ts
    (turn_in_limits t (All-head (HasSpelling schedule_forms) (item.Line (line_of t)) rest h).numbers)
    (all_in_limits ts (All-tail (HasSpelling schedule_forms) (item.Line (line_of t)) rest h))

pub turns_in_limits : (text : List ℕ) (turns : List PrimaryTurn) → read_turns text ≡ Ok turns → All IsInLimits turns
turns_in_limits text turns e = all_in_limits turns (turn_schedule_back text turns e).good
