-- The text of a schedule that is made is bytes.
use Rattle.std.proofs.Common.{ℕ, ◌+◌, ◌/◌, ◌%◌, ◌^◌, ◌<◌, ◌==◌, true, List, [], ◌∷◌, ◌++◌, arith, decimal, flat_map, replicate}
use Rattle.std.proofs.lemmas.Fmt.{decimal_by_steps}
use Rattle.std.specs.List.{AllByRecursion, join_with_byte}
use Rattle.shared_definitions.specs.Ascii.{newline, space}
use Rattle.shared_definitions.specs.Bytes.{AreBytes}
use Rattle.shared_definitions.proofs.ByteLemmas.{AreBytes-append, AreBytes-cons, AreBytes-nil}
use Rattle.replay_log.specs.Items.{item_text, line_words}
use Rattle.replay_log.specs.Texts.{line_text}
use Rattle.replay_log.specs.declared.lines.Line.{Line}
use Rattle.replay_log.specs.declared.lines.Line.TheVariants.{Primary, Secondary, Client, ToSecondary, ToPrimary, Ask}
use Rattle.input_maker.specs.Draws.{draws}
use Rattle.input_maker.specs.Made.{ask_lines, client_lines, delivery_lines, first_line, made_lines, schedule_text, second_line, turn_lines}
use Rattle.input_maker.proofs.ScheduleLemmas.{all_each, all_if, all_same, all_then}

-- the digits of a number
bytes_decimal : (n : ℕ) → n < 2 ^ 64 → AreBytes (decimal n)
bytes_decimal n small =
    decimal_by_steps (λ m digits. AreBytes digits)
    (λ m below. AreBytes-cons (48 + m) [] (omega arith) AreBytes-nil)
    (λ m digits above bytes.
    AreBytes-append digits ((48 + m % 10) ∷ []) bytes (AreBytes-cons (48 + m % 10) [] (omega arith) AreBytes-nil)) n
    small

-- words, with a space between each two
joined : (words : List (List ℕ)) → AllByRecursion AreBytes words → AreBytes (join_with_byte space words)
joined [] h = AreBytes-nil
joined (x ∷ []) h = h.0
joined (x ∷ (y ∷ words)) h =
    AreBytes-append x (space ∷ join_with_byte space (y ∷ words)) h.0
    (AreBytes-cons space (join_with_byte space (y ∷ words)) (omega arith) (joined (y ∷ words) h.1))

bytes_line : (l : Line) → AllByRecursion AreBytes (line_words l) → AreBytes (line_text l)
unfolding item_text
bytes_line l words =
    AreBytes-append (join_with_byte space (line_words l)) (newline ∷ []) (joined (line_words l) words)
    (AreBytes-cons newline [] (omega arith) AreBytes-nil)

letter : (x : ℕ) → x < 256 → AreBytes (x ∷ [])
letter x small = AreBytes-cons x [] small AreBytes-nil

bytes_primary : (d : ℕ) → d < 1024 → AreBytes (line_text (Primary d true 8 2000))
bytes_primary d small = bytes_line (Primary d true 8 2000) (
  letter 80 (omega arith),
  (
    bytes_decimal d (omega arith),
    (bytes_decimal 1 (omega arith), (bytes_decimal 8 (omega arith), (bytes_decimal 2000 (omega arith), tt))),
  ),
)

bytes_secondary : (d : ℕ) → d < 1024 → AreBytes (line_text (Secondary d true 8 2000))
bytes_secondary d small = bytes_line (Secondary d true 8 2000) (
  letter 83 (omega arith),
  (
    bytes_decimal d (omega arith),
    (bytes_decimal 1 (omega arith), (bytes_decimal 8 (omega arith), (bytes_decimal 2000 (omega arith), tt))),
  ),
)

bytes_turn : (x : ℕ) → AllByRecursion (λ l. AreBytes (line_text l)) (turn_lines x)
bytes_turn x =
    let P : Line → Type 0 = λ l. AreBytes (line_text l) in
    all_then P (client_lines x) (first_line x ∷ (second_line x ∷ (delivery_lines ++ ask_lines x)))
    (all_if P (x % 4 == 0) Client (bytes_line Client (letter 99 (omega arith), tt))) (
      bytes_primary (x / 2 ^ 8 % 1024) (omega arith),
      (
        bytes_secondary (x / 2 ^ 18 % 1024) (omega arith),
        all_then P delivery_lines (ask_lines x)
            (all_then P (replicate 16 ToSecondary) (replicate 16 ToPrimary)
            (all_same P 16 ToSecondary (bytes_line ToSecondary (letter 62 (omega arith), tt)))
            (all_same P 16 ToPrimary (bytes_line ToPrimary (letter 60 (omega arith), tt))))
            (all_if P (x % 64 == 1) Ask (bytes_line Ask (letter 107 (omega arith), tt))),
      ),
    )

bytes_lines : (lines : List Line) → AllByRecursion (λ l. AreBytes (line_text l)) lines
    → AreBytes (schedule_text lines)
bytes_lines [] h = AreBytes-nil
bytes_lines (l ∷ lines) h =
    AreBytes-append (line_text l) (schedule_text lines) h.0 (bytes_lines lines h.1)

pub bytes_text : (number turns : ℕ) → AreBytes (schedule_text (made_lines number turns))
unfolding made_lines
bytes_text number turns =
    bytes_lines (flat_map turn_lines (draws turns number))
    (all_each (λ l. AreBytes (line_text l)) turn_lines bytes_turn (draws turns number))
