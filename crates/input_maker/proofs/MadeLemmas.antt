-- The lines of one turn more, and one frame more.
use Rattle.std.proofs.Common.{◌≡◌, ℕ, ◌+◌, List, [], ◌∷◌, ◌++◌, add-one, ap, arith, cond, flat_map, length, map, refl, sym, ◌∙◌}
use Rattle.std.proofs.lemmas.List.{append-nil}
use Rattle.std.proofs.lemmas.List.Concat.{flat_map-append}
use Rattle.std.proofs.lemmas.List.FromFn.{length-map-range_with_len, map-range_with_len_more}
use Rattle.std.proofs.lemmas.List.Sums.{sum_by_push}
use Rattle.std.specs.List.{count_by, range_with_len}
use Rattle.replay_log.specs.declared.lines.Line.{Line}
use Rattle.replay_log.specs.declared.lines.Line.TheVariants.{Client}
use Rattle.input_maker.specs.Client.{client_frame}
use Rattle.input_maker.specs.Draws.{draw, drawn, draws}
use Rattle.input_maker.specs.Made.{frames_for, is_client, turn_lines}

-- ---- turns

pub draws_more : (k number : ℕ) → draws (k + 1) number ≡ draws k number ++ drawn (k + 1) number ∷ []
draws_more k number = map-range_with_len_more (λ n. drawn n number) 1 k (k + 1) (omega arith)

pub lines_more : (k number : ℕ) → flat_map turn_lines (draws (k + 1) number)
    ≡ flat_map turn_lines (draws k number) ++ turn_lines (drawn (k + 1) number)
lines_more k number =
    ap (flat_map turn_lines) (draws_more k number)
    ∙ (flat_map-append turn_lines (draws k number) (drawn (k + 1) number ∷ [])
    ∙ ap (λ ls. flat_map turn_lines (draws k number) ++ ls) (append-nil (turn_lines (drawn (k + 1) number))))

pub drawn_more : (k number : ℕ) → drawn (k + 1) number ≡ draw (drawn k number)
drawn_more k number = rw add-one refl

pub lines_next : (k number x : ℕ) → x ≡ drawn (k + 1) number → (lines : List Line)
    → lines ≡ flat_map turn_lines (draws k number)
    → lines ++ turn_lines x ≡ flat_map turn_lines (draws (k + 1) number)
lines_next k number x last lines are =
    ap (λ ls. ls ++ turn_lines x) are
    ∙ (ap (λ y. flat_map turn_lines (draws k number) ++ turn_lines y) last ∙ sym (lines_more k number))

-- ---- frames

pub length-frames_for : (lines : List Line) → length (frames_for lines) ≡ count_by is_client lines
length-frames_for lines = length-map-range_with_len client_frame 0 (count_by is_client lines)

frames_push : (lines : List Line)
    → frames_for (lines ++ Client ∷ []) ≡ frames_for lines ++ client_frame (count_by is_client lines) ∷ []
frames_push lines =
    ap (λ n. map client_frame (range_with_len 0 n)) (sum_by_push (λ l. cond (is_client l) 1 0) lines Client)
    ∙ map-range_with_len_more client_frame 0 (count_by is_client lines) (count_by is_client lines) (omega arith)

module _ (frames : List (List ℕ)) (lines : List Line) (is : frames ≡ frames_for lines) where
  pub length_is : length frames ≡ count_by is_client lines
  length_is = ap length is ∙ length-frames_for lines

  pub frames_more : frames ++ client_frame (length frames) ∷ [] ≡ frames_for (lines ++ Client ∷ [])
  frames_more = rw length_is (ap (λ fs. fs ++ client_frame (count_by is_client lines) ∷ []) is
      ∙ sym (frames_push lines))
