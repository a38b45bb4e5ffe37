-- Words that are written one after the other.
use Rattle.std.proofs.Common.{◌≡◌, ℕ, ◌+◌, ◌<◌, List, [], ◌∷◌, ◌++◌, flat_map, length, get_or, drop, ◌≤◌, refl, sym, ap, ◌∙◌, arith, append_assoc}
use Rattle.std.specs.List.{join_with_byte}
use Rattle.shared_definitions.specs.Ascii.{space}
use Rattle.replay_log.specs.Forms.{front_places, line_places, answer_places, mark_places, turn_places}
use Rattle.replay_log.specs.Items.{line_form, line_numbers, line_words}
use Rattle.replay_log.specs.Places.{number_count, place_word, places_words}
use Rattle.replay_log.specs.declared.forms.LineForm.{LineForm}
use Rattle.replay_log.specs.declared.forms.LineForm.TheVariants as line
use Rattle.replay_log.specs.declared.forms.AnswerForm.{AnswerForm}
use Rattle.replay_log.specs.declared.forms.AnswerForm.TheVariants as answer
use Rattle.replay_log.specs.declared.forms.MarkForm.{MarkForm}
use Rattle.replay_log.specs.declared.forms.MarkForm.TheVariants as mark
use Rattle.replay_log.specs.declared.forms.TurnForm.{TurnForm}
use Rattle.replay_log.specs.declared.forms.TurnForm.TheVariants as turn
use Rattle.replay_log.specs.declared.forms.Form.{Form}
use Rattle.replay_log.specs.declared.forms.Form.TheVariants as form
use Rattle.replay_log.specs.declared.lines.Line.{Line}
use Rattle.replay_log.specs.declared.places.Place.{Place}
use Rattle.std.proofs.lemmas.List.{append-nil}
use Rattle.std.proofs.lemmas.List.Concat.{flat_map-append}

pub join_cons : (c : ℕ) (w : List ℕ) (ws : List (List ℕ)) → join_with_byte c (w ∷ ws) ≡ w ++ flat_map (λ u. c ∷ u) ws
join_cons c w [] = sym (append-nil w)
join_cons c w (u ∷ us) = ap (λ rest. w ++ (c ∷ rest)) (join_cons c u us)

pub join_append : (c : ℕ) (w : List ℕ) (ws us : List (List ℕ)) →
    join_with_byte c ((w ∷ ws) ++ us) ≡ join_with_byte c (w ∷ ws) ++ flat_map (λ u. c ∷ u) us
join_append c w ws us =
    join_cons c w (ws ++ us) ∙ (ap (λ t. w ++ t) (flat_map-append (λ u. c ∷ u) ws us)
    ∙ (sym (append_assoc w (flat_map (λ u. c ∷ u) ws) (flat_map (λ u. c ∷ u) us)) ∙ ap (λ t. t
    ++ flat_map (λ u. c ∷ u) us) (sym (join_cons c w ws))))

-- no form has more than five places, and each has one
pub length_line : (l : LineForm) → length (line_places l) ≤ 5
length_line line.Primary = omega arith
length_line line.Secondary = omega arith
length_line line.Client = omega arith
length_line line.ToSecondary = omega arith
length_line line.ToPrimary = omega arith
length_line line.StopPrimary = omega arith
length_line line.StopSecondary = omega arith
length_line line.Report = omega arith
length_line line.Ask = omega arith

pub length_answer : (a : AnswerForm) → length (answer_places a) ≤ 5
length_answer answer.Nothing = omega arith
length_answer answer.MadeWithout = omega arith
length_answer answer.MadeWith = omega arith
length_answer answer.AcceptedUnseen = omega arith
length_answer answer.AcceptedSeen = omega arith
length_answer answer.Arp = omega arith
length_answer answer.Dropped = omega arith
length_answer answer.Full = omega arith
length_answer answer.Lost = omega arith
length_answer answer.Heard = omega arith
length_answer answer.HeardFull = omega arith
length_answer answer.HeardBack = omega arith
length_answer answer.Zero = omega arith
length_answer answer.Reported = omega arith

pub length_mark : (m : MarkForm) → length (mark_places m) ≤ 5
length_mark mark.Differ = omega arith
length_mark mark.Restart = omega arith
length_mark mark.Wait = omega arith
length_mark mark.Asked = omega arith
length_mark mark.Committed = omega arith
length_mark mark.Acknowledged = omega arith

pub length_turn : (t : TurnForm) → length (turn_places t) ≤ 5
length_turn turn.Absent = omega arith
length_turn turn.Plain = omega arith
length_turn turn.Seen = omega arith

pub length_words : (ps : List Place) (k : ℕ) (ns : List ℕ) → length (places_words ps k ns) ≡ length ps
length_words [] k ns = refl
length_words (p ∷ ps) k ns = omega (arith, length_words ps (k + number_count p) ns)

pub line_some : (l : LineForm) → 0 < length (line_places l)
line_some line.Primary = omega arith
line_some line.Secondary = omega arith
line_some line.Client = omega arith
line_some line.ToSecondary = omega arith
line_some line.ToPrimary = omega arith
line_some line.StopPrimary = omega arith
line_some line.StopSecondary = omega arith
line_some line.Report = omega arith
line_some line.Ask = omega arith

mark_some : (m : MarkForm) → 0 < length (mark_places m)
mark_some mark.Differ = omega arith
mark_some mark.Restart = omega arith
mark_some mark.Wait = omega arith
mark_some mark.Asked = omega arith
mark_some mark.Committed = omega arith
mark_some mark.Acknowledged = omega arith

turn_some : (t : TurnForm) → 0 < length (turn_places t)
turn_some turn.Absent = omega arith
turn_some turn.Plain = omega arith
turn_some turn.Seen = omega arith

pub front_some : (f : Form) → 0 < length (front_places f)
front_some (form.Line l) = line_some l
front_some (form.Event l a) = line_some l
front_some (form.Mark m) = mark_some m
front_some (form.Turn t) = turn_some t

join_some : (c : ℕ) (ws us : List (List ℕ)) → 0 < length ws →
    join_with_byte c (ws ++ us) ≡ join_with_byte c ws ++ flat_map (λ u. c ∷ u) us
join_some c [] us some = absurd (omega arith)
join_some c (w ∷ ws) us some = join_append c w ws us

-- an answer after its line
pub join_line : (l : Line) (us : List (List ℕ)) → join_with_byte space (line_words l ++ us)
    ≡ join_with_byte space (line_words l) ++ flat_map (λ u. space ∷ u) us
join_line l us = join_some space (line_words l) us (omega (
  arith,
  length_words (line_places (line_form l)) 0
      (line_numbers l),
  line_some (line_form l),
))

-- the words of some places, by the first of them
pub first_words : (ps : List Place) (ns : List ℕ) (d : Place) → 1 ≤ length ps →
    place_word (get_or ps 0 d) 0 ns ++ flat_map (λ w. space
    ∷ w) (places_words (drop 1 ps) (0 + number_count (get_or ps 0 d)) ns)
    ≡ join_with_byte space (places_words ps 0 ns)
first_words [] ns d some = absurd (omega arith)
first_words (p ∷ ps) ns d some = sym (join_cons space (place_word p 0 ns) (places_words ps (0 + number_count p) ns))
