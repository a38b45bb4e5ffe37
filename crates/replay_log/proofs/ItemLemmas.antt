-- What a form says with numbers in range is spelled by the form and these numbers.
use Rattle.std.proofs.Common.{◌≡◌, ℕ, ◌≤◌, Bool, true, ◌&&◌, ◌==◌, List, [], ◌++◌, length, get_or, take, drop, nat_le, refl, sym, ap, ◌∙◌, inl, inr, arith}
use Rattle.std.specs.List.{list_all}
use Rattle.std.proofs.lemmas.Bool.{and_parts, and_from, leb-true, cases_eq, eq-eqb, ne_eqb, eqb-true}
use Rattle.std.proofs.lemmas.List.{append-nil, length-drop, take_all, take-append-drop}
use Rattle.replay_log.specs.Forms.{line_places, answer_places, mark_places, turn_places, front_places, back_places, places_of}
use Rattle.replay_log.specs.Items.{flag_number, line_form, line_numbers, answer_form, answer_numbers, mark_form, mark_numbers, frame_form, turn_numbers, item_form, item_words, is_item_in_range, line_words, answer_words, mark_words, turn_words}
use Rattle.replay_log.specs.Making.{line_from, answer_from, mark_from, turn_from, item_from, item_of}
use Rattle.replay_log.specs.Places.{places_words, are_in_range, are_read, words_numbers}
use Rattle.replay_log.specs.Cases.{form_fits, form_counts, form_reads}
use Rattle.replay_log.proofs.FormLemmas.{are_read_append, length_places}
use Rattle.replay_log.proofs.PlaceLemmas.{is_bounded, AreWords, places_read}
use Rattle.replay_log.specs.declared.forms.LineForm.{LineForm}
use Rattle.replay_log.specs.declared.forms.LineForm.TheVariants as line
use Rattle.replay_log.specs.declared.forms.AnswerForm.{AnswerForm}
use Rattle.replay_log.specs.declared.forms.AnswerForm.TheVariants as answer
use Rattle.replay_log.specs.declared.forms.MarkForm.{MarkForm}
use Rattle.replay_log.specs.declared.forms.MarkForm.TheVariants as mark
use Rattle.replay_log.specs.declared.forms.TurnForm.{TurnForm}
use Rattle.replay_log.specs.declared.forms.TurnForm.TheVariants as turn
use Rattle.replay_log.specs.declared.forms.Form.{Form}
use Rattle.replay_log.specs.declared.forms.Form.TheVariants as form

flag_again : (n : ℕ) → n ≤ 1 → flag_number (n == 1) ≡ n
flag_again n le =
    elim (cases_eq n 1) [
      | inl e ↦ rw (eq-eqb n 1 e) (sym e)
      | inr ne ↦ rw (ne_eqb n 1 ne) (omega arith)
    ]

-- a flag that is in range, after another place
flag_in : (before more : Bool) (i : ℕ) → (before && ((nat_le 0 i && nat_le i 1) && more)) ≡ true → i ≤ 1
flag_in before more i h =
    let here = and_parts (nat_le 0 i && nat_le i 1) more (and_parts before ((nat_le 0 i && nat_le i 1) && more) h).1 in
    leb-true i 1 (and_parts (nat_le 0 i) (nat_le i 1) here.0).1

-- ---- a line

pub record IsLineOf (l : LineForm) (ns : List ℕ) : Type 0 where
  pub form : line_form (line_from l ns) ≡ l
  pub words : line_words (line_from l ns) ≡ places_words (line_places l) 0 ns
  pub range : are_in_range (line_places (line_form (line_from l ns))) 0 (line_numbers (line_from l ns)) ≡ true

pub line_made : (l : LineForm) (ns : List ℕ) → are_in_range (line_places l) 0 ns ≡ true → IsLineOf l ns
line_made line.Primary ns h =
    let e = flag_again (get_or ns 1 0) (flag_in _ _ (get_or ns 1 0) h) in
    record { form = refl; words = rw e refl; range = rw e h }
line_made line.Secondary ns h =
    let e = flag_again (get_or ns 1 0) (flag_in _ _ (get_or ns 1 0) h) in
    record { form = refl; words = rw e refl; range = rw e h }
line_made line.Client ns h = record { form = refl; words = refl; range = refl }
line_made line.ToSecondary ns h = record { form = refl; words = refl; range = refl }
line_made line.ToPrimary ns h = record { form = refl; words = refl; range = refl }
line_made line.StopPrimary ns h = record { form = refl; words = refl; range = refl }
line_made line.StopSecondary ns h = record { form = refl; words = refl; range = refl }
line_made line.Report ns h = record { form = refl; words = refl; range = refl }
line_made line.Ask ns h = record { form = refl; words = refl; range = refl }

-- ---- an answer

pub record IsAnswerOf (a : AnswerForm) (ns : List ℕ) : Type 0 where
  pub form : answer_form (answer_from a ns) ≡ a
  pub words : answer_words (answer_from a ns) ≡ places_words (answer_places a) 0 ns
  pub range : are_in_range (answer_places (answer_form (answer_from a ns))) 0 (answer_numbers (answer_from a ns)) ≡ true

-- a number of a range of one
alone : (low n : ℕ) (more : Bool) → ((nat_le low n && nat_le n low) && more) ≡ true → n ≡ low
alone low n more h =
    let both = and_parts (nat_le low n && nat_le n low) more h in
    let bounds = and_parts (nat_le low n) (nat_le n low) both.0 in
    omega (arith, leb-true low n bounds.0, leb-true n low bounds.1)

pub answer_made : (a : AnswerForm) (ns : List ℕ) → are_in_range (answer_places a) 0 ns ≡ true → IsAnswerOf a ns
answer_made answer.Nothing ns h = record { form = refl; words = refl; range = h }
answer_made answer.MadeWithout ns h = record { form = refl; words = refl; range = h }
answer_made answer.MadeWith ns h = record { form = refl; words = refl; range = h }
answer_made answer.AcceptedUnseen ns h = record { form = refl; words = refl; range = h }
answer_made answer.AcceptedSeen ns h = record { form = refl; words = refl; range = h }
answer_made answer.Arp ns h =
    let i = and_parts _ _ h in
    let e : 1 ≡ get_or ns 1 0 = sym (alone 1 (get_or ns 1 0) _ i.1) in
    record { form = refl; words = rw (← e) refl; range = rw (← e) at h }
answer_made answer.Dropped ns h = record { form = refl; words = refl; range = h }
answer_made answer.Full ns h = record { form = refl; words = refl; range = h }
answer_made answer.Lost ns h = record { form = refl; words = refl; range = h }
answer_made answer.Heard ns h = record { form = refl; words = refl; range = h }
answer_made answer.HeardFull ns h = record { form = refl; words = refl; range = h }
answer_made answer.HeardBack ns h = record { form = refl; words = refl; range = h }
answer_made answer.Zero ns h =
    let e : 0 ≡ get_or ns 0 0 = sym (alone 0 (get_or ns 0 0) _ h) in
    record { form = refl; words = rw (← e) refl; range = refl }
answer_made answer.Reported ns h = record { form = refl; words = refl; range = h }

-- ---- a mark and a turn

pub record IsMarkOf (m : MarkForm) (ns : List ℕ) : Type 0 where
  pub form : mark_form (mark_from m ns) ≡ m
  pub words : mark_words (mark_from m ns) ≡ places_words (mark_places m) 0 ns
  pub range : are_in_range (mark_places (mark_form (mark_from m ns))) 0 (mark_numbers (mark_from m ns)) ≡ true

pub mark_made : (m : MarkForm) (ns : List ℕ) → are_in_range (mark_places m) 0 ns ≡ true → IsMarkOf m ns
mark_made mark.Differ ns h = record { form = refl; words = refl; range = h }
mark_made mark.Restart ns h = record { form = refl; words = refl; range = h }
mark_made mark.Wait ns h = record { form = refl; words = refl; range = h }
mark_made mark.Asked ns h = record { form = refl; words = refl; range = h }
mark_made mark.Committed ns h = record { form = refl; words = refl; range = h }
mark_made mark.Acknowledged ns h = record { form = refl; words = refl; range = h }

pub record IsTurnOf (t : TurnForm) (ns : List ℕ) : Type 0 where
  pub form : frame_form (turn_from t ns).frame ≡ t
  pub words : turn_words (turn_from t ns) ≡ places_words (turn_places t) 0 ns
  pub range : are_in_range (turn_places (frame_form (turn_from t ns).frame)) 0 (turn_numbers (turn_from t ns)) ≡ true

pub turn_made : (t : TurnForm) (ns : List ℕ) → are_in_range (turn_places t) 0 ns ≡ true → IsTurnOf t ns
turn_made turn.Absent ns h = record { form = refl; words = refl; range = h }
turn_made turn.Plain ns h = record { form = refl; words = refl; range = h }
turn_made turn.Seen ns h = record { form = refl; words = refl; range = h }

-- ---- any line

pub record IsItemOf (f : Form) (front back : List ℕ) : Type 0 where
  pub form : item_form (item_from f front back) ≡ f
  pub words : item_words (item_from f front back) ≡ places_words (front_places f) 0 front
      ++ places_words (back_places f) 0 back
  pub range : is_item_in_range (item_from f front back) ≡ true

nil_right : (ws : List (List ℕ)) → ws ≡ ws ++ []
nil_right ws = sym (append-nil ws)

pub item_made : (f : Form) (front back : List ℕ) → are_in_range (front_places f) 0 front ≡ true →
    are_in_range (back_places f) 0 back ≡ true →
    IsItemOf f front back
item_made (form.Line l) front back h g =
    let r = line_made l front h in
    record { form = ap form.Line r.form; words = r.words ∙ nil_right _; range = r.range }
item_made (form.Event l a) front back h g =
    let r = line_made l front h in
    let s = answer_made a back g in
    record {
      form = ap (λ (m : LineForm). form.Event m (answer_form (answer_from a back))) r.form ∙ ap (form.Event l) s.form;
      words = rw (r.words, s.words) refl;
      range = and_from _ _ r.range s.range;
    }
item_made (form.Mark m) front back h g =
    let r = mark_made m front h in
    record { form = ap form.Mark r.form; words = r.words ∙ nil_right _; range = r.range }
item_made (form.Turn t) front back h g =
    let r = turn_made t front h in
    record { form = ap form.Turn r.form; words = r.words ∙ nil_right _; range = r.range }

-- ---- the words of a line and its form

line_bounded : (l : LineForm) → list_all is_bounded (line_places l) ≡ true
line_bounded line.Primary = refl
line_bounded line.Secondary = refl
line_bounded line.Client = refl
line_bounded line.ToSecondary = refl
line_bounded line.ToPrimary = refl
line_bounded line.StopPrimary = refl
line_bounded line.StopSecondary = refl
line_bounded line.Report = refl
line_bounded line.Ask = refl

answer_bounded : (a : AnswerForm) → list_all is_bounded (answer_places a) ≡ true
answer_bounded answer.Nothing = refl
answer_bounded answer.MadeWithout = refl
answer_bounded answer.MadeWith = refl
answer_bounded answer.AcceptedUnseen = refl
answer_bounded answer.AcceptedSeen = refl
answer_bounded answer.Arp = refl
answer_bounded answer.Dropped = refl
answer_bounded answer.Full = refl
answer_bounded answer.Lost = refl
answer_bounded answer.Heard = refl
answer_bounded answer.HeardFull = refl
answer_bounded answer.HeardBack = refl
answer_bounded answer.Zero = refl
answer_bounded answer.Reported = refl

mark_bounded : (m : MarkForm) → list_all is_bounded (mark_places m) ≡ true
mark_bounded mark.Differ = refl
mark_bounded mark.Restart = refl
mark_bounded mark.Wait = refl
mark_bounded mark.Asked = refl
mark_bounded mark.Committed = refl
mark_bounded mark.Acknowledged = refl

turn_bounded : (t : TurnForm) → list_all is_bounded (turn_places t) ≡ true
turn_bounded turn.Absent = refl
turn_bounded turn.Plain = refl
turn_bounded turn.Seen = refl

pub front_bounded : (f : Form) → list_all is_bounded (front_places f) ≡ true
front_bounded (form.Line l) = line_bounded l
front_bounded (form.Event l a) = line_bounded l
front_bounded (form.Mark m) = mark_bounded m
front_bounded (form.Turn t) = turn_bounded t

pub back_bounded : (f : Form) → list_all is_bounded (back_places f) ≡ true
back_bounded (form.Line l) = refl
back_bounded (form.Event l a) = answer_bounded a
back_bounded (form.Mark m) = refl
back_bounded (form.Turn t) = refl

-- what stands at both parts of a line
pub record IsParted (f : Form) (words : List (List ℕ)) : Type 0 where
  pub front : AreWords (front_places f) words 0 (words_numbers (front_places f) words)
  pub back : AreWords (back_places f) (drop (length (front_places f)) words) 0 (words_numbers (back_places f) (drop
      (length (front_places f)) words))
  pub whole : take (length (front_places f)) words ++ take (length (back_places f)) (drop (length
      (front_places f)) words) ≡ words

pub parted : (f : Form) (words : List (List ℕ)) → form_reads words f ≡ true → IsParted f words
parted f words h =
    let both = and_parts (form_counts words f) (are_read (places_of f) words) h in
    let counts = and_parts (form_fits words f) (length (places_of f) == length words) both.0 in
    let len = eqb-true (length (places_of f)) (length words) counts.1 in
    let sum = length_places f in
    let n = length (front_places f) in
    let rest = length-drop n words in
    let reads = and_parts (are_read (front_places f) words) (are_read (back_places f) (drop n words)) (sym
    (are_read_append (front_places f) (back_places f) words) ∙ both.1) in
    let all : take (length (back_places f)) (drop n words)
    ≡ drop n words = take_all (length (back_places f)) (drop n words) (omega arith) in
    record {
      front = places_read (front_places f) words [] (front_bounded f) (omega arith) reads.0;
      back = places_read (back_places f) (drop n words) [] (back_bounded f) (omega arith) reads.1;
      whole = rw all (take-append-drop n words);
    }

-- what a line of the form says is spelled by its words
pub record IsItem (f : Form) (ws : List (List ℕ)) : Type 0 where
  pub form : item_form (item_of f ws) ≡ f
  pub words : item_words (item_of f ws) ≡ ws
  pub range : is_item_in_range (item_of f ws) ≡ true

pub item_read : (f : Form) (words : List (List ℕ)) → form_reads words f ≡ true → IsItem f words
unfolding item_of
item_read f words h =
    let p = parted f words h in
    let made = item_made f _ _ p.front.range p.back.range in
    record {
      form = made.form;
      words = made.words ∙ rw (p.front.written, p.back.written) p.whole;
      range = made.range;
    }
