-- A text of lines that have spellings has no bad line, and is the text of no others.
use Rattle.std.proofs.Common.{◌≡◌, ℕ, ◌+◌, ◌<◌, true, false, not, ◌&&◌, ◌==◌, List, [], ◌∷◌, ◌++◌, All, Some, None, map, flat_map, length, drop, refl, sym, ap, ◌∙◌, arith, append_assoc, length-append}
use Rattle.std.specs.List.{list_all, slice_split, join_with_byte}
use Rattle.std.proofs.lemmas.Bool.{and_parts, and_from, eq-eqb, ne_eqb, not-true}
use Rattle.std.proofs.lemmas.List.{append-nil}
use Rattle.std.proofs.lemmas.List.Elements.{All-nil, All-cons, All-head, All-tail}
use Rattle.std.proofs.lemmas.List.Folds.{list_all-append}
use Rattle.std.proofs.lemmas.List.Splits.{slice_split_none, slice_split_at}
use Rattle.ascii_text.specs.Cuts.{Halves, cut}
use Rattle.ascii_text.proofs.CutLemmas.{cut_append}
use Rattle.shared_definitions.specs.Ascii.{newline, space}
use Rattle.replay_log.specs.Cases.{before_of, case_of, first_bad, first_bad_after, form_fits, form_counts, form_reads, are_in_order, stands_after, is_early_mark, is_second_stop, is_false_report}
use Rattle.replay_log.specs.Forms.{front_places, back_places, places_of, line_places}
use Rattle.replay_log.specs.Items.{line_form, line_numbers, answer_form, answer_numbers, mark_form, mark_numbers, frame_form, turn_numbers, item_form, item_words, item_text, is_item_in_range}
use Rattle.replay_log.specs.Making.{line_from, answer_from, mark_from, turn_from, item_from, item_of}
use Rattle.replay_log.specs.Places.{places_words, are_in_range, fit_all, are_read, words_numbers}
use Rattle.replay_log.specs.Rows.{rows_of, words_of}
use Rattle.replay_log.specs.Texts.{HasSpelling, IsText}
use Rattle.colo_base.specs.declared.fault.Cause.TheVariants as cause
use Rattle.replay_log.specs.Forms.{answer_places, mark_places, turn_places}
use Rattle.replay_log.specs.declared.forms.Form.{Form}
use Rattle.replay_log.specs.declared.items.Item.{Item}
use Rattle.replay_log.specs.declared.items.Item.TheVariants as item
use Rattle.replay_log.specs.declared.lines.Line.{Line}
use Rattle.replay_log.specs.declared.lines.Line.TheVariants.{Primary, Secondary, Client, ToSecondary, ToPrimary, StopPrimary, StopSecondary, Report, Ask}
use Rattle.replay_log.specs.declared.records.Answer.{Answer}
use Rattle.replay_log.specs.declared.records.Answer.TheVariants.{Nothing, Made, Accepted, Arp, Dropped, Full, Lost, Heard, HeardBack, Zero, Reported}
use Rattle.replay_log.specs.declared.records.Mark.{Mark}
use Rattle.replay_log.specs.declared.records.Mark.TheVariants.{Captured, Committed, Acknowledged}
use Rattle.replay_log.specs.declared.turns.Turn.{Turn}
use Rattle.replay_log.specs.declared.turns.TurnFrame.{TurnFrame}
use Rattle.replay_log.specs.declared.turns.TurnFrame.TheVariants.{Absent, Plain, Seen}
use Rattle.replay_log.proofs.ApartLemmas.{all_apart, same_form}
use Rattle.replay_log.proofs.CaseLemmas.{no_case_by}
use Rattle.replay_log.proofs.FormLemmas.{fit_all_append, are_read_append}
use Rattle.replay_log.proofs.FoundLemmas.{some_passes}
use Rattle.replay_log.proofs.ItemLemmas.{front_bounded, back_bounded}
use Rattle.replay_log.proofs.RowLemmas.{row_ended, rows_none}
use Rattle.replay_log.proofs.SpellingLemmas.{is_other, is_free, apart_free, picked, places_written}
use Rattle.replay_log.proofs.WritingLemmas.{length_words, front_some}

-- ---- what was written is read as what it was written of

line_again : (l : Line) → line_from (line_form l) (picked (line_places (line_form l)) 0 (line_numbers l)) ≡ l
line_again (Primary d true b n) = refl
line_again (Primary d false b n) = refl
line_again (Secondary d true b n) = refl
line_again (Secondary d false b n) = refl
line_again Client = refl
line_again ToSecondary = refl
line_again ToPrimary = refl
line_again StopPrimary = refl
line_again StopSecondary = refl
line_again Report = refl
line_again Ask = refl

answer_again : (a : Answer) → answer_from (answer_form a) (picked (answer_places (answer_form a)) 0
    (answer_numbers a)) ≡ a
answer_again Nothing = refl
answer_again (Made None released) = refl
answer_again (Made (Some frame) released) = refl
answer_again (Accepted index None trim released) = refl
answer_again (Accepted index (Some seen) trim released) = refl
answer_again (Arp index) = refl
answer_again (Dropped index why) = refl
answer_again (Full index) = refl
answer_again (Lost index) = refl
answer_again (Heard kind true) = refl
answer_again (Heard kind false) = refl
answer_again (HeardBack kind sent released) = refl
answer_again Zero = refl
answer_again (Reported released) = refl

mark_again : (m : Mark) → mark_from (mark_form m) (picked (mark_places (mark_form m)) 0 (mark_numbers m)) ≡ m
mark_again (Captured e cause.Differ) = refl
mark_again (Captured e cause.Restart) = refl
mark_again (Captured e cause.Wait) = refl
mark_again (Captured e cause.Asked) = refl
mark_again (Committed e) = refl
mark_again (Acknowledged e) = refl

turn_again : (t : Turn) → turn_from (frame_form t.frame) (picked (turn_places (frame_form t.frame)) 0
    (turn_numbers t)) ≡ t
turn_again t = by t.d t.frame t.b t.n
  where
    by : (d : ℕ) (frame : TurnFrame) (b n : ℕ) →
        turn_from (frame_form frame) (picked (turn_places (frame_form frame)) 0 (turn_numbers
        (record { d = d; frame = frame; b = b; n = n }))) ≡ record { d = d; frame = frame; b = b; n = n }
    by d Absent b n = refl
    by d (Plain index) b n = refl
    by d (Seen index opening) b n = refl

-- the numbers of both parts of a line
abbrev front_numbers : Item → List ℕ
front_numbers (item.Line l) = line_numbers l
front_numbers (item.Event l a) = line_numbers l
front_numbers (item.Mark m) = mark_numbers m
front_numbers (item.Turn t) = turn_numbers t

abbrev back_numbers : Item → List ℕ
back_numbers (item.Line l) = []
back_numbers (item.Event l a) = answer_numbers a
back_numbers (item.Mark m) = []
back_numbers (item.Turn t) = []

abbrev front_words : Item → List (List ℕ)
front_words x = places_words (front_places (item_form x)) 0 (front_numbers x)

abbrev back_words : Item → List (List ℕ)
back_words x = places_words (back_places (item_form x)) 0 (back_numbers x)

words_parted : (x : Item) → item_words x ≡ front_words x ++ back_words x
words_parted (item.Line l) = sym (append-nil (item_words (item.Line l)))
words_parted (item.Event l a) = refl
words_parted (item.Mark m) = sym (append-nil (item_words (item.Mark m)))
words_parted (item.Turn t) = sym (append-nil (item_words (item.Turn t)))

range_parted : (x : Item) → is_item_in_range x ≡ true →
    (are_in_range (front_places (item_form x)) 0 (front_numbers x)
    ≡ true) × (are_in_range (back_places (item_form x)) 0 (back_numbers x) ≡ true)
range_parted (item.Line l) h = (h, refl)
range_parted (item.Event l a) h = and_parts _ _ h
range_parted (item.Mark m) h = (h, refl)
range_parted (item.Turn t) h = (h, refl)

item_again : (x : Item) → item_from (item_form x) (picked (front_places (item_form x)) 0 (front_numbers x)) (picked
    (back_places (item_form x)) 0 (back_numbers x)) ≡ x
item_again (item.Line l) = ap item.Line (line_again l)
item_again (item.Event l a) = ap (λ m. item.Event m (answer_from (answer_form a) (picked (answer_places
    (answer_form a)) 0 (answer_numbers a)))) (line_again l) ∙ ap (item.Event l) (answer_again a)
item_again (item.Mark m) = ap item.Mark (mark_again m)
item_again (item.Turn t) = ap item.Turn (turn_again t)

-- a line that is spelled has its form, and says what it was
pub record IsSpelled (x : Item) : Type 0 where
  pub fits : form_fits (item_words x) (item_form x) ≡ true
  pub counts : form_counts (item_words x) (item_form x) ≡ true
  pub reads : form_reads (item_words x) (item_form x) ≡ true
  pub again : item_of (item_form x) (item_words x) ≡ x
  pub no_space : list_all (is_free space) (item_words x) ≡ true
  pub no_newline : list_all (is_free newline) (item_words x) ≡ true

pub item_spelled : (x : Item) → is_item_in_range x ≡ true → IsSpelled x
unfolding item_of
item_spelled x h =
    let f = item_form x in
    let ranges = range_parted x h in
    let words = words_parted x in
    let front = places_written (front_places f) 0 (front_numbers x) (back_words x) (front_bounded f) ranges.0 in
    let back = places_written (back_places f) 0 (back_numbers x) [] (back_bounded f) ranges.1 in
    let alone : back_words x ++ [] ≡ back_words x = append-nil (back_words x) in
    let back_fit : fit_all (back_places f) (back_words x)
    ≡ true = ap (λ ws. fit_all (back_places f) ws) (sym alone) ∙ back.fit in
    let back_read : are_read (back_places f) (back_words x)
    ≡ true = ap (λ ws. are_read (back_places f) ws) (sym alone) ∙ back.read in
    let back_numbers_read : words_numbers (back_places f) (back_words x)
    ≡ picked (back_places f) 0 (back_numbers x) = ap (λ ws. words_numbers (back_places f) ws) (sym alone) ∙
    back.numbers in
    let left : drop (length (front_places f)) (item_words x)
    ≡ back_words x = ap (λ ws. drop (length (front_places f)) ws) words ∙ front.left in
    let fit : form_fits (item_words x) f ≡ true =
    fit_all_append (front_places f) (back_places f) (item_words x)
    ∙ and_from _ _ (ap (λ ws. fit_all (front_places f) ws) words ∙
    front.fit) (ap (λ ws. fit_all (back_places f) ws) left ∙ back_fit) in
    let read : are_read (places_of f) (item_words x) ≡ true =
    are_read_append (front_places f) (back_places f) (item_words x)
    ∙ and_from _ _ (ap (λ ws. are_read (front_places f) ws) words ∙
    front.read) (ap (λ ws. are_read (back_places f) ws) left ∙ back_read) in
    let len : length (places_of f) ≡ length (item_words x) =
    length-append (front_places f) (back_places f)
    ∙ sym (ap length words ∙ (length-append (front_words x) (back_words x) ∙
    (ap (λ n. n + length (back_words x)) (length_words (front_places f) 0 (front_numbers x)) ∙
    ap (λ n. length (front_places f) + n) (length_words (back_places f) 0 (back_numbers x))))) in
    let count : form_counts (item_words x) f ≡ true = and_from _ _ fit (eq-eqb (length (places_of f)) (length
    (item_words x)) len) in
    record {
      fits = fit;
      counts = count;
      reads = and_from _ _ count read;
      again =
          ap (λ ns. item_from f ns (words_numbers (back_places f) (drop (length (front_places f)) (item_words x))))
          (ap (λ ws. words_numbers (front_places f) ws) words ∙ front.numbers)
          ∙ (ap (λ ns. item_from f (picked (front_places f) 0 (front_numbers x)) ns) (ap (λ ws. words_numbers
          (back_places f) ws) left ∙ back_numbers_read) ∙ item_again x);
      no_space = ap (λ ws. list_all (is_free space) ws) words ∙
          (list_all-append (is_free space) (front_words x) (back_words x) ∙ and_from _ _ front.no_space back.no_space);
      no_newline = ap (λ ws. list_all (is_free newline) ws) words ∙
          (list_all-append (is_free newline) (front_words x) (back_words x) ∙
          and_from _ _ front.no_newline back.no_newline);
    }

-- ---- words joined and split again

unlike : (c : ℕ) (word : List ℕ) → is_free c word ≡ true → All (λ byte. (byte == c) ≡ false) word
unlike c [] h = All-nil (λ byte. (byte == c) ≡ false)
unlike c (byte ∷ word) h =
    let both = and_parts (is_other c byte) (is_free c word) h in
    All-cons (λ b. (b == c) ≡ false) byte word (not-true (byte == c) both.0) (unlike c word both.1)

split_join : (c : ℕ) (w : List ℕ) (ws : List (List ℕ)) → list_all (is_free c) (w ∷ ws) ≡ true →
    slice_split (λ byte. byte == c) (join_with_byte c (w ∷ ws)) ≡ w ∷ ws
split_join c w [] h =
    let both = and_parts (is_free c w) true h in
    slice_split_none (λ byte. byte == c) w (unlike c w both.0)
split_join c w (u ∷ us) h =
    let both = and_parts (is_free c w) (list_all (is_free c) (u ∷ us)) h in
    slice_split_at (λ byte. byte == c) w c (join_with_byte c (u ∷ us)) (unlike c w both.0) (eq-eqb c c refl) ∙
    ap (λ rest. w ∷ rest) (split_join c u us both.1)

split_some : (c : ℕ) (ws : List (List ℕ)) → 0 < length ws → list_all (is_free c) ws ≡ true →
    slice_split (λ byte. byte == c) (join_with_byte c ws) ≡ ws
split_some c [] some h = absurd (omega arith)
split_some c (w ∷ ws) some h = split_join c w ws h

free_join : (c d : ℕ) (ws : List (List ℕ)) → (d ≡ c → ⊥) → list_all (is_free c) ws ≡ true →
    is_free c (join_with_byte d ws) ≡ true
free_join c d [] ne h = refl
free_join c d (w ∷ []) ne h = (and_parts (is_free c w) true h).0
free_join c d (w ∷ u ∷ us) ne h =
    let both = and_parts (is_free c w) (list_all (is_free c) (u ∷ us)) h in
    list_all-append (is_other c) w (d ∷ join_with_byte d (u ∷ us))
    ∙ and_from (is_free c w) _ both.0 (and_from (is_other c d) (is_free c (join_with_byte d (u
    ∷ us))) (ap not (ne_eqb d c ne)) (free_join c d (u ∷ us) ne both.1))

some_words : (x : Item) → is_item_in_range x ≡ true → 0 < length (item_words x)
some_words x h =
    let s = item_spelled x h in
    let words = words_parted x in
    omega (
      arith,
      ap length words,
      length-append (front_words x) (back_words x),
      length_words (front_places
          (item_form x)) 0 (front_numbers x),
      front_some (item_form x),
    )

-- the line without its newline
abbrev line_of : Item → List ℕ
line_of x = join_with_byte space (item_words x)

-- a text that begins with a line
pub record BeginsWith (x : Item) (rest : List ℕ) : Type 0 where
  pub cut : cut newline (item_text x ++ rest) ≡ record { before = line_of x; after = Some rest }
  pub rows : rows_of (item_text x ++ rest) ≡ record { content = line_of x; is_ended = true } ∷ rows_of rest
  pub words : words_of (line_of x) ≡ item_words x

begins : (x : Item) (rest : List ℕ) → is_item_in_range x ≡ true → BeginsWith x rest
unfolding item_text words_of
begins x rest h =
    let s = item_spelled x h in
    let apart = apart_free newline (line_of x) (free_join newline space (item_words x) (λ e. omega
    (arith, e)) s.no_newline) in
    let e : cut newline (item_text x ++ rest) ≡ record { before = line_of x; after = Some rest } = ap
    (λ t. cut newline t) (append_assoc (line_of x) (newline ∷ []) rest) ∙
    cut_append newline (line_of x) rest apart in
    record {
      cut = e;
      rows = row_ended (item_text x ++ rest) (line_of x) rest (sym (ap (λ (h : Halves). h.before) e)) (sym (ap (λ
          (h : Halves). h.after) e));
      words = split_some space (item_words x) (some_words x h) s.no_space;
    }

-- ---- no line of such a text is bad

good_case : (forms : List Form) (earlier : List (List (List ℕ))) (x : Item) → HasSpelling forms x →
    stands_after (before_of earlier) (item_words x) ≡ true →
    case_of forms (before_of earlier) (item_words x) true ≡ None
good_case forms earlier x good order =
    let s = item_spelled x good.numbers in
    let ws = item_words x in
    let b = before_of earlier in
    let first = and_parts (not (is_early_mark b ws)) (not (is_second_stop b ws) && not (is_false_report b ws)) order in
    let second = and_parts (not (is_second_stop b ws)) (not (is_false_report b ws)) first.1 in
    no_case_by forms b ws true
    (record {
      early = not-true _ first.0;
      fits = some_passes (form_fits ws) forms (item_form x) good.form s.fits;
      ended = refl;
      counts = some_passes (form_counts ws) forms (item_form x) good.form s.counts;
    })
    (some_passes (form_reads ws) forms (item_form x) good.form s.reads) (not-true _ second.0) (not-true _ second.1)

none_bad_after : (forms : List Form) (earlier : List (List (List ℕ))) (items : List Item) →
    All (HasSpelling forms) items → are_in_order earlier (map item_words items) ≡ true →
    first_bad_after forms earlier (rows_of (flat_map item_text items)) ≡ None
none_bad_after forms earlier [] good order = rw rows_none refl
none_bad_after forms earlier (x ∷ xs) good order =
    let first = All-head (HasSpelling forms) x xs good in
    let both = and_parts (stands_after (before_of earlier) (item_words x)) (are_in_order (earlier
    ++ item_words x ∷ []) (map item_words xs)) order in
    let b = begins x (flat_map item_text xs) first.numbers in
    rw (b.rows, b.words, good_case forms earlier x first both.0)
    (none_bad_after forms (earlier ++ item_words x ∷ []) xs (All-tail (HasSpelling forms) x xs good) both.1)

pub none_bad : (forms : List Form) (items : List Item) (text : List ℕ) → IsText forms items text →
    first_bad forms text ≡ None
unfolding first_bad
none_bad forms items text t = rw t.spelled (none_bad_after forms [] items t.good t.order)

-- ---- a text is that of one list

same_item : (forms : List Form) (x y : Item) → all_apart forms ≡ true → HasSpelling forms x → HasSpelling forms y →
    item_words x ≡ item_words y → x ≡ y
same_item forms x y apart gx gy e =
    let sx = item_spelled x gx.numbers in
    let sy = item_spelled y gy.numbers in
    let form : item_form x ≡ item_form y = same_form forms (item_words x) (item_form x)
    (item_form y) apart gx.form gy.form sx.reads (ap (λ ws. form_reads ws (item_form y)) e ∙ sy.reads) in
    sym sx.again ∙ (ap (λ f. item_of f (item_words x)) form ∙ (ap (λ ws. item_of (item_form y) ws) e ∙ sy.again))

no_line : (x : Item) (rest : List ℕ) → [] ≡ item_text x ++ rest → ⊥
unfolding item_text
no_line x rest e = absurd (omega (
  arith,
  ap length e,
  length-append (line_of x
      ++ newline ∷ []) rest,
  length-append (line_of x) (newline ∷ []),
))

unique_after : (forms : List Form) (xs ys : List Item) → all_apart forms ≡ true → All (HasSpelling forms) xs →
    All (HasSpelling forms) ys →
    flat_map item_text xs ≡ flat_map item_text ys → xs ≡ ys
unique_after forms [] [] apart gx gy e = refl
unique_after forms [] (y ∷ ys) apart gx gy e = absurd (no_line y (flat_map item_text ys) e)
unique_after forms (x ∷ xs) [] apart gx gy e = absurd (no_line x (flat_map item_text xs) (sym e))
unique_after forms (x ∷ xs) (y ∷ ys) apart gx gy e =
    let hx = All-head (HasSpelling forms) x xs gx in
    let hy = All-head (HasSpelling forms) y ys gy in
    let bx = begins x (flat_map item_text xs) hx.numbers in
    let by = begins y (flat_map item_text ys) hy.numbers in
    let halves : record { before = line_of x; after = Some (flat_map item_text xs) }
    ≡ record { before = line_of y; after = Some (flat_map item_text ys) } = sym bx.cut ∙
    (ap (λ t. cut newline t) e ∙ by.cut) in
    let front : line_of x ≡ line_of y = ap (λ (h : Halves). h.before) halves in
    let back : Some (flat_map item_text xs) ≡ Some (flat_map item_text ys) = ap (λ (h : Halves). h.after) halves in
    let rest : flat_map item_text xs ≡ flat_map item_text ys = cc in
    let words : item_words x ≡ item_words y = sym bx.words ∙ (ap words_of front ∙ by.words) in
    let head = same_item forms x y apart hx hy words in
    let tail = unique_after forms xs ys apart (All-tail (HasSpelling forms) x xs gx) (All-tail
    (HasSpelling forms) y ys gy) rest in
    ap (λ z. z ∷ xs) head ∙ ap (λ zs. y ∷ zs) tail

pub unique : (forms : List Form) (xs ys : List Item) (text : List ℕ) → all_apart forms ≡ true → IsText forms xs text →
    IsText forms ys text → xs ≡ ys
unique forms xs ys text apart tx ty = unique_after forms xs ys apart tx.good ty.good (sym tx.spelled ∙ ty.spelled)
