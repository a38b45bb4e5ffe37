-- A text without a bad line is the text of what its lines are read as.
use Rattle.std.proofs.Common.{◌≡◌, ℕ, ◌<◌, zero, suc, Bool, true, false, cond, List, [], ◌∷◌, ◌++◌, Option, Some, None, IsTrue, Result, Ok, Err, map, find, length, refl, sym, ap, subst, ◌∙◌, arith, append_assoc}
use Rattle.std.specs.List.{filter_map, list_any}
use Rattle.std.proofs.lemmas.List.{append-nil}
use Rattle.ascii_text.specs.Cuts.{cut}
use Rattle.file_steps.specs.Plans.{Refusal, is_own}
use Rattle.file_steps.specs.Status.{refusal_of}
use Rattle.file_steps.specs.declared.fault.Fault.{Fault}
use Rattle.file_steps.specs.declared.fault.Fault.TheVariants.{Usage, Refused, Read, Write, NoMemory}
use Rattle.file_steps.specs.declared.fault.Refusal.{Refusal as HeldRefusal}
use Rattle.shared_definitions.specs.Ascii.{newline}
use Rattle.replay_log.specs.Cases.{BadLine, IsFault, bad_at, before_of, before_with, case_of, first_bad, first_bad_after, form_reads}
use Rattle.replay_log.specs.Forms.{schedule_forms, single_forms}
use Rattle.replay_log.specs.Gathering.{line_in, turn_in}
use Rattle.replay_log.specs.Items.{item_words}
use Rattle.replay_log.specs.Making.{item_of}
use Rattle.replay_log.specs.Rows.{Row, rows_of, words_of}
use Rattle.replay_log.specs.Texts.{IsSchedule, IsSingle, IsText}
use Rattle.replay_log.specs.declared.causes.LineFault.{LineFault}
use Rattle.replay_log.specs.declared.causes.LineFault.TheVariants.{Bad}
use Rattle.replay_log.specs.declared.causes.LineWhy.{LineWhy}
use Rattle.replay_log.specs.declared.causes.LineWhy.TheVariants.{Word, Count, Number}
use Rattle.replay_log.specs.declared.forms.Form.{Form}
use Rattle.replay_log.specs.declared.items.Item.{Item}
use Rattle.replay_log.specs.declared.items.Item.TheVariants as item
use Rattle.replay_log.specs.declared.judging.Before.{Before}
use Rattle.replay_log.specs.declared.lines.Line.{Line}
use Rattle.replay_log.specs.declared.turns.Turn.{Turn}
use Rattle.replay_log.proofs.ApartLemmas.{all_apart, schedule_apart, single_apart}
use Rattle.replay_log.proofs.CaseLemmas.{good_line}
use Rattle.replay_log.proofs.FoundLemmas.{not_found}
use Rattle.replay_log.proofs.GatheringLemmas.{lines_again, turns_again}
use Rattle.replay_log.proofs.ReadingLemmas.{IsReadTo, read_none, read_more, read_all}
use Rattle.replay_log.proofs.RowLemmas.{row_ended, row_last, ended_text, ended_shorter, rows_none}
use Rattle.replay_log.proofs.TextLemmas.{none_bad, unique}
use Rattle.command_inputs.specs.Laws.{ReadsSchedules, ReadsSingleRuns}
use Rattle.command_inputs.specs.Reading.{IsRefused, line_refusal}
use Rattle.command_inputs.specs.Texts.{items_of, read_items, read_schedule, read_single}

-- ---- a line that isn't bad

no_bad : (line : ℕ) (o : Option LineWhy) (later : Option BadLine) → bad_at line o later ≡ None
    → (o ≡ None) × (later ≡ None)
no_bad line None later e = (refl, e)
no_bad line (Some why) later e = absurd (some_none (record { line = line; why = why }) e)
  where
    some_none : (b : BadLine) → Some b ≡ None → ⊥
    some_none b h = cc

some_why : (a b : Bool) (later : Option LineWhy) → cond a (Some Word) (cond b (Some Count) (Some Number)) ≡ None → ⊥
some_why true b later e = cc
some_why false true later e = cc
some_why false false later e = cc

-- some form reads it
unread : (forms : List Form) (before : Before) (words : List (List ℕ)) (is_ended : Bool)
    → case_of forms before words is_ended ≡ None → find (form_reads words) forms ≡ None → ⊥
unfolding case_of
unread forms before words is_ended good none =
    let unread_is : list_any (form_reads words) forms ≡ false = not_found (form_reads words) forms none in
    some_why _ _ None (rw unread_is at good)

reader : (forms : List Form) (before : Before) (words : List (List ℕ)) (is_ended : Bool)
    → case_of forms before words is_ended ≡ None → (form : Form) × (find (form_reads words) forms ≡ Some form)
reader forms before words is_ended good = go (find (form_reads words) forms) refl
  where
    go : (o : Option Form) → find (form_reads words) forms ≡ o
        → (form : Form) × (find (form_reads words) forms ≡ Some form)
    go (Some form) e = (form, e)
    go None e = absurd (unread forms before words is_ended good e)

-- ---- a line more

-- what is left to be read after a line, and what the line says
record Goes (forms : List Form) (items : List Item) (text rest next : List ℕ) : Type 0 where
  x : Item
  before : Before
  read : IsReadTo forms before (items ++ x ∷ []) text next
  rest_is : items_of forms rest ≡ x ∷ items_of forms next

items_more : (forms : List Form) (rest next content : List ℕ) (is_ended : Bool) (form : Form)
    → rows_of rest ≡ record { content = content; is_ended = is_ended } ∷ rows_of next
    → find (form_reads (words_of content)) forms ≡ Some form
    → items_of forms rest ≡ item_of form (words_of content) ∷ items_of forms next
unfolding items_of
items_more forms rest next content is_ended form row found = rw (row, found) refl

goes : (forms : List Form) (before : Before) (items : List Item) (text rest content next : List ℕ) (is_ended : Bool)
    → IsReadTo forms before items text rest
    → rows_of rest ≡ record { content = content; is_ended = is_ended } ∷ rows_of next
    → (is_ended ≡ true → rest ≡ content ++ (newline ∷ next)) → first_bad forms text ≡ None
    → Goes forms items text rest next × (is_ended ≡ true)
goes forms before items text rest content next is_ended r row ended none =
    let words = words_of content in
    let P : List Row → Type 0 = λ rows. first_bad_after forms (map item_words items) rows ≡ None in
    let bad : first_bad_after forms (map item_words items) (rows_of rest) ≡ None = sym r.bad ∙ none in
    let first = no_bad _ (case_of forms (before_of (map item_words items)) words is_ended) _ (subst P row bad) in
    let good : case_of forms before words is_ended ≡ None =
    ap (λ (b : Before). case_of forms b words is_ended) r.known ∙ first.0 in
    let form = reader forms before words is_ended good in (
      record {
        x = item_of form.0 words;
        before = before_with before words;
        read = read_more forms before items text rest content next is_ended words form.0 r
            (record { row = row; ended = ended; split = refl; no_case = good; found = form.1 });
        rest_is = items_more forms rest next content is_ended form.0 row form.1;
      },
      (good_line forms before words is_ended good).ended,
    )

-- ---- all lines

items_none : (forms : List Form) → items_of forms [] ≡ []
unfolding items_of
items_none forms = rw rows_none refl

no_true : false ≡ true → ⊥
no_true e = cc

read_rest : (n : ℕ) (forms : List Form) (before : Before) (items : List Item) (text rest : List ℕ) → length rest < n
    → IsReadTo forms before items text rest → first_bad forms text ≡ None
    → IsText forms (items ++ items_of forms rest) text
read_rest zero forms before items text rest few r none = absurd (omega arith)
read_rest (suc n) forms before items text [] few r none =
    let P : List Item → Type 0 = λ xs. IsText forms xs text in
    subst P (sym (append-nil items) ∙ ap (λ xs. items ++ xs) (sym (items_none forms)))
    (read_all forms before items text [] r refl)
read_rest (suc n) forms before items text (x ∷ xs) few r none =
    go (λ next less g. let P : List Item → Type 0 = λ ys. IsText forms ys text in
    subst P (append_assoc items (g.x ∷ []) (items_of forms next) ∙ ap (λ ys. items ++ ys) (sym g.rest_is))
    (read_rest n forms g.before (items ++ g.x ∷ []) text next less g.read none)) (cut newline (x ∷ xs)).after refl
  where
    go : ((next : List ℕ) → length next < n → Goes forms items text (x ∷ xs) next
        → IsText forms (items ++ items_of forms (x ∷ xs)) text)
        → (o : Option (List ℕ)) → o ≡ (cut newline (x ∷ xs)).after
        → IsText forms (items ++ items_of forms (x ∷ xs)) text
    go on (Some next) e =
        let content = (cut newline (x ∷ xs)).before in
        let whole = ended_text (x ∷ xs) content next refl e in
        let less : length next < n = omega (arith, ended_shorter (x ∷ xs) content next whole) in
        on next less (goes forms before items text (x ∷ xs) content next true r
        (row_ended (x ∷ xs) content next refl e) (λ _. whole) none).0
    go on None e =
        let content = (cut newline (x ∷ xs)).before in
        let open_ended : false ≡ true → (x ∷ xs) ≡ content ++ (newline ∷ []) = λ h. absurd (no_true h) in
        absurd (no_true (goes forms before items text (x ∷ xs) content [] false r
        (row_last (x ∷ xs) content (omega arith) refl e) open_ended none).1)

pub good_text : (forms : List Form) (text : List ℕ) → first_bad forms text ≡ None
    → IsText forms (items_of forms text) text
good_text forms text none =
    read_rest (suc (length text)) forms (before_of []) [] text text (omega arith) (read_none forms text) none

pub text_items : (forms : List Form) (items : List Item) (text : List ℕ) → all_apart forms ≡ true
    → IsText forms items text → items_of forms text ≡ items
text_items forms items text apart t =
    unique forms (items_of forms text) items text apart (good_text forms text (none_bad forms items text t)) t

-- ---- readings

pub ok_same : {A : Type 0} (a b : A) → (let r : Result A Refusal = Ok a in r ≡ Ok b) → a ≡ b
ok_same a b e = cc

pub ok_err : {A : Type 0} (a : A) (r : Refusal) → Err r ≡ Ok a → ⊥
ok_err a r e = cc

-- a refusal as the code holds it
pub refused : {A : Type 0} (reading : Result A Refusal) (held : HeldRefusal) (r : Refusal) → reading ≡ Err r
    → refusal_of held ≡ r → IsTrue (is_own held.status) → IsRefused reading (Refused held)
refused reading held r e line own = (e ∙ ap (λ (x : Refusal). Err x) (sym line), own)

-- what one reading is refused by, another is
pub fails_first : {A B : Type 0} (a : Result A Refusal) (b : Result B Refusal)
    → ((r : Refusal) → a ≡ Err r → b ≡ Err r) → (fault : Fault) → IsRefused a fault → IsRefused b fault
fails_first a b same Usage h = h
fails_first a b same (Refused held) h = (same (refusal_of held) h.0, h.1)
fails_first a b same Read h = h
fails_first a b same Write h = h
fails_first a b same NoMemory h = h

-- from a text to what is read of it
pub is_read : {A : Type 0} (forms : List Form) (value : List Item → A) (items : List Item) (text : List ℕ)
    → all_apart forms ≡ true → IsText forms items text → read_items forms value text ≡ Ok (value items)
is_read forms value items text apart t =
    rw (none_bad forms items text t, text_items forms items text apart t) refl

-- and back
pub read_back : {A : Type 0} (forms : List Form) (value : List Item → A) (text : List ℕ) (a : A)
    → read_items forms value text ≡ Ok a → (first_bad forms text ≡ None) × (a ≡ value (items_of forms text))
read_back {A} forms value text a e = go (first_bad forms text) refl
  where
    go : (o : Option BadLine) → first_bad forms text ≡ o
        → (first_bad forms text ≡ None) × (a ≡ value (items_of forms text))
    go None h = (h, sym (ok_same _ a (rw h at e)))
    go (Some bad) h = absurd (ok_err a (line_refusal bad.line) (rw h at e))

-- a bad line
pub bad_from : (fault : LineFault) (line : ℕ) (why : LineWhy) (o : Option BadLine) → fault ≡ Bad line why
    → IsFault fault o → o ≡ Some (record { line = line; why = why })
bad_from fault line why o is h = let P : LineFault → Type 0 = λ f. IsFault f o in subst P is h

pub is_bad : {A : Type 0} (forms : List Form) (value : List Item → A) (text : List ℕ) (bad : BadLine)
    → first_bad forms text ≡ Some bad → read_items forms value text ≡ Err (line_refusal bad.line)
is_bad forms value text bad e = rw e refl

-- ---- schedules and single runs

lines_back : (lines : List Line) → filter_map line_in (map item.Line lines) ≡ lines
lines_back [] = refl
lines_back (l ∷ lines) = ap (λ ls. l ∷ ls) (lines_back lines)

turns_back : (turns : List Turn) → filter_map turn_in (map item.Turn turns) ≡ turns
turns_back [] = refl
turns_back (t ∷ turns) = ap (λ ts. t ∷ ts) (turns_back turns)

pub schedule_read : (text : List ℕ) (lines : List Line) → IsSchedule lines text → read_schedule text ≡ Ok lines
unfolding read_schedule
schedule_read text lines t =
    is_read schedule_forms (filter_map line_in) (map item.Line lines) text schedule_apart t
    ∙ ap (λ (ls : List Line). Ok ls) (lines_back lines)

pub schedule_back : (text : List ℕ) (lines : List Line) → read_schedule text ≡ Ok lines → IsSchedule lines text
unfolding read_schedule
schedule_back text lines e =
    let p = read_back schedule_forms (filter_map line_in) text lines e in
    let t = good_text schedule_forms text p.0 in
    let P : List Item → Type 0 = λ xs. IsText schedule_forms xs text in
    subst P (sym (lines_again (items_of schedule_forms text) t.good) ∙ ap (λ ls. map item.Line ls) (sym p.1)) t

pub schedule_bad : (text : List ℕ) (bad : BadLine) → first_bad schedule_forms text ≡ Some bad
    → read_schedule text ≡ Err (line_refusal bad.line)
unfolding read_schedule
schedule_bad text bad e = is_bad schedule_forms (filter_map line_in) text bad e

pub schedules_lem : ReadsSchedules
schedules_lem text lines = (schedule_back text lines, schedule_read text lines)

pub single_read : (text : List ℕ) (turns : List Turn) → IsSingle turns text → read_single text ≡ Ok turns
unfolding read_single
single_read text turns t =
    is_read single_forms (filter_map turn_in) (map item.Turn turns) text single_apart t
    ∙ ap (λ (ts : List Turn). Ok ts) (turns_back turns)

pub single_back : (text : List ℕ) (turns : List Turn) → read_single text ≡ Ok turns → IsSingle turns text
unfolding read_single
single_back text turns e =
    let p = read_back single_forms (filter_map turn_in) text turns e in
    let t = good_text single_forms text p.0 in
    let P : List Item → Type 0 = λ xs. IsText single_forms xs text in
    subst P (sym (turns_again (items_of single_forms text) t.good) ∙ ap (λ ts. map item.Turn ts) (sym p.1)) t

pub single_bad : (text : List ℕ) (bad : BadLine) → first_bad single_forms text ≡ Some bad
    → read_single text ≡ Err (line_refusal bad.line)
unfolding read_single
single_bad text bad e = is_bad single_forms (filter_map turn_in) text bad e

pub singles_lem : ReadsSingleRuns
singles_lem text turns = (single_back text turns, single_read text turns)
