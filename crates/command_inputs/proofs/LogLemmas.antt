-- A log is read as the events that it spells.
use Rattle.std.proofs.Common.{◌≡◌, ℕ, true, false, List, [], ◌∷◌, ◌++◌, Some, Ok, Err, map, refl, sym, ap, subst, ◌∙◌}
use Rattle.std.specs.List.{list_all}
use Rattle.replay_log.specs.Cases.{BadLine, first_bad}
use Rattle.replay_log.specs.Forms.{log_forms}
use Rattle.replay_log.specs.Gathering.{begins_with_mark, is_of_log}
use Rattle.replay_log.specs.Texts.{IsLog, IsText, log_items}
use Rattle.replay_log.specs.declared.items.Item.{Item}
use Rattle.replay_log.specs.declared.items.Item.TheVariants as item
use Rattle.replay_log.specs.declared.records.Mark.{Mark}
use Rattle.replay_log.specs.declared.records.Record.{Record}
use Rattle.replay_log.proofs.ApartLemmas.{log_apart}
use Rattle.replay_log.proofs.GatheringLemmas.{first_of_log, kinds_of_log, log_cons, log_none}
use Rattle.command_inputs.specs.Laws.{ReadsLogs}
use Rattle.command_inputs.specs.Reading.{line_refusal}
use Rattle.command_inputs.specs.Texts.{first_marks, items_of, read_log, records_of}
use Rattle.command_inputs.proofs.TextLemmas.{good_text, is_bad, is_read, read_back}

-- ---- from events to items and back

marks_back : (marks : List Mark) (items : List Item) → first_marks items ≡ []
    → first_marks (map item.Mark marks ++ items) ≡ marks
marks_back [] items none = none
marks_back (m ∷ marks) items none = ap (λ ms. m ∷ ms) (marks_back marks items none)

events_back : (marks : List Mark) (items : List Item) → records_of (map item.Mark marks ++ items) ≡ records_of items
events_back [] items = refl
events_back (m ∷ marks) items = events_back marks items

no_marks : (records : List Record) → first_marks (log_items records) ≡ []
no_marks [] = ap first_marks log_none
no_marks (r ∷ records) = ap first_marks (log_cons r records)

pub records_back : (records : List Record) → records_of (log_items records) ≡ records
records_back [] = ap records_of log_none
records_back (r ∷ records) =
    let items = log_items records in
    ap records_of (log_cons r records)
    ∙ (ap (λ ms. record { line = r.line; answer = r.answer; marks = ms }
    ∷ records_of (map item.Mark r.marks ++ items)) (marks_back r.marks items (no_marks records))
    ∙ ap (λ rs. r ∷ rs) (events_back r.marks items ∙ records_back records))

items_again : (items : List Item) → list_all is_of_log items ≡ true
    → map item.Mark (first_marks items) ++ log_items (records_of items) ≡ items
items_again [] kinds = log_none
items_again (item.Line l ∷ items) kinds = let f : false ≡ true = kinds in cc
items_again (item.Event l a ∷ items) kinds =
    let r : Record = record { line = l; answer = a; marks = first_marks items } in
    log_cons r (records_of items) ∙ ap (λ xs. item.Event l a ∷ xs) (items_again items kinds)
items_again (item.Mark m ∷ items) kinds = ap (λ xs. item.Mark m ∷ xs) (items_again items kinds)
items_again (item.Turn t ∷ items) kinds = let f : false ≡ true = kinds in cc

no_first : (items : List Item) → begins_with_mark items ≡ false → first_marks items ≡ []
no_first [] e = refl
no_first (item.Line l ∷ items) e = refl
no_first (item.Event l a ∷ items) e = refl
no_first (item.Mark m ∷ items) e = let f : true ≡ false = e in cc
no_first (item.Turn t ∷ items) e = refl

log_again : (items : List Item) → list_all is_of_log items ≡ true → begins_with_mark items ≡ false
    → items ≡ log_items (records_of items)
log_again items kinds first =
    sym (ap (λ ms. map item.Mark ms ++ log_items (records_of items)) (sym (no_first items first))
    ∙ items_again items kinds)

-- ---- logs

pub log_read : (text : List ℕ) (log : List Record) → IsLog log text → read_log text ≡ Ok log
unfolding read_log
log_read text log t =
    is_read log_forms records_of (log_items log) text log_apart t ∙ ap (λ (rs : List Record). Ok rs) (records_back log)

pub log_back : (text : List ℕ) (log : List Record) → read_log text ≡ Ok log → IsLog log text
unfolding read_log
log_back text log e =
    let p = read_back log_forms records_of text log e in
    let t = good_text log_forms text p.0 in
    let items = items_of log_forms text in
    let P : List Item → Type 0 = λ xs. IsText log_forms xs text in
    subst P (log_again items (kinds_of_log items t.good) (first_of_log items t.order) ∙ ap log_items (sym p.1)) t

pub log_bad : (text : List ℕ) (bad : BadLine) → first_bad log_forms text ≡ Some bad
    → read_log text ≡ Err (line_refusal bad.line)
unfolding read_log
log_bad text bad e = is_bad log_forms records_of text bad e

pub logs_lem : ReadsLogs
logs_lem text log = (log_back text log, log_read text log)
