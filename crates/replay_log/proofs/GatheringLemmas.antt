-- A text's lines are those of one kind.
use Rattle.std.proofs.Common.{◌≡◌, ℕ, zero, suc, ◌+◌, ◌-◌, ◌<◌, Bool, true, false, not, List, [], ◌∷◌, ◌++◌, All, map, flat_map, Option, length, take, get_or, refl, sym, ap, subst, ◌∙◌, inl, inr, arith, append_assoc}
use Rattle.std.specs.List.{Contains, list_all, filter_map}
use Rattle.std.proofs.lemmas.Bool.{cases_Bool, true≢false, and_parts, and_from}
use Rattle.std.proofs.lemmas.List.{append-nil, map-append, take_more, length-take}
use Rattle.std.proofs.Math.ListN.{set}
use Rattle.std.proofs.lemmas.List.Concat.{flat_map-append}
use Rattle.std.proofs.lemmas.List.Elements.{All-head, All-tail}
use Rattle.std.proofs.lemmas.List.Folds.{list_all_at}
use Rattle.replay_log.specs.Cases.{are_in_order, before_of, begins_with, stands_after, is_early_mark}
use Rattle.replay_log.specs.Forms.{schedule_forms, log_forms, single_forms}
use Rattle.replay_log.specs.Gathering.{line_in, turn_in, is_of_log, is_mark, begins_with_mark}
use Rattle.replay_log.specs.Items.{item_form, item_words}
use Rattle.replay_log.specs.Texts.{HasSpelling, IsText, record_items, log_items}
use Rattle.replay_log.specs.declared.forms.Form.{Form}
use Rattle.replay_log.specs.declared.forms.Form.TheVariants as form
use Rattle.replay_log.specs.declared.items.Item.{Item}
use Rattle.replay_log.specs.declared.items.Item.TheVariants as item
use Rattle.replay_log.specs.declared.keywords.Keyword.TheVariants.{Mark}
use Rattle.replay_log.specs.declared.records.Mark as marks
use Rattle.replay_log.specs.declared.records.Mark.TheVariants.{Captured, Committed, Acknowledged}
use Rattle.colo_base.specs.declared.fault.Cause.TheVariants.{Differ, Restart, Wait, Asked}
use Rattle.replay_log.specs.declared.records.Record.{Record}

pub passes_each : {X : Type 0} (p : X → Bool) (xs : List X) (x : X) → list_all p xs ≡ true → Contains xs x → p x ≡ true
passes_each p xs x all c =
    elim (cases_Bool (p x)) [
      | inl t ↦ t
      | inr f ↦ absurd (true≢false (sym all ∙ list_all_at p xs c.0 x c.1 (ap p c.2 ∙ f)))
    ]

-- ---- schedules and single runs

abbrev is_line_form : Form → Bool
is_line_form (form.Line l) = true
is_line_form (form.Event l a) = false
is_line_form (form.Mark m) = false
is_line_form (form.Turn t) = false

abbrev is_turn_form : Form → Bool
is_turn_form (form.Line l) = false
is_turn_form (form.Event l a) = false
is_turn_form (form.Mark m) = false
is_turn_form (form.Turn t) = true

-- where each item of the kind is kept, and the forms are of that kind, all are
kind_again : {X : Type 0} (forms : List Form) (is_kind : Form → Bool) (inject : X → Item) (pick : Item → Option X) →
    list_all is_kind forms ≡ true →
    ((x : Item) (xs : List Item) → is_kind (item_form x) ≡ true → map inject (filter_map pick xs) ≡ xs →
    map inject (filter_map pick (x ∷ xs)) ≡ x ∷ xs) → (items : List Item) → All (HasSpelling forms) items →
    map inject (filter_map pick items) ≡ items
kind_again forms is_kind inject pick all alone [] good = refl
kind_again forms is_kind inject pick all alone (x ∷ xs) good =
    let first = All-head (HasSpelling forms) x xs good in
    alone x xs (passes_each is_kind forms (item_form x) all first.form)
    (kind_again forms is_kind inject pick all alone xs (All-tail (HasSpelling forms) x xs good))

line_alone : (x : Item) (ls : List Item) → is_line_form (item_form x) ≡ true →
    map item.Line (filter_map line_in ls) ≡ ls → map item.Line (filter_map line_in (x ∷ ls)) ≡ x ∷ ls
line_alone (item.Line l) ls h e = ap (λ rest. item.Line l ∷ rest) e
line_alone (item.Event l a) ls h e = absurd (true≢false (sym h))
line_alone (item.Mark m) ls h e = absurd (true≢false (sym h))
line_alone (item.Turn t) ls h e = absurd (true≢false (sym h))

pub lines_again : (items : List Item) → All (HasSpelling schedule_forms) items →
    map item.Line (filter_map line_in items) ≡ items
lines_again = kind_again schedule_forms is_line_form item.Line line_in refl line_alone

turn_alone : (x : Item) (ts : List Item) → is_turn_form (item_form x) ≡ true →
    map item.Turn (filter_map turn_in ts) ≡ ts → map item.Turn (filter_map turn_in (x ∷ ts)) ≡ x ∷ ts
turn_alone (item.Line l) ts h e = absurd (true≢false (sym h))
turn_alone (item.Event l a) ts h e = absurd (true≢false (sym h))
turn_alone (item.Mark m) ts h e = absurd (true≢false (sym h))
turn_alone (item.Turn t) ts h e = ap (λ rest. item.Turn t ∷ rest) e

pub turns_again : (items : List Item) → All (HasSpelling single_forms) items →
    map item.Turn (filter_map turn_in items) ≡ items
turns_again = kind_again single_forms is_turn_form item.Turn turn_in refl turn_alone

-- the same text, by its lines of one kind
pub same_text : (forms given : List Form) (items others : List Item) (text : List ℕ) → given ≡ forms →
    (All (HasSpelling forms) items → others ≡ items) → IsText given items text → IsText forms others text
same_text forms given items others text is same t =
    let read : IsText forms items text = subst (λ (fs : List Form). IsText fs items text) is t in
    subst (λ (xs : List Item). IsText forms xs text) (sym (same read.good)) read

-- ---- logs

abbrev is_log_form : Form → Bool
is_log_form (form.Line l) = false
is_log_form (form.Event l a) = true
is_log_form (form.Mark m) = true
is_log_form (form.Turn t) = false

kind_of_log : (x : Item) → is_log_form (item_form x) ≡ true → is_of_log x ≡ true
kind_of_log (item.Line l) h = h
kind_of_log (item.Event l a) h = refl
kind_of_log (item.Mark m) h = refl
kind_of_log (item.Turn t) h = h

pub kinds_of_log : (items : List Item) → All (HasSpelling log_forms) items → list_all is_of_log items ≡ true
kinds_of_log [] good = refl
kinds_of_log (x ∷ xs) good =
    let first = All-head (HasSpelling log_forms) x xs good in
    and_from (is_of_log x) (list_all is_of_log xs) (kind_of_log x (passes_each is_log_form log_forms
    (item_form x) refl first.form))
    (kinds_of_log xs (All-tail (HasSpelling log_forms) x xs good))

mark_begins : (m : marks.Mark) → begins_with Mark (item_words (item.Mark m)) ≡ true
mark_begins (Captured e Differ) = refl
mark_begins (Captured e Restart) = refl
mark_begins (Captured e Wait) = refl
mark_begins (Captured e Asked) = refl
mark_begins (Committed e) = refl
mark_begins (Acknowledged e) = refl

not_early : (ws : List (List ℕ)) → stands_after (before_of []) ws ≡ true → begins_with Mark ws ≡ true → ⊥
not_early ws h e =
    let parts = and_parts (not (is_early_mark (before_of []) ws)) _ h in
    true≢false (sym parts.0 ∙ ap not e)

pub first_of_log : (items : List Item) → are_in_order [] (map item_words items) ≡ true → begins_with_mark items ≡ false
first_of_log [] order = refl
first_of_log (item.Line l ∷ xs) order = refl
first_of_log (item.Event l a ∷ xs) order = refl
first_of_log (item.Mark m ∷ xs) order =
    let parts = and_parts (stands_after (before_of []) (item_words (item.Mark m))) _ order in
    absurd (not_early (item_words (item.Mark m)) parts.0 (mark_begins m))
first_of_log (item.Turn t ∷ xs) order = refl

-- an event more, and a mark more
log_push : (front : List Record) (r : Record) → log_items (front ++ r ∷ []) ≡ log_items front ++ record_items r
unfolding log_items
log_push front r = flat_map-append record_items front (r ∷ []) ∙ ap (λ xs. flat_map record_items front
    ++ xs) (append-nil (record_items r))

pub log_event : (records : List Record) (r : Record) → r.marks ≡ [] →
    log_items (records ++ r ∷ []) ≡ log_items records ++ item.Event r.line r.answer ∷ []
log_event records r e = log_push records r ∙ ap (λ xs. log_items records
    ++ (item.Event r.line r.answer ∷ map item.Mark xs)) e

items_marked : (r s : Record) (m : marks.Mark) → s.line ≡ r.line → s.answer ≡ r.answer → s.marks ≡ r.marks ++ m ∷ [] →
    record_items s ≡ record_items r ++ item.Mark m ∷ []
items_marked r s m line answer marked =
    rw (line, answer, marked) (ap (λ xs. item.Event r.line r.answer ∷ xs) (map-append item.Mark r.marks (m ∷ [])))

pub log_mark : (front : List Record) (r s : Record) (m : marks.Mark) → s.line ≡ r.line → s.answer ≡ r.answer →
    s.marks ≡ r.marks ++ m ∷ [] →
    log_items (front ++ s ∷ []) ≡ log_items (front ++ r ∷ []) ++ item.Mark m ∷ []
log_mark front r s m line answer marked =
    log_push front s
    ∙ (ap (λ xs. log_items front ++ xs) (items_marked r s m line answer marked)
    ∙ (sym (append_assoc (log_items front) (record_items r) (item.Mark m ∷ [])) ∙ ap (λ xs. xs
    ++ item.Mark m ∷ []) (sym (log_push front r))))

pub log_none : log_items [] ≡ []
unfolding log_items
log_none = refl

pub log_cons : (r : Record) (records : List Record) → log_items (r ∷ records) ≡ record_items r ++ log_items records
unfolding log_items
log_cons r records = refl

-- a mark added to the last event
pub log_set : (records : List Record) (i : ℕ) (last s : Record) (m : marks.Mark) → suc i ≡ length records →
    last ≡ get_or records i last →
    s.line ≡ last.line → s.answer ≡ last.answer → s.marks ≡ last.marks ++ m ∷ [] →
    log_items (set records i s) ≡ log_items records ++ item.Mark m ∷ []
log_set [] i last s m len at line answer marked = absurd (omega (arith, len))
log_set (r ∷ []) zero last s m len at line answer marked =
    log_mark [] r s m (line ∙ ap (λ (x : Record). x.line) at) (answer ∙ ap (λ (x : Record). x.answer) at) (marked ∙
    ap (λ (x : Record). x.marks ++ m ∷ []) at)
log_set (r ∷ q ∷ records) zero last s m len at line answer marked = absurd (omega (arith, len))
log_set (r ∷ records) (suc i) last s m len at line answer marked =
    log_cons r (set records i s)
    ∙ (ap (λ xs. record_items r ++ xs) (log_set records i last s m (omega (arith, len)) at line answer marked)
    ∙ (sym (append_assoc (record_items r) (log_items records) (item.Mark m ∷ [])) ∙ ap (λ xs. xs
    ++ item.Mark m ∷ []) (sym (log_cons r records))))

pub log_last : (records : List Record) (n : ℕ) (last s : Record) (m : marks.Mark) → n ≡ length records →
    0 < length records → last ≡ get_or records (n - 1) last →
    s.line ≡ last.line → s.answer ≡ last.answer → s.marks ≡ last.marks ++ m ∷ [] →
    log_items (set records (n - 1) s) ≡ log_items records ++ item.Mark m ∷ []
log_last records n last s m len some at line answer marked = log_set records (n - 1) last s m
    (omega arith) at line answer marked

-- one item more
pub event_more : (records : List Record) (r : Record) (items : List Item) (i : ℕ) (d : Item) →
    log_items records ≡ take i items → i < length items →
    get_or items i d ≡ item.Event r.line r.answer → r.marks ≡ [] → log_items (records ++ r ∷ []) ≡ take (i + 1) items
event_more records r items i d so_far inside here none =
    log_event records r none ∙ rw (so_far, take_more items i d inside, here) refl

no_events : (records : List Record) → length records ≡ 0 → log_items records ≡ []
no_events [] e = log_none
no_events (r ∷ records) e = absurd (omega (arith, e))

-- what was passed isn't nothing where a mark follows
some_event : (items : List Item) (records : List Record) (i : ℕ) (d : Item) (m : marks.Mark) →
    begins_with_mark items ≡ false → log_items records ≡ take i items →
    i < length items → get_or items i d ≡ item.Mark m → 0 < length records
some_event [] [] zero d m first so_far inside here = absurd (omega (arith, inside))
some_event (x ∷ xs) [] zero d m first so_far inside here = absurd (true≢false (sym (ap is_mark here) ∙ first))
some_event items [] (suc i) d m first so_far inside here = absurd (omega (
  arith,
  ap length (sym log_none ∙
      so_far),
  length-take (suc i) items,
))
some_event items (r ∷ records) i d m first so_far inside here = omega arith

pub mark_more : (records others : List Record) (items : List Item) (i : ℕ) (d : Item) (m : marks.Mark) →
    begins_with_mark items ≡ false →
    log_items records ≡ take i items → i < length items → get_or items i d ≡ item.Mark m →
    (0 < length records → log_items others ≡ log_items records ++ item.Mark m ∷ []) →
    log_items others ≡ take (i + 1) items
mark_more records others items i d m first so_far inside here add =
    add (some_event items records i d m first so_far inside here) ∙ rw (so_far, take_more items i d inside, here) refl

-- no other item comes
pub of_log_at : (items : List Item) (i : ℕ) (d : Item) → list_all is_of_log items ≡ true → i < length items →
    is_of_log (get_or items i d) ≡ false → ⊥
of_log_at items i d kinds inside other = true≢false (sym kinds ∙ list_all_at is_of_log items i d inside other)
