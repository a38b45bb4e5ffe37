-- A text that is read up to a line.
use Rattle.std.proofs.Common.{◌≡◌, ℕ, ◌+◌, ◌<◌, ◌||◌, ◌==◌, Bool, true, false, List, [], ◌∷◌, ◌++◌, All, Some, None, map, flat_map, find, length, refl, sym, ap, subst, ◌∙◌, arith, append_assoc, length-append}
use Rattle.std.specs.List.{list_any}
use Rattle.std.proofs.lemmas.Bool.{and_parts, and_from, ne_eqb, eqb-true, true≢false}
use Rattle.std.proofs.lemmas.List.{append-nil, map-append, length-map}
use Rattle.std.proofs.lemmas.List.Concat.{flat_map-append}
use Rattle.std.proofs.lemmas.List.Elements.{All-nil, All-push}
use Rattle.std.proofs.lemmas.List.Folds.{list_any-append}
use Rattle.std.proofs.lemmas.List.Splits.{join_with_byte-slice_split}
use Rattle.shared_definitions.specs.Ascii.{newline, space}
use Rattle.replay_log.specs.Cases.{begins_with, before_of, before_with, case_of, first_bad, first_bad_after, form_reads, are_in_order, stands_after}
use Rattle.replay_log.specs.Items.{item_words, item_text}
use Rattle.replay_log.specs.Making.{item_of}
use Rattle.replay_log.specs.Rows.{rows_of, words_of}
use Rattle.replay_log.specs.Texts.{HasSpelling, IsText}
use Rattle.replay_log.specs.declared.causes.LineWhy.{LineWhy}
use Rattle.replay_log.specs.declared.forms.Form.{Form}
use Rattle.replay_log.specs.declared.items.Item.{Item}
use Rattle.replay_log.specs.declared.judging.Before.{Before}
use Rattle.replay_log.specs.declared.keywords.Keyword.TheVariants.{Stop, Report}
use Rattle.replay_log.proofs.CaseLemmas.{good_line}
use Rattle.replay_log.proofs.FoundLemmas.{found}
use Rattle.replay_log.proofs.ItemLemmas.{item_read}

-- so many lines were read, and the rest is still to be read
pub record IsReadTo (forms : List Form) (before : Before) (items : List Item) (text rest : List ℕ) : Type 0 where
  pub spelled : text ≡ flat_map item_text items ++ rest
  pub good : All (HasSpelling forms) items
  pub order : are_in_order [] (map item_words items) ≡ true
  pub known : before ≡ before_of (map item_words items)
  pub bad : first_bad forms text ≡ first_bad_after forms (map item_words items) (rows_of rest)

pub read_none : (forms : List Form) (text : List ℕ) → IsReadTo forms (before_of []) [] text text
unfolding first_bad
read_none forms text = record {
  spelled = refl;
  good = All-nil
      (HasSpelling forms);
  order = refl;
  known = refl;
  bad = refl;
}

-- ---- one line more

any_push : (p : List (List ℕ) → Bool) (lines : List (List (List ℕ))) (ws : List (List ℕ)) →
    list_any p (lines ++ ws ∷ []) ≡ (list_any p lines || p ws)
any_push p lines ws = list_any-append p lines (ws ∷ []) ∙ ap (λ b. list_any p lines || b) (or_none (p ws))
  where
    or_none : (b : Bool) → (b || false) ≡ b
    or_none true = refl
    or_none false = refl

before_push : (lines : List (List (List ℕ))) (ws : List (List ℕ)) →
    before_with (before_of lines) ws ≡ before_of (lines ++ ws ∷ [])
before_push lines ws =
    let some : (length (lines ++ ws ∷ []) == 0) ≡ false = ne_eqb (length (lines
    ++ ws ∷ [])) 0 (λ e. omega (arith, length-append lines (ws ∷ []), e)) in
    rw (some, any_push (begins_with Stop) lines ws, any_push (begins_with Report) lines ws) refl

pub order_push : (earlier lines : List (List (List ℕ))) (ws : List (List ℕ)) → are_in_order earlier lines ≡ true →
    stands_after (before_of (earlier ++ lines)) ws ≡ true → are_in_order earlier (lines ++ ws ∷ []) ≡ true
order_push earlier [] ws h s =
    and_from (stands_after (before_of earlier) ws) true (rw (← append-nil earlier) s) refl
order_push earlier (line ∷ lines) ws h s =
    let both = and_parts (stands_after (before_of earlier) line) (are_in_order (earlier ++ line ∷ []) lines) h in
    and_from (stands_after (before_of earlier) line) (are_in_order (earlier ++ line ∷ []) (lines ++ ws ∷ [])) both.0
    (order_push (earlier ++ line ∷ []) lines ws both.1 (rw (append_assoc earlier (line ∷ []) lines) s))

-- the line's words, joined again
spelled_row : (x : Item) (content : List ℕ) (ws : List (List ℕ)) → item_words x ≡ ws → ws ≡ words_of content →
    item_text x ≡ content ++ newline ∷ []
unfolding item_text words_of
spelled_row x content ws e w = rw (e, w, join_with_byte-slice_split space content) refl

-- what was read of one line
pub record IsLineRead (forms : List Form) (before : Before) (content next rest : List ℕ) (is_ended : Bool) (ws : List
    (List ℕ)) (form : Form) : Type 0 where
  pub row : rows_of rest ≡ record { content = content; is_ended = is_ended } ∷ rows_of next
  pub ended : is_ended ≡ true → rest ≡ content ++ (newline ∷ next)
  pub split : ws ≡ words_of content
  pub no_case : case_of forms before ws is_ended ≡ None
  pub found : find (form_reads ws) forms ≡ Some form

pub read_more : (forms : List Form) (before : Before) (items : List Item) (text rest content next : List ℕ)
    (is_ended : Bool) (ws : List (List ℕ)) (form : Form) →
    IsReadTo forms before items text rest → IsLineRead forms before content next rest is_ended ws form →
    IsReadTo forms (before_with before ws) (items ++ item_of form ws ∷ []) text next
read_more forms before items text rest content next is_ended ws form r l =
    let x = item_of form ws in
    let lines = map item_words items in
    let good = good_line forms before ws is_ended l.no_case in
    let reads = found (form_reads ws) forms form l.found in
    let item = item_read form ws reads.0 in
    let line = spelled_row x content ws item.words l.split in
    let whole = l.ended good.ended in
    let pushed : map item_words (items ++ x ∷ []) ≡ lines
    ++ ws ∷ [] = map-append item_words items (x ∷ []) ∙ ap (λ w. lines ++ w ∷ []) item.words in
    let text_pushed : flat_map item_text (items ++ x ∷ []) ≡ flat_map item_text items ++ (content ++ newline ∷ []) =
    flat_map-append item_text items (x ∷ []) ∙ ap (λ t. flat_map item_text items
    ++ t) (append-nil (item_text x) ∙ line) in
    let stands : stands_after (before_of lines) ws ≡ true = subst (λ (b : Before). stands_after b ws
    ≡ true) r.known good.order in
    let none : case_of forms (before_of lines) (words_of content) is_ended ≡ None =
    ap (λ (b : Before). case_of forms b (words_of content) is_ended) (sym r.known) ∙
    (ap (λ (w : List (List ℕ)). case_of forms before w is_ended) (sym l.split) ∙ l.no_case) in
    record {
      spelled = r.spelled ∙ (ap (λ t. flat_map item_text items
          ++ t) (whole ∙ sym (append_assoc content (newline ∷ []) next))
          ∙ (sym (append_assoc (flat_map item_text items) (content ++ newline ∷ []) next) ∙ ap (λ t. t
          ++ next) (sym text_pushed)));
      good = All-push (HasSpelling forms) items x r.good (record { form = rw item.form reads.1; numbers = item.range });
      order = rw pushed (order_push [] lines ws r.order stands);
      known = ap (λ (b : Before). before_with b ws) r.known ∙ (before_push lines ws ∙ ap before_of (sym pushed));
      bad = r.bad ∙ rw (l.row, none, pushed, l.split) refl;
    }

pub read_bad : (forms : List Form) (before : Before) (items : List Item) (text rest content next : List ℕ)
    (is_ended : Bool) (ws : List (List ℕ)) (why : LineWhy) →
    IsReadTo forms before items text rest → rows_of rest
    ≡ record { content = content; is_ended = is_ended } ∷ rows_of next → ws ≡ words_of content →
    case_of forms before ws is_ended ≡ Some why → first_bad forms text
    ≡ Some (record { line = length items + 1; why = why })
read_bad forms before items text rest content next is_ended ws why r row split bad =
    let case : case_of forms (before_of (map item_words items)) (words_of content) is_ended ≡ Some why =
    ap (λ (b : Before). case_of forms b (words_of content) is_ended) (sym r.known) ∙
    (ap (λ (w : List (List ℕ)). case_of forms before w is_ended) (sym split) ∙ bad) in
    r.bad ∙ rw (row, case, length-map items item_words) refl

pub read_all : (forms : List Form) (before : Before) (items : List Item) (text rest : List ℕ) →
    IsReadTo forms before items text rest → rest ≡ [] →
    IsText forms items text
read_all forms before items text rest r e = record {
  spelled = r.spelled ∙ (ap (λ t. flat_map item_text items ++ t) e ∙ append-nil (flat_map item_text items));
  good = r.good;
  order = r.order;
}

pub no_length : (rest : List ℕ) → true ≡ (length rest == 0) → rest ≡ []
no_length [] e = refl
no_length (x ∷ xs) e = absurd (omega (arith, eqb-true (length (x ∷ xs)) 0 (sym e)))

pub some_length : (rest : List ℕ) → false ≡ (length rest == 0) → 0 < length rest
some_length [] e = absurd (true≢false (sym e))
some_length (x ∷ xs) e = omega arith
