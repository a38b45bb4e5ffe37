-- Where an accepted frame is: what a longer log, a settling and a capture leave of the account.
use Rattle.std.proofs.Common.{◌≡◌, ◌⊎◌, inl, inr, ℕ, ◌&&◌, ◌||◌, ◌==◌, Bool, true, false, List, [], ◌∷◌, ◌++◌, append-nil, map, Option, None, refl, sym, ap, subst, ◌∙◌, eq-eqb, true≢false}
use Rattle.std.specs.Prelude.{IsTrue, if◌then◌else◌}
use Rattle.std.specs.List.{AllByRecursion, cons_option, filter_map, list_any}
use Rattle.std.proofs.lemmas.Bool.{eqb-true, or_cases, or_left, or_right}
use Rattle.std.proofs.Math.Bool.{and-false}
use Rattle.std.proofs.lemmas.List.Elements.{filter_map-append}
use Rattle.std.proofs.lemmas.List.Folds.{list_any-append}
use Rattle.settle_rules.specs.Numbers.{KeptNumber}
use Rattle.settle_rules.specs.Progress.{ProgressTable}
use Rattle.colo_wire.specs.declared.messages.Message.{Message}
use Rattle.colo_wire.specs.declared.messages.Message.TheVariants.{End}
use Rattle.pair_theorem.specs.Checkpoint.{capture, checkpoint_messages}
use Rattle.pair_theorem.specs.Events.{number_message, outcome_of}
use Rattle.pair_theorem.specs.History.{past_at}
use Rattle.pair_theorem.specs.LogParts.{accepted_in, accepted_indices, contains_index, frames_on, full_with, inbox_indices, is_full_for, loses}
use Rattle.pair_theorem.specs.Past.{Past, Start, Step, Stop, first_past, is_primary_stop, is_secondary_stop, secondary_releases}
use Rattle.pair_theorem.specs.Places.{Event, events, events_from}
use Rattle.pair_theorem.proofs.EachHistory.{Fits, Reached, events_from-append, past_reached, released_by}
use Rattle.theorem_runs.specs.Links.{copied_parts}
use Rattle.theorem_runs.specs.Runs.{AccountsFor, after_end, copy_order, has_end, is_or_was, primary_order, secondary_all, took_indices}
use Rattle.theorem_runs.proofs.Checkpoints.{parts_are}
use Rattle.theorem_runs.proofs.ListFacts.{all_weaken}
use Rattle.theorem_runs.proofs.Orders.{after-captured, after-told, frames_on-append, numbers_no_frame, parts_no_frame, told_no_end}
use Rattle.theorem_runs.proofs.Settled.{told_past}

-- THE LOG GROWS by a step
pub accepted-push : (steps : List Step) (s : Step)
    → accepted_indices (steps ++ s ∷ []) ≡ accepted_indices steps ++ cons_option (accepted_in s.entry.answer) []
accepted-push steps s = filter_map-append (λ (t : Step). accepted_in t.entry.answer) steps (s ∷ [])

pub none_accepted : (steps : List Step) (s : Step) → accepted_in s.entry.answer ≡ None
    → accepted_indices (steps ++ s ∷ []) ≡ accepted_indices steps
none_accepted steps s e =
    accepted-push steps s
    ∙ (ap (λ (o : Option ℕ). accepted_indices steps ++ cons_option o []) e ∙ append-nil (accepted_indices steps))

pub full-push : (i : ℕ) (steps : List Step) (s : Step) → is_full_for i (steps ++ s ∷ [])
    ≡ (is_full_for i steps || contains_index i (cons_option (full_with s.delivered s.entry.answer) []))
full-push i steps s =
    ap (λ (xs : List ℕ). contains_index i xs)
    (filter_map-append (λ (t : Step). full_with t.delivered t.entry.answer) steps (s ∷ []))
    ∙ list_any-append (λ x. x == i)
    (filter_map (λ (t : Step). full_with t.delivered t.entry.answer) steps)
    (cons_option (full_with s.delivered s.entry.answer) [])

-- the event of the step, as far as it is asked whether it loses a frame
abbrev pub last_event : Start → List Step → Past → Step → Event
last_event a steps past s = record {
  past = past;
  released = released_by steps;
  step = s;
  outcome = outcome_of a.kind a.stream past s.entry.line;
}

pub loses-push : (a : Start) (i : ℕ) (steps : List Step) (past : Past) (s : Step) → Reached Fits a steps past
    → list_any (loses i) (events a (steps ++ s ∷ []))
    ≡ (list_any (loses i) (events a steps) || (loses i (last_event a steps past s) || false))
unfolding events past_at events_from
loses-push a i steps past s r =
    ap (λ (es : List Event). list_any (loses i) es)
    (events_from-append a.kind a.stream (first_past a) [] steps (s ∷ [])
    ∙ ap (λ (p : Past). events a steps ++ last_event a steps p s ∷ []) (past_reached Fits a steps past r))
    ∙ list_any-append (loses i) (events a steps) (last_event a steps past s ∷ [])

-- what is among them is accounted for
pub is_still : (a : Start) (steps : List Step) (xs : List ℕ) (i : ℕ) → IsTrue (contains_index i xs)
    → IsTrue (is_or_was a steps xs i)
is_still a steps xs i e =
    or_left (contains_index i xs) (is_full_for i steps || list_any (loses i) (events a steps)) e

-- an account stays true when the log grows
pub still_or_was : (a : Start) (steps : List Step) (past : Past) (s : Step) (xs ys : List ℕ) (i : ℕ)
    → Reached Fits a steps past
    → (IsTrue (contains_index i xs) → IsTrue (is_or_was a (steps ++ s ∷ []) ys i))
    → IsTrue (is_or_was a steps xs i) → IsTrue (is_or_was a (steps ++ s ∷ []) ys i)
still_or_was a steps past s xs ys i r f h =
    by (or_cases (contains_index i xs) (is_full_for i steps || list_any (loses i) (events a steps)) h)
  where
    full : Bool
    full = is_full_for i (steps ++ s ∷ [])

    lost : Bool
    lost = list_any (loses i) (events a (steps ++ s ∷ []))

    was : (is_full_for i steps ≡ true) ⊎ (list_any (loses i) (events a steps) ≡ true)
        → (contains_index i ys || (full || lost)) ≡ true
    was (inl e) =
        or_right (contains_index i ys) (full || lost) (or_left full lost
        (full-push i steps s ∙ or_left (is_full_for i steps)
        (contains_index i (cons_option (full_with s.delivered s.entry.answer) [])) e))
    was (inr e) =
        or_right (contains_index i ys) (full || lost) (or_right full lost
        (loses-push a i steps past s r ∙ or_left (list_any (loses i) (events a steps))
        (loses i (last_event a steps past s) || false) e))

    by : (contains_index i xs ≡ true) ⊎ ((is_full_for i steps || list_any (loses i) (events a steps)) ≡ true)
        → (contains_index i ys || (full || lost)) ≡ true
    by (inl e) = f e
    by (inr e) = was (or_cases (is_full_for i steps) (list_any (loses i) (events a steps)) e)

-- WHAT MOVES NO FRAME: an event that leaves the three orders, where it leaves the nodes that they are of
pub record Leaves (past after : Past) : Type 0 where
  pub primary : secondary_releases after ≡ false
      → (secondary_releases past ≡ false) × (primary_order after ≡ primary_order past)
  pub secondary : is_secondary_stop after.stop ≡ false
      → (is_secondary_stop past.stop ≡ false) × (secondary_all after ≡ secondary_all past)
  pub copy : has_end after.to_secondary ≡ true
      → (has_end past.to_secondary ≡ true) × (copy_order after ≡ copy_order past)

pub left_accounts : (a : Start) (steps : List Step) (past after : Past) (s : Step) → Reached Fits a steps past
    → accepted_in s.entry.answer ≡ None → Leaves past after → AccountsFor a steps past
    → AccountsFor a (steps ++ s ∷ []) after
left_accounts a steps past after s r none l h = record {
  primary = λ e. let m = l.primary e in
      subst (λ (is : List ℕ). AllByRecursion (λ i. IsTrue (contains_index i (primary_order after))) is)
      (sym (none_accepted steps s none))
      (subst (λ (xs : List ℕ). AllByRecursion (λ i. IsTrue (contains_index i xs)) (accepted_indices steps)) (sym m.1)
      (h.primary m.0));
  secondary = λ e. let m = l.secondary e in
      subst (λ (is : List ℕ). AllByRecursion (λ i. IsTrue (is_or_was a (steps ++ s ∷ []) (secondary_all after) i)) is)
      (sym (none_accepted steps s none))
      (all_weaken (λ i. IsTrue (is_or_was a steps (secondary_all past) i))
      (λ i. IsTrue (is_or_was a (steps ++ s ∷ []) (secondary_all after) i)) (accepted_indices steps)
      (λ i g. still_or_was a steps past s (secondary_all past) (secondary_all after) i r
      (λ k. is_still a (steps ++ s ∷ []) (secondary_all after) i
      (subst (λ (xs : List ℕ). IsTrue (contains_index i xs)) (sym m.1) k)) g)
      (h.secondary m.0));
  copy = λ e. let m = l.copy e in
      subst (λ (is : List ℕ). AllByRecursion (λ i. IsTrue (contains_index i (copy_order after))) is)
      (sym (none_accepted steps s none))
      (subst (λ (xs : List ℕ). AllByRecursion (λ i. IsTrue (contains_index i xs)) (accepted_indices steps)) (sym m.1)
      (h.copy m.0));
}

-- one leaving after another
pub then_leaves : (past mid after : Past) → Leaves past mid → Leaves mid after → Leaves past after
then_leaves past mid after l m = record {
  primary = λ e. let n = m.primary e in let k = l.primary n.0 in (k.0, n.1 ∙ k.1);
  secondary = λ e. let n = m.secondary e in let k = l.secondary n.0 in (k.0, n.1 ∙ k.1);
  copy = λ e. let n = m.copy e in let k = l.copy n.0 in (k.0, n.1 ∙ k.1);
}

-- the fields that the orders read
pub same_leaves : (past after : Past) → after.stop ≡ past.stop → after.is_reported ≡ past.is_reported
    → primary_order after ≡ primary_order past → secondary_all after ≡ secondary_all past
    → after.copy ≡ past.copy → after.to_secondary ≡ past.to_secondary → Leaves past after
same_leaves past after t b p s c d = record {
  primary = λ e. ((λ k. is_primary_stop (sym t k) && sym b k) ∙ e, p);
  secondary = λ e. (ap (λ (x : Stop). is_secondary_stop x) (sym t) ∙ e, s);
  copy = λ e. (
    ap (λ (ms : List Message). has_end ms) (sym d) ∙ e,
    (λ k. took_indices (c k).run ++ (inbox_indices (c k).inbox ++ frames_on (after_end (d k)))),
  );
}

-- A SETTLING
pub frames-told : (past : Past) (ns : List KeptNumber) (ps : ProgressTable) (new : List KeptNumber)
    → frames_on (told_past past ns ps new).to_secondary ≡ frames_on past.to_secondary
frames-told past ns ps new = by past.is_reported
  where
    by : (b : Bool)
        → frames_on (if b then past.to_secondary else past.to_secondary ++ map number_message new)
        ≡ frames_on past.to_secondary
    by true = refl
    by false =
        frames_on-append past.to_secondary (map number_message new)
        ∙ (ap (λ (is : List ℕ). frames_on past.to_secondary ++ is) (numbers_no_frame new)
        ∙ append-nil (frames_on past.to_secondary))

pub told_end : (past : Past) (ns : List KeptNumber) (ps : ProgressTable) (new : List KeptNumber)
    → has_end (told_past past ns ps new).to_secondary ≡ true → has_end past.to_secondary ≡ true
told_end past ns ps new e = by (has_end past.to_secondary) refl
  where
    by : (b : Bool) → has_end past.to_secondary ≡ b → b ≡ true
    by true f = refl
    by false f = absurd (true≢false (sym e ∙ told_no_end past ns ps new f))

pub told_leaves : (past : Past) (ns : List KeptNumber) (ps : ProgressTable) (new : List KeptNumber)
    → Leaves past (told_past past ns ps new)
told_leaves past ns ps new = record {
  primary = λ e. (e, refl);
  secondary = λ e. (
    e,
    ap (λ (is : List ℕ). took_indices past.secondary ++ (inbox_indices past.secondary_inbox ++ is))
        (frames-told past ns ps new),
  );
  copy = λ e. (
    told_end past ns ps new e,
    ap (λ (is : List ℕ). took_indices past.copy.run ++ (inbox_indices past.copy.inbox ++ is))
        (after-told past ns ps new),
  );
}

-- A CAPTURE: the copy is the primary
pub frames-captured : (past : Past) → frames_on (capture past).to_secondary ≡ frames_on past.to_secondary
unfolding capture checkpoint_messages copied_parts
frames-captured past =
    let p = capture past in
    let parts = copied_parts p.copy p.captures in
    frames_on-append past.to_secondary (parts ++ End p.captures ∷ [])
    ∙ (ap (λ (is : List ℕ). frames_on past.to_secondary ++ is)
    (frames_on-append parts (End p.captures ∷ [])
    ∙ (append-nil (frames_on parts) ∙ parts_no_frame parts (parts_are p.copy p.captures)))
    ∙ append-nil (frames_on past.to_secondary))

pub captured_accounts : (a : Start) (steps : List Step) (past : Past) → secondary_releases past ≡ false
    → has_end past.to_secondary ≡ false → AccountsFor a steps past → AccountsFor a steps (capture past)
unfolding capture
captured_accounts a steps past alone none h = record {
  primary = h.primary;
  secondary = λ e. subst (λ (is : List ℕ). AllByRecursion (λ i. IsTrue (is_or_was a steps (took_indices past.secondary
      ++ (inbox_indices past.secondary_inbox ++ is)) i)) (accepted_indices steps)) (sym (frames-captured past))
      (h.secondary e);
  copy = λ e. subst (λ (is : List ℕ). AllByRecursion (λ i. IsTrue (contains_index i (took_indices past.primary
      ++ (inbox_indices past.primary_inbox ++ is)))) (accepted_indices steps)) (sym (after-captured past none))
      (subst (λ (is : List ℕ). AllByRecursion (λ i. IsTrue (contains_index i (took_indices past.primary ++ is)))
      (accepted_indices steps)) (sym (append-nil (inbox_indices past.primary_inbox))) (h.primary alone));
}

-- AN EVENT THAT SETTLES
pub settled_accounts : (a : Start) (steps : List Step) (past base : Past) (s : Step) (ns : List KeptNumber)
    (ps : ProgressTable) (new : List KeptNumber) → Reached Fits a steps past → accepted_in s.entry.answer ≡ None
    → Leaves past base → AccountsFor a steps past → AccountsFor a (steps ++ s ∷ []) (told_past base ns ps new)
settled_accounts a steps past base s ns ps new r none l h =
    left_accounts a steps past (told_past base ns ps new) s r none
    (then_leaves past base (told_past base ns ps new) l (told_leaves base ns ps new)) h

pub caught_accounts : (a : Start) (steps : List Step) (past base : Past) (s : Step) (ns : List KeptNumber)
    (ps : ProgressTable) (new : List KeptNumber) → Reached Fits a steps past → accepted_in s.entry.answer ≡ None
    → Leaves past base → base.is_reported ≡ false → has_end base.to_secondary ≡ false → AccountsFor a steps past
    → AccountsFor a (steps ++ s ∷ []) (capture (told_past base ns ps new))
caught_accounts a steps past base s ns ps new r none l alone no_end h =
    captured_accounts a (steps ++ s ∷ []) (told_past base ns ps new)
    (ap (λ (b : Bool). is_primary_stop base.stop && b) alone ∙ and-false (is_primary_stop base.stop))
    (told_no_end base ns ps new no_end) (settled_accounts a steps past base s ns ps new r none l h)

-- MEMBERS
pub among_left : (i : ℕ) (xs ys : List ℕ) → IsTrue (contains_index i xs) → IsTrue (contains_index i (xs ++ ys))
among_left i xs ys e =
    list_any-append (λ x. x == i) xs ys ∙ or_left (contains_index i xs) (contains_index i ys) e

pub among_right : (i : ℕ) (xs ys : List ℕ) → IsTrue (contains_index i ys) → IsTrue (contains_index i (xs ++ ys))
among_right i xs ys e =
    list_any-append (λ x. x == i) xs ys ∙ or_right (contains_index i xs) (contains_index i ys) e

pub among_either : (i : ℕ) (xs ys : List ℕ) → IsTrue (contains_index i (xs ++ ys))
    → IsTrue (contains_index i xs) ⊎ IsTrue (contains_index i ys)
among_either i xs ys e =
    or_cases (contains_index i xs) (contains_index i ys) (sym (list_any-append (λ x. x == i) xs ys) ∙ e)

pub among_itself : (i : ℕ) → IsTrue (contains_index i (i ∷ []))
among_itself i = or_left (i == i) false (eq-eqb i i refl)

-- of three lists, the last of which may go
pub among_three : (i : ℕ) (xs ys zs : List ℕ) → IsTrue (contains_index i (xs ++ (ys ++ zs)))
    → IsTrue (contains_index i (xs ++ (ys ++ []))) ⊎ IsTrue (contains_index i zs)
among_three i xs ys zs e = by (among_either i xs (ys ++ zs) e)
  where
    inner : IsTrue (contains_index i ys) ⊎ IsTrue (contains_index i zs)
        → IsTrue (contains_index i (xs ++ (ys ++ []))) ⊎ IsTrue (contains_index i zs)
    inner (inl g) = inl (among_right i xs (ys ++ []) (among_left i ys [] g))
    inner (inr g) = inr g

    by : IsTrue (contains_index i xs) ⊎ IsTrue (contains_index i (ys ++ zs))
        → IsTrue (contains_index i (xs ++ (ys ++ []))) ⊎ IsTrue (contains_index i zs)
    by (inl g) = inl (among_left i xs (ys ++ []) g)
    by (inr g) = inner (among_either i ys zs g)

-- one element of the last two that may go
pub among_without : (i j : ℕ) (xs ys zs : List ℕ) → IsTrue (contains_index i (xs ++ (ys ++ j ∷ zs)))
    → IsTrue (contains_index i (xs ++ (ys ++ zs))) ⊎ (j ≡ i)
among_without i j xs ys zs e = by (among_either i xs (ys ++ j ∷ zs) e)
  where
    last : (IsTrue (j == i)) ⊎ IsTrue (contains_index i zs)
        → IsTrue (contains_index i (xs ++ (ys ++ zs))) ⊎ (j ≡ i)
    last (inl g) = inr (eqb-true j i g)
    last (inr g) = inl (among_right i xs (ys ++ zs) (among_right i ys zs g))

    inner : IsTrue (contains_index i ys) ⊎ IsTrue (contains_index i (j ∷ zs))
        → IsTrue (contains_index i (xs ++ (ys ++ zs))) ⊎ (j ≡ i)
    inner (inl g) = inl (among_right i xs (ys ++ zs) (among_left i ys zs g))
    inner (inr g) = last (or_cases (j == i) (contains_index i zs) g)

    by : IsTrue (contains_index i xs) ⊎ IsTrue (contains_index i (ys ++ j ∷ zs))
        → IsTrue (contains_index i (xs ++ (ys ++ zs))) ⊎ (j ≡ i)
    by (inl g) = inl (among_left i xs (ys ++ zs) g)
    by (inr g) = inner (among_either i ys (j ∷ zs) g)
