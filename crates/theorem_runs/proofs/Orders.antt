-- The frames that a node takes, holds and is to hear of rise: every event keeps it.
use Rattle.std.proofs.Common.{◌≡◌, ℕ, zero, suc, ◌+◌, ◌<◌, ◌≤◌, ◌&&◌, ◌||◌, not, Bool, true, false, List, [], ◌∷◌, ◌++◌, append-nil, append_assoc, map, Option, None, refl, sym, ap, subst, ◌∙◌, arith, true≢false}
use Rattle.std.specs.Prelude.{if◌then◌else◌, slice_index}
use Rattle.std.specs.List.{AllByRecursion, cons_option}
use Rattle.std.specs.List.Sorted.{IsStrictlyIncreasing}
use Rattle.std.proofs.lemmas.Bool.{and_parts, or_from}
use Rattle.std.proofs.lemmas.List.Folds.{list_any-append}
use Rattle.std.proofs.lemmas.List.{map-append}
use Rattle.std.proofs.lemmas.List.Elements.{filter_map-append}
use Rattle.inet_frame.specs.Counted.{tcp_in}
use Rattle.settle_rules.specs.Numbers.{KeptNumber}
use Rattle.settle_rules.specs.Progress.{ProgressTable}
use Rattle.state_wire.specs.Guest.{Kind}
use Rattle.frame_mirror.specs.declared.ring.Waiting.{Waiting}
use Rattle.colo_wire.specs.declared.messages.Message.{Message}
use Rattle.colo_wire.specs.declared.messages.Message.TheVariants.{Frame, Number, Begin, State, Page, Disk, Write, Held, Bytes, End, Known, Sent, Ack}
use Rattle.colo_wire.specs.declared.messages.Message.TheVariants as message
use Rattle.splice_run.specs.Tokens.{Taken}
use Rattle.pair_theorem.specs.Checkpoint.{capture, checkpoint_messages}
use Rattle.pair_theorem.specs.ClientFrames.{trims_by}
use Rattle.pair_theorem.specs.Events.{accept_by, acknowledge, hear_end, hear_frame, is_ack_message, is_full, lose_links, look_at, number_message, numbers_of, passed_frame, primary_hears, secondary_hears, secondary_survives, turn_secondary, waiting_of}
use Rattle.pair_theorem.specs.GuestTurns.{TurnNumbers, add_turn, turn_from, turn_if, turn_with, turn_without}
use Rattle.pair_theorem.specs.LogParts.{frame_in, frames_on, inbox_indices}
use Rattle.pair_theorem.specs.Messages.{frame_message, waiting_in}
use Rattle.pair_theorem.specs.Past.{NodeRun, Past, Start, Step, first_past, is_primary_stop}
use Rattle.pair_theorem.proofs.EachHistory.{Fits, Keeps, Reached, each_history}
use Rattle.pair_theorem.proofs.EventCases.{Cases}
use Rattle.pair_theorem.proofs.MessageCases.{heard_back_case, heard_case, stays_apart}
use Rattle.theorem_runs.specs.Links.{IsBeside, IsPart, copied_parts}
use Rattle.theorem_runs.specs.Runs.{OrdersRise, Rise, RisesBelow, RisesFrom, after_end, copy_order, has_end, is_end, primary_order, secondary_order, took_indices, until_end}
use Rattle.theorem_runs.proofs.Checkpoints.{HeardBackFirst, HeardFirst, ack_calm, beside, beside_frames, calm_of, ends, one_checkpoint, part, parts_are, pop_down, pop_up, reply_calm}
use Rattle.theorem_runs.proofs.Lone.{lone_links}
use Rattle.theorem_runs.proofs.ListFacts.{all_append, all_weaken}
use Rattle.theorem_runs.proofs.Settled.{ack_settled, known_base, known_settled, left_settled, primary_base, primary_settled, secondary_base, sent_base, sent_settled, survivor_settled, told_past}

-- NUMBERS THAT RISE
rises_weaken : (low m : ℕ) (xs : List ℕ) → low ≤ m → RisesFrom m xs → RisesFrom low xs
rises_weaken low m [] le h = tt
rises_weaken low m (x ∷ xs) le h = let first = h.0 in (omega (arith, le, first), h.1)

rises_push : (low next : ℕ) (xs : List ℕ) → low ≤ next → RisesFrom low xs → AllByRecursion (λ x. x < next) xs
    → RisesFrom low (xs ++ next ∷ [])
rises_push low next [] le h b = (le, tt)
rises_push low next (x ∷ xs) le h b =
    let first = b.0 in (h.0, rises_push (suc x) next xs (omega (arith, first)) h.1 b.1)

rises_front : (low : ℕ) (xs ys : List ℕ) → RisesFrom low (xs ++ ys) → RisesFrom low xs
rises_front low [] ys h = tt
rises_front low (x ∷ xs) ys h = (h.0, rises_front (suc x) xs ys h.1)

rises_without : (low y : ℕ) (xs ys : List ℕ) → RisesFrom low (xs ++ y ∷ ys) → RisesFrom low (xs ++ ys)
rises_without low y [] ys h = let first = h.0 in rises_weaken low (suc y) ys (omega (arith, first)) h.1
rises_without low y (x ∷ xs) ys h = (h.0, rises_without (suc x) y xs ys h.1)

all_front : {X : Type 0} (P : X → Type 0) (xs ys : List X) → AllByRecursion P (xs ++ ys) → AllByRecursion P xs
all_front P [] ys h = tt
all_front P (x ∷ xs) ys h = (h.0, all_front P xs ys h.1)

all_without : {X : Type 0} (P : X → Type 0) (y : X) (xs ys : List X) → AllByRecursion P (xs ++ y ∷ ys)
    → AllByRecursion P (xs ++ ys)
all_without P y [] ys h = h.1
all_without P y (x ∷ xs) ys h = (h.0, all_without P y xs ys h.1)

pub push_below : (next : ℕ) (xs : List ℕ) → RisesBelow next xs → RisesBelow (next + 1) (xs ++ next ∷ [])
push_below next xs h = record {
  rises = rises_push 0 next xs (omega arith) h.rises h.below;
  below = all_append (λ x. x < next + 1) xs (next ∷ [])
      (all_weaken (λ x. x < next) (λ x. x < next + 1) xs (λ x lt. omega (arith, lt)) h.below) (omega arith, tt);
}

more_below : (next : ℕ) (xs : List ℕ) → RisesBelow next xs → RisesBelow (next + 1) xs
more_below next xs h = record {
  rises = h.rises;
  below = all_weaken (λ x. x < next) (λ x. x < next + 1) xs (λ x lt. omega (arith, lt)) h.below;
}

pub front_below : (next : ℕ) (xs ys : List ℕ) → RisesBelow next (xs ++ ys) → RisesBelow next xs
front_below next xs ys h =
    record { rises = rises_front 0 xs ys h.rises; below = all_front (λ x. x < next) xs ys h.below }

without_below : (next y : ℕ) (xs ys : List ℕ) → RisesBelow next (xs ++ y ∷ ys) → RisesBelow next (xs ++ ys)
without_below next y xs ys h =
    record { rises = rises_without 0 y xs ys h.rises; below = all_without (λ x. x < next) y xs ys h.below }

-- in the library's words
increasing_from : (low : ℕ) (xs : List ℕ) → RisesFrom low xs → IsStrictlyIncreasing xs
increasing_from low [] h k lt = absurd (omega (arith, lt))
increasing_from low (x ∷ []) h k lt = absurd (omega (arith, lt))
increasing_from low (x ∷ y ∷ ys) h zero lt = let next = h.1.0 in omega (arith, next)
increasing_from low (x ∷ y ∷ ys) h (suc k) lt =
    let one : suc k + 1 ≡ suc (k + 1) = omega arith in
    subst (λ (n : ℕ). slice_index (y ∷ ys) k < slice_index (x ∷ y ∷ ys) n) (sym one)
    (increasing_from (suc x) (y ∷ ys) h.1 k (omega (arith, lt)))

pub increasing : (next : ℕ) (xs : List ℕ) → RisesBelow next xs → IsStrictlyIncreasing xs
increasing next xs h = increasing_from 0 xs h.rises

-- BEFORE AND BEHIND AN END
pub beside_no_end : (ms : List Message) → AllByRecursion IsBeside ms → has_end ms ≡ false
beside_no_end [] h = refl
beside_no_end (m ∷ ms) h = by m h.0 (beside_no_end ms h.1)
  where
    by : (n : Message) → IsBeside n → has_end ms ≡ false → (is_end n || has_end ms) ≡ false
    by (Frame index seen trim frame) b none = none
    by (Number t client number) b none = none
    by (Begin e) b none = absurd b
    by (State bytes) b none = absurd b
    by (Page k bytes) b none = absurd b
    by (Disk first bytes) b none = absurd b
    by (Write k bytes) b none = absurd b
    by (Held index seen trim frame) b none = absurd b
    by (message.Line t mac flags client own number refused acked window mss base) b none = absurd b
    by (Bytes bytes) b none = absurd b
    by (End e) b none = absurd b
    by (Known t client number) b none = absurd b
    by (Sent frame) b none = absurd b
    by (Ack e) b none = absurd b

pub until_with : (ms xs : List Message) → has_end ms ≡ true → until_end (ms ++ xs) ≡ until_end ms
until_with [] xs e = absurd (true≢false (sym e))
until_with (m ∷ ms) xs e = by (is_end m) e (λ f. until_with ms xs f)
  where
    by : (b : Bool) → (b || has_end ms) ≡ true → (has_end ms ≡ true → until_end (ms ++ xs) ≡ until_end ms)
        → (if b then [] else m ∷ until_end (ms ++ xs)) ≡ (if b then [] else m ∷ until_end ms)
    by true f more = refl
    by false f more = ap (λ (ns : List Message). m ∷ ns) (more f)

pub until_without : (ms xs : List Message) → has_end ms ≡ false → until_end (ms ++ xs) ≡ ms ++ until_end xs
until_without [] xs e = refl
until_without (m ∷ ms) xs e = by (is_end m) e (λ f. until_without ms xs f)
  where
    by : (b : Bool) → (b || has_end ms) ≡ false → (has_end ms ≡ false → until_end (ms ++ xs) ≡ ms ++ until_end xs)
        → (if b then [] else m ∷ until_end (ms ++ xs)) ≡ m ∷ (ms ++ until_end xs)
    by true f more = absurd (true≢false f)
    by false f more = ap (λ (ns : List Message). m ∷ ns) (more f)

pub until_all : (ms : List Message) → has_end ms ≡ false → until_end ms ≡ ms
until_all ms e =
    ap (λ (ns : List Message). until_end ns) (sym (append-nil ms)) ∙ (until_without ms [] e ∙ append-nil ms)

pub after_with : (ms xs : List Message) → has_end ms ≡ true → after_end (ms ++ xs) ≡ after_end ms ++ xs
after_with [] xs e = absurd (true≢false (sym e))
after_with (m ∷ ms) xs e = by (is_end m) e (λ f. after_with ms xs f)
  where
    by : (b : Bool) → (b || has_end ms) ≡ true → (has_end ms ≡ true → after_end (ms ++ xs) ≡ after_end ms ++ xs)
        → (if b then ms ++ xs else after_end (ms ++ xs)) ≡ (if b then ms else after_end ms) ++ xs
    by true f more = refl
    by false f more = more f

after_without : (ms xs : List Message) → has_end ms ≡ false → after_end (ms ++ xs) ≡ after_end xs
after_without [] xs e = refl
after_without (m ∷ ms) xs e = by (is_end m) e (λ f. after_without ms xs f)
  where
    by : (b : Bool) → (b || has_end ms) ≡ false → (has_end ms ≡ false → after_end (ms ++ xs) ≡ after_end xs)
        → (if b then ms ++ xs else after_end (ms ++ xs)) ≡ after_end xs
    by true f more = absurd (true≢false f)
    by false f more = more f

pub after_none : (ms : List Message) → has_end ms ≡ false → after_end ms ≡ []
after_none ms e = ap (λ (ns : List Message). after_end ns) (sym (append-nil ms)) ∙ after_without ms [] e

pub frames_on-append : (xs ys : List Message) → frames_on (xs ++ ys) ≡ frames_on xs ++ frames_on ys
frames_on-append xs ys = filter_map-append frame_in xs ys

-- messages that are put behind, with no End among them
pub record PutBehind (ms xs : List Message) : Type 0 where
  pub until : frames_on (until_end (ms ++ xs)) ≡ frames_on (until_end ms) ++ (if has_end ms then [] else frames_on xs)
  pub after : frames_on (after_end (ms ++ xs)) ≡ frames_on (after_end ms) ++ (if has_end ms then frames_on xs else [])

put_behind : (ms xs : List Message) → has_end xs ≡ false → PutBehind ms xs
put_behind ms xs none = by (has_end ms) refl
  where
    until_at : (b : Bool) → has_end ms ≡ b
        → frames_on (until_end (ms ++ xs)) ≡ frames_on (until_end ms) ++ (if b then [] else frames_on xs)
    until_at true e =
        ap frames_on (until_with ms xs e) ∙ sym (append-nil (frames_on (until_end ms)))
    until_at false e =
        ap frames_on (until_without ms xs e ∙ ap (λ (ns : List Message). ms ++ ns) (until_all xs none))
        ∙ (frames_on-append ms xs ∙ ap (λ (ns : List Message). frames_on ns ++ frames_on xs) (sym (until_all ms e)))

    after_at : (b : Bool) → has_end ms ≡ b
        → frames_on (after_end (ms ++ xs)) ≡ frames_on (after_end ms) ++ (if b then frames_on xs else [])
    after_at true e = ap frames_on (after_with ms xs e) ∙ frames_on-append (after_end ms) xs
    after_at false e =
        ap frames_on (after_without ms xs e ∙ (after_none xs none ∙ sym (after_none ms e)))
        ∙ sym (append-nil (frames_on (after_end ms)))

    by : (b : Bool) → has_end ms ≡ b → PutBehind ms xs
    by b e = record {
      until = until_at (has_end ms) refl;
      after = after_at (has_end ms) refl;
    }

numbers_no_end : (new : List KeptNumber) → has_end (map number_message new) ≡ false
numbers_no_end [] = refl
numbers_no_end (k ∷ new) = numbers_no_end new

pub numbers_no_frame : (new : List KeptNumber) → frames_on (map number_message new) ≡ []
numbers_no_frame [] = refl
numbers_no_frame (k ∷ new) = numbers_no_frame new

none_either : (b : Bool) (xs : List ℕ) → xs ≡ [] → (if b then [] else xs) ≡ []
none_either true xs e = refl
none_either false xs e = e

none_or : (b : Bool) (xs : List ℕ) → xs ≡ [] → (if b then xs else []) ≡ []
none_or true xs e = e
none_or false xs e = refl

-- the link after a settling has the same frames before and behind an End
pub until-told : (past : Past) (ns : List KeptNumber) (ps : ProgressTable) (new : List KeptNumber)
    → frames_on (until_end (told_past past ns ps new).to_secondary) ≡ frames_on (until_end past.to_secondary)
until-told past ns ps new = by past.is_reported
  where
    ms : List Message
    ms = past.to_secondary

    xs : List Message
    xs = map number_message new

    by : (b : Bool) → frames_on (until_end (if b then ms else ms ++ xs)) ≡ frames_on (until_end ms)
    by true = refl
    by false =
        (put_behind ms xs (numbers_no_end new)).until
        ∙ (ap (λ (is : List ℕ). frames_on (until_end ms) ++ is)
        (none_either (has_end ms) (frames_on xs) (numbers_no_frame new)) ∙ append-nil (frames_on (until_end ms)))

pub after-told : (past : Past) (ns : List KeptNumber) (ps : ProgressTable) (new : List KeptNumber)
    → frames_on (after_end (told_past past ns ps new).to_secondary) ≡ frames_on (after_end past.to_secondary)
after-told past ns ps new = by past.is_reported
  where
    ms : List Message
    ms = past.to_secondary

    xs : List Message
    xs = map number_message new

    by : (b : Bool) → frames_on (after_end (if b then ms else ms ++ xs)) ≡ frames_on (after_end ms)
    by true = refl
    by false =
        (put_behind ms xs (numbers_no_end new)).after
        ∙ (ap (λ (is : List ℕ). frames_on (after_end ms) ++ is)
        (none_or (has_end ms) (frames_on xs) (numbers_no_frame new)) ∙ append-nil (frames_on (after_end ms)))

-- A CHECKPOINT brings no frame before its End, and none stands behind it yet
part_no_end : (m : Message) → IsPart m → (is_end m ≡ false) × (frame_in m ≡ None)
part_no_end (Frame index seen trim frame) h = absurd h
part_no_end (Number t client number) h = absurd h
part_no_end (Begin e) h = (refl, refl)
part_no_end (State bytes) h = (refl, refl)
part_no_end (Page k bytes) h = (refl, refl)
part_no_end (Disk first bytes) h = (refl, refl)
part_no_end (Write k bytes) h = absurd h
part_no_end (Held index seen trim frame) h = (refl, refl)
part_no_end (message.Line t mac flags client own number refused acked window mss base) h = (refl, refl)
part_no_end (Bytes bytes) h = (refl, refl)
part_no_end (End e) h = absurd h
part_no_end (Known t client number) h = absurd h
part_no_end (Sent frame) h = absurd h
part_no_end (Ack e) h = absurd h

pub parts_no_end : (ms : List Message) → AllByRecursion IsPart ms → has_end ms ≡ false
parts_no_end [] h = refl
parts_no_end (m ∷ ms) h = or_from (is_end m) (has_end ms) (part_no_end m h.0).0 (parts_no_end ms h.1)

pub parts_no_frame : (ms : List Message) → AllByRecursion IsPart ms → frames_on ms ≡ []
parts_no_frame [] h = refl
parts_no_frame (m ∷ ms) h =
    ap (λ (o : Option ℕ). cons_option o (frames_on ms)) (part_no_end m h.0).1 ∙ parts_no_frame ms h.1

pub until-captured : (past : Past) → has_end past.to_secondary ≡ false
    → frames_on (until_end (capture past).to_secondary) ≡ frames_on (until_end past.to_secondary)
unfolding capture checkpoint_messages copied_parts
until-captured past none =
    let p = capture past in
    let parts = copied_parts p.copy p.captures in
    let are = parts_are p.copy p.captures in
    let ms = past.to_secondary in
    ap frames_on (until_without ms (parts ++ End p.captures ∷ []) none
    ∙ ap (λ (ns : List Message). ms ++ ns) (until_without parts (End p.captures ∷ []) (parts_no_end parts are)))
    ∙ (frames_on-append ms (parts ++ [])
    ∙ (ap (λ (is : List ℕ). frames_on ms ++ is)
    (frames_on-append parts [] ∙ (append-nil (frames_on parts) ∙ parts_no_frame parts are))
    ∙ (append-nil (frames_on ms) ∙ ap frames_on (sym (until_all ms none)))))

pub after-captured : (past : Past) → has_end past.to_secondary ≡ false
    → frames_on (after_end (capture past).to_secondary) ≡ []
unfolding capture checkpoint_messages copied_parts
after-captured past none =
    let p = capture past in
    let parts = copied_parts p.copy p.captures in
    ap frames_on (after_without past.to_secondary (parts ++ End p.captures ∷ []) none
    ∙ after_without parts (End p.captures ∷ []) (parts_no_end parts (parts_are p.copy p.captures)))

-- numbers put no End on the link
pub told_no_end : (past : Past) (ns : List KeptNumber) (ps : ProgressTable) (new : List KeptNumber)
    → has_end past.to_secondary ≡ false → has_end (told_past past ns ps new).to_secondary ≡ false
told_no_end past ns ps new e = by past.is_reported
  where
    by : (b : Bool)
        → has_end (if b then past.to_secondary else past.to_secondary ++ map number_message new) ≡ false
    by true = e
    by false =
        list_any-append is_end past.to_secondary (map number_message new)
        ∙ or_from (has_end past.to_secondary) (has_end (map number_message new)) e (numbers_no_end new)

-- THE ORDERS of what a settling leaves
told_orders : (past : Past) (ns : List KeptNumber) (ps : ProgressTable) (new : List KeptNumber) → OrdersRise past
    → OrdersRise (told_past past ns ps new)
told_orders past ns ps new h = record {
  primary = h.primary;
  secondary = subst (λ (is : List ℕ). RisesBelow past.next (took_indices past.secondary
      ++ (inbox_indices past.secondary_inbox ++ is))) (sym (until-told past ns ps new)) h.secondary;
  copy = subst (λ (is : List ℕ). RisesBelow past.next (took_indices past.copy.run
      ++ (inbox_indices past.copy.inbox ++ is))) (sym (after-told past ns ps new)) h.copy;
}

captured_orders : (past : Past) → has_end past.to_secondary ≡ false → OrdersRise past → OrdersRise (capture past)
unfolding capture
captured_orders past none h = record {
  primary = h.primary;
  secondary = subst (λ (is : List ℕ). RisesBelow past.next (took_indices past.secondary
      ++ (inbox_indices past.secondary_inbox ++ is))) (sym (until-captured past none)) h.secondary;
  copy = subst (λ (is : List ℕ). RisesBelow past.next (took_indices past.primary
      ++ (inbox_indices past.primary_inbox ++ is))) (sym (after-captured past none))
      (subst (λ (is : List ℕ). RisesBelow past.next (took_indices past.primary ++ is))
      (sym (append-nil (inbox_indices past.primary_inbox))) h.primary);
}

-- A TURN takes the oldest frame
pub taken_order : (kind : Kind) (node : NodeRun) (inbox : List Waiting) (takes : Bool) (n : TurnNumbers) (more : List ℕ)
    → took_indices (turn_from kind node inbox takes n).run ++ (inbox_indices (turn_from kind node inbox takes n).inbox
    ++ more) ≡ took_indices node ++ (inbox_indices inbox ++ more)
unfolding turn_from turn_if turn_with turn_without add_turn
taken_order kind node [] takes n more =
    ap (λ (is : List ℕ). is ++ more)
    (filter_map-append (λ (t : Taken). t.index) node.turns (_ ∷ []) ∙ append-nil (took_indices node))
taken_order kind node (w ∷ inbox) takes n more = by (takes && kind.can_receive node.run.state)
  where
    by : (b : Bool) → took_indices (turn_if b kind node w inbox n).run
        ++ (inbox_indices (turn_if b kind node w inbox n).inbox ++ more)
        ≡ took_indices node ++ (w.index ∷ (inbox_indices inbox ++ more))
    by true =
        ap (λ (is : List ℕ). is ++ (inbox_indices inbox ++ more))
        (filter_map-append (λ (t : Taken). t.index) node.turns (_ ∷ []))
        ∙ append_assoc (took_indices node) (w.index ∷ []) (inbox_indices inbox ++ more)
    by false =
        ap (λ (is : List ℕ). is ++ (w.index ∷ (inbox_indices inbox ++ more)))
        (filter_map-append (λ (t : Taken). t.index) node.turns (_ ∷ []) ∙ append-nil (took_indices node))

turned_orders : (kind : Kind) (past : Past) (takes : Bool) (n : TurnNumbers) → OrdersRise past
    → OrdersRise (primary_base past (turn_from kind past.primary past.primary_inbox takes n))
turned_orders kind past takes n h =
    let made = turn_from kind past.primary past.primary_inbox takes n in
    let same : took_indices made.run ++ inbox_indices made.inbox ≡ primary_order past =
    ap (λ (is : List ℕ). took_indices made.run ++ is) (sym (append-nil (inbox_indices made.inbox)))
    ∙ (taken_order kind past.primary past.primary_inbox takes n []
    ∙ ap (λ (is : List ℕ). took_indices past.primary ++ is) (append-nil (inbox_indices past.primary_inbox))) in
    record {
      primary = subst (RisesBelow past.next) (sym same) h.primary;
      secondary = h.secondary;
      copy = h.copy;
    }

own_orders : (kind : Kind) (past : Past) (takes : Bool) (n : TurnNumbers) → OrdersRise past
    → OrdersRise (secondary_base past (turn_from kind past.secondary past.secondary_inbox takes n))
own_orders kind past takes n h = record {
  primary = h.primary;
  secondary = subst (RisesBelow past.next) (sym (taken_order kind past.secondary past.secondary_inbox takes n
      (frames_on (until_end past.to_secondary)))) h.secondary;
  copy = h.copy;
}

coe_order : (n m : ℕ) → n ≡ m → {xs ys : List ℕ} → xs ≡ ys → RisesBelow m ys → RisesBelow n xs
coe_order n m e {xs} f h = subst (λ (k : ℕ). RisesBelow k xs) (sym e) (subst (RisesBelow m) (sym f) h)

same_orders : (past after : Past) → after.next ≡ past.next → took_indices after.primary ≡ took_indices past.primary
    → after.primary_inbox ≡ past.primary_inbox → took_indices after.secondary ≡ took_indices past.secondary
    → after.secondary_inbox ≡ past.secondary_inbox → after.copy ≡ past.copy → after.to_secondary ≡ past.to_secondary
    → OrdersRise past → OrdersRise after
same_orders past after n p i s j c d h = record {
  primary = coe_order after.next past.next n (λ k. p k ++ inbox_indices (i k)) h.primary;
  secondary = coe_order after.next past.next n (λ k. s k ++ (inbox_indices (j k) ++ frames_on (until_end (d k))))
      h.secondary;
  copy = coe_order after.next past.next n
      (λ k. took_indices (c k).run ++ (inbox_indices (c k).inbox ++ frames_on (after_end (d k)))) h.copy;
}

-- A FRAME OF THE CLIENT
if_below : (b : Bool) (next : ℕ) (xs : List ℕ) → RisesBelow next xs
    → RisesBelow (next + 1) (xs ++ (if b then [] else next ∷ []))
if_below true next xs h = subst (RisesBelow (next + 1)) (sym (append-nil xs)) (more_below next xs h)
if_below false next xs h = push_below next xs h

or_below : (b : Bool) (next : ℕ) (xs : List ℕ) → RisesBelow next xs
    → RisesBelow (next + 1) (xs ++ (if b then next ∷ [] else []))
or_below true next xs h = push_below next xs h
or_below false next xs h = subst (RisesBelow (next + 1)) (sym (append-nil xs)) (more_below next xs h)

-- at the end of three lists
at_end : (next : ℕ) (xs ys zs more : List ℕ) → RisesBelow next ((xs ++ (ys ++ zs)) ++ more)
    → RisesBelow next (xs ++ (ys ++ (zs ++ more)))
at_end next xs ys zs more h =
    subst (RisesBelow next) (append_assoc xs (ys ++ zs) more
    ∙ ap (λ (is : List ℕ). xs ++ is) (append_assoc ys zs more)) h

accepted_orders : (b : Bool) (past : Past) (w : Waiting) → w.index ≡ past.next
    → (b ≡ true → past.to_secondary ≡ []) → OrdersRise past → OrdersRise (accept_by b past w (trims_by w))
unfolding accept_by
accepted_orders true past w same lone h =
    let inbox = inbox_indices past.secondary_inbox in
    let none : frames_on (until_end past.to_secondary) ≡ [] = ap (λ (ms : List Message). frames_on (until_end ms))
    (lone refl) in
    let here : RisesBelow past.next (took_indices past.secondary ++ inbox) =
    subst (λ (is : List ℕ). RisesBelow past.next (took_indices past.secondary ++ is))
    (ap (λ (is : List ℕ). inbox ++ is) none ∙ append-nil inbox) h.secondary in
    record {
      primary = more_below past.next (primary_order past) h.primary;
      secondary = subst (RisesBelow (past.next + 1))
          (append_assoc (took_indices past.secondary) inbox (past.next ∷ [])
          ∙ (ap (λ (i : ℕ). took_indices past.secondary ++ (inbox ++ i ∷ [])) (sym same)
          ∙ ap (λ (is : List ℕ). took_indices past.secondary ++ is)
          (sym (map-append (λ (v : Waiting). v.index) past.secondary_inbox (w ∷ []))
          ∙ (sym (append-nil (inbox_indices (past.secondary_inbox ++ w ∷ [])))
          ∙ ap (λ (is : List ℕ). inbox_indices (past.secondary_inbox ++ w ∷ []) ++ is) (sym none)))))
          (push_below past.next (took_indices past.secondary ++ inbox) here);
      copy = more_below past.next (copy_order past) h.copy;
    }
accepted_orders false past w same lone h = record {
  primary = subst (RisesBelow (past.next + 1))
      (append_assoc (took_indices past.primary) (inbox_indices past.primary_inbox) (past.next ∷ [])
      ∙ (ap (λ (i : ℕ). took_indices past.primary ++ (inbox_indices past.primary_inbox ++ i ∷ [])) (sym same)
      ∙ ap (λ (is : List ℕ). took_indices past.primary ++ is)
      (sym (map-append (λ (v : Waiting). v.index) past.primary_inbox (w ∷ [])))))
      (push_below past.next (primary_order past) h.primary);
  secondary = by_secondary past.is_reported;
  copy = by_copy past.is_reported;
}
  where
    ms : List Message
    ms = past.to_secondary

    put : PutBehind ms (frame_message w ∷ [])
    put = put_behind ms (frame_message w ∷ []) refl

    by_secondary : (c : Bool) → RisesBelow (past.next + 1) (took_indices past.secondary
        ++ (inbox_indices past.secondary_inbox
        ++ frames_on (until_end (if c then ms else ms ++ frame_message w ∷ []))))
    by_secondary true = more_below past.next (secondary_order past) h.secondary
    by_secondary false =
        subst (λ (is : List ℕ). RisesBelow (past.next + 1) (took_indices past.secondary
        ++ (inbox_indices past.secondary_inbox ++ is)))
        (ap (λ (i : ℕ). frames_on (until_end ms) ++ (if has_end ms then [] else i ∷ [])) (sym same) ∙ sym put.until)
        (at_end (past.next + 1) (took_indices past.secondary) (inbox_indices past.secondary_inbox)
        (frames_on (until_end ms)) (if has_end ms then [] else past.next ∷ [])
        (if_below (has_end ms) past.next (secondary_order past) h.secondary))

    by_copy : (c : Bool) → RisesBelow (past.next + 1) (took_indices past.copy.run
        ++ (inbox_indices past.copy.inbox
        ++ frames_on (after_end (if c then ms else ms ++ frame_message w ∷ []))))
    by_copy true = more_below past.next (copy_order past) h.copy
    by_copy false =
        subst (λ (is : List ℕ). RisesBelow (past.next + 1) (took_indices past.copy.run
        ++ (inbox_indices past.copy.inbox ++ is)))
        (ap (λ (i : ℕ). frames_on (after_end ms) ++ (if has_end ms then i ∷ [] else [])) (sym same) ∙ sym put.after)
        (at_end (past.next + 1) (took_indices past.copy.run) (inbox_indices past.copy.inbox)
        (frames_on (after_end ms)) (if has_end ms then past.next ∷ [] else [])
        (or_below (has_end ms) past.next (copy_order past) h.copy))

passed_orders : (past : Past) → OrdersRise past → OrdersRise (passed_frame past)
passed_orders past h = record {
  primary = more_below past.next (primary_order past) h.primary;
  secondary = more_below past.next (secondary_order past) h.secondary;
  copy = more_below past.next (copy_order past) h.copy;
}

-- THE SECONDARY HEARS
pub apart_brings_none : (m : Message) → stays_apart m ≡ true → (is_end m ≡ false) × (frame_in m ≡ None)
apart_brings_none (Frame index seen trim frame) h = absurd (true≢false (sym h))
apart_brings_none (Number t client number) h = absurd (true≢false (sym h))
apart_brings_none (Begin e) h = (refl, refl)
apart_brings_none (State bytes) h = (refl, refl)
apart_brings_none (Page k bytes) h = (refl, refl)
apart_brings_none (Disk first bytes) h = (refl, refl)
apart_brings_none (Write k bytes) h = (refl, refl)
apart_brings_none (Held index seen trim frame) h = (refl, refl)
apart_brings_none (message.Line t mac flags client own number refused acked window mss base) h = (refl, refl)
apart_brings_none (Bytes bytes) h = (refl, refl)
apart_brings_none (End e) h = absurd (true≢false (sym h))
apart_brings_none (Known t client number) h = (refl, refl)
apart_brings_none (Sent frame) h = (refl, refl)
apart_brings_none (Ack e) h = (refl, refl)

-- a link whose first message is neither a frame nor an End
pub first_until : (m : Message) (ms : List Message) → is_end m ≡ false → frame_in m ≡ None
    → frames_on (until_end (m ∷ ms)) ≡ frames_on (until_end ms)
first_until m ms e f =
    ap (λ (b : Bool). frames_on (if b then [] else m ∷ until_end ms)) e
    ∙ ap (λ (o : Option ℕ). cons_option o (frames_on (until_end ms))) f

pub first_after : (m : Message) (ms : List Message) → is_end m ≡ false
    → frames_on (after_end (m ∷ ms)) ≡ frames_on (after_end ms)
first_after m ms e = ap (λ (b : Bool). frames_on (if b then ms else after_end ms)) e

-- the orders, with what the link brings
secondary_with : (past : Past) (fs : List ℕ) → frames_on (until_end past.to_secondary) ≡ fs → OrdersRise past
    → RisesBelow past.next (took_indices past.secondary ++ (inbox_indices past.secondary_inbox ++ fs))
secondary_with past fs e h =
    subst (λ (is : List ℕ). RisesBelow past.next (took_indices past.secondary
    ++ (inbox_indices past.secondary_inbox ++ is))) e h.secondary

copy_with : (past : Past) (fs : List ℕ) → frames_on (after_end past.to_secondary) ≡ fs → OrdersRise past
    → RisesBelow past.next (took_indices past.copy.run ++ (inbox_indices past.copy.inbox ++ fs))
copy_with past fs e h =
    subst (λ (is : List ℕ). RisesBelow past.next (took_indices past.copy.run
    ++ (inbox_indices past.copy.inbox ++ is))) e h.copy

nested_front : (next : ℕ) (xs ys zs : List ℕ) → RisesBelow next (xs ++ (ys ++ zs)) → RisesBelow next (xs ++ (ys ++ []))
nested_front next xs ys zs h =
    subst (λ (is : List ℕ). RisesBelow next (xs ++ is)) (sym (append-nil ys))
    (front_below next (xs ++ ys) zs (subst (RisesBelow next) (sym (append_assoc xs ys zs)) h))

heard_frame : (past : Past) (index : ℕ) (w : Waiting) (ms : List Message) → w.index ≡ index → (full : Bool)
    → frames_on (until_end past.to_secondary) ≡ index ∷ frames_on (until_end ms) → OrdersRise past
    → RisesBelow past.next (took_indices past.secondary
    ++ (inbox_indices (if full then past.secondary_inbox else past.secondary_inbox ++ w ∷ [])
    ++ frames_on (until_end ms)))
heard_frame past index w ms same true e h =
    let took = took_indices past.secondary in
    let inbox = inbox_indices past.secondary_inbox in
    let rest = frames_on (until_end ms) in
    subst (RisesBelow past.next) (append_assoc took inbox rest)
    (without_below past.next index (took ++ inbox) rest
    (subst (RisesBelow past.next) (sym (append_assoc took inbox (index ∷ rest)))
    (secondary_with past (index ∷ rest) e h)))
heard_frame past index w ms same false e h =
    let took = took_indices past.secondary in
    let inbox = inbox_indices past.secondary_inbox in
    let rest = frames_on (until_end ms) in
    subst (λ (is : List ℕ). RisesBelow past.next (took ++ is))
    (sym (append_assoc inbox (index ∷ []) rest)
    ∙ (ap (λ (i : ℕ). (inbox ++ i ∷ []) ++ rest) (sym same)
    ∙ ap (λ (is : List ℕ). is ++ rest) (sym (map-append (λ (v : Waiting). v.index) past.secondary_inbox (w ∷ [])))))
    (secondary_with past (index ∷ rest) e h)

ended_orders : (past : Past) (m : Message) (n : ℕ) (ms : List Message) → past.to_secondary ≡ m ∷ ms → m ≡ End n
    → HeardFirst past m ms → OrdersRise past → OrdersRise (hear_end (record past { to_secondary = ms }) n)
ended_orders past m n ms e is (beside g one) h = absurd (subst IsBeside is g)
ended_orders past m n ms e is (part g one) h = absurd (subst IsPart is g)
ended_orders past m n ms e is (ends told later same end g) h =
    let none : has_end ms ≡ false =
    ap has_end end ∙ beside_no_end later (beside_frames later g.frames) in
    let behind : frames_on (after_end past.to_secondary) ≡ frames_on ms =
    ap (λ (xs : List Message). frames_on (after_end xs)) (e ∙ ap (λ (x : Message). x ∷ ms) is) in
    let all = copy_with past (frames_on ms) behind h in
    record {
      primary = h.primary;
      secondary = subst (λ (is : List ℕ). RisesBelow past.next (took_indices past.copy.run
          ++ (inbox_indices past.copy.inbox ++ is))) (sym (ap frames_on (until_all ms none))) all;
      copy = subst (λ (is : List ℕ). RisesBelow past.next (took_indices past.copy.run
          ++ (inbox_indices past.copy.inbox ++ is))) (sym (ap frames_on (after_none ms none)))
          (nested_front past.next (took_indices past.copy.run) (inbox_indices past.copy.inbox) (frames_on ms) all);
    }

heard_orders : (past : Past) (m : Message) (ms : List Message) → past.to_secondary ≡ m ∷ ms → HeardFirst past m ms
    → OrdersRise past → OrdersRise (secondary_hears (record past { to_secondary = ms }) m).after
unfolding hear_frame
heard_orders past m ms e first h =
    let p : Past = record past { to_secondary = ms } in
    heard_case (λ o. OrdersRise o.after) p m
    (λ index seen trim frame is. let link = e ∙ ap (λ (x : Message). x ∷ ms) is in
    (record {
      primary = h.primary;
      secondary = heard_frame past index (waiting_in index seen trim frame) ms refl (is_full past.secondary_inbox)
          (ap (λ (xs : List Message). frames_on (until_end xs)) link) h;
      copy = copy_with past (frames_on (after_end ms)) (ap (λ (xs : List Message). frames_on (after_end xs)) link) h;
    }))
    (λ t client number is. let link = e ∙ ap (λ (x : Message). x ∷ ms) is in
    (record {
      primary = h.primary;
      secondary = secondary_with past (frames_on (until_end ms))
          (ap (λ (xs : List Message). frames_on (until_end xs)) link) h;
      copy = copy_with past (frames_on (after_end ms)) (ap (λ (xs : List Message). frames_on (after_end xs)) link) h;
    }))
    (λ n is. ended_orders past m n ms e is first h)
    (λ apart. let none = apart_brings_none m apart in
    (record {
      primary = h.primary;
      secondary = secondary_with past (frames_on (until_end ms))
          (ap (λ (xs : List Message). frames_on (until_end xs)) e ∙ first_until m ms none.0 none.1) h;
      copy = copy_with past (frames_on (after_end ms))
          (ap (λ (xs : List Message). frames_on (after_end xs)) e ∙ first_after m ms none.0) h;
    }))

-- THE PRIMARY HEARS
back_orders : (past : Past) (m : Message) (ms : List Message) → (past.awaits_ack && not (is_ack_message m)) ≡ false
    → HeardBackFirst past m ms → OrdersRise past
    → OrdersRise (primary_hears (record past { to_primary = ms }) m).after
back_orders past m ms idle first h =
    let p : Past = record past { to_primary = ms } in
    heard_back_case (λ o. OrdersRise o.after) p m
    (λ t client number is. let base = known_base p t client number in
    let none = beside_no_end past.to_secondary (reply_calm past m (Known t client number) ms is refl idle first).down in
    let now = same_orders past base refl refl refl refl refl refl refl h in
    known_settled (λ step after. OrdersRise after) p t client number past.sent_heard
    (λ out ns ps new. told_orders base ns ps new now)
    (λ out ns ps new why alone. captured_orders (told_past base ns ps new) (told_no_end base ns ps new none)
    (told_orders base ns ps new now)))
    (λ frame is. let base = sent_base p frame in
    let none = beside_no_end past.to_secondary (reply_calm past m (Sent frame) ms is refl idle first).down in
    let now = same_orders past base refl refl refl refl refl refl refl h in
    sent_settled (λ step after. OrdersRise after) p frame (past.sent_heard + 1)
    (λ out ns ps new. told_orders base ns ps new now)
    (λ out ns ps new why alone. captured_orders (told_past base ns ps new) (told_no_end base ns ps new none)
    (told_orders base ns ps new now)))
    (λ n is. let base = acknowledge p in
    let none = beside_no_end past.to_secondary (ack_calm past m n ms is first).down in
    let now = same_orders past base refl refl refl refl refl refl refl h in
    ack_settled (λ step after. OrdersRise after) p n
    (λ out ns ps new. told_orders base ns ps new now)
    (λ out ns ps new why alone. captured_orders (told_past base ns ps new) (told_no_end base ns ps new none)
    (told_orders base ns ps new now)))
    (λ foreign. same_orders past p refl refl refl refl refl refl refl h)

lost_orders : (past : Past) → OrdersRise past → OrdersRise (lose_links past)
lost_orders past h = record {
  primary = h.primary;
  secondary = nested_front past.next (took_indices past.secondary) (inbox_indices past.secondary_inbox)
      (frames_on (until_end past.to_secondary)) h.secondary;
  copy = nested_front past.next (took_indices past.copy.run) (inbox_indices past.copy.inbox)
      (frames_on (after_end past.to_secondary)) h.copy;
}

-- a frame goes to the secondary once the primary's stop was reported
pub taken_reported : (b c : Bool) → (b && not c) ≡ false → b ≡ true → c ≡ true
taken_reported b true e f = refl
taken_reported true false e f = absurd (true≢false e)
taken_reported false false e f = f

first_orders : (a : Start) → a.inbox ≡ [] → OrdersRise (first_past a)
first_orders a none =
    let rises : (xs : List ℕ) → xs ≡ [] → RisesBelow a.next xs =
    λ xs e. subst (RisesBelow a.next) (sym e) (record { rises = tt; below = tt }) in
    let waits : inbox_indices a.inbox ≡ [] = ap inbox_indices none in
    record {
      primary = rises (inbox_indices a.inbox) waits;
      secondary = rises (inbox_indices a.inbox ++ []) (append-nil (inbox_indices a.inbox) ∙ waits);
      copy = rises (inbox_indices a.inbox ++ []) (append-nil (inbox_indices a.inbox) ∙ waits);
    }

order_cases : (a : Start) → Cases a.kind a.stream (Keeps Fits a Rise)
unfolding secondary_survives turn_secondary
order_cases a = record {
  idle = λ past x e f steps r fits h. h;
  primary_turn =
      λ past d i b n e f steps r fits h.
      let made = turn_from a.kind past.primary past.primary_inbox i (numbers_of d b n) in
      let base = primary_base past made in
      let none = beside_no_end past.to_secondary (calm_of past (one_checkpoint Fits a steps past r) f).down in
      let now = turned_orders a.kind past i (numbers_of d b n) h in
      primary_settled (λ step after. OrdersRise after) past d i b n made
      (λ out ns ps new. told_orders base ns ps new now)
      (λ out ns ps new why alone. captured_orders (told_past base ns ps new) (told_no_end base ns ps new none)
      (told_orders base ns ps new now));
  secondary_turn =
      λ past d i b n e f steps r fits h.
      let made = turn_from a.kind past.secondary past.secondary_inbox i (numbers_of d b n) in
      same_orders (secondary_base past made) _ refl refl refl refl refl refl refl
      (own_orders a.kind past i (numbers_of d b n) h);
  survivor_turn =
      λ past d i b n e steps r fits h.
      let made = turn_from a.kind past.secondary past.secondary_inbox i (numbers_of d b n) in
      let base = secondary_base past made in
      let lone = (and_parts (is_primary_stop past.stop) past.is_reported e).1 in
      let now = own_orders a.kind past i (numbers_of d b n) h in
      survivor_settled (λ step after. OrdersRise after) past d i b n made
      (λ out ns ps new. told_orders base ns ps new now)
      (λ out ns ps new why alone. absurd (true≢false (sym lone ∙ alone)));
  accepts =
      λ past frame kept t e f steps r fits h. accepted_orders (is_primary_stop past.stop) past
      (waiting_of past (look_at past (tcp_in kept)) kept) refl
      (λ stopped. (lone_links a steps past r).down
      (taken_reported (is_primary_stop past.stop) past.is_reported t.1 stopped)) h;
  is_full = λ past frame kept t e f steps r fits h. passed_orders past h;
  answers = λ past frame b t e steps r fits h. passed_orders past h;
  drops = λ past frame why t e steps r fits h. passed_orders past h;
  loses = λ past frame t e f steps r fits h. passed_orders past h;
  secondary_hears =
      λ past m ms e f g steps r fits h. heard_orders past m ms e
      (pop_down past m ms e (one_checkpoint Fits a steps past r)) h;
  ignores =
      λ past m ms e f g running alone steps r fits h. same_orders past _ refl refl refl refl refl refl refl h;
  primary_hears =
      λ past m ms e f running alone steps r fits h. back_orders past m ms f
      (pop_up past m ms e (one_checkpoint Fits a steps past r)) h;
  primary_stops = λ past steps r fits h. same_orders past _ refl refl refl refl refl refl refl h;
  secondary_stops = λ past steps r fits h. same_orders past _ refl refl refl refl refl refl refl h;
  secondary_left =
      λ past e steps r fits h. same_orders (lose_links past) _ refl refl refl refl refl refl refl (lost_orders past h);
  primary_left =
      λ past e steps r fits h. left_settled (λ step after. OrdersRise after) past
      (λ out ns ps new. told_orders (lose_links past) ns ps new (lost_orders past h));
  asks =
      λ past e f g steps r fits h. captured_orders past
      (beside_no_end past.to_secondary (calm_of past (one_checkpoint Fits a steps past r) e).down) h;
}

pub orders_rise : (a : Start) → a.inbox ≡ [] → (steps : List Step) (past : Past)
    → Reached Fits a steps past → OrdersRise past
orders_rise a none = each_history Fits a Rise (first_orders a none) (order_cases a)
