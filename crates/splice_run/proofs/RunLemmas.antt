-- The single run of a log that has a text has one too.
use Rattle.std.proofs.Common.{◌≡◌, ℕ, Bool, true, false, not, ◌&&◌, ◌==◌, if◌then◌else◌, List, [], ◌∷◌, ◌++◌, All, Option, Some, None, map, flat_map, reverse, nat_le, refl, ap, subst, ◌∙◌, arith}
use Rattle.std.specs.List.{Contains, list_all}
use Rattle.std.proofs.lemmas.Bool.{and_parts, and_from, and_right, not_from_false}
use Rattle.std.proofs.lemmas.List.{reverse-append}
use Rattle.std.proofs.lemmas.List.Elements.{All-nil, All-cons, All-head, All-tail}
use Rattle.std.proofs.lemmas.List.Folds.{list_all-append}
use Rattle.tcp_track.specs.declared.openings.Opening.{Opening}
use Rattle.replay_log.specs.Cases.{are_in_order, before_of, begins_with, stands_after, is_early_mark, is_second_stop, is_false_report}
use Rattle.replay_log.specs.Forms.{log_forms, single_forms}
use Rattle.replay_log.specs.Items.{frame_form, item_words, item_text, is_item_in_range}
use Rattle.replay_log.specs.Places.{most32, most64}
use Rattle.replay_log.specs.Texts.{HasSpelling, IsLog, IsSingle, record_items, log_items, turn_text}
use Rattle.replay_log.specs.declared.forms.Form.TheVariants as form
use Rattle.replay_log.specs.declared.items.Item.{Item}
use Rattle.replay_log.specs.declared.items.Item.TheVariants as item
use Rattle.replay_log.specs.declared.judging.Before.{Before}
use Rattle.replay_log.specs.declared.keywords.Keyword.TheVariants as keyword
use Rattle.replay_log.specs.declared.lines.Line.{Line}
use Rattle.replay_log.specs.declared.lines.Line.TheVariants as line
use Rattle.replay_log.specs.declared.records.Answer.{Answer}
use Rattle.replay_log.specs.declared.records.Answer.TheVariants as answer
use Rattle.replay_log.specs.declared.records.Mark.{Mark}
use Rattle.replay_log.specs.declared.records.Mark.TheVariants.{Captured, Committed, Acknowledged}
use Rattle.replay_log.specs.declared.records.Record.{Record}
use Rattle.replay_log.specs.declared.turns.Turn.{Turn}
use Rattle.replay_log.specs.declared.turns.TurnFrame.{TurnFrame}
use Rattle.replay_log.specs.declared.turns.TurnFrame.TheVariants as frame
use Rattle.replay_log.proofs.GatheringLemmas.{log_cons}
use Rattle.splice_run.specs.declared.seen.ClientFrame.{ClientFrame}
use Rattle.splice_run.specs.Frames.{answer_frame, event_frame, client_frame, seen_first, seen_before, seen_in, frame_with, taken_frame, turn_with}
use Rattle.splice_run.specs.Single.{turns_by_primary, before_capture, spliced_turns, turns_by_marks, single_run}
use Rattle.splice_run.specs.Log.{has_primary_stop}
use Rattle.splice_run.specs.Tokens.{Taken, Token, by_primary, by_secondary, captures, commits, made_frame, turn_tokens, mark_tokens, record_tokens, tokens}

-- ---- what is in range

abbrev is_event_in_range : Record → Bool
is_event_in_range r = is_item_in_range (item.Event r.line r.answer)

abbrev is_turn_in_range : Turn → Bool
is_turn_in_range t = is_item_in_range (item.Turn t)

-- the index of a frame that was taken
abbrev is_index_in_range : Option ℕ → Bool
is_index_in_range None = true
is_index_in_range (Some index) = nat_le 0 index && nat_le index most64

abbrev is_taken_in_range : Taken → Bool
is_taken_in_range t =
    (nat_le 0 t.clock && nat_le t.clock most32) && (is_index_in_range t.index && ((nat_le 0 t.blocks
    && nat_le t.blocks 256) && (nat_le 0 t.steps && nat_le t.steps 100000)))

abbrev is_token_in_range : Token → Bool
is_token_in_range (by_primary t) = is_taken_in_range t
is_token_in_range (by_secondary t) = is_taken_in_range t
is_token_in_range (captures e) = true
is_token_in_range (commits e) = true

abbrev is_seen_in_range : Option (Option Opening) → Bool
is_seen_in_range None = true
is_seen_in_range (Some None) = true
is_seen_in_range (Some (Some o)) = nat_le o.client most32 && nat_le o.own most32

abbrev is_frame_in_range : Option ClientFrame → Bool
is_frame_in_range None = true
is_frame_in_range (Some f) = is_seen_in_range (Some f.seen)

abbrev is_made_in_range : Option (Option ℕ) → Bool
is_made_in_range None = true
is_made_in_range (Some index) = is_index_in_range index

-- ---- the events of a log

part_right : {X : Type 0} (P : X → Type 0) (xs ys : List X) → All P (xs ++ ys) → All P ys
part_right P [] ys all = all
part_right P (x ∷ xs) ys all = part_right P xs ys (All-tail P x (xs ++ ys) all)

events_in_range : (log : List Record) → All (HasSpelling log_forms) (log_items log) →
    list_all is_event_in_range log ≡ true
events_in_range [] all = refl
events_in_range (r ∷ log) all =
    let whole : All (HasSpelling log_forms) (record_items r ++ log_items log) =
    subst (λ (xs : List Item). All (HasSpelling log_forms) xs) (log_cons r log) all in
    let first = All-head (HasSpelling log_forms) (item.Event r.line r.answer) (map item.Mark r.marks
    ++ log_items log) whole in
    and_from (is_event_in_range r) (list_all is_event_in_range log) first.numbers
    (events_in_range log (part_right (HasSpelling log_forms) (record_items r) (log_items log) whole))

-- ---- the openings that client events tell

answer_in_range : (a : Answer) → is_item_in_range (item.Event line.Client a) ≡ true →
    is_frame_in_range (answer_frame a) ≡ true
answer_in_range answer.Nothing h = refl
answer_in_range (answer.Made taken released) h = refl
answer_in_range (answer.Accepted index None trim released) h = refl
answer_in_range (answer.Accepted index (Some o) trim released) h =
    (and_parts (nat_le o.client most32 && nat_le o.own most32) _ (and_parts (nat_le 0 index
    && nat_le index most64) _ h).1).0
answer_in_range (answer.Arp index) h = refl
answer_in_range (answer.Dropped index why) h = refl
answer_in_range (answer.Full index) h = refl
answer_in_range (answer.Lost index) h = refl
answer_in_range (answer.Heard kind full) h = refl
answer_in_range (answer.HeardBack kind sent released) h = refl
answer_in_range answer.Zero h = refl
answer_in_range (answer.Reported released) h = refl

frame_in_range : (l : Line) (a : Answer) → is_item_in_range (item.Event l a) ≡ true →
    is_frame_in_range (event_frame l (answer_frame a)) ≡ true
frame_in_range (line.Primary d i b n) a h = refl
frame_in_range (line.Secondary d i b n) a h = refl
frame_in_range line.Client a h = answer_in_range a h
frame_in_range line.ToSecondary a h = refl
frame_in_range line.ToPrimary a h = refl
frame_in_range line.StopPrimary a h = refl
frame_in_range line.StopSecondary a h = refl
frame_in_range line.Report a h = refl
frame_in_range line.Ask a h = refl

chosen : (b : Bool) (x y : Option (Option Opening)) → is_seen_in_range x ≡ true → is_seen_in_range y ≡ true →
    is_seen_in_range (if b then x else y) ≡ true
chosen true x y p q = p
chosen false x y p q = q

first_in_range : (f : Option ClientFrame) (index : ℕ) (later : Option (Option Opening)) → is_frame_in_range f ≡ true →
    is_seen_in_range later ≡ true →
    is_seen_in_range (seen_first f index later) ≡ true
first_in_range None index later p q = q
first_in_range (Some f) index later p q = chosen (f.index == index) (Some f.seen) later p q

before_in_range : (log : List Record) (index : ℕ) → list_all is_event_in_range log ≡ true →
    is_seen_in_range (seen_before log index None) ≡ true
before_in_range [] index h = refl
before_in_range (r ∷ log) index h =
    let both = and_parts (is_event_in_range r) (list_all is_event_in_range log) h in
    first_in_range (client_frame r) index (seen_before log index None) (frame_in_range r.line r.answer both.0)
    (before_in_range log index both.1)

seen_in_range : (log : List Record) → list_all is_event_in_range log ≡ true → (index : ℕ) →
    is_seen_in_range (seen_in log index) ≡ true
unfolding seen_in
seen_in_range log h index = before_in_range log index h

-- ---- turns

made_in_range : (l : Line) (a : Answer) → is_item_in_range (item.Event l a) ≡ true →
    is_made_in_range (made_frame a) ≡ true
made_in_range l answer.Nothing h = refl
made_in_range l (answer.Made None released) h = refl
made_in_range l (answer.Made (Some index) released) h = (and_parts (nat_le 0 index
    && nat_le index most64) _ (and_parts _ _ h).1).0
made_in_range l (answer.Accepted index seen trim released) h = refl
made_in_range l (answer.Arp index) h = refl
made_in_range l (answer.Dropped index why) h = refl
made_in_range l (answer.Full index) h = refl
made_in_range l (answer.Lost index) h = refl
made_in_range l (answer.Heard kind full) h = refl
made_in_range l (answer.HeardBack kind sent released) h = refl
made_in_range l answer.Zero h = refl
made_in_range l (answer.Reported released) h = refl

-- the numbers of a turn's line
pub record IsInRange (d b n : ℕ) : Type 0 where
  clock : (nat_le 0 d && nat_le d most32) ≡ true
  requests : (nat_le 0 b && nat_le b 256) ≡ true
  steps : (nat_le 0 n && nat_le n 100000) ≡ true

all_three : (x y z : Bool) → x ≡ true → y ≡ true → z ≡ true → (x && (y && (z && true))) ≡ true
all_three true true true p q r = refl
all_three true true false p q r = r
all_three true false z p q r = q
all_three false y z p q r = p

all_four : (w x y z : Bool) → w ≡ true → x ≡ true → y ≡ true → z ≡ true → (w && (x && (y && (z && true)))) ≡ true
all_four true x y z o p q r = all_three x y z p q r
all_four false x y z o p q r = o

framed_turn : (d b n index : ℕ) (seen : Option (Option Opening)) → IsInRange d b n →
    (nat_le 0 index && nat_le index most64) ≡ true → is_seen_in_range seen ≡ true →
    is_turn_in_range (record { d = d; frame = frame_with index seen; b = b; n = n }) ≡ true
framed_turn d b n index None r i s = all_four _ _ _ _ r.clock i r.requests r.steps
framed_turn d b n index (Some None) r i s = all_four _ _ _ _ r.clock i r.requests r.steps
framed_turn d b n index (Some (Some o)) r i s =
    let both = and_parts (nat_le o.client most32) (nat_le o.own most32) s in
    let small = and_parts (nat_le 0 index) (nat_le index most64) i in
    all_four _ _ _ _ r.clock (and_from (nat_le index most64) (nat_le o.client most32
    && nat_le o.own most32) small.1 s) r.requests r.steps

framed_in_range : (seen : ℕ → Option (Option Opening)) (d b n : ℕ) (index : Option ℕ) → ((i : ℕ) →
    is_seen_in_range (seen i) ≡ true) → IsInRange d b n → is_index_in_range index ≡ true →
    is_turn_in_range (record { d = d; frame = taken_frame seen index; b = b; n = n }) ≡ true
framed_in_range seen d b n None s r t = all_three _ _ _ r.clock r.requests r.steps
framed_in_range seen d b n (Some index) s r t = framed_turn d b n index (seen index) r t (s index)

turn_in_range : (seen : ℕ → Option (Option Opening)) (t : Taken) → ((i : ℕ) → is_seen_in_range (seen i) ≡ true) →
    is_taken_in_range t ≡ true → is_turn_in_range (turn_with seen t) ≡ true
turn_in_range seen t s h =
    let first = and_parts (nat_le 0 t.clock && nat_le t.clock most32) _ h in
    let second = and_parts (is_index_in_range t.index) _ first.1 in
    let third = and_parts (nat_le 0 t.blocks && nat_le t.blocks 256) _ second.1 in
    framed_in_range seen t.clock t.blocks t.steps t.index s
    (record { clock = first.0; requests = third.0; steps = third.1 }) second.0

turns_in_range : (seen : ℕ → Option (Option Opening)) (turns : List Taken) → ((i : ℕ) →
    is_seen_in_range (seen i) ≡ true) → list_all is_taken_in_range turns ≡ true →
    list_all is_turn_in_range (map (turn_with seen) turns) ≡ true
turns_in_range seen [] s h = refl
turns_in_range seen (t ∷ turns) s h =
    let both = and_parts (is_taken_in_range t) (list_all is_taken_in_range turns) h in
    and_from (is_turn_in_range (turn_with seen t)) _ (turn_in_range seen t s both.0)
    (turns_in_range seen turns s both.1)

-- the numbers of a line of a turn
line_numbers_in_range : (d b n : ℕ) (flag : Bool) → ((nat_le 0 d && nat_le d most32) && (flag && ((nat_le 0 b
    && nat_le b 256) && ((nat_le 0 n && nat_le n 100000) && true)))) ≡ true →
    IsInRange d b n
line_numbers_in_range d b n flag h =
    let first = and_parts (nat_le 0 d && nat_le d most32) _ h in
    let second = and_parts flag _ first.1 in
    let third = and_parts (nat_le 0 b && nat_le b 256) _ second.1 in
    let fourth = and_parts (nat_le 0 n && nat_le n 100000) true third.1 in
    record { clock = first.0; requests = third.0; steps = fourth.0 }

taken_is_in_range : (d b n : ℕ) (index : Option ℕ) → IsInRange d b n → is_index_in_range index ≡ true →
    (is_taken_in_range (record { clock = d; index = index; blocks = b; steps = n }) && true) ≡ true
taken_is_in_range d b n index r i =
    and_from _ true (and_from _ _ r.clock (and_from _ _ i (and_from _ _ r.requests r.steps))) refl

tokens_of_turn : (l : Line) (a : Answer) (made : Option (Option ℕ)) →
    is_item_in_range (item.Event l a) ≡ true → is_made_in_range made ≡ true →
    list_all is_token_in_range (turn_tokens l made) ≡ true
tokens_of_turn (line.Primary d i b n) a None h t = refl
tokens_of_turn (line.Primary d i b n) a (Some index) h t =
    taken_is_in_range d b n index (line_numbers_in_range d b n _ (and_parts _ _ h).0) t
tokens_of_turn (line.Secondary d i b n) a None h t = refl
tokens_of_turn (line.Secondary d i b n) a (Some index) h t =
    taken_is_in_range d b n index (line_numbers_in_range d b n _ (and_parts _ _ h).0) t
tokens_of_turn line.Client a made h t = refl
tokens_of_turn line.ToSecondary a made h t = refl
tokens_of_turn line.ToPrimary a made h t = refl
tokens_of_turn line.StopPrimary a made h t = refl
tokens_of_turn line.StopSecondary a made h t = refl
tokens_of_turn line.Report a made h t = refl
tokens_of_turn line.Ask a made h t = refl

marks_in_range : (marks : List Mark) → list_all is_token_in_range (mark_tokens marks) ≡ true
marks_in_range [] = refl
marks_in_range (Captured e why ∷ marks) = marks_in_range marks
marks_in_range (Committed e ∷ marks) = marks_in_range marks
marks_in_range (Acknowledged e ∷ marks) = marks_in_range marks

joined : {X : Type 0} (p : X → Bool) (xs ys : List X) → list_all p xs ≡ true → list_all p ys ≡ true →
    list_all p (xs ++ ys) ≡ true
joined p xs ys h g = list_all-append p xs ys ∙ and_from (list_all p xs) (list_all p ys) h g

tokens_in_range : (log : List Record) → list_all is_event_in_range log ≡ true →
    list_all is_token_in_range (tokens log) ≡ true
tokens_in_range [] h = refl
tokens_in_range (r ∷ log) h =
    let both = and_parts (is_event_in_range r) (list_all is_event_in_range log) h in
    joined is_token_in_range (record_tokens r) (tokens log)
    (joined is_token_in_range (turn_tokens r.line (made_frame r.answer)) (mark_tokens r.marks)
    (tokens_of_turn r.line r.answer (made_frame r.answer) both.0 (made_in_range r.line r.answer both.0))
    (marks_in_range r.marks))
    (tokens_in_range log both.1)

-- ---- the run

reversed : (ts : List Token) → list_all is_token_in_range ts ≡ true →
    list_all is_token_in_range (reverse ts) ≡ true
reversed [] h = refl
reversed (t ∷ ts) h =
    let both = and_parts (is_token_in_range t) (list_all is_token_in_range ts) h in
    ap (λ (xs : List Token). list_all is_token_in_range xs) (reverse-append (t ∷ []) ts)
    ∙ joined is_token_in_range (reverse ts) (t ∷ []) (reversed ts both.1) (and_from
    (is_token_in_range t) true both.0 refl)

primary_in_range : (ts : List Token) → list_all is_token_in_range ts ≡ true →
    list_all is_taken_in_range (turns_by_primary ts) ≡ true
primary_in_range [] h = refl
primary_in_range (by_primary t ∷ ts) h =
    let both = and_parts (is_taken_in_range t) (list_all is_token_in_range ts) h in
    and_from (is_taken_in_range t) (list_all is_taken_in_range (turns_by_primary ts)) both.0
    (primary_in_range ts both.1)
primary_in_range (by_secondary t ∷ ts) h = primary_in_range ts (and_parts (is_taken_in_range t)
    (list_all is_token_in_range ts) h).1
primary_in_range (captures e ∷ ts) h = primary_in_range ts h
primary_in_range (commits e ∷ ts) h = primary_in_range ts h

at_capture : (b : Bool) (back before : List Token) → list_all is_token_in_range back ≡ true →
    list_all is_token_in_range before ≡ true →
    list_all is_token_in_range (if b then back else before) ≡ true
at_capture true back before p q = p
at_capture false back before p q = q

capture_in_range : (e : ℕ) (back : List Token) → list_all is_token_in_range back ≡ true →
    list_all is_token_in_range (before_capture e back) ≡ true
capture_in_range e [] h = refl
capture_in_range e (by_primary t ∷ back) h = capture_in_range e back (and_parts (is_taken_in_range t)
    (list_all is_token_in_range back) h).1
capture_in_range e (by_secondary t ∷ back) h = capture_in_range e back (and_parts (is_taken_in_range t)
    (list_all is_token_in_range back) h).1
capture_in_range e (captures n ∷ back) h = at_capture (n == e) back (before_capture e back) h
    (capture_in_range e back h)
capture_in_range e (commits n ∷ back) h = capture_in_range e back h

spliced_in_range : (back : List Token) → list_all is_token_in_range back ≡ true →
    list_all is_taken_in_range (spliced_turns back) ≡ true
spliced_in_range [] h = refl
spliced_in_range (by_primary t ∷ back) h = spliced_in_range back (and_parts (is_taken_in_range t)
    (list_all is_token_in_range back) h).1
spliced_in_range (by_secondary t ∷ back) h =
    let both = and_parts (is_taken_in_range t) (list_all is_token_in_range back) h in
    joined is_taken_in_range (spliced_turns back) (t ∷ []) (spliced_in_range back both.1) (and_from
    (is_taken_in_range t) true both.0 refl)
spliced_in_range (captures e ∷ back) h = spliced_in_range back h
spliced_in_range (commits e ∷ back) h = primary_in_range (reverse (before_capture e back)) (reversed
    (before_capture e back) (capture_in_range e back h))

by_stop : (stops : Bool) (ts : List Token) → list_all is_token_in_range ts ≡ true →
    list_all is_taken_in_range (if stops then spliced_turns (reverse ts) else turns_by_primary ts) ≡ true
by_stop true ts h = spliced_in_range (reverse ts) (reversed ts h)
by_stop false ts h = primary_in_range ts h

taken_are_in_range : (log : List Record) → list_all is_event_in_range log ≡ true →
    list_all is_taken_in_range (turns_by_marks log) ≡ true
unfolding turns_by_marks
taken_are_in_range log h = by_stop (has_primary_stop log) (tokens log) (tokens_in_range log h)

run_in_range : (log : List Record) → list_all is_event_in_range log ≡ true →
    list_all is_turn_in_range (single_run log) ≡ true
unfolding single_run
run_in_range log h =
    turns_in_range (seen_in log) (turns_by_marks log) (seen_in_range log h) (taken_are_in_range log h)

-- ---- its text

has_form : (f : TurnFrame) → Contains single_forms (form.Turn (frame_form f))
has_form frame.Absent = (0, omega arith, refl)
has_form (frame.Plain index) = (1, omega arith, refl)
has_form (frame.Seen index opening) = (2, omega arith, refl)

turns_good : (turns : List Turn) → list_all is_turn_in_range turns ≡ true →
    All (HasSpelling single_forms) (map item.Turn turns)
turns_good [] h = All-nil (HasSpelling single_forms)
turns_good (t ∷ turns) h =
    let both = and_parts (is_turn_in_range t) (list_all is_turn_in_range turns) h in
    All-cons (HasSpelling single_forms) (item.Turn t) (map item.Turn turns)
    (record { form = has_form t.frame; numbers = both.0 }) (turns_good turns both.1)

in_order : (before : Before) (ws : List (List ℕ)) → begins_with keyword.Mark ws ≡ false →
    begins_with keyword.Stop ws ≡ false → begins_with keyword.Report ws ≡ false →
    stands_after before ws ≡ true
in_order before ws m s r =
    and_from (not (is_early_mark before ws)) _ (not_from_false _ (and_right (not before.any)
    (begins_with keyword.Mark ws) m))
    (and_from (not (is_second_stop before ws)) (not (is_false_report before ws)) (not_from_false _
    (and_right before.stopped (begins_with keyword.Stop ws) s))
    (not_from_false _ (and_right _ (begins_with keyword.Report ws) r)))

turn_stands : (before : Before) (d : ℕ) (f : TurnFrame) (b n : ℕ) →
    stands_after before (item_words (item.Turn (record { d = d; frame = f; b = b; n = n }))) ≡ true
turn_stands before d frame.Absent b n =
    in_order before (item_words (item.Turn (record { d = d; frame = frame.Absent; b = b; n = n }))) refl refl refl
turn_stands before d (frame.Plain index) b n =
    in_order before (item_words (item.Turn
    (record { d = d; frame = frame.Plain index; b = b; n = n }))) refl refl refl
turn_stands before d (frame.Seen index opening) b n =
    in_order before (item_words (item.Turn (record {
      d = d;
      frame = frame.Seen index opening;
      b = b;
      n = n;
    }))) refl refl refl

turns_in_order : (earlier : List (List (List ℕ))) (turns : List Turn) →
    are_in_order earlier (map item_words (map item.Turn turns)) ≡ true
turns_in_order earlier [] = refl
turns_in_order earlier (t ∷ turns) =
    and_from (stands_after (before_of earlier) (item_words (item.Turn t))) _ (turn_stands
    (before_of earlier) t.d t.frame t.b t.n)
    (turns_in_order (earlier ++ item_words (item.Turn t) ∷ []) turns)

text_of_turns : (turns : List Turn) → flat_map turn_text turns ≡ flat_map item_text (map item.Turn turns)
text_of_turns [] = refl
text_of_turns (t ∷ turns) = ap (λ (rest : List ℕ). turn_text t ++ rest) (text_of_turns turns)

pub run_is_spelled : (log : List Record) (text : List ℕ) → IsLog log text →
    IsSingle (single_run log) (flat_map turn_text (single_run log))
run_is_spelled log text t = record {
  spelled = text_of_turns (single_run log);
  good = turns_good (single_run log) (run_in_range log (events_in_range log t.good));
  order = turns_in_order [] (single_run log);
}
