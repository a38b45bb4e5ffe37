-- Steps one after the other.
use Rattle.std.proofs.Common.{◌≡◌, ℕ, ◌+◌, ◌-◌, ◌^◌, ◌≤◌, Bool, true, false, ◌||◌, List, [], ◌∷◌, ◌++◌, Some, unwrap_or, refl, sym, ap, ◌∙◌, length, length-append, append_assoc, flat_map, if◌then◌else◌, arith}
use Rattle.std.specs.List.{list_any, sum_by}
use Rattle.std.specs.Str.{bytes_eq}
use Rattle.std.proofs.lemmas.List.{append-nil}
use Rattle.std.proofs.lemmas.List.Concat.{flat_map-append}
use Rattle.std.proofs.lemmas.List.Sums.{sum_by-append}
use Rattle.std.proofs.lemmas.List.Folds.{list_any-append}
use Rattle.colo_base.specs.Clock.{ClockState}
use Rattle.colo_base.specs.Link.{Arrival, answer}
use Rattle.colo_base.proofs.StateLemmas.{changes_none, changes_then, link_none, link_then}
use Rattle.file_steps.specs.Steps.{Step, create, append, connect, hear, read_clock, send, Said, said_then, nothing, Outside, Files, files_of, after_step, after_steps, sent_by, room_of, readings_of, connects, answers_of, GivesAll, IsNamed, Carried}

same_step : (f g : Files) (s : Step) → ((e : List ℕ) → f e ≡ g e) → (e : List ℕ) → after_step f s e ≡ after_step g s e
same_step f g (create end) h e = ap (λ v. if bytes_eq e end then Some [] else v) (h e)
same_step f g (append end bytes) h e = ap (λ v. if bytes_eq e end then Some (unwrap_or v [] ++ bytes) else v) (h e)
same_step f g (connect address) h e = h e
same_step f g (hear room) h e = h e
same_step f g read_clock h e = h e
same_step f g (send bytes) h e = h e

same_steps : (f g : Files) (steps : List Step) → ((e : List ℕ) → f e ≡ g e) → (e : List ℕ)
    → after_steps f steps e ≡ after_steps g steps e
same_steps f g [] h = h
same_steps f g (s ∷ steps) h = same_steps (after_step f s) (after_step g s) steps (same_step f g s h)

steps_append : (f : Files) (xs ys : List Step) → after_steps f (xs ++ ys) ≡ after_steps (after_steps f xs) ys
steps_append f [] ys = refl
steps_append f (x ∷ xs) ys = steps_append (after_step f x) xs ys

answers_then : (rooms more : List ℕ) (xs ys : List Arrival) → length xs ≡ length rooms
    → answers_of (rooms ++ more) (xs ++ ys) ≡ answers_of rooms xs ++ answers_of more ys
answers_then [] more [] ys e = refl
answers_then [] more (x ∷ xs) ys e = absurd (omega arith)
answers_then (r ∷ rooms) more [] ys e = absurd (omega arith)
answers_then (r ∷ rooms) more (x ∷ xs) ys e = ap (λ l. answer r x ∷ l) (answers_then rooms more xs ys (omega arith))

gives_then : (a b c : ClockState) (xs ys : List ℕ) → GivesAll a b xs → GivesAll b c ys → GivesAll a c (xs ++ ys)
gives_then a b c xs ys first second = record {
  observable = second.observable ∙ first.observable;
  given = λ seen room.
      let some : length a.given + length xs ≤ 2 ^ 64 - 1 = omega (arith, length-append xs ys, room) in
      let mid = first.given seen some in
      let now : length b.given ≡ length a.given + length xs = ap length mid ∙ length-append a.given xs in
      let rest : length b.given + length ys ≤ 2 ^ 64 - 1 = omega (arith, length-append xs ys, room, now) in
      second.given (first.observable ∙ seen) rest ∙ (ap (λ l. l ++ ys) mid ∙ append_assoc a.given xs ys);
}

pub gives_none : (k : ClockState) → GivesAll k k []
gives_none k = record { observable = refl; given = λ seen room. sym (append-nil k.given) }

opened_then : (p q o : Bool) → (if q then true else (if p then true else o)) ≡ (if p || q then true else o)
opened_then true true o = refl
opened_then true false o = refl
opened_then false true o = refl
opened_then false false o = refl

pub carried_none : (out : List ℕ) (s : Outside) → Carried out [] nothing s s
carried_none out s = record {
  change = changes_none (IsNamed out) s.shelf;
  fetches = λ name. refl;
  files = λ seen end. refl;
  link = link_none s.link;
  opened = refl;
  sent = λ seen. sym (append-nil s.link.sent);
  heard = λ seen. sym (append-nil s.link.answers);
  asked = refl;
  given = gives_none s.clock;
  readings = refl;
}

pub carried_then : (out : List ℕ) (xs ys : List Step) (p q : Said) (a b c : Outside) → Carried out xs p a b
    → Carried out ys q b c → Carried out (xs ++ ys) (said_then p q) a c
carried_then out xs ys p q a b c first second = record {
  change = changes_then (IsNamed out) a.shelf b.shelf c.shelf first.change second.change;
  fetches = λ name. second.fetches name ∙ first.fetches name;
  files = λ seen end. second.files (first.change.observable ∙ seen) end
      ∙ (same_steps (files_of b.shelf out) (after_steps (files_of a.shelf out) xs) ys
      (first.files seen) end ∙ ap (λ f. f end) (sym (steps_append (files_of a.shelf out) xs ys)));
  link = link_then a.link b.link c.link first.link second.link;
  opened = second.opened ∙ (ap (λ o. if list_any connects ys then true else o) first.opened
      ∙ (opened_then (list_any connects xs) (list_any connects ys) a.link.opened
      ∙ ap (λ t. if t then true else a.link.opened) (sym (list_any-append connects xs ys))));
  sent = λ seen. second.sent (first.link.observable ∙ seen)
      ∙ (ap (λ l. l ++ flat_map sent_by ys) (first.sent seen)
      ∙ (append_assoc a.link.sent (flat_map sent_by xs) (flat_map sent_by ys)
      ∙ ap (λ l. a.link.sent ++ l) (sym (flat_map-append sent_by xs ys))));
  heard = λ seen. second.heard (first.link.observable ∙ seen)
      ∙ (ap (λ l. l ++ answers_of (flat_map room_of ys) q.arrivals) (first.heard seen)
      ∙ (append_assoc a.link.answers (answers_of (flat_map room_of xs) p.arrivals)
      (answers_of (flat_map room_of ys) q.arrivals)
      ∙ ap (λ l. a.link.answers ++ l)
      (sym (answers_then (flat_map room_of xs) (flat_map room_of ys) p.arrivals q.arrivals first.asked)
      ∙ ap (λ rooms. answers_of rooms (p.arrivals ++ q.arrivals)) (sym (flat_map-append room_of xs ys)))));
  asked = length-append p.arrivals q.arrivals
      ∙ (ap (λ n. n + length q.arrivals) first.asked
      ∙ (ap (λ n. length (flat_map room_of xs) + n) second.asked
      ∙ (sym (length-append (flat_map room_of xs) (flat_map room_of ys))
      ∙ ap length (sym (flat_map-append room_of xs ys)))));
  given = gives_then a.clock b.clock c.clock p.ticks q.ticks first.given second.given;
  readings = length-append p.ticks q.ticks
      ∙ (ap (λ n. n + length q.ticks) first.readings
      ∙ (ap (λ n. sum_by readings_of xs + n) second.readings ∙ sym (sum_by-append readings_of xs ys)));
}
