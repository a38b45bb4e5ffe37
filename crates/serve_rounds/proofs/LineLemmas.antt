-- Lines in a row: their events, what these leave, and what they are counted by.
use Rattle.std.proofs.Common.{◌≡◌, ℕ, ◌+◌, ◌-◌, ◌<◌, ◌==◌, true, false, zero, suc, List, [], ◌∷◌, ◌++◌, length, take, refl, sym, ap, ◌∙◌, subst, append_assoc, length-append, flat_map, None, arith}
use Rattle.std.specs.Prelude.{replicate}
use Rattle.std.proofs.Math.Seq.{get_or-append_seam, take-append_seam}
use Rattle.std.proofs.lemmas.List.{append-nil, take_all}
use Rattle.std.proofs.lemmas.List.Concat.{flat_map-append}
use Rattle.colo_base.specs.Clock.{ClockState}
use Rattle.colo_base.specs.Link.{LinkState}
use Rattle.colo_base.specs.Shelf.{ShelfState}
use Rattle.replay_log.specs.declared.lines.Line.{Line}
use Rattle.state_wire.specs.Guest.{Meaning}
use Rattle.file_steps.specs.Steps.{Done, Fails, Step, nothing, outside, send}
use Rattle.file_steps.specs.declared.fault.Fault.{Fault}
use Rattle.file_steps.proofs.PartLemmas.{done_none, done_then, fails_front, fails_then}
use Rattle.pair_core.specs.Events.{event_of}
use Rattle.pair_core.specs.Pair.{Held, Pair, pair_of}
use Rattle.pair_core.specs.Steps.{refusal}
use Rattle.command_plans.specs.Replay.{AreEvents, Event, after_lines, count, event_at, events, released_by}
use Rattle.command_plans.specs.Steps.{IsCounted}
use Rattle.command_plans.specs.declared.replay.Counts.{Counts}
use Rattle.command_plans.proofs.ReplayLemmas.{counts_more, marks_counted}
use Rattle.serve_rounds.specs.Rounds.{send_step, serves, serves_of}
use Rattle.serve_rounds.specs.Serving.{CannotServe, Ends, IsServed, before, behind, ends}

-- ---- lines after lines

pub after-append : (w : Pair) (xs ys : List Line) → after_lines w (xs ++ ys) ≡ after_lines (after_lines w xs) ys
after-append w [] ys = refl
after-append w (x ∷ xs) ys = after-append (event_of w x).after xs ys

pub events-append : (w : Pair) (xs ys : List Line) → events w (xs ++ ys) ≡ events w xs ++ events (after_lines w xs) ys
events-append w [] ys = refl
events-append w (x ∷ xs) ys = ap (λ es. event_at w x ∷ es) (events-append (event_of w x).after xs ys)

pub serves-append : (w : Pair) (xs ys : List Line) → serves w (xs ++ ys) ≡ serves w xs ++ serves (after_lines w xs) ys
serves-append w xs ys =
    ap (λ es. flat_map serves_of es) (events-append w xs ys)
    ∙ flat_map-append serves_of (events w xs) (events (after_lines w xs) ys)

pub serves-one : (w : Pair) (x : Line) → serves w (x ∷ []) ≡ serves_of (event_at w x)
serves-one w x = append-nil (serves_of (event_at w x))

-- ---- lines that are served

module _ {G : Type 0} (meaning : G → Meaning) (out : List ℕ) where
  pub served_none : (held : Held G) (counts : Counts) (e : Ends) → e.shelf_new ≡ e.shelf_old → e.link_new ≡ e.link_old
      → IsServed meaning out [] held held counts counts e
  served_none held counts e same_shelf same_link = record {
    after = refl;
    steps = omega arith;
    counted = λ made c. subst (λ (es : List Event). IsCounted es counts) (sym (append-nil made)) c;
    done = λ k. rw (same_shelf, same_link) (done_none out (before e k));
  }

  pub served_then : (xs ys : List Line) (h i j : Held G) (c d f : Counts) (a b z : ShelfState) (l m n : LinkState)
      → IsServed meaning out xs h i c d (ends a b l m) → IsServed meaning out ys i j d f (ends b z m n)
      → IsServed meaning out (xs ++ ys) h j c f (ends a z l n)
  served_then xs ys h i j c d f a b z l m n first second =
      let w = pair_of meaning h in
      let v = after_lines w xs in
      record {
        after = second.after ∙ (ap (λ u. after_lines u ys) first.after ∙ sym (after-append w xs ys));
        steps = omega (arith, first.steps, second.steps, length-append xs ys);
        counted = λ made counts. subst (λ (es : List Event). IsCounted es f)
            (append_assoc made (events w xs) (events (pair_of meaning i) ys)
            ∙ (ap (λ u. made ++ (events w xs ++ events u ys)) first.after
            ∙ ap (λ es. made ++ es) (sym (events-append w xs ys))))
            (second.counted (made ++ events w xs) (first.counted made counts));
        done = λ k. subst (λ (steps : List Step). Done out steps nothing (outside a l k) (outside z n k))
            (ap (λ u. serves w xs ++ serves u ys) first.after ∙ sym (serves-append w xs ys))
            (done_then out (serves w xs) (serves (pair_of meaning i) ys) nothing nothing (outside a l k)
            (outside b m k) (outside z n k) (first.done k) (second.done k));
      }

  pub served_one : (x : Line) (h i : Held G) (c d : Counts) (a b : ShelfState) (l m : LinkState)
      → pair_of meaning i ≡ (event_of (pair_of meaning h) x).after → i.steps ≡ h.steps + 1
      → d.lines ≡ c.lines + 1
      → d.released ≡ count (c.released + released_by (event_at (pair_of meaning h) x))
      → d.captured ≡ marks_counted c.captured (event_of (pair_of meaning h) x).marks
      → ((k : ClockState) → Done out (serves_of (event_at (pair_of meaning h) x)) nothing (outside a l k)
      (outside b m k)) → IsServed meaning out (x ∷ []) h i c d (ends a b l m)
  served_one x h i c d a b l m after steps lines released captured done =
      let w = pair_of meaning h in
      let e = event_at w x in
      record {
        after = after;
        steps = steps;
        counted = λ made counts.
            let es = made ++ e ∷ [] in
            let front : take (length made) es ≡ made = take-append_seam made (e ∷ []) in
            let whole : take (length made + 1) es ≡ es = take_all (length made + 1) es (omega (
              arith,
              length-append made (e ∷ []),
            )) in
            subst (λ (l : List Event). IsCounted l d) whole
            (counts_more es (length made) e (sym (get_or-append_seam made e [] e))
            (omega (arith, length-append made (e ∷ []))) c d
            (subst (λ (l : List Event). IsCounted l c) (sym front) counts) lines released captured);
        done = λ k. subst (λ (steps : List Step). Done out steps nothing (outside a l k) (outside b m k))
            (sym (serves-one w x)) (done k);
      }

  -- ---- a failure

  pub cannot_then : (xs ys : List Line) (h i : Held G) (c d : Counts) (a b z : ShelfState) (l m n : LinkState)
      (fault : Fault) → IsServed meaning out xs h i c d (ends a b l m)
      → CannotServe meaning out ys i (ends b z m n) fault → CannotServe meaning out (xs ++ ys) h (ends a z l n) fault
  cannot_then xs ys h i c d a b z l m n fault first fails = λ k.
      let w = pair_of meaning h in
      subst (λ (steps : List Step). Fails out steps nothing (outside a l k) (outside z n k) fault)
      (ap (λ u. serves w xs ++ serves u ys) first.after ∙ sym (serves-append w xs ys))
      (fails_then out (serves w xs) (serves (pair_of meaning i) ys) nothing nothing (outside a l k) (outside b m k)
      (outside z n k) fault (first.done k) (fails k))

  pub cannot_front : (xs ys : List Line) (h : Held G) (e : Ends) (fault : Fault)
      → CannotServe meaning out xs h e fault → CannotServe meaning out (xs ++ ys) h e fault
  cannot_front xs ys h e fault fails = λ k.
      let w = pair_of meaning h in
      subst (λ (steps : List Step). Fails out steps nothing (before e k) (behind e k) fault)
      (sym (serves-append w xs ys))
      (fails_front out (serves w xs) (serves (after_lines w xs) ys) nothing (before e k) (behind e k) fault (fails k))

  pub cannot_one : (x : Line) (h : Held G) (a b : ShelfState) (l m : LinkState) (fault : Fault)
      → ((k : ClockState) → Fails out (serves_of (event_at (pair_of meaning h) x)) nothing (outside a l k)
      (outside b m k) fault) → CannotServe meaning out (x ∷ []) h (ends a b l m) fault
  cannot_one x h a b l m fault fails = λ k.
      subst (λ (steps : List Step). Fails out steps nothing (outside a l k) (outside b m k) fault)
      (sym (serves-one (pair_of meaning h) x)) (fails k)

-- ---- the same line again and again

pub replicate_parts : (n k : ℕ) (x : Line) → k < n → replicate n x ≡ replicate k x ++ (x ∷ replicate (n - k - 1) x)
replicate_parts zero k x less = absurd (omega arith)
replicate_parts (suc n) zero x less =
    let e : suc n - 0 - 1 ≡ n = omega arith in
    ap (λ m. x ∷ replicate m x) (sym e)
replicate_parts (suc n) (suc k) x less =
    let e : suc n - suc k - 1 ≡ n - k - 1 = omega arith in
    ap (λ l. x ∷ l) (replicate_parts n k x (omega arith) ∙ ap (λ m. replicate k x ++ (x ∷ replicate m x)) (sym e))

-- none of them is refused, at each place
pub good_here : (w : Pair) (xs : List Line) (y : Line) (ys : List Line) → AreEvents w (xs ++ (y ∷ ys))
    → refusal (after_lines w xs) y ≡ None
good_here w [] y ys good = good.0
good_here w (x ∷ xs) y ys good = good_here (event_of w x).after xs y ys good.1

-- a send of nothing is no step
pub send_more : (bytes : List ℕ) → (length bytes == 0) ≡ false → send bytes ∷ [] ≡ send_step bytes
send_more [] e = let p : true ≡ false = e in cc
send_more (byte ∷ bytes) e = refl
