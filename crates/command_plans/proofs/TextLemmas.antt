-- From the texts that were read to how a task ends.
use Rattle.std.proofs.Common.{◌≡◌, ℕ, List, [], ◌∷◌, ◌++◌, inl, sym, ap, subst}
use Rattle.colo_base.specs.Clock.{ClockState}
use Rattle.colo_base.specs.Link.{LinkState}
use Rattle.colo_base.specs.Shelf.{ShelfState}
use Rattle.colo_base.proofs.StateLemmas.{changes_wider}
use Rattle.file_steps.specs.declared.fault.Fault.{Fault}
use Rattle.file_steps.specs.declared.fault.Fault.TheVariants.{Usage, Refused, Read, Write, NoMemory}
use Rattle.file_steps.specs.Ending.{Completes, TaskFails}
use Rattle.file_steps.specs.Plans.{Plan, Task, done, offline}
use Rattle.file_steps.specs.Reading.{AreRead, IsUntouched, ReadFails}
use Rattle.file_steps.specs.Steps.{Done, FailsToWrite, IsNamed, Step, Writes, nothing, outside}
use Rattle.file_steps.proofs.PartLemmas.{done_none}
use Rattle.file_steps.proofs.WriteLemmas.{write_fails_then, writes_then}
use Rattle.command_plans.specs.Planning.{IsRefusal}
use Rattle.command_plans.proofs.PlanLemmas.{task_done, task_fails}

-- reading files is no step
pub untouched_done : (out : List ℕ) (a b : ShelfState) (l : LinkState) (k : ClockState) → IsUntouched a b
    → Done out [] nothing (outside a l k) (outside b l k)
untouched_done out a b l k u =
    let same = done_none out (outside a l k) in
    record {
      carried = record {
        change = changes_wider (λ name. ⊥) (IsNamed out) a b (λ name none. absurd none) u.files;
        fetches = u.fetches;
        files = λ seen end. u.files.others seen (out ++ end) (λ none. none);
        link = same.carried.link;
        opened = same.carried.opened;
        sent = same.carried.sent;
        heard = same.carried.heard;
        asked = same.carried.asked;
        given = same.carried.given;
        readings = same.carried.readings;
      };
      none = record {
        writes = u.writes;
        opens = same.none.opens;
        receives = same.none.receives;
        sends = same.none.sends;
      };
    }

module _ (reads : List (List ℕ)) (out : List ℕ) (plan : List (List ℕ) → Plan) (old new : ShelfState) where
  abbrev the_task : Task
  the_task = record { reads = reads; out = out; making = offline plan }

  -- a fetch failed, or memory was refused
  pub read_fails : (fault : Fault) → ReadFails reads old new fault → TaskFails the_task old new fault
  read_fails Usage none = λ l k. none
  read_fails (Refused refusal) none = absurd none
  read_fails Read fails = λ l k. inl fails
  read_fails Write none = absurd none
  read_fails NoMemory files = λ l k. inl files

  -- the plan is that of a refusal
  pub refusal_fails : (texts : List (List ℕ)) → AreRead old reads texts → IsUntouched old new → (fault : Fault)
      → IsRefusal (plan texts) fault → TaskFails the_task old new fault
  refusal_fails texts are u Usage none = λ l k. none
  refusal_fails texts are u (Refused held) (is, own) = λ l k. (
    own,
    record {
      texts = texts;
      are = are;
      said = nothing;
      holds = (
        ap (λ (p : Plan). p.end) is,
        subst (λ (steps : List Step). Done out steps nothing (outside old l k) (outside new l k))
            (sym (ap (λ (p : Plan). p.steps) is)) (untouched_done out old new l k u),
      );
    },
  )
  refusal_fails texts are u Read none = absurd none
  refusal_fails texts are u Write none = absurd none
  refusal_fails texts are u NoMemory none = λ l k. inl u.files

-- the plan of what was read was carried out, or failed
module _ (reads : List (List ℕ)) (out : List ℕ) (plan : List (List ℕ) → Plan) (texts : List (List ℕ))
    (old mid new : ShelfState) (are : AreRead old reads texts) (u : IsUntouched old mid) (steps : List Step)
    (line : List ℕ) (is : (let p : Plan = record { steps = steps; end = done line } in plan texts ≡ p)) where
  pub then_done : Writes out steps mid new
      → Completes (record { reads = reads; out = out; making = offline plan }) old new line
  then_done writes =
      task_done reads out plan texts old new are line (ap (λ (p : Plan). p.end) is)
      (subst (λ (s : List Step). Writes out s old new) (sym (ap (λ (p : Plan). p.steps) is))
      (writes_then out [] steps old mid new (λ l k. untouched_done out old mid l k u) writes))

  pub then_fails : (fault : Fault) → FailsToWrite out steps mid new fault
      → TaskFails (record { reads = reads; out = out; making = offline plan }) old new fault
  then_fails fault fails =
      task_fails reads out plan texts old new are fault
      (subst (λ (s : List Step). FailsToWrite out s old new fault) (sym (ap (λ (p : Plan). p.steps) is))
      (write_fails_then out [] steps old mid new fault (λ l k. untouched_done out old mid l k u) fails))

-- one text was read
pub one_text : (s : ShelfState) (name text : List ℕ) (front texts : List (List ℕ)) → AreRead s (name ∷ []) texts
    → texts ≡ front ++ text ∷ [] → AreRead s (name ∷ []) (text ∷ [])
one_text s name text [] texts are is = subst (λ (ts : List (List ℕ)). AreRead s (name ∷ []) ts) is are
one_text s name text (t ∷ []) texts are is =
    absurd (subst (λ (ts : List (List ℕ)). AreRead s (name ∷ []) ts) is are).1
one_text s name text (t ∷ (u ∷ front)) texts are is =
    absurd (subst (λ (ts : List (List ℕ)). AreRead s (name ∷ []) ts) is are).1
