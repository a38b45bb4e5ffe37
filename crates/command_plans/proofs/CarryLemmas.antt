-- From how a plan was carried out to how its task ends.
use Rattle.std.proofs.Common.{◌≡◌, ℕ, List, [], ◌∷◌, Result, Ok, Err, IfOk, IfErr, String, Vec, ap, arith, get_or, length, refl, string_bytes}
use Rattle.std.specs.declared.alloc.Global.{Global}
use Rattle.colo_base.specs.Shelf.{ShelfState}
use Rattle.file_steps.specs.declared.fault.Fault.{Fault}
use Rattle.file_steps.specs.declared.fault.Fault.TheVariants.{Usage, Refused, Read, Write, NoMemory}
use Rattle.file_steps.specs.Ending.{Completes, TaskFails}
use Rattle.file_steps.specs.Plans.{Plan, offline}
use Rattle.file_steps.specs.ReadBytes.{texts_of}
use Rattle.file_steps.specs.Reading.{AreRead, IsUntouched}
use Rattle.file_steps.specs.Steps.{FailsToWrite, nothing, outside}
use Rattle.file_steps.proofs.PartLemmas.{done_none, done_then}
use Rattle.file_steps.proofs.WriteLemmas.{write_fails_then, write_no_memory, writes_then}
use Rattle.command_plans.specs.Planning.{IsRefusal, PlanCompletes, PlanFails, of_four}
use Rattle.command_plans.proofs.PlanLemmas.{task_done, task_fails}
use Rattle.command_plans.proofs.TextLemmas.{untouched_done}

-- ---- a plan

-- its steps were cut off
pub steps_fail : (out : List ℕ) (plan : Plan) (old new : ShelfState) (fault : Fault)
    → FailsToWrite out plan.steps old new fault → PlanFails out plan old new fault
steps_fail out plan old new Usage fails = fails
steps_fail out plan old new (Refused refusal) fails = λ l k. absurd (fails l k)
steps_fail out plan old new Read fails = fails
steps_fail out plan old new Write fails = fails
steps_fail out plan old new NoMemory fails = fails

-- it is that of a refusal, or memory was refused
pub refusal_ends : (out : List ℕ) (plan : Plan) (s : ShelfState) (fault : Fault) → IsRefusal plan fault
    → PlanFails out plan s s fault
refusal_ends out plan s Usage none = λ l k. none
refusal_ends out plan s (Refused held) (is, own) = λ l k. (
  own,
  ap (λ (p : Plan). p.end) is,
  rw (ap (λ (p : Plan). p.steps) is) (done_none out (outside s l k)),
)
refusal_ends out plan s Read none = absurd none
refusal_ends out plan s Write none = absurd none
refusal_ends out plan s NoMemory none = write_no_memory out plan.steps s

-- how another plan ends, which is the same one
module _ (out : List ℕ) (plan other : Plan) (is : plan ≡ other) (a b : ShelfState)
    (r : Result (String Global) Fault) where
  pub same_done : IfOk r (λ line. PlanCompletes out other a b (string_bytes line))
      → IfOk r (λ line. PlanCompletes out plan a b (string_bytes line))
  same_done done = rw is done

  pub same_fails : IfErr r (PlanFails out other a b) → IfErr r (PlanFails out plan a b)
  same_fails fails = rw is fails

-- ---- the four files of a run

pub of_four_is : (plan : List ℕ → List ℕ → List ℕ → List ℕ → Plan) (files : List (Vec ℕ Global))
    (a b c d : Vec ℕ Global) → length files ≡ 4 → a ≡ get_or files 0 a → b ≡ get_or files 1 b → c ≡ get_or files 2 c
    → d ≡ get_or files 3 d → (image disk client lines : List ℕ) → image ≡ a.items → disk ≡ b.items → client ≡ c.items
    → lines ≡ d.items → of_four plan (texts_of files) ≡ plan image disk client lines
of_four_is plan (v ∷ (w ∷ (x ∷ (y ∷ [])))) a b c d all at0 at1 at2 at3 image disk client lines e0 e1 e2 e3 =
    rw (e0, e1, e2, e3, at0, at1, at2, at3) refl
of_four_is plan [] a b c d all at0 at1 at2 at3 image disk client lines e0 e1 e2 e3 = absurd (omega (arith, all))
of_four_is plan (v ∷ []) a b c d all at0 at1 at2 at3 image disk client lines e0 e1 e2 e3 = absurd (omega (arith, all))
of_four_is plan (v ∷ (w ∷ [])) a b c d all at0 at1 at2 at3 image disk client lines e0 e1 e2 e3 =
    absurd (omega (arith, all))
of_four_is plan (v ∷ (w ∷ (x ∷ []))) a b c d all at0 at1 at2 at3 image disk client lines e0 e1 e2 e3 =
    absurd (omega (arith, all))
of_four_is plan (v ∷ (w ∷ (x ∷ (y ∷ (z ∷ rest))))) a b c d all at0 at1 at2 at3 image disk client lines e0 e1 e2 e3 =
    absurd (omega (arith, all))

-- ---- a task

module _ (reads : List (List ℕ)) (out : List ℕ) (plan : List (List ℕ) → Plan) (texts : List (List ℕ))
    (old mid new : ShelfState) (are : AreRead old reads texts) (u : IsUntouched old mid) where
  plan_done : (line : List ℕ) → PlanCompletes out (plan texts) mid new line
      → Completes (record { reads = reads; out = out; making = offline plan }) old new line
  plan_done line c =
      task_done reads out plan texts old new are line c.end
      (writes_then out [] (plan texts).steps old mid new (λ l k. untouched_done out old mid l k u) c.steps)

  cut_off : (fault : Fault) → FailsToWrite out (plan texts).steps mid new fault
      → TaskFails (record { reads = reads; out = out; making = offline plan }) old new fault
  cut_off fault fails =
      task_fails reads out plan texts old new are fault
      (write_fails_then out [] (plan texts).steps old mid new fault (λ l k. untouched_done out old mid l k u) fails)

  plan_fails : (fault : Fault) → PlanFails out (plan texts) mid new fault
      → TaskFails (record { reads = reads; out = out; making = offline plan }) old new fault
  plan_fails Usage fails = cut_off Usage fails
  plan_fails (Refused held) fails = λ l k. let f = fails l k in (
    f.0,
    record {
      texts = texts;
      are = are;
      said = nothing;
      holds = (
        f.1,
        done_then out [] (plan texts).steps nothing nothing (outside old l k) (outside mid l k) (outside new l k)
            (untouched_done out old mid l k u) f.2,
      );
    },
  )
  plan_fails Read fails = cut_off Read fails
  plan_fails Write fails = cut_off Write fails
  plan_fails NoMemory fails = cut_off NoMemory fails

  -- the call that carried it out gives the task's own answer
  pub carried_done : (r : Result (String Global) Fault)
      → IfOk r (λ line. PlanCompletes out (plan texts) mid new (string_bytes line))
      → IfOk r (λ line. Completes (record { reads = reads; out = out; making = offline plan }) old new
      (string_bytes line))
  carried_done (Ok line) c = plan_done (string_bytes line) c
  carried_done (Err fault) c = tt

  pub carried_fails : (r : Result (String Global) Fault) → IfErr r (PlanFails out (plan texts) mid new)
      → IfErr r (TaskFails (record { reads = reads; out = out; making = offline plan }) old new)
  carried_fails (Ok line) fails = tt
  carried_fails (Err fault) fails = plan_fails fault fails
