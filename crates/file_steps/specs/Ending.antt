-- What is promised of a call of the program, whatever the task that its words name.
use Rattle.std.specs.Prelude.{◌≡◌, ℕ, IsTrue, List, [], ◌∷◌, ◌++◌, Option, Some, None, MatchBool, ◌==◌, ◌⊎◌, Result, Ok, Err, String, string_bytes}
use Rattle.std.specs.declared.alloc.Global.{Global}
use Rattle.colo_base.specs.Count.{Increased}
use Rattle.colo_base.specs.Shelf.{ShelfState, ChangesOnly}
use Rattle.colo_base.specs.Sink.{SinkState, Puts, PutsPart, SinkGoesOn}
use Rattle.file_steps.specs.declared.fault.Fault.{Fault}
use Rattle.file_steps.specs.declared.fault.Fault.TheVariants.{Usage, Refused, Read, Write, NoMemory}
use Rattle.file_steps.specs.declared.fault.Refusal.{Refusal as HeldRefusal}
use Rattle.file_steps.specs.Plans.{End, done, refused, waits, Plan, Task, offline, plan_of, is_own}
use Rattle.file_steps.specs.Reading.{AreRead, FailsToRead, FetchFailed, IsMissing, IsUntouched, KeepsFiles}
use Rattle.file_steps.specs.Status.{fault_line, refusal_of}
use Rattle.file_steps.specs.Steps.{Step, create, append, Said, Outside, outside, Done, Fails, OfOne, WriteFailed, HearFailed}
use Rattle.colo_base.specs.Link.{LinkState}
use Rattle.colo_base.specs.Clock.{ClockState}

-- ---- how the work of a task ends, before a line is put

-- the files were read, the outside said something, and of the plan that they make P holds
pub record OfPlan (task : Task) (old : Outside) (P : Plan → Said → Type 0) : Type 0 where
  pub texts : List (List ℕ)
  pub are : AreRead old.shelf task.reads texts
  pub said : Said
  pub holds : P (plan_of task.making texts said) said

-- the plan ends so, its steps were carried out, and no call failed
abbrev pub IsCarriedOut : Task → End → Outside → Outside → Type 0
IsCarriedOut task end old new = OfPlan task old
    (λ plan said. (plan.end ≡ end) × Done task.out plan.steps said old new)

-- the steps of the plan were cut off by this fault
abbrev pub IsStopped : Task → Fault → Outside → Outside → Type 0
IsStopped task fault old new = OfPlan task old
    (λ plan said. Fails task.out plan.steps said old new fault)

-- what each fault means
abbrev pub FailsBy : Task → Outside → Outside → Fault → Type 0
FailsBy task old new Usage = ⊥
FailsBy task old new (Refused refusal) =
    IsTrue (is_own refusal.status) × IsCarriedOut task (refused (refusal_of refusal)) old new
FailsBy task old new Read =
    FailsToRead task.reads old.shelf new.shelf ⊎ IsStopped task Read old new
FailsBy task old new Write = IsStopped task Write old new
FailsBy task old new NoMemory = KeepsFiles old.shelf new.shelf ⊎ IsStopped task NoMemory old new

-- the same of a task that uses the shelf alone, whatever the link and the clock are
abbrev pub Completes : Task → ShelfState → ShelfState → List ℕ → Type 0
Completes task old new line = (l : LinkState) (k : ClockState)
    → IsCarriedOut task (done line) (outside old l k) (outside new l k)

abbrev pub TaskFails : Task → ShelfState → ShelfState → Fault → Type 0
TaskFails task old new fault = (l : LinkState) (k : ClockState)
    → FailsBy task (outside old l k) (outside new l k) fault

-- how the work of a call ended, with a line to put or with a fault; Usage where its words name no
-- task
abbrev pub HasEnded : Option Task → Outside → Outside → Result (String Global) Fault → Type 0
HasEnded None old new (Ok line) = ⊥
HasEnded None old new (Err fault) = (fault ≡ Usage) × IsUntouched old.shelf new.shelf
HasEnded (Some task) old new (Ok line) = IsCarriedOut task (done (string_bytes line)) old new
HasEnded (Some task) old new (Err fault) = FailsBy task old new fault

-- ---- a call

-- a call of the program: the task that its words name, the outside and the sink before and after,
-- and the status that it gave
pub record Call : Type 0 where
  pub task : Option Task
  pub before : Outside
  pub after : Outside
  pub sink_before : SinkState
  pub sink_after : SinkState
  pub status : ℕ

-- the line was put, or a prefix of it where its put failed
abbrev pub Prints : SinkState → SinkState → List ℕ → Type 0
Prints old new text = Puts old new text ⊎ (PutsPart old new text × Increased old.faults new.faults)

-- the words name a task of which P holds
abbrev pub OfTask : Call → (Task → Type 0) → Type 0
OfTask call P = (task : Task) × (call.task ≡ Some task) × P task

-- ---- what each status means

-- the task failed by this fault, and its line was put
pub record FailedBy (call : Call) (fault : Fault) (task : Task) : Type 0 where
  pub work : FailsBy task call.before call.after fault
  pub put : Prints call.sink_before call.sink_after (fault_line fault)

-- the work is done, its line was put, and no call failed
pub record Succeeded (call : Call) (task : Task) : Type 0 where
  pub line : List ℕ
  pub work : IsCarriedOut task (done line) call.before call.after
  pub put : Puts call.sink_before call.sink_after line
  pub puts : call.sink_after.faults ≡ call.sink_before.faults

-- the work is done, and its line can't be put
pub record LineFailed (call : Call) (task : Task) : Type 0 where
  pub line : List ℕ
  pub work : IsCarriedOut task (done line) call.before call.after
  pub put : PutsPart call.sink_before call.sink_after line
  pub failed : Increased call.sink_before.faults call.sink_after.faults

-- the words name no task
pub record NoTask (call : Call) : Type 0 where
  pub words : call.task ≡ None
  pub files : IsUntouched call.before.shelf call.after.shelf
  pub put : Prints call.sink_before call.sink_after (fault_line Usage)

-- the table of statuses: any other number is a refusal's own
abbrev pub Means : Call → ℕ → Type 0
Means call status =
    MatchBool (status == 0) (OfTask call (Succeeded call))
    (MatchBool (status == 1) (NoTask call)
    (MatchBool (status == 6) (OfTask call (FailedBy call Read))
    (MatchBool (status == 7) (OfTask call (FailedBy call Write) ⊎ OfTask call (LineFailed call))
    (MatchBool (status == 8) (OfTask call (FailedBy call NoMemory))
    ((refusal : HeldRefusal) × (refusal.status ≡ status)
    × OfTask call (FailedBy call (Refused refusal)))))))

-- ---- when each status comes, where contents can be observed

-- the status that a plan ends with
abbrev pub HasStatus : End → ℕ → Type 0
HasStatus (done line) status = status ≡ 0
HasStatus (refused refusal) status = status ≡ refusal.status
HasStatus waits status = ⊥

-- where the words name a task that makes its plan of the texts alone, and the files that it reads
-- are there, Q holds of its plan and the status
abbrev pub Gives : Call → (Task → Plan → ℕ → Type 0) → Type 0
Gives call Q =
    (task : Task) (plan : List (List ℕ) → Plan) (texts : List (List ℕ)) → call.task ≡ Some task
    → task.making ≡ offline plan → IsTrue call.before.shelf.observable
    → AreRead call.before.shelf task.reads texts → Q task (plan texts) call.status

-- the plan's own status, unless a call failed or memory was refused
abbrev pub IsDue : Task → Plan → ℕ → Type 0
IsDue task plan status =
    HasStatus plan.end status ⊎ ((status ≡ 6) ⊎ ((status ≡ 7) ⊎ (status ≡ 8)))

-- no count increased of a file that the task reads or of one of its steps, nor the sink's
pub record NoFailure (call : Call) (task : Task) (plan : Plan) : Type 0 where
  pub reads : FetchFailed task.reads call.before.shelf call.after.shelf → ⊥
  pub hears : OfOne (HearFailed call.before call.after) plan.steps → ⊥
  pub writes : OfOne (WriteFailed task.out call.before call.after) plan.steps → ⊥
  pub puts : Increased call.sink_before.faults call.sink_after.faults → ⊥

-- the plan's own status where none increased, unless memory was refused
abbrev pub IsDueOf : Call → Task → Plan → ℕ → Type 0
IsDueOf call task plan status =
    NoFailure call task plan → HasStatus plan.end status ⊎ (status ≡ 8)

-- the name is that of a file of one of the steps
abbrev pub IsFileOf : List ℕ → List Step → List ℕ → Type 0
IsFileOf out [] name = ⊥
IsFileOf out (create end ∷ steps) name = (name ≡ out ++ end) ⊎ IsFileOf out steps name
IsFileOf out (append end bytes ∷ steps) name = (name ≡ out ++ end) ⊎ IsFileOf out steps name
IsFileOf out (s ∷ steps) name = IsFileOf out steps name

-- the name is that of a file that the task's plan writes
abbrev pub IsWritten : Call → List ℕ → Type 0
IsWritten call name = OfTask call
    (λ task. OfPlan task call.before (λ plan said. IsFileOf task.out plan.steps name))

-- what is promised of every call of the program
pub record Ends (call : Call) : Type 0 where
  -- what its status means
  pub means : Means call call.status
  -- 1 comes where the words name no task
  pub finds_no_task : call.task ≡ None → call.status ≡ 1
  -- 6 comes where a file that is to be read is missing
  pub finds_missing : OfTask call
      (λ task. IsTrue call.before.shelf.observable × IsMissing call.before.shelf task.reads)
      → (call.status ≡ 6) ⊎ (call.status ≡ 8)
  -- the plan's own status comes, a refusal's or 0, also where no call failed
  pub due : Gives call IsDue
  pub completes : Gives call (IsDueOf call)
  -- no file changes but those that the plan writes
  pub other_files : ChangesOnly (IsWritten call) call.before.shelf call.after.shelf
  pub sink : SinkGoesOn call.sink_before call.sink_after
