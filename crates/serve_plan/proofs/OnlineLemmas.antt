-- From what was read, and how the work of a task that uses the link ends, to how the task ends.
use Rattle.std.proofs.Common.{ℕ, List, [], Result, Ok, Err, IfOk, IfErr, String, inl, inr, string_bytes}
use Rattle.std.specs.declared.alloc.Global.{Global}
use Rattle.colo_base.specs.Clock.{ClockState}
use Rattle.colo_base.specs.Link.{LinkState}
use Rattle.colo_base.specs.Shelf.{ShelfState}
use Rattle.command_plans.proofs.TextLemmas.{untouched_done}
use Rattle.file_steps.specs.declared.fault.Fault.{Fault}
use Rattle.file_steps.specs.declared.fault.Fault.TheVariants.{Usage, Refused, Read, Write, NoMemory}
use Rattle.file_steps.specs.Ending.{FailsBy, IsCarriedOut}
use Rattle.file_steps.specs.Plans.{End, Task, done, online, refused}
use Rattle.file_steps.specs.Reading.{AreRead, IsUntouched, ReadFails}
use Rattle.file_steps.specs.Status.{refusal_of}
use Rattle.file_steps.specs.Steps.{Outside, nothing, outside}
use Rattle.file_steps.proofs.PartLemmas.{done_then, fails_then}
use Rattle.serve_rounds.specs.Work.{EndsWith, IsStopped, Work}

module _ (reads : List (List ℕ)) (out : List ℕ) (making : List (List ℕ) → Work) (old mid : ShelfState)
    (l : LinkState) (k : ClockState) where
  abbrev the_task : Task
  the_task = record { reads = reads; out = out; making = online making }

  -- a fetch failed, or memory was refused
  pub online_read_fails : (fault : Fault) → ReadFails reads old mid fault
      → FailsBy the_task (outside old l k) (outside mid l k) fault
  online_read_fails Usage none = none
  online_read_fails (Refused refusal) none = absurd none
  online_read_fails Read fails = inl fails
  online_read_fails Write none = absurd none
  online_read_fails NoMemory files = inl files

  -- the files were read, and the work ended so
  module _ (texts : List (List ℕ)) (are : AreRead old reads texts) (u : IsUntouched old mid) (new : Outside) where
    work_ends : (end : End) → EndsWith out (making texts) end (outside mid l k) new
        → IsCarriedOut the_task end (outside old l k) new
    work_ends end e = record {
      texts = texts;
      are = are;
      said = e.said;
      holds = (
        e.ends,
        done_then out [] (making texts e.said).steps nothing e.said (outside old l k) (outside mid l k) new
            (untouched_done out old mid l k u) e.done,
      );
    }

    work_stops : (fault : Fault) → IsStopped out (making texts) (outside mid l k) new fault
        → FailsBy the_task (outside old l k) new fault
    work_stops Usage none = none
    work_stops (Refused held) (own, ends) = (own, work_ends (refused (refusal_of held)) ends)
    work_stops Read cut = inr (record {
      texts = texts;
      are = are;
      said = cut.said;
      holds = fails_then out [] (making texts cut.said).steps nothing cut.said (outside old l k) (outside mid l k) new
          Read (untouched_done out old mid l k u) cut.fails;
    })
    work_stops Write cut = record {
      texts = texts;
      are = are;
      said = cut.said;
      holds = fails_then out [] (making texts cut.said).steps nothing cut.said (outside old l k) (outside mid l k) new
          Write (untouched_done out old mid l k u) cut.fails;
    }
    work_stops NoMemory cut = inr (record {
      texts = texts;
      are = are;
      said = cut.said;
      holds = fails_then out [] (making texts cut.said).steps nothing cut.said (outside old l k) (outside mid l k) new
          NoMemory (untouched_done out old mid l k u) cut.fails;
    })

    -- the call that made it gives the task's own answer
    pub online_done : (r : Result (String Global) Fault)
        → IfOk r (λ line. EndsWith out (making texts) (done (string_bytes line)) (outside mid l k) new)
        → IfOk r (λ line. IsCarriedOut the_task (done (string_bytes line)) (outside old l k) new)
    online_done (Ok line) ends = work_ends (done (string_bytes line)) ends
    online_done (Err fault) ends = tt

    pub online_fails : (r : Result (String Global) Fault)
        → IfErr r (IsStopped out (making texts) (outside mid l k) new)
        → IfErr r (FailsBy the_task (outside old l k) new)
    online_fails (Ok line) stops = tt
    online_fails (Err fault) stops = work_stops fault stops
