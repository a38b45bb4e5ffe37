-- From how the work of a task ends to what is promised of the call.
use Rattle.std.proofs.Common.{◌≡◌, ℕ, Bool, true, false, ◌==◌, IsTrue, List, [], ◌∷◌, Option, Some, None, ◌⊎◌, inl, inr, refl, sym, ap, ◌∙◌, subst, Ok, Err, String, string_bytes}
use Rattle.std.specs.declared.alloc.Global.{Global}
use Rattle.colo_base.specs.Count.{Increased}
use Rattle.colo_base.specs.Shelf.{ShelfState, ChangesOnly}
use Rattle.colo_base.specs.Sink.{Puts, PutsPart, SinkGoesOn}
use Rattle.colo_base.proofs.StateLemmas.{changes_wider}
use Rattle.file_steps.specs.declared.fault.Fault.{Fault}
use Rattle.file_steps.specs.declared.fault.Fault.TheVariants.{Usage, Refused, Read, Write, NoMemory}
use Rattle.file_steps.specs.declared.fault.Refusal.{Refusal as HeldRefusal}
use Rattle.file_steps.specs.Ending.{OfPlan, IsCarriedOut, IsStopped, FailsBy, Call, Prints, OfTask, FailedBy, Means, HasStatus, Gives, NoFailure, IsDue, IsDueOf, IsFileOf, IsWritten, Ends, HasEnded}
use Rattle.file_steps.specs.Plans.{End, done, refused, Plan, Task, offline, plan_of, is_own}
use Rattle.file_steps.specs.Reading.{AreRead, IsMissing, IsUntouched, KeepsFiles}
use Rattle.file_steps.specs.Status.{fault_line, fault_status, refusal_of}
use Rattle.file_steps.specs.Steps.{Step, Said, Outside, CutOff, Done, FailsAt, OfOne, WriteFailed, HearFailed}
use Rattle.file_steps.proofs.LeftLemmas.{only_written, files_of_front}
use Rattle.file_steps.proofs.PartLemmas.{of_one}

-- ---- what was read is one list of texts

no_bytes : (o : Option (List ℕ)) (bytes : List ℕ) → o ≡ Some bytes → o ≡ None → ⊥
no_bytes o bytes p q = cc

same_bytes : (o : Option (List ℕ)) (xs ys : List ℕ) → o ≡ Some xs → o ≡ Some ys → xs ≡ ys
same_bytes o xs ys p q = cc

same_texts : (s : ShelfState) (names a b : List (List ℕ)) → IsTrue s.observable → AreRead s names a
    → AreRead s names b → a ≡ b
same_texts s [] [] [] seen p q = refl
same_texts s [] [] (y ∷ b) seen p q = absurd q
same_texts s [] (x ∷ a) b seen p q = absurd p
same_texts s (n ∷ names) [] b seen p q = absurd p
same_texts s (n ∷ names) (x ∷ a) [] seen p q = absurd q
same_texts s (n ∷ names) (x ∷ a) (y ∷ b) seen p q =
    ap (λ z. z ∷ a) (same_bytes (s.contents n) x y (p.0 seen) (q.0 seen))
    ∙ ap (λ l. y ∷ l) (same_texts s names a b seen p.1 q.1)

there : (s : ShelfState) (names texts : List (List ℕ)) → IsTrue s.observable → AreRead s names texts
    → IsMissing s names → ⊥
there s [] texts seen are none = none
there s (n ∷ names) [] seen are none = are
there s (n ∷ names) (x ∷ texts) seen are (inl none) = no_bytes (s.contents n) x (are.0 seen) none
there s (n ∷ names) (x ∷ texts) seen are (inr later) = there s names texts seen are.1 later

-- ---- the words name one task

same_task : (o : Option Task) (a b : Task) → o ≡ Some a → o ≡ Some b → a ≡ b
same_task o a b p q = cc

no_task : (o : Option Task) (a : Task) → o ≡ None → o ≡ Some a → ⊥
no_task o a p q = cc

-- what holds of the plan of what was read holds of the plan of these texts
of_texts : (task : Task) (plan : List (List ℕ) → Plan) (s : Outside) (P : Plan → Said → Type 0)
    (texts : List (List ℕ)) → task.making ≡ offline plan → IsTrue s.shelf.observable
    → AreRead s.shelf task.reads texts → (made : OfPlan task s P) → P (plan texts) made.said
of_texts task plan s P texts is seen are made =
    subst (λ (l : List (List ℕ)). P (plan l) made.said)
    (same_texts s.shelf task.reads made.texts texts seen made.are are)
    (subst (λ m. P (plan_of m made.texts made.said) made.said) is made.holds)

-- ---- a refusal's own status

own_means : (call : Call) (status : ℕ) → IsTrue (is_own status) → ((r : HeldRefusal) × (r.status ≡ status)
    × OfTask call (FailedBy call (Refused r))) → Means call status
own_means call status own why =
    go (status == 0) refl (status == 1) refl (status == 6) refl (status == 7) refl (status == 8) refl
  where
    go : (a : Bool) → (status == 0) ≡ a → (b : Bool) → (status == 1) ≡ b → (c : Bool) → (status == 6) ≡ c
        → (d : Bool) → (status == 7) ≡ d → (e : Bool) → (status == 8) ≡ e → Means call status
    go true p b q c r d s e t = absurd (let x : false ≡ true = rw p at own in cc)
    go false p true q c r d s e t = absurd (let x : false ≡ true = rw (p, q) at own in cc)
    go false p false q true r d s e t = absurd (let x : false ≡ true = rw (p, q, r) at own in cc)
    go false p false q false r true s e t = absurd (let x : false ≡ true = rw (p, q, r, s) at own in cc)
    go false p false q false r false s true t = absurd (let x : false ≡ true = rw (p, q, r, s, t) at own in cc)
    go false p false q false r false s false t = rw (p, q, r, s, t) why

-- ---- the two ways to end

abbrev pub WasPut : Call → List ℕ → Type 0
WasPut call line =
    ((call.status ≡ 0) × Puts call.sink_before call.sink_after line
    × (call.sink_after.faults ≡ call.sink_before.faults))
    ⊎ ((call.status ≡ 7) × PutsPart call.sink_before call.sink_after line
    × Increased call.sink_before.faults call.sink_after.faults)

module _ (call : Call) (task : Task) (named : call.task ≡ Some task) where
  abbrev old : Outside
  old = call.before

  abbrev new : Outside
  new = call.after

  gives : (Q : Task → Plan → ℕ → Type 0) → ((plan : List (List ℕ) → Plan) (texts : List (List ℕ))
      → task.making ≡ offline plan → IsTrue old.shelf.observable
      → AreRead old.shelf task.reads texts → Q task (plan texts) call.status) → Gives call Q
  gives Q f =
      λ other plan texts said is seen are.
      let same = same_task call.task task other named said in
      subst (λ (t : Task). t.making ≡ offline plan → AreRead old.shelf t.reads texts → Q t (plan texts) call.status)
      same (λ p q. f plan texts p seen q) is are

  missing_by : (IsTrue old.shelf.observable → IsMissing old.shelf task.reads → (call.status ≡ 6) ⊎ (call.status ≡ 8))
      → OfTask call (λ task. IsTrue old.shelf.observable × IsMissing old.shelf task.reads)
      → (call.status ≡ 6) ⊎ (call.status ≡ 8)
  missing_by f (other, said, p) =
      f p.0 (subst (λ (t : Task). IsMissing old.shelf t.reads) (same_task call.task other task said named) p.1)

  -- ---- other files

  of_files : (P : Plan → Said → Type 0) (made : OfPlan task old P)
      → ((name : List ℕ) → IsFileOf task.out (plan_of task.making made.texts made.said).steps name
      → IsWritten call name)
  of_files P made name is =
      (task, named, record { texts = made.texts; are = made.are; said = made.said; holds = is })

  others_done : (end : End) → IsCarriedOut task end old new → ChangesOnly (IsWritten call) old.shelf new.shelf
  others_done end work =
      let plan = plan_of task.making work.texts work.said in
      changes_wider (IsFileOf task.out plan.steps) (IsWritten call) old.shelf new.shelf
      (of_files (λ plan said. (plan.end ≡ end) × Done task.out plan.steps said old new) work)
      (only_written task.out plan.steps work.said old new work.holds.1.carried)

  others_cut : (P : Plan → Said → Type 0) (made : OfPlan task old P) (rest : List Step)
      → CutOff task.out (plan_of task.making made.texts made.said).steps rest made.said old new
      → ChangesOnly (IsWritten call) old.shelf new.shelf
  others_cut P made rest cut =
      let plan = plan_of task.making made.texts made.said in
      changes_wider (IsFileOf task.out cut.made) (IsWritten call) old.shelf new.shelf
      (λ name is. of_files P made name (files_of_front task.out name plan.steps cut.made rest cut.front is))
      (only_written task.out cut.made made.said old new cut.carried)

  none_other : KeepsFiles old.shelf new.shelf → ChangesOnly (IsWritten call) old.shelf new.shelf
  none_other kept = changes_wider (λ name. ⊥) (IsWritten call) old.shelf new.shelf (λ name none. absurd none) kept

  others_stopped : (fault : Fault) → IsStopped task fault old new → ChangesOnly (IsWritten call) old.shelf new.shelf
  others_stopped Usage work = absurd work.holds
  others_stopped (Refused refusal) work = absurd work.holds
  others_stopped Read work = others_cut _ work work.holds.rest work.holds.cut
  others_stopped Write work = others_cut _ work work.holds.rest work.holds.cut
  others_stopped NoMemory work = others_cut _ work work.holds.rest work.holds.cut

  others_failed : (fault : Fault) → FailsBy task old new fault → ChangesOnly (IsWritten call) old.shelf new.shelf
  others_failed Usage work = absurd work
  others_failed (Refused refusal) work = others_done (refused (refusal_of refusal)) work.1
  others_failed Read (inl work) = none_other work.files
  others_failed Read (inr work) = others_stopped Read work
  others_failed Write work = others_stopped Write work
  others_failed NoMemory (inl kept) = none_other kept
  others_failed NoMemory (inr work) = others_stopped NoMemory work

  -- ---- the work was done

  pub ends_done : (line : List ℕ) → IsCarriedOut task (done line) old new → WasPut call line
      → SinkGoesOn call.sink_before call.sink_after → Ends call
  ends_done line work put sink = record {
    means = means put;
    finds_no_task = λ none. absurd (no_task call.task task none named);
    finds_missing = missing_by (λ seen none. absurd (there old.shelf task.reads work.texts seen work.are none));
    due = gives IsDue (λ plan texts is seen are. due put (plan texts).end (end_is plan texts is seen are));
    completes = gives (IsDueOf call)
        (λ plan texts is seen are fine. whole put (plan texts).end (end_is plan texts is seen are) fine.puts);
    other_files = others_done (done line) work;
    sink = sink;
  }
    where
      end_is : (plan : List (List ℕ) → Plan) (texts : List (List ℕ)) → task.making ≡ offline plan
          → IsTrue old.shelf.observable → AreRead old.shelf task.reads texts → (plan texts).end ≡ done line
      end_is plan texts is seen are =
          (of_texts task plan old (λ plan said. (plan.end ≡ done line) × Done task.out plan.steps said old new) texts
          is seen are work).0

      means : WasPut call line → Means call call.status
      means (inl p) = subst (λ (s : ℕ). Means call s) (sym p.0)
          (task, named, record { line = line; work = work; put = p.1; puts = p.2 })
      means (inr p) = subst (λ (s : ℕ). Means call s) (sym p.0)
          (inr (task, named, record { line = line; work = work; put = p.1; failed = p.2 }))

      status_of : (e : End) → e ≡ done line → call.status ≡ 0 → HasStatus e call.status
      status_of e is zero = subst (λ (x : End). HasStatus x call.status) (sym is) zero

      due : WasPut call line → (e : End) → e ≡ done line
          → HasStatus e call.status ⊎ ((call.status ≡ 6) ⊎ ((call.status ≡ 7) ⊎ (call.status ≡ 8)))
      due (inl p) e is = inl (status_of e is p.0)
      due (inr p) e is = inr (inr (inl p.0))

      whole : WasPut call line → (e : End) → e ≡ done line
          → (Increased call.sink_before.faults call.sink_after.faults → ⊥)
          → HasStatus e call.status ⊎ (call.status ≡ 8)
      whole (inl p) e is none = inl (status_of e is p.0)
      whole (inr p) e is none = absurd (none p.2)

  -- ---- the work failed

  means_failed : (fault : Fault) → FailsBy task old new fault
      → Prints call.sink_before call.sink_after (fault_line fault)
      → Means call (fault_status fault)
  means_failed Usage why put = absurd why
  means_failed (Refused refusal) why put =
      own_means call refusal.status why.0 (refusal, refl, (task, named, record { work = why; put = put }))
  means_failed Read why put = (task, named, record { work = why; put = put })
  means_failed Write why put = inl (task, named, record { work = why; put = put })
  means_failed NoMemory why put = (task, named, record { work = why; put = put })

  missing_failed : (fault : Fault) → FailsBy task old new fault → call.status ≡ fault_status fault
      → IsTrue old.shelf.observable → IsMissing old.shelf task.reads → (call.status ≡ 6) ⊎ (call.status ≡ 8)
  missing_failed Usage why is seen none = absurd why
  missing_failed (Refused refusal) why is seen none =
      absurd (there old.shelf task.reads why.1.texts seen why.1.are none)
  missing_failed Read why is seen none = inl is
  missing_failed Write why is seen none = absurd (there old.shelf task.reads why.texts seen why.are none)
  missing_failed NoMemory why is seen none = inr is

  module _ (plan : List (List ℕ) → Plan) (texts : List (List ℕ)) (making : task.making ≡ offline plan)
      (seen : IsTrue old.shelf.observable) (are : AreRead old.shelf task.reads texts) where
    has_own : (refusal : HeldRefusal) → IsCarriedOut task (refused (refusal_of refusal)) old new
        → call.status ≡ refusal.status → HasStatus (plan texts).end call.status
    has_own refusal work is =
        let end_is = (of_texts task plan old (λ plan said. (plan.end ≡ refused (refusal_of refusal))
        × Done task.out plan.steps said old new) texts making seen are work).0 in
        subst (λ (x : End). HasStatus x call.status) (sym end_is) is

    due_failed : (fault : Fault) → FailsBy task old new fault → call.status ≡ fault_status fault
        → HasStatus (plan texts).end call.status ⊎ ((call.status ≡ 6) ⊎ ((call.status ≡ 7) ⊎ (call.status ≡ 8)))
    due_failed Usage why is = absurd why
    due_failed (Refused refusal) why is = inl (has_own refusal why.1 is)
    due_failed Read why is = inr (inl is)
    due_failed Write why is = inr (inr (inl is))
    due_failed NoMemory why is = inr (inr (inr is))

    -- the step at which the work was cut off is one of the plan's
    one_failed : (P : Step → Type 0) → OfPlan task old (λ plan said. FailsAt task.out plan.steps said old new P)
        → OfOne P (plan texts).steps
    one_failed P work =
        let f = of_texts task plan old (λ plan said. FailsAt task.out plan.steps said old new P) texts making seen are
        work in
        subst (λ (l : List Step). OfOne P l) (sym f.cut.front.place) (of_one P f.cut.front.done f.rest f.failed)

    completes_failed : (fault : Fault) → FailsBy task old new fault → call.status ≡ fault_status fault
        → NoFailure call task (plan texts) → HasStatus (plan texts).end call.status ⊎ (call.status ≡ 8)
    completes_failed Usage why is fine = absurd why
    completes_failed (Refused refusal) why is fine = inl (has_own refusal why.1 is)
    completes_failed Read (inl why) is fine = absurd (fine.reads why.failed)
    completes_failed Read (inr why) is fine = absurd (fine.hears (one_failed (HearFailed old new) why))
    completes_failed Write why is fine = absurd (fine.writes (one_failed (WriteFailed task.out old new) why))
    completes_failed NoMemory why is fine = inr is

  pub ends_failed : (fault : Fault) → FailsBy task old new fault → call.status ≡ fault_status fault
      → Prints call.sink_before call.sink_after (fault_line fault) → SinkGoesOn call.sink_before call.sink_after
      → Ends call
  ends_failed fault why is put sink = record {
    means = subst (λ (s : ℕ). Means call s) (sym is) (means_failed fault why put);
    finds_no_task = λ none. absurd (no_task call.task task none named);
    finds_missing = missing_by (missing_failed fault why is);
    due = gives IsDue (λ plan texts making seen are. due_failed plan texts making seen are fault why is);
    completes = gives (IsDueOf call)
        (λ plan texts making seen are fine. completes_failed plan texts making seen are fault why is fine);
    other_files = others_failed fault why;
    sink = sink;
  }

-- the words name no task
pub ends_usage : (call : Call) → call.task ≡ None → IsUntouched call.before.shelf call.after.shelf
    → call.status ≡ 1 → Prints call.sink_before call.sink_after (fault_line Usage)
    → SinkGoesOn call.sink_before call.sink_after → Ends call
ends_usage call none kept is put sink = record {
  means = subst (λ (s : ℕ). Means call s) (sym is) (record { words = none; files = kept; put = put });
  finds_no_task = λ same. is;
  finds_missing = λ (task, named, p). absurd (no_task call.task task none named);
  due = λ task plan texts named making seen are. absurd (no_task call.task task none named);
  completes = λ task plan texts named making seen are. absurd (no_task call.task task none named);
  other_files =
      changes_wider (λ name. ⊥) (IsWritten call) call.before.shelf call.after.shelf (λ name e. absurd e) kept.files;
  sink = sink;
}

-- ---- the end of a call, by what its work gave

pub end_ok : (call : Call) (line : String Global) → HasEnded call.task call.before call.after (Ok line)
    → WasPut call (string_bytes line) → SinkGoesOn call.sink_before call.sink_after → Ends call
end_ok call line ended put sink = by call.task refl ended
  where
    by : (o : Option Task) → call.task ≡ o → HasEnded o call.before call.after (Ok line) → Ends call
    by None e none = absurd none
    by (Some task) e work = ends_done call task e (string_bytes line) work put sink

pub end_err : (call : Call) (fault : Fault) → HasEnded call.task call.before call.after (Err fault)
    → call.status ≡ fault_status fault → Prints call.sink_before call.sink_after (fault_line fault)
    → SinkGoesOn call.sink_before call.sink_after → Ends call
end_err call fault ended is put sink = by call.task refl ended
  where
    by : (o : Option Task) → call.task ≡ o → HasEnded o call.before call.after (Err fault) → Ends call
    by None e (usage, kept) =
        ends_usage call e kept (is ∙ ap fault_status usage)
        (subst (λ (f : Fault). Prints call.sink_before call.sink_after (fault_line f)) usage put) sink
    by (Some task) e why = ends_failed call task e fault why is put sink
