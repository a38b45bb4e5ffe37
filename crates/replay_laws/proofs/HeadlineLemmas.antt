-- From what is promised of a call to the theorem of the pair that it ran.
use Rattle.std.proofs.Common.{◌≡◌, ℕ, ◌==◌, ◌⊎◌, inl, inr, Bool, true, false, IsTrue, MatchBool, List, [], ◌∷◌, ◌++◌, Option, Some, None, Result, Ok, Err, refl, sym, ap, subst, ◌∙◌, if◌then◌else◌}
use Rattle.std.specs.List.{list_all}
use Rattle.std.specs.Prelude.{option_map}
use Rattle.std.proofs.lemmas.Bool.{and_parts}
use Rattle.std.proofs.lemmas.List.{append-nil}
use Rattle.colo_base.specs.Shelf.{ShelfState}
use Rattle.colo_base.specs.Sink.{Puts}
use Rattle.command_inputs.specs.Start as inputs
use Rattle.command_inputs.specs.Start.{read_start}
use Rattle.command_inputs.specs.Texts.{read_schedule}
use Rattle.command_inputs.proofs.ClientLemmas.{clients_lem}
use Rattle.command_inputs.proofs.MachineLemmas.{machines_lem}
use Rattle.command_inputs.proofs.StartLemmas.{start_whole}
use Rattle.command_inputs.proofs.TextLemmas.{schedules_lem}
use Rattle.command_tasks.specs.Tasks.{replay_task, run_reads, task_of}
use Rattle.command_tasks.specs.Words.{Command, RunWords}
use Rattle.file_steps.specs.Ending.{Call, FailedBy, IsCarriedOut, IsStopped, LineFailed, Means, NoTask, OfTask, Succeeded}
use Rattle.file_steps.specs.Plans.{End, Plan, Refusal, Task, done, refused, waits}
use Rattle.file_steps.specs.Reading.{AreRead, FailsToRead, KeepsFiles}
use Rattle.file_steps.specs.Status.{refusal_of}
use Rattle.file_steps.specs.Steps as file
use Rattle.file_steps.specs.Steps.{Carried, Files, IsFront, IsPartOf, Said, append, connect, create, hear, read_clock, send}
use Rattle.file_steps.specs.declared.fault.Fault.TheVariants as fault
use Rattle.file_steps.specs.declared.fault.Refusal.{Refusal as HeldRefusal}
use Rattle.guest_starts.specs.Laws.{MachinesStart}
use Rattle.replay_log.specs.declared.lines.Line.{Line}
use Rattle.shared_definitions.specs.Bytes.{AreBytes}
use Rattle.state_wire.specs.Guest.{Meaning}
use Rattle.pair_theorem.specs.History.{pair_log}
use Rattle.pair_theorem.specs.LogParts.{OutFiles}
use Rattle.replay_plan.specs.LogPlan.{log_line, log_plan, log_steps}
use Rattle.replay_plan.specs.ReplayPlan.{are_bytes, replay_plan, replay_texts, start_with}
use Rattle.replay_plan.proofs.ByteTests.{bytes_there}
use Rattle.theorem_whole.proofs.WholeLemmas.{theorem_holds}
use Rattle.replay_plan.proofs.PlanLemmas.{replay_whole}
use Rattle.replay_plan.proofs.StartLemmas.{read_back, starts_there}
use Rattle.replay_laws.specs.Files.{HasFiles}
use Rattle.replay_laws.specs.Headline.{AreGiven, EachReplayIsOnePair, RanOnePair, WroteFront, files_before, start_at}
use Rattle.replay_laws.proofs.FilesLemmas.{log_leaves}
use Rattle.replay_laws.proofs.StopLemmas.{schedule_stops_once}

-- ---- the plan of texts that ends with a line

-- four texts of bytes, of which each is good
record IsLog (mib : ℕ) (texts : List (List ℕ)) : Type 0 where
  image : List ℕ
  disk : List ℕ
  client : List ℕ
  schedule : List ℕ
  texts_are : texts ≡ image ∷ (disk ∷ (client ∷ (schedule ∷ [])))
  image_bytes : AreBytes image
  disk_bytes : AreBytes disk
  client_bytes : AreBytes client
  start : inputs.Start
  lines : List Line
  read : read_start mib image disk client ≡ Ok start
  spelled : read_schedule schedule ≡ Ok lines
  plan : replay_texts mib texts ≡ log_plan (start_with start) lines

abbrev no_plan : Plan
no_plan = record { steps = []; end = waits }

never_done : {A : Type 0} (line : List ℕ) → waits ≡ done line → A
never_done line e = absurd (cc e)

never_good : {A : Type 0} (r : Refusal) (line : List ℕ) → refused r ≡ done line → A
never_good r line e = absurd (cc e)

not_done : {A : Type 0} (b : Bool) (line : List ℕ) → (if b then no_plan else no_plan).end ≡ done line → A
not_done true line e = never_done line e
not_done false line e = never_done line e

module _ (mib : ℕ) (image disk client schedule : List ℕ) (line : List ℕ) where
  abbrev texts : List (List ℕ)
  texts = image ∷ (disk ∷ (client ∷ (schedule ∷ [])))

  both_read : (good : list_all are_bytes texts ≡ true) (s : Result inputs.Start Refusal)
      → read_start mib image disk client ≡ s → (r : Result (List Line) Refusal) → read_schedule schedule ≡ r
      → (replay_plan mib image disk client schedule).end ≡ done line → IsLog mib texts
  unfolding replay_plan
  both_read good (Ok start) es (Ok lines) er e =
      let p = and_parts (are_bytes image) (list_all are_bytes (disk ∷ (client ∷ (schedule ∷ [])))) good in
      let q = and_parts (are_bytes disk) (list_all are_bytes (client ∷ (schedule ∷ []))) p.1 in
      let r = and_parts (are_bytes client) (list_all are_bytes (schedule ∷ [])) q.1 in
      record {
        image = image;
        disk = disk;
        client = client;
        schedule = schedule;
        texts_are = refl;
        image_bytes = bytes_there image p.0;
        disk_bytes = bytes_there disk q.0;
        client_bytes = bytes_there client r.0;
        start = start;
        lines = lines;
        read = es;
        spelled = er;
        plan = ap (λ (b : Bool). if b then replay_plan mib image disk client schedule else no_plan) good
            ∙ replay_whole mib image disk client schedule start lines es er;
      }
  both_read good (Ok start) es (Err refusal) er e = never_good refusal line (rw (es, er) at e)
  both_read good (Err refusal) es r er e = never_good refusal line (rw es at e)

  four_read : (b : Bool) → list_all are_bytes texts ≡ b
      → (if b then replay_plan mib image disk client schedule else no_plan).end ≡ done line → IsLog mib texts
  four_read true good e =
      both_read good (read_start mib image disk client) refl (read_schedule schedule) refl e
  four_read false good e = never_done line e

plan_log : (mib : ℕ) (texts : List (List ℕ)) (line : List ℕ) → (replay_texts mib texts).end ≡ done line
    → IsLog mib texts
plan_log mib (i ∷ (d ∷ (c ∷ (l ∷ [])))) line e =
    four_read mib i d c l line (list_all are_bytes (i ∷ (d ∷ (c ∷ (l ∷ []))))) refl e
plan_log mib [] line e = not_done (list_all are_bytes []) line e
plan_log mib (i ∷ []) line e = not_done (list_all are_bytes (i ∷ [])) line e
plan_log mib (i ∷ (d ∷ [])) line e = not_done (list_all are_bytes (i ∷ (d ∷ []))) line e
plan_log mib (i ∷ (d ∷ (c ∷ []))) line e = not_done (list_all are_bytes (i ∷ (d ∷ (c ∷ [])))) line e
plan_log mib (i ∷ (d ∷ (c ∷ (l ∷ (x ∷ xs))))) line e =
    not_done (list_all are_bytes (i ∷ (d ∷ (c ∷ (l ∷ (x ∷ xs)))))) line e

-- ---- what is read is what is given

same_text : (a b : List ℕ) → Some a ≡ Some b → a ≡ b
same_text a b e = cc

same_texts : (shelf : ShelfState) (names xs ys : List (List ℕ)) → IsTrue shelf.observable → AreRead shelf names xs
    → AreRead shelf names ys → xs ≡ ys
same_texts shelf [] [] [] seen h g = refl
same_texts shelf [] (x ∷ xs) ys seen h g = absurd h
same_texts shelf [] [] (y ∷ ys) seen h g = absurd g
same_texts shelf (name ∷ names) [] ys seen h g = absurd h
same_texts shelf (name ∷ names) (x ∷ xs) [] seen h g = absurd g
same_texts shelf (name ∷ names) (x ∷ xs) (y ∷ ys) seen h g =
    let first = same_text x y (sym (h.0 seen) ∙ g.0 seen) in
    let rest = same_texts shelf names xs ys seen h.1 g.1 in
    λ i. first i ∷ rest i

-- ---- a front

part_none : (rest : List file.Step) → IsPartOf rest []
part_none [] = refl
part_none (create end ∷ rest) = inl refl
part_none (append end bytes ∷ rest) = inl refl
part_none (connect address ∷ rest) = refl
part_none (hear room ∷ rest) = refl
part_none (read_clock ∷ rest) = refl
part_none (send bytes ∷ rest) = inl refl

front_none : (steps : List file.Step) → IsFront steps [] steps
front_none steps = record { done = []; part = []; place = refl; next = part_none steps; made_is = refl }

front_whole : (steps : List file.Step) → IsFront steps steps []
front_whole steps = record {
  done = steps;
  part = [];
  place = sym (append-nil steps);
  next = refl;
  made_is = sym (append-nil steps);
}

none_before : (xs ys : List file.Step) → [] ≡ xs ++ ys → (xs ≡ []) × (ys ≡ [])
none_before [] ys e = (refl, sym e)
none_before (x ∷ xs) ys e = absurd (cc e)

front_of_none : (made rest : List file.Step) → IsFront [] made rest → made ≡ []
front_of_none made rest f =
    let p = none_before f.done rest f.place in
    let part : f.part ≡ [] = subst (λ (l : List file.Step). IsPartOf l f.part) p.1 f.next in
    f.made_is ∙ λ i. p.0 i ++ part i

module _ (c : RunWords) (call : Call) (seen : IsTrue call.before.shelf.observable) (steps : List file.Step) where
  kept : KeepsFiles call.before.shelf call.after.shelf → WroteFront c call steps
  kept k = record {
    made = [];
    rest = steps;
    front = front_none steps;
    files = λ end. k.others seen (c.out ++ end) (λ no. no);
  }

  carried : (plan_steps made rest : List file.Step) (said : Said) → (plan_steps ≡ []) ⊎ (plan_steps ≡ steps)
      → IsFront plan_steps made rest → Carried c.out made said call.before call.after → WroteFront c call steps
  carried plan_steps made rest said (inr is) f h = record {
    made = made;
    rest = rest;
    front = subst (λ (l : List file.Step). IsFront l made rest) is f;
    files = λ end. h.files seen end;
  }
  carried plan_steps made rest said (inl none) f h =
      let is = front_of_none made rest (subst (λ (l : List file.Step). IsFront l made rest) none f) in
      record {
        made = [];
        rest = steps;
        front = front_none steps;
        files = λ end. h.files seen end ∙ ap (λ (l : List file.Step). file.after_steps (files_before call c) l end) is;
      }

-- ---- the steps of what is given

steps_are : (c : RunWords) (shelf : ShelfState) (machine : Meaning) (frames : List (List ℕ)) (lines : List Line)
    (texts : List (List ℕ)) → IsTrue shelf.observable → AreGiven c shelf machine frames lines
    → AreRead shelf (run_reads c) texts
    → ((replay_texts c.mib texts).steps ≡ [])
    ⊎ ((replay_texts c.mib texts).steps
    ≡ log_steps (start_at machine frames) (pair_log (start_at machine frames) lines))
steps_are c shelf machine frames lines texts seen g are =
    let is = same_texts shelf (run_reads c) texts (g.image ∷ (g.disk ∷ (g.client ∷ (g.schedule ∷ [])))) seen are
    g.are in
    subst (λ (xs : List (List ℕ)). ((replay_texts c.mib xs).steps ≡ [])
    ⊎ ((replay_texts c.mib xs).steps ≡ log_steps (start_at machine frames) (pair_log (start_at machine frames) lines)))
    (sym is) (by (list_all are_bytes (g.image ∷ (g.disk ∷ (g.client ∷ (g.schedule ∷ []))))) refl)
  where
    by : (b : Bool) → list_all are_bytes (g.image ∷ (g.disk ∷ (g.client ∷ (g.schedule ∷ [])))) ≡ b
        → ((if b then replay_plan c.mib g.image g.disk g.client g.schedule else no_plan).steps ≡ [])
        ⊎ ((if b then replay_plan c.mib g.image g.disk g.client g.schedule else no_plan).steps
        ≡ log_steps (start_at machine frames) (pair_log (start_at machine frames) lines))
    by false e = inl refl
    by true e =
        let p = and_parts (are_bytes g.image) (list_all are_bytes (g.disk ∷ (g.client ∷ (g.schedule ∷ [])))) e in
        let q = and_parts (are_bytes g.disk) (list_all are_bytes (g.client ∷ (g.schedule ∷ []))) p.1 in
        let r = and_parts (are_bytes g.client) (list_all are_bytes (g.schedule ∷ [])) q.1 in
        let m = (machines_lem c.mib g.image g.disk machine).1 g.booted in
        let f = (clients_lem g.client frames (bytes_there g.client r.0)).1 g.stream in
        let start = start_whole c.mib g.image g.disk g.client machine frames m f in
        inr (ap (λ (plan : Plan). plan.steps)
        (replay_whole c.mib g.image g.disk g.client g.schedule (record { machine = machine; frames = frames }) lines
        start ((schedules_lem g.schedule lines).1 g.spelled)))

-- ---- a call of replay

same_task : (a b : Task) → Some a ≡ Some b → a ≡ b
same_task a b e = cc

of_task : (call : Call) (task : Task) (P : Task → Type 0) → call.task ≡ Some task → OfTask call P → P task
of_task call task P is (other, named, holds) = subst P (same_task other task (sym named ∙ is)) holds

same_end : (a b : List ℕ) → done a ≡ done b → a ≡ b
same_end a b e = cc

has_same : (f g : Files) (out : OutFiles) → ((end : List ℕ) → f end ≡ g end) → HasFiles g out → HasFiles f out
has_same f g out same h = record {
  log = same _ ∙ h.log;
  released = same _ ∙ h.released;
  wire = same _ ∙ h.wire;
  ram = same _ ∙ h.ram;
  disk = same _ ∙ h.disk;
}

module _ (machines : MachinesStart) (c : RunWords) (call : Call) (is : call.task ≡ Some (replay_task c)) where
  -- at status 0
  ran : Succeeded call (replay_task c) → RanOnePair c call
  ran s =
      let l = plan_log c.mib s.work.texts s.line s.work.holds.0 in
      let p = read_back c.mib l.image l.disk l.client l.start l.read in
      let spelled = (schedules_lem l.schedule l.lines).0 l.spelled in
      let start = starts_there machines c.mib l.image l.disk l.client l.image_bytes l.disk_bytes l.client_bytes
      machines_lem clients_lem l.start l.read in
      let a = start_with l.start in
      let one = schedule_stops_once l.schedule l.lines spelled in
      record {
        machine = l.start.machine;
        frames = l.start.frames;
        lines = l.lines;
        given = record {
          image = l.image;
          disk = l.disk;
          client = l.client;
          schedule = l.schedule;
          are = subst (λ (xs : List (List ℕ)). AreRead call.before.shelf (run_reads c) xs) l.texts_are s.work.are;
          booted = (machines_lem c.mib l.image l.disk l.start.machine).0 p.0;
          stream = (clients_lem l.client l.start.frames l.client_bytes).0 p.1;
          spelled = spelled;
        };
        start = start;
        one_stop = one;
        files = λ seen. has_same _ _ _
            (λ end. s.work.holds.1.carried.files seen end
            ∙ ap (λ (plan : Plan). file.after_steps (files_before call c) plan.steps end) l.plan)
            (log_leaves (files_before call c) a (pair_log a l.lines));
        line = subst (λ (text : List ℕ). Puts call.sink_before call.sink_after text)
            (same_end s.line (log_line (pair_log a l.lines))
            (sym s.work.holds.0 ∙ ap (λ (plan : Plan). plan.end) l.plan)) s.put;
        theorem = theorem_holds a l.lines start;
      }

  -- at any status
  module _ (seen : IsTrue call.before.shelf.observable) (machine : Meaning) (frames : List (List ℕ)) (lines : List Line)
      (given : AreGiven c call.before.shelf machine frames lines) where
    abbrev steps : List file.Step
    steps = log_steps (start_at machine frames) (pair_log (start_at machine frames) lines)

    of_texts : (texts : List (List ℕ)) → AreRead call.before.shelf (run_reads c) texts → (made rest : List file.Step)
        (said : Said) → IsFront (replay_texts c.mib texts).steps made rest
        → Carried c.out made said call.before call.after → WroteFront c call steps
    of_texts texts are made rest said front h =
        carried c call seen steps (replay_texts c.mib texts).steps made rest said
        (steps_are c call.before.shelf machine frames lines texts seen given are) front h

    carried_out : (end : End) → IsCarriedOut (replay_task c) end call.before call.after → WroteFront c call steps
    carried_out end w =
        let all = (replay_texts c.mib w.texts).steps in
        of_texts w.texts w.are all [] w.said (front_whole all) w.holds.1.carried

    cut_by_read : IsStopped (replay_task c) fault.Read call.before call.after → WroteFront c call steps
    cut_by_read w =
        let f = w.holds in of_texts w.texts w.are f.cut.made f.rest w.said f.cut.front f.cut.carried

    cut_by_write : IsStopped (replay_task c) fault.Write call.before call.after → WroteFront c call steps
    cut_by_write w =
        let f = w.holds in of_texts w.texts w.are f.cut.made f.rest w.said f.cut.front f.cut.carried

    cut_by_memory : IsStopped (replay_task c) fault.NoMemory call.before call.after → WroteFront c call steps
    cut_by_memory w =
        let f = w.holds in of_texts w.texts w.are f.cut.made f.rest w.said f.cut.front f.cut.carried

    failed_read : FailedBy call fault.Read (replay_task c) → WroteFront c call steps
    failed_read f = by f.work
      where
        by : FailsToRead (run_reads c) call.before.shelf call.after.shelf
            ⊎ IsStopped (replay_task c) fault.Read call.before call.after → WroteFront c call steps
        by (inl r) = kept c call seen steps r.files
        by (inr w) = cut_by_read w

    failed_memory : FailedBy call fault.NoMemory (replay_task c) → WroteFront c call steps
    failed_memory f = by f.work
      where
        by : KeepsFiles call.before.shelf call.after.shelf
            ⊎ IsStopped (replay_task c) fault.NoMemory call.before call.after → WroteFront c call steps
        by (inl k) = kept c call seen steps k
        by (inr w) = cut_by_memory w

    failed_write : OfTask call (FailedBy call fault.Write) ⊎ OfTask call (LineFailed call) → WroteFront c call steps
    failed_write (inl f) = cut_by_write (of_task call (replay_task c) (FailedBy call fault.Write) is f).work
    failed_write (inr f) =
        let l = of_task call (replay_task c) (LineFailed call) is f in carried_out (done l.line) l.work

    no_task : NoTask call → WroteFront c call steps
    no_task n = absurd (never (sym is ∙ n.words))
      where
        never : Some (replay_task c) ≡ None → ⊥
        never e = cc

    by_status : (b0 b1 b6 b7 b8 : Bool)
        → MatchBool b0 (OfTask call (Succeeded call))
        (MatchBool b1 (NoTask call)
        (MatchBool b6 (OfTask call (FailedBy call fault.Read))
        (MatchBool b7 (OfTask call (FailedBy call fault.Write) ⊎ OfTask call (LineFailed call))
        (MatchBool b8 (OfTask call (FailedBy call fault.NoMemory))
        ((refusal : HeldRefusal) × (refusal.status ≡ call.status)
        × OfTask call (FailedBy call (fault.Refused refusal)))))))
        → WroteFront c call steps
    by_status true b1 b6 b7 b8 m =
        let s = of_task call (replay_task c) (Succeeded call) is m in carried_out (done s.line) s.work
    by_status false true b6 b7 b8 m = no_task m
    by_status false false true b7 b8 m = failed_read (of_task call (replay_task c) (FailedBy call fault.Read) is m)
    by_status false false false true b8 m = failed_write m
    by_status false false false false true m =
        failed_memory (of_task call (replay_task c) (FailedBy call fault.NoMemory) is m)
    by_status false false false false false (refusal, own, m) =
        let f = of_task call (replay_task c) (FailedBy call (fault.Refused refusal)) is m in
        carried_out (refused (refusal_of refusal)) f.work.1

    front : Means call call.status → WroteFront c call steps
    front m =
        by_status (call.status == 0) (call.status == 1) (call.status == 6) (call.status == 7) (call.status == 8) m

-- THE HEADLINE
pub each_replay_is_one_pair : MachinesStart → EachReplayIsOnePair
each_replay_is_one_pair machines words call task ends c e =
    let is : call.task ≡ Some (replay_task c) = task ∙ ap (λ (o : Option Command). option_map task_of o) e in
    record {
      whole = λ zero. ran machines c call is
          (of_task call (replay_task c) (Succeeded call) is (subst (λ (s : ℕ). Means call s) zero ends.means));
      front = λ machine frames lines seen given. front machines c call is seen machine frames lines given ends.means;
    }
