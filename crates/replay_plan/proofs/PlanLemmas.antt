-- From the four texts of a replay to the plan of its log.
use Rattle.std.proofs.Common.{◌≡◌, ℕ, Bool, true, List, [], Result, Ok, Err, IfErr, IfOk, OnOk, String, Vec, ap, get_or, length, refl, string_bytes, subst, sym, ◌∙◌, if◌then◌else◌}
use Rattle.std.specs.List.{list_all}
use Rattle.std.specs.declared.alloc.Global.{Global}
use Rattle.colo_base.specs.Shelf.{ShelfState}
use Rattle.command_inputs.specs.Machine.{read_machine}
use Rattle.command_inputs.specs.Start as inputs
use Rattle.command_inputs.specs.Start.{read_start}
use Rattle.command_inputs.specs.Texts.{read_schedule}
use Rattle.command_inputs.proofs.StartLemmas.{start_first}
use Rattle.file_steps.specs.declared.fault.Fault.{Fault}
use Rattle.file_steps.specs.Plans.{Refusal, done, waits}
use Rattle.file_steps.specs.ReadBytes.{texts_of}
use Rattle.file_steps.specs.Steps.{FailsToWrite, Writes}
use Rattle.replay_log.specs.declared.lines.Line.{Line}
use Rattle.shared_definitions.specs.Bytes.{AreBytes}
use Rattle.command_plans.specs.Planning.{PlanCompletes, PlanFails, of_four, refusal_plan}
use Rattle.command_plans.proofs.CarryLemmas.{of_four_is, steps_fail}
use Rattle.pair_core.specs.Pair.{Pair}
use Rattle.pair_theorem.specs.History.{pair_log}
use Rattle.pair_theorem.specs.Past.{Start}
use Rattle.pair_theorem.specs.Starts.{IsStart}
use Rattle.pair_world.specs.Running.{StandsForStart}
use Rattle.replay_plan.specs.LogPlan.{log_line, log_plan, log_steps}
use Rattle.replay_plan.specs.ReplayPlan.{are_bytes, replay_plan, replay_texts, start_with}
use Rattle.replay_plan.specs.Running.{OfItsStart}
use Rattle.replay_plan.proofs.ByteTests.{texts_are}

-- ---- what is read

module _ (mib : ℕ) (image disk client lines : List ℕ) where
  pub replay_first : (refusal : Refusal) → read_start mib image disk client ≡ Err refusal
      → replay_plan mib image disk client lines ≡ refusal_plan refusal
  unfolding replay_plan
  replay_first refusal e = rw e refl

  pub replay_machine : (refusal : Refusal) → read_machine mib image disk ≡ Err refusal
      → replay_plan mib image disk client lines ≡ refusal_plan refusal
  replay_machine refusal e = replay_first refusal (start_first mib image disk client refusal e)

  pub replay_second : (start : inputs.Start) (refusal : Refusal) → read_start mib image disk client ≡ Ok start
      → read_schedule lines ≡ Err refusal → replay_plan mib image disk client lines ≡ refusal_plan refusal
  unfolding replay_plan
  replay_second start refusal s e = rw (s, e) refl

  pub replay_whole : (start : inputs.Start) (schedule : List Line) → read_start mib image disk client ≡ Ok start
      → read_schedule lines ≡ Ok schedule
      → replay_plan mib image disk client lines ≡ log_plan (start_with start) schedule
  unfolding replay_plan
  replay_whole start schedule s e = rw (s, e) refl

-- the plan of four files of bytes
replay_is : (mib : ℕ) (files : List (Vec ℕ Global)) (a b c d : Vec ℕ Global) → length files ≡ 4
    → a ≡ get_or files 0 a → b ≡ get_or files 1 b → c ≡ get_or files 2 c → d ≡ get_or files 3 d
    → (image disk client lines : List ℕ) → image ≡ a.items → disk ≡ b.items → client ≡ c.items → lines ≡ d.items
    → list_all are_bytes (texts_of files) ≡ true
    → replay_texts mib (texts_of files) ≡ replay_plan mib image disk client lines
replay_is mib files a b c d all at0 at1 at2 at3 image disk client lines e0 e1 e2 e3 bytes =
    ap (λ (t : Bool). if t then of_four (replay_plan mib) (texts_of files) else record { steps = []; end = waits })
    bytes
    ∙ of_four_is (replay_plan mib) files a b c d all at0 at1 at2 at3 image disk client lines e0 e1 e2 e3

-- the same where the files were looked at again
pub plan_is : (mib : ℕ) (files : List (Vec ℕ Global)) (a b c d : Vec ℕ Global) → length files ≡ 4
    → a ≡ get_or files 0 a → b ≡ get_or files 1 b → c ≡ get_or files 2 c → d ≡ get_or files 3 d
    → (i j k l : List ℕ) → i ≡ a.items → j ≡ b.items → k ≡ c.items → l ≡ d.items
    → AreBytes i → AreBytes j → AreBytes k → AreBytes l
    → (image disk client lines : List ℕ) → image ≡ a.items → disk ≡ b.items → client ≡ c.items → lines ≡ d.items
    → replay_texts mib (texts_of files) ≡ replay_plan mib image disk client lines
plan_is mib files a b c d all at0 at1 at2 at3 i j k l f0 f1 f2 f3 h0 h1 h2 h3 image disk client lines e0 e1 e2 e3 =
    replay_is mib files a b c d all at0 at1 at2 at3 image disk client lines e0 e1 e2 e3
    (texts_are files a b c d all at0 at1 at2 at3 (subst AreBytes f0 h0) (subst AreBytes f1 h1) (subst AreBytes f2 h2)
    (subst AreBytes f3 h3))

-- ---- the run

module _ (w : Pair) (a : Start) (is : IsStart a) (stands : StandsForStart a w) (lines : List Line) (out : List ℕ)
    (s0 s1 : ShelfState) where
  pub run_done : (r : Result (String Global) Fault)
      → IfOk r (λ line. OfItsStart w (λ a. string_bytes line ≡ log_line (pair_log a lines)))
      → OnOk r (OfItsStart w (λ a. Writes out (log_steps a (pair_log a lines)) s0 s1))
      → IfOk r (λ line. PlanCompletes out (log_plan a lines) s0 s1 (string_bytes line))
  run_done (Ok line) said wrote =
      record { end = ap done (sym (said a is stands)); steps = wrote a is stands }
  run_done (Err fault) said wrote = tt

  pub run_fails : (r : Result (String Global) Fault)
      → IfErr r (λ fault. OfItsStart w (λ a. FailsToWrite out (log_steps a (pair_log a lines)) s0 s1 fault))
      → IfErr r (PlanFails out (log_plan a lines) s0 s1)
  run_fails (Ok line) fails = tt
  run_fails (Err fault) fails = steps_fail out (log_plan a lines) s0 s1 fault (fails a is stands)
