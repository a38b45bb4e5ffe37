-- Both machines are in one state, and no line of a schedule is refused.
use Rattle.std.proofs.Common.{◌≡◌, ℕ, List, All, Result, Ok, Err, ap, refl, subst, sym, ◌∙◌}
use Rattle.command_inputs.specs.Client.{read_client}
use Rattle.command_inputs.specs.Machine.{read_machine}
use Rattle.command_inputs.specs.Reading.{and_then}
use Rattle.command_inputs.specs.Start.{Start, read_start}
use Rattle.command_inputs.specs.Texts.{read_schedule}
use Rattle.command_inputs.proofs.TextLemmas.{schedules_lem}
use Rattle.file_steps.specs.Plans.{Refusal}
use Rattle.pair_core.specs.Pair.{Pair, new_pair}
use Rattle.pair_core.specs.Steps.{HasLimits}
use Rattle.replay_log.specs.declared.lines.Line.{Line}
use Rattle.state_wire.specs.Guest.{Meaning}
use Rattle.command_plans.specs.Replay.{AreEvents}
use Rattle.pair_history.proofs.LogLemmas.{begins_at_boot}
use Rattle.pair_world.specs.Running.{StandsForStart, start_of}
use Rattle.replay_plan.specs.ReplayPlan.{pair_with}
use Rattle.replay_plan.proofs.LimitLemmas.{lines_in_limits}
use Rattle.replay_plan.proofs.OrderLemmas.{schedule_is_events}

-- both machines are in one state
same_ok : {A : Type 0} (x y : A) → (let r : Result A Refusal = Ok x in r ≡ Ok y) → x ≡ y
same_ok x y e = cc

abbrev starts : Result (List (List ℕ)) Refusal → Meaning → Result Start Refusal
starts client machine = and_then client (λ frames. Ok (record { machine = machine; frames = frames }))

pub same_machine : (mib : ℕ) (image disk client : List ℕ) (first second : Meaning) (frames : List (List ℕ))
    → read_start mib image disk client ≡ Ok (record { machine = first; frames = frames })
    → read_machine mib image disk ≡ Ok second → second ≡ first
unfolding read_start
same_machine mib image disk client first second frames start e =
    by (read_client client)
    (ap (λ (r : Result Meaning Refusal). and_then r (λ m. starts (read_client client) m)) (sym e) ∙ start)
  where
    by : (c : Result (List (List ℕ)) Refusal) → starts c second ≡ Ok (record { machine = first; frames = frames })
        → second ≡ first
    by (Ok fs) h =
        ap (λ (s : Start). s.machine)
        (same_ok (record { machine = second; frames = fs }) (record { machine = first; frames = frames }) h)
    by (Err r) h = let f : starts (Err r) second ≡ Ok (record { machine = first; frames = frames }) = h in cc

-- also where the image and the disk were looked at again
pub same_again : (mib : ℕ) (image disk client : List ℕ) (first second : Meaning) (frames : List (List ℕ))
    (i d a b : List ℕ) → image ≡ a → i ≡ a → disk ≡ b → d ≡ b
    → read_start mib image disk client ≡ Ok (record { machine = first; frames = frames })
    → read_machine mib i d ≡ Ok second → second ≡ first
same_again mib image disk client first second frames i d a b p q r s start e =
    let both : read_machine mib image disk ≡ Ok second = rw (p, r) (rw (q, s) at e) in
    same_machine mib image disk client first second frames start both

-- the lines run
pub limits_there : (text : List ℕ) (lines : List Line) → read_schedule text ≡ Ok lines → All HasLimits lines
limits_there text lines e = lines_in_limits lines text ((schedules_lem text lines).0 e)

pub events_there : (text : List ℕ) (lines : List Line) (machine : Meaning) (frames : List (List ℕ))
    → read_schedule text ≡ Ok lines → AreEvents (pair_with machine frames) lines
events_there text lines machine frames e =
    schedule_is_events text lines (pair_with machine frames) refl refl ((schedules_lem text lines).0 e)

-- ---- the pair

-- a pair of two machines of one state
pub pair_same : (w : Pair) (first second : Meaning) (frames : List (List ℕ)) → second ≡ first
    → w ≡ record (new_pair first second) { frames = frames } → w ≡ pair_with first frames
pair_same w first second frames same is =
    is ∙ ap (λ (m : Meaning). record (new_pair first m) { frames = frames }) same

-- and it stands for their start
pub stands_there : (w : Pair) (first second : Meaning) (frames : List (List ℕ)) → second ≡ first
    → w ≡ record (new_pair first second) { frames = frames } → StandsForStart (start_of first first frames) w
stands_there w first second frames same is =
    subst (λ (v : Pair). StandsForStart (start_of first first frames) v) (sym (pair_same w first second frames same is))
    (begins_at_boot first.kind frames first.state first.turned first.turned)
