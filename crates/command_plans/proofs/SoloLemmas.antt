-- From how the turns of a single run ended to the plan of `solo`.
use Rattle.std.proofs.Common.{◌≡◌, ℕ, ◌+◌, true, false, List, [], ◌∷◌, ◌++◌, length, Some, None, Result, Ok, Err, IfOk, refl, sym, ap, subst, ◌∙◌, arith, codes}
use Rattle.std.proofs.lemmas.Bool.{and_parts}
use Rattle.command_inputs.specs.Reading.{line_refusal}
use Rattle.command_inputs.specs.Start.{Start, read_start}
use Rattle.command_inputs.specs.Texts.{read_single}
use Rattle.file_steps.specs.Plans.{Plan, Refusal, done, refused}
use Rattle.file_steps.specs.Status.{refusal_of}
use Rattle.file_steps.specs.Steps.{append_step, creates}
use Rattle.file_steps.specs.declared.fault.Fault.{Fault}
use Rattle.sock_link.specs.Stream.{stream_of}
use Rattle.file_steps.specs.declared.fault.Refusal.{Refusal as HeldRefusal}
use Rattle.replay_log.specs.declared.turns.Turn.{Turn}
use Rattle.splice_run.specs.Runs.{run_given, run_turns}
use Rattle.splice_run.specs.Solo.{HasMade, Sender, Stops, StopsAt, can_make, can_make_all, run_of, sender}
use Rattle.splice_run.specs.declared.solo_run.SoloFault.{SoloFault}
use Rattle.splice_run.specs.declared.solo_run.SoloFault.TheVariants.{NoFrame}
use Rattle.state_wire.specs.Guest.{GuestState, Kind, Meaning}
use Rattle.state_wire.specs.Run.{Run}
use Rattle.command_plans.specs.Planning.{refusal_plan}
use Rattle.command_plans.specs.Replay.{state_steps}
use Rattle.command_plans.specs.SoloEnds.{ended_plan}
use Rattle.command_plans.specs.declared.solo.RunEnd.{RunEnd}
use Rattle.command_plans.specs.Solo.{end_plan, made_line, run_plan, solo_files, solo_plan, start_of, stop_from}

-- ---- where a run stops

stop_none : (number : ℕ) (kind : Kind) (stream : List (List ℕ)) (run : Run) (turns : List Turn)
    → can_make_all kind stream run turns ≡ true → stop_from number kind stream run turns ≡ None
stop_none number kind stream run [] all = refl
stop_none number kind stream run (t ∷ turns) all =
    let both = and_parts (can_make kind stream run t)
    (can_make_all kind stream (run_given kind stream run t) turns) all in
    rw both.0 (stop_none (number + 1) kind stream (run_given kind stream run t) turns both.1)

stop_some : (number : ℕ) (kind : Kind) (stream : List (List ℕ)) (run : Run) (before later : List Turn) (t : Turn)
    → can_make_all kind stream run before ≡ true → can_make kind stream (run_turns kind stream run before) t ≡ false
    → stop_from number kind stream run (before ++ (t ∷ later)) ≡ Some (number + length before)
unfolding run_turns
stop_some number kind stream run [] later t all stops =
    let same : number ≡ number + 0 = omega arith in
    rw stops (ap (λ (n : ℕ). Some n) same)
stop_some number kind stream run (u ∷ before) later t all stops =
    let both = and_parts (can_make kind stream run u)
    (can_make_all kind stream (run_given kind stream run u) before) all in
    let same : number + 1 + length before ≡ number + length (u ∷ before) = omega arith in
    rw both.0
    (stop_some (number + 1) kind stream (run_given kind stream run u) before later t both.1 stops
    ∙ ap (λ (n : ℕ). Some n) same)

-- ---- plans

pub run_made : (machine last : Meaning) (frames sent : List (List ℕ)) (turns : List Turn)
    → HasMade frames (sender machine []) (sender last sent) turns
    → run_plan machine frames turns ≡ end_plan None turns (record { state = last.state; sent = sent })
run_made machine last frames sent turns made =
    rw (stop_none 1 machine.kind frames (start_of machine) turns made.each)
    (ap (λ (run : Run). end_plan None turns run) (sym made.run))

stops_at : (machine : Meaning) (last : Sender) (frames : List (List ℕ)) (turns : List Turn) (number : ℕ)
    → StopsAt frames (sender machine []) last turns number
    → stop_from 1 machine.kind frames (start_of machine) turns ≡ Some number
stops_at machine last frames turns number s =
    let K : Kind → Type 0 = λ kind. can_make kind frames (run_of last) s.turn ≡ false in
    let R : Run → Type 0 = λ run. can_make machine.kind frames run s.turn ≡ false in
    let run = run_turns machine.kind frames (start_of machine) s.before in
    let stops : can_make machine.kind frames run s.turn ≡ false =
    subst R s.made.run (subst K s.made.kind s.stops) in
    let same : 1 + length s.before ≡ number = omega (arith, s.numbered) in
    ap (λ (ts : List Turn). stop_from 1 machine.kind frames (start_of machine) ts) s.place
    ∙ (stop_some 1 machine.kind frames (start_of machine) s.before s.later s.turn s.made.each stops
    ∙ ap (λ (n : ℕ). Some n) same)

pub run_stopped : (machine : Meaning) (last : Sender) (frames : List (List ℕ)) (turns : List Turn) (fault : SoloFault)
    (number : ℕ) (held : HeldRefusal) → fault ≡ NoFrame number → Stops frames (sender machine []) last turns fault
    → refusal_of held ≡ line_refusal number
    → run_plan machine frames turns ≡ record { steps = creates solo_files; end = refused (refusal_of held) }
run_stopped machine last frames turns fault number held is stops line =
    let F : SoloFault → Type 0 = λ f. Stops frames (sender machine []) last turns f in
    rw (stops_at machine last frames turns number (subst F is stops))
    (ap (λ (r : Refusal). (let p : Plan = record { steps = creates solo_files; end = refused r } in p)) (sym line))

-- how the code holds the end of a run whose turns were all made
pub end_made : (state : GuestState) (sent : List (List ℕ)) (turns : List Turn) (bytes line : List ℕ)
    → bytes ≡ stream_of sent → line ≡ made_line (length turns) (length sent)
    → (let p : Plan = record {
      steps = creates solo_files ++ (append_step (codes ".sent") bytes ++ state_steps state);
      end = done line;
    } in p ≡ end_plan None turns (record { state = state; sent = sent }))
end_made state sent turns bytes line bytes_are line_is = rw (bytes_are, line_is) refl

-- the end of a run that was made, where memory sufficed
pub run_ends : (r : Result RunEnd Fault) (machine last : Meaning) (frames sent : List (List ℕ)) (turns : List Turn)
    → HasMade frames (sender machine []) (sender last sent) turns
    → IfOk r (λ end. (state : GuestState)
    → ended_plan state end ≡ end_plan None turns (record { state = state; sent = sent }))
    → IfOk r (λ end. run_plan machine frames turns ≡ ended_plan last.state end)
run_ends (Ok end) machine last frames sent turns made same =
    run_made machine last frames sent turns made ∙ sym (same last.state)
run_ends (Err fault) machine last frames sent turns made same = tt

-- ---- from the texts

pub solo_first : (mib : ℕ) (image disk client lines : List ℕ) (refusal : Refusal)
    → read_start mib image disk client ≡ Err refusal → solo_plan mib image disk client lines ≡ refusal_plan refusal
unfolding solo_plan
solo_first mib image disk client lines refusal e = rw e refl

pub solo_second : (mib : ℕ) (image disk client lines : List ℕ) (start : Start) (refusal : Refusal)
    → read_start mib image disk client ≡ Ok start → read_single lines ≡ Err refusal
    → solo_plan mib image disk client lines ≡ refusal_plan refusal
unfolding solo_plan
solo_second mib image disk client lines start refusal s e = rw (s, e) refl

pub solo_whole : (mib : ℕ) (image disk client lines : List ℕ) (start : Start) (turns : List Turn)
    → read_start mib image disk client ≡ Ok start → read_single lines ≡ Ok turns
    → solo_plan mib image disk client lines ≡ run_plan start.machine start.frames turns
unfolding solo_plan
solo_whole mib image disk client lines start turns s e = rw (s, e) refl
