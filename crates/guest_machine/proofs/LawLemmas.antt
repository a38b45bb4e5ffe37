-- A turn in two turns, and in a turn for each of its steps.
use Rattle.std.proofs.Common.{◌≡◌, ℕ, zero, suc, ◌+◌, ◌%◌, ◌^◌, Option, Some, None, List, ◌++◌, refl, sym, ap, ◌∙◌, arith, add-one}
use Rattle.state_wire.specs.Guest.{GuestTurn}
use Rattle.rv_platform.specs.Devices.{advance_clock, receive_frame, serve_block}
use Rattle.rv_platform.specs.Step.{PlatformState, Step}
use Rattle.rv_platform.proofs.TimeLemmas.{run_split, run_time, time}
use Rattle.guest_machine.specs.Laws.{StepsAreTurns, StepsSplit, steps_alone, then_single_steps, then_turn}
use Rattle.guest_machine.specs.Turn.{State, Turned, finish_turn, make_turn, receive, serve_requests, start_turn}

-- ---- what comes before the steps

receive_time : (p : PlatformState) (frame : Option (List ℕ)) → time (receive p frame) ≡ time p
unfolding receive_frame
receive_time p None = refl
receive_time p (Some frame) = refl

serve_time : (n : ℕ) (s : State) → time (serve_requests n s).platform ≡ time s.platform
unfolding serve_requests serve_block
serve_time zero s = refl
serve_time (suc n) s = serve_time n s

start_time : (s : State) (ticks : ℕ) (frame : Option (List ℕ)) (requests : ℕ)
    → time (start_turn s ticks frame requests).platform ≡ (time s.platform + ticks) % 2 ^ 64
start_time s ticks frame requests =
    serve_time requests _ ∙ receive_time (advance_clock s.platform ticks) frame

turn_time : (s : State) (turn : GuestTurn)
    → time (make_turn s turn).state.platform ≡ (time s.platform + turn.ticks) % 2 ^ 64
unfolding make_turn
turn_time s turn = let before = start_turn s turn.ticks turn.frame turn.requests in
    run_time turn.steps before.platform ∙ start_time s turn.ticks turn.frame turn.requests

-- a clock that stands
same_time : (a b : ℕ) → a ≡ b % 2 ^ 64 → (a + 0) % 2 ^ 64 ≡ a
same_time a b e = omega (arith, e)

abbrev at_time : State → ℕ → State
at_time s t = record s { platform = record s.platform { csrs = record s.platform.csrs { mtime = t } } }

nothing_before : (s : State) (t : ℕ) → time s.platform ≡ t % 2 ^ 64 → start_turn s 0 None 0 ≡ s
unfolding serve_requests
nothing_before s t e = ap (at_time s) (same_time (time s.platform) t e)

-- ---- the laws

pub steps_split : StepsSplit
unfolding make_turn
steps_split s turn more =
    let before = start_turn s turn.ticks turn.frame turn.requests in
    let first = make_turn s turn in
    let of : Step → Turned =
    λ ran. record { state = record before { platform = ran.platform }; frames = ran.frames } in
    let after : State → Turned = λ t. let next = finish_turn t more in
    record { state = next.state; frames = first.frames ++ next.frames } in
    ap of (run_split turn.steps more before.platform)
    ∙ ap after (sym (nothing_before first.state (time s.platform + turn.ticks) (turn_time s turn)))

abbrev with_steps : GuestTurn → ℕ → GuestTurn
with_steps turn n = record turn { steps = n }

single_steps : (n : ℕ) (s : State) (turn : GuestTurn)
    → make_turn s (with_steps turn n) ≡ then_single_steps n (make_turn s (with_steps turn 0))
unfolding then_single_steps
single_steps zero s turn = refl
single_steps (suc n) s turn =
    ap (λ k. make_turn s (with_steps turn k)) (sym (add-one n))
    ∙ (steps_split s (with_steps turn n) 1 ∙ ap (λ t. then_turn t (steps_alone 1)) (single_steps n s turn))

pub steps_are_turns_lem : StepsAreTurns
steps_are_turns_lem s turn = single_steps turn.steps s turn
