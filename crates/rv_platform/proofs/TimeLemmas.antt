-- Steps in two parts, and steps leave the time to the clock.
use Rattle.std.proofs.Common.{◌≡◌, ℕ, zero, suc, ◌+◌, Bool, true, false, Option, Some, None, ◌++◌, refl, sym, ap, ◌∙◌, append_assoc, append-nil, arith, add-zero}
use Rattle.rv_core.specs.Effect.{effect}
use Rattle.rv_core.specs.Reach.{ExecutionResult}
use Rattle.rv_core.specs.declared.registers.Outcome.{Outcome}
use Rattle.rv_core.specs.declared.registers.Outcome.TheVariants.{Next, Trap}
use Rattle.rv_core.proofs.EffectLemmas.{effect_keeps_lines}
use Rattle.rv_isa.specs.Table.{decode}
use Rattle.rv_isa.specs.declared.instr.Instr.{Instr}
use Rattle.rv_traps.specs.Trap.{enter_trap, pending_interrupt}
use Rattle.rv_platform.specs.Bus.{board_acts, board_fetched}
use Rattle.rv_platform.specs.Step.{PlatformState, Step, board_of, csrs_of, decode_step, enter_by, execute_step, fetch_step, finish_execution, platform_with, run_steps, send_frames, serve_notify, step, step_from, take_trap, then_step}
use Rattle.rv_platform.specs.declared.board.Board.{Board}

abbrev pub joined : Step → Step → Step
joined before next = record { platform = next.platform; frames = before.frames ++ next.frames }

joined_then : (a b : Step) → joined a (then_step b) ≡ then_step (joined a b)
joined_then a b = ap (λ frames. let s : Step = record { platform = (step b.platform).platform; frames = frames } in s)
    (sym (append_assoc a.frames b.frames (step b.platform).frames))

pub run_split : (m n : ℕ) (p : PlatformState)
    → run_steps (m + n) p ≡ joined (run_steps m p) (run_steps n (run_steps m p).platform)
unfolding run_steps
run_split m zero p =
    ap (λ k. run_steps k p) (add-zero m)
    ∙ ap (λ frames. let s : Step = record { platform = (run_steps m p).platform; frames = frames } in s)
    (sym (append-nil (run_steps m p).frames))
run_split m (suc n) p =
    let next : m + suc n ≡ suc (m + n) = omega arith in
    ap (λ k. run_steps k p) next
    ∙ (ap then_step (run_split m n p) ∙ sym (joined_then (run_steps m p) (run_steps n (run_steps m p).platform)))

-- ---- steps leave the time to the clock

abbrev pub time : PlatformState → ℕ
time p = p.csrs.mtime

trap_time : (p : PlatformState) (cause value : ℕ) → time (take_trap p cause value) ≡ time p
unfolding enter_trap
trap_time p cause value = refl

outcome_time : (o : Outcome) (p : PlatformState) → time (enter_by o p) ≡ time p
outcome_time Next p = refl
outcome_time (Trap cause value) p = trap_time p cause value

notify_time : (notified : Bool) (p : PlatformState) → time (serve_notify notified p).platform ≡ time p
unfolding send_frames
notify_time true p = refl
notify_time false p = refl

finish_time : (a : ExecutionResult Board) → time (finish_execution a).platform ≡ a.csrs.mtime
finish_time a = let p = platform_with a.hart a.csrs a.bus in
    outcome_time a.outcome (serve_notify a.bus.notified p).platform ∙ notify_time a.bus.notified p

execute_time : (p : PlatformState) (word : ℕ) (i : Instr) → time (execute_step p word i).platform ≡ time p
unfolding execute_step
execute_time p word i =
    finish_time (effect board_acts p.hart (csrs_of p) (board_of p) word i)
    ∙ (effect_keeps_lines board_acts p.hart (csrs_of p) (board_of p) word i).mtime

decode_time : (p : PlatformState) (word : ℕ) (i : Option Instr) → time (decode_step p word i).platform ≡ time p
decode_time p word None = trap_time p _ word
decode_time p word (Some i) = execute_time p word i

fetch_time : (p : PlatformState) (word : Option ℕ) → time (fetch_step p word).platform ≡ time p
fetch_time p None = trap_time p _ p.hart.pc
fetch_time p (Some word) = decode_time p word (decode word)

from_time : (p : PlatformState) (cause : Option ℕ) → time (step_from p cause).platform ≡ time p
from_time p (Some cause) = trap_time p cause 0
from_time p None = fetch_time p (board_fetched (board_of p) p.hart.pc)

step_time : (p : PlatformState) → time (step p).platform ≡ time p
unfolding step
step_time p = from_time p (pending_interrupt (csrs_of p))

pub run_time : (n : ℕ) (p : PlatformState) → time (run_steps n p).platform ≡ time p
unfolding run_steps
run_time zero p = refl
run_time (suc n) p = step_time (run_steps n p).platform ∙ run_time n p
