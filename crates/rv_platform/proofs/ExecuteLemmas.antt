-- What the parts of a platform hold after an instruction, and what the platform is then.
use Rattle.std.proofs.Common.{◌≡◌, ◌≢◌, ℕ, Bool, false, List, [], refl, sym, ap, subst, ◌∙◌}
use Rattle.rv_core.specs.Effect.{effect}
use Rattle.rv_core.specs.Reach.{ExecutionResult, execution_result}
use Rattle.rv_core.specs.Registers.{Regs}
use Rattle.rv_core.specs.Stores.{IsOneStore}
use Rattle.rv_core.specs.declared.registers.Outcome.{Outcome}
use Rattle.rv_isa.specs.declared.instr.Instr.{Instr}
use Rattle.rv_traps.specs.CsrState.{CsrState, KeepsLines}
use Rattle.rv_traps.specs.Fields.{fields_of, state_of}
use Rattle.rv_platform.specs.Bus.{board_acts}
use Rattle.rv_platform.specs.Settled.{IsSettled, KeepsKinds, Leaves, platform_of}
use Rattle.rv_platform.specs.Step.{PlatformState, Step, board_of, csrs_of, enter_by, execute_step, finish_execution, is_raised, platform_with, quiet, serve_notify}
use Rattle.rv_platform.specs.declared.board.Board.{Board}
use Rattle.rv_platform.specs.declared.clint.Clint.{Clint}
use Rattle.rv_platform.specs.declared.parts.Parts.{Parts}
use Rattle.rv_platform.proofs.BoardLemmas.{untouched, board_kept}
use Rattle.rv_platform.proofs.StepLemmas.{left_quiet}

-- settled parts are those of their platform
pub settled_csrs : (p : Parts) → IsSettled p → csrs_of (platform_of p) ≡ p.csrs
settled_csrs p s = ap (state_of (fields_of p.csrs)) (sym s.external)

pub settled_board : (p : Parts) → IsSettled p → board_of (platform_of p) ≡ p.board
settled_board p s =
    let b = p.board in
    let by_clint : Clint → Board = λ c. record {
      ram = b.ram;
      clint = c;
      net = b.net;
      blk = b.blk;
      touched = false;
      notified = false;
    } in
    let by_touched : Bool → Board = λ t. record b { touched = t; notified = false } in
    let by_notified : Bool → Board = λ n. record b { notified = n } in
    ap by_clint (sym s.clint) ∙ (ap by_touched (sym s.touched) ∙ ap by_notified (sym s.notified))

-- the effect on settled parts is a step of their platform
execution_is : (p : Parts) (s : IsSettled p) (a : ExecutionResult Board) (w : ℕ) (i : Instr)
    → a ≡ effect board_acts p.hart p.csrs p.board w i → execute_step (platform_of p) w i ≡ finish_execution a
unfolding execute_step
execution_is p s a w i e =
    let by_csrs : CsrState → Step =
    λ c. finish_execution (effect board_acts p.hart c (board_of (platform_of p)) w i) in
    let by_board : Board → Step = λ b. finish_execution (effect board_acts p.hart p.csrs b w i) in
    ap by_csrs (settled_csrs p s) ∙ (ap by_board (settled_board p s) ∙ ap finish_execution (sym e))

pub left_execution : (p : Parts) (s : IsSettled p) (o : Outcome) (h : Regs) (c : CsrState) (b : Board) (w : ℕ)
    (i : Instr) → execution_result o h c b ≡ effect board_acts p.hart p.csrs p.board w i
    → (mid new : PlatformState) (before after : List (List ℕ))
    → Leaves (serve_notify b.notified (platform_with h c b)) mid before after → new ≡ enter_by o mid
    → Leaves (execute_step (platform_of p) w i) new before after
left_execution p s o h c b w i e mid new before after left is =
    let step = execution_is p s (execution_result o h c b) w i e in
    subst (λ z. Leaves z new before after) (sym step) (record {
      platform_is = is ∙ ap (enter_by o) left.platform_is;
      frames_are = left.frames_are;
    })

-- what the notify of an instruction sends, its step sends
pub sends_execution : (p : Parts) (s : IsSettled p) (o : Outcome) (h : Regs) (c : CsrState) (b : Board) (w : ℕ)
    (i : Instr) → execution_result o h c b ≡ effect board_acts p.hart p.csrs p.board w i
    → (serve_notify b.notified (platform_with h c b)).frames ≢ [] → (execute_step (platform_of p) w i).frames ≢ []
sends_execution p s o h c b w i e some none =
    let step = execution_is p s (execution_result o h c b) w i e in
    some (sym (ap (λ (x : Step). x.frames) step) ∙ none)

-- where no register was touched, the parts are settled
pub still_settled : (p : Parts) (h : Regs) (c : CsrState) (b : Board) → IsSettled p → KeepsLines p.csrs c
    → IsOneStore board_acts p.board b → b.touched ≡ false
    → IsSettled (let q : Parts = record { hart = h; csrs = c; board = b; memo = tt } in q)
still_settled p h c b s lines one t =
    let k = untouched p.board b one s.touched t in
    let by_msip : Bool → Clint =
    λ m. record { msip = m; mtimecmp = p.csrs.mtimecmp; mtime = p.csrs.mtime } in
    let by_mtimecmp : ℕ → Clint = λ m. record { msip = c.msip; mtimecmp = m; mtime = p.csrs.mtime } in
    let by_mtime : ℕ → Clint = λ m. record { msip = c.msip; mtimecmp = c.mtimecmp; mtime = m } in
    record {
      external = lines.external ∙ (s.external ∙ (ap (λ n. is_raised n p.board.blk) (sym k.net)
          ∙ ap (is_raised b.net) (sym k.blk)));
      clint = k.clint ∙ (s.clint ∙ (ap by_msip (sym lines.msip) ∙ (ap by_mtimecmp (sym lines.mtimecmp)
          ∙ ap by_mtime (sym lines.mtime))));
      touched = t;
      notified = k.notified ∙ s.notified;
    }

-- and nothing has to be taken over
pub left_untouched : (p : Parts) (out : List (List ℕ)) → IsSettled p
    → Leaves (serve_notify p.board.notified (platform_with p.hart p.csrs p.board)) (platform_of p) out out
left_untouched p out s =
    let by_notified : Bool → Step = λ n. serve_notify n (platform_with p.hart p.csrs p.board) in
    let by_clint : Clint → PlatformState = λ c. platform_with p.hart p.csrs (record p.board { clint = c }) in
    let step : serve_notify p.board.notified (platform_with p.hart p.csrs p.board) ≡ quiet (platform_of p) =
    ap by_notified s.notified ∙ ap (λ x. quiet (by_clint x)) s.clint in
    subst (λ z. Leaves z (platform_of p) out out) (sym step) (left_quiet (platform_of p) (platform_of p) out refl)

-- the bus has the time of the CSRs
pub same_time : (p : Parts) (c : CsrState) (b : Board) → IsSettled p → KeepsLines p.csrs c
    → IsOneStore board_acts p.board b → b.clint.mtime ≡ c.mtime
same_time p c b s lines one =
    (board_kept p.board b one).time ∙ (ap (λ (x : Clint). x.mtime) s.clint ∙ sym lines.mtime)

-- the kinds are kept
pub kinds_executed : (p : Parts) (h : Regs) (c : CsrState) (b : Board) → IsOneStore board_acts p.board b
    → KeepsKinds (platform_of p) (platform_of (let q : Parts = record { hart = h; csrs = c; board = b; memo = tt }
    in q))
kinds_executed p h c b one =
    let k = board_kept p.board b one in record { net = k.net; blk = k.blk; memory = k.memory }
