-- The platform: the hart with its CSRs, memory and the devices. What one step does, and what so
-- many do, with the frames that are sent.
use Rattle.std.specs.Prelude.{ℕ, zero, suc, ◌==◌, Bool, false, not, ◌||◌, if◌then◌else◌, Option, Some, None, List, [], ◌++◌}
use Rattle.page_track.specs.Memory.{Memory}
use Rattle.rv_isa.specs.Table.{decode}
use Rattle.rv_isa.specs.declared.instr.Instr.{Instr}
use Rattle.rv_traps.specs.Cause.{illegal_instruction, instruction_access_fault}
use Rattle.rv_traps.specs.CsrState.{CsrState}
use Rattle.rv_traps.specs.Fields.{fields_of, state_of}
use Rattle.rv_traps.specs.Trap.{pending_interrupt, enter_trap, trap_handler, count_step}
use Rattle.rv_traps.specs.declared.fields.CsrFields.{CsrFields}
use Rattle.rv_core.specs.Registers.{Regs, unreserve}
use Rattle.rv_core.specs.Reach.{ExecutionResult}
use Rattle.rv_core.specs.Effect.{effect}
use Rattle.rv_core.specs.declared.registers.Outcome.{Outcome}
use Rattle.rv_core.specs.declared.registers.Outcome.TheVariants.{Next, Trap}
use Rattle.virtio_mmio.specs.Device.{Device}
use Rattle.virtio_mmio.specs.declared.kind.Served.{Served}
use Rattle.virtio_mmio.specs.declared.kind.Served.TheVariants.{Done, Idle, Broken}
use Rattle.virtio_net.specs.Port.{Card, port_of}
use Rattle.virtio_net.specs.Send.{send}
use Rattle.rv_platform.specs.Bus.{board_acts, board_fetched}
use Rattle.rv_platform.specs.declared.board.Board.{Board}
use Rattle.rv_platform.specs.declared.clint.Clint.{Clint}

-- the registers of the hart; the CSRs with the timer, whose line of the devices follows from these;
-- the network card with its neighbour; the block device; memory
pub record PlatformState : Type 0 where
  pub hart : Regs
  pub csrs : CsrFields
  pub net : Card
  pub blk : Device
  pub memory : Memory

-- ---- interrupts: the devices share one line (RISC-V privileged, 3.1.9)

abbrev pub asks_interrupt : Device → Bool
asks_interrupt d = not (d.interrupt_status == 0)

abbrev pub is_raised : Card → Device → Bool
is_raised net blk = asks_interrupt net.device || asks_interrupt blk

abbrev pub csrs_of : PlatformState → CsrState
csrs_of p = state_of p.csrs (is_raised p.net p.blk)

abbrev pub with_csrs : PlatformState → CsrState → PlatformState
with_csrs p c = record p { csrs = fields_of c }

-- ---- the bus that the hart reaches

-- the interruptor has the line and the timer of the CSRs as registers
abbrev pub clint_of : CsrFields → Clint
clint_of c = record { msip = c.msip; mtimecmp = c.mtimecmp; mtime = c.mtime }

abbrev pub board_of : PlatformState → Board
board_of p = record {
  ram = p.memory;
  clint = clint_of p.csrs;
  net = p.net;
  blk = p.blk;
  touched = false;
  notified = false;
}

-- after an instruction the CSRs have the line and the time to compare with that the interruptor has
abbrev pub platform_with : Regs → CsrState → Board → PlatformState
platform_with hart csrs board = record {
  hart = hart;
  csrs = record (fields_of csrs) { msip = board.clint.msip; mtimecmp = board.clint.mtimecmp };
  net = board.net;
  blk = board.blk;
  memory = board.ram;
}

-- ---- frames

-- the platform after something, and the frames that it sent
pub record Step : Type 0 where
  pub platform : PlatformState
  pub frames : List (List ℕ)

abbrev pub quiet : PlatformState → Step
quiet p = record { platform = p; frames = [] }

-- a device that found something to do ends the reservation
abbrev pub unreserve_by : Served → Regs → Regs
unreserve_by Done hart = unreserve hart
unreserve_by Idle hart = hart
unreserve_by (Broken fault) hart = unreserve hart

-- the network card serves its send queue
unfoldable pub send_frames : PlatformState → Step
send_frames p = let sending = send (port_of p.net p.memory) in record {
  platform = record p {
    hart = unreserve_by sending.answer p.hart;
    net = sending.port.card;
    memory = sending.port.memory;
  };
  frames = sending.frames;
}

-- once an instruction is over, a notify that it made is served
abbrev pub serve_notify : Bool → PlatformState → Step
serve_notify notified p = if notified then send_frames p else quiet p

-- ---- one step

-- the entry of a trap or an interrupt (RISC-V privileged, 3.1.6.1, 3.1.7, 3.1.14 to 3.1.16), which
-- ends a reservation
abbrev pub take_trap : PlatformState → ℕ → ℕ → PlatformState
take_trap p cause value = record p {
  hart = record p.hart { pc = trap_handler (csrs_of p) cause; reserved = false };
  csrs = fields_of (enter_trap (csrs_of p) cause value p.hart.pc);
}

-- the platform as it is, or the entry of the instruction's trap
abbrev pub enter_by : Outcome → PlatformState → PlatformState
enter_by Next p = p
enter_by (Trap cause value) p = take_trap p cause value

-- what an instruction leaves: its notify is served, and its trap is entered
abbrev pub finish_execution : ExecutionResult Board → Step
finish_execution a =
    let served = serve_notify a.bus.notified (platform_with a.hart a.csrs a.bus) in
    record served { platform = enter_by a.outcome served.platform }

-- the effect of an instruction in a word
unfoldable pub execute_step : PlatformState → ℕ → Instr → Step
execute_step p word instr =
    finish_execution (effect board_acts p.hart (csrs_of p) (board_of p) word instr)

-- a word that fits no row is an illegal instruction
abbrev pub decode_step : PlatformState → ℕ → Option Instr → Step
decode_step p word None = quiet (take_trap p illegal_instruction word)
decode_step p word (Some instr) = execute_step p word instr

-- where no word can be fetched there is an access fault
abbrev pub fetch_step : PlatformState → Option ℕ → Step
fetch_step p None = quiet (take_trap p instruction_access_fault p.hart.pc)
fetch_step p (Some word) = decode_step p word (decode word)

-- an interrupt that is due is entered, and else the word at pc is fetched
abbrev pub step_from : PlatformState → Option ℕ → Step
step_from p (Some cause) = quiet (take_trap p cause 0)
step_from p None = fetch_step p (board_fetched (board_of p) p.hart.pc)

-- a step that was made is counted
abbrev pub count_taken : Step → Step
count_taken step = record step {
  platform = with_csrs step.platform (count_step (csrs_of step.platform));
}

-- One step: the entry of an interrupt, the effect of an instruction, or the entry of its trap
-- (RISC-V unprivileged, 1.6; privileged, 3.1.9).
unfoldable pub step : PlatformState → Step
step p = count_taken (step_from p (pending_interrupt (csrs_of p)))

-- ---- so many steps

abbrev pub then_step : Step → Step
then_step before = let next = step before.platform in
    record { platform = next.platform; frames = before.frames ++ next.frames }

unfoldable pub run_steps : ℕ → PlatformState → Step
run_steps zero p = quiet p
run_steps (suc n) p = then_step (run_steps n p)
