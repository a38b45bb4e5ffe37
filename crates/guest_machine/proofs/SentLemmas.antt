-- What a machine sends is frames of 14 to 1,514 bytes.
use Rattle.std.proofs.Common.{◌≡◌, ℕ, zero, suc, Bool, true, false, Option, Some, None, Result, Ok, Err, List, [], ◌∷◌, length, nat_le, All, refl, if◌then◌else◌}
use Rattle.std.proofs.lemmas.Bool.{and_parts, leb-true}
use Rattle.std.proofs.lemmas.List.Elements.{All-nil, All-cons, All-append}
use Rattle.inet_frame.specs.Frame.{is_arp}
use Rattle.rv_core.specs.Effect.{effect}
use Rattle.rv_core.specs.Reach.{ExecutionResult}
use Rattle.rv_isa.specs.Table.{decode}
use Rattle.rv_isa.specs.declared.instr.Instr.{Instr}
use Rattle.rv_platform.specs.Bus.{board_acts, board_fetched}
use Rattle.rv_platform.specs.Step.{PlatformState, board_of, csrs_of, decode_step, execute_step, fetch_step, finish_execution, platform_with, run_steps, send_frames, serve_notify, step, step_from}
use Rattle.rv_platform.specs.declared.board.Board.{Board}
use Rattle.rv_traps.specs.Trap.{pending_interrupt}
use Rattle.state_wire.specs.Guest.{GuestTurn, IsFrame}
use Rattle.virt_queue.specs.Parts.{DescriptorChain}
use Rattle.virt_queue.specs.declared.fields.RingFault.{RingFault}
use Rattle.virtio_mmio.specs.declared.kind.Served.{Served}
use Rattle.virtio_mmio.specs.declared.kind.Served.TheVariants.{Done, Idle, Broken}
use Rattle.virtio_mmio.specs.Registers.{serves}
use Rattle.virtio_net.specs.Port.{Port, next_of, port_of, queue_of, send_queue}
use Rattle.virtio_net.specs.Send.{Sending, follow_by, is_frame, output, payload, send, send_by, send_chain, send_chains}
use Rattle.guest_machine.specs.Guest.{state_in}
use Rattle.guest_machine.specs.Laws.{MachinesSendFrames}
use Rattle.guest_machine.specs.Turn.{State, make_turn, start_turn}

-- ---- one chain

is_frame_fits : (bytes : List ℕ) → is_frame bytes ≡ true → IsFrame bytes
is_frame_fits bytes e =
    let both = and_parts (nat_le 14 (length bytes)) (nat_le (length bytes) 1514) e in
    record { from = leb-true 14 (length bytes) both.0; to = leb-true (length bytes) 1514 both.1 }

goes_out : (bytes : List ℕ) (arp : Bool) → IsFrame bytes → All IsFrame (if arp then [] else bytes ∷ [])
goes_out bytes true fits = All-nil IsFrame
goes_out bytes false fits = All-cons IsFrame bytes [] fits (All-nil IsFrame)

output_is : (bytes : List ℕ) (fits : Bool) → is_frame bytes ≡ fits
    → All IsFrame (output (if fits then Some bytes else None))
output_is bytes true e = goes_out bytes (is_arp bytes) (is_frame_fits bytes e)
output_is bytes false e = All-nil IsFrame

next_sends : (port : Port) (next : Result (Option DescriptorChain) RingFault) → All IsFrame (send_by port next).frames
next_sends port (Ok None) = All-nil IsFrame
next_sends port (Ok (Some chain)) =
    let bytes = payload port.memory.bytes chain in output_is bytes (is_frame bytes) refl
next_sends port (Err fault) = All-nil IsFrame

chain_sends : (port : Port) → All IsFrame (send_chain port).frames
unfolding send_chain
chain_sends port = next_sends port (next_of port send_queue)

-- ---- one notify

follows : (answer : Served) (first : Sending) (so_far : Served) (rest : Sending) → All IsFrame first.frames
    → All IsFrame rest.frames → All IsFrame (follow_by answer first so_far rest).frames
follows Done first so_far rest p q = All-append IsFrame first.frames rest.frames p q
follows Idle first so_far rest p q = p
follows (Broken fault) first so_far rest p q = p

chains_send : (n : ℕ) (so_far : Served) (port : Port) → All IsFrame (send_chains n so_far port).frames
unfolding send_chains
chains_send zero so_far port = All-nil IsFrame
chains_send (suc n) so_far port =
    let first = send_chain port in
    follows first.answer first so_far (send_chains n Done first.port) (chain_sends port)
    (chains_send n Done first.port)

where_it_works : (works : Bool) (port : Port)
    → (let idle : Sending = record { port = port; frames = []; answer = Idle } in
    All IsFrame (if works then send_chains (queue_of port.card.device send_queue).num Idle port else idle).frames)
where_it_works true port = chains_send (queue_of port.card.device send_queue).num Idle port
where_it_works false port = All-nil IsFrame

port_sends : (port : Port) → All IsFrame (send port).frames
unfolding send
port_sends port = where_it_works (serves port.card.device send_queue) port

notify_sends : (notified : Bool) (p : PlatformState) → All IsFrame (serve_notify notified p).frames
unfolding send_frames
notify_sends true p = port_sends (port_of p.net p.memory)
notify_sends false p = All-nil IsFrame

-- ---- steps

finish_sends : (a : ExecutionResult Board) → All IsFrame (finish_execution a).frames
finish_sends a = notify_sends a.bus.notified (platform_with a.hart a.csrs a.bus)

execute_sends : (p : PlatformState) (word : ℕ) (i : Instr) → All IsFrame (execute_step p word i).frames
unfolding execute_step
execute_sends p word i = finish_sends (effect board_acts p.hart (csrs_of p) (board_of p) word i)

decode_sends : (p : PlatformState) (word : ℕ) (i : Option Instr) → All IsFrame (decode_step p word i).frames
decode_sends p word None = All-nil IsFrame
decode_sends p word (Some i) = execute_sends p word i

fetch_sends : (p : PlatformState) (word : Option ℕ) → All IsFrame (fetch_step p word).frames
fetch_sends p None = All-nil IsFrame
fetch_sends p (Some word) = decode_sends p word (decode word)

from_sends : (p : PlatformState) (cause : Option ℕ) → All IsFrame (step_from p cause).frames
from_sends p (Some cause) = All-nil IsFrame
from_sends p None = fetch_sends p (board_fetched (board_of p) p.hart.pc)

step_sends : (p : PlatformState) → All IsFrame (step p).frames
unfolding step
step_sends p = from_sends p (pending_interrupt (csrs_of p))

steps_send : (n : ℕ) (p : PlatformState) → All IsFrame (run_steps n p).frames
unfolding run_steps
steps_send zero p = All-nil IsFrame
steps_send (suc n) p =
    let before = run_steps n p in
    All-append IsFrame before.frames (step before.platform).frames (steps_send n p) (step_sends before.platform)

turn_sends : (s : State) (turn : GuestTurn) → All IsFrame (make_turn s turn).frames
unfolding make_turn
turn_sends s turn = steps_send turn.steps (start_turn s turn.ticks turn.frame turn.requests).platform

pub machines_send_frames : MachinesSendFrames
machines_send_frames m s turn = turn_sends (state_in s) turn
