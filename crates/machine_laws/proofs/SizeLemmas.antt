-- Memory keeps its size over a turn.
use Rattle.std.proofs.Common.{◌≡◌, ℕ, ◌+◌, ◌-◌, ◌*◌, ◌%◌, ◌<◌, ◌==◌, zero, suc, nat_lt, nat_le, Bool, true, false, not, Option, Some, None, Result, Ok, Err, List, [], ◌∷◌, ◌++◌, length, take, drop, refl, ap, sym, ◌∙◌, subst, if◌then◌else◌, arith}
use Rattle.std.proofs.lemmas.Bool.{and_parts, and_from, not-false, leb-false, ltb-false, eqb-false}
use Rattle.std.proofs.lemmas.Nat.{mod_below}
use Rattle.shared_definitions.specs.Memory.{is_inside, little_endian_bytes}
use Rattle.page_track.specs.Memory.{Memory, with_part}
use Rattle.page_track.proofs.MemoryLemmas.{length-with_part}
use Rattle.virt_queue.specs.Chain.{next_chain, read_chain, some_chain}
use Rattle.virt_queue.specs.Parts.{DescriptorChain, parts_inside, skip, writable, write_joined}
use Rattle.virt_queue.specs.Ring.{after_position, ring_inside, waiting, with_used}
use Rattle.virt_queue.specs.declared.fields.Part.{Part}
use Rattle.virt_queue.specs.declared.fields.QueueFields.{QueueFields}
use Rattle.virt_queue.specs.declared.fields.RingFault.{RingFault}
use Rattle.virt_queue.specs.declared.fields.RingFault.TheVariants.{Outside, Size}
use Rattle.virt_queue.proofs.PartLemmas.{inside_within, lent_inside}
use Rattle.virt_queue.proofs.RingLemmas.{read_inside}
use Rattle.inet_frame.specs.Arp.{reply_bytes}
use Rattle.inet_frame.specs.Fields.{ArpFields}
use Rattle.rv_core.specs.Effect.{effect}
use Rattle.rv_core.specs.declared.registers.Outcome.{Outcome}
use Rattle.rv_core.specs.declared.registers.Outcome.TheVariants.{Next, Trap}
use Rattle.rv_core.proofs.EffectLemmas.{effect_one_store}
use Rattle.rv_isa.specs.Table.{decode}
use Rattle.rv_isa.specs.declared.instr.Instr.{Instr}
use Rattle.rv_traps.specs.Trap.{pending_interrupt}
use Rattle.rv_platform.proofs.BoardLemmas.{board_kept}
use Rattle.rv_platform.specs.Bus.{board_acts, board_fetched}
use Rattle.rv_platform.specs.Step.{PlatformState, board_of, csrs_of, decode_step, enter_by, execute_step, fetch_step, platform_with, run_steps, send_frames, serve_notify, step, step_from}
use Rattle.virtio_blk.proofs.SectorLemmas.{inside_of_kind, size_kept}
use Rattle.virtio_mmio.specs.declared.kind.Served.{Served}
use Rattle.virtio_mmio.specs.declared.kind.Served.TheVariants.{Done, Idle, Broken}
use Rattle.virtio_mmio.specs.Registers.{serves}
use Rattle.virtio_net.specs.Port.{Port, next_of, port_of, queue_of, receive_queue, return_chain, send_queue, take_chain}
use Rattle.virtio_net.specs.Receive.{Delivery, deliver, deliver_by, fill_chain, filled_len, has_space, header}
use Rattle.virtio_net.specs.Send.{Sending, answer_request, can_answer, follow_by, frame_in, request_in, send, send_by, send_chain, send_chains}
use Rattle.machine_laws.specs.Laws.{SizesStay}

abbrev pub SameSize : Memory → Memory → Type 0
SameSize m n = length n.bytes ≡ length m.bytes

pub joined_size : (m : Memory) (parts : List Part) (xs : List ℕ) → parts_inside (length m.bytes) parts ≡ true
    → SameSize m (write_joined m parts xs)
unfolding write_joined
joined_size m [] xs all = refl
joined_size m (p ∷ parts) xs all =
    let both = and_parts (is_inside (length m.bytes) p.addr p.len) (parts_inside (length m.bytes) parts) all in
    let once = size_kept m p xs both.0 in
    joined_size (with_part m p.addr (take p.len xs)) parts (drop p.len xs)
    (subst (λ (n : ℕ). parts_inside n parts ≡ true) (sym once) both.1) ∙ once

skip_by : (size n : ℕ) (p : Part) (parts : List Part) (b : Bool) → nat_le p.len n ≡ b
    → is_inside size p.addr p.len ≡ true → parts_inside size parts ≡ true → parts_inside size (skip (n - p.len) parts)
    ≡ true
    → (let cut : Part = record { addr = p.addr + n; len = p.len - n; writable = p.writable } in
    parts_inside size (if b then skip (n - p.len) parts else cut ∷ parts) ≡ true)
skip_by size n p parts true e here rest all = all
skip_by size n p parts false e here rest all =
    and_from _ _ (lent_inside size p n (p.len - n) here (let lt = leb-false p.len n e in omega (arith, lt))) rest

pub skip_inside : (size n : ℕ) (parts : List Part) → parts_inside size parts ≡ true → parts_inside size (skip n parts)
    ≡ true
unfolding skip
skip_inside size n [] all = refl
skip_inside size n (p ∷ parts) all =
    let both = and_parts (is_inside size p.addr p.len) (parts_inside size parts) all in
    skip_by size n p parts (nat_le p.len n) refl both.0 both.1 (skip_inside size (n - p.len) parts both.1)

-- ---- the ring

pub used_size : (m : Memory) (q : QueueFields) (head len : ℕ) → ring_inside (length m.bytes) q ≡ true → 0 < q.num
    → SameSize m (with_used m q head len)
unfolding with_used
used_size m q head len ring some =
    let size = length m.bytes in
    let rings = and_parts (is_inside size q.desc (16 * q.num)) _ ring in
    let device = (and_parts (is_inside size q.driver (4 + 2 * q.num)) (is_inside size q.device (4 + 8 * q.num))
    rings.1).1 in
    let place = q.used % q.num in
    let low : place < q.num = mod_below q.used q.num some in
    let entry = little_endian_bytes 4 head ++ little_endian_bytes 4 len in
    let idx = little_endian_bytes 2 (after_position q.used) in
    let at : q.device + (4 + 8 * place) ≡ q.device + 4 + 8 * place = omega arith in
    let here : is_inside size (q.device + 4 + 8 * place) 8 ≡ true =
    subst (λ (a : ℕ). is_inside size a 8 ≡ true) at
    (inside_within size q.device (4 + 8 * q.num) (4 + 8 * place) 8 device (omega (arith, low)) (omega (arith, low))) in
    let first : SameSize m (with_part m (q.device + 4 + 8 * place) entry) =
    length-with_part m (q.device + 4 + 8 * place) entry here in
    let there : is_inside size (q.device + 2) 2 ≡ true =
    inside_within size q.device (4 + 8 * q.num) 2 2 device (omega arith) (omega arith) in
    length-with_part (with_part m (q.device + 4 + 8 * place) entry) (q.device + 2) idx
    (subst (λ (n : ℕ). is_inside n (q.device + 2) 2 ≡ true) (sym first) there) ∙ first

-- a chain that is given: its ring is in memory, its queue has a number, its parts are in memory
pub record IsGiven (bytes : List ℕ) (q : QueueFields) (chain : DescriptorChain) : Type 0 where
  pub ring : ring_inside (length bytes) q ≡ true
  pub some : 0 < q.num
  pub parts : parts_inside (length bytes) chain.parts ≡ true

some_read : (bytes : List ℕ) (q : QueueFields) (chain : DescriptorChain) (r : Result DescriptorChain RingFault)
    → read_chain bytes q ≡ r → some_chain r ≡ Ok (Some chain) → read_chain bytes q ≡ Ok chain
some_read bytes q chain (Ok c) e h = let same : c ≡ chain = cc in e ∙ ap (λ (x : DescriptorChain). Ok x) same
some_read bytes q chain (Err fault) e h = cc

given_by : (bytes : List ℕ) (q : QueueFields) (chain : DescriptorChain) (outside many none : Bool)
    → not (ring_inside (length bytes) q) ≡ outside → nat_lt q.num (waiting bytes q) ≡ many → (waiting bytes q == 0)
    ≡ none
    → (if outside then Err Outside else if many then Err Size else if none then Ok None
    else some_chain (read_chain bytes q))
    ≡ Ok (Some chain)
    → IsGiven bytes q chain
given_by bytes q chain true many none o m n h = cc
given_by bytes q chain false true none o m n h = cc
given_by bytes q chain false false true o m n h = cc
given_by bytes q chain false false false o m n h = record {
  ring = not-false (ring_inside (length bytes) q) o;
  some = let le = ltb-false q.num (waiting bytes q) m in let nz = eqb-false (waiting bytes q) 0 n in omega
      (arith, le, nz);
  parts = read_inside bytes q chain (some_read bytes q chain (read_chain bytes q) refl h);
}

pub given_facts : (bytes : List ℕ) (q : QueueFields) (chain : DescriptorChain) → next_chain bytes q ≡ Ok (Some chain)
    → IsGiven bytes q chain
unfolding next_chain
given_facts bytes q chain h = given_by bytes q chain _ _ _ refl refl refl h

-- ---- the network card

returned_size : (port : Port) (k head len : ℕ) → ring_inside (length port.memory.bytes) (queue_of port.card.device k)
    ≡ true
    → 0 < (queue_of port.card.device k).num → SameSize port.memory (return_chain port k head len).memory
unfolding return_chain
returned_size port k head len ring some = used_size port.memory (queue_of port.card.device k) head len ring some

filled_size : (m : Memory) (chain : DescriptorChain) (frame : List ℕ) → parts_inside (length m.bytes) chain.parts ≡ true
    → SameSize m (fill_chain m chain frame)
filled_size m chain frame inside = by_space (has_space chain frame)
  where
    by_space : (b : Bool) → SameSize m (if b then write_joined m (writable chain.parts) (header ++ frame) else m)
    by_space true = joined_size m (writable chain.parts) (header ++ frame)
        (inside_of_kind (length m.bytes) true chain.parts inside)
    by_space false = refl

delivered_by_size : (port : Port) (frame : List ℕ) (r : Result (Option DescriptorChain) RingFault)
    → next_of port receive_queue ≡ r → SameSize port.memory (deliver_by port frame r).port.memory
delivered_by_size port frame (Ok None) e = refl
delivered_by_size port frame (Ok (Some chain)) e =
    let facts = given_facts port.memory.bytes (queue_of port.card.device receive_queue) chain e in
    let taken = take_chain port receive_queue (Ok (Some chain)) in
    let filled : Port = record taken { memory = fill_chain port.memory chain frame } in
    let size = filled_size port.memory chain frame facts.parts in
    returned_size filled receive_queue chain.head (filled_len chain frame)
    (subst (λ (n : ℕ). ring_inside n (queue_of port.card.device receive_queue) ≡ true) (sym size) facts.ring) facts.some
    ∙ size
delivered_by_size port frame (Err fault) e = refl

pub delivered_size : (port : Port) (frame : List ℕ) → SameSize port.memory (deliver port frame).port.memory
unfolding deliver
delivered_size port frame = delivered_by_size port frame (next_of port receive_queue) refl

answered_size : (port : Port) (ask : Option ArpFields) → SameSize port.memory (answer_request port ask).port.memory
answered_size port None = refl
answered_size port (Some ask) = by_can (can_answer port)
  where
    by_can : (b : Bool) → SameSize port.memory (let same : Delivery = record { port = port; fault = None } in
        if b then deliver port (reply_bytes ask port.card.neighbour) else same).port.memory
    by_can true = delivered_size port (reply_bytes ask port.card.neighbour)
    by_can false = refl

next_size : (port : Port) (r : Result (Option DescriptorChain) RingFault) → next_of port send_queue ≡ r
    → SameSize port.memory (send_by port r).port.memory
next_size port (Ok None) e = refl
next_size port (Ok (Some chain)) e =
    let facts = given_facts port.memory.bytes (queue_of port.card.device send_queue) chain e in
    let taken = take_chain port send_queue (Ok (Some chain)) in
    answered_size (return_chain taken send_queue chain.head 0) (request_in (frame_in port.memory.bytes chain))
    ∙ returned_size taken send_queue chain.head 0 facts.ring facts.some
next_size port (Err fault) e = refl

chain_size : (port : Port) → SameSize port.memory (send_chain port).port.memory
unfolding send_chain
chain_size port = next_size port (next_of port send_queue) refl

follows_size : (m : Memory) (answer : Served) (first : Sending) (so_far : Served) (rest : Sending)
    → SameSize m first.port.memory → SameSize m rest.port.memory
    → SameSize m (follow_by answer first so_far rest).port.memory
follows_size m Done first so_far rest p q = q
follows_size m Idle first so_far rest p q = p
follows_size m (Broken fault) first so_far rest p q = p

chains_size : (n : ℕ) (so_far : Served) (port : Port) → SameSize port.memory (send_chains n so_far port).port.memory
unfolding send_chains
chains_size zero so_far port = refl
chains_size (suc n) so_far port =
    let first = send_chain port in
    let size = chain_size port in
    follows_size port.memory first.answer first so_far (send_chains n Done first.port) size
    (chains_size n Done first.port ∙ size)

port_size : (port : Port) → SameSize port.memory (send port).port.memory
unfolding send
port_size port = by_works (serves port.card.device send_queue)
  where
    by_works : (b : Bool) → (let idle : Sending = record { port = port; frames = []; answer = Idle } in
        SameSize port.memory
        (if b then send_chains (queue_of port.card.device send_queue).num Idle port else idle).port.memory)
    by_works true = chains_size (queue_of port.card.device send_queue).num Idle port
    by_works false = refl

-- ---- steps

notify_size : (notified : Bool) (p : PlatformState) → SameSize p.memory (serve_notify notified p).platform.memory
unfolding send_frames
notify_size true p = port_size (port_of p.net p.memory)
notify_size false p = refl

entered_size : (o : Outcome) (p : PlatformState) → SameSize p.memory (enter_by o p).memory
entered_size Next p = refl
entered_size (Trap cause value) p = refl

execute_size : (p : PlatformState) (word : ℕ) (i : Instr) → SameSize p.memory (execute_step p word i).platform.memory
unfolding execute_step
execute_size p word i =
    let a = effect board_acts p.hart (csrs_of p) (board_of p) word i in
    let q = platform_with a.hart a.csrs a.bus in
    let stored = board_kept (board_of p) a.bus (effect_one_store board_acts p.hart (csrs_of p) (board_of p) word i) in
    entered_size a.outcome (serve_notify a.bus.notified q).platform ∙ (notify_size a.bus.notified q ∙ stored.memory)

decode_size : (p : PlatformState) (word : ℕ) (i : Option Instr)
    → SameSize p.memory (decode_step p word i).platform.memory
decode_size p word None = refl
decode_size p word (Some i) = execute_size p word i

fetch_size : (p : PlatformState) (word : Option ℕ) → SameSize p.memory (fetch_step p word).platform.memory
fetch_size p None = refl
fetch_size p (Some word) = decode_size p word (decode word)

from_size : (p : PlatformState) (cause : Option ℕ) → SameSize p.memory (step_from p cause).platform.memory
from_size p (Some cause) = refl
from_size p None = fetch_size p (board_fetched (board_of p) p.hart.pc)

step_size : (p : PlatformState) → SameSize p.memory (step p).platform.memory
unfolding step
step_size p = from_size p (pending_interrupt (csrs_of p))

pub steps_stay : SizesStay
unfolding run_steps
steps_stay zero p = refl
steps_stay (suc n) p = step_size (run_steps n p).platform ∙ steps_stay n p
