-- What one chain sends by its parts, and the chains of one notify.
use Rattle.std.proofs.Common.{◌≡◌, ◌≢◌, ℕ, ◌+◌, ◌-◌, ◌<◌, ◌≤◌, Bool, true, false, Option, Some, None, Result, Ok, Err, List, [], ◌∷◌, ◌++◌, refl, ap, sym, ◌∙◌, append-nil, append_assoc, arith, add-one, subst, ⊎_elim}
use Rattle.std.proofs.lemmas.Bool.{cases_Bool}
use Rattle.std.specs.Prelude.{if◌then◌else◌}
use Rattle.inet_frame.specs.Arp.{reply_bytes}
use Rattle.inet_frame.specs.Fields.{ArpFields}
use Rattle.virt_queue.specs.Ring.{with_used, asks_interrupt, after_position}
use Rattle.virtio_mmio.specs.Lending.{with_numbered}
use Rattle.virtio_mmio.specs.Device.{Device, raise_used}
use Rattle.virt_queue.specs.declared.fields.RingFault.{RingFault}
use Rattle.virt_queue.specs.Chain.{is_given, chain_of}
use Rattle.virt_queue.specs.Parts.{DescriptorChain}
use Rattle.virtio_mmio.specs.declared.kind.Served.{Served}
use Rattle.virtio_mmio.specs.declared.kind.Served.TheVariants.{Done, Idle, Broken}
use Rattle.virtio_mmio.specs.Registers.{serves}
use Rattle.virtio_net.specs.Port.{Card, Port, port_of, receive_queue, send_queue, queue_of, next_of, take_chain, return_chain}
use Rattle.virtio_net.specs.Receive.{Delivery, deliver_by, deliver}
use Rattle.virtio_net.specs.Send.{Sending, frame_in, output, request_in, answer_request, served, send_by, send_chain, send_chains, send, follow_by, follow, after_frames, fault_of, can_answer}
use Rattle.virtio_net.proofs.PortLemmas.{none_given, some_given, given_err}

send_is : (port : Port) (r : Result (Option DescriptorChain) RingFault) → next_of port send_queue ≡ r →
    send_chain port ≡ send_by port r
unfolding send_chain
send_is port r e = ap (send_by port) e

-- a call answers what is sent, and leaves its port and its frames
pub record IsSent (sending : Sending) (answer : Served) (port : Port) (before out : List (List ℕ)) : Type 0 where
  pub answer_is : answer ≡ sending.answer
  pub port_is : port ≡ sending.port
  pub frames_are : out ≡ before ++ sending.frames

-- without a frame, by the answer of the ring
send_nothing : (port : Port) (r : Result (Option DescriptorChain) RingFault) (answer : Served) (left : Port) (card :
    Card) (out : List (List ℕ)) → next_of port send_queue ≡ r →
    send_by port r ≡ (let none : Sending = record { port = left; frames = []; answer = answer } in none) →
    port_of card port.memory ≡ left → IsSent (send_chain port) answer (port_of card port.memory) out out
send_nothing port r answer left card out e by is =
    let whole = send_is port r e ∙ by in
    record {
      answer_is = sym (ap (λ (s : Sending). s.answer) whole);
      port_is = is ∙ sym (ap (λ (s : Sending). s.port) whole);
      frames_are = sym (ap (λ (s : Sending). out ++ s.frames) whole ∙ append-nil out);
    }

pub send_none : (port : Port) (b : Bool) (card : Card) (out : List (List ℕ)) →
    is_given (next_of port send_queue) ≡ Ok b → b ≡ false →
    card ≡ (take_chain port send_queue (next_of port send_queue)).card →
    IsSent (send_chain port) Idle (port_of card port.memory) out out
send_none port b card out given is taken =
    let none = none_given (next_of port send_queue) b given is in
    send_nothing port (Ok None) Idle port card out none refl
    (ap (λ x. port_of x port.memory) (taken ∙ ap (λ r. (take_chain port send_queue r).card) none))

pub send_fault : (port : Port) (fault : RingFault) (card : Card) (out : List (List ℕ)) →
    is_given (next_of port send_queue) ≡ Err fault →
    card ≡ (take_chain port send_queue (next_of port send_queue)).card →
    IsSent (send_chain port) (Broken fault) (port_of card port.memory) out out
send_fault port fault card out given taken =
    let failed = given_err (next_of port send_queue) fault given in
    send_nothing port (Err fault) (Broken fault) (take_chain port send_queue (Err fault)) card out failed refl
    (ap (λ x. port_of x port.memory) (taken ∙ ap (λ r. (take_chain port send_queue r).card) failed))

-- what becomes of a chain's frame once the chain was returned
abbrev pub sending_of : Port → Option (List ℕ) → Sending
sending_of returned frame = let answered = answer_request returned (request_in frame) in
    record { port = answered.port; frames = output frame; answer = served answered.fault }

send_frame_is : (port : Port) (chain : DescriptorChain) (card : Card) (head : ℕ) (frame : Option (List ℕ)) →
    next_of port send_queue ≡ Ok (Some chain) → card ≡ (take_chain port send_queue (Ok (Some chain))).card →
    head ≡ chain.head →
    frame ≡ frame_in port.memory.bytes chain →
    send_chain port ≡ sending_of (return_chain (port_of card port.memory) send_queue head 0) frame
send_frame_is port chain card head frame e c h f =
    send_is port (Ok (Some chain)) e
    ∙ (λ i. sending_of (return_chain (port_of (sym c i) port.memory) send_queue (sym h i) 0) (sym f i))

-- the same by what the calls answered and left
pub send_frame : (port : Port) (b : Bool) (card : Card) (chain : DescriptorChain) (head : ℕ)
    (frame : Option (List ℕ)) (returned : Port) → is_given (next_of port send_queue) ≡ Ok b → b ≡ true →
    card ≡ (take_chain port send_queue (next_of port send_queue)).card →
    chain ≡ chain_of (next_of port send_queue) → head ≡ chain.head → frame ≡ frame_in port.memory.bytes chain →
    returned ≡ return_chain (port_of card port.memory) send_queue head 0 → send_chain port ≡ sending_of returned frame
send_frame port b card chain head frame returned given is c taken h f r =
    let some = some_given (next_of port send_queue) b given is in
    send_frame_is port (chain_of (next_of port send_queue)) card head frame some
    (c ∙ ap (λ x. (take_chain port send_queue x).card) some)
    (h ∙ ap (λ (x : DescriptorChain). x.head) taken) (f ∙ ap (frame_in port.memory.bytes) taken)
    ∙ ap (λ p. sending_of p frame) (sym r)

-- its frames, by what the calls before its return answered and left
pub frames_of_chain : (port : Port) (b : Bool) (card : Card) (chain : DescriptorChain) (frame : Option (List ℕ)) →
    is_given (next_of port send_queue) ≡ Ok b → b ≡ true →
    card ≡ (take_chain port send_queue (next_of port send_queue)).card →
    chain ≡ chain_of (next_of port send_queue) → frame ≡ frame_in port.memory.bytes chain →
    (send_chain port).frames ≡ output frame
frames_of_chain port b card chain frame given is c taken f =
    let returned = return_chain (port_of card port.memory) send_queue chain.head 0 in
    ap (λ (s : Sending). s.frames) (send_frame port b card chain chain.head frame returned given is c taken refl f refl)

pub served_ok : (fault : Option RingFault) → fault_of fault ≡ Ok tt → served fault ≡ Done
served_ok None e = refl
served_ok (Some fault) e = cc

pub served_err : (fault : Option RingFault) (f : RingFault) → fault_of fault ≡ Err f → served fault ≡ Broken f
served_err None f e = cc
served_err (Some fault) f e = cc

-- ---- the card goes on working on its send queue

works_after_take : (port : Port) (chain : DescriptorChain) →
    serves (take_chain port send_queue (Ok (Some chain))).card.device send_queue ≡ serves port.card.device
    send_queue
works_after_take port chain = refl

works_after_receive : (port : Port) (chain : DescriptorChain) →
    serves (take_chain port receive_queue (Ok (Some chain))).card.device send_queue ≡ serves port.card.device
    send_queue
works_after_receive port chain = refl

works_raised : (asks : Bool) (d : Device) →
    serves (if asks then raise_used d else d) send_queue ≡ serves d send_queue
works_raised true d = refl
works_raised false d = refl

works_after_return : (port : Port) (head len : ℕ) →
    serves (return_chain port send_queue head len).card.device send_queue ≡ serves port.card.device send_queue
unfolding return_chain
works_after_return port head len =
    let d = port.card.device in
    let q = queue_of d send_queue in
    works_raised (asks_interrupt (with_used port.memory q head len).bytes q)
    (with_numbered d send_queue (record q { used = after_position q.used }))

works_after_fill : (port : Port) (head len : ℕ) →
    serves (return_chain port receive_queue head len).card.device send_queue ≡ serves port.card.device send_queue
unfolding return_chain
works_after_fill port head len =
    let d = port.card.device in
    let q = queue_of d receive_queue in
    works_raised (asks_interrupt (with_used port.memory q head len).bytes q)
    (with_numbered d receive_queue (record q { used = after_position q.used }))

works_delivered : (port : Port) (frame : List ℕ) (r : Result (Option DescriptorChain) RingFault) →
    (deliver_by port frame r).fault ≡ None →
    serves (deliver_by port frame r).port.card.device send_queue ≡ serves port.card.device send_queue
works_delivered port frame (Ok None) e = refl
works_delivered port frame (Ok (Some chain)) e = works_after_fill _ chain.head _ ∙ works_after_receive port chain
works_delivered port frame (Err fault) e = cc

works_can : (port : Port) (ask : ArpFields) → can_answer port ≡ true → (answer_request port (Some ask)).fault ≡ None →
    serves (answer_request port (Some ask)).port.card.device send_queue ≡ serves port.card.device send_queue
unfolding deliver
works_can port ask can e =
    let frame = reply_bytes ask port.card.neighbour in
    let is : answer_request port (Some ask) ≡ deliver port frame = rw can refl in
    ap (λ (x : Delivery). serves x.port.card.device send_queue) is
    ∙ works_delivered port frame (next_of port receive_queue) (sym (ap (λ (x : Delivery). x.fault) is) ∙ e)

works_cannot : (port : Port) (ask : ArpFields) → can_answer port ≡ false →
    serves (answer_request port (Some ask)).port.card.device send_queue ≡ serves port.card.device send_queue
works_cannot port ask cannot = rw cannot refl

works_answered : (port : Port) (ask : Option ArpFields) → (answer_request port ask).fault ≡ None →
    serves (answer_request port ask).port.card.device send_queue ≡ serves port.card.device send_queue
works_answered port None e = refl
works_answered port (Some ask) e =
    ⊎_elim
    (λ (can : can_answer port ≡ true). works_can port ask can e)
    (λ (cannot : can_answer port ≡ false). works_cannot port ask cannot)
    (cases_Bool (can_answer port))

fault_none : (fault : Option RingFault) → served fault ≡ Done → fault ≡ None
fault_none None e = refl
fault_none (Some fault) e = cc

works_sent : (port : Port) (r : Result (Option DescriptorChain) RingFault) → (send_by port r).answer ≡ Done →
    serves (send_by port r).port.card.device send_queue ≡ serves port.card.device send_queue
works_sent port (Ok None) e = cc
works_sent port (Ok (Some chain)) e =
    let taken = take_chain port send_queue (Ok (Some chain)) in
    works_answered (return_chain taken send_queue chain.head 0) (request_in (frame_in port.memory.bytes chain))
    (fault_none _ e)
    ∙ (works_after_return taken chain.head 0 ∙ works_after_take port chain)
works_sent port (Err fault) e = cc

pub serves_after : (port : Port) → (send_chain port).answer ≡ Done →
    serves (send_chain port).port.card.device send_queue ≡ serves port.card.device send_queue
unfolding send_chain
serves_after port e = works_sent port (next_of port send_queue) e

-- what the registers answered, of the card that has them
pub serves_is : (card now : Card) (answer b : Bool) → card ≡ now → answer ≡ serves card.device send_queue →
    answer ≡ b → serves now.device send_queue ≡ b
serves_is card now answer b same e is = sym (ap (λ (x : Card). serves x.device send_queue) same) ∙ (sym e ∙ is)

-- ---- the chains of one notify

-- what was sent so far, and that the rest is what is left of the notify
pub record Underway (start now : Port) (num k : ℕ) (so_far : Served) (before out : List (List ℕ)) : Type 0 where
  pub frames : List (List ℕ)
  pub out_is : out ≡ before ++ frames
  pub rest : after_frames frames (send_chains (num - k) so_far now) ≡ send_chains num Idle start
  pub works : serves now.card.device send_queue ≡ true

pub sends_begin : (start : Port) (num : ℕ) (out : List (List ℕ)) → serves start.card.device send_queue ≡ true →
    Underway start start num 0 Idle out out
sends_begin start num out works = let whole : num - 0 ≡ num = omega arith in record {
  frames = [];
  out_is = sym (append-nil out);
  rest = ap (λ (n : ℕ). send_chains n Idle start) whole;
  works = works;
}

chains_more : (n m : ℕ) (so_far : Served) (port : Port) → n ≡ m + 1 →
    send_chains n so_far port ≡ follow (send_chain port) so_far (send_chains m Done (send_chain port).port)
unfolding send_chains
chains_more n m so_far port e = rw (e, add-one) refl

after_both : (a b : List (List ℕ)) (s : Sending) → after_frames a (after_frames b s) ≡ after_frames (a ++ b) s
after_both a b s = λ i. record { port = s.port; frames = sym (append_assoc a b s.frames) i; answer = s.answer }

-- the rest of a notify, by its next chain
rest_is : (start now : Port) (num k : ℕ) (so_far : Served) (before out : List (List ℕ)) (u : Underway start now num k
    so_far before out) →
    k < num → after_frames u.frames (follow (send_chain now) so_far (send_chains (num - (k + 1)) Done (send_chain
    now).port))
    ≡ send_chains num Idle start
rest_is start now num k so_far before out u lt =
    let one : num - k ≡ num - (k + 1) + 1 = omega arith in
    sym (ap (after_frames u.frames) (chains_more (num - k) (num - (k + 1)) so_far now one)) ∙ u.rest

pub sends_go_on : (start now : Port) (num k : ℕ) (so_far : Served) (before out : List (List ℕ)) (next : Port) (more :
    List (List ℕ)) →
    Underway start now num k so_far before out → k < num → (send_chain now).answer ≡ Done →
    next ≡ (send_chain now).port →
    more ≡ out ++ (send_chain now).frames → Underway start next num (k + 1) Done before more
sends_go_on start now num k so_far before out next more u lt done is frames = record {
  frames = u.frames ++ (send_chain now).frames;
  out_is = frames ∙ (ap (λ (x : List (List ℕ)). x ++ (send_chain now).frames) u.out_is
      ∙ append_assoc before u.frames (send_chain now).frames);
  rest = ap (λ (p : Port). after_frames (u.frames ++ (send_chain now).frames) (send_chains (num - (k + 1)) Done p)) is
      ∙ (sym (after_both u.frames (send_chain now).frames (send_chains (num - (k + 1)) Done (send_chain now).port))
      ∙ (sym (ap (λ (a : Served). after_frames u.frames (follow_by a (send_chain now) so_far (send_chains (num -
      (k + 1))
      Done (send_chain now).port))) done)
      ∙ rest_is start now num k so_far before out u lt));
  works = ap (λ (p : Port). serves p.card.device send_queue) is ∙ (serves_after now done ∙ u.works);
}

-- a notify that ends at a chain, or without one
pub sends_end : (start now : Port) (num k : ℕ) (so_far : Served) (before out : List (List ℕ)) (last : Served)
    (answer :
    Served) (next : Port)
    (more : List (List ℕ)) → Underway start now num k so_far before out → k < num → (send_chain now).answer ≡ last →
    ((rest : Sending) → follow_by last (send_chain now) so_far rest ≡ record (send_chain now) { answer = answer }) →
    next ≡ (send_chain now).port → more ≡ out ++ (send_chain now).frames →
    IsSent (send_chains num Idle start) answer next before more
sends_end start now num k so_far before out last answer next more u lt last_is ends is frames =
    let rest = send_chains (num - (k + 1)) Done (send_chain now).port in
    let whole = sym (rest_is start now num k so_far before out u lt)
    ∙ (ap (λ (a : Served). after_frames u.frames (follow_by a (send_chain now) so_far rest)) last_is
    ∙ ap (after_frames u.frames) (ends rest)) in
    record {
      answer_is = sym (ap (λ (s : Sending). s.answer) whole);
      port_is = is ∙ sym (ap (λ (s : Sending). s.port) whole);
      frames_are = frames ∙ (ap (λ (x : List (List ℕ)). x ++ (send_chain now).frames) u.out_is
          ∙ (append_assoc before u.frames (send_chain now).frames
          ∙ sym (ap (λ (s : Sending). before ++ s.frames) whole)));
    }

pub sends_all : (start now : Port) (num k : ℕ) (so_far : Served) (before out : List (List ℕ)) →
    Underway start now num k so_far before out → num ≤ k → IsSent (send_chains num Idle start) so_far now before out
unfolding send_chains
sends_all start now num k so_far before out u le =
    let none : num - k ≡ 0 = omega arith in
    let whole = sym u.rest ∙ ap (λ (n : ℕ). after_frames u.frames (send_chains n so_far now)) none in
    record {
      answer_is = sym (ap (λ (s : Sending). s.answer) whole);
      port_is = sym (ap (λ (s : Sending). s.port) whole);
      frames_are = u.out_is ∙ (ap (λ (x : List (List ℕ)). before ++ x) (sym (append-nil u.frames))
          ∙ sym (ap (λ (s : Sending). before ++ s.frames) whole));
    }

pub send_live : (port : Port) → serves port.card.device send_queue ≡ true →
    send port ≡ send_chains (queue_of port.card.device send_queue).num Idle port
unfolding send
send_live port w = rw w refl

-- what was sent of so many chains is what the notify sends
pub of_notify : (start : Port) (num : ℕ) (answer : Served) (port : Port) (before out : List (List ℕ)) →
    num ≡ (queue_of start.card.device send_queue).num → serves start.card.device send_queue ≡ true →
    IsSent (send_chains num Idle start) answer port before out → IsSent (send start) answer port before out
of_notify start num answer port before out is works sent =
    subst (λ (s : Sending). IsSent s answer port before out)
    (sym (send_live start works ∙ ap (λ (n : ℕ). send_chains n Idle start) (sym is))) sent

-- ---- what a notify sends, one of its chains sends

pub after_empty : (xs ys : List (List ℕ)) → xs ++ ys ≡ [] → ys ≡ []
after_empty [] ys e = e
after_empty (x ∷ xs) ys e = absurd (let no : ⊥ = cc in no)

pub before_empty : (xs ys : List (List ℕ)) → xs ++ ys ≡ [] → xs ≡ []
before_empty [] ys e = refl
before_empty (x ∷ xs) ys e = absurd (let no : ⊥ = cc in no)

step_empty : (a : Served) (step : Sending) (so_far : Served) (rest : Sending) →
    (follow_by a step so_far rest).frames ≡ [] → step.frames ≡ []
step_empty Done step so_far rest e = before_empty step.frames rest.frames e
step_empty Idle step so_far rest e = e
step_empty (Broken fault) step so_far rest e = e

pub chain_of_notify : (start now : Port) (num k : ℕ) (so_far : Served) (before out : List (List ℕ)) →
    Underway start now num k so_far before out → k < num →
    num ≡ (queue_of start.card.device send_queue).num → serves start.card.device send_queue ≡ true →
    (send_chain now).frames ≢ [] → (send start).frames ≢ []
chain_of_notify start now num k so_far before out u lt is works some none =
    let rest = send_chains (num - (k + 1)) Done (send_chain now).port in
    let after = follow (send_chain now) so_far rest in
    let whole : after_frames u.frames after ≡ send start =
    rest_is start now num k so_far before out u lt
    ∙ (ap (λ (n : ℕ). send_chains n Idle start) is ∙ sym (send_live start works)) in
    let empty : u.frames ++ after.frames ≡ [] = ap (λ (s : Sending). s.frames) whole ∙ none in
    some (step_empty (send_chain now).answer (send_chain now) so_far rest (after_empty u.frames after.frames empty))

pub send_idle : (port : Port) → serves port.card.device send_queue ≡ false →
    send port ≡ (let none : Sending = record { port = port; frames = []; answer = Idle } in none)
unfolding send
send_idle port w = rw w refl
