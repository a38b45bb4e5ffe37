-- What a queue's next chain is by what the call answered, and a delivery by its parts.
use Rattle.std.proofs.Common.{◌≡◌, ℕ, Bool, true, false, Option, Some, None, Result, Ok, Err, List, length, refl, ap, sym, ◌∙◌, ⊎_elim}
use Rattle.std.proofs.lemmas.Bool.{cases_Bool}
use Rattle.page_track.specs.Memory.{Memory}
use Rattle.virt_queue.specs.declared.fields.QueueFields.{QueueFields}
use Rattle.virt_queue.specs.declared.fields.RingFault.{RingFault}
use Rattle.virt_queue.specs.declared.fields.RingFault.TheVariants.{Outside}
use Rattle.virt_queue.specs.Chain.{next_chain, is_given, chain_of}
use Rattle.virt_queue.specs.Parts.{DescriptorChain}
use Rattle.virt_queue.specs.Ring.{ring_inside}
use Rattle.virtio_net.specs.Port.{Card, Port, port_of, receive_queue, next_of, take_chain, return_chain}
use Rattle.virtio_net.specs.Receive.{Delivery, fill_chain, filled_len, deliver_by, deliver}

-- ---- the three answers

given_none : (r : Result (Option DescriptorChain) RingFault) → is_given r ≡ Ok false → r ≡ Ok None
given_none (Ok None) e = refl
given_none (Ok (Some chain)) e = cc
given_none (Err fault) e = cc

given_some : (r : Result (Option DescriptorChain) RingFault) → is_given r ≡ Ok true → r ≡ Ok (Some (chain_of r))
given_some (Ok None) e = cc
given_some (Ok (Some chain)) e = refl
given_some (Err fault) e = cc

-- the same by the value that was tested
pub none_given : (r : Result (Option DescriptorChain) RingFault) (b : Bool) → is_given r ≡ Ok b → b ≡ false →
    r ≡ Ok None
none_given r b e is = given_none r (e ∙ ap (λ (x : Bool). let o : Result Bool RingFault = Ok x in o) is)

pub some_given : (r : Result (Option DescriptorChain) RingFault) (b : Bool) → is_given r ≡ Ok b → b ≡ true →
    r ≡ Ok (Some (chain_of r))
some_given r b e is = given_some r (e ∙ ap (λ (x : Bool). let o : Result Bool RingFault = Ok x in o) is)

pub given_err : (r : Result (Option DescriptorChain) RingFault) (fault : RingFault) → is_given r ≡ Err fault →
    r ≡ Err fault
given_err (Ok None) fault e = cc
given_err (Ok (Some chain)) fault e = cc
given_err (Err other) fault e = cc

-- ---- a chain that was taken can be returned

next_if_outside : (bytes : List ℕ) (q : QueueFields) → ring_inside (length bytes) q ≡ false →
    next_chain bytes q ≡ Err Outside
unfolding next_chain
next_if_outside bytes q h = rw h refl

pub ring_of_chain : (bytes : List ℕ) (q : QueueFields) (chain : DescriptorChain) →
    next_chain bytes q ≡ Ok (Some chain) →
    ring_inside (length bytes) q ≡ true
ring_of_chain bytes q chain e =
    ⊎_elim (λ (inside : ring_inside (length bytes) q ≡ true). inside)
    (λ (outside : ring_inside (length bytes) q ≡ false). let fault = next_if_outside bytes q outside in
    absurd (let no : ⊥ = cc in no))
    (cases_Bool (ring_inside (length bytes) q))

-- ---- a delivery

deliver_is : (port : Port) (frame : List ℕ) (r : Result (Option DescriptorChain) RingFault) →
    next_of port receive_queue ≡ r →
    deliver port frame ≡ deliver_by port frame r
unfolding deliver
deliver_is port frame r e = ap (deliver_by port frame) e

pub deliver_none : (port : Port) (frame : List ℕ) → next_of port receive_queue ≡ Ok None →
    deliver port frame ≡ (let same : Delivery = record { port = port; fault = None } in same)
deliver_none port frame e = deliver_is port frame (Ok None) e

pub deliver_fault : (port : Port) (frame : List ℕ) (fault : RingFault) → next_of port receive_queue ≡ Err fault →
    deliver port frame
    ≡ (let failed : Delivery = record { port = take_chain port receive_queue (Err fault); fault = Some fault } in
    failed)
deliver_fault port frame fault e = deliver_is port frame (Err fault) e

deliver_by_chain : (port : Port) (frame : List ℕ) (chain : DescriptorChain) (card : Card) (memory : Memory)
    (head len : ℕ) →
    next_of port receive_queue ≡ Ok (Some chain) → card ≡ (take_chain port receive_queue (Ok (Some chain))).card →
    memory ≡ fill_chain port.memory chain frame → head ≡ chain.head → len ≡ filled_len chain frame →
    deliver port frame
    ≡ (let done : Delivery = record { port = return_chain (port_of card memory) receive_queue head len; fault = None }
    in done)
deliver_by_chain port frame chain card memory head len e c m h l =
    deliver_is port frame (Ok (Some chain)) e
    ∙ (λ i. record {
      port = return_chain (port_of (sym c i) (sym m i)) receive_queue (sym h i) (sym l i);
      fault = None;
    })

-- the same by what the calls of a delivery answered and left
pub deliver_chain : (port : Port) (frame : List ℕ) (b : Bool) (card : Card) (chain : DescriptorChain)
    (memory : Memory) (head len : ℕ) (left : Port) →
    is_given (next_of port receive_queue) ≡ Ok b → b ≡ true →
    card ≡ (take_chain port receive_queue (next_of port receive_queue)).card →
    chain ≡ chain_of (next_of port receive_queue) → memory ≡ fill_chain port.memory chain frame →
    head ≡ chain.head → len ≡ filled_len chain frame →
    left ≡ return_chain (port_of card memory) receive_queue head len →
    deliver port frame ≡ (let done : Delivery = record { port = left; fault = None } in done)
deliver_chain port frame b card chain memory head len left given is c taken m h l returned =
    let some = some_given (next_of port receive_queue) b given is in
    deliver_by_chain port frame (chain_of (next_of port receive_queue)) card memory head len some
    (c ∙ ap (λ r. (take_chain port receive_queue r).card) some)
    (m ∙ ap (λ x. fill_chain port.memory x frame) taken)
    (h ∙ ap (λ (x : DescriptorChain). x.head) taken)
    (l ∙ ap (λ x. filled_len x frame) taken)
    ∙ ap (λ (p : Port). let done : Delivery = record { port = p; fault = None } in done) (sym returned)
