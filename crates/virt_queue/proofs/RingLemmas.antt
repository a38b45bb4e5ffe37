-- What is read of a ring is its chain or its first fault, and each of them is read.
use Rattle.std.proofs.Common.{◌≡◌, ℕ, ◌+◌, ◌<◌, ◌≤◌, zero, suc, Bool, true, false, not, ◌&&◌, ◌||◌, Option, Some, None, Result, Ok, Err, List, [], ◌∷◌, map, length, refl, ap, sym, ◌∙◌, arith, ⊎_elim, add-one, below_more}
use Rattle.std.specs.List.{range_with_len}
use Rattle.std.specs.Option.{is_some}
use Rattle.std.specs.Prelude.{nat_le}
use Rattle.std.proofs.lemmas.List.FromFn.{map-range_with_len_more}
use Rattle.std.proofs.lemmas.List.Folds.{list_all-append}
use Rattle.std.proofs.lemmas.Bool.{cases_lt, false≢true, not-false, not-true, and_from}
use Rattle.shared_definitions.specs.FirstOf.{first_of}
use Rattle.virt_queue.specs.declared.fields.QueueFields.{QueueFields}
use Rattle.virt_queue.specs.declared.fields.RingFault.{RingFault}
use Rattle.shared_definitions.specs.Memory.{is_inside}
use Rattle.virt_queue.specs.declared.fields.RingFault.TheVariants.{Loop, Outside, Size, Order}
use Rattle.virt_queue.specs.declared.fields.Part.{Part}
use Rattle.virt_queue.specs.Parts.{DescriptorChain, parts_inside}
use Rattle.virt_queue.specs.Ring.{head_of, has_next, is_indirect, is_writable}
use Rattle.virt_queue.specs.Chain.{index_at, after_writable, link, fault_at, stops, last_place, first_parts, chain_to, read_chain, Leads, IsChain, IsFault, ReadsTheRing, part_of, after_chain}
use Rattle.virt_queue.proofs.ChainLemmas.{last_place_is, read_at, same_chain, fault_at_number, stops_well, stops_badly, before_last, at_last}

-- what doesn't stop has no fault and a next one
passed : (fault : Option RingFault) (next : Bool) → (is_some fault || not next) ≡ false → (fault ≡ None) × (next ≡ true)
passed None next e = (refl, not-false next e)
passed (Some f) next e = absurd (false≢true (sym e))

leads_to_last : (bytes : List ℕ) (q : QueueFields) → Leads bytes q (last_place bytes q)
leads_to_last bytes q j lt = passed (fault_at bytes q j) (has_next (link bytes q j)) (before_last bytes q j lt)

-- no descriptor at the queue's number or past it is led to without a fault
led_within : (bytes : List ℕ) (q : QueueFields) (k : ℕ) → Leads bytes q k → k ≤ q.num
led_within bytes q k leads =
    ⊎_elim
    (λ (past : q.num < k). let fault = fault_at_number bytes q in
    let none = sym fault.1 ∙ (leads q.num past).0 in absurd (let no : ⊥ = cc in no))
    (λ (within : k ≤ q.num). within)
    (cases_lt q.num k)

never : (bytes : List ℕ) (q : QueueFields) (k : ℕ) → Leads bytes q k → (j : ℕ) → j < k → stops bytes q j ≡ false
never bytes q k leads j lt = let on = leads j lt in rw (on.0, on.1) refl

ends : (fault : Option RingFault) (next : Bool) → (is_some fault || not next) ≡ true → fault ≡ None → next ≡ false
ends None next e none = not-true next e
ends (Some f) next e none = cc

-- the last descriptor of a chain that was read has no next one
last_ends : (bytes : List ℕ) (q : QueueFields) → fault_at bytes q (last_place bytes q) ≡ None →
    has_next (link bytes q (last_place bytes q)) ≡ false
last_ends bytes q none =
    let k = last_place bytes q in
    ⊎_elim
    (λ (lt : k < q.num). ends (fault_at bytes q k) (has_next (link bytes q k)) (at_last bytes q lt) none)
    (λ (le : q.num ≤ k). let within = led_within bytes q k (leads_to_last bytes q) in
    let at : k ≡ q.num = omega arith in
    let fault = fault_at_number bytes q in
    let there = ap (fault_at bytes q) at in absurd (let no : ⊥ = cc in no))
    (cases_lt k q.num)

read_is : (bytes : List ℕ) (q : QueueFields) (fault : Option RingFault) →
    fault_at bytes q (last_place bytes q) ≡ fault →
    read_chain bytes q ≡ chain_to bytes q (last_place bytes q) fault
read_is bytes q fault e = read_at bytes q (last_place bytes q) refl ∙ ap (chain_to bytes q (last_place bytes q)) e

chain_read : (bytes : List ℕ) (q : QueueFields) (c : DescriptorChain) (fault : Option RingFault) →
    fault_at bytes q (last_place bytes q) ≡ fault → read_chain bytes q ≡ Ok c → (c.head ≡ head_of bytes q)
    × IsChain bytes q c.parts
chain_read bytes q c None e r =
    let k = last_place bytes q in
    let whole : DescriptorChain = record { head = head_of bytes q; parts = first_parts bytes q (k + 1) } in
    let same : c ≡ whole = let s = sym r ∙ read_is bytes q None e in cc in (
      ap (λ (x : DescriptorChain). x.head) same,
      (k, leads_to_last bytes q, e, last_ends bytes q e, ap (λ (x : DescriptorChain). x.parts) same),
    )
chain_read bytes q c (Some f) e r = let s = sym r ∙ read_is bytes q (Some f) e in absurd (let no : ⊥ = cc in no)

fault_read : (bytes : List ℕ) (q : QueueFields) (f : RingFault) (fault : Option RingFault) →
    fault_at bytes q (last_place bytes q) ≡ fault → read_chain bytes q ≡ Err f → IsFault bytes q f
fault_read bytes q f None e r = let s = sym r ∙ read_is bytes q None e in absurd (let no : ⊥ = cc in no)
fault_read bytes q f (Some g) e r =
    let same : g ≡ f = let s = sym r ∙ read_is bytes q (Some g) e in cc in
    (last_place bytes q, leads_to_last bytes q, e ∙ ap (λ (x : RingFault). let o : Option RingFault = Some x in o) same)

chain_is_read : (bytes : List ℕ) (q : QueueFields) (c : DescriptorChain) → (c.head ≡ head_of bytes q)
    × IsChain bytes q c.parts →
    read_chain bytes q ≡ Ok c
chain_is_read bytes q c (head, (k, leads, none, end, parts)) =
    let last = last_place_is bytes q k (led_within bytes q k leads) (never bytes q k leads)
    (λ lt. stops_well (fault_at bytes q k) (has_next (link bytes q k)) end) in
    read_at bytes q k last
    ∙ (ap (chain_to bytes q k) none
    ∙ ap (λ (x : DescriptorChain). let r : Result DescriptorChain RingFault = Ok x in r)
    (same_chain c (head_of bytes q) (first_parts bytes q (k + 1)) head parts))

fault_is_read : (bytes : List ℕ) (q : QueueFields) (f : RingFault) → IsFault bytes q f → read_chain bytes q ≡ Err f
fault_is_read bytes q f (k, leads, fault) =
    let last = last_place_is bytes q k (led_within bytes q k leads) (never bytes q k leads)
    (λ lt. stops_badly (fault_at bytes q k) (has_next (link bytes q k)) f fault) in
    read_at bytes q k last ∙ ap (chain_to bytes q k) fault

-- where no test holds the last one doesn't
last_test : (a b c d : Bool) → first_of ((Size, a) ∷ (Loop, b) ∷ (Order, c) ∷ (Outside, d) ∷ []) ≡ None → d ≡ false
last_test true b c d e = cc
last_test false true c d e = cc
last_test false false true d e = cc
last_test false false false true e = cc
last_test false false false false e = refl

-- a part whose descriptor has no fault is in memory
link_inside : (bytes : List ℕ) (q : QueueFields) (k : ℕ) → fault_at bytes q k ≡ None →
    is_inside (length bytes) (link bytes q k).addr (link bytes q k).len ≡ true
link_inside bytes q k e =
    let d = link bytes q k in
    let outside = not (is_inside (length bytes) d.addr d.len) in
    not-false (is_inside (length bytes) d.addr d.len)
    (last_test (nat_le q.num (index_at bytes q k)) (nat_le q.num k) (is_indirect d || (after_writable bytes q k && not
    (is_writable d)))
    outside e)

first_inside : (bytes : List ℕ) (q : QueueFields) (n : ℕ) → ((j : ℕ) → j < n → fault_at bytes q j ≡ None) →
    parts_inside (length bytes) (first_parts bytes q n) ≡ true
first_inside bytes q zero none = refl
first_inside bytes q (suc n) none =
    let part = λ (j : ℕ). part_of (link bytes q j) in
    let last = link_inside bytes q n (none n (omega arith)) in
    let before = first_inside bytes q n (λ j lt. none j (omega arith)) in
    ap (λ (m : ℕ). parts_inside (length bytes) (map part (range_with_len 0 m))) (sym (add-one n))
    ∙ (ap (parts_inside (length bytes)) (map-range_with_len_more part 0 n n (omega arith))
    ∙ (list_all-append (λ (p : Part). is_inside (length bytes) p.addr p.len) (first_parts bytes q n) (part n ∷ [])
    ∙ and_from _ _ before (and_from _ _ last refl)))

-- the parts of a chain that was read are in memory
chain_inside : (bytes : List ℕ) (q : QueueFields) (c : DescriptorChain) → IsChain bytes q c.parts →
    parts_inside (length bytes) c.parts ≡ true
chain_inside bytes q c (k, leads, none, end, parts) =
    ap (parts_inside (length bytes)) parts
    ∙ first_inside bytes q (k + 1) (below_more (λ (j : ℕ). fault_at bytes q j ≡ None) k (λ j lt. (leads j lt).0) none)

pub read_inside : (bytes : List ℕ) (q : QueueFields) (c : DescriptorChain) → read_chain bytes q ≡ Ok c →
    parts_inside (length bytes) c.parts ≡ true
read_inside bytes q c r = chain_inside bytes q c (chain_read bytes q c (fault_at bytes q (last_place bytes q)) refl r).1

pub ready_after : (q : QueueFields) (answer : Result (Option DescriptorChain) RingFault) →
    (after_chain q answer).ready ≡ q.ready
ready_after q (Ok None) = refl
ready_after q (Ok (Some chain)) = refl
ready_after q (Err fault) = refl

pub reads_the_ring : (bytes : List ℕ) (q : QueueFields) → ReadsTheRing bytes q
reads_the_ring bytes q = record {
  chain = λ c. (chain_read bytes q c (fault_at bytes q (last_place bytes q)) refl, chain_is_read bytes q c);
  fault = λ f. (fault_read bytes q f (fault_at bytes q (last_place bytes q)) refl, fault_is_read bytes q f);
}
