-- The walk from a chain's head to its last descriptor, and the place of the first that stops.
use Rattle.std.proofs.Common.{◌≡◌, ℕ, ◌+◌, ◌<◌, ◌≤◌, Bool, true, false, not, ◌||◌, Option, Some, None, Result, Ok, Err, List, [], ◌∷◌, ◌++◌, length, get_or, refl, ap, sym, ◌∙◌, arith, ⊎_elim, add-one, zero-add, below_more}
use Rattle.std.specs.List.{range_with_len, position_or_len}
use Rattle.std.specs.Option.{is_some}
use Rattle.std.proofs.lemmas.List.FromFn.{length-range_with_len, length-map-range_with_len, get_or-range_with_len, map-range_with_len_more}
use Rattle.std.proofs.lemmas.List.Sums.{position_or_len_is, fails_before_first, passes_at_first, prefix_len-le-length}
use Rattle.std.proofs.lemmas.Bool.{cases_lt, le-leb, lt-leb, false≢true}
use Rattle.shared_definitions.specs.FirstOf.{first_of}
use Rattle.virt_queue.specs.declared.fields.QueueFields.{QueueFields}
use Rattle.virt_queue.specs.declared.fields.RingFault.{RingFault}
use Rattle.virt_queue.specs.declared.fields.RingFault.TheVariants.{Loop, Size}
use Rattle.virt_queue.specs.declared.fields.Part.{Part}
use Rattle.virt_queue.specs.declared.ring.Descriptor.{Descriptor}
use Rattle.virt_queue.specs.Parts.{DescriptorChain}
use Rattle.virt_queue.specs.Ring.{head_of, descriptor_at, has_next, is_writable}
use Rattle.virt_queue.specs.Chain.{index_at, link, part_of, after_writable, fault_at, stops, last_place, first_parts, chain_to, read_chain, tests}

-- what a walk knows at the k-th descriptor
pub record Walking (bytes : List ℕ) (q : QueueFields) (k index : ℕ) (after : Bool) (chain : DescriptorChain) : Type 0
  where
    pub index_is : index ≡ index_at bytes q k
    pub after_is : after ≡ after_writable bytes q k
    pub passed : (j : ℕ) → j < k → stops bytes q j ≡ false
    pub head : chain.head ≡ head_of bytes q
    pub parts : chain.parts ≡ first_parts bytes q k

pub walk_begins : (bytes : List ℕ) (q : QueueFields) (index : ℕ) (chain : DescriptorChain) → index ≡ head_of bytes q →
    chain.head ≡ head_of bytes q → chain.parts ≡ [] → Walking bytes q 0 index false chain
unfolding index_at after_writable
walk_begins bytes q index chain i h p = record {
  index_is = i;
  after_is = refl;
  passed = λ j lt. absurd (omega arith);
  head = h;
  parts = p;
}

-- the fault of a descriptor as a walk finds it
fault_found : (bytes : List ℕ) (q : QueueFields) (k index : ℕ) (after : Bool) (chain : DescriptorChain) →
    Walking bytes q k index after chain → first_of (tests bytes q k index after) ≡ fault_at bytes q k
fault_found bytes q k index after chain w =
    ap (λ (i : ℕ). first_of (tests bytes q k i after)) w.index_is
    ∙ ap (λ (a : Bool). first_of (tests bytes q k (index_at bytes q k) a)) w.after_is

-- the descriptor that a walk finds
link_is : (bytes : List ℕ) (q : QueueFields) (k index : ℕ) (after : Bool) (chain : DescriptorChain) (d :
    Descriptor) →
    Walking bytes q k index after chain → d ≡ descriptor_at bytes q index → d ≡ link bytes q k
link_is bytes q k index after chain d w e = e ∙ ap (descriptor_at bytes q) w.index_is

index_more : (bytes : List ℕ) (q : QueueFields) (k : ℕ) → (link bytes q k).next ≡ index_at bytes q (k + 1)
unfolding index_at
index_more bytes q k = rw add-one refl

after_more : (bytes : List ℕ) (q : QueueFields) (k : ℕ) → is_writable (link bytes q k) ≡ after_writable bytes q (k + 1)
unfolding after_writable
after_more bytes q k = rw add-one refl

-- a descriptor without a fault and with a next one doesn't stop it
goes_on : (fault : Option RingFault) (next : Bool) → fault ≡ None → next ≡ true → (is_some fault || not next) ≡ false
goes_on fault next f n = rw (f, n) refl

more_parts : (bytes : List ℕ) (q : QueueFields) (k : ℕ) (parts : List Part) (d : Descriptor) →
    parts ≡ first_parts bytes q k →
    d ≡ link bytes q k → parts ++ part_of d ∷ [] ≡ first_parts bytes q (k + 1)
more_parts bytes q k parts d p is =
    ap (λ (x : Descriptor). parts ++ part_of x ∷ []) is
    ∙ (ap (λ (xs : List Part). xs ++ part_of (link bytes q k) ∷ []) p
    ∙ sym (map-range_with_len_more (λ (j : ℕ). part_of (link bytes q j)) 0 k k (omega arith)))

pub walk_goes_on : (bytes : List ℕ) (q : QueueFields) (k index : ℕ) (after : Bool) (chain left : DescriptorChain) (d :
    Descriptor) →
    Walking bytes q k index after chain → first_of (tests bytes q k index after) ≡ None →
    d ≡ descriptor_at bytes q index → has_next d ≡ true →
    left.head ≡ chain.head → left.parts ≡ chain.parts ++ part_of d ∷ [] →
    Walking bytes q (k + 1) d.next (is_writable d) left
walk_goes_on bytes q k index after chain left d w fits at next head parts =
    let none = sym (fault_found bytes q k index after chain w) ∙ fits in
    let is = link_is bytes q k index after chain d w at in
    record {
      index_is = ap (λ (x : Descriptor). x.next) is ∙ index_more bytes q k;
      after_is = ap is_writable is ∙ after_more bytes q k;
      passed = below_more (λ (j : ℕ). stops bytes q j ≡ false) k w.passed
          (goes_on (fault_at bytes q k) (has_next (link bytes q k)) none (ap has_next (sym is) ∙ next));
      head = head ∙ w.head;
      parts = parts ∙ more_parts bytes q k chain.parts d w.parts is;
    }

-- the first place that stops
pub last_place_is : (bytes : List ℕ) (q : QueueFields) (k : ℕ) → k ≤ q.num → ((j : ℕ) → j < k →
    stops bytes q j ≡ false) →
    (k < q.num → stops bytes q k ≡ true) → last_place bytes q ≡ k
unfolding last_place
last_place_is bytes q k le before here =
    let all = length-range_with_len 0 q.num in
    let at : (j : ℕ) → j < q.num → get_or (range_with_len 0 q.num) j 0 ≡ j =
    λ j lt. get_or-range_with_len 0 q.num j 0 lt ∙ zero-add j in
    position_or_len_is (stops bytes q) (range_with_len 0 q.num) k 0 (omega arith)
    (λ j lt. ap (stops bytes q) (at j (omega arith)) ∙ before j lt)
    (λ lt. ap (stops bytes q) (at k (omega arith)) ∙ here (omega arith))

first_within : (bytes : List ℕ) (q : QueueFields) →
    position_or_len (stops bytes q) (range_with_len 0 q.num) ≤ length (range_with_len 0 q.num)
first_within bytes q = prefix_len-le-length (λ k. not (stops bytes q k)) (range_with_len 0 q.num)

pub before_last : (bytes : List ℕ) (q : QueueFields) (j : ℕ) → j < last_place bytes q → stops bytes q j ≡ false
unfolding last_place
before_last bytes q j lt =
    let within : j < q.num = omega (arith, first_within bytes q, length-range_with_len 0 q.num) in
    let at = get_or-range_with_len 0 q.num j 0 within ∙ zero-add j in
    sym (ap (stops bytes q) at) ∙ fails_before_first (stops bytes q) (range_with_len 0 q.num) j 0 lt

pub at_last : (bytes : List ℕ) (q : QueueFields) → last_place bytes q < q.num →
    stops bytes q (last_place bytes q) ≡ true
unfolding last_place
at_last bytes q lt =
    let k = last_place bytes q in
    let at = get_or-range_with_len 0 q.num k 0 lt ∙ zero-add k in
    sym (ap (stops bytes q) at) ∙ passes_at_first (stops bytes q) (range_with_len 0 q.num) 0 (omega (
      arith,
      length-range_with_len 0 q.num,
    ))

pub read_at : (bytes : List ℕ) (q : QueueFields) (k : ℕ) → last_place bytes q ≡ k →
    read_chain bytes q ≡ chain_to bytes q k (fault_at bytes q k)
unfolding read_chain
read_at bytes q k e = ap (λ (j : ℕ). chain_to bytes q j (fault_at bytes q j)) e

pub stops_well : (fault : Option RingFault) (next : Bool) → next ≡ false → (is_some fault || not next) ≡ true
stops_well None next n = rw n refl
stops_well (Some f) next n = refl

pub stops_badly : (fault : Option RingFault) (next : Bool) (f : RingFault) → fault ≡ Some f →
    (is_some fault || not next) ≡ true
stops_badly fault next f e = rw e refl

pub same_chain : (left : DescriptorChain) (head : ℕ) (parts : List Part) → left.head ≡ head → left.parts ≡ parts →
    (let chain : DescriptorChain = record { head = head; parts = parts } in chain ≡ left)
same_chain left head parts h p = λ i. record { head = sym h i; parts = sym p i }

pub walk_ends : (bytes : List ℕ) (q : QueueFields) (k index : ℕ) (after : Bool) (chain left : DescriptorChain) (d :
    Descriptor) →
    k ≤ q.num → Walking bytes q k index after chain → first_of (tests bytes q k index after) ≡ None →
    d ≡ descriptor_at bytes q index → has_next d ≡ false →
    left.head ≡ chain.head → left.parts ≡ chain.parts ++ part_of d ∷ [] → read_chain bytes q ≡ Ok left
walk_ends bytes q k index after chain left d le w fits at next head parts =
    let none = sym (fault_found bytes q k index after chain w) ∙ fits in
    let is = link_is bytes q k index after chain d w at in
    let last = last_place_is bytes q k le w.passed
    (λ lt. stops_well (fault_at bytes q k) (has_next (link bytes q k)) (ap has_next (sym is) ∙ next)) in
    read_at bytes q k last
    ∙ (ap (chain_to bytes q k) none
    ∙ ap (λ (c : DescriptorChain). let r : Result DescriptorChain RingFault = Ok c in r)
    (same_chain left (head_of bytes q) (first_parts bytes q (k + 1)) (head ∙ w.head)
    (parts ∙ more_parts bytes q k chain.parts d w.parts is)))

pub walk_fails : (bytes : List ℕ) (q : QueueFields) (k index : ℕ) (after : Bool) (chain : DescriptorChain) (fault :
    RingFault) →
    k ≤ q.num → Walking bytes q k index after chain → first_of (tests bytes q k index after) ≡ Some fault →
    read_chain bytes q ≡ Err fault
walk_fails bytes q k index after chain fault le w found =
    let here = sym (fault_found bytes q k index after chain w) ∙ found in
    read_at bytes q k
    (last_place_is bytes q k le w.passed (λ lt. stops_badly (fault_at bytes q k) (has_next (link bytes q k)) fault
    here))
    ∙ ap (chain_to bytes q k) here

-- at the queue's number a descriptor always has a fault
pub fault_at_number : (bytes : List ℕ) (q : QueueFields) → (f : RingFault) × (fault_at bytes q q.num ≡ Some f)
fault_at_number bytes q =
    ⊎_elim
    (λ (lt : index_at bytes q q.num < q.num). (
      Loop,
      rw (
        lt-leb q.num (index_at bytes q q.num) lt,
        le-leb q.num q.num
            (omega arith),
      ) refl,
    ))
    (λ (le : q.num ≤ index_at bytes q q.num). (Size, rw (le-leb q.num (index_at bytes q q.num) le) refl))
    (cases_lt (index_at bytes q q.num) q.num)

pub walk_is_bounded : (bytes : List ℕ) (q : QueueFields) (index : ℕ) (after : Bool) (chain : DescriptorChain) →
    Walking bytes q (q.num + 1) index after chain → ⊥
walk_is_bounded bytes q index after chain w =
    let fault = fault_at_number bytes q in
    false≢true (sym (w.passed q.num (omega arith))
    ∙ stops_badly (fault_at bytes q q.num) (has_next (link bytes q q.num)) fault.0 fault.1)

pub few_parts : (bytes : List ℕ) (q : QueueFields) (k : ℕ) (parts : List Part) → parts ≡ first_parts bytes q k →
    length parts ≡ k
few_parts bytes q k parts e = ap length e ∙ length-map-range_with_len (λ (j : ℕ). part_of (link bytes q j)) 0 k

-- the part that a walk pushes
pub push_part : (parts : List Part) (d : Descriptor) (writable : Bool) → writable ≡ is_writable d →
    (let part : Part = record { addr = d.addr; len = d.len; writable = writable } in
    parts ++ part ∷ []) ≡ parts ++ part_of d ∷ []
push_part parts d writable e =
    ap (λ (b : Bool). let part : Part = record { addr = d.addr; len = d.len; writable = b } in parts ++ part ∷ []) e
