-- The descriptor chain at the next position of the available ring (VIRTIO 1.1, 2.6.4 "Message
-- Framing", 2.6.5 "The Virtqueue Descriptor Table" and 2.6.13 "Supplying Buffers to The Device"),
-- or the first reason why there is none. It is spoken of as a whole: the k-th descriptor, the first
-- that stops, and the parts up to it.
use Rattle.std.specs.Prelude.{◌≡◌, ◌↔◌, ℕ, ◌+◌, ◌<◌, ◌==◌, zero, suc, nat_lt, nat_le, Bool, true, false, not, ◌&&◌, ◌||◌, if◌then◌else◌, Option, Some, None, is_some, Result, Ok, Err, List, [], ◌∷◌, length, map}
use Rattle.std.specs.List.{range_with_len, position_or_len}
use Rattle.shared_definitions.specs.FirstOf.{first_of}
use Rattle.shared_definitions.specs.Memory.{is_inside}
use Rattle.virt_queue.specs.declared.fields.QueueFields.{QueueFields}
use Rattle.virt_queue.specs.declared.fields.RingFault.{RingFault}
use Rattle.virt_queue.specs.declared.fields.RingFault.TheVariants.{Loop, Outside, Size, Order}
use Rattle.virt_queue.specs.declared.fields.Part.{Part}
use Rattle.virt_queue.specs.declared.ring.Descriptor.{Descriptor}
use Rattle.virt_queue.specs.Parts.{DescriptorChain}
use Rattle.virt_queue.specs.Ring.{ring_inside, descriptor_at, has_next, is_writable, is_indirect, waiting, head_of, after_position}

-- the index of the chain's k-th descriptor, from 0: the head, and then each one's next
unfoldable pub index_at : List ℕ → QueueFields → ℕ → ℕ
index_at bytes q zero = head_of bytes q
index_at bytes q (suc k) = (descriptor_at bytes q (index_at bytes q k)).next

-- the k-th descriptor
abbrev pub link : List ℕ → QueueFields → ℕ → Descriptor
link bytes q k = descriptor_at bytes q (index_at bytes q k)

-- the part of memory that a descriptor names
abbrev pub part_of : Descriptor → Part
part_of d = record { addr = d.addr; len = d.len; writable = is_writable d }

-- whether the descriptor before the k-th is writable
unfoldable pub after_writable : List ℕ → QueueFields → ℕ → Bool
after_writable bytes q zero = false
after_writable bytes q (suc k) = is_writable (link bytes q k)

-- the tests of the k-th descriptor, in order: its index is in the table, no more descriptors than
-- the queue's number, no indirect table and no readable part after a writable one, and its part is
-- in memory
abbrev pub tests : List ℕ → QueueFields → ℕ → ℕ → Bool → List (RingFault × Bool)
tests bytes q k index after = let d = descriptor_at bytes q index in
    (Size, nat_le q.num index)
    ∷ (Loop, nat_le q.num k)
    ∷ (Order, is_indirect d || (after && not (is_writable d)))
    ∷ (Outside, not (is_inside (length bytes) d.addr d.len))
    ∷ []

-- the first fault of the k-th descriptor
abbrev pub fault_at : List ℕ → QueueFields → ℕ → Option RingFault
fault_at bytes q k = first_of (tests bytes q k (index_at bytes q k) (after_writable bytes q k))

-- whether the chain ends at the k-th descriptor, well or badly
abbrev pub stops : List ℕ → QueueFields → ℕ → Bool
stops bytes q k = is_some (fault_at bytes q k) || not (has_next (link bytes q k))

-- the place of the first descriptor at which it ends; at most the queue's number, where there is
-- one too many
unfoldable pub last_place : List ℕ → QueueFields → ℕ
last_place bytes q = position_or_len (stops bytes q) (range_with_len 0 q.num)

-- the parts of the first n descriptors
abbrev pub first_parts : List ℕ → QueueFields → ℕ → List Part
first_parts bytes q n = map (λ k. part_of (link bytes q k)) (range_with_len 0 n)

-- the chain up to there, or the fault
abbrev pub chain_to : List ℕ → QueueFields → ℕ → Option RingFault → Result DescriptorChain RingFault
chain_to bytes q last None =
    Ok (record { head = head_of bytes q; parts = first_parts bytes q (last + 1) })
chain_to bytes q last (Some fault) = Err fault

unfoldable pub read_chain : List ℕ → QueueFields → Result DescriptorChain RingFault
read_chain bytes q = let last = last_place bytes q in chain_to bytes q last (fault_at bytes q last)

-- a chain that was read is one that may be taken
abbrev pub some_chain : Result DescriptorChain RingFault → Result (Option DescriptorChain) RingFault
some_chain (Ok chain) = Ok (Some chain)
some_chain (Err fault) = Err fault

-- the next chain: the ring's parts are in memory, no more entries wait than the queue's number, one
-- waits, and its chain has no fault
unfoldable pub next_chain : List ℕ → QueueFields → Result (Option DescriptorChain) RingFault
next_chain bytes q =
    if not (ring_inside (length bytes) q) then Err Outside
    else if nat_lt q.num (waiting bytes q) then Err Size
    else if waiting bytes q == 0 then Ok None
    else some_chain (read_chain bytes q)

-- whether there is a chain or a fault
abbrev pub waits : Result (Option DescriptorChain) RingFault → Bool
waits (Ok None) = false
waits (Ok (Some chain)) = true
waits (Err fault) = true

-- what the call answers: whether there is a chain
abbrev pub is_given : Result (Option DescriptorChain) RingFault → Result Bool RingFault
is_given (Ok chain) = Ok (is_some chain)
is_given (Err fault) = Err fault

-- the chain that is left: the next one, or one without parts
abbrev pub no_chain : DescriptorChain
no_chain = record { head = 0; parts = [] }

abbrev pub chain_of : Result (Option DescriptorChain) RingFault → DescriptorChain
chain_of (Ok None) = no_chain
chain_of (Ok (Some chain)) = chain
chain_of (Err fault) = no_chain

-- the queue after it: the next position goes on by 1 where a chain was given
abbrev pub after_chain : QueueFields → Result (Option DescriptorChain) RingFault → QueueFields
after_chain q (Ok None) = q
after_chain q (Ok (Some chain)) = record q { next = after_position q.next }
after_chain q (Err fault) = q

-- a walk answers what was read, and leaves the chain where there is one
abbrev pub IsRead : Result DescriptorChain RingFault → Result (Unit {0}) RingFault →
    DescriptorChain → Type 0
IsRead (Ok chain) answer left = (answer ≡ Ok tt) × (left ≡ chain)
IsRead (Err fault) answer left = answer ≡ Err fault

-- each descriptor before the k-th has no fault and a next one
abbrev pub Leads : List ℕ → QueueFields → ℕ → Type 0
Leads bytes q k = (j : ℕ) → j < k → (fault_at bytes q j ≡ None) × (has_next (link bytes q j) ≡ true)

-- these are the parts of the ring's chain: they lead to a last descriptor, without a fault and
-- without a next one
abbrev pub IsChain : List ℕ → QueueFields → List Part → Type 0
IsChain bytes q parts = (k : ℕ) × (Leads bytes q k)
    × (fault_at bytes q k ≡ None) × (has_next (link bytes q k) ≡ false)
    × (parts ≡ first_parts bytes q (k + 1))

-- this is the first fault of the ring's chain
abbrev pub IsFault : List ℕ → QueueFields → RingFault → Type 0
IsFault bytes q fault = (k : ℕ) × (Leads bytes q k) × (fault_at bytes q k ≡ Some fault)

-- what is read is the ring's chain or its first fault, and each of them is read
pub record ReadsTheRing (bytes : List ℕ) (q : QueueFields) : Type 0 where
  pub chain : (c : DescriptorChain) → (read_chain bytes q ≡ Ok c)
      ↔ ((c.head ≡ head_of bytes q) × IsChain bytes q c.parts)
  pub fault : (f : RingFault) → (read_chain bytes q ≡ Err f) ↔ IsFault bytes q f
