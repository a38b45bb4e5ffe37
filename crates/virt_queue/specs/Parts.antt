-- The parts of memory that a descriptor chain names, and the bytes in them, joined (VIRTIO 1.1,
-- 2.6.4 "Message Framing": how the bytes are cut into parts means nothing).
use Rattle.std.specs.Prelude.{ℕ, ◌+◌, ◌-◌, nat_le, Bool, true, false, not, ◌&&◌, if◌then◌else◌, Option, Some, None, option_and_then, List, [], ◌∷◌, ◌++◌, length, take, drop, filter, sum_by, slice_get}
use Rattle.std.specs.List.{list_all}
use Rattle.shared_definitions.specs.Memory.{is_inside}
use Rattle.page_track.specs.Memory.{Memory, part_at, find_part, with_part}
use Rattle.virt_queue.specs.declared.fields.Part.{Part}

-- a chain: the index of its first descriptor, and its parts
pub record DescriptorChain : Type 0 where
  pub head : ℕ
  pub parts : List Part

-- the bytes of part k, where there is one and it is in memory
abbrev pub find_chain_part : List ℕ → DescriptorChain → ℕ → Option (List ℕ)
find_chain_part bytes chain k =
    option_and_then (λ (p : Part). find_part bytes p.addr p.len) (slice_get chain.parts k)

-- the bytes of part k from its byte `from` on, n of them, where it is writable, in memory and as
-- long
abbrev pub find_writable : List ℕ → DescriptorChain → ℕ → ℕ → ℕ → Option (List ℕ)
find_writable bytes chain k from n = option_and_then
    (λ (p : Part).
    if p.writable && (nat_le (from + n) p.len && is_inside (length bytes) p.addr p.len)
    then Some (part_at bytes (p.addr + from) n) else None)
    (slice_get chain.parts k)

-- whether all parts are in memory of this size
abbrev pub parts_inside : ℕ → List Part → Bool
parts_inside size parts = list_all (λ (p : Part). is_inside size p.addr p.len) parts

-- whether a part is one that the device writes, or one that it reads
abbrev pub is_of_kind : Bool → Part → Bool
is_of_kind true p = p.writable
is_of_kind false p = not p.writable

-- the parts that the device writes, or those that it reads
abbrev pub of_kind : Bool → List Part → List Part
of_kind writable parts = filter (is_of_kind writable) parts

abbrev pub readable : List Part → List Part
readable parts = of_kind false parts

abbrev pub writable : List Part → List Part
writable parts = of_kind true parts

-- how many bytes parts have together
abbrev pub total_len : List Part → ℕ
total_len parts = sum_by (λ (p : Part). p.len) parts

-- the bytes of parts, joined
unfoldable pub join_parts : List ℕ → List Part → List ℕ
join_parts bytes [] = []
join_parts bytes (p ∷ parts) = part_at bytes p.addr p.len ++ join_parts bytes parts

-- parts without their first n bytes
unfoldable pub skip : ℕ → List Part → List Part
skip n [] = []
skip n (p ∷ parts) =
    if nat_le p.len n then skip (n - p.len) parts
    else record { addr = p.addr + n; len = p.len - n; writable = p.writable } ∷ parts

-- memory with bytes written over parts: the first over the first part, and so on to the end of
-- either
unfoldable pub write_joined : Memory → List Part → List ℕ → Memory
write_joined memory [] bytes = memory
write_joined memory (p ∷ parts) bytes =
    write_joined (with_part memory p.addr (take p.len bytes)) parts (drop p.len bytes)
