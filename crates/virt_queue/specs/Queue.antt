-- The fields of a queue (VIRTIO 1.1, 2.6 "Split Virtqueues" and 4.2.2 "MMIO Device Register
-- Layout").
use Rattle.std.specs.Prelude.{ℕ, Bool, false, not, ◌||◌, nat_eq, List, [], ◌∷◌}
use Rattle.std.specs.List.{list_any}
use Rattle.virt_queue.specs.declared.fields.QueueFields.{QueueFields}

-- the sizes that a queue may have: the powers of two up to 256
abbrev pub queue_sizes : List ℕ
queue_sizes = 1 ∷ 2 ∷ 4 ∷ 8 ∷ 16 ∷ 32 ∷ 64 ∷ 128 ∷ 256 ∷ []

abbrev pub is_queue_size : ℕ → Bool
is_queue_size n = list_any (nat_eq n) queue_sizes

-- whether a queue can have these values: where it is ready it has a size
abbrev pub is_legal : QueueFields → Bool
is_legal q = not q.ready || is_queue_size q.num

-- a queue that isn't ready, with all fields 0
abbrev pub no_queue : QueueFields
no_queue = record { num = 0; ready = false; desc = 0; driver = 0; device = 0; next = 0; used = 0 }
