-- What is written is read again.
use Rattle.std.proofs.Common.{◌≡◌, ℕ, zero, suc, ◌+◌, ◌*◌, ◌<◌, ◌^◌, List, [], ◌∷◌, ◌++◌, length, drop, refl, ap, sym, ◌∙◌, arith, slice_index, get_or}
use Rattle.std.proofs.Math.Seq.{drop-append_seam}
use Rattle.std.proofs.lemmas.List.{drop-drop}
use Rattle.byteorder.specs.Endian.{big_number}
use Rattle.rv_traps.specs.declared.fields.CsrFields.{CsrFields}
use Rattle.virt_queue.specs.Queue.{no_queue}
use Rattle.virt_queue.specs.declared.fields.QueueFields.{QueueFields}
use Rattle.virtio_mmio.specs.declared.fields.DeviceFields.{DeviceFields}
use Rattle.virtio_mmio.specs.Fields.{queue_at}
use Rattle.machine_bytes.proofs.NumberLemmas.{read_2, read_4, read_8, read_flag}
use Rattle.machine_bytes.specs.Legal.{AreCsrsInRange, IsQueueInRange, IsDeviceInRange}
use Rattle.machine_bytes.specs.Reading.{number_at, words_of, csrs_of, queue_of, device_of}
use Rattle.machine_bytes.specs.Spelling.{words_bytes, csr_bytes, queue_bytes, register_bytes}

pub words_read : (x rest : List ℕ) → ((k : ℕ) → slice_index x k < 2 ^ 32) →
    words_of (length x) (words_bytes x ++ rest) ≡ x
unfolding words_bytes words_of
words_read [] rest h = refl
words_read (w ∷ x) rest h =
    let head : number_at 4 (words_bytes (w ∷ x) ++ rest) 0 ≡ w = read_4 w (h 0) in
    rw (head, words_read x rest (λ k. h (suc k)))

pub length-words_bytes : (x : List ℕ) → length (words_bytes x) ≡ length x + (length x + (length x + length x))
unfolding words_bytes
length-words_bytes [] = refl
length-words_bytes (w ∷ x) = omega (arith, length-words_bytes x)

pub csrs_read : (c : CsrFields) (rest : List ℕ) → AreCsrsInRange c → csrs_of (csr_bytes c ++ rest) ≡ c
unfolding csrs_of csr_bytes
csrs_read c rest r = rw (
  read_4 c.mstatus r.mstatus,
  read_4 c.mie r.mie,
  read_4 c.mtvec r.mtvec,
  read_4 c.mscratch r.mscratch,
  read_4 c.mepc r.mepc,
  read_4 c.mcause r.mcause,
  read_4 c.mtval r.mtval,
  read_flag c.msip,
  read_8 c.mtime r.mtime,
  read_8 c.mtimecmp r.mtimecmp,
  read_8 c.steps r.steps,
)

pub queue_read : (q : QueueFields) (rest : List ℕ) → IsQueueInRange q → queue_of (queue_bytes q ++ rest) ≡ q
unfolding queue_of queue_bytes
queue_read q rest r = rw (
  read_4 q.num r.num,
  read_flag q.ready,
  read_8 q.desc r.desc,
  read_8 q.driver r.driver,
  read_8 q.device r.device,
  read_2 q.next r.next,
  read_2 q.used r.used,
)

two_queues : (queues : List QueueFields) (d : QueueFields) → length queues ≡ 2 →
    get_or queues 0 d ∷ get_or queues 1 d ∷ [] ≡ queues
two_queues (p ∷ q ∷ []) d e = refl
two_queues [] d e = absurd (let no : ⊥ = omega arith in no)
two_queues (p ∷ []) d e = absurd (let no : ⊥ = omega arith in no)
two_queues (p ∷ q ∷ r ∷ more) d e = absurd (let no : ⊥ = omega arith in no)

pub device_read : (d : DeviceFields) (rest : List ℕ) → IsDeviceInRange d → length d.queues ≡ 2 →
    device_of (register_bytes d ++ rest) (queue_at d 0) (queue_at d 1) ≡ d
unfolding device_of register_bytes
device_read d rest r count = rw (
  read_4 d.status r.status,
  read_4 d.device_features_sel r.device_features_sel,
  read_8 d.driver_features r.driver_features,
  read_4 d.driver_features_sel r.driver_features_sel,
  read_4 d.queue_sel r.queue_sel,
  read_4 d.interrupt_status r.interrupt_status,
  two_queues d.queues no_queue count,
)

-- after the first part of what stands at a place comes the rest
pub next : (m n : ℕ) (b s t : List ℕ) → drop m b ≡ s ++ t → length s ≡ n → drop (m + n) b ≡ t
next m n b s t e l = sym (drop-drop n m b) ∙ rw (e, sym l) (drop-append_seam s t)

pub words_from_reads : (n : ℕ) (b xs : List ℕ) → length xs ≡ n →
    ((k : ℕ) → k < n → get_or xs k 0 ≡ number_at 4 b (4 * k)) → xs ≡ words_of n b
unfolding words_of
words_from_reads zero b [] l h = refl
words_from_reads zero b (x ∷ xs) l h = absurd (let no : ⊥ = omega arith in no)
words_from_reads (suc n) b [] l h = absurd (let no : ⊥ = omega arith in no)
words_from_reads (suc n) b (x ∷ xs) l h =
    let at : (k : ℕ) → k < n → get_or xs k 0 ≡ number_at 4 (drop 4 b) (4 * k) = λ k below.
    let there : 4 * suc k ≡ 4 + 4 * k = omega arith in
    h (suc k) (omega arith) ∙ ap (λ (j : ℕ). big_number 4 (drop j b)) there ∙ ap (big_number 4) (sym (drop-drop
    (4 * k) 4 b)) in
    let first : x ≡ number_at 4 b 0 = h 0 (omega arith) in
    let rest : xs ≡ words_of n (drop 4 b) = words_from_reads n (drop 4 b) xs (omega arith) at in
    cc
