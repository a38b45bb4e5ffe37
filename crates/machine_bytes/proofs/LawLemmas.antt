-- The bytes of a state and its values are one, both ways.
use Rattle.std.proofs.Common.{◌≡◌, ℕ, zero, suc, ◌+◌, ◌<◌, ◌≤◌, ◌^◌, ◌%◌, Bool, true, false, List, [], ◌++◌, length, take, drop, refl, ap, sym, subst, ◌∙◌, arith, append_assoc, append-nil, length-append, length-drop, not, slice_index}
use Rattle.std.specs.Prelude.{◌==◌, ◌↔◌, IsTrue}
use Rattle.std.specs.Cmp.Derive.{both_true}
use Rattle.std.proofs.lemmas.Bool.{eq-eqb, eqb-true, and_parts, false_from_ne_true}
use Rattle.std.proofs.Math.Seq.{take-append_seam, take-length}
use Rattle.std.proofs.lemmas.List.{drop-drop, length-take-le}
use Rattle.byteorder.specs.Endian.{big_bytes, big_number}
use Rattle.byteorder.specs.Numbers.{big_from-lt}
use Rattle.rv_traps.specs.CsrState.{AreLegal, mstatus_of, mie_of, is_set}
use Rattle.rv_traps.specs.declared.fields.CsrFields.{CsrFields}
use Rattle.virt_queue.specs.Queue.{no_queue}
use Rattle.virt_queue.specs.declared.fields.QueueFields.{QueueFields}
use Rattle.virtio_mmio.specs.declared.fields.DeviceFields.{DeviceFields}
use Rattle.virtio_mmio.specs.Fields.{queue_at}
use Rattle.machine_bytes.specs.Laws.{ReadsBack, AreAccepted, AreLegalFields, WritesBack}
use Rattle.machine_bytes.specs.Legal.{IsInRange, IsLegal, AreCsrsInRange, IsQueueInRange, IsDeviceInRange}
use Rattle.machine_bytes.specs.Reading.{number_at, is_flag, words_of, csrs_of, queue_of, device_of, fields_in, has_flags, has_legal_csrs, has_legal_fields, accepts}
use Rattle.machine_bytes.specs.Spelling.{flag_number, words_bytes, csr_bytes, reservation_bytes, queue_bytes, register_bytes, network_bytes, block_bytes, bytes_of}
use Rattle.shared_definitions.specs.Bytes.{AreBytes}
use Rattle.shared_definitions.proofs.ByteLemmas.{AreBytes-part, AreBytes-drop}
use Rattle.machine_bytes.proofs.NumberLemmas.{read_4, read_small_flag, written_4, written_small_flag}
use Rattle.machine_bytes.proofs.ReadLemmas.{words_read, length-words_bytes, csrs_read, queue_read, device_read, next}
use Rattle.machine_bytes.proofs.WriteLemmas.{more, words_written, csrs_written, queue_written, registers_written}
use Rattle.machine_bytes.specs.declared.fields.StateFields.{StateFields}

-- ---- the bytes from each part on

abbrev from_block_queue : StateFields → List ℕ
from_block_queue v = queue_bytes (queue_at v.block 0) ++ []

abbrev from_block : StateFields → List ℕ
from_block v = register_bytes v.block ++ from_block_queue v

abbrev from_neighbour : StateFields → List ℕ
from_neighbour v = v.neighbour ++ from_block v

abbrev from_second : StateFields → List ℕ
from_second v = queue_bytes (queue_at v.net 1) ++ from_neighbour v

abbrev from_first : StateFields → List ℕ
from_first v = queue_bytes (queue_at v.net 0) ++ from_second v

abbrev from_net : StateFields → List ℕ
from_net v = register_bytes v.net ++ from_first v

abbrev from_reservation : StateFields → List ℕ
from_reservation v = reservation_bytes v.hart ++ from_net v

abbrev from_csrs : StateFields → List ℕ
from_csrs v = csr_bytes v.csrs ++ from_reservation v

abbrev from_words : StateFields → List ℕ
from_words v = words_bytes v.hart.x ++ from_csrs v

regroup : (pc x c r g p q n h k : List ℕ) → pc ++ x ++ c ++ r ++ (g ++ p ++ q) ++ n ++ (h ++ k)
    ≡ pc ++ (x ++ (c ++ (r ++ (g ++ (p ++ (q ++ (n ++ (h ++ (k ++ [])))))))))
regroup pc x c r g p q n h k = simp (append_assoc, append-nil)

bytes_joined : (v : StateFields) → bytes_of v ≡ big_bytes 4 v.hart.pc ++ from_words v
unfolding bytes_of network_bytes block_bytes
bytes_joined v = regroup (big_bytes 4 v.hart.pc) (words_bytes v.hart.x) (csr_bytes v.csrs) (reservation_bytes v.hart)
    (register_bytes v.net) (queue_bytes (queue_at v.net 0)) (queue_bytes (queue_at v.net 1)) v.neighbour
    (register_bytes v.block) (queue_bytes (queue_at v.block 0))

-- the parts of a state's bytes by their places
record HasParts (v : StateFields) (b : List ℕ) : Type 0 where
  pc : b ≡ big_bytes 4 v.hart.pc ++ from_words v
  words : drop 4 b ≡ from_words v
  csrs : drop 128 b ≡ from_csrs v
  reservation : drop 184 b ≡ from_reservation v
  address : drop 185 b ≡ big_bytes 4 v.hart.address ++ from_net v
  net : drop 189 b ≡ from_net v
  first : drop 217 b ≡ from_first v
  second : drop 253 b ≡ from_second v
  neighbour : drop 289 b ≡ from_neighbour v
  block : drop 295 b ≡ from_block v
  block_queue : drop 323 b ≡ from_block_queue v

length-csr_bytes : (v : StateFields) → length (csr_bytes v.csrs) ≡ 56
unfolding csr_bytes
length-csr_bytes v = refl

length-queue_bytes : (q : QueueFields) → length (queue_bytes q) ≡ 36
unfolding queue_bytes
length-queue_bytes q = refl

length-register_bytes : (d : DeviceFields) → length (register_bytes d) ≡ 28
unfolding register_bytes
length-register_bytes d = refl

has_parts : (v : StateFields) → IsInRange v → HasParts v (bytes_of v)
unfolding reservation_bytes
has_parts v r =
    let b : List ℕ = bytes_of v in
    let words : length (words_bytes v.hart.x) ≡ 124 = length-words_bytes v.hart.x ∙ rw r.hart.count in
    let pc : drop 0 b ≡ big_bytes 4 v.hart.pc ++ from_words v = bytes_joined v in
    let p4 : drop 4 b ≡ from_words v = next 0 4 b (big_bytes 4 v.hart.pc) (from_words v) pc refl in
    let p128 : drop 128 b ≡ from_csrs v = next 4 124 b (words_bytes v.hart.x) (from_csrs v) p4 words in
    let p184 : drop 184 b ≡ from_reservation v =
    next 128 56 b (csr_bytes v.csrs) (from_reservation v) p128 (length-csr_bytes v) in
    let p185 : drop 185 b ≡ big_bytes 4 v.hart.address ++ from_net v =
    next 184 1 b (big_bytes 1 (flag_number v.hart.reserved)) (big_bytes 4 v.hart.address ++ from_net v) p184 refl in
    let p189 : drop 189 b ≡ from_net v = next 185 4 b (big_bytes 4 v.hart.address) (from_net v) p185 refl in
    let p217 : drop 217 b ≡ from_first v =
    next 189 28 b (register_bytes v.net) (from_first v) p189 (length-register_bytes v.net) in
    let p253 : drop 253 b ≡ from_second v =
    next 217 36 b (queue_bytes (queue_at v.net 0)) (from_second v) p217 (length-queue_bytes (queue_at v.net 0)) in
    let p289 : drop 289 b ≡ from_neighbour v =
    next 253 36 b (queue_bytes (queue_at v.net 1)) (from_neighbour v) p253 (length-queue_bytes
    (queue_at v.net 1)) in
    let p295 : drop 295 b ≡ from_block v = next 289 6 b v.neighbour (from_block v) p289 r.count in
    let p323 : drop 323 b ≡ from_block_queue v =
    next 295 28 b (register_bytes v.block) (from_block_queue v) p295 (length-register_bytes v.block) in
    record {
      pc = pc;
      words = p4;
      csrs = p128;
      reservation = p184;
      address = p185;
      net = p189;
      first = p217;
      second = p253;
      neighbour = p289;
      block = p295;
      block_queue = p323;
    }

-- ---- what is written is read again

reads : (v : StateFields) (b : List ℕ) → IsInRange v → queue_at v.block 1 ≡ no_queue → HasParts v b → fields_in b ≡ v
unfolding fields_in reservation_bytes
reads v b r none p =
    let pc : number_at 4 b 0 ≡ v.hart.pc = rw p.pc (read_4 v.hart.pc r.hart.pc) in
    let x : words_of 31 (drop 4 b) ≡ v.hart.x =
    subst (λ (n : ℕ). words_of n (drop 4 b) ≡ v.hart.x) r.hart.count (rw p.words (words_read v.hart.x
    (from_csrs v) r.hart.x)) in
    let reserved : (number_at 1 b 184 == 1) ≡ v.hart.reserved = rw p.reservation (read_small_flag v.hart.reserved) in
    let address : number_at 4 b 185 ≡ v.hart.address = rw p.address (read_4 v.hart.address r.hart.address) in
    let csrs : csrs_of (drop 128 b) ≡ v.csrs = rw p.csrs (csrs_read v.csrs (from_reservation v) r.csrs) in
    let first : queue_of (drop 217 b) ≡ queue_at v.net 0 =
    rw p.first (queue_read (queue_at v.net 0) (from_second v) r.receives) in
    let second : queue_of (drop 253 b) ≡ queue_at v.net 1 =
    rw p.second (queue_read (queue_at v.net 1) (from_neighbour v) r.sends) in
    let net : device_of (drop 189 b) (queue_of (drop 217 b)) (queue_of (drop 253 b)) ≡ v.net =
    rw (first, second, p.net) (device_read v.net (from_first v) r.net r.net_queues) in
    let neighbour : take 6 (drop 289 b) ≡ v.neighbour =
    subst (λ (n : ℕ). take n (drop 289 b) ≡ v.neighbour) r.count (rw p.neighbour (take-append_seam v.neighbour
    (from_block v))) in
    let queue : queue_of (drop 323 b) ≡ queue_at v.block 0 =
    rw p.block_queue (queue_read (queue_at v.block 0) [] r.serves) in
    let block : device_of (drop 295 b) (queue_of (drop 323 b)) no_queue ≡ v.block =
    rw (queue, p.block)
    (subst (λ (q : QueueFields). device_of (from_block v) (queue_at v.block 0) q ≡ v.block) none
    (device_read v.block (from_block_queue v) r.block r.block_queues)) in
    rw (pc, x, reserved, address, csrs, net, neighbour, block)

pub reads_back : ReadsBack
reads_back v r legal = reads v (bytes_of v) r ((legal.block 0).one_queue refl) (has_parts v r)

-- ---- it is accepted

flag_is_flag : (on : Bool) → is_flag (big_number 4 (big_bytes 4 (flag_number on))) ≡ true
flag_is_flag true = refl
flag_is_flag false = refl

small_flag_is_flag : (on : Bool) → is_flag (big_number 1 (big_bytes 1 (flag_number on))) ≡ true
small_flag_is_flag true = refl
small_flag_is_flag false = refl

flags_are_flags : (v : StateFields) (b : List ℕ) → HasParts v b → has_flags b ≡ true
unfolding has_flags csr_bytes reservation_bytes queue_bytes
flags_are_flags v b p =
    let msip_at : drop 156 b ≡ drop 28 (from_csrs v) =
    next 128 28 b (take 28 (from_csrs v)) (drop 28 (from_csrs v)) p.csrs refl in
    let first_at : drop 221 b ≡ drop 4 (from_first v) =
    next 217 4 b (take 4 (from_first v)) (drop 4 (from_first v)) p.first refl in
    let second_at : drop 257 b ≡ drop 4 (from_second v) =
    next 253 4 b (take 4 (from_second v)) (drop 4 (from_second v)) p.second refl in
    let third_at : drop 327 b ≡ drop 4 (from_block_queue v) =
    next 323 4 b (take 4 (from_block_queue v)) (drop 4 (from_block_queue v)) p.block_queue refl in
    let msip : is_flag (number_at 4 b 156) ≡ true = rw msip_at (flag_is_flag v.csrs.msip) in
    let reserved : is_flag (number_at 1 b 184) ≡ true = rw p.reservation (small_flag_is_flag v.hart.reserved) in
    let first : is_flag (number_at 4 b 221) ≡ true = rw first_at (flag_is_flag (queue_at v.net 0).ready) in
    let second : is_flag (number_at 4 b 257) ≡ true = rw second_at (flag_is_flag (queue_at v.net 1).ready) in
    let third : is_flag (number_at 4 b 327) ≡ true = rw third_at (flag_is_flag (queue_at v.block 0).ready) in
    both_true (both_true (both_true (both_true msip reserved) first) second) third

pub csrs_are_legal : (c : CsrFields) → AreLegal c.mstatus c.mie c.mtvec c.mepc → has_legal_csrs c ≡ true
unfolding has_legal_csrs
csrs_are_legal c l =
    both_true (both_true (both_true (eq-eqb c.mstatus (mstatus_of c.mstatus) l.status) (eq-eqb
    (mie_of c.mie) c.mie l.enables))
    (ap not l.vector)) (eq-eqb (c.mepc % 4) 0 l.address)

pub fields_are_legal : (v : StateFields) → IsLegal v → has_legal_fields v ≡ true
unfolding has_legal_fields
fields_are_legal v l =
    both_true (both_true (both_true (both_true (eq-eqb (v.hart.pc % 4) 0 l.hart)
    (csrs_are_legal v.csrs l.csrs)) l.net.first)
    l.net.second) (l.block 0).first

pub length-bytes_of : (v : StateFields) → IsInRange v → length (bytes_of v) ≡ 359
length-bytes_of v r =
    let p = has_parts v r in
    omega (
      arith,
      length-drop 323 (bytes_of v),
      ap length p.block_queue,
      length-append (queue_bytes (queue_at v.block 0)) [],
      length-queue_bytes (queue_at v.block 0),
    )

pub are_accepted : AreAccepted
unfolding accepts
are_accepted v r l =
    let legal : has_legal_fields (fields_in (bytes_of v)) ≡ true = rw (reads_back v r l) (fields_are_legal v l) in
    both_true (both_true (eq-eqb (length (bytes_of v)) 359 (length-bytes_of v r)) (flags_are_flags v (bytes_of v)
    (has_parts v r))) legal

-- ---- what is accepted are values that a machine can have

not_true : (x : Bool) → not x ≡ true → x ≡ false
not_true false e = refl
not_true true e = cc

legal_csrs : (c : CsrFields) → has_legal_csrs c ≡ true → AreLegal c.mstatus c.mie c.mtvec c.mepc
unfolding has_legal_csrs
legal_csrs c e =
    let last = and_parts _ _ e in
    let third = and_parts _ _ last.0 in
    let second = and_parts _ _ third.0 in
    record {
      status = eqb-true c.mstatus (mstatus_of c.mstatus) second.0;
      enables = eqb-true (mie_of c.mie) c.mie second.1;
      vector = not_true (is_set 1 c.mtvec) third.1;
      address = eqb-true (c.mepc % 4) 0 last.1;
    }

-- what a test of the CSRs tells
pub legal_test : (r : Bool) (c : CsrFields) →
    (IsTrue r ↔ AreLegal c.mstatus c.mie c.mtvec c.mepc) → r ≡ has_legal_csrs c
legal_test true c h = sym (csrs_are_legal c (h.0 refl))
legal_test false c h = sym (false_from_ne_true (has_legal_csrs c) (λ e. let no : false ≡ true = h.1
    (legal_csrs c e) in cc))

legal_fields : (b : List ℕ) → has_legal_fields (fields_in b) ≡ true → IsLegal (fields_in b)
unfolding has_legal_fields fields_in device_of
legal_fields b e =
    let block = and_parts _ _ e in
    let second = and_parts _ _ block.0 in
    let first = and_parts _ _ second.0 in
    let csrs = and_parts _ _ first.0 in
    record {
      hart = eqb-true ((fields_in b).hart.pc % 4) 0 csrs.0;
      csrs = legal_csrs (fields_in b).csrs csrs.1;
      net = record { first = first.1; second = second.1; one_queue = λ never. cc };
      block = λ sectors. record { first = block.1; second = refl; one_queue = λ only. refl };
    }

words_in_range : (n : ℕ) (b : List ℕ) → AreBytes b → (k : ℕ) → slice_index (words_of n b) k < 2 ^ 32
unfolding words_of
words_in_range zero b h k = omega arith
words_in_range (suc n) b h zero = big_from-lt 0 4 b h
words_in_range (suc n) b h (suc k) = words_in_range n (drop 4 b) (AreBytes-drop 4 b h) k

length-words_of : (n : ℕ) (b : List ℕ) → length (words_of n b) ≡ n
unfolding words_of
length-words_of zero b = refl
length-words_of (suc n) b = ap suc (length-words_of n (drop 4 b))

csrs_in_range : (b : List ℕ) → AreBytes b → AreCsrsInRange (csrs_of b)
unfolding csrs_of
csrs_in_range b h =
    let at : (n k : ℕ) → number_at n b k < 256 ^ n = λ n k. big_from-lt 0 n (drop k b) (AreBytes-drop k b h) in
    record {
      mstatus = at 4 0;
      mie = at 4 4;
      mtvec = at 4 8;
      mscratch = at 4 12;
      mepc = at 4 16;
      mcause = at 4 20;
      mtval = at 4 24;
      mtime = at 8 32;
      mtimecmp = at 8 40;
      steps = at 8 48;
    }

queue_in_range : (b : List ℕ) → AreBytes b → IsQueueInRange (queue_of b)
unfolding queue_of
queue_in_range b h =
    let at : (n k : ℕ) → number_at n b k < 256 ^ n = λ n k. big_from-lt 0 n (drop k b) (AreBytes-drop k b h) in
    record { num = at 4 0; desc = at 8 8; driver = at 8 16; device = at 8 24; next = at 2 32; used = at 2 34 }

device_in_range : (b : List ℕ) (p q : QueueFields) → AreBytes b → IsDeviceInRange (device_of b p q)
unfolding device_of
device_in_range b p q h =
    let at : (n k : ℕ) → number_at n b k < 256 ^ n = λ n k. big_from-lt 0 n (drop k b) (AreBytes-drop k b h) in
    record {
      status = at 4 0;
      device_features_sel = at 4 4;
      driver_features = at 8 8;
      driver_features_sel = at 4 16;
      queue_sel = at 4 20;
      interrupt_status = at 4 24;
    }

pub fields_in_range : (b : List ℕ) → AreBytes b → length b ≡ 359 → IsInRange (fields_in b)
unfolding fields_in device_of
fields_in_range b h l =
    let at : (n k : ℕ) → number_at n b k < 256 ^ n = λ n k. big_from-lt 0 n (drop k b) (AreBytes-drop k b h) in
    let queue : (k : ℕ) → IsQueueInRange (queue_of (drop k b)) = λ k. queue_in_range (drop k b) (AreBytes-drop k b h) in
    record {
      hart = record {
        pc = at 4 0;
        count = length-words_of 31 (drop 4 b);
        x = words_in_range 31 (drop 4 b) (AreBytes-drop 4 b h);
        address = at 4 185;
      };
      csrs = csrs_in_range (drop 128 b) (AreBytes-drop 128 b h);
      net = device_in_range (drop 189 b) (queue_of (drop 217 b)) (queue_of (drop 253 b)) (AreBytes-drop 189 b h);
      net_queues = refl;
      receives = queue 217;
      sends = queue 253;
      count = length-take-le 6 (drop 289 b) (omega (arith, length-drop 289 b));
      neighbour = AreBytes-part b 6 289 h;
      block = device_in_range (drop 295 b) (queue_of (drop 323 b)) no_queue (AreBytes-drop 295 b h);
      block_queues = refl;
      serves = queue 323;
    }

pub are_legal_fields : AreLegalFields
unfolding accepts
are_legal_fields b h e =
    let legal = and_parts _ _ e in
    let flags = and_parts _ _ legal.0 in
    (fields_in_range b h (eqb-true (length b) 359 flags.0), legal_fields b legal.1)

-- ---- what is accepted is written again

-- a number behind a place, counted from the place
again : (b : List ℕ) (at k : ℕ) → is_flag (number_at 4 b (at + k)) ≡ true → is_flag (number_at 4 (drop at b) k) ≡ true
again b at k e = rw (drop-drop k at b) e

record HasFlags (b : List ℕ) : Type 0 where
  msip : is_flag (number_at 4 b 156) ≡ true
  reserved : is_flag (number_at 1 b 184) ≡ true
  first : is_flag (number_at 4 b 221) ≡ true
  second : is_flag (number_at 4 b 257) ≡ true
  third : is_flag (number_at 4 b 327) ≡ true

flags_of : (b : List ℕ) → has_flags b ≡ true → HasFlags b
unfolding has_flags
flags_of b e =
    let third = and_parts _ _ e in
    let second = and_parts _ _ third.0 in
    let first = and_parts _ _ second.0 in
    let reserved = and_parts _ _ first.0 in
    record { msip = reserved.0; reserved = reserved.1; first = first.1; second = second.1; third = third.1 }

queue_part : (b : List ℕ) (at k : ℕ) → AreBytes b → at + k + 36 ≤ length b → is_flag (number_at 4 b
    (at + k + 4)) ≡ true →
    queue_bytes (queue_of (drop (at + k) b)) ≡ take 36 (drop k (drop at b))
queue_part b at k h l flag =
    queue_written (drop (at + k) b) (AreBytes-drop (at + k) b h) (omega (arith, length-drop (at + k) b)) (again b
    (at + k) 4 flag)
    ∙ ap (take 36) (sym (drop-drop k at b))

network_written : (b : List ℕ) → AreBytes b → length b ≡ 359 → HasFlags b →
    network_bytes (fields_in b).net ≡ take 100 (drop 189 b)
unfolding network_bytes fields_in device_of
network_written b h l f =
    more (drop 189 b) _ _ 64 36 (more (drop 189 b) _ _ 28 36
    (registers_written (drop 189 b) (queue_of (drop 217 b)) (queue_of (drop 253 b)) (AreBytes-drop 189 b h) (omega
    (arith, length-drop 189 b)))
    (queue_part b 189 28 h (omega arith) f.first))
    (queue_part b 189 64 h (omega arith) f.second)

block_written : (b : List ℕ) → AreBytes b → length b ≡ 359 → HasFlags b →
    block_bytes (fields_in b).block ≡ take 64 (drop 295 b)
unfolding block_bytes fields_in device_of
block_written b h l f =
    more (drop 295 b) _ _ 28 36
    (registers_written (drop 295 b) (queue_of (drop 323 b)) no_queue (AreBytes-drop 295 b h) (omega
    (arith, length-drop 295 b)))
    (queue_part b 295 28 h (omega arith) f.third)

reservation_written : (b : List ℕ) → AreBytes b → length b ≡ 359 → HasFlags b →
    reservation_bytes (fields_in b).hart ≡ take 5 (drop 184 b)
unfolding reservation_bytes fields_in
reservation_written b h l f =
    more (drop 184 b) _ _ 1 4 (written_small_flag b 184 h (omega arith) f.reserved)
    (written_4 b 185 h (omega arith) ∙ ap (take 4) (sym (drop-drop 1 184 b)))

written : (b : List ℕ) → AreBytes b → length b ≡ 359 → HasFlags b → bytes_of (fields_in b) ≡ take 359 b
unfolding bytes_of fields_in
written b h l f =
    more b _ _ 295 64 (more b _ _ 289 6 (more b _ _ 189 100 (more b _ _ 184 5 (more b _ _ 128 56 (more b _ _ 4 124
    (written_4 b 0 h (omega arith))
    (words_written 31 (drop 4 b) (AreBytes-drop 4 b h) (omega (arith, length-drop 4 b))))
    (csrs_written (drop 128 b) (AreBytes-drop 128 b h) (omega (arith, length-drop 128 b)) (again b 128 28 f.msip)))
    (reservation_written b h l f))
    (network_written b h l f))
    refl)
    (block_written b h l f)

pub writes_back : WritesBack
unfolding accepts
writes_back b h e =
    let flags = and_parts _ _ (and_parts _ _ e).0 in
    let l : length b ≡ 359 = eqb-true (length b) 359 flags.0 in
    written b h l (flags_of b flags.1) ∙ subst (λ (n : ℕ). take n b ≡ b) l (take-length b)

pub length_of_accepted : (b : List ℕ) → accepts b ≡ true → length b ≡ 359
unfolding accepts
length_of_accepted b e = eqb-true (length b) 359 (and_parts _ _ (and_parts _ _ e).0).0
