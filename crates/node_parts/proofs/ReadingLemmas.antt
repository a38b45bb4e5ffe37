-- Bytes that are read: as the one message that they are, or as what is wrong with them.
use Rattle.std.proofs.Common.{◌≡◌, ◌≢◌, ℕ, List, length, take, inl, inr, refl, sym, ap, ◌∙◌, arith}
use Rattle.std.specs.Prelude.{Result, Ok, Err}
use Rattle.std.proofs.Math.Seq.{take-length}
use Rattle.colo_wire.specs.Faults.{IsFault, IsFirst}
use Rattle.colo_wire.specs.Reader.{IsWhole}
use Rattle.colo_wire.specs.declared.faults.WireFault.{WireFault}
use Rattle.colo_wire.specs.declared.faults.WireFault.TheVariants.{More, Kind, Length, Field, NoMemory}
use Rattle.colo_wire.specs.declared.messages.Message.{Message}
use Rattle.node_parts.specs.Reading.{Reading, Reads}

-- a message in front that takes all bytes is all of them
pub whole_by : (m : Message) (k : ℕ) (bytes : List ℕ) → IsFirst m k bytes → k ≡ length bytes → IsWhole m bytes
whole_by m k bytes first e = record {
  message = first.message;
  spelled = sym (take-length bytes) ∙ (ap (λ (n : ℕ). take n bytes) (sym e) ∙ first.spelled);
}

first_by : (m : Message) (bytes : List ℕ) → IsWhole m bytes → IsFirst m (length bytes) bytes
first_by m bytes whole = record {
  message = whole.message;
  within = omega arith;
  spelled = take-length bytes ∙ whole.spelled;
}

-- a fault is one of the first reasons
pub fault_read : (bytes : List ℕ) (f : WireFault) → f ≢ NoMemory → IsFault f bytes → Reads bytes (Err f)
fault_read bytes More not h = h
fault_read bytes Kind not h = h
fault_read bytes Length not h = inl h
fault_read bytes Field not h = h
fault_read bytes NoMemory not h = absurd (not refl)

-- the same, of any reading
abbrev pub OnlyFirst : List ℕ → Message → ℕ → Type 0
OnlyFirst bytes m k =
    (m1 : Message) (k1 : ℕ) → IsFirst m1 k1 bytes → (let p : Message × ℕ = (m, k) in p) ≡ (m1, k1)

same_message : (m m1 : Message) (k k1 : ℕ) → (let p : Message × ℕ = (m, k) in p) ≡ (m1, k1) → m ≡ m1
same_message m m1 k k1 e = ap (λ (p : Message × ℕ). p.0) e

same_size : (m m1 : Message) (k k1 : ℕ) → (let p : Message × ℕ = (m, k) in p) ≡ (m1, k1) → k ≡ k1
same_size m m1 k k1 e = ap (λ (p : Message × ℕ). p.1) e

whole_fault : (bytes : List ℕ) (m : Message) (k : ℕ) (f : WireFault) → k ≡ length bytes → OnlyFirst bytes m k →
    ((g : WireFault) → IsFault g bytes → ⊥) → Reads bytes (Err f) → ⊥
whole_fault bytes m k More e only never h = never More h
whole_fault bytes m k Kind e only never h = never Kind h
whole_fault bytes m k Length e only never (inl h) = never Length h
whole_fault bytes m k Length e only never (inr (m1, k1, first, less)) =
    omega (arith, same_size m m1 k k1 (only m1 k1 first), e, less)
whole_fault bytes m k Field e only never h = never Field h
whole_fault bytes m k NoMemory e only never h = h

pub each_whole : (bytes : List ℕ) (m : Message) (k : ℕ) (reading : Reading) → k ≡ length bytes →
    OnlyFirst bytes m k → ((g : WireFault) → IsFault g bytes → ⊥) → Reads bytes reading →
    (let r : Reading = Ok m in r) ≡ reading
each_whole bytes m k (Ok m1) e only never h =
    ap (λ (x : Message). let r : Reading = Ok x in r)
    (same_message m m1 k (length bytes) (only m1 (length bytes) (first_by m1 bytes h)))
each_whole bytes m k (Err f) e only never h = absurd (whole_fault bytes m k f e only never h)

followed_fault : (bytes : List ℕ) (f : WireFault) → ((g : WireFault) → IsFault g bytes → ⊥) → Reads bytes (Err f) →
    (let r : Reading = Err Length in r) ≡ Err f
followed_fault bytes More never h = absurd (never More h)
followed_fault bytes Kind never h = absurd (never Kind h)
followed_fault bytes Length never h = refl
followed_fault bytes Field never h = absurd (never Field h)
followed_fault bytes NoMemory never h = absurd h

pub each_followed : (bytes : List ℕ) (m : Message) (k : ℕ) (reading : Reading) → k ≢ length bytes →
    OnlyFirst bytes m k → ((g : WireFault) → IsFault g bytes → ⊥) → Reads bytes reading →
    (let r : Reading = Err Length in r) ≡ reading
each_followed bytes m k (Ok m1) ne only never h =
    absurd (ne (same_size m m1 k (length bytes) (only m1 (length bytes) (first_by m1 bytes h))))
each_followed bytes m k (Err f) ne only never h = followed_fault bytes f never h

pub followed_by : (bytes : List ℕ) (m : Message) (k : ℕ) → IsFirst m k bytes → k ≢ length bytes →
    Reads bytes (Err Length)
followed_by bytes m k first ne = inr (m, k, first, omega (arith, first.within, ne))

-- bytes with a fault in front
fault_fault : (bytes : List ℕ) (f g : WireFault) → ((m : Message) (k : ℕ) → IsFirst m k bytes → ⊥) →
    ((g : WireFault) → IsFault g bytes → f ≡ g) → Reads bytes (Err g) → f ≡ g
fault_fault bytes f More none each h = each More h
fault_fault bytes f Kind none each h = each Kind h
fault_fault bytes f Length none each (inl h) = each Length h
fault_fault bytes f Length none each (inr (m, k, first, less)) = absurd (none m k first)
fault_fault bytes f Field none each h = each Field h
fault_fault bytes f NoMemory none each h = absurd h

pub each_fault : (bytes : List ℕ) (f : WireFault) (reading : Reading) →
    ((m : Message) (k : ℕ) → IsFirst m k bytes → ⊥) → ((g : WireFault) → IsFault g bytes → f ≡ g) →
    Reads bytes reading → (let r : Reading = Err f in r) ≡ reading
each_fault bytes f (Ok m) none each h = absurd (none m (length bytes) (first_by m bytes h))
each_fault bytes f (Err g) none each h =
    ap (λ (x : WireFault). let r : Reading = Err x in r) (fault_fault bytes f g none each h)

-- ---- what `read` answers, from what `decode` does

abbrev pub Decoded : Type 0
Decoded = Result (Message × ℕ) WireFault

no_fault : (p : Message × ℕ) (g : WireFault) → (let r : Decoded = Ok p in r) ≡ Err g → ⊥
no_fault p g e = absurd cc

same_fault : (f g : WireFault) → (let r : Decoded = Err f in r) ≡ Err g → f ≡ g
same_fault f g e = cc

pub read_whole : (bytes : List ℕ) (m : Message) (k : ℕ) → k ≡ length bytes → OnlyFirst bytes m k →
    ((g : WireFault) → IsFault g bytes → (let r : Decoded = Ok (m, k) in r) ≡ Err g) → (reading : Reading) →
    Reads bytes reading → (let r : Reading = Ok m in r) ≡ reading
read_whole bytes m k e only each reading h =
    each_whole bytes m k reading e only (λ g fault. no_fault (m, k) g (each g fault)) h

pub read_followed : (bytes : List ℕ) (m : Message) (k : ℕ) → (k ≡ length bytes → ⊥) → OnlyFirst bytes m k →
    ((g : WireFault) → IsFault g bytes → (let r : Decoded = Ok (m, k) in r) ≡ Err g) → (reading : Reading) →
    Reads bytes reading → (let r : Reading = Err Length in r) ≡ reading
read_followed bytes m k ne only each reading h =
    each_followed bytes m k reading ne only (λ g fault. no_fault (m, k) g (each g fault)) h

pub read_fault : (bytes : List ℕ) (f : WireFault) → ((m : Message) (k : ℕ) → IsFirst m k bytes → f ≡ NoMemory) →
    ((g : WireFault) → IsFault g bytes → (let r : Decoded = Err f in r) ≡ Err g) → (reading : Reading) →
    Reads bytes reading → ((let r : Reading = Err f in r) ≡ Err NoMemory → ⊥) → (let r : Reading = Err f in r) ≡ reading
read_fault bytes f only each reading h ne =
    each_fault bytes f reading
    (λ m k first. ne (ap (λ (x : WireFault). let r : Reading = Err x in r) (only m k first)))
    (λ g fault. same_fault f g (each g fault)) h
