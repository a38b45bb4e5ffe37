-- What is judged of a string of bytes is what stands in front of it, and nothing else is.
use Rattle.std.proofs.Common.{◌≡◌, ◌≢◌, ℕ, ◌+◌, ◌^◌, ◌<◌, min, Bool, true, false, cond, ltb, List, [], ◌∷◌, Option, Some, None, Result, Ok, Err, length, take, drop, refl, sym, ap, subst, ◌∙◌, inl, inr, ◌⊎◌, arith}
use Rattle.std.specs.Prelude.{IfErr, IfOk, MatchResult}
use Rattle.std.specs.Int.{w32, from_be_bytes}
use Rattle.std.proofs.lemmas.Bool.{cases_lt, cond-true, cond-false, lt-ltb, le-ltb}
use Rattle.std.proofs.lemmas.List.{take_all, take-take, drop_all, drop-take, length-take, length-drop}
use Rattle.colo_wire.specs.Faults.{Agrees, GoesOn, IsBegun, IsFault, IsFirst}
use Rattle.colo_wire.specs.Forms.{lengths_of, places_of}
use Rattle.colo_wire.specs.Judging.{Judged, judge, judge_kind, judge_rest, judge_body}
use Rattle.colo_wire.specs.Kinds.{kind_at}
use Rattle.colo_wire.specs.Lengths.{AllowsLength, may_begin_length}
use Rattle.colo_wire.specs.Making.{message_in}
use Rattle.colo_wire.specs.Places.{follows}
use Rattle.shared_definitions.specs.Bytes.{AreBytes}
use Rattle.shared_definitions.proofs.ByteLemmas.{AreBytes-take}
use Rattle.colo_wire.specs.Spelling.{body_of, kind_of, message_bytes}
use Rattle.colo_wire.specs.declared.faults.WireFault.{WireFault}
use Rattle.colo_wire.specs.declared.faults.WireFault.TheVariants as fault
use Rattle.colo_wire.specs.declared.kinds.Kind.{Kind}
use Rattle.colo_wire.specs.declared.kinds.Kind.TheVariants as kind
use Rattle.colo_wire.specs.declared.messages.Message.{Message}
use Rattle.colo_wire.proofs.BodyLemmas.{remakes}
use Rattle.colo_wire.proofs.JudgeLemmas.{agrees_judged, chosen, err_is, message_length, more_begun, ok_is, whole_first}
use Rattle.colo_wire.proofs.KindLemmas.{allowed_small}
use Rattle.colo_wire.proofs.PlaceLemmas.{take_nothing, take_swap, nothing_follows}

-- ---- what goes on

begun_agrees : (m : Message) (bytes : List ℕ) → IsBegun m bytes → Agrees (message_bytes m) bytes
begun_agrees m bytes b = b.spelled ∙ sym (take_all (length (message_bytes m)) bytes (omega (arith, b.part)))

begun_goes : (bytes : List ℕ) → (m : Message) × IsBegun m bytes → GoesOn bytes
begun_goes bytes b = (b.0, b.1.message, begun_agrees b.0 bytes b.1)

-- the place after a message in front
first_length : (m : Message) (k : ℕ) (bytes : List ℕ) → IsFirst m k bytes → length (message_bytes m) ≡ k
first_length m k bytes f = omega (arith, ap length f.spelled, length-take k bytes, f.within)

first_agrees : (m : Message) (k : ℕ) (bytes : List ℕ) → IsFirst m k bytes → Agrees (message_bytes m) bytes
first_agrees m k bytes f =
    let len = first_length m k bytes f in
    take_all (length bytes) (message_bytes m) (omega (arith, len, f.within)) ∙ sym f.spelled
    ∙ ap (λ (x : ℕ). take x bytes) (sym len)

first_goes : (m : Message) (k : ℕ) (bytes : List ℕ) → IsFirst m k bytes → GoesOn bytes
first_goes m k bytes f = (m, f.message, first_agrees m k bytes f)

take_both : (n l : ℕ) (xs : List ℕ) → take n (take l xs) ≡ take (min n l) xs
take_both n l xs =
    elim (cases_lt n l) [
      | inl lt ↦ take-take n l xs (omega arith) ∙ ap (λ (k : ℕ). take k xs) (let e : n ≡ min n l = omega arith in e)
      | inr le ↦ take_all n (take l xs) (omega (arith, length-take l xs))
          ∙ ap (λ (k : ℕ). take k xs) (let e : l ≡ min n l = omega arith in e)
    ]

-- fewer bytes go on too
goes_take : (n : ℕ) (bytes : List ℕ) → GoesOn bytes → GoesOn (take n bytes)
goes_take n bytes g =
    let m = message_bytes g.0 in (
      g.0,
      g.1,
      ap (λ (k : ℕ). take k m) (length-take n bytes) ∙ sym (take_both n (length bytes) m)
          ∙ ap (take n) g.2 ∙ sym (take_swap (length m) n bytes),
    )

goes_one : (bytes : List ℕ) → GoesOn (take 5 bytes) → GoesOn (take 1 bytes)
goes_one bytes g = subst GoesOn (take-take 1 5 bytes (omega arith)) (goes_take 1 (take 5 bytes) g)

-- ---- what goes on isn't refused

not_more : (e : WireFault) (b : Bool) (x : Kind × ℕ) → e ≢ fault.More →
    (let r : Judged = Err e in r) ≡ cond b (Err fault.More) (Ok x) → ⊥
not_more e true x other h = other (err_is e fault.More h)
not_more e false x other h = cc

refused_stops : (e : WireFault) (bytes : List ℕ) → e ≢ fault.More → judge bytes ≡ Err e → GoesOn bytes → ⊥
refused_stops e bytes other h g =
    not_more e (ltb (length bytes) (5 + length (body_of g.0))) (kind_of g.0, length (body_of g.0)) other
    (sym h ∙ agrees_judged g.0 bytes g.1 g.2)

-- ---- the judgement of fewer bytes

-- after the length one of two things is wrong
body_errs : (k : Kind) (n : ℕ) (rest : List ℕ) (f : WireFault) → judge_body k n rest ≡ Err f →
    (f ≡ fault.More) ⊎ (f ≡ fault.Field)
unfolding judge_body
body_errs k n rest f e =
    elim (chosen (follows (places_of k) 0 (take n rest))
    (cond (ltb (length (take n rest)) n) (Err fault.More) (Ok (k, n))) (Err fault.Field) (Err f) e) [
      | inl stands ↦
          elim (chosen (ltb (length (take n rest)) n) (Err fault.More) (Ok (k, n)) (Err f) stands.1) [
            | inl less ↦ inl (sym (err_is fault.More f less.1))
            | inr whole ↦ absurd cc
          ]
      | inr bad ↦ inr (sym (err_is fault.Field f bad.1))
    ]

-- after the kind: what is judged of its length, and then of its body
data Stage (k : Kind) (rest : List ℕ) (r : Judged) : Type 0 where
  BadLength : may_begin_length (lengths_of k) (take 4 rest) ≡ false → r ≡ Err fault.Length → Stage k rest r
  PartLength : may_begin_length (lengths_of k) (take 4 rest) ≡ true → r ≡ Err fault.More → Stage k rest r
  WholeLength : may_begin_length (lengths_of k) (take 4 rest) ≡ true → ltb (length (take 4 rest)) 4 ≡ false →
      judge_body k (from_be_bytes w32 (take 4 rest)) (drop 4 rest) ≡ r → Stage k rest r

stage_of : (k : Kind) (rest : List ℕ) (r : Judged) → judge_rest k rest ≡ r → Stage k rest r
unfolding judge_rest
stage_of k rest r e =
    let part = take 4 rest in
    let n = from_be_bytes w32 part in
    elim (chosen (may_begin_length (lengths_of k) part)
    (cond (ltb (length part) 4) (Err fault.More) (judge_body k n (drop 4 rest))) (Err fault.Length) r e) [
      | inl good ↦
          elim (chosen (ltb (length part) 4) (Err fault.More) (judge_body k n (drop 4 rest)) r good.1) [
            | inl short ↦ PartLength good.0 (sym short.1)
            | inr long ↦ WholeLength good.0 long.0 long.1
          ]
      | inr bad ↦ BadLength bad.0 (sym bad.1)
    ]

-- after the kind one of three things is wrong
stage_errs : (k : Kind) (rest : List ℕ) (f : WireFault) → Stage k rest (Err f) →
    (f ≡ fault.More) ⊎ ((f ≡ fault.Length) ⊎ (f ≡ fault.Field))
stage_errs k rest f (BadLength bad e) = inr (inl (err_is f fault.Length e))
stage_errs k rest f (PartLength good e) = inl (err_is f fault.More e)
stage_errs k rest f (WholeLength good long e) =
    elim (body_errs k (from_be_bytes w32 (take 4 rest)) (drop 4 rest) f e) [ inl h ↦ inl h | inr h ↦ inr (inr h) ]

rest_errs : (k : Kind) (rest : List ℕ) (f : WireFault) → judge_rest k rest ≡ Err f →
    (f ≡ fault.More) ⊎ ((f ≡ fault.Length) ⊎ (f ≡ fault.Field))
rest_errs k rest f e = stage_errs k rest f (stage_of k rest (Err f) e)

three_others : (f g : WireFault) → f ≡ g → (g ≡ fault.More → ⊥) → (g ≡ fault.Length → ⊥) → (g ≡ fault.Field → ⊥) →
    (f ≡ fault.More) ⊎ ((f ≡ fault.Length) ⊎ (f ≡ fault.Field)) → ⊥
three_others f g e a b c (inl h) = a (sym e ∙ h)
three_others f g e a b c (inr (inl h)) = b (sym e ∙ h)
three_others f g e a b c (inr (inr h)) = c (sym e ∙ h)

-- memory plays no part in it
kind_has_memory : (o : Option Kind) (rest : List ℕ) → judge_kind o rest ≡ Err fault.NoMemory → ⊥
kind_has_memory None rest e = cc
kind_has_memory (Some k) rest e =
    three_others fault.NoMemory fault.NoMemory refl (λ h. cc) (λ h. cc) (λ h. cc) (rest_errs k rest fault.NoMemory e)

has_memory : (bytes : List ℕ) → judge bytes ≡ Err fault.NoMemory → ⊥
has_memory [] e = cc
has_memory (number ∷ rest) e = kind_has_memory (kind_at number) rest e

-- a byte that is no kind
kind_alone : (o : Option Kind) (rest : List ℕ) → judge_kind o rest ≡ Err fault.Kind → judge_kind o [] ≡ Err fault.Kind
kind_alone None rest e = refl
kind_alone (Some k) rest e =
    absurd (three_others fault.Kind fault.Kind refl (λ h. cc) (λ h. cc) (λ h. cc) (rest_errs k rest fault.Kind e))

-- a kind alone is the beginning of a message
lengths_begin : (k : Kind) → may_begin_length (lengths_of k) [] ≡ true
unfolding may_begin_length
lengths_begin kind.Frame = refl
lengths_begin kind.Number = refl
lengths_begin kind.Begin = refl
lengths_begin kind.State = refl
lengths_begin kind.Page = refl
lengths_begin kind.Disk = refl
lengths_begin kind.Write = refl
lengths_begin kind.Held = refl
lengths_begin kind.Line = refl
lengths_begin kind.Bytes = refl
lengths_begin kind.End = refl
lengths_begin kind.Known = refl
lengths_begin kind.Sent = refl
lengths_begin kind.Ack = refl

kind_begins : (k : Kind) → judge_rest k [] ≡ Err fault.More
unfolding judge_rest
kind_begins k = cond-true _ _ _ (lengths_begin k)

stage_length : (k : Kind) (rest : List ℕ) → Stage k rest (Err fault.Length) →
    may_begin_length (lengths_of k) (take 4 rest) ≡ false
stage_length k rest (BadLength bad e) = bad
stage_length k rest (PartLength good e) = absurd cc
stage_length k rest (WholeLength good long e) =
    absurd (elim (body_errs k (from_be_bytes w32 (take 4 rest)) (drop 4 rest) fault.Length e) as (λ _. ⊥) [
      | inl h ↦
          cc
      | inr h ↦ cc
    ])

-- a bad length is seen in the first four bytes
length_again : (k : Kind) (rest : List ℕ) → judge_rest k rest ≡ Err fault.Length →
    judge_rest k (take 4 rest) ≡ Err fault.Length
unfolding judge_rest
length_again k rest e =
    let bad = stage_length k rest (stage_of k rest (Err fault.Length) e) in
    cond-false _ _ _ (ap (may_begin_length (lengths_of k)) (take-take 4 4 rest (omega arith)) ∙ bad)

length_alone : (o : Option Kind) (rest : List ℕ) → judge_kind o rest ≡ Err fault.Length →
    (judge_kind o [] ≡ Err fault.More) × (judge_kind o (take 4 rest) ≡ Err fault.Length)
length_alone None rest e = absurd cc
length_alone (Some k) rest e = (kind_begins k, length_again k rest e)

-- a judgement that goes on
abbrev IsGood : Judged → Type 0
IsGood r = (r ≡ Err fault.More) ⊎ ((k : Kind) × (n : ℕ) × (r ≡ Ok (k, n)))

nothing_good : (k : Kind) (n : ℕ) → IsGood (judge_body k n [])
unfolding judge_body
nothing_good k n =
    let stands : follows (places_of k) 0 (take n []) ≡ true = ap (follows (places_of k) 0) (take_nothing n)
    ∙ nothing_follows (places_of k) 0 in
    let r : Judged = cond (ltb (length (take n (let x : List ℕ = [] in x))) n) (Err fault.More) (Ok (k, n)) in
    subst IsGood (sym (cond-true _ r (Err fault.Field) stands))
    (elim (ltb (length (take n (let x : List ℕ = [] in x))) n) as
    (λ v. IsGood (cond v (Err fault.More) (Ok (k, n)))) [
      | true ↦ inl refl
      | false ↦ inr (k, n, refl)
    ])

stage_field : (k : Kind) (rest : List ℕ) → Stage k rest (Err fault.Field) → IsGood (judge_rest k (take 4 rest))
unfolding judge_rest
stage_field k rest (BadLength bad e) = absurd cc
stage_field k rest (PartLength good e) = absurd cc
stage_field k rest (WholeLength good long e) =
    let same : take 4 (take 4 rest) ≡ take 4 rest = take-take 4 4 rest (omega arith) in
    let none : drop 4 (take 4 rest) ≡ [] = drop_all 4 (take 4 rest) (omega (arith, length-take 4 rest)) in
    let n = from_be_bytes w32 (take 4 rest) in
    let passes : may_begin_length (lengths_of k) (take 4 (take 4 rest)) ≡ true =
    ap (may_begin_length (lengths_of k)) same ∙ good in
    let whole : ltb (length (take 4 (take 4 rest))) 4 ≡ false = ap (λ (x : List ℕ). ltb (length x) 4) same ∙ long in
    let body : judge_body k (from_be_bytes w32 (take 4 (take 4 rest))) (drop 4 (take 4 rest)) ≡ judge_body k n [] =
    ap (λ (x : List ℕ). judge_body k (from_be_bytes w32 x) (drop 4 (take 4 rest))) same ∙ ap (judge_body k n) none in
    subst IsGood (sym (cond-true _ _ _ passes ∙ cond-false _ _ _ whole ∙ body)) (nothing_good k n)

field_alone : (o : Option Kind) (rest : List ℕ) → judge_kind o rest ≡ Err fault.Field →
    IsGood (judge_kind o (take 4 rest))
field_alone None rest e = absurd cc
field_alone (Some k) rest e = stage_field k rest (stage_of k rest (Err fault.Field) e)

good_goes : (bytes : List ℕ) → AreBytes bytes → IsGood (judge bytes) → GoesOn bytes
good_goes bytes fits (inl more) = begun_goes bytes (more_begun bytes fits more)
good_goes bytes fits (inr (k, n, e)) =
    first_goes (message_in k (take n (drop 5 bytes))) (5 + n) bytes (whole_first bytes k n fits e).first

-- ---- what is judged is so

-- the first bytes, after the kind
five : (number : ℕ) (rest : List ℕ) → take 5 (number ∷ rest) ≡ number ∷ take 4 rest
five number rest = refl

kind_fault : (bytes : List ℕ) → judge bytes ≡ Err fault.Kind → GoesOn (take 1 bytes) → ⊥
kind_fault [] e g = cc
kind_fault (number ∷ rest) e g =
    refused_stops fault.Kind (number ∷ []) (λ h. cc) (kind_alone (kind_at number) rest e) g

length_fault : (bytes : List ℕ) → AreBytes bytes → judge bytes ≡ Err fault.Length →
    GoesOn (take 1 bytes) × (GoesOn (take 5 bytes) → ⊥)
length_fault [] fits e = absurd cc
length_fault (number ∷ rest) fits e =
    let alone = length_alone (kind_at number) rest e in (
      good_goes (number ∷ []) (AreBytes-take 1 (number ∷ rest) fits) (inl alone.0),
      λ g. refused_stops fault.Length (number ∷ take 4 rest) (λ h. cc) alone.1 g,
    )

field_fault : (bytes : List ℕ) → AreBytes bytes → judge bytes ≡ Err fault.Field →
    GoesOn (take 5 bytes) × (GoesOn bytes → ⊥)
field_fault [] fits e = absurd cc
field_fault (number ∷ rest) fits e = (
  good_goes (number ∷ take 4 rest) (AreBytes-take 5 (number ∷ rest) fits) (field_alone (kind_at number) rest e),
  λ g. refused_stops fault.Field (number ∷ rest) (λ h. cc) e g,
)

pub judged_fault : (bytes : List ℕ) (f : WireFault) → AreBytes bytes → judge bytes ≡ Err f → IsFault f bytes
judged_fault bytes fault.More fits e = more_begun bytes fits e
judged_fault bytes fault.Kind fits e = λ g. kind_fault bytes e g
judged_fault bytes fault.Length fits e = length_fault bytes fits e
judged_fault bytes fault.Field fits e = field_fault bytes fits e
judged_fault bytes fault.NoMemory fits e = absurd (has_memory bytes e)

-- ---- and nothing else

begun_judged : (bytes : List ℕ) (m : Message) → IsBegun m bytes → judge bytes ≡ Err fault.More
begun_judged bytes m b =
    let n = 5 + length (body_of m) in
    let less : ltb (length bytes) n ≡ true = lt-ltb (length bytes) n (omega (arith, b.part, message_length m)) in
    agrees_judged m bytes b.message (begun_agrees m bytes b) ∙ cond-true (ltb (length bytes) n) _ _ less

-- bytes that go on have no other fault
goes_faultless : (f : WireFault) (bytes : List ℕ) → GoesOn bytes → IsFault f bytes → f ≡ fault.More
goes_faultless fault.More bytes g h = refl
goes_faultless fault.Kind bytes g h = absurd (h (goes_take 1 bytes g))
goes_faultless fault.Length bytes g h = absurd (h.1 (goes_take 5 bytes g))
goes_faultless fault.Field bytes g h = absurd (h.1 g)
goes_faultless fault.NoMemory bytes g h = absurd h

more_is_more : (f : WireFault) (bytes : List ℕ) → f ≡ fault.More → IsFault f bytes → judge bytes ≡ Err fault.More
more_is_more f bytes e h =
    let b : (m : Message) × IsBegun m bytes = subst (λ (x : WireFault). IsFault x bytes) e h in
    begun_judged bytes b.0 b.1

same_fault : (f g : WireFault) (bytes : List ℕ) → IsFault f bytes → IsFault g bytes → f ≢ fault.More →
    g ≢ fault.More → f ≡ g
same_fault fault.More g bytes h k a b = absurd (a refl)
same_fault fault.Kind fault.More bytes h k a b = absurd (b refl)
same_fault fault.Kind fault.Kind bytes h k a b = refl
same_fault fault.Kind fault.Length bytes h k a b = absurd (h k.0)
same_fault fault.Kind fault.Field bytes h k a b = absurd (h (goes_one bytes k.0))
same_fault fault.Kind fault.NoMemory bytes h k a b = absurd k
same_fault fault.Length fault.More bytes h k a b = absurd (b refl)
same_fault fault.Length fault.Kind bytes h k a b = absurd (k h.0)
same_fault fault.Length fault.Length bytes h k a b = refl
same_fault fault.Length fault.Field bytes h k a b = absurd (h.1 k.0)
same_fault fault.Length fault.NoMemory bytes h k a b = absurd k
same_fault fault.Field fault.More bytes h k a b = absurd (b refl)
same_fault fault.Field fault.Kind bytes h k a b = absurd (k (goes_one bytes h.0))
same_fault fault.Field fault.Length bytes h k a b = absurd (k.1 h.0)
same_fault fault.Field fault.Field bytes h k a b = refl
same_fault fault.Field fault.NoMemory bytes h k a b = absurd k
same_fault fault.NoMemory g bytes h k a b = absurd h

is_more : (f : WireFault) → (f ≡ fault.More) ⊎ (f ≢ fault.More)
is_more fault.More = inl refl
is_more fault.Kind = inr (λ h. cc)
is_more fault.Length = inr (λ h. cc)
is_more fault.Field = inr (λ h. cc)
is_more fault.NoMemory = inr (λ h. cc)

-- the fault that stands is the one that is judged
pub fault_judged : (bytes : List ℕ) (f : WireFault) → AreBytes bytes → IsFault f bytes → judge bytes ≡ Err f
fault_judged bytes f fits h = judged_by (judge bytes) refl
  where
    judged_by : (r : Judged) → judge bytes ≡ r → judge bytes ≡ Err f
    judged_by (Ok (k, n)) e =
        let g = good_goes bytes fits (inr (k, n, e)) in
        let m = goes_faultless f bytes g h in
        more_is_more f bytes m h ∙ ap Err (sym m)
    judged_by (Err g) e =
        let j : IsFault g bytes = judged_fault bytes g fits e in
        elim (is_more f) [
          | inl more ↦ more_is_more f bytes more h ∙ ap Err (sym more)
          | inr other ↦
              elim (is_more g) [
                | inl more ↦
                    let b : (m : Message) × IsBegun m bytes = subst (λ (x : WireFault). IsFault x bytes) more j in
                    absurd (other (goes_faultless f bytes (begun_goes bytes b) h))
                | inr others ↦ e ∙ ap Err (same_fault g f bytes j h others other)
              ]
        ]

-- the message that stands in front is the one that is judged, and that is made
pub record IsRead (m : Message) (k : ℕ) (bytes : List ℕ) : Type 0 where
  pub judged : judge bytes ≡ Ok (kind_of m, length (body_of m))
  pub size : k ≡ 5 + length (body_of m)
  pub made : message_in (kind_of m) (take (length (body_of m)) (drop 5 bytes)) ≡ m

first_body : (m : Message) (bytes : List ℕ) → take (5 + length (body_of m)) bytes ≡ message_bytes m →
    take (length (body_of m)) (drop 5 bytes) ≡ body_of m
unfolding message_bytes
first_body m bytes e = sym (drop-take 5 (length (body_of m)) bytes) ∙ ap (drop 5) e

pub first_read : (m : Message) (k : ℕ) (bytes : List ℕ) → IsFirst m k bytes → IsRead m k bytes
first_read m k bytes f =
    let n = length (body_of m) in
    let size : k ≡ 5 + n = sym (first_length m k bytes f) ∙ message_length m in
    let body = first_body m bytes (ap (λ (x : ℕ). take x bytes) (sym size) ∙ f.spelled) in
    record {
      judged = agrees_judged m bytes f.message (first_agrees m k bytes f)
          ∙ cond-false (ltb (length bytes) (5 + n)) _ _ (le-ltb (length bytes) (5 + n) (omega (arith, f.within)));
      size = size;
      made = ap (message_in (kind_of m)) body ∙ remakes m f.message.ranges;
    }

-- ---- the answers of `decode`

-- the body of what is judged whole is as long as it is to be
pub record IsWholeBody (k : Kind) (n : ℕ) (bytes : List ℕ) : Type 0 where
  pub allowed : AllowsLength (lengths_of k) (length (take n (drop 5 bytes)))
  pub count : length (take n (drop 5 bytes)) ≡ n
  pub small : length (take n (drop 5 bytes)) < 2 ^ 32

pub whole_body_of : (k : Kind) (n : ℕ) (bytes : List ℕ) → AreBytes bytes → judge bytes ≡ Ok (k, n) →
    IsWholeBody k n bytes
whole_body_of k n bytes fits e =
    let w = whole_first bytes k n fits e in
    let count : length (take n (drop 5 bytes)) ≡ n =
    omega (arith, w.long, length-take n (drop 5 bytes), length-drop 5 bytes) in
    record {
      allowed = subst (AllowsLength (lengths_of k)) (sym count) w.allowed;
      count = count;
      small = omega (arith, count, allowed_small k n w.allowed);
    }

-- what is answered where a whole message stands in front, or memory runs out
abbrev pub IsMade : Kind → ℕ → List ℕ → Result (Message × ℕ) WireFault → Type 0
IsMade k n bytes (Ok x) = x ≡ (message_in k (take n (drop 5 bytes)), 5 + length (take n (drop 5 bytes)))
IsMade k n bytes (Err f) = f ≡ fault.NoMemory

pub made_is : (k : Kind) (n : ℕ) (bytes body : List ℕ) (r : Result (Message × ℕ) WireFault) →
    body ≡ take n (drop 5 bytes) →
    IfOk r (λ x. x ≡ (message_in k body, 5 + length body)) → IfErr r (λ f. f ≡ fault.NoMemory) → IsMade k n bytes r
made_is k n bytes body (Ok x) e ok err = ok ∙ ap (λ (b : List ℕ). (message_in k b, 5 + length b)) e
made_is k n bytes body (Err f) e ok err = err

-- what the clauses say
pub record Answers (bytes : List ℕ) (r : Result (Message × ℕ) WireFault) : Type 0 where
  pub found : IfOk r (λ x. IsFirst x.0 x.1 bytes)
  pub only : (m : Message) (k : ℕ) → IsFirst m k bytes → MatchResult r (λ x. x ≡ (m, k)) (λ f. f ≡ fault.NoMemory)
  pub fault : IfErr r (λ f. f ≢ fault.NoMemory → IsFault f bytes)

no_other : (bytes : List ℕ) (f : WireFault) (k : Kind) (n : ℕ) → AreBytes bytes → judge bytes ≡ Ok (k, n) →
    IsFault f bytes → ⊥
no_other bytes f k n fits e h = absurd (ok_err (k, n) f (sym e ∙ fault_judged bytes f fits h))
  where
    ok_err : (x : Kind × ℕ) (f : WireFault) → (let r : Judged = Ok x in r) ≡ Err f → ⊥
    ok_err x f h = cc

judged_same : (k j : Kind) (n i : ℕ) → (let r : Judged = Ok (k, n) in r) ≡ Ok (j, i) → (k ≡ j) × (n ≡ i)
judged_same k j n i e = let same = ok_is (k, n) (j, i) e in
    (ap (λ (p : Kind × ℕ). p.0) same, ap (λ (p : Kind × ℕ). p.1) same)

pub made_answers : (bytes : List ℕ) (k : Kind) (n : ℕ) (r : Result (Message × ℕ) WireFault) → AreBytes bytes →
    judge bytes ≡ Ok (k, n) →
    IsMade k n bytes r → Answers bytes r
made_answers bytes k n (Err f) fits e made =
    record { found = tt; only = λ m j first. made; fault = λ other. absurd (other made) }
made_answers bytes k n (Ok x) fits e made =
    let body = take n (drop 5 bytes) in
    let w = whole_first bytes k n fits e in
    let b = whole_body_of k n bytes fits e in
    let x-is : x ≡ (message_in k body, 5 + n) = made ∙ ap (λ (c : ℕ). (message_in k body, 5 + c)) b.count in
    record {
      found = subst (λ (y : Message × ℕ). IsFirst y.0 y.1 bytes) (sym x-is) w.first;
      only = λ m j first. x-is ∙ same m j (first_read m j bytes first);
      fault = tt;
    }
  where
    same : (m : Message) (j : ℕ) → IsRead m j bytes →
        (let p : Message × ℕ = (message_in k (take n (drop 5 bytes)), 5 + n) in p) ≡ (m, j)
    same m j read =
        let both = judged_same k (kind_of m) n (length (body_of m)) (sym e ∙ read.judged) in
        ap (λ (y : Kind). (message_in y (take n (drop 5 bytes)), 5 + n)) both.0
        ∙ ap (λ (c : ℕ). (message_in (kind_of m) (take c (drop 5 bytes)), 5 + c)) both.1
        ∙ ap (λ (y : Message). (y, 5 + length (body_of m))) read.made
        ∙ ap (λ (c : ℕ). (m, c)) (sym read.size)

-- the same, from what `decode` cuts and makes
pub decode_answers : (bytes rest body : List ℕ) (k : Kind) (n : ℕ) (r : Result (Message × ℕ) WireFault) →
    AreBytes bytes →
    (let r : Judged = Ok (k, n) in r) ≡ judge bytes → rest ≡ drop 5 bytes → body ≡ take n rest →
    IfOk r (λ x. x ≡ (message_in k body, 5 + length body)) → IfErr r (λ f. f ≡ fault.NoMemory) → Answers bytes r
decode_answers bytes rest body k n r fits judged after front ok err =
    made_answers bytes k n r fits (sym judged) (made_is k n bytes body r (front ∙ ap (take n) after) ok err)

-- where memory does not matter
pub made_each : (bytes : List ℕ) (k : Kind) (n : ℕ) (f : WireFault) {A : Type 0} → AreBytes bytes →
    judge bytes ≡ Ok (k, n) → IsFault f bytes → A
made_each bytes k n f fits e h = absurd (no_other bytes f k n fits e h)

pub refused_answers : (bytes : List ℕ) (f : WireFault) → AreBytes bytes → judge bytes ≡ Err f → Answers bytes (Err f)
refused_answers bytes f fits e = record {
  found = tt;
  only = λ m k first. absurd (err_ok f (kind_of m, length (body_of m)) (sym e ∙ (first_read m k bytes first).judged));
  fault = λ other. judged_fault bytes f fits e;
}
  where
    err_ok : (f : WireFault) (x : Kind × ℕ) → (let r : Judged = Err f in r) ≡ Ok x → ⊥
    err_ok f x h = cc

pub refused_each : (bytes : List ℕ) (f g : WireFault) → AreBytes bytes → judge bytes ≡ Err f → IsFault g bytes → f ≡ g
refused_each bytes f g fits e h = err_is f g (sym e ∙ fault_judged bytes g fits h)
