-- What the judgement of a string of bytes says of the messages that agree with it.
use Rattle.std.proofs.Common.{◌≡◌, ℕ, suc, ◌+◌, ◌-◌, ◌<◌, ◌≤◌, min, Bool, true, false, cond, ltb, List, [], ◌∷◌, ◌++◌, Option, Some, None, Ok, Err, length, take, drop, replicate, refl, sym, ap, subst, ◌∙◌, inl, inr, ◌⊎◌, append_assoc, arith}
use Rattle.std.specs.Int.{w32, from_be_bytes, to_be_bytes}
use Rattle.std.proofs.lemmas.Bool.{cases_lt, cond-true, cond-false, ltb-true, ltb-false, lt-ltb, le-ltb}
use Rattle.std.proofs.lemmas.List.{take_all, take-take, take_at, take-append-drop, drop-take, length-take, length-drop, length-append, length-replicate}
use Rattle.std.proofs.lemmas.Nat.{be_bytes_4, from_be_bytes-to_be_bytes_4}
use Rattle.colo_wire.specs.Faults.{Agrees, IsBegun, IsFirst}
use Rattle.colo_wire.specs.Forms.{lengths_of, places_of}
use Rattle.colo_wire.specs.Judging.{Judged, judge, judge_kind, judge_rest, judge_body}
use Rattle.colo_wire.specs.Kinds.{kind_at, number_of_kind}
use Rattle.colo_wire.specs.Lengths.{AllowsLength, low_of, next_length, may_begin_length}
use Rattle.colo_wire.specs.Making.{message_in}
use Rattle.colo_wire.specs.Places.{follows}
use Rattle.shared_definitions.specs.Bytes.{AreBytes}
use Rattle.shared_definitions.proofs.ByteLemmas.{AreBytes-append, AreBytes-drop, AreBytes-take, AreBytes-zeros}
use Rattle.colo_wire.specs.Spelling.{IsMessage, body_of, kind_of, message_bytes}
use Rattle.colo_wire.specs.declared.faults.WireFault.{WireFault}
use Rattle.colo_wire.specs.declared.faults.WireFault.TheVariants as fault
use Rattle.colo_wire.specs.declared.kinds.Kind.{Kind}
use Rattle.colo_wire.specs.declared.kinds.Kind.TheVariants as kind
use Rattle.colo_wire.specs.declared.messages.Message.{Message}
use Rattle.colo_wire.proofs.BodyLemmas.{makes}
use Rattle.colo_wire.proofs.KindLemmas.{kind_again, kind_number, step_positive, allowed_small}
use Rattle.colo_wire.proofs.LengthLemmas.{length_passes, length_completes, length_allowed}
use Rattle.colo_wire.proofs.PlaceLemmas.{take_swap, drop_take, zeros, nothing_follows, follows_take, follows_join}

-- ---- what agrees with a message is judged as it

-- a body, as far as it is there
body_judged : (k : Kind) (body rest : List ℕ) (j : ℕ) → follows (places_of k) 0 body ≡ true → length rest ≡ j →
    take (length body) rest ≡ take j body →
    judge_body k (length body) rest ≡ cond (ltb j (length body)) (Err fault.More) (Ok (k, length body))
unfolding judge_body
body_judged k body rest j h len e =
    let good : follows (places_of k) 0 (take (length body) rest) ≡ true =
    ap (follows (places_of k) 0) e ∙ follows_take (places_of k) 0 j body h in
    let count : length (take (length body) rest) ≡ min (length body) j =
    length-take (length body) rest ∙ ap (min (length body)) len in
    let test : ltb (length (take (length body) rest)) (length body) ≡ ltb j (length body) =
    ap (λ (n : ℕ). ltb n (length body)) count ∙ below_min (length body) j in
    cond-true _ _ _ good ∙ ap (λ (t : Bool). cond t (Err fault.More) (Ok (k, length body))) test
  where
    below_min : (n j : ℕ) → ltb (min n j) n ≡ ltb j n
    below_min n j =
        elim (cases_lt j n) [
          | inl lt ↦ lt-ltb (min n j) n (omega arith) ∙ sym (lt-ltb j n lt)
          | inr le ↦ le-ltb (min n j) n (omega arith) ∙ sym (le-ltb j n le)
        ]

-- what is judged of a message with a body of this length, of which j bytes after the kind are there
abbrev whole_or_more : Kind → ℕ → ℕ → Judged
whole_or_more k n j = cond (ltb j (4 + n)) (Err fault.More) (Ok (k, n))

-- the length and the body of a message, as far as they are there
rest_judged : (k : Kind) (body rest : List ℕ) → AllowsLength (lengths_of k) (length body) →
    follows (places_of k) 0 body ≡ true →
    take (4 + length body) rest ≡ take (length rest) (to_be_bytes w32 (length body) ++ body) →
    judge_rest k rest ≡ whole_or_more k (length body) (length rest)
unfolding judge_rest
rest_judged k body rest allowed h e =
    let n = length body in
    let j = length rest in
    let small = allowed_small k n allowed in
    let head : take 4 rest ≡ take j (to_be_bytes w32 n) =
    sym (take-take 4 (4 + n) rest (omega arith)) ∙ ap (take 4) e ∙ take_swap 4 j (to_be_bytes w32 n ++ body) in
    let passes : may_begin_length (lengths_of k) (take 4 rest) ≡ true =
    ap (may_begin_length (lengths_of k)) head ∙ length_passes (lengths_of k) j n (step_positive k) allowed small in
    elim (cases_lt j 4) [
      | inl lt ↦
          let short : ltb (length (take 4 rest)) 4 ≡ true = lt-ltb _ _ (omega (arith, length-take 4 rest)) in
          let less : ltb j (4 + n) ≡ true = lt-ltb _ _ (omega arith) in
          cond-true _ _ _ passes ∙ cond-true _ _ _ short ∙ sym (cond-true _ _ _ less)
      | inr le ↦
          let long : ltb (length (take 4 rest)) 4 ≡ false = le-ltb _ _ (omega (arith, length-take 4 rest)) in
          let four : take 4 rest ≡ to_be_bytes w32 n = head ∙ take_all j (to_be_bytes w32 n) le in
          let number : from_be_bytes w32 (take 4 rest) ≡ n = ap (from_be_bytes w32) four
          ∙ from_be_bytes-to_be_bytes_4 n small in
          let tail : take n (drop 4 rest) ≡ take (j - 4) body =
          ap (λ (m : ℕ). take m (drop 4 rest)) (let d : n ≡ (4 + n) - 4 = omega arith in d)
          ∙ sym (drop_take 4 (4 + n) rest) ∙ ap (drop 4) e ∙ drop_take 4 j (to_be_bytes w32 n ++ body) in
          let last : judge_body k n (drop 4 rest) ≡ cond (ltb (j - 4) n) (Err fault.More) (Ok (k, n)) =
          body_judged k body (drop 4 rest) (j - 4) h (length-drop 4 rest) tail in
          cond-true _ _ _ passes ∙ cond-false _ _ _ long
          ∙ ap (λ (m : ℕ). judge_body k m (drop 4 rest)) number ∙ last
          ∙ ap (λ (t : Bool). cond t (Err fault.More) (Ok (k, n))) (four_more j n le)
    ]
  where
    four_more : (j n : ℕ) → 4 ≤ j → ltb (j - 4) n ≡ ltb j (4 + n)
    four_more j n le =
        elim (cases_lt (j - 4) n) [
          | inl lt ↦ lt-ltb (j - 4) n lt ∙ sym (lt-ltb j (4 + n) (omega arith))
          | inr above ↦ le-ltb (j - 4) n above ∙ sym (le-ltb j (4 + n) (omega arith))
        ]

-- how long a message is
pub message_length : (m : Message) → length (message_bytes m) ≡ 5 + length (body_of m)
unfolding message_bytes
message_length m = omega arith

heads_are : (a b : ℕ) (x y : List ℕ) → (a ∷ x) ≡ (b ∷ y) → (a ≡ b) × (x ≡ y)
heads_are a b x y e = (cc, cc)

-- the judgement of whatever agrees with a message
pub agrees_judged : (m : Message) (bytes : List ℕ) → IsMessage m → Agrees (message_bytes m) bytes →
    judge bytes ≡ cond (ltb (length bytes) (5 + length (body_of m))) (Err fault.More)
    (Ok (kind_of m, length (body_of m)))
unfolding message_bytes
agrees_judged m [] h e = sym (cond-true _ _ _ (lt-ltb 0 (5 + length (body_of m)) (omega arith)))
agrees_judged m (number ∷ rest) h e =
    let n = length (body_of m) in
    let tail = to_be_bytes w32 n ++ body_of m in
    let parts = heads_are (number_of_kind (kind_of m)) number (take (length rest) tail) (take (length tail) rest) e in
    let kind_is : kind_at number ≡ Some (kind_of m) = ap kind_at (sym parts.0) ∙ kind_again (kind_of m) in
    let count : length tail ≡ 4 + n = omega arith in
    let same : take (4 + n) rest ≡ take (length rest) tail = ap (λ (k : ℕ). take k rest) (sym count) ∙ sym parts.1 in
    ap (λ (o : Option Kind). judge_kind o rest) kind_is
    ∙ rest_judged (kind_of m) (body_of m) rest h.spelled.length h.spelled.places same
    ∙ ap (λ (t : Bool). cond t (Err fault.More) (Ok (kind_of m, n))) (one_more (length rest) n)
  where
    one_more : (j n : ℕ) → ltb j (4 + n) ≡ ltb (suc j) (5 + n)
    one_more j n =
        elim (cases_lt j (4 + n)) [
          | inl lt ↦ lt-ltb j (4 + n) lt ∙ sym (lt-ltb (suc j) (5 + n) (omega arith))
          | inr le ↦ le-ltb j (4 + n) le ∙ sym (le-ltb (suc j) (5 + n) (omega arith))
        ]

-- ---- what is judged good is a message, or its beginning

-- a good body makes a message
pub record Spells (k : Kind) (body : List ℕ) : Type 0 where
  pub message : IsMessage (message_in k body)
  pub bytes : message_bytes (message_in k body) ≡ number_of_kind k ∷ (to_be_bytes w32 (length body) ++ body)
  pub same_kind : kind_of (message_in k body) ≡ k
  pub same_body : body_of (message_in k body) ≡ body

pub spells : (k : Kind) (body : List ℕ) → AreBytes body → AllowsLength (lengths_of k) (length body) →
    follows (places_of k) 0 body ≡ true →
    Spells k body
unfolding message_bytes
spells k body fits allowed h =
    let made = makes k body fits allowed h in
    let m = message_in k body in
    let long : AllowsLength (lengths_of (kind_of m)) (length (body_of m)) =
    rw (made.same_kind, made.same_body) allowed in
    let places : follows (places_of (kind_of m)) 0 (body_of m) ≡ true = rw (made.same_kind, made.same_body) h in
    record {
      message = record { spelled = record { length = long; places = places }; ranges = made.ranges };
      bytes = ap (λ (x : Kind). number_of_kind x ∷ (to_be_bytes w32 (length (body_of m)) ++ body_of m)) made.same_kind
          ∙ ap (λ (x : List ℕ). number_of_kind k ∷ (to_be_bytes w32 (length x) ++ x)) made.same_body;
      same_kind = made.same_kind;
      same_body = made.same_body;
    }

-- from equal choices
pub chosen : {A : Type 0} (b : Bool) (x y z : A) → cond b x y ≡ z → ((b ≡ true) × (x ≡ z)) ⊎ ((b ≡ false) × (y ≡ z))
chosen true x y z e = inl (refl, e)
chosen false x y z e = inr (refl, e)

pub err_is : (e f : WireFault) → (let r : Judged = Err e in r) ≡ Err f → e ≡ f
err_is e f h = cc

pub ok_is : (p q : Kind × ℕ) → (let r : Judged = Ok p in r) ≡ Ok q → p ≡ q
ok_is p q h = cc

-- what a judgement of Ok says of the bytes after the kind
pub record IsWhole (k : Kind) (n : ℕ) (rest : List ℕ) : Type 0 where
  pub allowed : AllowsLength (lengths_of k) n
  pub long : 4 + n ≤ length rest
  pub number : to_be_bytes w32 n ≡ take 4 rest
  pub places : follows (places_of k) 0 (take n (drop 4 rest)) ≡ true

whole_body : (k : Kind) (n : ℕ) (rest : List ℕ) (j : Kind) (i : ℕ) → judge_body k n rest ≡ Ok (j, i) →
    (k ≡ j) × (n ≡ i) × (n ≤ length rest) × (follows (places_of k) 0 (take n rest) ≡ true)
unfolding judge_body
whole_body k n rest j i e =
    elim (chosen (follows (places_of k) 0 (take n rest))
    (cond (ltb (length (take n rest)) n) (Err fault.More) (Ok (k, n))) (Err fault.Field) (Ok (j, i)) e) [
      | inl good ↦
          elim (chosen (ltb (length (take n rest)) n) (Err fault.More) (Ok (k, n)) (Ok (j, i)) good.1) [
            | inl short ↦ absurd cc
            | inr long ↦
                let same = ok_is (k, n) (j, i) long.1 in (
                  ap (λ (p : Kind × ℕ). p.0) same,
                  ap (λ (p : Kind × ℕ). p.1) same,
                  omega (arith, ltb-false _ _ long.0, length-take n rest),
                  good.0,
                )
          ]
      | inr bad ↦ absurd cc
    ]

whole_rest : (k : Kind) (rest : List ℕ) (j : Kind) (i : ℕ) → AreBytes rest → judge_rest k rest ≡ Ok (j, i) →
    (k ≡ j) × IsWhole k i rest
unfolding judge_rest
whole_rest k rest j i fits e =
    let part = take 4 rest in
    let n = from_be_bytes w32 part in
    let inner = cond (ltb (length part) 4) (Err fault.More) (judge_body k n (drop 4 rest)) in
    elim (chosen (may_begin_length (lengths_of k) part) inner (Err fault.Length) (Ok (j, i)) e) [
      | inl good ↦
          elim (chosen (ltb (length part) 4) (Err fault.More) (judge_body k n (drop 4 rest)) (Ok (j, i)) good.1) [
            | inl short ↦ absurd cc
            | inr long ↦
                let len : length part ≡ 4 = omega (arith, ltb-false _ _ long.0, length-take 4 rest) in
                let w = whole_body k n (drop 4 rest) j i long.1 in
                let allowed = length_allowed (lengths_of k) part (step_positive k) len good.0 in
                let back : to_be_bytes w32 n ≡ part = be_bytes_4 part n len (AreBytes-take 4 rest fits) refl in (
                  w.0,
                  subst (λ (x : ℕ). IsWhole k x rest) w.1 (record {
                    allowed = allowed;
                    long = omega (arith, w.2, length-drop 4 rest, length-take 4 rest);
                    number = back;
                    places = w.3;
                  }),
                )
          ]
      | inr bad ↦ absurd cc
    ]

-- the message that is judged whole stands in front
pub record StandsFirst (k : Kind) (n : ℕ) (bytes : List ℕ) : Type 0 where
  pub allowed : AllowsLength (lengths_of k) n
  pub long : 5 + n ≤ length bytes
  pub first : IsFirst (message_in k (take n (drop 5 bytes))) (5 + n) bytes

kind_first : (number : ℕ) (k : Kind) (n : ℕ) (rest : List ℕ) → AreBytes rest → number ≡ number_of_kind k →
    IsWhole k n rest →
    StandsFirst k n (number ∷ rest)
kind_first number k n rest fits e w =
    let body = take n (drop 4 rest) in
    let len : length body ≡ n = omega (arith, w.long, length-take n (drop 4 rest), length-drop 4 rest) in
    let good =
    spells k body (AreBytes-take n (drop 4 rest) (AreBytes-drop 4 rest fits))
    (subst (AllowsLength (lengths_of k)) (sym len) w.allowed) w.places in
    let parts : take 4 rest ++ body ≡ take (4 + n) rest =
    ap (λ (x : List ℕ). x ++ body) (sym (take-take 4 (4 + n) rest (omega arith)))
    ∙ ap (λ (x : List ℕ). take 4 (take (4 + n) rest) ++ x) (sym (drop-take 4 n rest))
    ∙ take-append-drop 4 (take (4 + n) rest) in
    let spelled : take (suc (4 + n)) (number ∷ rest) ≡ message_bytes (message_in k body) =
    ap (λ (x : List ℕ). number ∷ x) (sym parts)
    ∙ ap (λ (x : ℕ). x ∷ (take 4 rest ++ body)) e
    ∙ ap (λ (x : List ℕ). number_of_kind k ∷ (x ++ body)) (sym w.number)
    ∙ ap (λ (x : ℕ). number_of_kind k ∷ (to_be_bytes w32 x ++ body)) (sym len)
    ∙ sym good.bytes in
    let count : 5 + n ≡ suc (4 + n) = omega arith in
    record {
      allowed = w.allowed;
      long = omega (arith, w.long);
      first = record {
        message = good.message;
        within = omega (arith, w.long);
        spelled = ap (λ (x : ℕ). take x (number ∷ rest)) count ∙ spelled;
      };
    }

kind_whole : (number : ℕ) (o : Option Kind) (rest : List ℕ) (k : Kind) (n : ℕ) → AreBytes rest → kind_at number ≡ o →
    judge_kind o rest ≡ Ok (k, n) →
    StandsFirst k n (number ∷ rest)
kind_whole number None rest k n fits same e = absurd cc
kind_whole number (Some j) rest k n fits same e =
    let w = whole_rest j rest k n fits e in
    let is : kind_at number ≡ Some k = same ∙ ap Some w.0 in
    let whole : IsWhole k n rest = subst (λ (x : Kind). IsWhole x n rest) w.0 w.1 in
    kind_first number k n rest fits (kind_number number k is) whole

tail_fits : (number : ℕ) (rest : List ℕ) → AreBytes (number ∷ rest) → AreBytes rest
tail_fits number rest fits i = fits (suc i)

pub whole_first : (bytes : List ℕ) (k : Kind) (n : ℕ) → AreBytes bytes → judge bytes ≡ Ok (k, n) →
    StandsFirst k n bytes
whole_first [] k n fits e = absurd cc
whole_first (number ∷ rest) k n fits e =
    kind_whole number (kind_at number) rest k n (tail_fits number rest fits) refl e

-- ---- what lacks bytes is the beginning of a message

-- a part of a body that may stand at the places, with zeros up to an allowed length
begun_body : (number : ℕ) (k : Kind) (n : ℕ) (part : List ℕ) → AreBytes part → number ≡ number_of_kind k →
    AllowsLength (lengths_of k) n →
    follows (places_of k) 0 part ≡ true → length part ≤ n →
    (m : Message) × IsMessage m
    × (message_bytes m ≡ number ∷ (to_be_bytes w32 n ++ (part ++ replicate (n - length part) 0)))
begun_body number k n part fits e allowed h within =
    let z = replicate (n - length part) 0 in
    let body = part ++ z in
    let len : length body ≡ n = omega (arith, length-append part z, length-replicate {A = ℕ} (n - length part) 0) in
    let good =
    spells k body (AreBytes-append part z fits (AreBytes-zeros (n - length part)))
    (subst (AllowsLength (lengths_of k)) (sym len) allowed)
    (follows_join (places_of k) 0 part z (zeros (n - length part)) h) in (
      message_in k body,
      good.message,
      good.bytes ∙ ap (λ (x : ℕ). number_of_kind k ∷ (to_be_bytes w32 x ++ body)) len
          ∙ ap (λ (x : ℕ). x ∷ (to_be_bytes w32 n ++ body)) (sym e),
    )

-- the front of a longer string
begun_by : (m : Message) (front back : List ℕ) → IsMessage m → message_bytes m ≡ front ++ back → 0 < length back →
    IsBegun m front
begun_by m front back h e some = record {
  message = h;
  part = omega (arith, ap length e, length-append front back);
  spelled = ap (take (length front)) e ∙ take_at front back (length front) refl;
}

-- only the first bytes of the length are there
length_begun : (number : ℕ) (k : Kind) (rest : List ℕ) → AreBytes rest → number ≡ number_of_kind k → length rest < 4 →
    may_begin_length (lengths_of k) rest ≡ true → (m : Message) × IsBegun m (number ∷ rest)
length_begun number k rest fits e short h =
    let c = length_completes (lengths_of k) rest (step_positive k) fits short h in
    let n = next_length (lengths_of k) (low_of rest) in
    let whole = begun_body number k n [] bytes_nothing e c.allowed (nothing_follows (places_of k) 0) (omega arith) in
    let z = replicate (n - 0) 0 in
    let back = drop (length rest) (to_be_bytes w32 n) ++ z in
    let split : to_be_bytes w32 n ≡ rest ++ drop (length rest) (to_be_bytes w32 n) =
    sym (take-append-drop (length rest) (to_be_bytes w32 n))
    ∙ ap (λ (x : List ℕ). x ++ drop (length rest) (to_be_bytes w32 n)) c.begins in
    let parts : message_bytes whole.0 ≡ (number ∷ rest) ++ back =
    whole.2 ∙ ap (λ (x : List ℕ). number ∷ (x ++ z)) split
    ∙ ap (λ (x : List ℕ). number ∷ x) (append_assoc rest (drop (length rest) (to_be_bytes w32 n)) z) in (
      whole.0,
      begun_by whole.0 (number ∷ rest) back whole.1 parts
          (omega (
            arith,
            length-append (drop (length rest) (to_be_bytes w32 n)) z,
            length-drop (length rest) (to_be_bytes w32 n),
          )),
    )
  where
    bytes_nothing : AreBytes []
    bytes_nothing i = omega arith

-- the length is there, and not all of the body
body_begun : (number : ℕ) (k : Kind) (n : ℕ) (rest : List ℕ) → AreBytes rest → number ≡ number_of_kind k →
    AllowsLength (lengths_of k) n →
    follows (places_of k) 0 rest ≡ true → length rest < n →
    (m : Message) × IsBegun m (number ∷ (to_be_bytes w32 n ++ rest))
body_begun number k n rest fits e allowed h short =
    let whole = begun_body number k n rest fits e allowed h (omega arith) in
    let z = replicate (n - length rest) 0 in
    let parts : message_bytes whole.0 ≡ (number ∷ (to_be_bytes w32 n ++ rest)) ++ z =
    whole.2 ∙ ap (λ (x : List ℕ). number ∷ x) (sym (append_assoc (to_be_bytes w32 n) rest z)) in (
      whole.0,
      begun_by whole.0 (number ∷ (to_be_bytes w32 n ++ rest)) z whole.1 parts
          (omega (arith, length-replicate {A = ℕ} (n - length rest) 0)),
    )

more_body : (k : Kind) (n : ℕ) (rest : List ℕ) → judge_body k n rest ≡ Err fault.More →
    (length rest < n) × (follows (places_of k) 0 (take n rest) ≡ true)
unfolding judge_body
more_body k n rest e =
    elim (chosen (follows (places_of k) 0 (take n rest))
    (cond (ltb (length (take n rest)) n) (Err fault.More) (Ok (k, n))) (Err fault.Field) (Err fault.More) e) [
      | inl good ↦
          elim (chosen (ltb (length (take n rest)) n) (Err fault.More) (Ok (k, n)) (Err fault.More) good.1) [
            | inl short ↦ (omega (arith, ltb-true _ _ short.0, length-take n rest), good.0)
            | inr long ↦ absurd cc
          ]
      | inr bad ↦ absurd cc
    ]

more_rest : (number : ℕ) (k : Kind) (rest : List ℕ) → AreBytes rest → number ≡ number_of_kind k →
    judge_rest k rest ≡ Err fault.More →
    (m : Message) × IsBegun m (number ∷ rest)
unfolding judge_rest
more_rest number k rest fits same e =
    let part = take 4 rest in
    let n = from_be_bytes w32 part in
    let inner = cond (ltb (length part) 4) (Err fault.More) (judge_body k n (drop 4 rest)) in
    elim (chosen (may_begin_length (lengths_of k) part) inner (Err fault.Length) (Err fault.More) e) [
      | inl good ↦
          elim (chosen (ltb (length part) 4) (Err fault.More) (judge_body k n (drop 4 rest)) (Err fault.More) good.1) [
            | inl short ↦
                let lt : length rest < 4 = omega (arith, ltb-true _ _ short.0, length-take 4 rest) in
                let all : part ≡ rest = take_all 4 rest (omega arith) in
                length_begun number k rest fits same lt (ap (may_begin_length (lengths_of k)) (sym all) ∙ good.0)
            | inr long ↦
                let len : length part ≡ 4 = omega (arith, ltb-false _ _ long.0, length-take 4 rest) in
                let b = more_body k n (drop 4 rest) long.1 in
                let all : take n (drop 4 rest) ≡ drop 4 rest = take_all n (drop 4 rest) (omega (arith, b.0)) in
                let allowed = length_allowed (lengths_of k) part (step_positive k) len good.0 in
                let back : to_be_bytes w32 n ≡ part = be_bytes_4 part n len (AreBytes-take 4 rest fits) refl in
                let whole : to_be_bytes w32 n ++ drop 4 rest ≡ rest =
                ap (λ (x : List ℕ). x ++ drop 4 rest) back ∙ take-append-drop 4 rest in
                subst (λ (x : List ℕ). (m : Message) × IsBegun m (number ∷ x)) whole
                (body_begun number k n (drop 4 rest) (AreBytes-drop 4 rest fits) same allowed
                (ap (follows (places_of k) 0) (sym all) ∙ b.1) b.0)
          ]
      | inr bad ↦ absurd cc
    ]

kind_more : (number : ℕ) (o : Option Kind) (rest : List ℕ) → AreBytes rest → kind_at number ≡ o →
    judge_kind o rest ≡ Err fault.More →
    (m : Message) × IsBegun m (number ∷ rest)
kind_more number None rest fits same e = absurd cc
kind_more number (Some k) rest fits same e = more_rest number k rest fits (kind_number number k same) e

-- some message of four bytes of body
nothing_more : (m : Message) × IsBegun m []
nothing_more =
    let whole =
    begun_body 14 kind.Ack 4 [] (λ i. omega arith) refl
    (record { from = omega arith; to = omega arith; stepped = refl })
    refl (omega arith) in
    (whole.0, begun_by whole.0 [] (message_bytes whole.0) whole.1 refl (omega (arith, ap length whole.2)))

pub more_begun : (bytes : List ℕ) → AreBytes bytes → judge bytes ≡ Err fault.More → (m : Message) × IsBegun m bytes
more_begun [] fits e = nothing_more
more_begun (number ∷ rest) fits e = kind_more number (kind_at number) rest (tail_fits number rest fits) refl e
