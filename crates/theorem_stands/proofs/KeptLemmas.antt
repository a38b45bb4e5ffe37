-- What is found among kept numbers after one more, after a capture and after an acknowledgement.
use Rattle.std.proofs.Common.{◌≡◌, ◌==◌, ℕ, Bool, true, false, not, ◌&&◌, is_some, if◌then◌else◌, List, [], ◌∷◌, ◌++◌, filter, find, map, Option, None, Some, refl, sym, ap, ◌∙◌, true≢false, eq-eqb, eqb-true}
use Rattle.std.specs.List.{list_any}
use Rattle.std.specs.Option.{option_map}
use Rattle.std.proofs.lemmas.Bool.{and_from, and_parts, cond_both}
use Rattle.inet_frame.specs.Counted.{tuple_of}
use Rattle.inet_frame.specs.Fields.{TcpFields}
use Rattle.inet_frame.specs.declared.tuple.Tuple.{Tuple}
use Rattle.tcp_track.specs.Lines.{Item, line}
use Rattle.tcp_track.specs.Segments.{may_open, opening_in, same_tuple}
use Rattle.tcp_track.specs.Stands.{is_of_client}
use Rattle.tcp_track.specs.declared.openings.Opening.{Opening}
use Rattle.tcp_track.proofs.TupleLemmas.{same_tuple-eq, same_tuple-refl}
use Rattle.settle_rules.specs.Numbers.{KeptNumber, is_number_of, kept_number, learn, learn_all, learn_number, new_number, number_or_zero, thin}
use Rattle.theorem_frames.proofs.PromptLemmas.{found_any, found_last, found_stays}

-- the number that is kept for a client
abbrev pub number_for : Tuple → ℕ → List KeptNumber → ℕ
number_for t client numbers = number_or_zero (kept_number t client numbers)

pub is_own : (t : Tuple) (client : ℕ) (number : ℕ) (known : Bool) →
    is_number_of t client (record { tuple = t; client = client; number = number; known = known }) ≡ true
is_own t client number known =
    and_from (same_tuple t t) (client == client) (same_tuple-refl t) (eq-eqb client client refl)

-- ONE MORE
pub kept_more : (t : Tuple) (client : ℕ) (numbers more : List KeptNumber) →
    is_some (kept_number t client numbers) ≡ true →
    kept_number t client (numbers ++ more) ≡ kept_number t client numbers
kept_more t client numbers more h = found_stays (is_number_of t client) numbers more h

-- an opening's number is kept
pub opening_kept : (numbers : List KeptNumber) (s : TcpFields) → may_open s ≡ true →
    is_some (kept_number (tuple_of s) (opening_in s).client (numbers ++ new_number numbers s)) ≡ true
unfolding new_number
opening_kept numbers s opens = by (list_any p numbers) refl (may_open s) opens
  where
    p : KeptNumber → Bool
    p = is_number_of (tuple_of s) (opening_in s).client

    k : KeptNumber
    k = record { tuple = tuple_of s; client = (opening_in s).client; number = s.seq; known = false }

    by : (b : Bool) → list_any p numbers ≡ b → (m : Bool) → m ≡ true →
        is_some (find p (numbers ++ (if m && not b then k ∷ [] else []))) ≡ true
    by b e false f = absurd (true≢false (sym f))
    by true e true f =
        let found = found_any p numbers ∙ e in
        ap is_some (kept_more (tuple_of s) (opening_in s).client numbers [] found) ∙ found
    by false e true f = found_last p numbers k (is_own (tuple_of s) (opening_in s).client s.seq false)

-- A CAPTURE keeps those of the current openings
found_filtered : (p q : KeptNumber → Bool) → ((k : KeptNumber) → p k ≡ true → q k ≡ true) →
    (numbers : List KeptNumber) → find p (filter q numbers) ≡ find p numbers
found_filtered p q each [] = refl
found_filtered p q each (k ∷ numbers) = by (q k) refl (p k) refl (found_filtered p q each numbers)
  where
    by : (b : Bool) → q k ≡ b → (c : Bool) → p k ≡ c → find p (filter q numbers) ≡ find p numbers →
        find p (if b then k ∷ filter q numbers else filter q numbers) ≡ (if c then Some k else find p numbers)
    by true e c f more =
        ap (λ (x : Bool). if x then Some k else find p (filter q numbers)) f
        ∙ ap (λ (o : Option KeptNumber). if c then Some k else o) more
    by false e true f more = absurd (true≢false (sym (each k f) ∙ e))
    by false e false f more = more

pub kept_thinned : (items : List Item) (t : Tuple) (o : Opening) (numbers : List KeptNumber) →
    (line t items).opening ≡ Some o →
    kept_number t o.client (thin items numbers) ≡ kept_number t o.client numbers
unfolding thin
kept_thinned items t o numbers e =
    found_filtered (is_number_of t o.client) (λ (k : KeptNumber). is_of_client (line k.tuple items).opening k.client)
    (λ k f.
    let parts = and_parts (same_tuple k.tuple t) (k.client == o.client) f in
    ap (λ (u : Tuple). is_of_client (line u items).opening k.client) (same_tuple-eq k.tuple t parts.0)
    ∙ (ap (λ (p : Option Opening). is_of_client p k.client) e
    ∙ eq-eqb o.client k.client (sym (eqb-true k.client o.client parts.1)))) numbers

-- NUMBERS THAT ARE LEARNT stay as they are
found_learnt : (p : KeptNumber → Bool) (f : KeptNumber → KeptNumber) → ((k : KeptNumber) → p (f k) ≡ p k) →
    (numbers : List KeptNumber) → find p (map f numbers) ≡ option_map f (find p numbers)
found_learnt p f same [] = refl
found_learnt p f same (k ∷ numbers) = by (p k) (same k) (found_learnt p f same numbers)
  where
    by : (b : Bool) → p (f k) ≡ b → find p (map f numbers) ≡ option_map f (find p numbers) →
        (if p (f k) then Some (f k) else find p (map f numbers))
        ≡ option_map f (if b then Some k else find p numbers)
    by true e more = ap (λ (x : Bool). if x then Some (f k) else find p (map f numbers)) e
    by false e more = ap (λ (x : Bool). if x then Some (f k) else find p (map f numbers)) e ∙ more

-- the same numbers are kept for each client
pub record KeepsAlike (old new : List KeptNumber) (t : Tuple) (client : ℕ) : Type 0 where
  pub some : is_some (kept_number t client new) ≡ is_some (kept_number t client old)
  pub number : number_for t client new ≡ number_for t client old

alike_learnt : (f : KeptNumber → KeptNumber) → ((k : KeptNumber) → (f k).number ≡ k.number) →
    ((t : Tuple) (client : ℕ) (k : KeptNumber) → is_number_of t client (f k) ≡ is_number_of t client k) →
    (numbers : List KeptNumber) (t : Tuple) (client : ℕ) → KeepsAlike numbers (map f numbers) t client
alike_learnt f number same numbers t client =
    let found = found_learnt (is_number_of t client) f (same t client) numbers in
    record {
      some = ap is_some found ∙ is_same (kept_number t client numbers);
      number = ap number_or_zero found ∙ has_same (kept_number t client numbers);
    }
  where
    is_same : (o : Option KeptNumber) → is_some (option_map f o) ≡ is_some o
    is_same None = refl
    is_same (Some k) = refl

    has_same : (o : Option KeptNumber) → number_or_zero (option_map f o) ≡ number_or_zero o
    has_same None = refl
    has_same (Some k) = number k

pub one_learnt : (numbers : List KeptNumber) (u : Tuple) (other number : ℕ) (t : Tuple) (client : ℕ) →
    KeepsAlike numbers (learn_number numbers u other number) t client
one_learnt numbers u other number t client =
    alike_learnt (learn u other number)
    (λ k. cond_both (is_number_of u other k && k.number == number) (record k { known = true }) k
    (λ (x : KeptNumber). x.number ≡ k.number) (λ e. refl) (λ e. refl))
    (λ v c k. cond_both (is_number_of u other k && k.number == number) (record k { known = true }) k
    (λ (x : KeptNumber). is_number_of v c x ≡ is_number_of v c k) (λ e. refl) (λ e. refl)) numbers t client

pub all_learnt : (numbers : List KeptNumber) (t : Tuple) (client : ℕ) → KeepsAlike numbers (learn_all numbers) t client
all_learnt numbers t client =
    alike_learnt (λ (k : KeptNumber). record k { known = true }) (λ k. refl) (λ v c k. refl) numbers t client
