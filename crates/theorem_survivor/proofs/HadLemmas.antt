-- A number that the primary knows the secondary to have is one that it has: how it goes on with both nodes' numbers.
use Rattle.std.proofs.Common.{◌≡◌, ℕ, ◌==◌, Bool, true, false, not, ◌&&◌, if◌then◌else◌, List, [], ◌∷◌, ◌++◌, filter, find, fold, map, Option, None, Some, is_some, refl, sym, ap, subst, ◌∙◌, eqb-true, true≢false}
use Rattle.std.specs.List.{AllByRecursion, list_any}
use Rattle.std.specs.Option.{option_map}
use Rattle.std.proofs.lemmas.Bool.{and_parts, cond_both}
use Rattle.inet_frame.specs.Counted.{tuple_of}
use Rattle.inet_frame.specs.Fields.{TcpFields}
use Rattle.inet_frame.specs.declared.tuple.Tuple.{Tuple}
use Rattle.tcp_track.specs.Lines.{Item, line}
use Rattle.tcp_track.specs.Segments.{may_open, opening_in, same_tuple}
use Rattle.tcp_track.specs.Stands.{is_of_client}
use Rattle.tcp_track.proofs.TupleLemmas.{same_tuple-eq}
use Rattle.settle_rules.specs.Numbers.{KeptNumber, is_number_of, keep_number, kept_number, learn, learn_all, learn_number, new_number, thin}
use Rattle.settle_rules.specs.OwnFrames.{OwnFrames, own_after}
use Rattle.pair_theorem.specs.Events.{number_said}
use Rattle.theorem_frames.proofs.PromptLemmas.{found_any, kept_stays}
use Rattle.theorem_splices.specs.Numbers.{plain, plain_numbers}
use Rattle.theorem_stands.proofs.KeptLemmas.{is_own}
use Rattle.theorem_numbers.proofs.SynLemmas.{HasNumber}

-- a number that is kept, and known to the other node
pub record HasKnown (numbers : List KeptNumber) (t : Tuple) (client number : ℕ) : Type 0 where
  pub kept : KeptNumber
  pub found : kept_number t client numbers ≡ Some kept
  pub known : kept.known ≡ true
  pub number_is : kept.number ≡ number

-- each known number of one node is a number of the other
abbrev pub KnownHad : List KeptNumber → List KeptNumber → Type 0
KnownHad mine theirs =
    (t : Tuple) (client number : ℕ) → HasKnown mine t client number → HasNumber theirs t client number

-- each number of one list is one of the other
abbrev pub KeepsAll : List KeptNumber → List KeptNumber → Type 0
KeepsAll old new =
    (t : Tuple) (client number : ℕ) → HasNumber old t client number → HasNumber new t client number

pub as_kept : (numbers : List KeptNumber) (t : Tuple) (client number : ℕ) → HasKnown numbers t client number
    → HasNumber numbers t client number
as_kept numbers t client number h = record { kept = h.kept; found = h.found; number_is = h.number_is }

-- WHAT IS FOUND passes the test
pub found_is : (p : KeptNumber → Bool) (numbers : List KeptNumber) (k : KeptNumber) → find p numbers ≡ Some k
    → p k ≡ true
found_is p [] k e = absurd (cc e)
found_is p (x ∷ numbers) k e = by (p x) refl e (found_is p numbers k)
  where
    by : (b : Bool) → p x ≡ b → (if b then Some x else find p numbers) ≡ Some k
        → (find p numbers ≡ Some k → p k ≡ true) → p k ≡ true
    by true f g rest = let is : x ≡ k = cc in subst (λ (y : KeptNumber). p y ≡ true) is f
    by false f g rest = rest g

found_last : (p : KeptNumber → Bool) (numbers : List KeptNumber) (k : KeptNumber) → find p numbers ≡ None → p k ≡ true
    → find p (numbers ++ k ∷ []) ≡ Some k
found_last p [] k none h = ap (λ (b : Bool). if b then Some k else None) h
found_last p (x ∷ numbers) k none h = by (p x) none (λ f. found_last p numbers k f h)
  where
    by : (b : Bool) → (if b then Some x else find p numbers) ≡ None
        → (find p numbers ≡ None → find p (numbers ++ k ∷ []) ≡ Some k)
        → (if b then Some x else find p (numbers ++ k ∷ [])) ≡ Some k
    by true f rest = absurd (cc f)
    by false f rest = rest f

-- THE NUMBER THAT IS KEPT for a client, if any
abbrev kept_for : Tuple → ℕ → List KeptNumber → Option ℕ
kept_for t client numbers = option_map (λ (k : KeptNumber). k.number) (kept_number t client numbers)

has_from : (t : Tuple) (client number : ℕ) (numbers : List KeptNumber) → kept_for t client numbers ≡ Some number
    → HasNumber numbers t client number
has_from t client number numbers e = by (kept_number t client numbers) refl e
  where
    by : (o : Option KeptNumber) → kept_number t client numbers ≡ o
        → option_map (λ (k : KeptNumber). k.number) o ≡ Some number → HasNumber numbers t client number
    by None f g = absurd (cc g)
    by (Some k) f g = let is : k.number ≡ number = cc in record { kept = k; found = f; number_is = is }

for_has : (t : Tuple) (client number : ℕ) (numbers : List KeptNumber) → HasNumber numbers t client number
    → kept_for t client numbers ≡ Some number
for_has t client number numbers h = ap (option_map (λ (k : KeptNumber). k.number)) h.found ∙ ap Some h.number_is

-- one number is kept for a client
pub one_number : (numbers : List KeptNumber) (t : Tuple) (client m n : ℕ) → HasNumber numbers t client m
    → HasNumber numbers t client n → m ≡ n
one_number numbers t client m n h g =
    same m n (sym (for_has t client m numbers h) ∙ for_has t client n numbers g)
  where
    same : (a b : ℕ) → Some a ≡ Some b → a ≡ b
    same a b e = cc

mapped_for : (f : KeptNumber → KeptNumber) → ((k : KeptNumber) → (f k).number ≡ k.number)
    → ((t : Tuple) (client : ℕ) (k : KeptNumber) → is_number_of t client (f k) ≡ is_number_of t client k)
    → (t : Tuple) (client : ℕ) (numbers : List KeptNumber)
    → kept_for t client (map f numbers) ≡ kept_for t client numbers
mapped_for f number same t client [] = refl
mapped_for f number same t client (k ∷ numbers) =
    ap (λ (b : Bool). option_map (λ (x : KeptNumber). x.number)
    (if b then Some (f k) else kept_number t client (map f numbers))) (same t client k)
    ∙ by (is_number_of t client k) (mapped_for f number same t client numbers)
  where
    by : (b : Bool) → kept_for t client (map f numbers) ≡ kept_for t client numbers
        → option_map (λ (x : KeptNumber). x.number) (if b then Some (f k) else kept_number t client (map f numbers))
        ≡ option_map (λ (x : KeptNumber). x.number) (if b then Some k else kept_number t client numbers)
    by true rest = ap Some (number k)
    by false rest = rest

-- WHETHER A NUMBER IS KNOWN doesn't count for what is kept
plain_for : (t : Tuple) (client : ℕ) (numbers : List KeptNumber)
    → kept_for t client (plain_numbers numbers) ≡ kept_for t client numbers
plain_for t client numbers = mapped_for plain (λ k. refl) (λ u c k. refl) t client numbers

pub plain_keeps : (old new : List KeptNumber) → plain_numbers old ≡ plain_numbers new → KeepsAll old new
plain_keeps old new e t client number h =
    has_from t client number new (sym (plain_for t client new)
    ∙ (ap (λ (ks : List KeptNumber). kept_for t client ks) (sym e)
    ∙ (plain_for t client old ∙ for_has t client number old h)))

learn_all_for : (t : Tuple) (client : ℕ) (numbers : List KeptNumber)
    → kept_for t client (learn_all numbers) ≡ kept_for t client numbers
learn_all_for t client numbers =
    mapped_for (λ (k : KeptNumber). record k { known = true }) (λ k. refl) (λ u c k. refl) t client numbers

learn_for : (u : Tuple) (other said : ℕ) (t : Tuple) (client : ℕ) (numbers : List KeptNumber)
    → kept_for t client (learn_number numbers u other said) ≡ kept_for t client numbers
learn_for u other said t client numbers =
    mapped_for (learn u other said)
    (λ k. cond_both (is_number_of u other k && k.number == said) (record k { known = true }) k
    (λ (x : KeptNumber). x.number ≡ k.number) (λ e. refl) (λ e. refl))
    (λ v c k. cond_both (is_number_of u other k && k.number == said) (record k { known = true }) k
    (λ (x : KeptNumber). is_number_of v c x ≡ is_number_of v c k) (λ e. refl) (λ e. refl)) t client numbers

pub learn_all_keeps : (numbers : List KeptNumber) → KeepsAll numbers (learn_all numbers)
learn_all_keeps numbers t client number h =
    has_from t client number (learn_all numbers)
    (learn_all_for t client numbers ∙ for_has t client number numbers h)

pub learn_keeps : (numbers : List KeptNumber) (u : Tuple) (other said : ℕ)
    → KeepsAll numbers (learn_number numbers u other said)
learn_keeps numbers u other said t client number h =
    has_from t client number (learn_number numbers u other said)
    (learn_for u other said t client numbers ∙ for_has t client number numbers h)

-- THE ACKNOWLEDGEMENT makes all known
pub all_learnt_had : (mine theirs : List KeptNumber) → KeepsAll mine theirs → KnownHad (learn_all mine) theirs
all_learnt_had mine theirs keeps t client number h =
    keeps t client number (has_from t client number mine (sym (learn_all_for t client mine)
    ∙ for_has t client number (learn_all mine) (as_kept (learn_all mine) t client number h)))

-- A NUMBER IS LEARNT that the secondary has
found_mapped : (p : KeptNumber → Bool) (f : KeptNumber → KeptNumber) → ((k : KeptNumber) → p (f k) ≡ p k)
    → (numbers : List KeptNumber) → find p (map f numbers) ≡ option_map f (find p numbers)
found_mapped p f same [] = refl
found_mapped p f same (k ∷ numbers) =
    ap (λ (b : Bool). if b then Some (f k) else find p (map f numbers)) (same k)
    ∙ by (p k) (found_mapped p f same numbers)
  where
    by : (b : Bool) → find p (map f numbers) ≡ option_map f (find p numbers)
        → (if b then Some (f k) else find p (map f numbers)) ≡ option_map f (if b then Some k else find p numbers)
    by true rest = refl
    by false rest = rest

found_learnt : (u : Tuple) (other said : ℕ) (t : Tuple) (client : ℕ) (numbers : List KeptNumber)
    → kept_number t client (learn_number numbers u other said)
    ≡ option_map (learn u other said) (kept_number t client numbers)
found_learnt u other said t client numbers =
    found_mapped (is_number_of t client) (learn u other said)
    (λ k. cond_both (is_number_of u other k && k.number == said) (record k { known = true }) k
    (λ (x : KeptNumber). is_number_of t client x ≡ is_number_of t client k) (λ e. refl) (λ e. refl)) numbers

pub learnt_had : (mine theirs : List KeptNumber) (u : Tuple) (other said : ℕ) → HasNumber theirs u other said
    → KnownHad mine theirs → KnownHad (learn_number mine u other said) theirs
learnt_had mine theirs u other said h before t client number k =
    by (kept_number t client mine) refl (sym (found_learnt u other said t client mine) ∙ k.found)
  where
    same : (a b : KeptNumber) → Some a ≡ Some b → a ≡ b
    same a b e = cc

    moved : (v : Tuple) (d : ℕ) (m : ℕ) → v ≡ u → d ≡ other → m ≡ said → HasNumber theirs v d m
    moved v d m e f g =
        subst (λ (w : Tuple). HasNumber theirs w d m) (sym e)
        (subst (λ (c : ℕ). HasNumber theirs u c m) (sym f) (subst (λ (n : ℕ). HasNumber theirs u other n) (sym g) h))

    learnt : (old : KeptNumber) → kept_number t client mine ≡ Some old → learn u other said old ≡ k.kept
        → (b : Bool) → (is_number_of u other old && old.number == said) ≡ b → HasNumber theirs t client number
    learnt old f is true e =
        let parts = and_parts (is_number_of u other old) (old.number == said) e in
        let theirs_is = and_parts (same_tuple old.tuple u) (old.client == other) parts.0 in
        let here = and_parts (same_tuple old.tuple t) (old.client == client)
        (found_is (is_number_of t client) mine old f) in
        let tuple_is = sym (same_tuple-eq old.tuple t here.0) ∙ same_tuple-eq old.tuple u theirs_is.0 in
        let client_is = sym (eqb-true old.client client here.1) ∙ eqb-true old.client other theirs_is.1 in
        let as_old : (learn u other said old).number ≡ old.number =
        ap (λ (b : Bool). (if b then record old { known = true } else old).number) e in
        let number_is = sym k.number_is ∙ (ap (λ (x : KeptNumber). x.number) (sym is)
        ∙ (as_old ∙ eqb-true old.number said parts.1)) in
        moved t client number tuple_is client_is number_is
    learnt old f is false e =
        let as_old : learn u other said old ≡ old =
        ap (λ (b : Bool). if b then record old { known = true } else old) e in
        let same_one : old ≡ k.kept = sym as_old ∙ is in
        before t client number (record {
          kept = k.kept;
          found = f ∙ ap Some same_one;
          known = k.known;
          number_is = k.number_is;
        })

    by : (o : Option KeptNumber) → kept_number t client mine ≡ o → option_map (learn u other said) o ≡ Some k.kept
        → HasNumber theirs t client number
    by None f g = absurd (cc g)
    by (Some old) f g =
        learnt old f (same (learn u other said old) k.kept g) (is_number_of u other old && old.number == said) refl

-- NEW NUMBERS are unknown
abbrev AreUnknown : List KeptNumber → Type 0
AreUnknown more = AllByRecursion (λ (k : KeptNumber). k.known ≡ false) more

none_known : (p : KeptNumber → Bool) (more : List KeptNumber) → AreUnknown more → (k : KeptNumber)
    → find p more ≡ Some k → k.known ≡ true → ⊥
none_known p [] h k e known = absurd (cc e)
none_known p (x ∷ more) h k e known = by (p x) e (none_known p more h.1 k)
  where
    by : (b : Bool) → (if b then Some x else find p more) ≡ Some k
        → (find p more ≡ Some k → k.known ≡ true → ⊥) → ⊥
    by true f rest = let is : x ≡ k = cc in true≢false (sym known ∙ subst (λ (y : KeptNumber). y.known ≡ false) is h.0)
    by false f rest = rest f known

known_front : (p : KeptNumber → Bool) (numbers more : List KeptNumber) → AreUnknown more → (k : KeptNumber)
    → find p (numbers ++ more) ≡ Some k → k.known ≡ true → find p numbers ≡ Some k
known_front p [] more h k e known = absurd (none_known p more h k e known)
known_front p (x ∷ numbers) more h k e known = by (p x) e (λ f. known_front p numbers more h k f known)
  where
    by : (b : Bool) → (if b then Some x else find p (numbers ++ more)) ≡ Some k
        → (find p (numbers ++ more) ≡ Some k → find p numbers ≡ Some k)
        → (if b then Some x else find p numbers) ≡ Some k
    by true f rest = f
    by false f rest = rest f

new_unknown : (numbers : List KeptNumber) (s : TcpFields) → AreUnknown (new_number numbers s)
unfolding new_number
new_unknown numbers s = by (may_open s) (list_any (is_number_of (tuple_of s) (opening_in s).client) numbers)
  where
    k : KeptNumber
    k = record { tuple = tuple_of s; client = (opening_in s).client; number = s.seq; known = false }

    by : (b c : Bool) → AreUnknown (if b && not c then k ∷ [] else [])
    by true true = tt
    by true false = (refl, tt)
    by false c = tt

pub own_had : (own : OwnFrames) (xs : List TcpFields) (theirs : List KeptNumber) → KnownHad own.numbers theirs
    → KnownHad (fold own_after own xs).numbers theirs
own_had own [] theirs h = h
own_had own (s ∷ xs) theirs h =
    own_had (own_after own s) xs theirs (λ t client number k. h t client number (record {
      kept = k.kept;
      found = known_front (is_number_of t client) own.numbers (new_number own.numbers s) (new_unknown own.numbers s)
          k.kept k.found k.known;
      known = k.known;
      number_is = k.number_is;
    }))

-- A CAPTURE drops some
found_thinned : (p q : KeptNumber → Bool)
    → ((x y : KeptNumber) → p x ≡ true → p y ≡ true → q x ≡ q y) → (numbers : List KeptNumber) (k : KeptNumber)
    → find p (filter q numbers) ≡ Some k → (find p numbers ≡ Some k) × (q k ≡ true)
found_thinned p q alike [] k e = absurd (cc e)
found_thinned p q alike (x ∷ numbers) k e = by (q x) refl (p x) refl e (found_thinned p q alike numbers k)
  where
    by : (b : Bool) → q x ≡ b → (c : Bool) → p x ≡ c
        → find p (if b then x ∷ filter q numbers else filter q numbers) ≡ Some k
        → (find p (filter q numbers) ≡ Some k → (find p numbers ≡ Some k) × (q k ≡ true))
        → ((if c then Some x else find p numbers) ≡ Some k) × (q k ≡ true)
    by true f true g h rest =
        let got : Some x ≡ Some k = sym (ap (λ (b : Bool). if b then Some x else find p (filter q numbers)) g) ∙ h in
        let is : x ≡ k = cc in
        (got, subst (λ (y : KeptNumber). q y ≡ true) is f)
    by true f false g h rest =
        rest (sym (ap (λ (b : Bool). if b then Some x else find p (filter q numbers)) g) ∙ h)
    by false f true g h rest =
        let r = rest h in
        absurd (true≢false (sym r.1 ∙ (sym (alike x k g (found_is p numbers k r.0)) ∙ f)))
    by false f false g h rest = rest h

of_one_client : (items : List Item) (t : Tuple) (client : ℕ) (x y : KeptNumber) → is_number_of t client x ≡ true
    → is_number_of t client y ≡ true
    → is_of_client (line x.tuple items).opening x.client ≡ is_of_client (line y.tuple items).opening y.client
of_one_client items t client x y e f =
    let here = and_parts (same_tuple x.tuple t) (x.client == client) e in
    let there = and_parts (same_tuple y.tuple t) (y.client == client) f in
    let tuple_is = same_tuple-eq x.tuple t here.0 ∙ sym (same_tuple-eq y.tuple t there.0) in
    let client_is = eqb-true x.client client here.1 ∙ sym (eqb-true y.client client there.1) in
    λ i. is_of_client (line (tuple_is i) items).opening (client_is i)

pub thinned_had : (items : List Item) (mine theirs : List KeptNumber) → KnownHad mine theirs
    → KnownHad (thin items mine) theirs
unfolding thin
thinned_had items mine theirs h t client number k =
    h t client number (record {
      kept = k.kept;
      found = (found_thinned (is_number_of t client)
          (λ (x : KeptNumber). is_of_client (line x.tuple items).opening x.client) (of_one_client items t client)
          mine k.kept k.found).0;
      known = k.known;
      number_is = k.number_is;
    })

-- A NUMBER COMES to the secondary, which says back the one that it keeps
pub keep_keeps : (theirs : List KeptNumber) (u : Tuple) (other said : ℕ)
    → KeepsAll theirs (keep_number u other said true theirs)
keep_keeps theirs u other said t client number h = record {
  kept = h.kept;
  found = kept_stays t client u other said theirs (ap is_some h.found) ∙ h.found;
  number_is = h.number_is;
}

pub said_had : (theirs : List KeptNumber) (u : Tuple) (other said : ℕ)
    → HasNumber (keep_number u other said true theirs) u other (number_said (kept_number u other theirs) said)
said_had theirs u other said = by (kept_number u other theirs) refl
  where
    k : KeptNumber
    k = record { tuple = u; client = other; number = said; known = true }

    none_any : kept_number u other theirs ≡ None → list_any (is_number_of u other) theirs ≡ false
    none_any e = sym (found_any (is_number_of u other) theirs) ∙ ap is_some e

    by : (o : Option KeptNumber) → kept_number u other theirs ≡ o
        → HasNumber (keep_number u other said true theirs) u other (number_said o said)
    by None e =
        subst (λ (b : Bool). HasNumber (if b then theirs else theirs ++ k ∷ []) u other said) (sym (none_any e))
        (record {
          kept = k;
          found = found_last (is_number_of u other) theirs k e (is_own u other said true);
          number_is = refl;
        })
    by (Some old) e =
        keep_keeps theirs u other said u other old.number (record { kept = old; found = e; number_is = refl })
