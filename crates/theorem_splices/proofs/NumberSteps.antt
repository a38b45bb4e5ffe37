-- How the numbers of both nodes go on, as the link to the secondary does.
use Rattle.std.proofs.Common.{◌≡◌, ℕ, ◌==◌, ◌||◌, ◌&&◌, not, Bool, true, false, List, [], ◌∷◌, ◌++◌, append-nil, append_assoc, filter, fold, map, if◌then◌else◌, refl, sym, ap, subst, ◌∙◌}
use Rattle.std.specs.List.{list_any}
use Rattle.std.proofs.lemmas.Bool.{or_parts, or_from}
use Rattle.std.proofs.lemmas.List.Folds.{list_any-append}
use Rattle.inet_frame.specs.Counted.{tuple_of}
use Rattle.inet_frame.specs.Fields.{TcpFields}
use Rattle.inet_frame.specs.declared.tuple.Tuple.{Tuple}
use Rattle.tcp_track.specs.Lines.{Item, line}
use Rattle.tcp_track.specs.Segments.{may_open, opening_in}
use Rattle.tcp_track.specs.Stands.{is_of_client}
use Rattle.settle_rules.specs.Numbers.{KeptNumber, is_number_of, keep_number, learn_all, learn_number, new_number, thin}
use Rattle.settle_rules.specs.OwnFrames.{OwnFrames, own_after}
use Rattle.pair_theorem.specs.Events.{number_message}
use Rattle.theorem_splices.specs.Numbers.{AreNewAfter, numbers_on, plain, plain_numbers}

-- WHETHER A CLIENT HAS A NUMBER does not ask whether it is known
abbrev pub has_number : Tuple → ℕ → List KeptNumber → Bool
has_number t client numbers = list_any (is_number_of t client) numbers

has_plain : (t : Tuple) (client : ℕ) (numbers : List KeptNumber)
    → has_number t client (plain_numbers numbers) ≡ has_number t client numbers
has_plain t client [] = refl
has_plain t client (k ∷ numbers) =
    ap (λ (b : Bool). is_number_of t client k || b) (has_plain t client numbers)

pub plain-append : (xs ys : List KeptNumber) → plain_numbers (xs ++ ys) ≡ plain_numbers xs ++ plain_numbers ys
plain-append [] ys = refl
plain-append (k ∷ xs) ys = ap (λ (zs : List KeptNumber). plain k ∷ zs) (plain-append xs ys)

pub plain_again : (xs : List KeptNumber) → plain_numbers (plain_numbers xs) ≡ plain_numbers xs
plain_again [] = refl
plain_again (k ∷ xs) = ap (λ (zs : List KeptNumber). plain k ∷ zs) (plain_again xs)

-- of two lists with the same plain numbers
has_alike : (t : Tuple) (client : ℕ) (xs ys : List KeptNumber) → plain_numbers xs ≡ plain_numbers ys
    → has_number t client xs ≡ has_number t client ys
has_alike t client xs ys e =
    sym (has_plain t client xs) ∙ (ap (λ (zs : List KeptNumber). has_number t client zs) e ∙ has_plain t client ys)

-- EACH NEW
new_plain : (before numbers : List KeptNumber) → AreNewAfter before numbers
    → AreNewAfter (plain_numbers before) (plain_numbers numbers)
new_plain before [] h = tt
new_plain before (k ∷ numbers) h = (
  has_plain k.tuple k.client before ∙ h.0,
  subst (λ (xs : List KeptNumber). AreNewAfter xs (plain_numbers numbers)) (plain-append before (k ∷ []))
      (new_plain (before ++ k ∷ []) numbers h.1),
)

new_of_plain : (before numbers : List KeptNumber) → AreNewAfter (plain_numbers before) (plain_numbers numbers)
    → AreNewAfter before numbers
new_of_plain before [] h = tt
new_of_plain before (k ∷ numbers) h = (
  sym (has_plain k.tuple k.client before) ∙ h.0,
  new_of_plain (before ++ k ∷ []) numbers
      (subst (λ (xs : List KeptNumber). AreNewAfter xs (plain_numbers numbers)) (sym (plain-append before (k ∷ [])))
      h.1),
)

pub new_alike : (xs ys : List KeptNumber) → plain_numbers xs ≡ plain_numbers ys → AreNewAfter [] ys → AreNewAfter [] xs
new_alike xs ys e h =
    new_of_plain [] xs (subst (λ (zs : List KeptNumber). AreNewAfter [] zs) (sym e) (new_plain [] ys h))

pub new_together : (before xs ys : List KeptNumber) → AreNewAfter before xs → AreNewAfter (before ++ xs) ys
    → AreNewAfter before (xs ++ ys)
new_together before [] ys h g = subst (λ (zs : List KeptNumber). AreNewAfter zs ys) (append-nil before) g
new_together before (k ∷ xs) ys h g = (
  h.0,
  new_together (before ++ k ∷ []) xs ys h.1
      (subst (λ (zs : List KeptNumber). AreNewAfter zs ys) (sym (append_assoc before (k ∷ []) xs)) g),
)

pub new_later : (before xs ys : List KeptNumber) → AreNewAfter before (xs ++ ys) → AreNewAfter (before ++ xs) ys
new_later before [] ys h = subst (λ (zs : List KeptNumber). AreNewAfter zs ys) (sym (append-nil before)) h
new_later before (k ∷ xs) ys h =
    subst (λ (zs : List KeptNumber). AreNewAfter zs ys) (append_assoc before (k ∷ []) xs)
    (new_later (before ++ k ∷ []) xs ys h.1)

pub new_filtered : (p : KeptNumber → Bool) (before fewer xs : List KeptNumber)
    → ((t : Tuple) (client : ℕ) → has_number t client before ≡ false → has_number t client fewer ≡ false)
    → AreNewAfter before xs → AreNewAfter fewer (filter p xs)
new_filtered p before fewer [] among h = tt
new_filtered p before fewer (k ∷ xs) among h =
    by (p k) (new_filtered p (before ++ k ∷ []) (fewer ++ k ∷ []) xs (both k) h.1)
    (new_filtered p (before ++ k ∷ []) fewer xs (one k) h.1)
  where
    both : (k : KeptNumber) (t : Tuple) (client : ℕ) → has_number t client (before ++ k ∷ []) ≡ false
        → has_number t client (fewer ++ k ∷ []) ≡ false
    both k t client e =
        let parts = or_parts (has_number t client before) (has_number t client (k ∷ []))
        (sym (list_any-append (is_number_of t client) before (k ∷ [])) ∙ e) in
        list_any-append (is_number_of t client) fewer (k ∷ [])
        ∙ or_from (has_number t client fewer) (has_number t client (k ∷ [])) (among t client parts.0) parts.1

    one : (k : KeptNumber) (t : Tuple) (client : ℕ) → has_number t client (before ++ k ∷ []) ≡ false
        → has_number t client fewer ≡ false
    one k t client e =
        among t client (or_parts (has_number t client before) (has_number t client (k ∷ []))
        (sym (list_any-append (is_number_of t client) before (k ∷ [])) ∙ e)).0

    by : (b : Bool) → AreNewAfter (fewer ++ k ∷ []) (filter p xs) → AreNewAfter fewer (filter p xs)
        → AreNewAfter fewer (if b then k ∷ filter p xs else filter p xs)
    by true kept left = (among k.tuple k.client h.0, kept)
    by false kept left = left

pub new_thin : (items : List Item) (xs : List KeptNumber) → AreNewAfter [] xs → AreNewAfter [] (thin items xs)
unfolding thin
new_thin items xs h =
    new_filtered (λ (k : KeptNumber). is_of_client (line k.tuple items).opening k.client) [] [] xs
    (λ t client e. refl) h

-- NUMBERS ON THE LINK
pub told_numbers : (new : List KeptNumber) → numbers_on (map number_message new) ≡ plain_numbers new
told_numbers [] = refl
told_numbers (k ∷ new) = ap (λ (xs : List KeptNumber). plain k ∷ xs) (told_numbers new)

-- A CAPTURE thins both alike
pub thin_plain : (items : List Item) (xs : List KeptNumber)
    → plain_numbers (thin items xs) ≡ thin items (plain_numbers xs)
unfolding thin
thin_plain items [] = refl
thin_plain items (k ∷ xs) = by (is_of_client (line k.tuple items).opening k.client) (thin_plain items xs)
  where
    by : (b : Bool) → plain_numbers (thin items xs) ≡ thin items (plain_numbers xs)
        → plain_numbers (if b then k ∷ thin items xs else thin items xs)
        ≡ (if b then plain k ∷ thin items (plain_numbers xs) else thin items (plain_numbers xs))
    by true rest = ap (λ (zs : List KeptNumber). plain k ∷ zs) rest
    by false rest = rest

pub thin_alike : (items : List Item) (xs ys : List KeptNumber) → plain_numbers xs ≡ plain_numbers ys
    → plain_numbers (thin items xs) ≡ plain_numbers (thin items ys)
thin_alike items xs ys e =
    thin_plain items xs ∙ (ap (λ (zs : List KeptNumber). thin items zs) e ∙ sym (thin_plain items ys))

-- LEARNING leaves them
pub learned_plain : (numbers : List KeptNumber) (t : Tuple) (client number : ℕ)
    → plain_numbers (learn_number numbers t client number) ≡ plain_numbers numbers
learned_plain [] t client number = refl
learned_plain (k ∷ numbers) t client number =
    λ i. by (is_number_of t client k && k.number == number) i ∷ learned_plain numbers t client number i
  where
    by : (b : Bool) → plain (if b then record k { known = true } else k) ≡ plain k
    by true = refl
    by false = refl

pub all_learned_plain : (numbers : List KeptNumber) → plain_numbers (learn_all numbers) ≡ plain_numbers numbers
all_learned_plain [] = refl
all_learned_plain (k ∷ numbers) = ap (λ (xs : List KeptNumber). plain k ∷ xs) (all_learned_plain numbers)

-- A NUMBER THAT COMES is new to the secondary
pub keeps_new : (theirs : List KeptNumber) (t : Tuple) (client number : ℕ) → has_number t client theirs ≡ false
    → keep_number t client number true theirs
    ≡ theirs ++ record { tuple = t; client = client; number = number; known = true } ∷ []
keeps_new theirs t client number e =
    ap (λ (b : Bool). if b then theirs
    else theirs ++ record { tuple = t; client = client; number = number; known = true } ∷ []) e

-- THE EVENT'S OWN FRAMES
new_number_is_new : (numbers : List KeptNumber) (s : TcpFields) → AreNewAfter numbers (new_number numbers s)
unfolding new_number
new_number_is_new numbers s =
    by (may_open s) (has_number (tuple_of s) (opening_in s).client numbers) refl
  where
    k : KeptNumber
    k = record { tuple = tuple_of s; client = (opening_in s).client; number = s.seq; known = false }

    by : (b c : Bool) → has_number (tuple_of s) (opening_in s).client numbers ≡ c
        → AreNewAfter numbers (if b && not c then k ∷ [] else [])
    by true true e = tt
    by true false e = (e, tt)
    by false c e = tt

-- what an event's segments add to the numbers, new each
pub record AddsNumbers (old new : OwnFrames) : Type 0 where
  pub more : List KeptNumber
  pub numbers : new.numbers ≡ old.numbers ++ more
  pub new_numbers : new.new_numbers ≡ old.new_numbers ++ more
  pub each_new : AreNewAfter old.numbers more

pub own_adds : (own : OwnFrames) (segments : List TcpFields) → AddsNumbers own (fold own_after own segments)
own_adds own [] = record {
  more = [];
  numbers = sym (append-nil own.numbers);
  new_numbers = sym (append-nil own.new_numbers);
  each_new = tt;
}
own_adds own (s ∷ segments) =
    let one = new_number own.numbers s in
    let rest = own_adds (own_after own s) segments in
    record {
      more = one ++ rest.more;
      numbers = rest.numbers ∙ append_assoc own.numbers one rest.more;
      new_numbers = rest.new_numbers ∙ append_assoc own.new_numbers one rest.more;
      each_new = new_together own.numbers one rest.more (new_number_is_new own.numbers s) rest.each_new;
    }
