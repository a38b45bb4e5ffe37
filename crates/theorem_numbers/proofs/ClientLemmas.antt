-- The clients of a tuple's openings: which is the last, which was left, which came back.
use Rattle.std.proofs.Common.{◌≡◌, ◌⊎◌, inl, inr, ℕ, Bool, true, false, not, ◌&&◌, ◌||◌, ◌==◌, if◌then◌else◌, List, [], ◌∷◌, ◌++◌, fold, Option, None, Some, is_some, refl, sym, ap, ◌∙◌, eq-eqb, true≢false}
use Rattle.std.specs.List.{cons_option, filter_map, list_any}
use Rattle.std.proofs.lemmas.List.Folds.{list_any-append}
use Rattle.inet_frame.specs.Counted.{tuple_of}
use Rattle.inet_frame.specs.Fields.{TcpFields}
use Rattle.inet_frame.specs.declared.tuple.Tuple.{Tuple}
use Rattle.tcp_track.specs.Segments.{may_open, opening_in, same_tuple}
use Rattle.tcp_track.specs.Stands.{opening_after, opening_of}
use Rattle.tcp_track.specs.declared.openings.Opening.{Opening}
use Rattle.pair_theorem.specs.FrameParts.{client_opened, clients_opened, comes_again, comes_back}
use Rattle.theorem_numbers.specs.Kept.{has_left}

-- A LIST OF CLIENTS
abbrev pub has_client : ℕ → List ℕ → Bool
has_client c ds = list_any (λ x. x == c) ds

abbrev pub has_other : ℕ → List ℕ → Bool
has_other c ds = list_any (λ x. not (x == c)) ds

or_true_left : (b c : Bool) → b ≡ true → (b || c) ≡ true
or_true_left true c e = refl
or_true_left false c e = absurd (true≢false (sym e))

or_true_right : (b c : Bool) → c ≡ true → (b || c) ≡ true
or_true_right true c e = refl
or_true_right false c e = e

any_more : (p : ℕ → Bool) (ds more : List ℕ) → list_any p ds ≡ true → list_any p (ds ++ more) ≡ true
any_more p ds more e = list_any-append p ds more ∙ or_true_left (list_any p ds) (list_any p more) e

any_last : (p : ℕ → Bool) (ds : List ℕ) (d : ℕ) → p d ≡ true → list_any p (ds ++ d ∷ []) ≡ true
any_last p ds d e =
    list_any-append p ds (d ∷ []) ∙ or_true_right (list_any p ds) (p d || false) (or_true_left (p d) false e)

pub last_client : (c : ℕ) (ds : List ℕ) → has_client c (ds ++ c ∷ []) ≡ true
last_client c ds = any_last (λ x. x == c) ds c (eq-eqb c c refl)

pub client_more : (c : ℕ) (ds more : List ℕ) → has_client c ds ≡ true → has_client c (ds ++ more) ≡ true
client_more c ds more e = any_more (λ x. x == c) ds more e

-- one that was left is left when more come
pub left_more : (c : ℕ) (ds more : List ℕ) → has_left c ds ≡ true → has_left c (ds ++ more) ≡ true
left_more c [] more e = absurd (true≢false (sym e))
left_more c (d ∷ ds) more e =
    by (d == c) (has_other c ds) refl e (any_more (λ x. not (x == c)) ds more) (left_more c ds more)
  where
    by : (b o : Bool) → has_other c ds ≡ o → (b && o || has_left c ds) ≡ true →
        (has_other c ds ≡ true → has_other c (ds ++ more) ≡ true) →
        (has_left c ds ≡ true → has_left c (ds ++ more) ≡ true) →
        (b && has_other c (ds ++ more) || has_left c (ds ++ more)) ≡ true
    by true true f g others left =
        ap (λ (x : Bool). x || has_left c (ds ++ more)) (others f)
    by true false f g others left = or_true_right (has_other c (ds ++ more)) (has_left c (ds ++ more)) (left g)
    by false o f g others left = left g

-- one that stands in the list, but not at its end, was left
pub left_by : (c d : ℕ) (ds : List ℕ) → has_client c (ds ++ d ∷ []) ≡ true → (d == c) ≡ false →
    has_left c (ds ++ d ∷ []) ≡ true
left_by c d [] e apart = absurd (true≢false (sym e ∙ ap (λ (b : Bool). b || false) apart))
left_by c d (x ∷ ds) e apart = by (x == c) e (left_by c d ds)
  where
    other : has_other c (ds ++ d ∷ []) ≡ true
    other = any_last (λ y. not (y == c)) ds d (ap not apart)

    by : (b : Bool) → (b || has_client c (ds ++ d ∷ [])) ≡ true →
        (has_client c (ds ++ d ∷ []) ≡ true → (d == c) ≡ false → has_left c (ds ++ d ∷ []) ≡ true) →
        (b && has_other c (ds ++ d ∷ []) || has_left c (ds ++ d ∷ [])) ≡ true
    by true f rest = ap (λ (y : Bool). y || has_left c (ds ++ d ∷ [])) other
    by false f rest = rest f apart

-- one that was left has another one behind it
left_other : (c : ℕ) (ds : List ℕ) → has_left c ds ≡ true → has_other c ds ≡ true
left_other c [] e = absurd (true≢false (sym e))
left_other c (d ∷ ds) e = by (d == c) (has_other c ds) refl e (left_other c ds)
  where
    by : (b o : Bool) → has_other c ds ≡ o → (b && o || has_left c ds) ≡ true →
        (has_left c ds ≡ true → has_other c ds ≡ true) → (not b || has_other c ds) ≡ true
    by true true f g rest = f
    by true false f g rest = rest g
    by false o f g rest = refl

-- one that was left, and is the last again, came back
again_last : (c : ℕ) (ds : List ℕ) → has_other c (ds ++ c ∷ []) ≡ true → comes_again c (ds ++ c ∷ []) ≡ true
again_last c [] e =
    absurd (true≢false (sym e ∙ ap (λ (b : Bool). not b || false) (eq-eqb c c refl)))
again_last c (d ∷ ds) e = by (d == c) e (again_last c ds)
  where
    by : (b : Bool) → (not b || has_other c (ds ++ c ∷ [])) ≡ true →
        (has_other c (ds ++ c ∷ []) ≡ true → comes_again c (ds ++ c ∷ []) ≡ true) →
        (if b then comes_again c (ds ++ c ∷ []) else has_client c (ds ++ c ∷ [])) ≡ true
    by true f rest = rest f
    by false f rest = last_client c ds

pub back_last : (c : ℕ) (ds : List ℕ) → has_left c (ds ++ c ∷ []) ≡ true → comes_back c (ds ++ c ∷ []) ≡ true
back_last c [] e =
    absurd (true≢false (sym e ∙ by (c == c)))
  where
    by : (b : Bool) → (b && false || false) ≡ false
    by true = refl
    by false = refl
back_last c (d ∷ ds) e = by (d == c) (has_other c (ds ++ c ∷ [])) refl e (back_last c ds)
  where
    by : (b o : Bool) → has_other c (ds ++ c ∷ []) ≡ o → (b && o || has_left c (ds ++ c ∷ [])) ≡ true →
        (has_left c (ds ++ c ∷ []) ≡ true → comes_back c (ds ++ c ∷ []) ≡ true) →
        (if b then comes_again c (ds ++ c ∷ []) else comes_back c (ds ++ c ∷ [])) ≡ true
    by true true f g rest = again_last c ds f
    by true false f g rest = again_last c ds (left_other c (ds ++ c ∷ []) g)
    by false o f g rest = rest g

-- and came back for good
again_more : (c : ℕ) (ds more : List ℕ) → comes_again c ds ≡ true → comes_again c (ds ++ more) ≡ true
again_more c [] more e = absurd (true≢false (sym e))
again_more c (d ∷ ds) more e = by (d == c) e (again_more c ds more)
  where
    by : (b : Bool) → (if b then comes_again c ds else has_client c ds) ≡ true →
        (comes_again c ds ≡ true → comes_again c (ds ++ more) ≡ true) →
        (if b then comes_again c (ds ++ more) else has_client c (ds ++ more)) ≡ true
    by true f rest = rest f
    by false f rest = client_more c ds more f

pub back_more : (c : ℕ) (ds more : List ℕ) → comes_back c ds ≡ true → comes_back c (ds ++ more) ≡ true
back_more c [] more e = absurd (true≢false (sym e))
back_more c (d ∷ ds) more e = by (d == c) e (back_more c ds more)
  where
    by : (b : Bool) → (if b then comes_again c ds else comes_back c ds) ≡ true →
        (comes_back c ds ≡ true → comes_back c (ds ++ more) ≡ true) →
        (if b then comes_again c (ds ++ more) else comes_back c (ds ++ more)) ≡ true
    by true f rest = again_more c ds more f
    by false f rest = rest f

-- THE CURRENT OPENING is of the client that was opened last
pub record EndsWith (c : ℕ) (ds : List ℕ) : Type 0 where
  pub front : List ℕ
  pub all : ds ≡ front ++ c ∷ []

last_from : (t : Tuple) (current : Option Opening) (said : List TcpFields) (o : Opening) →
    fold (opening_after t) current said ≡ Some o →
    EndsWith o.client (filter_map (client_opened t) said)
    ⊎ ((filter_map (client_opened t) said ≡ []) × (current ≡ Some o))
last_from t current [] o e = inr (refl, e)
last_from t current (s ∷ said) o e =
    by (same_tuple (tuple_of s) t && may_open s) e (last_from t (Some (opening_in s)) said o)
    (last_from t current said o)
  where
    rest : List ℕ
    rest = filter_map (client_opened t) said

    Found : List ℕ → Option Opening → Type 0
    Found ds now = EndsWith o.client ds ⊎ ((ds ≡ []) × (now ≡ Some o))

    with_one : Found rest (Some (opening_in s)) → Found ((opening_in s).client ∷ rest) current
    with_one (inl h) = inl (record {
      front = (opening_in s).client ∷ h.front;
      all = ap (λ (ds : List ℕ). (opening_in s).client ∷ ds) h.all;
    })
    with_one (inr h) =
        let is : opening_in s ≡ o = same (opening_in s) o h.1 in
        inl (record {
          front = [];
          all = (λ i. (is i).client ∷ h.0 i);
        })
      where
        same : (p q : Opening) → Some p ≡ Some q → p ≡ q
        same p q f = cc

    by : (b : Bool) → fold (opening_after t) (if b then Some (opening_in s) else current) said ≡ Some o →
        (fold (opening_after t) (Some (opening_in s)) said ≡ Some o → Found rest (Some (opening_in s))) →
        (fold (opening_after t) current said ≡ Some o → Found rest current) →
        Found (cons_option (if b then Some (opening_in s).client else None) rest) current
    by true f opened same = with_one (opened f)
    by false f opened same = same f

pub last_opened : (t : Tuple) (said : List TcpFields) (o : Opening) → opening_of t said ≡ Some o →
    EndsWith o.client (clients_opened t said)
unfolding opening_of clients_opened
last_opened t said o e = by (last_from t None said o e)
  where
    by : EndsWith o.client (filter_map (client_opened t) said)
        ⊎ ((filter_map (client_opened t) said ≡ []) × ((let n : Option Opening = None in n) ≡ Some o)) →
        EndsWith o.client (filter_map (client_opened t) said)
    by (inl h) = h
    by (inr h) = absurd (cc h.1)

-- where a client was opened there is a current opening
stays_open : (t : Tuple) (q : Opening) (said : List TcpFields) →
    is_some (fold (opening_after t) (Some q) said) ≡ true
stays_open t q [] = refl
stays_open t q (s ∷ said) =
    by (same_tuple (tuple_of s) t && may_open s) (stays_open t (opening_in s) said) (stays_open t q said)
  where
    by : (b : Bool) → is_some (fold (opening_after t) (Some (opening_in s)) said) ≡ true →
        is_some (fold (opening_after t) (Some q) said) ≡ true →
        is_some (fold (opening_after t) (if b then Some (opening_in s) else Some q) said) ≡ true
    by true f g = f
    by false f g = g

opened_from : (t : Tuple) (current : Option Opening) (said : List TcpFields) (c : ℕ) →
    has_client c (filter_map (client_opened t) said) ≡ true → is_some (fold (opening_after t) current said) ≡ true
opened_from t current [] c e = absurd (true≢false (sym e))
opened_from t current (s ∷ said) c e =
    by (same_tuple (tuple_of s) t && may_open s) e (stays_open t (opening_in s) said)
    (opened_from t current said c)
  where
    rest : List ℕ
    rest = filter_map (client_opened t) said

    by : (b : Bool) → has_client c (cons_option (if b then Some (opening_in s).client else None) rest) ≡ true →
        is_some (fold (opening_after t) (Some (opening_in s)) said) ≡ true →
        (has_client c rest ≡ true → is_some (fold (opening_after t) current said) ≡ true) →
        is_some (fold (opening_after t) (if b then Some (opening_in s) else current) said) ≡ true
    by true f opened later = opened
    by false f opened later = later f

pub has_opening : (t : Tuple) (said : List TcpFields) (c : ℕ) → has_client c (clients_opened t said) ≡ true →
    is_some (opening_of t said) ≡ true
unfolding opening_of clients_opened
has_opening t said c e = opened_from t None said c e
