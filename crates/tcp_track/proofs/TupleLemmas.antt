-- Tuples are compared by their values, and what a table of tuples finds after a change.
use Rattle.std.proofs.Common.{◌≡◌, Bool, true, false, ◌&&◌, ◌||◌, ◌==◌, cond, List, [], ◌∷◌, ◌++◌, Option, Some, refl, sym, ap, subst, ◌∙◌, true≢false, eqb-true, eq-eqb, if◌then◌else◌}
use Rattle.std.specs.Prelude.{is_some}
use Rattle.std.specs.Map.{lookup, set_value, keys_of}
use Rattle.std.proofs.lemmas.Bool.{and_parts}
use Rattle.std.proofs.lemmas.Map.{keys-set_value}
use Rattle.std.proofs.lemmas.List.{map-append}
use Rattle.std.specs.List.{list_any}
use Rattle.inet_frame.specs.declared.tuple.Tuple.{Tuple}
use Rattle.tcp_track.specs.Segments.{same_tuple}
use Rattle.tcp_track.specs.Tracking.{entry_of, put_entry}
use Rattle.tcp_track.specs.declared.table.Entry.{Entry}

and-true : (a b : Bool) → a ≡ true → b ≡ true → (a && b) ≡ true
and-true a b p q = rw (p, q) refl

pub same_tuple-refl : (t : Tuple) → same_tuple t t ≡ true
same_tuple-refl t = and-true _ _ (eq-eqb t.addr t.addr refl) (and-true _ _ (eq-eqb t.port t.port refl)
    (eq-eqb t.guest t.guest refl))

pub same_tuple-eq : (a b : Tuple) → same_tuple a b ≡ true → a ≡ b
same_tuple-eq a b h =
    let parts = and_parts (a.addr == b.addr) (a.port == b.port && a.guest == b.guest) h in
    let rest = and_parts (a.port == b.port) (a.guest == b.guest) parts.1 in
    let addr = eqb-true a.addr b.addr parts.0 in
    let port = eqb-true a.port b.port rest.0 in
    let guest = eqb-true a.guest b.guest rest.1 in
    λ i. record { addr = addr i; port = port i; guest = guest i }

-- tuples of which one is the third, and the other not, differ
pub same_tuple-other : (t u k : Tuple) → same_tuple u k ≡ true → same_tuple t u ≡ false → same_tuple t k ≡ false
same_tuple-other t u k at other = subst (λ (x : Tuple). same_tuple t x ≡ false) (same_tuple-eq u k at) other

-- a table of any values
pub lookup-set_same : {X : Type 0} (u : Tuple) (e : X) (es : List (Tuple × X)) →
    is_some (lookup (same_tuple u) es) ≡ true →
    lookup (same_tuple u) (set_value (same_tuple u) es e) ≡ Some e
lookup-set_same u e [] h = absurd (true≢false (sym h))
lookup-set_same u e (x ∷ es) h = by (same_tuple u x.0) refl (lookup-set_same u e es)
  where
    by : (b : Bool) → same_tuple u x.0 ≡ b → (is_some (lookup (same_tuple u) es) ≡ true →
        lookup (same_tuple u) (set_value (same_tuple u) es e) ≡ Some e) →
        lookup (same_tuple u) (set_value (same_tuple u) (x ∷ es) e) ≡ Some e
    by true p more = rw p (rw p refl)
    by false p more = rw p (rw p (more (sym (ap (λ (b : Bool). is_some (cond b (Some x.1) (lookup
        (same_tuple u) es))) p) ∙ h)))

pub lookup-set_other : {X : Type 0} (t u : Tuple) (e : X) (es : List (Tuple × X)) → same_tuple t u ≡ false →
    lookup (same_tuple t) (set_value (same_tuple u) es e) ≡ lookup (same_tuple t) es
lookup-set_other t u e [] other = refl
lookup-set_other {X = X} t u e (x ∷ es) other = by (same_tuple u x.0) refl (lookup-set_other t u e es other)
  where
    by : (b : Bool) → same_tuple u x.0 ≡ b → lookup (same_tuple t) (set_value (same_tuple u) es e)
        ≡ lookup (same_tuple t) es → lookup (same_tuple t) (set_value (same_tuple u) (x ∷ es) e)
        ≡ lookup (same_tuple t) (x ∷ es)
    by true p more = let no = same_tuple-other t u x.0 p other in rw p (rw no refl)
    by false p more = rw p (ap (λ (o : Option X). cond (same_tuple t x.0) (Some x.1) o) more)

pub lookup-push_same : {X : Type 0} (u : Tuple) (e : X) (es : List (Tuple × X)) →
    is_some (lookup (same_tuple u) es) ≡ false →
    lookup (same_tuple u) (es ++ (u, e) ∷ []) ≡ Some e
lookup-push_same u e [] h = rw same_tuple-refl refl
lookup-push_same u e (x ∷ es) h = by (same_tuple u x.0) refl (lookup-push_same u e es)
  where
    by : (b : Bool) → same_tuple u x.0 ≡ b → (is_some (lookup (same_tuple u) es) ≡ false →
        lookup (same_tuple u) (es ++ (u, e) ∷ []) ≡ Some e) → lookup (same_tuple u) ((x ∷ es) ++ (u, e) ∷ []) ≡ Some e
    by true p more = absurd (true≢false (sym (ap (λ (b : Bool). is_some (cond b (Some x.1) (lookup
        (same_tuple u) es))) p) ∙ h))
    by false p more = rw p (more (sym (ap (λ (b : Bool). is_some (cond b (Some x.1) (lookup (same_tuple u) es))) p)
        ∙ h))

pub lookup-push_other : {X : Type 0} (t u : Tuple) (e : X) (es : List (Tuple × X)) → same_tuple t u ≡ false →
    lookup (same_tuple t) (es ++ (u, e) ∷ []) ≡ lookup (same_tuple t) es
lookup-push_other t u e [] other = rw other refl
lookup-push_other {X = X} t u e (x ∷ es) other = ap (λ (o : Option X). cond (same_tuple t x.0) (Some x.1) o)
    (lookup-push_other t u e es other)

-- the entry that was put is found, and each other as before
pub entry_of-put_same : (u : Tuple) (e : Entry) (es : List (Tuple × Entry)) → entry_of (put_entry es u e) u ≡ Some e
entry_of-put_same u e es = by (is_some (entry_of es u)) refl
  where
    by : (b : Bool) → is_some (entry_of es u) ≡ b → entry_of (if b then set_value (same_tuple u) es e else es ++ (
      u,
      e,
    ) ∷ []) u ≡ Some e
    by true p = lookup-set_same u e es p
    by false p = lookup-push_same u e es p

pub entry_of-put_other : (t u : Tuple) (e : Entry) (es : List (Tuple × Entry)) → same_tuple t u ≡ false →
    entry_of (put_entry es u e) t ≡ entry_of es t
entry_of-put_other t u e es other = by (is_some (entry_of es u))
  where
    by : (b : Bool) → entry_of (if b then set_value (same_tuple u) es e else es ++ (u, e) ∷ []) t ≡ entry_of es t
    by true = lookup-set_other t u e es other
    by false = lookup-push_other t u e es other

-- a key is found exactly where it is among the keys
pub is_some-lookup : (u : Tuple) (es : List (Tuple × Entry)) →
    is_some (lookup (same_tuple u) es) ≡ list_any (same_tuple u) (keys_of es)
is_some-lookup u [] = refl
is_some-lookup u (x ∷ es) = by (same_tuple u x.0) (is_some-lookup u es)
  where
    by : (b : Bool) → is_some (lookup (same_tuple u) es) ≡ list_any (same_tuple u) (keys_of es) →
        is_some (cond b (Some x.1) (lookup (same_tuple u) es)) ≡ (b || list_any (same_tuple u) (keys_of es))
    by true more = refl
    by false more = more

-- a key that was there keeps its place, and a new one goes last
pub keys_of-put_entry : (u : Tuple) (e : Entry) (es : List (Tuple × Entry)) →
    keys_of (put_entry es u e) ≡ (if list_any (same_tuple u) (keys_of es) then keys_of es else keys_of es ++ u ∷ [])
keys_of-put_entry u e es = ap (λ (b : Bool). keys_of (if b then set_value (same_tuple u) es e else es ++ (
  u,
  e,
) ∷ [])) (is_some-lookup u es) ∙ by (list_any (same_tuple u) (keys_of es))
  where
    by : (b : Bool) → keys_of (if b then set_value (same_tuple u) es e else es ++ (
      u,
      e,
    ) ∷ []) ≡ (if b then keys_of es else keys_of es ++ u ∷ [])
    by true = keys-set_value (same_tuple u) es e
    by false = map-append (λ (x : Tuple × Entry). x.0) es ((u, e) ∷ [])
