-- A symbol passes the test of what stands exactly where it stands.
use Rattle.std.proofs.Common.{◌≡◌, ◌⊎◌, inl, inr, ℕ, ◌+◌, ◌-◌, ◌&&◌, ◌==◌, nat_lt, if◌then◌else◌, Bool, true, false, List, [], ◌∷◌, ◌++◌, append_assoc, Option, None, Some, slice_get, refl, sym, ap, subst, ◌∙◌, fold, eq-eqb, eqb-true, ltb-false, arith}
use Rattle.std.specs.List.{list_all, enumerate_from}
use Rattle.std.proofs.lemmas.Bool.{or_left, or_right, or_cases, and_from, and_parts}
use Rattle.inet_frame.specs.Counted.{tuple_of}
use Rattle.inet_frame.specs.Fields.{TcpFields}
use Rattle.inet_frame.specs.declared.tuple.Tuple.{Tuple}
use Rattle.tcp_track.specs.Segments.{Symbol, syn, byte, fin, same_tuple, same_symbol, symbol_in, symbols_in, start_of}
use Rattle.tcp_track.specs.Stands.{opening_after, opening_of, Stands, stands, stands_from, carries_here, is_symbol}
use Rattle.tcp_track.specs.declared.openings.Opening.{Opening}
use Rattle.tcp_track.proofs.SymbolLemmas.{opening_more}
use Rattle.tcp_track.proofs.TupleLemmas.{same_tuple-refl, same_tuple-eq}
use Rattle.pair_theorem.proofs.AllLemmas.{All_at, All_from, slice_get-enumerate_from}
use Rattle.std.specs.Prelude.{All}

symbol_itself : (x : Symbol) → same_symbol x x ≡ true
symbol_itself syn = refl
symbol_itself (byte b) = eq-eqb b b refl
symbol_itself fin = refl

same_symbols : (x y : Symbol) → same_symbol x y ≡ true → x ≡ y
same_symbols syn syn e = refl
same_symbols syn (byte b) e = absurd (cc e)
same_symbols syn fin e = absurd (cc e)
same_symbols (byte a) syn e = absurd (cc e)
same_symbols (byte a) (byte b) e = ap byte (eqb-true a b e)
same_symbols (byte a) fin e = absurd (cc e)
same_symbols fin syn e = absurd (cc e)
same_symbols fin (byte b) e = absurd (cc e)
same_symbols fin fin e = refl

here_true : (t : Tuple) (client own offset : ℕ) (x : Symbol) (s : TcpFields) → tuple_of s ≡ t
    → symbol_in own s offset ≡ Some x
    → carries_here t client offset x (Some (record { client = client; own = own })) s ≡ true
here_true t client own offset x s on carries =
    and_from (same_tuple (tuple_of s) t) (client == client && is_symbol (symbol_in own s offset) x)
    (subst (λ (u : Tuple). same_tuple u t ≡ true) (sym on) (same_tuple-refl t))
    (and_from (client == client) (is_symbol (symbol_in own s offset) x) (eq-eqb client client refl)
    (subst (λ (y : Option Symbol). is_symbol y x ≡ true) (sym carries) (symbol_itself x)))

later_true : (t : Tuple) (client own offset : ℕ) (x : Symbol) (o : Option Opening) (before : List TcpFields)
    (s : TcpFields) (later : List TcpFields) → tuple_of s ≡ t
    → fold (opening_after t) o (before ++ s ∷ []) ≡ Some (record { client = client; own = own })
    → symbol_in own s offset ≡ Some x → stands_from t client offset x o (before ++ s ∷ later) ≡ true
later_true t client own offset x o [] s later on opened carries =
    or_left (carries_here t client offset x (opening_after t o s) s)
    (stands_from t client offset x (opening_after t o s) later)
    (subst (λ (p : Option Opening). carries_here t client offset x p s ≡ true) (sym opened)
    (here_true t client own offset x s on carries))
later_true t client own offset x o (y ∷ before) s later on opened carries =
    or_right (carries_here t client offset x (opening_after t o y) y)
    (stands_from t client offset x (opening_after t o y) (before ++ s ∷ later))
    (later_true t client own offset x (opening_after t o y) before s later on opened carries)

-- what stands passes the test
pub stands_true : (sent : List TcpFields) (t : Tuple) (client offset : ℕ) (x : Symbol) → Stands sent t client offset x
    → stands sent t client offset x ≡ true
unfolding opening_of
stands_true sent t client offset x h =
    subst (λ (xs : List TcpFields). stands xs t client offset x ≡ true) (sym h.place)
    (later_true t client h.own offset x None h.before h.carrier h.later h.on h.opened h.carries)

is_symbol_there : (y : Option Symbol) (x : Symbol) → is_symbol y x ≡ true → y ≡ Some x
is_symbol_there None x e = absurd (cc e)
is_symbol_there (Some y) x e = ap (λ (z : Symbol). Some z) (same_symbols y x e)

-- what a test shows at one segment
here_stands : (t : Tuple) (client offset : ℕ) (x : Symbol) (before : List TcpFields) (s : TcpFields)
    (later : List TcpFields) (o : Option Opening) → opening_of t (before ++ s ∷ []) ≡ o
    → carries_here t client offset x o s ≡ true → Stands (before ++ s ∷ later) t client offset x
here_stands t client offset x before s later None opened e = absurd (cc e)
here_stands t client offset x before s later (Some o) opened e =
    let outer = and_parts (same_tuple (tuple_of s) t) (o.client == client && is_symbol (symbol_in o.own s offset) x) e
    in
    let inner = and_parts (o.client == client) (is_symbol (symbol_in o.own s offset) x) outer.1 in
    let client_is = eqb-true o.client client inner.0 in
    record {
      before = before;
      carrier = s;
      later = later;
      own = o.own;
      place = refl;
      on = same_tuple-eq (tuple_of s) t outer.0;
      opened = opened ∙ (λ i. Some (record { client = client_is i; own = o.own }));
      carries = is_symbol_there (symbol_in o.own s offset) x inner.1;
    }

stands_after : (t : Tuple) (client offset : ℕ) (x : Symbol) (before sent : List TcpFields)
    → stands_from t client offset x (opening_of t before) sent ≡ true → Stands (before ++ sent) t client offset x
stands_after t client offset x before [] e = absurd (cc e)
stands_after t client offset x before (s ∷ sent) e =
    let o = opening_after t (opening_of t before) s in
    by (or_cases (carries_here t client offset x o s) (stands_from t client offset x o sent) e)
    (λ later. stands_after t client offset x (before ++ s ∷ []) sent
    (subst (λ (p : Option Opening). stands_from t client offset x p sent ≡ true) (sym (opening_more t before s)) later))
  where
    by : (carries_here t client offset x (opening_after t (opening_of t before) s) s ≡ true) ⊎
        (stands_from t client offset x (opening_after t (opening_of t before) s) sent ≡ true) →
        (stands_from t client offset x (opening_after t (opening_of t before) s) sent ≡ true → Stands
        ((before ++ s ∷ []) ++ sent) t client offset x) → Stands (before ++ s ∷ sent) t client offset x
    by (inl now) go =
        here_stands t client offset x before s sent (opening_after t (opening_of t before) s) (opening_more t before s)
        now
    by (inr later) go =
        subst (λ (xs : List TcpFields). Stands xs t client offset x) (append_assoc before (s ∷ []) sent) (go later)

-- what passes the test stands
pub stands_there : (sent : List TcpFields) (t : Tuple) (client offset : ℕ) (x : Symbol)
    → stands sent t client offset x ≡ true → Stands sent t client offset x
unfolding opening_of
stands_there sent t client offset x e = stands_after t client offset x [] sent e

-- EACH SYMBOL of a segment: a test of all that it carries
abbrev pub each_stands : List TcpFields → Tuple → ℕ → ℕ → TcpFields → Bool
each_stands sent t client number s =
    list_all (λ x. stands sent t client x.0 x.1) (enumerate_from (start_of number s) (symbols_in number s))

some_of_if : {X : Type 0} (b : Bool) (y : Option X) (x : X) → (if b then None else y) ≡ Some x
    → (b ≡ false) × (y ≡ Some x)
some_of_if true y x e = absurd (cc e)
some_of_if false y x e = (refl, e)

pub each_symbol : (sent : List TcpFields) (t : Tuple) (client number : ℕ) (s : TcpFields)
    → each_stands sent t client number s ≡ true → (o : ℕ) (x : Symbol) → symbol_in number s o ≡ Some x
    → Stands sent t client o x
each_symbol sent t client number s e o x carries =
    let at = some_of_if (nat_lt o (start_of number s)) (slice_get (symbols_in number s) (o - start_of number s)) x
    carries in
    let low = ltb-false o (start_of number s) at.0 in
    let back : start_of number s + (o - start_of number s) ≡ o = omega (arith, low) in
    let every : All (λ (y : ℕ × Symbol). stands sent t client y.0 y.1 ≡ true)
    (enumerate_from (start_of number s) (symbols_in number s)) = All_from
    (λ (y : ℕ × Symbol). stands sent t client y.0 y.1 ≡ true) (λ (y : ℕ × Symbol). stands sent t client y.0 y.1)
    (enumerate_from (start_of number s) (symbols_in number s)) (λ y h. h) e in
    stands_there sent t client o x
    (All_at (λ (y : ℕ × Symbol). stands sent t client y.0 y.1 ≡ true)
    (enumerate_from (start_of number s) (symbols_in number s)) (o - start_of number s) (o, x) every
    (slice_get-enumerate_from (start_of number s) (symbols_in number s) (o - start_of number s) x at.1 ∙ ap
    (λ (m : ℕ). Some (m, x)) back))
