-- A table of which the first connections are settled in a turn and the rest not yet: of these what
-- is stored is read before the turn, of those after it.
use Rattle.std.proofs.Common.{◌≡◌, ℕ, Bool, true, false, ◌||◌, cond, if◌then◌else◌, List, [], ◌∷◌, ◌++◌, map, Option, None, Some, is_some, unwrap_or, refl, sym, ap, subst, ◌∙◌, true≢false}
use Rattle.std.proofs.lemmas.List.{map-append}
use Rattle.std.proofs.lemmas.Map.{keys-set_value}
use Rattle.std.specs.List.{AllByRecursion, IsDistinct, list_any}
use Rattle.std.specs.Map.{keys_of, lookup, set_value}
use Rattle.std.specs.Option.{option_map}
use Rattle.std.proofs.lemmas.List.Folds.{list_any-append}
use Rattle.inet_frame.specs.declared.tuple.Tuple.{Tuple}
use Rattle.tcp_track.specs.Segments.{same_tuple}
use Rattle.tcp_track.proofs.StandingLemmas.{same_tuple-sym}
use Rattle.tcp_track.proofs.TupleLemmas.{lookup-push_other, lookup-set_other, same_tuple-eq, same_tuple-refl}
use Rattle.settle_rules.specs.Progress.{Progress, ProgressTable, no_progress}
use Rattle.settle_table.specs.Table.{progress_at, set_progress}
use Rattle.settle_touched.specs.Ages.{StoredTable, progress_now, table_now}
use Rattle.settle_touched.specs.Places.{nothing_stored, set_stored, stored_of}
use Rattle.settle_touched.specs.declared.stored.Stored.{Stored}

-- TUPLES

abbrev pub has_tuple : Tuple → List Tuple → Bool
has_tuple t ts = list_any (same_tuple t) ts

-- absent tuple stands there twice
abbrev pub AreApart : List Tuple → Type 0
AreApart [] = Unit {0}
AreApart (t ∷ ts) = (has_tuple t ts ≡ false) × AreApart ts

none_later : (t : Tuple) (ts : List Tuple) → AllByRecursion (λ u. same_tuple t u ≡ false) ts → has_tuple t ts ≡ false
none_later t [] h = refl
none_later t (u ∷ us) h = (λ i. h.0 i || has_tuple t us) ∙ none_later t us h.1

pub apart_from_distinct : (ts : List Tuple) → IsDistinct same_tuple ts → AreApart ts
unfolding IsDistinct
apart_from_distinct [] h = tt
apart_from_distinct (t ∷ ts) h = (none_later t ts h.0, apart_from_distinct ts h.1)

pub or_none : (a b : Bool) → (a || b) ≡ false → (a ≡ false) × (b ≡ false)
or_none true b h = absurd (true≢false h)
or_none false b h = (refl, h)

pub or_right : (a b : Bool) → b ≡ true → (a || b) ≡ true
or_right true b h = refl
or_right false b h = h

-- a tuple that absent key is, among others that are keys
pub other_tuple : (t u : Tuple) (ts : List Tuple) → has_tuple t ts ≡ false → has_tuple u ts ≡ true →
    same_tuple u t ≡ false
other_tuple t u ts absent there = by (same_tuple u t) refl
  where
    by : (c : Bool) → same_tuple u t ≡ c → c ≡ false
    by true e = absurd (true≢false (sym there
        ∙ (ap (λ (v : Tuple). has_tuple v ts) (same_tuple-eq u t e) ∙ absent)))
    by false e = refl

-- TABLES OF ANY VALUES

pub is_some-keys : {X : Type 0} (t : Tuple) (es : List (Tuple × X)) →
    is_some (lookup (same_tuple t) es) ≡ has_tuple t (keys_of es)
is_some-keys t [] = refl
is_some-keys {X = X} t (x ∷ es) = by (same_tuple t x.0) (is_some-keys t es)
  where
    by : (c : Bool) → is_some (lookup (same_tuple t) es) ≡ has_tuple t (keys_of es) →
        is_some (cond c (Some x.1) (lookup (same_tuple t) es)) ≡ (c || has_tuple t (keys_of es))
    by true more = refl
    by false more = more

apart_push : (t : Tuple) (ts : List Tuple) → has_tuple t ts ≡ false → AreApart ts → AreApart (ts ++ t ∷ [])
apart_push t [] absent apart = (refl, tt)
apart_push t (u ∷ us) absent apart =
    let parts = or_none (same_tuple t u) (has_tuple t us) absent in (
      list_any-append (same_tuple u) us (t ∷ [])
          ∙ ((λ i. apart.0 i || (same_tuple-sym u t parts.0 i || false))),
      apart_push t us parts.1 apart.1,
    )

pub apart_set : (t : Tuple) (s : Stored) (table : StoredTable) → AreApart (keys_of table) →
    AreApart (keys_of (set_stored table t s))
apart_set t s table apart = by (is_some (lookup (same_tuple t) table)) refl
  where
    by : (c : Bool) → is_some (lookup (same_tuple t) table) ≡ c →
        AreApart (keys_of (if c then set_value (same_tuple t) table s else table ++ (t, s) ∷ []))
    by true e = subst AreApart (sym (keys-set_value (same_tuple t) table s)) apart
    by false e = subst AreApart (sym (map-append (λ (x : Tuple × Stored). x.0) table ((t, s) ∷ [])))
        (apart_push t (keys_of table) (sym (is_some-keys t table) ∙ e) apart)

pub lookup-stored_other : (t u : Tuple) (s : Stored) (table : StoredTable) → same_tuple t u ≡ false →
    lookup (same_tuple t) (set_stored table u s) ≡ lookup (same_tuple t) table
lookup-stored_other t u s table other = by (is_some (lookup (same_tuple u) table))
  where
    by : (c : Bool) → lookup (same_tuple t) (if c then set_value (same_tuple u) table s else table ++ (u, s) ∷ [])
        ≡ lookup (same_tuple t) table
    by true = lookup-set_other t u s table other
    by false = lookup-push_other t u s table other

-- THE MIXED TABLE

module _ (turns after : ℕ) where
  abbrev pub turns_of : Tuple → List Tuple → ℕ
  turns_of t rest = if has_tuple t rest then turns else after

  abbrev pub mix : List Tuple → StoredTable → ProgressTable
  mix rest table = map (λ (x : Tuple × Stored). (x.0, progress_now (turns_of x.0 rest) x.1)) table

  lookup-mix : (t : Tuple) (rest : List Tuple) (table : StoredTable) →
      lookup (same_tuple t) (mix rest table)
      ≡ option_map (progress_now (turns_of t rest)) (lookup (same_tuple t) table)
  lookup-mix t rest [] = refl
  lookup-mix t rest (x ∷ xs) = by (same_tuple t x.0) refl (lookup-mix t rest xs)
    where
      by : (c : Bool) → same_tuple t x.0 ≡ c → lookup (same_tuple t) (mix rest xs)
          ≡ option_map (progress_now (turns_of t rest)) (lookup (same_tuple t) xs) →
          cond c (Some (progress_now (turns_of x.0 rest) x.1)) (lookup (same_tuple t) (mix rest xs))
          ≡ option_map (progress_now (turns_of t rest)) (cond c (Some x.1) (lookup (same_tuple t) xs))
      by true e more =
          ap (λ (u : Tuple). Some (progress_now (turns_of u rest) x.1)) (sym (same_tuple-eq t x.0 e))
      by false e more = more

  here : (t : Tuple) (rest : List Tuple) → turns_of t (t ∷ rest) ≡ turns
  here t rest = ap (λ (c : Bool). if c || has_tuple t rest then turns else after) (same_tuple-refl t)

  gone : (t : Tuple) (rest : List Tuple) → has_tuple t rest ≡ false → turns_of t rest ≡ after
  gone t rest absent = ap (λ (c : Bool). if c then turns else after) absent

  -- the progress of the next connection is that before the turn
  pub found_next : (t : Tuple) (rest : List Tuple) (table : StoredTable) (k : ℕ) →
      progress_at (mix (t ∷ rest) table) t ≡ progress_now turns (stored_of table t k)
  found_next t rest table k =
      ap (λ (o : Option Progress). unwrap_or o no_progress) (lookup-mix t (t ∷ rest) table)
      ∙ (ap (λ (n : ℕ). unwrap_or (option_map (progress_now n) (lookup (same_tuple t) table)) no_progress)
      (here t rest)
      ∙ by (lookup (same_tuple t) table))
    where
      by : (o : Option Stored) → unwrap_or (option_map (progress_now turns) o) no_progress
          ≡ progress_now turns (unwrap_or o (nothing_stored k))
      by None = refl
      by (Some s) = refl

  -- one connection less is to be settled, of which nothing is stored
  mix-other : (t : Tuple) (rest : List Tuple) (table : StoredTable) → has_tuple t (keys_of table) ≡ false →
      mix (t ∷ rest) table ≡ mix rest table
  mix-other t rest [] absent = refl
  mix-other t rest (x ∷ xs) absent =
      let parts = or_none (same_tuple t x.0) (has_tuple t (keys_of xs)) absent in
      λ i. (
        x.0,
        progress_now (if same_tuple-sym x.0 t parts.0 i || has_tuple x.0 rest then turns else after) x.1,
      ) ∷ mix-other t rest xs parts.1 i

  set-mix : (t : Tuple) (rest : List Tuple) (table : StoredTable) (s : Stored) → has_tuple t rest ≡ false →
      AreApart (keys_of table) →
      set_value (same_tuple t) (mix (t ∷ rest) table) (progress_now after s)
      ≡ mix rest (set_value (same_tuple t) table s)
  set-mix t rest [] s absent apart = refl
  set-mix t rest (x ∷ xs) s absent apart = by (same_tuple t x.0) refl (set-mix t rest xs s absent apart.1)
    where
      by : (c : Bool) → same_tuple t x.0 ≡ c →
          set_value (same_tuple t) (mix (t ∷ rest) xs) (progress_now after s)
          ≡ mix rest (set_value (same_tuple t) xs s) →
          cond c ((x.0, progress_now after s) ∷ mix (t ∷ rest) xs)
          ((x.0, progress_now (turns_of x.0 (t ∷ rest)) x.1)
          ∷ set_value (same_tuple t) (mix (t ∷ rest) xs) (progress_now after s))
          ≡ mix rest (cond c ((x.0, s) ∷ xs) (x ∷ set_value (same_tuple t) xs s))
      by true e more =
          let same = same_tuple-eq t x.0 e in
          let none : has_tuple t (keys_of xs) ≡ false =
          ap (λ (u : Tuple). has_tuple u (keys_of xs)) same ∙ apart.0 in
          let mine : turns_of x.0 rest ≡ after =
          ap (λ (u : Tuple). turns_of u rest) (sym same) ∙ gone t rest absent in
          λ i. (x.0, progress_now (sym mine i) s) ∷ mix-other t rest xs none i
      by false e more =
          λ i. (
            x.0,
            progress_now (if same_tuple-sym x.0 t e i || has_tuple x.0 rest then turns else after) x.1,
          ) ∷ more i

  -- and its progress is set to that after the turn
  pub set_next : (t : Tuple) (rest : List Tuple) (table : StoredTable) (s : Stored) → has_tuple t rest ≡ false →
      AreApart (keys_of table) →
      set_progress (mix (t ∷ rest) table) t (progress_now after s) ≡ mix rest (set_stored table t s)
  set_next t rest table s absent apart =
      ap (λ (c : Bool). if c then set_value (same_tuple t) (mix (t ∷ rest) table) (progress_now after s)
      else mix (t ∷ rest) table ++ (t, progress_now after s) ∷ [])
      (ap is_some (lookup-mix t (t ∷ rest) table) ∙ some_map (lookup (same_tuple t) table))
      ∙ by (is_some (lookup (same_tuple t) table)) refl
    where
      some_map : (o : Option Stored) → is_some (option_map (progress_now (turns_of t (t ∷ rest))) o) ≡ is_some o
      some_map None = refl
      some_map (Some x) = refl

      by : (c : Bool) → is_some (lookup (same_tuple t) table) ≡ c →
          (if c then set_value (same_tuple t) (mix (t ∷ rest) table) (progress_now after s)
          else mix (t ∷ rest) table ++ (t, progress_now after s) ∷ [])
          ≡ mix rest (if c then set_value (same_tuple t) table s else table ++ (t, s) ∷ [])
      by true e = set-mix t rest table s absent apart
      by false e =
          (λ i. mix-other t rest table (sym (is_some-keys t table) ∙ e) i
          ++ (t, progress_now (sym (gone t rest absent) i) s) ∷ [])
          ∙ sym (map-append (λ (x : Tuple × Stored). (x.0, progress_now (turns_of x.0 rest) x.1)) table
          ((t, s) ∷ []))

  -- before the first connection all is read before the turn
  pub none_yet : (all : List Tuple) (table : StoredTable) →
      ((t : Tuple) → has_tuple t (keys_of table) ≡ true → has_tuple t all ≡ true) →
      table_now turns table ≡ mix all table
  none_yet all [] within = refl
  none_yet all (x ∷ xs) within =
      let first = within x.0 (ap (λ (c : Bool). c || has_tuple x.0 (keys_of xs)) (same_tuple-refl x.0)) in
      let more = none_yet all xs (λ t e. within t (or_right (same_tuple t x.0) (has_tuple t (keys_of xs)) e)) in
      λ i. (x.0, progress_now (if sym first i then turns else after) x.1) ∷ more i
