-- The segments among the first entries of the program header table, one entry at a time.
use Rattle.std.proofs.Common.{◌≡◌, ℕ, ◌+◌, ◌*◌, ◌<◌, ◌≤◌, Bool, true, false, ◌||◌, ◌&&◌, cond, List, [], ◌∷◌, ◌++◌, length, take, drop, map, filter, refl, sym, ap, ◌∙◌, zero-add, take-append-drop, append-nil, arith}
use Rattle.std.specs.List.{list_any, list_all, range_with_len}
use Rattle.std.proofs.lemmas.List.Elements.{filter-append}
use Rattle.std.proofs.lemmas.List.Folds.{list_any-append, list_all-append}
use Rattle.std.proofs.lemmas.List.FromFn.{filter_of_map_range_with_len_more, take-map-range_with_len}
use Rattle.elf_load.specs.declared.header.ProgramHeader.{ProgramHeader}
use Rattle.elf_load.specs.Elf.{header_at, headers, segments, is_load, table_place, table_count}
use Rattle.elf_load.specs.Boot.{overruns, lies_outside, is_empty}

-- the k-th entry
abbrev pub entry_at : List ℕ → ℕ → ProgramHeader
entry_at bytes k = header_at bytes (table_place bytes + 32 * k)

-- the segments among the first k entries
unfoldable pub segments_up_to : List ℕ → ℕ → List ProgramHeader
segments_up_to bytes k = filter is_load (map (entry_at bytes) (range_with_len 0 k))

pub up_to_none : (bytes : List ℕ) → segments_up_to bytes 0 ≡ []
unfolding segments_up_to
up_to_none bytes = refl

up_to_more : (bytes : List ℕ) (k : ℕ)
    → segments_up_to bytes (k + 1) ≡ segments_up_to bytes k
    ++ cond (is_load (entry_at bytes k)) (entry_at bytes k ∷ []) []
unfolding segments_up_to
up_to_more bytes k = filter_of_map_range_with_len_more is_load (entry_at bytes) 0 k k (zero-add k)

pub up_to_loaded : (bytes : List ℕ) (k : ℕ) (h : ProgramHeader) → h ≡ entry_at bytes k → true ≡ is_load h
    → segments_up_to bytes (k + 1) ≡ segments_up_to bytes k ++ h ∷ []
up_to_loaded bytes k h e loaded =
    rw (e, up_to_more bytes k) (rw (sym (ap is_load e)) (rw (← loaded) refl))

pub up_to_skipped : (bytes : List ℕ) (k : ℕ) (h : ProgramHeader) → h ≡ entry_at bytes k → false ≡ is_load h
    → segments_up_to bytes (k + 1) ≡ segments_up_to bytes k
up_to_skipped bytes k h e skipped =
    rw (up_to_more bytes k) (rw (sym (ap is_load e)) (rw (← skipped) (append-nil (segments_up_to bytes k))))

pub up_to_all : (bytes : List ℕ) (k : ℕ) → k ≡ table_count bytes → segments bytes ≡ segments_up_to bytes k
unfolding segments_up_to segments headers
up_to_all bytes k e = rw e refl

-- the segments of the first k entries come first
up_to_front : (bytes : List ℕ) (k : ℕ) → k ≤ table_count bytes
    → segments bytes ≡ segments_up_to bytes k ++ filter is_load (drop k (headers bytes))
unfolding segments_up_to segments headers
up_to_front bytes k le =
    ap (filter is_load) (sym (take-append-drop k (headers bytes)))
    ∙ filter-append is_load (take k (headers bytes)) (drop k (headers bytes))
    ∙ ap (λ xs. filter is_load xs ++ filter is_load (drop k (headers bytes)))
    (take-map-range_with_len (entry_at bytes) 0 (table_count bytes) k le)

-- what one of the first k entries' segments does, some segment does
pub any_up_to : (bytes : List ℕ) (k : ℕ) (p : ProgramHeader → Bool) → k ≤ table_count bytes
    → list_any p (segments_up_to bytes k) ≡ true → list_any p (segments bytes) ≡ true
any_up_to bytes k p le e =
    rw (up_to_front bytes k le, list_any-append p, e) refl

or_false : (b : Bool) → (b || false) ≡ b
or_false true = refl
or_false false = refl

and_true : (b : Bool) → (b && true) ≡ b
and_true true = refl
and_true false = refl

pub any_push : (p : ProgramHeader → Bool) (xs : List ProgramHeader) (h : ProgramHeader) (b : Bool) → b ≡ p h
    → list_any p (xs ++ h ∷ []) ≡ (list_any p xs || b)
any_push p xs h b e =
    list_any-append p xs (h ∷ []) ∙ ap (λ x. list_any p xs || x) (or_false (p h) ∙ sym e)

pub all_push : (p : ProgramHeader → Bool) (xs : List ProgramHeader) (h : ProgramHeader) (b : Bool) → b ≡ p h
    → list_all p (xs ++ h ∷ []) ≡ (list_all p xs && b)
all_push p xs h b e =
    list_all-append p xs (h ∷ []) ∙ ap (λ x. list_all p xs && x) (and_true (p h) ∙ sym e)

or_true : (b : Bool) → (b || true) ≡ true
or_true true = refl
or_true false = refl

-- what entry k does, where it is loaded, some segment does
pub some_segment : (bytes : List ℕ) (k : ℕ) (p : ProgramHeader → Bool) (h : ProgramHeader) → k < table_count bytes
    → h ≡ entry_at bytes k → true ≡ is_load h → true ≡ p h → list_any p (segments bytes) ≡ true
some_segment bytes k p h lt at loaded does =
    any_up_to bytes (k + 1) p (omega arith)
    (ap (list_any p) (up_to_loaded bytes k h at loaded) ∙ any_push p (segments_up_to bytes k) h true does
    ∙ or_true (list_any p (segments_up_to bytes k)))

is_false : (b c : Bool) → b ≡ c → (true ≡ c → ⊥) → c ≡ false
is_false true c e never = absurd (never e)
is_false false c e never = sym e

-- what no segment does, entry k doesn't, where it is loaded
pub no_segment : (bytes : List ℕ) (k : ℕ) (p : ProgramHeader → Bool) (h : ProgramHeader)
    → list_any p (segments bytes) ≡ false → k < table_count bytes
    → h ≡ entry_at bytes k → true ≡ is_load h → p h ≡ false
no_segment bytes k p h none lt at loaded =
    is_false (p h) (p h) refl (λ does. let some = some_segment bytes k p h lt at loaded does in cc)

-- what was found among the first k entries: no overrun, whether a segment lies outside, and whether all are empty
pub record Found (bytes : List ℕ) (size k : ℕ) (outside empty : Bool) : Type 0 where
  pub no_overrun : list_any (overruns (length bytes)) (segments_up_to bytes k) ≡ false
  pub outside_is : outside ≡ list_any (lies_outside size) (segments_up_to bytes k)
  pub empty_is : empty ≡ list_all is_empty (segments_up_to bytes k)

pub found_none : (bytes : List ℕ) (size : ℕ) → Found bytes size 0 false true
found_none bytes size = record {
  no_overrun = rw (up_to_none bytes) refl;
  outside_is = rw (up_to_none bytes) refl;
  empty_is = rw (up_to_none bytes) refl;
}

pub found_loaded : {bytes : List ℕ} {size k : ℕ} {o e a b : Bool} (h : ProgramHeader)
    → Found bytes size k o e → h ≡ entry_at bytes k → true ≡ is_load h → false ≡ overruns (length bytes) h
    → a ≡ (o || lies_outside size h) → b ≡ (e && is_empty h) → Found bytes size (k + 1) a b
found_loaded {bytes} {size} {k} h found at loaded fits outside empty =
    let more = up_to_loaded bytes k h at loaded in record {
      no_overrun = ap (list_any (overruns (length bytes))) more
          ∙ any_push (overruns (length bytes)) (segments_up_to bytes k) h false fits ∙ rw (found.no_overrun) refl;
      outside_is = outside ∙ ap (λ b. b || lies_outside size h) found.outside_is
          ∙ sym (ap (list_any (lies_outside size)) more ∙ any_push (lies_outside size)
          (segments_up_to bytes k) h _ refl);
      empty_is = empty ∙ ap (λ b. b && is_empty h) found.empty_is
          ∙ sym (ap (list_all is_empty) more ∙ all_push is_empty (segments_up_to bytes k) h _ refl);
    }

pub found_skipped : {bytes : List ℕ} {size k : ℕ} {o e a b : Bool} (h : ProgramHeader)
    → Found bytes size k o e → h ≡ entry_at bytes k → false ≡ is_load h → a ≡ o → b ≡ e
    → Found bytes size (k + 1) a b
found_skipped {bytes} {k = k} h found at skipped outside empty =
    let more = up_to_skipped bytes k h at skipped in record {
      no_overrun = ap (list_any (overruns (length bytes))) more ∙ found.no_overrun;
      outside_is = outside ∙ found.outside_is ∙ sym (ap (list_any _) more);
      empty_is = empty ∙ found.empty_is ∙ sym (ap (list_all _) more);
    }
