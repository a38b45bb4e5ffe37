-- What is written at the places of a form is read there.
use Rattle.std.proofs.Common.{◌≡◌, ℕ, ◌+◌, ◌%◌, ◌<◌, ◌≤◌, ◌^◌, ◌≢◌, Bool, true, not, ◌&&◌, ◌==◌, List, [], ◌∷◌, ◌++◌, All, Some, length, get_or, drop, decimal, nat_le, unwrap_or, refl, sym, ap, ◌∙◌, arith}
use Rattle.std.specs.List.{list_all}
use Rattle.std.proofs.lemmas.Bool.{and_parts, and_from, leb-true, le-leb, ne_eqb, eq-eqb, not_from_false, true≢false}
use Rattle.std.proofs.lemmas.Fmt.{decimal_by_steps}
use Rattle.std.proofs.lemmas.List.Elements.{All-nil, All-cons}
use Rattle.std.proofs.lemmas.List.Folds.{list_all-append}
use Rattle.std.proofs.lemmas.Slice.Eq.{bytes_eq-Decides}
use Rattle.ascii_text.specs.Cuts.{Halves, cut}
use Rattle.ascii_text.proofs.CutLemmas.{cut_append}
use Rattle.ascii_text.proofs.DecimalLemmas.{decimal_each}
use Rattle.shared_definitions.specs.Ascii.{slash, space, newline}
use Rattle.replay_log.specs.Keywords.{keyword_text}
use Rattle.replay_log.specs.Places.{most32, most64, number_count, with_slash, place_word, places_words, is_in_range, are_in_range, is_number, number_of, before_slash, after_slash, is_opening, fits, is_read, place_numbers, fit_all, are_read, words_numbers}
use Rattle.replay_log.specs.declared.keywords.Keyword.{Keyword}
use Rattle.replay_log.specs.declared.keywords.Keyword.TheVariants as keyword
use Rattle.replay_log.specs.declared.places.Place.{Place}
use Rattle.replay_log.specs.declared.places.Place.TheVariants.{Word, Number, Opening, SeenFrame}
use Rattle.replay_log.proofs.PlaceLemmas.{is_bounded}

-- ---- bytes that don't stand in a word

-- another byte
abbrev pub is_other : ℕ → ℕ → Bool
is_other c byte = not (byte == c)

-- the word has no such byte
abbrev pub is_free : ℕ → List ℕ → Bool
is_free c word = list_all (is_other c) word

other : (c byte : ℕ) → (byte ≡ c → ⊥) → is_other c byte ≡ true
other c byte ne = not_from_false (byte == c) (ne_eqb byte c ne)

pub free_decimal : (c n : ℕ) → c < 48 → n < 2 ^ 64 → is_free c (decimal n) ≡ true
free_decimal c n low small =
    decimal_by_steps (λ m digits. is_free c digits ≡ true)
    (λ m h. and_from (is_other c (48 + m)) true (other c (48 + m) (λ e. omega (arith, low, e))) refl)
    (λ m digits h p. list_all-append (is_other c) digits ((48 + m % 10) ∷ []) ∙
    and_from (is_free c digits) (is_free c ((48 + m % 10) ∷ [])) p
    (and_from (is_other c (48 + m % 10)) true (other c (48 + m % 10) (λ e. omega (arith, low, e))) refl)) n small

pub apart_free : (c : ℕ) (word : List ℕ) → is_free c word ≡ true → All (λ byte. byte ≢ c) word
apart_free c [] h = All-nil (λ byte. byte ≢ c)
apart_free c (byte ∷ word) h =
    let both = and_parts (is_other c byte) (is_free c word) h in
    All-cons (λ b. b ≢ c) byte word (λ e. true≢false (sym both.0 ∙ ap not (eq-eqb byte c e))) (apart_free c word both.1)

free_slashed : (c : ℕ) (front back : List ℕ) → (slash ≡ c → ⊥) → is_free c front ≡ true → is_free c back ≡ true →
    is_free c (with_slash front back) ≡ true
free_slashed c front back ne f g =
    list_all-append (is_other c) front (slash ∷ back) ∙ and_from (is_free c front) (is_free c (slash ∷ back)) f
    (and_from (is_other c slash) (is_free c back) (other c slash ne) g)

-- a keyword has neither
free_keyword : (k : Keyword) → (is_free space (keyword_text k) ≡ true) × (is_free newline (keyword_text k) ≡ true)
free_keyword keyword.Primary = (refl, refl)
free_keyword keyword.Secondary = (refl, refl)
free_keyword keyword.Client = (refl, refl)
free_keyword keyword.ToSecondary = (refl, refl)
free_keyword keyword.ToPrimary = (refl, refl)
free_keyword keyword.Stop = (refl, refl)
free_keyword keyword.OfPrimary = (refl, refl)
free_keyword keyword.OfSecondary = (refl, refl)
free_keyword keyword.Report = (refl, refl)
free_keyword keyword.Ask = (refl, refl)
free_keyword keyword.Answered = (refl, refl)
free_keyword keyword.Absent = (refl, refl)
free_keyword keyword.Arp = (refl, refl)
free_keyword keyword.Drop = (refl, refl)
free_keyword keyword.Full = (refl, refl)
free_keyword keyword.Lost = (refl, refl)
free_keyword keyword.Mark = (refl, refl)
free_keyword keyword.Captured = (refl, refl)
free_keyword keyword.Committed = (refl, refl)
free_keyword keyword.Acknowledged = (refl, refl)
free_keyword keyword.Differ = (refl, refl)
free_keyword keyword.Restart = (refl, refl)
free_keyword keyword.Wait = (refl, refl)
free_keyword keyword.Asked = (refl, refl)
free_keyword keyword.Turn = (refl, refl)

-- ---- one place

-- the numbers of the list that the place takes
abbrev pub picks : Place → ℕ → List ℕ → List ℕ
picks (Word keyword) k ns = []
picks (Number low high) k ns = get_or ns k 0 ∷ []
picks Opening k ns = get_or ns k 0 ∷ get_or ns (k + 1) 0 ∷ []
picks SeenFrame k ns = get_or ns k 0 ∷ get_or ns (k + 1) 0 ∷ get_or ns (k + 2) 0 ∷ []

pub record IsNumberWritten (low high n : ℕ) : Type 0 where
  pub read : is_number low high (decimal n) ≡ true
  pub value : number_of high (decimal n) ≡ n

number_written : (low high n : ℕ) → n < 2 ^ 64 → low ≤ n → n ≤ high → IsNumberWritten low high n
number_written low high n small from to =
    let e = decimal_each high (decimal n) n small to refl in
    record { read = rw e (le-leb low n from); value = rw e refl }

slash_written : (n : ℕ) (back : List ℕ) → n < 2 ^ 64 →
    cut slash (with_slash (decimal n) back) ≡ record { before = decimal n; after = Some back }
slash_written n back small = cut_append slash (decimal n) back (apart_free slash (decimal n) (free_decimal slash n
    (omega arith) small))

pub record IsOpeningWritten (client number : ℕ) : Type 0 where
  pub read : is_opening (with_slash (decimal client) (decimal number)) ≡ true
  pub client_value : number_of most32 (before_slash (with_slash (decimal client) (decimal number))) ≡ client
  pub number_value : number_of most32 (after_slash (with_slash (decimal client) (decimal number))) ≡ number

halves_written : (n : ℕ) (back : List ℕ) → n < 2 ^ 64 →
    (before_slash (with_slash (decimal n) back) ≡ decimal n) × (after_slash (with_slash (decimal n) back) ≡ back)
halves_written n back small =
    let e = slash_written n back small in
    (ap (λ (h : Halves). h.before) e, ap (λ (h : Halves). unwrap_or h.after []) e)

opening_written : (client number : ℕ) → client ≤ most32 → number ≤ most32 → IsOpeningWritten client number
opening_written client number cl nl =
    let e = halves_written client (decimal number) (omega arith) in
    let c = number_written 0 most32 client (omega arith) (omega arith) cl in
    let n = number_written 0 most32 number (omega arith) (omega arith) nl in
    record {
      read = and_from _ _ (ap (λ w. is_number 0 most32 w) e.0 ∙ c.read) (ap (λ w. is_number 0 most32 w) e.1 ∙ n.read);
      client_value = ap (λ w. number_of most32 w) e.0 ∙ c.value;
      number_value = ap (λ w. number_of most32 w) e.1 ∙ n.value;
    }

three : (a b c i j k : ℕ) → a ≡ i → b ≡ j → c ≡ k → (a ∷ b ∷ c ∷ []) ≡ (i ∷ j ∷ k ∷ [])
three a b c i j k p q r = ap (λ x. x ∷ b ∷ c ∷ []) p ∙ (ap (λ x. i ∷ x ∷ c ∷ []) q ∙ ap (λ x. i ∷ j ∷ x ∷ []) r)

pub record IsWritten (place : Place) (k : ℕ) (ns : List ℕ) : Type 0 where
  pub read : is_read place (place_word place k ns) ≡ true
  pub numbers : place_numbers place (place_word place k ns) ≡ picks place k ns
  pub no_space : is_free space (place_word place k ns) ≡ true
  pub no_newline : is_free newline (place_word place k ns) ≡ true

place_written : (place : Place) (k : ℕ) (ns : List ℕ) → is_bounded place ≡ true → is_in_range place k ns ≡ true →
    IsWritten place k ns
place_written (Word keyword) k ns b h = record {
  read = (bytes_eq-Decides (keyword_text keyword) (keyword_text keyword)).1 refl;
  numbers = refl;
  no_space = (free_keyword keyword).0;
  no_newline = (free_keyword keyword).1;
}
place_written (Number low high) k ns b h =
    let n = get_or ns k 0 in
    let both = and_parts (nat_le low n) (nat_le n high) h in
    let small : n < 2 ^ 64 = omega (arith, leb-true n high both.1, leb-true high most64 b) in
    let w = number_written low high n small (leb-true low n both.0) (leb-true n high both.1) in
    record {
      read = w.read;
      numbers = ap (λ (m : ℕ). m ∷ []) w.value;
      no_space = free_decimal space n (omega arith) small;
      no_newline = free_decimal newline n (omega arith) small;
    }
place_written Opening k ns b h =
    let c = get_or ns k 0 in
    let n = get_or ns (k + 1) 0 in
    let both = and_parts (nat_le c most32) (nat_le n most32) h in
    let cl = leb-true c most32 both.0 in
    let nl = leb-true n most32 both.1 in
    let w = opening_written c n cl nl in
    record {
      read = w.read;
      numbers = ap (λ x. x ∷ number_of most32 (after_slash (with_slash (decimal c) (decimal n)))
          ∷ []) w.client_value ∙ ap (λ x. c ∷ x ∷ []) w.number_value;
      no_space = free_slashed space (decimal c) (decimal n) (λ e. omega (arith, e)) (free_decimal space c
          (omega arith) (omega arith)) (free_decimal space n (omega arith) (omega arith));
      no_newline = free_slashed newline (decimal c) (decimal n) (λ e. omega (arith, e)) (free_decimal newline c
          (omega arith) (omega arith)) (free_decimal newline n (omega arith) (omega arith));
    }
place_written SeenFrame k ns b h =
    let i = get_or ns k 0 in
    let c = get_or ns (k + 1) 0 in
    let n = get_or ns (k + 2) 0 in
    let first = and_parts (nat_le i most64) (nat_le c most32 && nat_le n most32) h in
    let both = and_parts (nat_le c most32) (nat_le n most32) first.1 in
    let il = leb-true i most64 first.0 in
    let cl = leb-true c most32 both.0 in
    let nl = leb-true n most32 both.1 in
    let w = opening_written c n cl nl in
    let index = number_written 0 most64 i (omega arith) (omega arith) il in
    let e = halves_written i (with_slash (decimal c) (decimal n)) (omega arith) in
    record {
      read = and_from _ _ (ap (λ x. is_number 0 most64 x) e.0 ∙ index.read) (ap is_opening e.1 ∙ w.read);
      numbers =
          three _ _ _ i c n (ap (λ x. number_of most64 x) e.0 ∙ index.value)
          (ap (λ x. number_of most32 (before_slash x)) e.1 ∙
          w.client_value) (ap (λ x. number_of most32 (after_slash x)) e.1 ∙ w.number_value);
      no_space = free_slashed space (decimal i) (with_slash (decimal c) (decimal n)) (λ s. omega (arith, s))
          (free_decimal space i (omega arith) (omega arith))
          (free_slashed space (decimal c) (decimal n) (λ s. omega (arith, s)) (free_decimal space c (omega arith)
          (omega arith)) (free_decimal space n (omega arith) (omega arith)));
      no_newline = free_slashed newline (decimal i) (with_slash (decimal c) (decimal n)) (λ s. omega (arith, s))
          (free_decimal newline i (omega arith) (omega arith))
          (free_slashed newline (decimal c) (decimal n) (λ s. omega (arith, s)) (free_decimal newline c (omega arith)
          (omega arith)) (free_decimal newline n (omega arith) (omega arith)));
    }

pub fits_read : (place : Place) (word : List ℕ) → is_read place word ≡ true → fits place word ≡ true
fits_read (Word keyword) word h = h
fits_read (Number low high) word h = refl
fits_read Opening word h = refl
fits_read SeenFrame word h = refl

-- ---- places, with more words after theirs

abbrev pub picked : List Place → ℕ → List ℕ → List ℕ
picked [] k ns = []
picked (place ∷ places) k ns = picks place k ns ++ picked places (k + number_count place) ns

pub record AreWritten (places : List Place) (k : ℕ) (ns : List ℕ) (more : List (List ℕ)) : Type 0 where
  pub fit : fit_all places (places_words places k ns ++ more) ≡ true
  pub read : are_read places (places_words places k ns ++ more) ≡ true
  pub numbers : words_numbers places (places_words places k ns ++ more) ≡ picked places k ns
  pub left : drop (length places) (places_words places k ns ++ more) ≡ more
  pub no_space : list_all (is_free space) (places_words places k ns) ≡ true
  pub no_newline : list_all (is_free newline) (places_words places k ns) ≡ true

none_written : (k : ℕ) (ns : List ℕ) (more : List (List ℕ)) → AreWritten [] k ns more
none_written k ns [] = record {
  fit = refl;
  read = refl;
  numbers = refl;
  left = refl;
  no_space = refl;
  no_newline = refl;
}
none_written k ns (w ∷ ws) = record {
  fit = refl;
  read = refl;
  numbers = refl;
  left = refl;
  no_space = refl;
  no_newline = refl;
}

pub places_written : (places : List Place) (k : ℕ) (ns : List ℕ) (more : List (List ℕ)) →
    list_all is_bounded places ≡ true → are_in_range places k ns ≡ true →
    AreWritten places k ns more
places_written [] k ns more b h = none_written k ns more
places_written (place ∷ places) k ns more b h =
    let bounds = and_parts (is_bounded place) (list_all is_bounded places) b in
    let ranges = and_parts (is_in_range place k ns) (are_in_range places (k + number_count place) ns) h in
    let here = place_written place k ns bounds.0 ranges.0 in
    let later = places_written places (k + number_count place) ns more bounds.1 ranges.1 in
    record {
      fit = and_from (fits place (place_word place k ns)) _ (fits_read place
          (place_word place k ns) here.read) later.fit;
      read = and_from (is_read place (place_word place k ns)) _ here.read later.read;
      numbers = rw (here.numbers, later.numbers) refl;
      left = later.left;
      no_space = and_from (is_free space (place_word place k ns)) _ here.no_space later.no_space;
      no_newline = and_from (is_free newline (place_word place k ns)) _ here.no_newline later.no_newline;
    }
