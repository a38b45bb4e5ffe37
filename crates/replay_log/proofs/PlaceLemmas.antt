-- A word that is read at a place is the one that its numbers write.
use Rattle.std.proofs.Common.{◌≡◌, ℕ, ◌+◌, ◌<◌, ◌≤◌, ◌^◌, Bool, true, ◌&&◌, List, [], ◌∷◌, ◌++◌, Option, Some, None, Result, Ok, Err, MatchOption, length, get_or, take, decimal, nat_le, unwrap_or, refl, sym, ap, ◌∙◌, arith, append_assoc, length-append}
use Rattle.std.specs.List.{list_all}
use Rattle.std.proofs.lemmas.Bool.{and_parts, and_from, leb-true, le-leb, true≢false}
use Rattle.std.proofs.lemmas.Slice.Eq.{bytes_eq-Decides}
use Rattle.std.proofs.Math.Seq.{get_or-append_seam}
use Rattle.ascii_text.specs.Cuts.{cut}
use Rattle.ascii_text.specs.Numbers.{decimal_within}
use Rattle.ascii_text.specs.declared.numbers.NumberFault.{NumberFault}
use Rattle.ascii_text.proofs.CutLemmas.{cut_parts}
use Rattle.ascii_text.proofs.DecimalLemmas.{decimal_written, decimal_small}
use Rattle.shared_definitions.specs.Ascii.{slash}
use Rattle.replay_log.specs.Keywords.{keyword_text}
use Rattle.replay_log.specs.Places.{most32, most64, number_count, with_slash, place_word, places_words, is_in_range, are_in_range, is_from, is_number, number_of, before_slash, after_slash, is_opening, is_read, place_numbers, are_read, words_numbers}
use Rattle.replay_log.specs.declared.places.Place.{Place}
use Rattle.replay_log.specs.declared.places.Place.TheVariants.{Word, Number, Opening, SeenFrame}

-- each number of the place fits in 64 bits
abbrev pub is_bounded : Place → Bool
is_bounded (Word keyword) = true
is_bounded (Number low high) = nat_le high most64
is_bounded Opening = true
is_bounded SeenFrame = true

-- what a number's word says
pub record IsNumberOf (low high : ℕ) (word : List ℕ) (n : ℕ) : Type 0 where
  pub from : low ≤ n
  pub to : n ≤ high
  pub written : decimal n ≡ word

number_read_by : (low high : ℕ) (word : List ℕ) (r : Result ℕ NumberFault) → high < 2 ^ 64 →
    decimal_within high word ≡ r → is_from low r ≡ true →
    IsNumberOf low high word (number_of high word)
number_read_by low high word (Ok n) small e h =
    let to = decimal_small high word n e in
    rw e (record { from = leb-true low n h; to = to; written = sym (decimal_written high word n (omega arith) e) })
number_read_by low high word (Err fault) small e h = absurd (true≢false (sym h))

pub number_read : (low high : ℕ) (word : List ℕ) → high < 2 ^ 64 → is_number low high word ≡ true →
    IsNumberOf low high word (number_of high word)
number_read low high word small h = number_read_by low high word (decimal_within high word) small refl h

-- no number is the empty word
empty_number : (low high : ℕ) → is_number low high [] ≡ true → ⊥
empty_number low high h = true≢false (sym h)

-- a word with a slash, from its halves
slash_by : (word : List ℕ) (after : Option (List ℕ)) → (cut slash word).after ≡ after →
    MatchOption after ((cut slash word).before ≡ word) (λ rest. (cut slash word).before ++ (slash ∷ rest) ≡ word) →
    (unwrap_or after [] ≡ [] → ⊥) →
    with_slash (before_slash word) (after_slash word) ≡ word
slash_by word None e parts some = absurd (some refl)
slash_by word (Some rest) e parts some = rw e parts

slash_read : (word : List ℕ) → (after_slash word ≡ [] → ⊥) → with_slash (before_slash word) (after_slash word) ≡ word
slash_read word some = slash_by word (cut slash word).after refl (cut_parts slash word) some

-- what `client/number` says
pub record IsOpeningOf (word : List ℕ) (client number : ℕ) : Type 0 where
  pub client_to : client ≤ most32
  pub number_to : number ≤ most32
  pub written : with_slash (decimal client) (decimal number) ≡ word

pub opening_read : (word : List ℕ) → is_opening word ≡ true →
    IsOpeningOf word (number_of most32 (before_slash word)) (number_of most32 (after_slash word))
opening_read word h =
    let both = and_parts (is_number 0 most32 (before_slash word)) (is_number 0 most32 (after_slash word)) h in
    let client = number_read 0 most32 (before_slash word) (omega arith) both.0 in
    let number = number_read 0 most32 (after_slash word) (omega arith) both.1 in
    record {
      client_to = client.to;
      number_to = number.to;
      written =
          rw (client.written, number.written)
          (slash_read word (λ e. empty_number 0 most32 (sym (ap (λ w. is_number 0 most32 w) e) ∙ both.1)));
    }

empty_opening : is_opening [] ≡ true → ⊥
empty_opening h = true≢false (sym h)

-- ---- numbers in a list, after those of the places before

seam_one : (acc more : List ℕ) (a b : ℕ) → get_or (acc ++ (a ∷ b ∷ more)) (length acc + 1) 0 ≡ b
seam_one acc more a b =
    let split : acc ++ (a ∷ b ∷ more) ≡ (acc ++ (a ∷ [])) ++ (b ∷ more) = sym (append_assoc acc (a ∷ []) (b ∷ more)) in
    let len : length acc + 1 ≡ length (acc ++ (a ∷ [])) = omega (arith, length-append acc (a ∷ [])) in
    rw (split, len) (get_or-append_seam (acc ++ (a ∷ [])) b more 0)

seam_two : (acc more : List ℕ) (a b c : ℕ) → get_or (acc ++ (a ∷ b ∷ c ∷ more)) (length acc + 2) 0 ≡ c
seam_two acc more a b c =
    let split : acc ++ (a ∷ b ∷ c ∷ more) ≡ (acc ++ (a ∷ b ∷ []))
    ++ (c ∷ more) = sym (append_assoc acc (a ∷ b ∷ []) (c ∷ more)) in
    let len : length acc + 2 ≡ length (acc ++ (a ∷ b ∷ [])) = omega (arith, length-append acc (a ∷ b ∷ [])) in
    rw (split, len) (get_or-append_seam (acc ++ (a ∷ b ∷ [])) c more 0)

-- the numbers that were read are in range, and write the word
pub record IsWord (place : Place) (word : List ℕ) (k : ℕ) (numbers : List ℕ) : Type 0 where
  pub range : is_in_range place k numbers ≡ true
  pub written : place_word place k numbers ≡ word

pub place_read : (place : Place) (word acc more : List ℕ) → is_bounded place ≡ true → is_read place word ≡ true →
    IsWord place word (length acc) (acc ++ (place_numbers place word ++ more))
place_read (Word keyword) word acc more b h = record {
  range = refl;
  written = sym ((bytes_eq-Decides word
      (keyword_text keyword)).0 h);
}
place_read (Number low high) word acc more b h =
    let n = number_of high word in
    let r = number_read low high word (omega (arith, leb-true high most64 b)) h in
    let at = get_or-append_seam acc n more 0 in
    record {
      range = rw at (and_from (nat_le low n) (nat_le n high) (le-leb low n r.from) (le-leb n high r.to));
      written = rw at r.written;
    }
place_read Opening word acc more b h =
    let c = number_of most32 (before_slash word) in
    let n = number_of most32 (after_slash word) in
    let r = opening_read word h in
    let zeroth = get_or-append_seam acc c (n ∷ more) 0 in
    let first = seam_one acc more c n in
    record {
      range = rw (zeroth, first) (and_from (nat_le c most32) (nat_le n most32) (le-leb c most32 r.client_to)
          (le-leb n most32 r.number_to));
      written = rw (zeroth, first) r.written;
    }
place_read SeenFrame word acc more b h =
    let i = number_of most64 (before_slash word) in
    let c = number_of most32 (before_slash (after_slash word)) in
    let n = number_of most32 (after_slash (after_slash word)) in
    let both = and_parts (is_number 0 most64 (before_slash word)) (is_opening (after_slash word)) h in
    let index = number_read 0 most64 (before_slash word) (omega arith) both.0 in
    let r = opening_read (after_slash word) both.1 in
    let zeroth = get_or-append_seam acc i (c ∷ n ∷ more) 0 in
    let first = seam_one acc (n ∷ more) i c in
    let second = seam_two acc more i c n in
    let whole = slash_read word (λ e. empty_opening (sym (ap is_opening e) ∙ both.1)) in
    record {
      range =
          rw (zeroth, first, second)
          (and_from (nat_le i most64) (nat_le c most32 && nat_le n most32) (le-leb i most64 index.to)
          (and_from (nat_le c most32) (nat_le n most32) (le-leb c most32 r.client_to) (le-leb n most32 r.number_to)));
      written = rw (zeroth, first, second, index.written, r.written) whole;
    }

length_numbers : (place : Place) (word acc : List ℕ) →
    length (acc ++ place_numbers place word) ≡ length acc + number_count place
length_numbers (Word keyword) word acc = length-append acc []
length_numbers (Number low high) word acc = length-append acc (number_of high word ∷ [])
length_numbers Opening word acc = length-append acc _
length_numbers SeenFrame word acc = length-append acc _

pub record AreWords (places : List Place) (words : List (List ℕ)) (k : ℕ) (numbers : List ℕ) : Type 0 where
  pub range : are_in_range places k numbers ≡ true
  pub written : places_words places k numbers ≡ take (length places) words

pub places_read : (places : List Place) (words : List (List ℕ)) (acc : List ℕ) → list_all is_bounded places ≡ true →
    length places ≤ length words →
    are_read places words ≡ true → AreWords places words (length acc) (acc ++ words_numbers places words)
places_read [] words acc b le h = record { range = refl; written = refl }
places_read (place ∷ places) [] acc b le h = absurd (omega arith)
places_read (place ∷ places) (word ∷ words) acc b le h =
    let bounds = and_parts (is_bounded place) (list_all is_bounded places) b in
    let both = and_parts (is_read place word) (are_read places words) h in
    let here = place_read place word acc (words_numbers places words) bounds.0 both.0 in
    let later = places_read places words (acc ++ place_numbers place word) bounds.1 (omega arith) both.1 in
    let join = append_assoc acc (place_numbers place word) (words_numbers places words) in
    let len = length_numbers place word acc in
    record {
      range =
          and_from (is_in_range place (length acc) (acc ++ (place_numbers place word
          ++ words_numbers places words))) _ here.range
          (rw (← len, ← join) later.range);
      written = rw (here.written, ← len, ← join, later.written) refl;
    }
