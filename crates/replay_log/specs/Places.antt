-- What stands at a place of a line: how it is written, and which words it reads.
use Rattle.std.specs.Prelude.{ℕ, ◌+◌, Bool, true, false, ◌&&◌, List, [], ◌∷◌, ◌++◌, Result, Ok, Err, decimal, nat_le, slice_index, unwrap_or}
use Rattle.std.specs.Result.{result_unwrap_or}
use Rattle.std.specs.Str.{bytes_eq}
use Rattle.ascii_text.specs.Cuts.{cut}
use Rattle.ascii_text.specs.Numbers.{decimal_within}
use Rattle.ascii_text.specs.declared.numbers.NumberFault.{NumberFault}
use Rattle.shared_definitions.specs.Ascii.{slash}
use Rattle.replay_log.specs.Keywords.{keyword_text}
use Rattle.replay_log.specs.declared.places.Place.{Place}
use Rattle.replay_log.specs.declared.places.Place.TheVariants.{Word, Number, Opening, SeenFrame}

-- the largest numbers of 32 and of 64 bits
abbrev pub most32 : ℕ
most32 = 4294967295

abbrev pub most64 : ℕ
most64 = 18446744073709551615

-- ---- how a place is written

-- how many numbers stand at it
abbrev pub number_count : Place → ℕ
number_count (Word keyword) = 0
number_count (Number low high) = 1
number_count Opening = 2
number_count SeenFrame = 3

-- two words as one, with a slash between them
abbrev pub with_slash : List ℕ → List ℕ → List ℕ
with_slash front back = front ++ (slash ∷ back)

-- the word, where the numbers are those of the list from index k on
abbrev pub place_word : Place → ℕ → List ℕ → List ℕ
place_word (Word keyword) k numbers = keyword_text keyword
place_word (Number low high) k numbers = decimal (slice_index numbers k)
place_word Opening k numbers = with_slash (decimal (slice_index numbers k)) (decimal
    (slice_index numbers (k + 1)))
place_word SeenFrame k numbers =
    with_slash (decimal (slice_index numbers k)) (with_slash (decimal (slice_index numbers
    (k + 1))) (decimal (slice_index numbers (k + 2))))

-- the words of a line with these places
abbrev pub places_words : List Place → ℕ → List ℕ → List (List ℕ)
places_words [] k numbers = []
places_words (place ∷ places) k numbers = place_word place k numbers
    ∷ places_words places (k + number_count place) numbers

-- whether the numbers are in the place's ranges
abbrev pub is_in_range : Place → ℕ → List ℕ → Bool
is_in_range (Word keyword) k numbers = true
is_in_range (Number low high) k numbers = nat_le low (slice_index numbers k)
    && nat_le (slice_index numbers k) high
is_in_range Opening k numbers = nat_le (slice_index numbers k) most32
    && nat_le (slice_index numbers (k + 1)) most32
is_in_range SeenFrame k numbers =
    nat_le (slice_index numbers k) most64 && (nat_le (slice_index numbers (k + 1)) most32
    && nat_le (slice_index numbers (k + 2)) most32)

abbrev pub are_in_range : List Place → ℕ → List ℕ → Bool
are_in_range [] k numbers = true
are_in_range (place ∷ places) k numbers = is_in_range place k numbers
    && are_in_range places (k + number_count place) numbers

-- ---- which words a place reads

-- whether a number that was read is at least `low`
abbrev pub is_from : ℕ → Result ℕ NumberFault → Bool
is_from low (Ok n) = nat_le low n
is_from low (Err fault) = false

-- a decimal number from `low` to `high`
abbrev pub is_number : ℕ → ℕ → List ℕ → Bool
is_number low high word = is_from low (decimal_within high word)

-- the number of at most `high` that the word is; 0 where it is none
abbrev pub number_of : ℕ → List ℕ → ℕ
number_of high word = result_unwrap_or (decimal_within high word) 0

-- what stands before the first slash, and what after it; nothing where there is no slash
abbrev pub before_slash : List ℕ → List ℕ
before_slash word = (cut slash word).before

abbrev pub after_slash : List ℕ → List ℕ
after_slash word = unwrap_or (cut slash word).after []

-- `client/number`
abbrev pub is_opening : List ℕ → Bool
is_opening word = is_number 0 most32 (before_slash word) && is_number 0 most32 (after_slash word)

-- whether the word may stand at the place if its numbers don't matter
abbrev pub fits : Place → List ℕ → Bool
fits (Word keyword) word = bytes_eq word (keyword_text keyword)
fits (Number low high) word = true
fits Opening word = true
fits SeenFrame word = true

-- whether it may stand there, its numbers being good
abbrev pub is_read : Place → List ℕ → Bool
is_read (Word keyword) word = bytes_eq word (keyword_text keyword)
is_read (Number low high) word = is_number low high word
is_read Opening word = is_opening word
is_read SeenFrame word = is_number 0 most64 (before_slash word) && is_opening (after_slash word)

-- its numbers
abbrev pub place_numbers : Place → List ℕ → List ℕ
place_numbers (Word keyword) word = []
place_numbers (Number low high) word = number_of high word ∷ []
place_numbers Opening word = number_of most32 (before_slash word)
    ∷ number_of most32 (after_slash word) ∷ []
place_numbers SeenFrame word =
    number_of most64 (before_slash word) ∷ number_of most32 (before_slash (after_slash word))
    ∷ number_of most32 (after_slash (after_slash word)) ∷ []

-- ---- places and words side by side, as far as both go

abbrev pub fit_all : List Place → List (List ℕ) → Bool
fit_all [] words = true
fit_all (place ∷ places) [] = true
fit_all (place ∷ places) (word ∷ words) = fits place word && fit_all places words

abbrev pub are_read : List Place → List (List ℕ) → Bool
are_read [] words = true
are_read (place ∷ places) [] = true
are_read (place ∷ places) (word ∷ words) = is_read place word && are_read places words

abbrev pub words_numbers : List Place → List (List ℕ) → List ℕ
words_numbers [] words = []
words_numbers (place ∷ places) [] = []
words_numbers (place ∷ places) (word ∷ words) = place_numbers place word
    ++ words_numbers places words
