-- The options that follow the other words of a command.
use Rattle.std.specs.Prelude.{ℕ, ◌≤◌, Bool, true, false, List, [], ◌∷◌, Option, Some, None, option_and_then, option_map, codes, if◌then◌else◌, ◌&&◌, ◌||◌}
use Rattle.std.specs.List.{list_any}
use Rattle.std.specs.Str.{bytes_eq}
use Rattle.colo_words.specs.Words.{read_number}
use Rattle.colo_words.specs.declared.options.Opt.{Opt}
use Rattle.colo_words.specs.declared.options.Opt.TheVariants.{Ram, Rounds, Every, Steps, Stop}
use Rattle.colo_words.specs.declared.options.Options.{Options}

-- ---- the table of options: the word, the least and the greatest number, and that where it is
-- absent

pub record Row : Type 0 where
  pub word : List ℕ
  pub least : ℕ
  pub most : ℕ
  pub absent : ℕ

abbrev row : List ℕ → ℕ → ℕ → ℕ → Row
row word least most absent = record { word = word; least = least; most = most; absent = absent }

unfoldable pub row_of : Opt → Row
row_of Ram = row (codes "--ram") 1 64 16
row_of Rounds = row (codes "--rounds") 1 4294967295 1000000
row_of Every = row (codes "--every") 0 4294967295 0
row_of Steps = row (codes "--steps") 1 100000 20000
row_of Stop = row (codes "--stop") 0 4294967295 0

-- a number that the option may have
abbrev pub IsInRow : Row → ℕ → Type 0
IsInRow r n = (r.least ≤ n) × (n ≤ r.most)

-- each option has such a number
pub record AreInRange (o : Options) : Type 0 where
  pub ram : IsInRow (row_of Ram) o.ram
  pub rounds : IsInRow (row_of Rounds) o.rounds
  pub every : IsInRow (row_of Every) o.every
  pub steps : IsInRow (row_of Steps) o.steps
  pub stop : IsInRow (row_of Stop) o.stop

-- ---- words that are options

-- the words are pairs, each of which begins with the word of an option that is allowed
abbrev pub are_options : List Opt → List (List ℕ) → Bool
are_options allowed [] = true
are_options allowed (word ∷ []) = false
are_options allowed (word ∷ (number ∷ words)) =
    list_any (λ opt. bytes_eq word (row_of opt).word) allowed && are_options allowed words

-- a pair of the words begins with this word
abbrev pub is_given : List ℕ → List (List ℕ) → Bool
is_given word [] = false
is_given word (first ∷ []) = false
is_given word (first ∷ (number ∷ words)) = bytes_eq first word || is_given word words

-- the number that a word spells for an option, where it isn't given again
unfoldable pub read_last : Row → List ℕ → List (List ℕ) → Option ℕ
read_last r number words =
    if is_given r.word words then None else read_number r.least r.most number

-- the number of an option, which is given at most once
abbrev pub read_one : Row → List (List ℕ) → Option ℕ
read_one r [] = Some r.absent
read_one r (word ∷ []) = None
read_one r (word ∷ (number ∷ words)) =
    if bytes_eq word r.word then read_last r number words else read_one r words

-- all of them
abbrev pub read_each : List (List ℕ) → Option Options
read_each words =
    option_and_then (λ ram. option_and_then (λ rounds. option_and_then (λ every.
    option_and_then (λ steps. option_map (λ stop. record {
      ram = ram;
      rounds = rounds;
      every = every;
      steps = steps;
      stop = stop;
    }) (read_one (row_of Stop) words)) (read_one (row_of Steps) words))
    (read_one (row_of Every) words)) (read_one (row_of Rounds) words))
    (read_one (row_of Ram) words)

-- what the words say, where they are options, each one of the allowed and each at most once
abbrev pub read_options : List Opt → List (List ℕ) → Option Options
read_options allowed words = if are_options allowed words then read_each words else None
