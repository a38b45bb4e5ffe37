-- The commands of the program, and the words that spell them: those that follow the program's name.
use Rattle.std.specs.Prelude.{ℕ, List, [], ◌∷◌, Option, Some, None, codes, is_some, option_and_then, option_map, ◌&&◌, if◌then◌else◌}
use Rattle.std.specs.List.{list_all}
use Rattle.std.specs.Str.{bytes_eq}
use Rattle.colo_guests.specs.Images.{image}
use Rattle.colo_words.specs.Options.{read_options}
use Rattle.colo_words.specs.Words.{is_name}
use Rattle.colo_words.specs.declared.options.Opt.TheVariants.{Ram}
use Rattle.colo_words.specs.declared.options.Options.{Options}

-- what a run is given: an image, a disk, a client stream and the lines of its events or turns, all
-- files that are read; what the written files are named after; and the size of memory in MiB
pub record RunWords : Type 0 where
  pub image : List ℕ
  pub disk : List ℕ
  pub client : List ℕ
  pub lines : List ℕ
  pub out : List ℕ
  pub mib : ℕ

-- `splice LOG SINGLE`: the log that is read, and the file that is written
pub record SpliceWords : Type 0 where
  pub log : List ℕ
  pub out : List ℕ

-- `image NAME OUT`: the name of a demo image, and the file that is written
pub record ImageWords : Type 0 where
  pub name : List ℕ
  pub out : List ℕ

-- a command; `replay IMAGE DISK CLIENT SCHEDULE OUT` and `solo IMAGE DISK CLIENT SINGLE OUT` are
-- runs
pub data Command : Type 0 where
  replay_command : RunWords → Command
  solo_command : RunWords → Command
  splice_command : SpliceWords → Command
  image_command : ImageWords → Command

-- ---- what follows the first word

-- five names, with a size of memory
abbrev pub run_words : List ℕ → List ℕ → List ℕ → List ℕ → List ℕ → ℕ → Option RunWords
run_words image disk client lines out mib =
    if list_all is_name (image ∷ (disk ∷ (client ∷ (lines ∷ (out ∷ [])))))
    then Some (record {
      image = image;
      disk = disk;
      client = client;
      lines = lines;
      out = out;
      mib = mib;
    })
    else None

-- the words of a run, and then `--ram N`, or nothing
abbrev pub read_run : List (List ℕ) → Option RunWords
read_run (image ∷ (disk ∷ (client ∷ (lines ∷ (out ∷ options))))) =
    option_and_then (λ (o : Options). run_words image disk client lines out o.ram)
    (read_options (Ram ∷ []) options)
read_run _ = None

-- two names
abbrev pub read_splice : List (List ℕ) → Option SpliceWords
read_splice (log ∷ (out ∷ [])) =
    if list_all is_name (log ∷ (out ∷ [])) then Some (record { log = log; out = out }) else None
read_splice _ = None

-- the name of a demo image, and a name
abbrev pub read_image : List (List ℕ) → Option ImageWords
read_image (name ∷ (out ∷ [])) =
    if is_some (image name) && is_name out then Some (record { name = name; out = out }) else None
read_image _ = None

-- ---- the words

-- what a first word and the words after it spell
abbrev pub read_verb : List ℕ → List (List ℕ) → Option Command
read_verb verb words =
    if bytes_eq verb (codes "replay") then option_map replay_command (read_run words)
    else (if bytes_eq verb (codes "solo") then option_map solo_command (read_run words)
    else (if bytes_eq verb (codes "splice") then option_map splice_command (read_splice words)
    else (if bytes_eq verb (codes "image") then option_map image_command (read_image words)
    else None)))

-- the command that the words spell; None where they spell none
abbrev pub read_words : List (List ℕ) → Option Command
read_words [] = None
read_words (verb ∷ words) = read_verb verb words
