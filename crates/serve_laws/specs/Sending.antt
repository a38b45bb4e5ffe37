-- What goes out over the link: the bytes of OUT.released, each after it is in the file.
use Rattle.std.specs.Prelude.{◌≡◌, ℕ, IsTrue, List, [], ◌++◌, codes, flat_map, unwrap_or, if◌then◌else◌}
use Rattle.std.specs.Io.{StartsWith}
use Rattle.std.specs.Str.{bytes_eq}
use Rattle.colo_words.specs.declared.options.Options.{Options}
use Rattle.file_steps.specs.Steps.{Carried, IsFront, Outside, Said, Step, append, sent_by}
use Rattle.pair_core.specs.Pair.{Pair}
use Rattle.serve_rounds.specs.Rounds.{serve}

-- what a step adds to OUT.released
abbrev pub released_by : Step → List ℕ
released_by (append end bytes) = if bytes_eq (codes ".released") end then bytes else []
released_by _ = []

-- the steps send what they add to the file: all of it where all are made, and a front of what was
-- added wherever they are cut
pub record SendsReleased (steps : List Step) : Type 0 where
  pub all : flat_map sent_by steps ≡ flat_map released_by steps
  pub fronts : (made rest : List Step) → IsFront steps made rest
      → StartsWith (flat_map released_by made) (flat_map sent_by made)

-- of a run, whatever the link and the clock say
abbrev pub ServeSendsReleased : Type 0
ServeSendsReleased = (o : Options) (w : Pair) (address : List ℕ) (said : Said)
    → SendsReleased (serve o w address said).steps

-- ---- between two moments of the outside

-- the bytes sent are a front of what the file holds
pub record IsInFile (out : List ℕ) (old new : Outside) : Type 0 where
  pub sent : List ℕ
  pub sent_is : new.link.sent ≡ old.link.sent ++ sent
  pub front : StartsWith (unwrap_or (new.shelf.contents (out ++ codes ".released")) []) sent

-- wherever the steps of a run are cut, or where all are made
abbrev pub SentIsInFile : Type 0
SentIsInFile = (o : Options) (w : Pair) (address out : List ℕ) (said heard : Said)
    (made rest : List Step) (old new : Outside)
    → IsFront (serve o w address said).steps made rest → Carried out made heard old new
    → IsTrue old.shelf.observable → IsTrue old.link.observable → IsInFile out old new
