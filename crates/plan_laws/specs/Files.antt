-- What the files of a command hold once all steps of its plan were carried out, whatever they held
-- before.
use Rattle.std.specs.Prelude.{◌≡◌, ℕ, List, [], ◌++◌, Some, codes}
use Rattle.std.specs.List.{concat}
use Rattle.command_plans.specs.OneFile.{one_file}
use Rattle.command_plans.specs.Solo.{left_steps, solo_files}
use Rattle.file_steps.specs.Steps.{Files, after_steps, creates}
use Rattle.sock_link.specs.Stream.{stream_of}
use Rattle.state_wire.specs.Guest.{GuestState}
use Rattle.state_wire.specs.Run.{Run}

-- memory and disk of a guest in this state: the bytes of all pages, and those of all sectors
pub record HasState (files : Files) (state : GuestState) : Type 0 where
  pub ram : files (codes ".ram") ≡ Some (concat state.pages)
  pub disk : files (codes ".disk") ≡ Some (concat state.sectors)

-- the frames sent, each after its length; memory and disk are those of the last state
pub record HasSingle (files : Files) (run : Run) : Type 0 where
  pub sent : files (codes ".sent") ≡ Some (stream_of run.sent)
  pub state : HasState files run.state

-- ---- that they hold these

abbrev pub SoloLeaves : Type 0
SoloLeaves = (files : Files) (run : Run)
    → HasSingle (after_steps files (creates solo_files ++ left_steps run)) run

-- the one file has the bytes
abbrev pub OneFileLeaves : Type 0
OneFileLeaves = (files : Files) (bytes : List ℕ)
    → after_steps files (one_file bytes) [] ≡ Some bytes
