-- `image`: a demo image is written.
use Rattle.std.specs.Prelude.{ℕ, List, [], ◌++◌, codes, decimal, length, unwrap_or}
use Rattle.colo_guests.specs.Images.{image}
use Rattle.file_steps.specs.Plans.{Plan, Task, done, offline}
use Rattle.command_plans.specs.OneFile.{one_file}

-- the line of so many bytes
abbrev pub bytes_line : List ℕ → List ℕ
bytes_line bytes = codes "bytes " ++ (decimal (length bytes) ++ codes "\n")

-- the bytes are written
unfoldable pub image_plan : List ℕ → Plan
image_plan bytes = record { steps = one_file bytes; end = done (bytes_line bytes) }

-- the image of this name, to a file
abbrev pub image_task : List ℕ → List ℕ → Task
image_task name out = record {
  reads = [];
  out = out;
  making = offline (λ texts. image_plan (unwrap_or (image name) []));
}
