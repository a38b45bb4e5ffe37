-- What a text says, or why it is refused: a text is read by a function of its bytes.
use Rattle.std.specs.Prelude.{◌≡◌, ℕ, ◌++◌, codes, decimal, IsTrue, Option, Some, None, Result, Ok, Err}
use Rattle.file_steps.specs.declared.fault.Fault.{Fault}
use Rattle.file_steps.specs.declared.fault.Fault.TheVariants.{Usage, Refused, Read, Write, NoMemory}
use Rattle.file_steps.specs.Plans.{Refusal, is_own}
use Rattle.file_steps.specs.Status.{refusal_of}

-- ---- the refusals, in the order in which what is read is tested

-- an image: the number of the loader's case
abbrev pub image_refusal : ℕ → Refusal
image_refusal number =
    record { status = 2; line = codes "image: " ++ (decimal number ++ codes "\n") }

-- a disk: its length
abbrev pub disk_refusal : ℕ → Refusal
disk_refusal size = record { status = 3; line = codes "disk: " ++ (decimal size ++ codes "\n") }

-- a client stream: where the record begins that is too long or isn't whole
abbrev pub client_refusal : ℕ → Refusal
client_refusal place =
    record { status = 5; line = codes "client: " ++ (decimal place ++ codes "\n") }

-- a text of lines: the number of a line
abbrev pub line_refusal : ℕ → Refusal
line_refusal line = record { status = 4; line = codes "line " ++ (decimal line ++ codes "\n") }

-- a line that is good, and isn't run yet
abbrev pub not_built : Refusal
not_built = record { status = 9; line = codes "not built\n" }

-- ---- one reading after another

-- what a test finds, or else a reading
abbrev pub unless : {A : Type 0} → Option Refusal → Result A Refusal → Result A Refusal
unless None reading = reading
unless (Some refusal) reading = Err refusal

-- a reading that needs the value of the one before it
abbrev pub and_then : {A B : Type 0} → Result A Refusal → (A → Result B Refusal)
    → Result B Refusal
and_then (Ok value) next = next value
and_then (Err refusal) next = Err refusal

-- a reading fails so: it refuses, or memory was refused
abbrev pub IsRefused : {A : Type 0} → Result A Refusal → Fault → Type 0
IsRefused reading Usage = ⊥
IsRefused reading (Refused refusal) =
    (reading ≡ Err (refusal_of refusal)) × IsTrue (is_own refusal.status)
IsRefused reading Read = ⊥
IsRefused reading Write = ⊥
IsRefused reading NoMemory = Unit {0}
