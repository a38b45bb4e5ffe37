-- The statuses that the program ends with, and the lines that it prints.
use Rattle.std.specs.Prelude.{ℕ, List, [], ◌++◌, codes, decimal, Option, Some, None}
use Rattle.colo_base.specs.declared.traits.ShelfFault.{ShelfFault}
use Rattle.colo_base.specs.declared.traits.ShelfFault.TheVariants.{Failed, NoMemory as shelf_memory}
use Rattle.file_steps.specs.declared.fault.Fault.{Fault}
use Rattle.file_steps.specs.declared.fault.Fault.TheVariants.{Usage, Refused, Read, Write, NoMemory}
use Rattle.file_steps.specs.declared.fault.Refusal.{Refusal as HeldRefusal}
use Rattle.file_steps.specs.Plans.{Refusal}

-- a space and a number, where there is one
abbrev pub spaced : Option ℕ → List ℕ
spaced None = []
spaced (Some number) = codes " " ++ decimal number

-- a refusal as the code holds it: its line is a text, a space and a number for each that is there,
-- and a newline
abbrev pub refusal_of : HeldRefusal → Refusal
refusal_of r = record {
  status = r.status;
  line = r.head.now ++ (spaced r.first ++ (spaced r.second ++ codes "\n"));
}

abbrev pub fault_status : Fault → ℕ
fault_status Usage = 1
fault_status (Refused refusal) = refusal.status
fault_status Read = 6
fault_status Write = 7
fault_status NoMemory = 8

abbrev pub fault_line : Fault → List ℕ
fault_line Usage = codes "usage\n"
fault_line (Refused refusal) = (refusal_of refusal).line
fault_line Read = codes "read failed\n"
fault_line Write = codes "write failed\n"
fault_line NoMemory = codes "no memory\n"

-- a fault of a fetch as the task's
abbrev pub read_fault : ShelfFault → Fault
read_fault Failed = Read
read_fault shelf_memory = NoMemory

-- a fault of a create or an append as the task's
abbrev pub write_fault : ShelfFault → Fault
write_fault Failed = Write
write_fault shelf_memory = NoMemory
