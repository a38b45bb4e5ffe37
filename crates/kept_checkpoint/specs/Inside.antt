-- The fields of the struct `KeptCheckpoint` as a record.
use Rattle.kept_checkpoint.specs.Kept.{IsKept, Kept}
use Rattle.kept_checkpoint.specs.declared.kept.KeptCheckpoint.TheInside.{Inside}

abbrev pub kept_inside : Inside → Kept
kept_inside k = record {
  state = k.state;
  pages = k.pages;
  sectors = k.sectors;
  inbox = k.inbox;
  lines = k.lines;
  numbers = k.numbers;
  last = k.last;
}

abbrev pub IsKeptInside : Inside → Type 0
IsKeptInside k = IsKept (kept_inside k)
