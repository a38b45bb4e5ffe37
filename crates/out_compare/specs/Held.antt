-- The fields of the structs `Tables` and `Compare` as records.
use Rattle.std.specs.Prelude.{◌≡◌, Bool, false}
use Rattle.settle_table.specs.Table.{AreUntrimmed}
use Rattle.out_compare.specs.Comparing.{Comparing}
use Rattle.out_compare.specs.declared.tables.Tables.{Tables}

abbrev pub comparing : Tables → Comparing
comparing t = record {
  mine = t.mine;
  theirs = t.theirs;
  numbers = t.numbers;
  unknown = t.unknown.keys;
  progress = t.progress.entries;
  tooks = t.tooks.items;
  restarts = t.restarts.items;
  is_alone = t.is_alone;
}

-- what a comparer holds, and whether it answered that memory ran out
pub record Held : Type 0 where
  pub comparing : Comparing
  pub spent : Bool

abbrev pub holds : Comparing → Held
holds x = record { comparing = x; spent = false }

-- no line is trimmed past its edge
abbrev pub IsInOrder : Comparing → Type 0
IsInOrder x = AreUntrimmed x.mine x.progress

abbrev pub IsSound : Held → Type 0
IsSound h = h.spent ≡ false → IsInOrder h.comparing
