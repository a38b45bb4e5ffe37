-- What the comparer of a releasing node stands for in a past of the pair.
use Rattle.pair_theorem.specs.Past.{Past}
use Rattle.settle_history.specs.Standing.{Books}

-- the primary's; from the report of the secondary's stop on it is alone
abbrev pub primary_books : Past → Books
primary_books past = record {
  mine = past.primary.items;
  theirs = past.known_items;
  numbers = past.numbers;
  progress = past.progress;
  is_alone = past.is_reported;
}

-- that of a secondary that survives, from the report of the primary's stop on
abbrev pub survivor_books : Past → Books
survivor_books past = record (primary_books past) { mine = past.secondary.items }
