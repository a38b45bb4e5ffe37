-- The segment of one piece of some bytes.
use Rattle.std.specs.Prelude.{ℕ, Bool, List}
use Rattle.settle_rules.specs.Matching.{BothLines}
use Rattle.settle_rules.specs.Pieces.{piece_at}
use Rattle.settle_rules.specs.Release.{Released, data_segment, largest_payload}

abbrev pub piece_segment : BothLines → ℕ → List ℕ → Bool → ℕ → Released
piece_segment b offset bytes ends k = data_segment b offset bytes ends (
  k,
  piece_at largest_payload bytes k,
)
