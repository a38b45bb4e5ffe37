-- How many pages and sectors a guest has.
use Rattle.std.specs.Prelude.{◌≡◌, length}
use Rattle.state_wire.specs.Guest.{Meaning}

-- as many as its kind says
pub record HasCounts (g : Meaning) : Type 0 where
  pub pages : length g.state.pages ≡ g.kind.page_count
  pub sectors : length g.state.sectors ≡ g.kind.sector_count
