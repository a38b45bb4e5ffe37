-- What the options of a run say.
use Rattle.std.specs.Prelude.{◌≤◌}
use Rattle.colo_words.specs.Options.{AreInRange, row_of}
use Rattle.colo_words.specs.declared.options.Options.{Options}

pub ram_there : (o : Options) → AreInRange o → (1 ≤ o.ram) × (o.ram ≤ 64)
unfolding row_of
ram_there o h = h.ram
