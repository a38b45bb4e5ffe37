-- What was read, as bytes.
use Rattle.std.specs.Prelude.{ℕ, List, map, Vec}
use Rattle.std.specs.declared.alloc.Global.{Global}

abbrev pub texts_of : List (Vec ℕ Global) → List (List ℕ)
texts_of files = map (λ file. file.items) files
