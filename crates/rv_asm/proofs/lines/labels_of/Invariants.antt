use Rattle.std.proofs.Common.{◌≡◌, ◌*◌, ◌≤◌, ℕ, List, map, drop}
use Rattle.std.specs.Option.{option_or}
use Rattle.rv_asm.specs.Labels.{place_in}
use Rattle.rv_asm.specs.Lines.{place_from, place_of}
use Rattle.rv_asm.proofs.lines.labels_of.Given as goal

abbrev pub invariant-loop-index : goal.invariant-loop-index
invariant-loop-index l = record {
  small : l.words ≤ 2 * l.index;
  known : (name : List ℕ) → option_or (place_in l.labels name) (place_from (drop l.index (map
      (λ line. line.now) l.lines)) l.index l.words name) ≡ place_of (map (λ line. line.now) l.lines) name;
}
