use Rattle.std.proofs.Common.{◌*◌, ◌≤◌, map}
use Rattle.rv_asm.specs.Labels.{place_in}
use Rattle.rv_asm.proofs.ProgramLemmas.{HasRead}
use Rattle.rv_asm.proofs.program.assemble_lines.Given as goal

abbrev pub invariant-loop-index : goal.invariant-loop-index
invariant-loop-index l = record {
  small : l.here ≤ 2 * l.index;
  read : HasRead (place_in l.labels) (map (λ line. line.now) l.lines) l.index l.here l.bytes.items;
}
