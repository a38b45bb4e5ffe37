-- So many numbers were drawn, and the lines and frames of their turns are there.
use Rattle.std.proofs.Common.{◌≡◌, ◌≤◌, flat_map}
use Rattle.std.specs.List.{count_by}
use Rattle.input_maker.specs.Draws.{drawn, draws}
use Rattle.input_maker.specs.Made.{frames_for, is_client, turn_lines}
use Rattle.input_maker.proofs.making.make_input.Given as goal

abbrev pub invariant-loop : goal.invariant-loop
invariant-loop l = record {
  last : l.x ≡ drawn l.counter l.number;
  lines : l.made.lines.items ≡ flat_map turn_lines (draws l.counter l.number);
  frames : l.made.frames ≡ frames_for l.made.lines.items;
  few : count_by is_client l.made.lines.items ≤ l.counter;
}
