-- The symbols of a line with an opening end where its last one does.
use Rattle.std.proofs.Common.{◌≡◌, ◌∙◌}
use Rattle.line_settle.proofs.EndLemmas.{length_of_line}
use Rattle.out_compare.proofs.surviving.end_of.Goals as goal

pub returns : goal.returns
returns c = c.end.ensures.value ∙ length_of_line c.args.line.now c.requires
