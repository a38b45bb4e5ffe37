-- A frame that doesn't count changes nothing.
use Rattle.compare_laws.proofs.SegmentLemmas.{ignores_others}
use Rattle.compare_laws.proofs.law.reads_each_segment_once.Goals as goal

pub returns-clause-others : goal.returns-clause-others
returns-clause-others c = ignores_others
