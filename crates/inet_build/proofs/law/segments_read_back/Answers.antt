use Rattle.inet_build.proofs.SegmentLemmas.{segment_parses, one_segment, segment_is_bytes}
use Rattle.inet_build.proofs.law.segments_read_back.Goals as goal

pub returns-clause-reads : goal.returns-clause-reads
returns-clause-reads c = segment_parses

pub returns-clause-once : goal.returns-clause-once
returns-clause-once c = one_segment

pub returns-clause-bytes : goal.returns-clause-bytes
returns-clause-bytes c = segment_is_bytes
