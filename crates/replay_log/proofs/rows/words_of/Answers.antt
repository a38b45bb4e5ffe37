-- The words are the parts that the split gives.
use Rattle.std.proofs.Common.{◌==◌, rules}
use Rattle.std.proofs.lemmas.Iterator.Consumers.{map_from_collect}
use Rattle.std.proofs.lemmas.Iterator.Splits.{YieldsList-from_slice_split}
use Rattle.shared_definitions.specs.Ascii.{space}
use Rattle.replay_log.specs.Rows.{words_of}
use Rattle.replay_log.proofs.rows.words_of.Goals as goal

pub returns : goal.returns
unfolding words_of
returns c = map_from_collect _ c.collect.ensures.ran (YieldsList-from_slice_split _
    (λ byte. byte == space) c.args.content.now c.split.ensures.rest c.split.ensures.done c.split.ensures.closure
    (search rules))
